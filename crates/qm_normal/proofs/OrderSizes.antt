-- How many names game order holds.
use Rattle.std.proofs.Common.{◌≡◌, ◌<◌, ◌^◌, List, length, ap, ◌∙◌, arith, subst, sym}
use Rattle.std.specs.Prelude.{None}
use Rattle.std.proofs.lemmas.List.{length-map}
use Rattle.qm_parse.specs.declared.ast.Ast.{Ast}
use Rattle.qm_parse.specs.declared.ast.Named.{Named}
use Rattle.qm_parse.specs.Checks.{name_fault}
use Rattle.qm_normal.specs.Limits.{variables_fault}
use Rattle.qm_normal.specs.PlaceSteps.{AreApart}
use Rattle.qm_normal.specs.Variables.{game_order, var_of, vars_of}
use Rattle.qm_parse.proofs.NameLaws.{NamesRight-from_None}
use Rattle.qm_normal.proofs.NormalVars.{few_vars}
use Rattle.qm_normal.proofs.ValuesNamed.{game_order_once}

length_same : (ast : Ast) (order : List Named) → order ≡ game_order ast → length (vars_of ast) ≡ length order
length_same ast order is = length-map (game_order ast) (var_of ast) ∙ ap (length {A = Named}) (sym is)

pub few_names : (ast : Ast) (order : List Named) → variables_fault ast ≡ None → order ≡ game_order ast → length order < 2 ^ 29
few_names ast order none is = let few = few_vars ast none in let same = length_same ast order is in omega arith

pub order_apart : (ast : Ast) (order : List Named) → name_fault ast ≡ None → order ≡ game_order ast → AreApart order
order_apart ast order right is = subst AreApart (sym is) (game_order_once ast (NamesRight-from_None ast right))
