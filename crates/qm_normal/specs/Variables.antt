-- The variables of a text, in game order.
use Rattle.std.specs.Prelude.{ℕ, ℤ, Bool, not, ◌||◌, List, [], ◌++◌, filter, map, slice_get, unwrap_or, if◌then◌else◌}
use Rattle.qm_math.specs.Rounding.{ceil_of, floor_of}
use Rattle.qm_model.specs.declared.variable.Player.TheVariants.{Exists, All as Universal}
use Rattle.qm_model.specs.declared.variable.Var.{Var}
use Rattle.qm_parse.specs.declared.ast.Ast.{Ast}
use Rattle.qm_parse.specs.declared.ast.Named.{Named}
use Rattle.qm_parse.specs.Checks.{has_name}
use Rattle.qm_normal.specs.Ends.{is_binary, lower_end, upper_end}

-- the name itself
abbrev pub name_of : Ast → ℕ → List ℕ
name_of ast name = unwrap_or (slice_get ast.names name) []

-- a variable of GENERALS or BINARIES takes whole values alone
abbrev pub is_whole : Ast → ℕ → Bool
is_whole ast name = has_name ast.generals name || is_binary ast name

-- a variable of ALL is set by the universal player
abbrev pub is_universal : Ast → ℕ → Bool
is_universal ast name = has_name ast.universal name

-- the lower bound as a whole number: rounded inwards for a whole variable, and else outwards
abbrev pub low_of : Ast → ℕ → ℤ
low_of ast name = if is_whole ast name then ceil_of (lower_end ast name) else floor_of (lower_end ast name)

-- the same of the upper bound
abbrev pub high_of : Ast → ℕ → ℤ
high_of ast name = if is_whole ast name then floor_of (upper_end ast name) else ceil_of (upper_end ast name)

abbrev pub var_of : Ast → Named → Var
var_of ast named = record {
  name = name_of ast named.name;
  player = if is_universal ast named.name then Universal else Exists;
  whole = is_whole ast named.name;
  low = low_of ast named.name;
  high = high_of ast named.name;
}

abbrev pub whole_names : Ast → List Named
whole_names ast = filter (λ named. is_whole ast named.name) ast.order

abbrev pub continuous_names : Ast → List Named
continuous_names ast = filter (λ named. not (is_whole ast named.name)) ast.order

-- game order: the whole variables in the order of ORDER, then the continuous ones
abbrev pub game_order : Ast → List Named
game_order ast = whole_names ast ++ continuous_names ast

abbrev pub vars_of : Ast → List Var
vars_of ast = map (var_of ast) (game_order ast)
