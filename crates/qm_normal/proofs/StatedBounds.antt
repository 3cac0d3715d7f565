-- The problem that a text states is in order, and the bounds of its variables are near 0.
use Rattle.std.proofs.Common.{◌≡◌, cond, ◌≤◌, ◌^◌, Bool, true, false, not, List, get_or, refl, subst, unsigned_abs, ℕ, Option, Some, None}
use Rattle.std.specs.Prelude.{All}
use Rattle.std.proofs.lemmas.List.Elements.{All-append, All-filter, All-map}
use Rattle.qm_model.specs.declared.game.Problem.{Problem}
use Rattle.qm_model.specs.declared.variable.Var.{Var}
use Rattle.qm_model.specs.Sound.{IsSound}
use Rattle.qm_parse.specs.declared.ast.Ast.{Ast}
use Rattle.qm_parse.specs.declared.ast.Named.{Named}
use Rattle.qm_normal.specs.declared.fault.NormalFault.{NormalFault}
use Rattle.qm_normal.specs.Limits.{domain_fault, fits_domain, large_domain, variables_fault}
use Rattle.qm_normal.specs.Stated.{States}
use Rattle.qm_normal.specs.Variables.{continuous_names, game_order, is_whole, var_of, vars_of, whole_names}
use Rattle.qm_normal.proofs.NearEnds.{near_high, near_low}
use Rattle.qm_normal.proofs.NormalSound.{normal-sound}
use Rattle.qm_normal.proofs.NormalSteps.{normal_parts}
use Rattle.qm_normal.proofs.NormalVars.{none_such}
use Rattle.qm_normal.proofs.ParsedTexts.{parsed_proper}

pub stated_sound : (text : List ℕ) (P : Problem) → States text P → IsSound P
stated_sound text P states = normal-sound states.ast P (parsed_proper text states.tokens states.ast states.parsed) states.normal

-- both bounds are at most 2 ^ 50 away from 0
abbrev IsNear : Var → Type 0
IsNear x = (unsigned_abs x.low ≤ 2 ^ 50) × (unsigned_abs x.high ≤ 2 ^ 50)

not_false : (b : Bool) → not b ≡ false → b ≡ true
not_false true e = refl
not_false false e = absurd (cc)

near_var : (x : Var) → not (fits_domain x) ≡ false → IsNear x
near_var x fits = (near_low x.whole x.low x.high (not_false (fits_domain x) fits), near_high x.whole x.low x.high (not_false (fits_domain x) fits))

none_told : (ast : Ast) (found : Option Named) → domain_fault ast found ≡ None → found ≡ None
unfolding domain_fault
none_told ast None h = refl
none_told ast (Some named) h = absurd (cc)

no_fault : (b : Bool) (rest : Option NormalFault) (many : NormalFault) → cond b rest (Some many) ≡ None → rest ≡ None
no_fault true rest many h = h
no_fault false rest many h = absurd (cc)

vars_near : (ast : Ast) → variables_fault ast ≡ None → All IsNear (vars_of ast)
vars_near ast h =
    let Fits : Named → Type 0 = λ named. not (fits_domain (var_of ast named)) ≡ false in
    let none = none_such (λ named. not (fits_domain (var_of ast named))) ast.order (none_told ast (large_domain ast) (no_fault _ _ _ h)) in
    let wholes : All Fits (whole_names ast) = All-filter (λ (named : Named). is_whole ast named.name) Fits ast.order none in
    let others : All Fits (continuous_names ast) = All-filter (λ (named : Named). not (is_whole ast named.name)) Fits ast.order none in
    let all : All Fits (game_order ast) = All-append Fits (whole_names ast) (continuous_names ast) wholes others in
    All-map IsNear (var_of ast) (game_order ast) (λ k d inside. near_var (var_of ast (get_or (game_order ast) k d)) (all k d inside))

pub stated_near : (text : List ℕ) (P : Problem) → States text P → All IsNear P.vars
stated_near text P states =
    let parts = normal_parts states.ast P states.normal in
    subst (λ (Q : Problem). All IsNear Q.vars) parts.problem (vars_near states.ast parts.in_limits)
