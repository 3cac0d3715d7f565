use Rattle.std.proofs.Common.{◌≡◌, ◌≤◌, ◌+◌, ◌-◌, ℕ, drop, take, arith, sym, subst}
use Rattle.std.proofs.lemmas.List.{drop-take}
use Rattle.qm_model.specs.declared.game.Problem.{Problem}
use Rattle.qm_model.specs.Plays.{whole_vars}
use Rattle.qm_game.proofs.place.Place.at.Goals as goal

wholes_from : (P : Problem) (depth : ℕ) → depth ≤ P.wholes → take (P.wholes - depth) (drop depth P.vars) ≡ drop depth (whole_vars P)
wholes_from P depth within =
    let all : depth + (P.wholes - depth) ≡ P.wholes = omega arith in
    sym (subst (λ wholes. drop depth (take wholes P.vars) ≡ take (P.wholes - depth) (drop depth P.vars)) all (drop-take depth (P.wholes - depth) P.vars))

pub invariant_of-result : goal.invariant_of-result
invariant_of-result c = record {
  from_depth = rw (c.as_slice.ensures, c.problem-problem.ensures.value) (wholes_from c.args.game.now c.args.depth c.requires);
}
