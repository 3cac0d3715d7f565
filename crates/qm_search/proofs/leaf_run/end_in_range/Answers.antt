use Rattle.std.proofs.Common.{subst, ℕ, List}
use Rattle.qm_math.specs.Fraction.{Fraction}
use Rattle.qm_model.proofs.BoxLaws.{IsBox-length}
use Rattle.qm_simplex.specs.declared.answers.LpEnd.TheVariants.{Best}
use Rattle.qm_simplex.specs.LeafRuns.{evaluated}
use Rattle.qm_search.specs.LeafSteps.{Tells}
use Rattle.qm_search.proofs.LeafRows.{told_of_best}
use Rattle.qm_search.proofs.leaf_run.end_in_range.Goals as goal

pub best_in_range-requires-clause-ranges : goal.best_in_range-requires-clause-ranges
best_in_range-requires-clause-ranges c = IsBox-length c.args.game.now.vars c.args.bx.now c.requires.bx

pub returns-in-Best : goal.returns-in-Best
returns-in-Best c =
    let P = c.args.game.now in
    let bx = c.args.bx.now in
    let combo = c.in-Best.combo in
    let told = subst (λ (point : List Fraction). (v : Fraction) (n : ℕ) → Tells (evaluated P bx (Best point v combo n)) c.best_in_range.result) c.as_slice.ensures c.best_in_range.ensures in
    told_of_best P bx c.args.end.now c.in-Best.point combo c.best_in_range.result c.in-Best.is told
