use Rattle.std.proofs.Common.{List, [], drop, subst}
use Rattle.std.specs.Prelude.{◌↔◌}
use Rattle.std.proofs.lemmas.List.{drop_all}
use Rattle.qm_model.specs.declared.variable.Var.{Var}
use Rattle.qm_trees.specs.Picks.{Fit}
use Rattle.qm_relax.proofs.LastPlaces.{all_used}
use Rattle.qm_relax.proofs.fixed.fits.Goals as goal

pub returns : goal.returns
returns c =
    let xs = c.args.vars.now in
    let ranges = drop c.loop-at.at c.args.ranges.now in
    let left = drop c.loop-at.used c.args.values.now in
    let used = all_used ranges c.args.values.now c.loop-at.used c.loop-at.invariant.within in
    let rest : Fit [] ranges left ↔ Fit xs c.args.ranges.now c.args.values.now =
    subst (λ (ys : List Var). Fit ys ranges left ↔ Fit xs c.args.ranges.now c.args.values.now) (drop_all c.loop-at.at xs c.loop-at-test.false) c.loop-at.invariant.rest in
    (λ h. rest.0 (used.0 h), λ h. used.1 (rest.1 h))
