use Rattle.std.proofs.Common.{All, ap, arith, length, refl, subst}
use Rattle.qm_frac.specs.Lowest.{IsFrac}
use Rattle.qm_trees.specs.declared.refutation.Refute.{Close}
use Rattle.qm_search.proofs.LeafEnds.{best_end, best_long, void_end}
use Rattle.qm_search.proofs.mixed.end_leaf.Goals as goal

pub leaf_of-requires : goal.leaf_of-requires
leaf_of-requires c =
    let P = c.args.game.now in
    let place = c.requires.place in
    let long = best_long P c.args.bx.now c.args.end c.in-Best.point c.in-Best.value c.in-Best.combo place.box.box c.requires.end.lawful c.in-Best.is in
    omega (arith, long, ap length c.as_slice-values.ensures, place.box.sound.wholes)

pub returns-in-Void : goal.returns-in-Void
returns-in-Void c = λ depth.
    let form = rw c.entries-void_form.ensures.value at c.entries-void_form.ensures.well_formed in
    void_end c.args.game.now c.args.bx.now depth c.args.end c.in-Void.combo (Close c.in-Void.combo) c.requires.place c.requires.end c.in-Void.is form refl

pub returns-in_ok-leaf_of-in-Best : goal.returns-in_ok-leaf_of-in-Best
returns-in_ok-leaf_of-in-Best c = λ depth.
    let form = rw c.entries-best_form.ensures.value at c.entries-best_form.ensures.well_formed in
    let leaf = rw c.as_slice-values.ensures at c.in_ok-leaf_of-in-Best.ensures in
    let fracs = subst (All IsFrac) c.as_slice-values.ensures c.values_are_fractions.ensures in
    best_end c.args.game.now c.args.bx.now depth c.args.end c.in-Best.point c.in-Best.value c.in-Best.combo c.in_ok-leaf_of-in-Best.field-0 (Close c.in-Best.combo)
    c.requires.place c.requires.end c.in-Best.is form fracs c.den-positive.ensures.terms.positive leaf refl
