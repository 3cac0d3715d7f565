use Rattle.std.proofs.Common.{◌≡◌, ◌∙◌, sym, ap, arith, length, get_or, pos, ◌<◌}
use Rattle.qm_model.specs.declared.row.Term.{Term}
use Rattle.qm_model.proofs.BoxLaws.{IsBox-length}
use Rattle.qm_model.proofs.Sizes.{one_le_reach}
use Rattle.qm_model.specs.Sizes.{reach_in_vars}
use Rattle.qm_prop.specs.Courses.{by_term, by_term_in}
use Rattle.qm_prop.proofs.Found.{by_term_in-box, by_term_in-slack, fold-drop}
use Rattle.qm_prop.proofs.LeastValues.{terms-of}
use Rattle.qm_prop.proofs.TermSizes.{coefs-size}
use Rattle.qm_prop.proofs.course.narrow_by_row.Goals as goal

abbrev none : Term
none = record { var = 0; coef = pos 0 }

pub narrow_by_term-requires-clause-range : goal.narrow_by_term-requires-clause-range
narrow_by_term-requires-clause-range c =
    let items = c.as_slice-term-items.ensures.items in
    let below = c.requires.row.vars c.loop-term.term-index none (rw items at c.loop-term-test.true) in
    rw (items, IsBox-length c.args.vars.now c.loop-term.course.bx c.loop-term.invariant.box) below

pub narrow_by_term-requires-clause-some : goal.narrow_by_term-requires-clause-some
narrow_by_term-requires-clause-some c =
    let items = c.as_slice-term-items.ensures.items in
    rw items (terms-of c.args.row.now.terms c.requires.row.ordered c.loop-term.term-index none (rw items at c.loop-term-test.true)).some

pub narrow_by_term-requires-clause-fits : goal.narrow_by_term-requires-clause-fits
narrow_by_term-requires-clause-fits c =
    let items = c.as_slice-term-items.ensures.items in
    let size = coefs-size (reach_in_vars c.args.vars.now) c.args.row.now.terms (one_le_reach c.args.vars.now) c.loop-term.term-index none (rw items at c.loop-term-test.true) in
    rw items (omega (arith, size, c.requires.row.size, c.requires.fits))

pub loop-term-preserved : goal.loop-term-preserved
loop-term-preserved c =
    let items = c.as_slice-term-items.ensures.items in
    let xs = c.args.vars.now in
    let row = c.args.row.now in
    let i = c.loop-term.term-index in
    let s = c.loop-term.course in
    let t = get_or row.terms i none in
    let before = c.loop-term.invariant in
    let within : i < length row.terms = rw items at c.loop-term-test.true in
    let below = c.requires.row.vars i none within in
    let in_box : t.var < length s.bx = rw (IsBox-length xs s.bx before.box) below in
    let ended : c.narrow_by_term.new.course ≡ by_term_in xs c.args.id c.args.slack s t = rw items at c.in_ok-narrow_by_term.ensures in
    let is : by_term_in xs c.args.id c.args.slack s t ≡ by_term xs c.args.id row s t = ap (λ k. by_term_in xs c.args.id k s t) before.slack in
    let kept = by_term_in-slack xs c.args.id c.args.slack row s t (terms-of row.terms c.requires.row.ordered i none within) in_box in
    rw ended
    (record {
      course = rw is (sym (fold-drop (by_term xs c.args.id row) s row.terms i none within) ∙ before.course);
      box = by_term_in-box xs c.args.id c.args.slack s t before.box;
      slack = before.slack ∙ sym kept;
    })
