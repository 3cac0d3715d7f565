use Rattle.std.proofs.Common.{◌∙◌, sym, arith}
use Rattle.std.proofs.lemmas.List.{length-take}
use Rattle.std.proofs.lemmas.Result.{err_from_is_err_and}
use Rattle.qm_model.proofs.BoxLaws.{IsBox-length}
use Rattle.qm_combo.proofs.EmptyTests.{closed_by_range, closed_by_value, value_leaves}
use Rattle.qm_combo.proofs.void.closes_empty.Goals as goal

pub some_universal_empty-requires : goal.some_universal_empty-requires
some_universal_empty-requires c =
    let P = c.args.game.now in
    rw (c.as_slice.ensures, c.as_slice-2.ensures, c.problem-problem.ensures.value)
    (omega (arith, length-take P.wholes P.vars, IsBox-length P.vars c.args.bx.now c.requires))

pub returns-then-some_universal_empty : goal.returns-then-some_universal_empty
returns-then-some_universal_empty c =
    let form = rw c.entries.ensures.value at c.entries.ensures.well_formed in
    let named = rw (c.problem-problem.ensures.value, c.entries.ensures.value) at c.all_uncertain.ensures in
    let some = rw (c.as_slice.ensures, c.as_slice-2.ensures, c.problem-problem.ensures.value) at c.some_universal_empty.ensures in
    closed_by_range c.args.game.now c.args.bx.now c.args.combo.now form (sym c.objective.ensures ∙ c.if-objective.false) (sym named ∙ c.if-not-all_uncertain.false)
    (sym some ∙ c.if-some_universal_empty.true)

pub returns-in_err-value : goal.returns-in_err-value
returns-in_err-value c =
    let form = rw c.entries.ensures.value at c.entries.ensures.well_formed in
    let named = rw (c.problem-problem.ensures.value, c.entries.ensures.value) at c.all_uncertain.ensures in
    let some = rw (c.as_slice.ensures, c.as_slice-2.ensures, c.problem-problem.ensures.value) at c.some_universal_empty.ensures in
    let plain = sym c.objective.ensures ∙ c.if-objective.false in
    let value = rw plain at c.value.ensures in
    let p = err_from_is_err_and c.from_residual.result c.from_residual.ensures.1 in
    rw (p.1, p.2)
    (value_leaves c.args.game.now c.args.bx.now c.args.combo.now form plain (sym named ∙ c.if-not-all_uncertain.false) (sym some ∙ c.if-some_universal_empty.false) _
    (sym value ∙ c.in_err-value.was))

pub returns : goal.returns
returns c =
    let form = rw c.entries.ensures.value at c.entries.ensures.well_formed in
    let named = rw (c.problem-problem.ensures.value, c.entries.ensures.value) at c.all_uncertain.ensures in
    let some = rw (c.as_slice.ensures, c.as_slice-2.ensures, c.problem-problem.ensures.value) at c.some_universal_empty.ensures in
    let plain = sym c.objective.ensures ∙ c.if-objective.false in
    let value = rw plain at c.value.ensures in
    rw c.is_void.ensures
    (closed_by_value c.args.game.now c.args.bx.now c.args.combo.now form plain (sym named ∙ c.if-not-all_uncertain.false) (sym some ∙ c.if-some_universal_empty.false) c.in_ok-value.value
    (sym value ∙ c.in_ok-value.was))
