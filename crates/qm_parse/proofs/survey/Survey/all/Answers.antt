use Rattle.qm_parse.proofs.SurveySteps.{Adds-uses}
use Rattle.qm_parse.proofs.survey.Survey.all.Goals as goal

pub returns : goal.returns
returns c =
    Adds-uses c.args.ast.now c.args.order.now c.args.self.now c.terms.new.self c.rows.new.self c.rows-2.new.self c.bounds.new.self c.names.new.self c.names-2.new.self c.names-3.new.self c.names-4.new.self
    (rw c.as_slice.ensures at c.in_ok-terms.ensures) (rw c.as_slice-2.ensures at c.in_ok-rows.ensures) (rw c.as_slice-3.ensures at c.in_ok-rows-2.ensures)
    (rw c.as_slice-4.ensures at c.in_ok-bounds.ensures) (rw c.as_slice-5.ensures at c.in_ok-names.ensures) (rw c.as_slice-6.ensures at c.in_ok-names-2.ensures)
    (rw c.as_slice-7.ensures at c.in_ok-names-3.ensures) (rw c.as_slice-8.ensures at c.in_ok-names-4.ensures)
