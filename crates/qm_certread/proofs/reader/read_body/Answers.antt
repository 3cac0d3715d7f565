use Rattle.std.proofs.Common.{◌++◌, ap, sym, subst, ◌∙◌}
use Rattle.std.specs.Prelude.{IfErr}
use Rattle.qm_certfile.specs.CertificateLines.{claimed}
use Rattle.qm_certfile.specs.Styles.{first_style}
use Rattle.qm_certread.specs.declared.said.Claim.{Claim}
use Rattle.qm_certread.specs.declared.said.Claim.TheVariants as claim
use Rattle.qm_certread.specs.Nodes.{Optimal}
use Rattle.qm_certread.specs.NodesOf.{body_nodes}
use Rattle.qm_certread.specs.ReadSteps.{Fails, Meets, body_dues}
use Rattle.qm_certread.specs.SaidSteps.{claim_node}
use Rattle.qm_certfile.specs.declared.certificate.Certificate.TheVariants as ending
use Rattle.qm_certread.proofs.BodyRead.{begin_dues, claimed_twice, infeasible_meets, infeasible_refute_fails, moves_dues, moves_fail, no_play_fails, optimal_meets, optimal_refute_fails, refute_dues}
use Rattle.qm_certread.proofs.TreesRead.{err_out, fails_first}
use Rattle.qm_certread.proofs.reader.read_body.Goals as goal

pub returns-in_err-legal-in-Optimal-clause-err : goal.returns-in_err-legal-in-Optimal-clause-err
returns-in_err-legal-in-Optimal-clause-err c =
    subst (λ (k : Claim). IfErr c.from_residual.result (λ e. Fails c.args.problem.now c.args.text.now (body_dues k) c.args.cursor.now e)) (sym c.in-Optimal.is)
    (err_out (λ e. Fails c.args.problem.now c.args.text.now (body_dues (claim.Optimal c.in-Optimal.value)) c.args.cursor.now e) c.from_residual.result _ c.from_residual.ensures.1
    (fails_first c.args.problem.now c.args.text.now begin_dues (moves_dues ++ refute_dues) c.args.cursor.now _ c.in_err-legal-in-Optimal.ensures.err))

pub returns-in_err-policy-in-Optimal-clause-err : goal.returns-in_err-policy-in-Optimal-clause-err
returns-in_err-policy-in-Optimal-clause-err c =
    subst (λ (k : Claim). IfErr c.from_residual-in_err-policy-in-Optimal.result (λ e. Fails c.args.problem.now c.args.text.now (body_dues k) c.args.cursor.now e)) (sym c.in-Optimal.is)
    (err_out (λ e. Fails c.args.problem.now c.args.text.now (body_dues (claim.Optimal c.in-Optimal.value)) c.args.cursor.now e) c.from_residual-in_err-policy-in-Optimal.result _ c.from_residual-in_err-policy-in-Optimal.ensures.1
    (moves_fail c.args.problem.now c.args.text.now c.in-Optimal.value c.in_ok-legal-in-Optimal.legal c.args.cursor.now c.read_begin.new.cursor _ c.in_ok-legal-in-Optimal.ensures.ok c.in_err-policy-in-Optimal.ensures.err))

pub returns-in_err-refute-in-Optimal-clause-err : goal.returns-in_err-refute-in-Optimal-clause-err
returns-in_err-refute-in-Optimal-clause-err c =
    subst (λ (k : Claim). IfErr c.from_residual-in_err-refute-in-Optimal.result (λ e. Fails c.args.problem.now c.args.text.now (body_dues k) c.args.cursor.now e)) (sym c.in-Optimal.is)
    (err_out (λ e. Fails c.args.problem.now c.args.text.now (body_dues (claim.Optimal c.in-Optimal.value)) c.args.cursor.now e) c.from_residual-in_err-refute-in-Optimal.result _ c.from_residual-in_err-refute-in-Optimal.ensures.1
    (optimal_refute_fails c.args.problem.now c.args.text.now c.in-Optimal.value c.in_ok-legal-in-Optimal.legal c.in_ok-policy-in-Optimal.policy c.args.cursor.now c.read_begin.new.cursor c.read_moves.new.cursor _ c.in_ok-legal-in-Optimal.ensures.ok c.in_ok-policy-in-Optimal.ensures.ok c.in_err-refute-in-Optimal.ensures.err))

pub returns-in_err-legal-in-Infeasible-clause-err : goal.returns-in_err-legal-in-Infeasible-clause-err
returns-in_err-legal-in-Infeasible-clause-err c =
    subst (λ (k : Claim). IfErr c.from_residual-in_err-legal-in-Infeasible.result (λ e. Fails c.args.problem.now c.args.text.now (body_dues k) c.args.cursor.now e)) (sym c.in-Infeasible.is)
    (err_out (λ e. Fails c.args.problem.now c.args.text.now (body_dues claim.Infeasible) c.args.cursor.now e) c.from_residual-in_err-legal-in-Infeasible.result _ c.from_residual-in_err-legal-in-Infeasible.ensures.1
    (fails_first c.args.problem.now c.args.text.now begin_dues refute_dues c.args.cursor.now _ c.in_err-legal-in-Infeasible.ensures.err))

pub returns-in_err-refute-in-Infeasible-clause-err : goal.returns-in_err-refute-in-Infeasible-clause-err
returns-in_err-refute-in-Infeasible-clause-err c =
    subst (λ (k : Claim). IfErr c.from_residual-in_err-refute-in-Infeasible.result (λ e. Fails c.args.problem.now c.args.text.now (body_dues k) c.args.cursor.now e)) (sym c.in-Infeasible.is)
    (err_out (λ e. Fails c.args.problem.now c.args.text.now (body_dues claim.Infeasible) c.args.cursor.now e) c.from_residual-in_err-refute-in-Infeasible.result _ c.from_residual-in_err-refute-in-Infeasible.ensures.1
    (infeasible_refute_fails c.args.problem.now c.args.text.now c.in_ok-legal-in-Infeasible.legal c.args.cursor.now c.read_begin-in-Infeasible.new.cursor _ c.in_ok-legal-in-Infeasible.ensures.ok c.in_err-refute-in-Infeasible.ensures.err))

pub returns-in_err-tree-in-NoPlay-clause-err : goal.returns-in_err-tree-in-NoPlay-clause-err
returns-in_err-tree-in-NoPlay-clause-err c =
    subst (λ (k : Claim). IfErr c.from_residual-in_err-tree-in-NoPlay.result (λ e. Fails c.args.problem.now c.args.text.now (body_dues k) c.args.cursor.now e)) (sym c.in-NoPlay.is)
    (err_out (λ e. Fails c.args.problem.now c.args.text.now (body_dues claim.NoPlay) c.args.cursor.now e) c.from_residual-in_err-tree-in-NoPlay.result _ c.from_residual-in_err-tree-in-NoPlay.ensures.1
    (no_play_fails c.args.problem.now c.args.text.now c.args.cursor.now c.next_version.new.cursor c.next_alone.new.cursor _ c.in_ok-next_version-in-NoPlay.ensures.ok c.in_ok-next_alone-in-NoPlay.ensures.ok c.in_err-tree-in-NoPlay.ensures.err))

pub returns-in_ok-refute-in-Optimal-clause-claim : goal.returns-in_ok-refute-in-Optimal-clause-claim
returns-in_ok-refute-in-Optimal-clause-claim c =
    ap Optimal (ap (claimed c.args.problem.now.sense) c.maximised-value.ensures ∙ claimed_twice c.args.problem.now.sense c.in-Optimal.value) ∙ ap claim_node (sym c.in-Optimal.is)

pub returns-in_ok-refute-in-Optimal-clause-ok : goal.returns-in_ok-refute-in-Optimal-clause-ok
returns-in_ok-refute-in-Optimal-clause-ok c =
    subst (λ (k : Claim). Meets c.args.problem.now c.args.text.now (body_dues k) (body_nodes first_style (ending.Optimal c.maximised-value.result c.in_ok-legal-in-Optimal.legal c.in_ok-policy-in-Optimal.policy c.in_ok-refute-in-Optimal.refute)) c.args.cursor.now c.read_refutation.new.cursor)
    (sym c.in-Optimal.is)
    (optimal_meets c.args.problem.now c.args.text.now c.in-Optimal.value c.maximised-value.result c.in_ok-legal-in-Optimal.legal c.in_ok-policy-in-Optimal.policy c.in_ok-refute-in-Optimal.refute c.args.cursor.now c.read_begin.new.cursor c.read_moves.new.cursor c.read_refutation.new.cursor
    c.in_ok-legal-in-Optimal.ensures.ok c.in_ok-policy-in-Optimal.ensures.ok c.in_ok-refute-in-Optimal.ensures.ok)

pub returns-in_ok-refute-in-Infeasible-clause-ok : goal.returns-in_ok-refute-in-Infeasible-clause-ok
returns-in_ok-refute-in-Infeasible-clause-ok c =
    subst (λ (k : Claim). Meets c.args.problem.now c.args.text.now (body_dues k) (body_nodes first_style (ending.Infeasible c.in_ok-legal-in-Infeasible.legal c.in_ok-refute-in-Infeasible.refute)) c.args.cursor.now c.read_refutation-in-Infeasible.new.cursor)
    (sym c.in-Infeasible.is)
    (infeasible_meets c.args.problem.now c.args.text.now c.in_ok-legal-in-Infeasible.legal c.in_ok-refute-in-Infeasible.refute c.args.cursor.now c.read_begin-in-Infeasible.new.cursor c.read_refutation-in-Infeasible.new.cursor
    c.in_ok-legal-in-Infeasible.ensures.ok c.in_ok-refute-in-Infeasible.ensures.ok)
