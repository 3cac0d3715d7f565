use Rattle.std.proofs.Common.{◌∙◌, arith}
use Rattle.std.proofs.lemmas.Int.{to_z-of_z}
use mir.Syntax.{w128}
use mir.Val.{SFits}
use Rattle.qm_combo.proofs.Coefficients.{coefficient_found, coefficient_passed, coefficient_at_end, later_at}
use Rattle.qm_combo.proofs.terms.coefficient_of.Goals as goal
use Rattle.qm_combo.proofs.terms.coefficient_of.Goals.{else-at-terms-via-then-at-terms+else-terms-at, else-at-terms-via-else-at-terms}

pub returns-then-terms-at : goal.returns-then-terms-at
returns-then-terms-at c =
    let fits : SFits w128 c.number_of.result = record { sfits = c.number_of.type_inv } in
    to_z-of_z w128 c.number_of.result fits
    ∙ c.number_of.ensures
    ∙ coefficient_found c.args.terms.now c.place_of-at.result c.args.var c.if-at-terms.true c.requires c.if-terms-at.true c.place_of-at.ensures.before

pub returns : goal.returns
returns c =
    let ts = c.args.terms.now in
    let at = c.place_of-at.result in
    elim c.else-at-terms.branch [
      | else-at-terms-via-then-at-terms+else-terms-at w ↦
          let behind = (later_at ts at c.args.var w.if-at-terms.true).0 c.place_of-at.ensures.behind in
          coefficient_passed ts at c.args.var w.if-at-terms.true c.requires (grind (arith, behind, w.if-terms-at.false)) c.place_of-at.ensures.before
      | else-at-terms-via-else-at-terms w ↦ coefficient_at_end ts at c.args.var w.if-at-terms.false c.place_of-at.ensures.before
    ]
