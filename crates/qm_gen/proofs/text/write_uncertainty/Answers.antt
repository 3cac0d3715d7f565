use Rattle.std.proofs.Common.{◌≢◌, ℕ, ◌+◌, ◌/◌, List, [], ◌++◌, length, eqb, ap, sym, ◌∙◌}
use Rattle.std.proofs.lemmas.Bool.{false≢true}
use Rattle.std.proofs.lemmas.Result.{on_ok_weaker}
use Rattle.qm_gen.specs.declared.term.Term.{Term}
use Rattle.qm_gen.specs.Generated.{rows_of}
use Rattle.qm_gen.specs.WritingSteps.{rows_text}
use Rattle.qm_gen.proofs.Appended.{uncertain_wrote}
use Rattle.qm_gen.proofs.text.write_uncertainty.Goals as goal

pub returns : goal.returns
returns c =
    let right = (length c.args.universal.now + 1) / 2 in
    let some : c.args.universal.now ≢ [] = λ none. false≢true (sym c.if-is_empty.false ∙ c.is_empty.ensures ∙ ap (λ (us : List ℕ). eqb (length us) 0) none) in
    let terms = c.as_slice.ensures ∙ c.in_ok-terms.ensures in
    on_ok_weaker c.write_row.result
    (λ e. uncertain_wrote c.args.out.now c.append.new.self c.write_row.new.out c.args.universal.now right some c.in_ok-append.ensures.ok (e ∙ ap (λ (ts : List Term). c.append.new.self ++ rows_text (rows_of ts right)) terms))
    c.write_row.ensures
