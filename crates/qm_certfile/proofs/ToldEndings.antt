-- What a certificate that passes tells of its problem.
use Rattle.std.proofs.Common.{refl, subst, List, [], ℤ, arith}
use Rattle.std.proofs.lemmas.List.{take-append-drop}
use Rattle.qm_model.specs.declared.game.Problem.{Problem}
use Rattle.qm_model.specs.Boxes.{whole_box_of}
use Rattle.qm_model.specs.Endings.{HasEnding}
use Rattle.qm_model.specs.Goals.{Goal, Any, Above, IsProper}
use Rattle.qm_model.specs.Legal.{IsLegal}
use Rattle.qm_model.specs.Plays.{IsPlay, whole_vars}
use Rattle.qm_model.specs.Points.{continuous_vars}
use Rattle.qm_model.specs.Sound.{IsSound}
use Rattle.qm_model.specs.Wins.{Wins}
use Rattle.qm_model.proofs.Legality.{legal_of_play}
use Rattle.qm_model.proofs.LegalMoves.{universal_part-none}
use Rattle.qm_trees.specs.declared.refutation.Refute.{Refute}
use Rattle.qm_trees.specs.Cuts.{HoldCuts}
use Rattle.qm_trees.specs.Picks.{Fit}
use Rattle.qm_trees.proofs.EmptySound.{no_play}
use Rattle.qm_trees.proofs.PickedPlays.{within_fits}
use Rattle.qm_trees.proofs.PolicyReaches.{right_reaches, right_wins}
use Rattle.qm_trees.proofs.RefutationsRefuse.{right_refuses}
use Rattle.qm_certfile.specs.declared.certificate.Certificate.{Certificate}
use Rattle.qm_certfile.specs.declared.certificate.Certificate.TheVariants.{Optimal, Infeasible, Empty}
use Rattle.qm_certfile.specs.Passes.{AnswersPlay, Passes, RefutesWhole, ending_of}

empty_is_legal : (P : Problem) (us : List ℤ) → IsPlay P us → IsLegal P []
empty_is_legal P us play = legal_of_play P [] (record { rest = us; is_play = rw (universal_part-none (whole_vars P)) play })

no_cuts : (P : Problem) → HoldCuts P []
no_cuts P = λ prefix y is_prefix complete legal meets k d h. absurd (omega arith)

refused : (P : Problem) (us : List ℤ) (G : Goal) (tree : Refute) → IsSound P → IsPlay P us → IsProper G → RefutesWhole P G tree → Wins P [] G → ⊥
refused P us G tree sound play proper whole wins =
    right_refuses P [] [] G 0 (whole_box_of P.vars) tree [] sound proper (no_cuts P) whole.0 refl tt tt refl (empty_is_legal P us play) wins

-- each play has its values in the whole box
whole_fits : (P : Problem) (us : List ℤ) → IsPlay P us → Fit (whole_vars P) (whole_box_of P.vars) us
whole_fits P us play =
    subst (λ xs. Fit (whole_vars P) (whole_box_of xs) us) (take-append-drop P.wholes P.vars) (within_fits (whole_vars P) (continuous_vars P) us play.within)

pub told_ending : (P : Problem) (certificate : Certificate) → IsSound P → Passes P certificate → HasEnding P (ending_of certificate)
told_ending P (Optimal value legal policy refute) sound passes = record {
  positive = passes.0.positive;
  play = legal;
  is_play = passes.1;
  reached = right_wins P sound value policy passes.2;
  no_better = refused P legal (Above value) refute sound passes.1 passes.0.positive passes.4;
}
told_ending P (Infeasible legal refute) sound passes = record {
  play = legal;
  is_play = passes.0;
  loses = refused P legal Any refute sound passes.0 tt passes.1;
}
told_ending P (Empty tree) sound passes = λ us play. no_play P (whole_box_of P.vars) tree us sound play (whole_fits P us play) passes.0

pub answered : (P : Problem) (certificate : Certificate) (us : List ℤ) → IsSound P → Passes P certificate → IsPlay P us → AnswersPlay P us certificate
answered P (Optimal value legal policy refute) us sound passes play = right_reaches P sound value policy us passes.2 play
answered P (Infeasible legal refute) us sound passes play = tt
answered P (Empty tree) us sound passes play = tt
