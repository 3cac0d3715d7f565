-- All that a certificate is made of that passes is of its type.
use Rattle.std.proofs.Common.{◌≡◌, ◌++◌, List, map, ℤ}
use Rattle.std.proofs.lemmas.List.Elements.{All-filter, All-take}
use Rattle.qm_model.specs.declared.game.Problem.{Problem}
use Rattle.qm_model.specs.declared.variable.Var.{Var}
use Rattle.qm_model.specs.Boxes.{bounds_of, whole_box_of}
use Rattle.qm_model.specs.Goals.{Any, Above}
use Rattle.qm_model.specs.Plays.{IsPlay, is_universal, universal_vars, whole_vars}
use Rattle.qm_model.specs.Sound.{IsSound}
use Rattle.qm_certfile.specs.declared.certificate.Certificate.{Certificate}
use Rattle.qm_certfile.specs.declared.certificate.Certificate.TheVariants.{Optimal, Infeasible, Empty}
use Rattle.qm_certfile.specs.CertificateLines.{certificate_text}
use Rattle.qm_certfile.specs.Passes.{Passes}
use Rattle.qm_certfile.specs.WellFormed.{AreOfType, HasNearBounds, IsNear, IsWellFormed, Whole, policy_pieces, refute_pieces}
use Rattle.qm_certfile.proofs.Bounds.{certificate_bound}
use Rattle.qm_certfile.proofs.DifferentTexts.{certificate_told}
use Rattle.qm_certfile.proofs.NearRanges.{near_box, within_whole}
use Rattle.qm_certfile.proofs.Pieces.{joined_of_type, wholes_of_type}
use Rattle.qm_certfile.proofs.RightPieces.{empty_of_type, few_wholes, policy_of_type, refute_of_type}

module _ (P : Problem) (sound : IsSound P) (near : HasNearBounds P) where
  play_of_type : (us : List ℤ) → IsPlay P us → AreOfType (map Whole us)
  play_of_type us play =
      let IsNearVar : Var → Type 0 = λ x. IsNear (bounds_of x) in
      let wholes = All-take IsNearVar P.wholes P.vars near in
      wholes_of_type us (within_whole (universal_vars P) us (All-filter is_universal IsNearVar (whole_vars P) wholes) play.within)

  pub passing_of_type : (certificate : Certificate) → Passes P certificate → IsWellFormed certificate
  passing_of_type (Optimal value legal policy refute) passes =
      let box = near_box P.vars near in
      let shown = joined_of_type (policy_pieces policy) (refute_pieces refute)
      (policy_of_type P sound value (whole_vars P) 0 (whole_box_of P.vars) policy box passes.2) (refute_of_type P sound (Above value) (whole_vars P) 0 (whole_box_of P.vars) refute box passes.4.0) in
      (passes.0, joined_of_type (map Whole legal) (policy_pieces policy ++ refute_pieces refute) (play_of_type legal passes.1) shown)
  passing_of_type (Infeasible legal refute) passes =
      joined_of_type (map Whole legal) (refute_pieces refute) (play_of_type legal passes.0)
      (refute_of_type P sound Any (whole_vars P) 0 (whole_box_of P.vars) refute (near_box P.vars near) passes.1.0)
  passing_of_type (Empty tree) passes = empty_of_type P sound (whole_vars P) 0 (whole_box_of P.vars) tree (few_wholes P sound) (near_box P.vars near) passes.0

  -- two certificates that pass and have one text are the same
  pub one_passing : (c d : Certificate) → Passes P c → Passes P d → certificate_text P c ≡ certificate_text P d → c ≡ d
  one_passing c d passes other same = certificate_told P c d (certificate_bound c (passing_of_type c passes)) (certificate_bound d (passing_of_type d other)) same
