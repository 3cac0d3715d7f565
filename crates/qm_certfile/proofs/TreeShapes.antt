-- The lines of a tree, by its first node.
use Rattle.std.proofs.Common.{◌≡◌, ℕ, ◌+◌, ℤ, List, [], ◌∷◌, ◌++◌, length, map, sym, ap, ◌∙◌}
use Rattle.std.specs.Prelude.{codes}
use Rattle.std.specs.Fmt.{decimal, signed_decimal}
use Rattle.std.proofs.lemmas.List.{length-map}
use Rattle.qm_trees.specs.declared.empty.Empty.TheVariants.{Split, rolls-Split}
use Rattle.qm_trees.specs.declared.empty.Empty.TheOpen as none
use Rattle.qm_trees.specs.declared.empty.Empty.TheFolds.{fold-roll-Empty}
use Rattle.qm_trees.specs.declared.empty.EmptyPart.{EmptyPart}
use Rattle.qm_trees.specs.declared.policy.Policy.{Policy}
use Rattle.qm_trees.specs.declared.policy.Policy.TheVariants.{Answer, rolls-Answer}
use Rattle.qm_trees.specs.declared.policy.Below.TheOpen as answer
use Rattle.qm_trees.specs.declared.policy.Below.TheFolds.{fold-roll-Below, fold-roll-Policy}
use Rattle.qm_trees.specs.declared.policy.PolicyPart.{PolicyPart}
use Rattle.qm_trees.specs.declared.policy.Below.TheVariants.{On, rolls-On}
use Rattle.qm_trees.specs.declared.refutation.Refute.{Refute}
use Rattle.qm_trees.specs.declared.refutation.Refute.TheVariants.{Over, Pick, rolls-Over, rolls-Pick}
use Rattle.qm_trees.specs.declared.refutation.Refute.TheOpen as why
use Rattle.qm_trees.specs.declared.refutation.Refute.TheFolds.{fold-roll-Refute}
use Rattle.qm_trees.specs.declared.refutation.RefutePart.{RefutePart}
use Rattle.qm_certfile.specs.Styles.{Style}
use Rattle.qm_certfile.specs.TreeLines.{Lines, joined, empty_step, empty_part_step, empty_lines, empty_part_lines, below_step, below_lines, policy_step, policy_part_step, policy_lines, policy_part_lines, refute_step, refute_part_step, refute_lines, refute_part_lines}

module _ (style : Style) where
  pub answer_lines : (parts : List PolicyPart) (place : ℕ)
      → policy_lines style (Answer parts) place ≡ (codes "answer" ∷ style.variable place ++ decimal (length parts) ∷ []) ∷ joined (map (policy_part_lines style) parts) (place + 1)
  answer_lines parts place =
      ap (λ t. policy_lines style t place) (sym (rolls-Answer parts))
      ∙ ap (λ (f : Lines). f place) (fold-roll-Policy Lines Lines Lines (below_step style) (policy_step style) policy_part_step (answer.Answer parts))
      ∙ ap (λ n. (codes "answer" ∷ style.variable place ++ decimal n ∷ []) ∷ joined (map (policy_part_lines style) parts) (place + 1)) (length-map parts (policy_part_lines style))

  pub on_lines : (policy : Policy) (place : ℕ) → below_lines style (On policy) place ≡ policy_lines style policy place
  on_lines policy place =
      ap (λ b. below_lines style b place) (sym (rolls-On policy))
      ∙ ap (λ (f : Lines). f place) (fold-roll-Below Lines Lines Lines (below_step style) (policy_step style) policy_part_step (answer.On policy))

  pub split_lines : (var : ℕ) (parts : List EmptyPart) (place : ℕ)
      → empty_lines style (Split var parts) place ≡ (codes "split" ∷ style.split_variable var ∷ decimal (length parts) ∷ []) ∷ joined (map (empty_part_lines style) parts) place
  split_lines var parts place =
      ap (λ t. empty_lines style t place) (sym (rolls-Split var parts))
      ∙ ap (λ (f : Lines). f place) (fold-roll-Empty Lines Lines (empty_step style) empty_part_step (none.Split var parts))
      ∙ ap (λ n. (codes "split" ∷ style.split_variable var ∷ decimal n ∷ []) ∷ joined (map (empty_part_lines style) parts) place) (length-map parts (empty_part_lines style))

  pub over_lines : (parts : List RefutePart) (place : ℕ)
      → refute_lines style (Over parts) place ≡ (codes "over" ∷ style.variable place ++ decimal (length parts) ∷ []) ∷ joined (map (refute_part_lines style) parts) (place + 1)
  over_lines parts place =
      ap (λ t. refute_lines style t place) (sym (rolls-Over parts))
      ∙ ap (λ (f : Lines). f place) (fold-roll-Refute Lines Lines (refute_step style) refute_part_step (why.Over parts))
      ∙ ap (λ n. (codes "over" ∷ style.variable place ++ decimal n ∷ []) ∷ joined (map (refute_part_lines style) parts) (place + 1)) (length-map parts (refute_part_lines style))

  pub pick_lines : (value : ℤ) (completion : List ℤ) (below : Refute) (place : ℕ)
      → refute_lines style (Pick value completion below) place
      ≡ (codes "pick" ∷ style.variable place ++ signed_decimal value ∷ style.universal_values (place + 1) (map signed_decimal completion)) ∷ refute_lines style below (place + 1)
  pick_lines value completion below place =
      ap (λ t. refute_lines style t place) (sym (rolls-Pick value completion below))
      ∙ ap (λ (f : Lines). f place) (fold-roll-Refute Lines Lines (refute_step style) refute_part_step (why.Pick value completion below))
