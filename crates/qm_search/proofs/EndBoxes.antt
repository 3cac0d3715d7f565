-- Where all whole variables are set: the prefix of the box is complete, and where its leaf run leaves, that may be told.
use Rattle.std.proofs.Common.{◌≡◌, ℕ, ◌<◌, List, [], ◌∷◌, length, drop, arith, refl, sym, ap, subst, ℤ, Err, None}
use Rattle.std.specs.Prelude.{Any}
use Rattle.std.proofs.lemmas.List.{length-drop, length-take}
use Rattle.qm_model.specs.declared.range.Range.{Range}
use Rattle.qm_model.specs.declared.variable.Var.{Var}
use Rattle.qm_model.specs.declared.game.Problem.{Problem}
use Rattle.qm_model.specs.Boxes.{IsEmptyRange}
use Rattle.qm_model.specs.Legal.{IsComplete}
use Rattle.qm_model.specs.Plays.{whole_vars}
use Rattle.qm_game.specs.Dead.{IsFirstDead}
use Rattle.qm_simplex.specs.declared.answers.RunLeaves.{RunLeaves}
use Rattle.qm_simplex.specs.LeafRuns.{IsLeafRun}
use Rattle.qm_simplex.specs.RightLeaves.{AllShorter, IsRightLeave}
use Rattle.qm_search.specs.Entering.{IsEnterable}
use Rattle.qm_search.specs.PlaceSteps.{IsEndPlace, IsJudgePlace, IsSearchBox, prefix_in}
use Rattle.qm_search.proofs.BoxPrefixes.{all_shorter, box_is, prefix_long, prefix_within}

prefix_complete : (P : Problem) (bx : List Range) → IsSearchBox P P.wholes bx → IsComplete P (prefix_in P bx)
prefix_complete P bx here = omega (arith, prefix_long P P.wholes bx here, length-take P.wholes P.vars, here.sound.wholes)

-- ---- where no whole variable is left

pub nothing_left : (rest : List Var) → length rest ≡ 0 → rest ≡ []
nothing_left [] none = refl
nothing_left (x ∷ later) none = absurd (omega (arith, none))

module _ (P : Problem) (rest : List Var) (depth : ℕ) (bx : List Range) (from_depth : rest ≡ drop depth (whole_vars P)) (none : length rest ≡ 0) (place : IsJudgePlace P depth bx) where
  last_place : IsJudgePlace P P.wholes bx
  last_place =
      let last : depth ≡ P.wholes =
      omega (arith, none, ap length from_depth, length-drop depth (whole_vars P), length-take P.wholes P.vars, place.box.shallow, place.box.sound.wholes) in
      subst (λ n. IsJudgePlace P n bx) last place

  pub end_place : IsEndPlace P bx
  end_place = record { box = last_place.box; legal = last_place.legal }

  pub end_entered : AllShorter (IsEnterable P) (prefix_in P bx)
  end_entered = all_shorter P P.wholes bx last_place.box last_place.entered

-- ---- where the leaf run leaves

pub right_leave : (P : Problem) (bx : List Range) (IsKept : List ℤ → Type 0) (prefix : List ℤ) (run : RunLeaves) → IsEndPlace P bx → P.wholes < length P.vars → (Any IsEmptyRange bx → ⊥)
    → IsFirstDead P bx None → AllShorter IsKept (prefix_in P bx) → IsLeafRun P bx (Err run) → prefix ≡ prefix_in P bx → IsRightLeave P IsKept prefix run
right_leave P bx IsKept prefix run place mixed full alive shorter leaves is =
    let same = sym (box_is P P.wholes bx place.box) in
    subst (λ (vs : List ℤ). IsRightLeave P IsKept vs run) (sym is) (record {
      continuous = mixed;
      within = prefix_within P P.wholes bx place.box;
      complete = prefix_complete P bx place.box;
      legal = place.legal;
      full = subst (λ (rs : List Range). Any IsEmptyRange rs → ⊥) same full;
      alive = subst (λ (rs : List Range). IsFirstDead P rs None) same alive;
      leaves = subst (λ (rs : List Range). IsLeafRun P rs (Err run)) same leaves;
      shorter = shorter;
    })
