-- What the combination of an end closes, where it has a value.
use Rattle.std.proofs.Common.{◌≡◌, refl, subst, List, All, Ok, pos, ◌≤ℤ◌, inr}
use Rattle.std.specs.Prelude.{Any as Some, IsOk}
use Rattle.qm_math.specs.Fraction.{Fraction, HasPositiveDen, IsAtMost, IsSame}
use Rattle.qm_math.proofs.Compare.{at_most_trans}
use Rattle.qm_math.proofs.FractionOrder.{at_most-same}
use Rattle.qm_model.specs.declared.range.Range.{Range}
use Rattle.qm_model.specs.declared.row.Row.{Row}
use Rattle.qm_model.specs.declared.game.Problem.{Problem}
use Rattle.qm_model.specs.Boxes.{IsEmptyRange}
use Rattle.qm_model.specs.Goals.{Goal, IsProper}
use Rattle.qm_trees.specs.declared.combination.ComboValue.{ComboValue}
use Rattle.qm_trees.specs.BoxPoints.{HoldsAt, objective_of}
use Rattle.qm_trees.specs.Closing.{Excludes}
use Rattle.qm_trees.specs.Entries.{AreEntries, Combination, Weighted, weighted_rows}
use Rattle.qm_trees.specs.Evaluation.{bound_of, value_of}
use Rattle.qm_trees.specs.RefuteRight.{AreNamed}
use Rattle.qm_trees.proofs.ClosedGoals.{weighted_hold}
use Rattle.qm_trees.proofs.CombinationCloses.{closing_exact}
use Rattle.qm_trees.proofs.CombinationSound.{bound_of_den, objective-at_most}
use Rattle.qm_trees.proofs.Multipliers.{entries_positive, weighted_dens, weighted_not_negative}
use Rattle.qm_combo.proofs.EmptyRanges.{closing_ok}
use Rattle.qm_simplex.specs.Relaxation.{IsInRelaxation}
use Rattle.qm_relax.specs.Answers.{ClosesInRange}

module _ (P : Problem) (cuts : List Row) (bx : List Range) (scale : pos 1 ≤ℤ P.scale) (full : Some IsEmptyRange bx → ⊥)
    (combo : Combination) (entries : AreEntries combo.entries) (v : ComboValue)
    (valued : value_of P combo.objective (weighted_rows P cuts combo.entries) bx ≡ Ok v) where
  abbrev ws : List Weighted
  ws = weighted_rows P cuts combo.entries

  abbrev dens : All (λ (w : Weighted). HasPositiveDen w.by) ws
  dens = weighted_dens P cuts combo.entries (entries_positive combo.entries entries)

  -- it closes in range what it excludes
  pub closes_in_range : (G : Goal) → IsProper G → AreNamed P cuts combo.entries → Excludes P combo.objective ws bx G → ClosesInRange P cuts bx G combo
  closes_in_range G proper named excludes = record {
    entries = entries;
    named = named;
    closes = (closing_exact P combo.objective ws bx G dens scale proper).1
        (inr excludes, subst IsOk (closing_ok P combo.objective ws bx G full v valued) refl);
  }

module _ (P : Problem) (cuts : List Row) (bx : List Range) (scale : pos 1 ≤ℤ P.scale) (combo : Combination) (entries : AreEntries combo.entries)
    (value : Fraction) (bounds : IsSame (bound_of P (weighted_rows P cuts combo.entries) bx) value) where
  -- no point of the relaxation has a greater objective than the bound
  pub none_above : (point : List Fraction) → IsInRelaxation P cuts bx point → IsAtMost (objective_of P point) value
  none_above point inside =
      let ws = weighted_rows P cuts combo.entries in
      let dens = weighted_dens P cuts combo.entries (entries_positive combo.entries entries) in
      let bound = bound_of P ws bx in
      at_most_trans (objective_of P point) bound value (bound_of_den P ws bx scale dens)
      (objective-at_most P bx point ws scale inside.inside dens (weighted_not_negative P cuts combo.entries (entries_positive combo.entries entries))
      (weighted_hold P cuts (HoldsAt point) inside.rows inside.urows inside.extra combo.entries))
      (at_most-same bound value bounds)
