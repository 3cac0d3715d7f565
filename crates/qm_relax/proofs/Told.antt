-- What is told of a relaxation is right, and nothing is told exactly where the run fails.
use Rattle.std.proofs.Common.{◌≡◌, refl, sym, subst, ℕ, ◌<◌, Bool, true, false, List, [], arith, Ok, Err, pos, ◌≤ℤ◌}
use Rattle.std.specs.Prelude.{Any as Some, IsSome, if◌then◌else◌}
use Rattle.std.proofs.lemmas.Int.{ints}
use Rattle.std.proofs.lemmas.List.Elements.{All-nil}
use Rattle.qm_math.specs.Fraction.{Fraction, IsAtMost, IsBelow, IsSame, is_at_most}
use Rattle.qm_math.proofs.Compare.{at_most_below, at_most_trans}
use Rattle.qm_math.proofs.FractionOrder.{at_most-same}
use Rattle.qm_model.specs.declared.range.Range.{Range}
use Rattle.qm_model.specs.declared.row.Row.{Row}
use Rattle.qm_model.specs.declared.game.Problem.{Problem}
use Rattle.qm_model.specs.Boxes.{IsEmptyRange}
use Rattle.qm_model.specs.Goals.{Goal, Any, AtLeast, Above, IsProper, Reaches}
use Rattle.qm_model.specs.Sound.{IsSound}
use Rattle.qm_tableau.specs.FirstTable.{first_table}
use Rattle.qm_trees.specs.declared.combination.ComboValue.{ComboValue}
use Rattle.qm_trees.specs.declared.combination.ComboValue.TheVariants.{Bound}
use Rattle.qm_trees.specs.Closing.{Excludes, closes_goal}
use Rattle.qm_trees.specs.declared.combination.Entry.{Entry}
use Rattle.qm_trees.specs.Entries.{AreEntries, Combination, Weighted, row_named, weighted_rows}
use Rattle.qm_trees.specs.Evaluation.{bound_of}
use Rattle.qm_trees.proofs.CombinationSound.{bound_of_den}
use Rattle.qm_trees.proofs.CombinationValues.{below_false, below_true}
use Rattle.qm_trees.proofs.Multipliers.{entries_positive, weighted_dens}
use Rattle.qm_combo.proofs.EmptyRanges.{closing_empty}
use Rattle.qm_simplex.specs.declared.answers.LpEnd.{LpEnd}
use Rattle.qm_simplex.specs.declared.answers.LpEnd.TheVariants.{Best, Void}
use Rattle.qm_simplex.specs.Stops.{Answer, IsRun}
use Rattle.qm_simplex.proofs.OneAnswer.{one_answer}
use Rattle.qm_relax.specs.declared.answers.RelaxedPoint.TheVariants as pointed
use Rattle.qm_relax.specs.declared.answers.WhyNot.{WhyNot}
use Rattle.qm_relax.specs.declared.answers.WhyNot.TheVariants as why
use Rattle.qm_relax.specs.AnswerSteps.{EndsWith, IsOwed, told}
use Rattle.qm_relax.specs.Failing.{Fails, FailsBy, LeavesBy, combination_at, value_at_end}
use Rattle.qm_relax.proofs.ClosingEnds.{closes_in_range, none_above}
use Rattle.qm_relax.proofs.EndsOfRuns.{IsEndOf, end_of_run}

-- ---- where a run ends and its combination has a value, it doesn't fail

module _ (P : Problem) (cuts : List Row) (bx : List Range) where
  same_answer : (one other : Answer) → IsRun P cuts bx one → IsRun P cuts bx other → one ≡ other
  same_answer one other h k = one_answer P cuts bx (first_table P cuts bx) one other h k

  not_leaving : (end : LpEnd) (v : ComboValue) → IsRun P cuts bx (Ok end) → value_at_end P cuts bx end ≡ Ok v → (w : WhyNot) → LeavesBy P cuts bx w → ⊥
  not_leaving end v run valued (why.Run leaves) h = let same = same_answer (Ok end) (Err leaves) run h in absurd (cc)
  not_leaving end v run valued (why.Combination leaves) h =
      let other = h.0 in
      let same : end ≡ other = (let e = same_answer (Ok end) (Ok other) run h.1 in cc) in
      let left : value_at_end P cuts bx end ≡ Err leaves = subst (λ (e : LpEnd). value_at_end P cuts bx e ≡ Err leaves) (sym same) h.2 in
      absurd (cc)

  pub end_fails_not : (end : LpEnd) (v : ComboValue) → IsRun P cuts bx (Ok end) → value_at_end P cuts bx end ≡ Ok v → Fails P cuts bx → ⊥
  end_fails_not end v run valued fails = not_leaving end v run valued fails.0 fails.1.leaves

-- ---- what a bound closes, or leaves open

most_true : (a b : Fraction) → is_at_most a b ≡ true → IsAtMost a b
most_true a b e = grind (arith, ints)

most_false : (a b : Fraction) → is_at_most a b ≡ false → IsBelow b a
most_false a b e = grind (arith, ints)

left_open : (G : Goal) (value : Fraction) → closes_goal G (Bound value) ≡ false → Reaches value G
left_open Any value e = tt
left_open (AtLeast t) value e = below_false value t e
left_open (Above t) value e = most_false value t e

module _ (P : Problem) (cuts : List Row) (bx : List Range) (scale : pos 1 ≤ℤ P.scale) (combo : Combination) (entries : AreEntries combo.entries)
    (value : Fraction) (positive : 0 < value.den) (bounds : IsSame (bound_of P (weighted_rows P cuts combo.entries) bx) value) where
  abbrev ws : List Weighted
  ws = weighted_rows P cuts combo.entries

  bound_den : 0 < (bound_of P ws bx).den
  bound_den = bound_of_den P ws bx scale (weighted_dens P cuts combo.entries (entries_positive combo.entries entries))

  bound_excludes : (G : Goal) → IsProper G → closes_goal G (Bound value) ≡ true → Excludes P true ws bx G
  bound_excludes Any proper e = absurd (cc)
  bound_excludes (AtLeast t) proper e = at_most_below (bound_of P ws bx) value t bound_den (at_most-same (bound_of P ws bx) value bounds) (below_true value t e)
  bound_excludes (Above t) proper e = at_most_trans (bound_of P ws bx) value t positive (at_most-same (bound_of P ws bx) value bounds) (most_true value t e)

-- ---- what is told at an end

module _ (P : Problem) (cuts : List Row) (bx : List Range) (G : Goal) (sound : IsSound P) (proper : IsProper G) where
  void_owed : (combo : Combination) (pivots : ℕ) (v : ComboValue) → EndsWith P cuts bx (Void combo pivots) → AreEntries combo.entries
      → value_at_end P cuts bx (Void combo pivots) ≡ Ok v → IsOwed P cuts bx G (pointed.Closed combo)
  void_owed combo pivots v ends entries valued =
      let scale = sound.scale_positive in
      let end = Void combo pivots in
      let is = end_of_run P cuts bx scale end ends.run in
      let excludes = subst (λ (o : Bool). Excludes P o (weighted_rows P cuts combo.entries) bx G) (sym ends.right.objective) ends.right.contradicts in
      record {
        right = closes_in_range P cuts bx scale ends.full combo entries v valued G proper is.named excludes;
        exact = (λ none. absurd none, λ fails. absurd (end_fails_not P cuts bx end v ends.run valued fails));
        best = tt;
      }

  module _ (point : List Fraction) (value : Fraction) (combo : Combination) (pivots : ℕ) (v : ComboValue) (ends : EndsWith P cuts bx (Best point value combo pivots))
      (entries : AreEntries combo.entries) (valued : value_at_end P cuts bx (Best point value combo pivots) ≡ Ok v) where
    abbrev end : LpEnd
    end = Best point value combo pivots

    is_end : IsEndOf P cuts end
    is_end = end_of_run P cuts bx sound.scale_positive end ends.run

    with_objective : (H : Goal) → Excludes P true (weighted_rows P cuts combo.entries) bx H → Excludes P combo.objective (weighted_rows P cuts combo.entries) bx H
    with_objective H h = subst (λ (o : Bool). Excludes P o (weighted_rows P cuts combo.entries) bx H) (sym ends.right.objective) h

    best_owed : (closed : Bool) → closes_goal G (Bound value) ≡ closed
        → IsOwed P cuts bx G (if closed then pointed.Closed combo else pointed.Bound (record { value = value; point = point; combo = combo }))
    best_owed true e =
        let scale = sound.scale_positive in
        let excludes = bound_excludes P cuts bx scale combo entries value is_end.fractions.0.positive ends.right.bound G proper e in
        record {
          right = closes_in_range P cuts bx scale ends.full combo entries v valued G proper is_end.named (with_objective G excludes);
          exact = (λ none. absurd none, λ fails. absurd (end_fails_not P cuts bx end v ends.run valued fails));
          best = tt;
        }
    best_owed false e =
        let scale = sound.scale_positive in
        let ws = weighted_rows P cuts combo.entries in
        record {
          right = (
            record {
              lowest = is_end.fractions.0;
              reached = (point, ends.right.feasible, ends.right.reached);
              most = none_above P cuts bx scale combo entries value ends.right.bound;
            },
            left_open G value e,
          );
          exact = (λ none. absurd none, λ fails. absurd (end_fails_not P cuts bx end v ends.run valued fails));
          best = record {
            lowest = is_end.fractions.1;
            feasible = ends.right.feasible;
            reached = ends.right.reached;
            closes = closes_in_range P cuts bx scale ends.full combo entries v valued (Above value) is_end.fractions.0.positive is_end.named
                (with_objective (Above value) (at_most-same (bound_of P ws bx) value ends.right.bound));
          };
        }

pub told_owed : (P : Problem) (cuts : List Row) (bx : List Range) (G : Goal) (end : LpEnd) (v : ComboValue) → IsSound P → IsProper G → EndsWith P cuts bx end
    → AreEntries (combination_at end).entries → value_at_end P cuts bx end ≡ Ok v → IsOwed P cuts bx G (told G end)
told_owed P cuts bx G (Best point value combo pivots) v sound proper ends entries valued =
    best_owed P cuts bx G sound proper point value combo pivots v ends entries valued (closes_goal G (Bound value)) refl
told_owed P cuts bx G (Void combo pivots) v sound proper ends entries valued = void_owed P cuts bx G sound proper combo pivots v ends entries valued

-- ---- the other answers

pub failed_owed : (P : Problem) (cuts : List Row) (bx : List Range) (G : Goal) (w : WhyNot) → FailsBy P cuts bx w → IsOwed P cuts bx G (pointed.NoBound w)
failed_owed P cuts bx G w fails = record { right = fails; exact = (λ none. (w, fails), λ fails. tt); best = tt }

-- a box with an empty range is closed by no entries
pub empty_owed : (P : Problem) (cuts : List Row) (bx : List Range) (G : Goal) → Some IsEmptyRange bx
    → IsOwed P cuts bx G (pointed.Closed (record { objective = false; entries = [] }))
empty_owed P cuts bx G empty = record {
  right = record { entries = tt; named = All-nil (λ (e : Entry). IsSome (row_named P cuts e.row)); closes = sym (closing_empty P false [] bx G empty) };
  exact = (λ none. absurd none, λ fails. fails.1.full empty);
  best = tt;
}
