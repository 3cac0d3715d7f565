-- How a run ends: by the closing combination of a good tableau, whose rows are there, and with numbers of the program.
use Rattle.std.proofs.Common.{◌≡◌, subst, ℕ, suc, ◌+◌, ◌*◌, ◌<◌, true, List, [], ◌∷◌, length, All, Ok, Err, pos, ◌≤ℤ◌}
use Rattle.std.specs.Prelude.{Some}
use Rattle.std.proofs.lemmas.List.Elements.{All-cons, All-nil}
use Rattle.qm_math.specs.Fraction.{Fraction, HasPositiveDen, whole}
use Rattle.qm_math.proofs.FractionLaws.{whole_den}
use Rattle.qm_math.proofs.Magnitudes.{unsigned_abs-one_le}
use Rattle.qm_frac.specs.Checked.{added, divided}
use Rattle.qm_frac.specs.Lowest.{IsFrac}
use Rattle.qm_frac.proofs.CheckedLaws.{IsFrac-added, IsFrac-divided}
use Rattle.qm_model.specs.declared.range.Range.{Range}
use Rattle.qm_model.specs.declared.row.Row.{Row}
use Rattle.qm_model.specs.declared.game.Problem.{Problem}
use Rattle.qm_tableau.specs.declared.choice.Choice.{Choice}
use Rattle.qm_tableau.specs.declared.choice.Choice.TheVariants as choice
use Rattle.qm_tableau.specs.FirstTable.{first_table}
use Rattle.qm_tableau.specs.Good.{IsGood}
use Rattle.qm_tableau.specs.Leaving.{Placed}
use Rattle.qm_tableau.specs.Pivoting.{pivoted}
use Rattle.qm_tableau.specs.Rule.{chosen}
use Rattle.qm_tableau.specs.Tables.{Table, entry_at, row_at}
use Rattle.qm_tableau.proofs.Exactness.{entry_den}
use Rattle.qm_tableau.proofs.FirstGood.{first_good}
use Rattle.qm_trees.specs.RefuteRight.{AreNamed}
use Rattle.qm_simplex.specs.declared.answers.LpEnd.{LpEnd}
use Rattle.qm_simplex.specs.declared.answers.LpEnd.TheVariants.{Best, Void}
use Rattle.qm_simplex.specs.declared.answers.LeavePlace.TheVariants as place
use Rattle.qm_simplex.specs.Multipliers.{closing_combination}
use Rattle.qm_simplex.specs.Runs.{Pivot}
use Rattle.qm_simplex.specs.Stops.{Answer, IsRun, Located, after_choice, after_pivot, after_pivots, best_at, located, point_at, then_at, value_at, void_at}
use Rattle.qm_simplex.proofs.BestPoint.{located-ok, located_value, then_at-ok}
use Rattle.qm_simplex.proofs.GoodRuns.{run_good}
use Rattle.qm_simplex.proofs.SameTables.{row_at_den}
use Rattle.qm_relax.specs.Failing.{combination_at}
use Rattle.qm_relax.proofs.NamedEntries.{closing_named}

-- value and point are numbers of the program
abbrev pub AreFractions : LpEnd → Type 0
AreFractions (Best point value combo pivots) = IsFrac value × All IsFrac point
AreFractions (Void combo pivots) = Unit {0}

pub record IsEndOf (P : Problem) (cuts : List Row) (end : LpEnd) : Type 0 where
  pub named : AreNamed P cuts (combination_at end).entries
  pub fractions : AreFractions end

-- ---- numbers at the end

entry_at_den : (rows : List (List Fraction)) (i j : ℕ) → All (λ (row : List Fraction). All HasPositiveDen row) rows → 0 < (entry_at rows i j).den
entry_at_den rows i j d = entry_den (row_at rows i) j (row_at_den rows i d)

module _ (rows : List (List Fraction)) (dens : All (λ (row : List Fraction). All HasPositiveDen row) rows) where
  point_fractions : (var : ℕ) (bx : List Range) (xs : List Fraction) → point_at rows var bx ≡ Ok xs → All IsFrac xs
  point_fractions var [] xs h = subst (All IsFrac) (located_value [] xs h) (All-nil IsFrac)
  point_fractions var (r ∷ bx) xs h =
      let low = whole r.low in
      let t = entry_at rows (2 * var + 2) 0 in
      let first = then_at-ok (located (place.Point (suc var)) (added low t)) (λ x. then_at (point_at rows (suc var) bx) (λ xs. Ok (x ∷ xs))) xs h in
      let x = first.0 in
      let here = IsFrac-added low t x (whole_den r.low) (entry_at_den rows (2 * var + 2) 0 dens) (located-ok (place.Point (suc var)) (added low t) x first.1) in
      let rest = then_at-ok (point_at rows (suc var) bx) (λ ys. Ok (x ∷ ys)) xs first.2 in
      subst (All IsFrac) (located_value (x ∷ rest.0) xs rest.2) (All-cons IsFrac x rest.0 here (point_fractions (suc var) bx rest.0 rest.1))

  value_fraction : (P : Problem) (value : Fraction) → pos 1 ≤ℤ P.scale → value_at P rows ≡ Ok value → IsFrac value
  value_fraction P value scale h =
      let a = entry_at rows 0 0 in
      IsFrac-divided a (whole P.scale) value (entry_at_den rows 0 0 dens) (unsigned_abs-one_le P.scale scale) (located-ok place.Value (divided a (whole P.scale)) value h)

-- ---- where a run stops with an end

end_alone : (ps : List Pivot) (x : Located LpEnd) (end : LpEnd) → after_pivots ps x ≡ Ok end → x ≡ Ok end
end_alone ps (Ok e) end h = cc
end_alone ps (Err left) end h = absurd (cc)

one_answer : (x y : Answer) → Some x ≡ Some y → x ≡ y
one_answer x y h = cc

module _ (P : Problem) (cuts : List Row) (bx : List Range) (scale : pos 1 ≤ℤ P.scale) where
  best_end : (t : Table) (pivots : ℕ) (end : LpEnd) → IsGood P cuts bx t → best_at P cuts bx pivots t ≡ Ok end → IsEndOf P cuts end
  best_end t pivots end good h =
      let combo = closing_combination P cuts bx t true 0 in
      let first = then_at-ok (value_at P t.rows) (λ value. then_at (point_at t.rows 0 bx) (λ point. Ok (Best point value combo pivots))) end h in
      let value = first.0 in
      let second = then_at-ok (point_at t.rows 0 bx) (λ point. Ok (Best point value combo pivots)) end first.2 in
      let xs = second.0 in
      subst (IsEndOf P cuts) (located_value (Best xs value combo pivots) end second.2)
      (record {
        named = closing_named P cuts bx t 0;
        fractions = (value_fraction t.rows good.positive P value scale first.1, point_fractions t.rows good.positive 0 bx xs second.1);
      })

  stop_end : (t : Table) (ps : List Pivot) (end : LpEnd) (named : Placed Choice) → IsGood P cuts bx t
      → after_choice P cuts bx ps t named ≡ Some (Ok end) → IsEndOf P cuts end
  stop_end t ps end (Err l) good h = absurd (cc)
  stop_end t ps end (Ok choice.Done) good h =
      let told = one_answer (after_pivots ps (best_at P cuts bx (length ps) t)) (Ok end) h in
      best_end t (length ps) end good (end_alone ps (best_at P cuts bx (length ps) t) end told)
  stop_end t ps end (Ok (choice.VoidRow r)) good h =
      let told = one_answer (Ok (void_at P cuts bx (length ps) t r)) (Ok end) h in
      let same : void_at P cuts bx (length ps) t r ≡ end = cc in
      subst (IsEndOf P cuts) same (record { named = closing_named P cuts bx t r; fractions = tt })
  stop_end t ps end (Ok (choice.Pivot r c)) good h = by_pivot (pivoted t r c) h
    where
      by_pivot : (x : Placed Table) → after_pivot ps (r, c) x ≡ Some (Ok end) → IsEndOf P cuts end
      by_pivot (Ok u) g = absurd (cc)
      by_pivot (Err l) g = absurd (cc)

  pub end_of_run : (end : LpEnd) → IsRun P cuts bx (Ok end) → IsEndOf P cuts end
  end_of_run end run =
      stop_end run.last run.pivots end (chosen run.last)
      (run_good P cuts bx (first_table P cuts bx) run.last run.pivots (first_good P cuts bx) run.leads) run.stops
