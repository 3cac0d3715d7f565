-- What a combination closes over a box, no complete prefix in the box and no point after it reach.
use Rattle.std.proofs.Common.{◌≡◌, ℕ, ◌<◌, List, [], ◌∷◌, ◌++◌, length, get_or, map, drop, All, Some, sym, subst, ℤ, pos, ◌+ℤ◌, ◌*ℤ◌, ◌≤ℤ◌}
use Rattle.std.specs.Prelude.{slice_get}
use Rattle.std.proofs.lemmas.List.Elements.{All-nil}
use Rattle.std.proofs.lemmas.Option.{slice_get_within, get_or_from_slice_get}
use Rattle.qm_math.specs.Fraction.{Fraction, whole, IsSame}
use Rattle.qm_math.specs.Arithmetic.{sum_of, quotient_of}
use Rattle.qm_math.specs.Over.{over}
use Rattle.qm_math.proofs.Whole.{scaled_le}
use Rattle.qm_math.proofs.FractionLaws.{same_refl, same_sym, same_trans, sum_of-same, whole_den, sum_of_den, quotient_of-same, whole_quotient_den}
use Rattle.qm_math.proofs.Over.{sum_of-over, whole-over, over-at_most-whole, whole-at_most-over, quotient_of-over}
use Rattle.qm_model.specs.declared.range.Range.{Range}
use Rattle.qm_model.specs.declared.row.Row.{Row}
use Rattle.qm_model.specs.declared.row_id.RowId.{RowId}
use Rattle.qm_model.specs.declared.row_id.RowId.TheVariants as id
use Rattle.qm_model.specs.declared.variable.Var.{Var}
use Rattle.qm_model.specs.declared.game.Problem.{Problem}
use Rattle.qm_model.specs.Linear.{coefficient, form}
use Rattle.qm_model.specs.Boxes.{whole_box_of}
use Rattle.qm_model.specs.Goals.{Goal, IsProper, Reaches}
use Rattle.qm_model.specs.Legal.{IsComplete}
use Rattle.qm_model.specs.Points.{AreWithinOver, HoldsOver, Meets, Point, continuous_vars, objective_at, values_over}
use Rattle.qm_model.specs.Sound.{IsSound}
use Rattle.qm_model.proofs.GoalOrder.{objective_den, reaches-same}
use Rattle.qm_model.proofs.UncertaintyRows.{length-complete}
use Rattle.qm_trees.specs.declared.combination.Entry.{Entry}
use Rattle.qm_trees.specs.Entries.{Combination, IsPositive, Weighted, row_named, weighted_rows}
use Rattle.qm_trees.specs.Closing.{Closes}
use Rattle.qm_trees.specs.BoxPoints.{BeginIn, IsInBox, HoldsAt, form_of, objective_of}
use Rattle.qm_trees.proofs.CombinationSound.{closes_refutes}
use Rattle.qm_trees.proofs.Multipliers.{all_put, weighted_dens, weighted_not_negative}
use Rattle.qm_trees.proofs.RowsOver.{HoldsAt-over, form_of-over, form_of-over_den}

-- ---- the values of a prefix in the box, and of a point within the bounds, lie in the box

pub within_whole_box : (d : ℕ) (xs : List Var) (ns : List ℤ) → 0 < d → AreWithinOver d xs ns → IsInBox (whole_box_of xs) (map (over d) ns)
within_whole_box d [] [] some h = tt
within_whole_box d [] (n ∷ ns) some h = absurd h
within_whole_box d (x ∷ xs) [] some h = absurd h
within_whole_box d (x ∷ xs) (n ∷ ns) some h =
    (some, ((whole-at_most-over d x.low n).1 h.0, (over-at_most-whole d n x.high).1 h.1), within_whole_box d xs ns some h.2)

within_box : (d : ℕ) (bx : List Range) (prefix : List ℤ) (xs : List Var) (ns : List ℤ) → 0 < d → BeginIn bx prefix → drop (length prefix) bx ≡ whole_box_of xs → AreWithinOver d xs ns
    → IsInBox bx (map (over d) (map (λ v. v *ℤ pos d) prefix ++ ns))
within_box d bx [] xs ns some begin others h = subst (λ b. IsInBox b (map (over d) ns)) (sym others) (within_whole_box d xs ns some h)
within_box d [] (v ∷ vs) xs ns some begin others h = absurd begin
within_box d (r ∷ bx) (v ∷ vs) xs ns some begin others h = (
  some,
  ((whole-at_most-over d r.low (v *ℤ pos d)).1 (scaled_le r.low v d begin.0.0), (over-at_most-whole d (v *ℤ pos d) r.high).1 (scaled_le v r.high d begin.0.1)),
  within_box d bx vs xs ns some begin.1 others h,
)

pub values_in_box : (P : Problem) (bx : List Range) (prefix : List ℤ) (y : Point) → IsSound P → IsComplete P prefix → BeginIn bx prefix
    → drop P.wholes bx ≡ whole_box_of (continuous_vars P) → 0 < y.den → AreWithinOver y.den (continuous_vars P) y.nums → IsInBox bx (map (over y.den) (values_over prefix y))
values_in_box P bx prefix y sound complete begin others some within =
    within_box y.den bx prefix (continuous_vars P) y.nums some begin
    (subst (λ n. drop n bx ≡ whole_box_of (continuous_vars P)) (sym (length-complete P prefix sound complete)) others) within

-- ---- the objective is the same number, at numerators over one denominator and at the fractions

module _ (P : Problem) (prefix : List ℤ) (y : Point) (some : 0 < y.den) (scale : pos 1 ≤ℤ P.scale) where
  -- the values of all variables
  abbrev pub fractions : List Fraction
  fractions = map (over y.den) (values_over prefix y)

  -- the objective's form at these values
  abbrev pub form_at : Fraction
  form_at = form_of (λ var. whole (coefficient P.terms var)) 0 fractions

  form_at_den : 0 < form_at.den
  form_at_den = form_of-over_den y.den (λ var. coefficient P.terms var) 0 (values_over prefix y) some

  pub objective_of_den : 0 < (objective_of P fractions).den
  objective_of_den = whole_quotient_den (sum_of form_at (whole P.constant)) P.scale scale (sum_of_den form_at (whole P.constant) form_at_den (whole_den P.constant))

  pub objective_of-over : IsSame (objective_of P fractions) (objective_at P prefix y)
  objective_of-over =
      let d = y.den in
      let m = form P.terms (values_over prefix y) in
      let c = P.constant *ℤ pos d in
      let total = sum_of form_at (whole P.constant) in
      let numerators = sum_of (over d m) (over d c) in
      let over_total = over d (m +ℤ c) in
      let form_same : IsSame form_at (over d m) = form_of-over d (λ var. coefficient P.terms var) 0 (values_over prefix y) in
      let total_same : IsSame total over_total =
      same_trans total numerators over_total (sum_of_den (over d m) (over d c) some some)
      (sum_of-same form_at (whole P.constant) (over d m) (over d c) form_same (whole-over d P.constant)) (sum_of-over d m c) in
      same_trans (quotient_of total (whole P.scale)) (quotient_of over_total (whole P.scale)) (objective_at P prefix y)
      (whole_quotient_den over_total P.scale scale some)
      (quotient_of-same total (whole P.scale) over_total (whole P.scale) total_same (same_refl (whole P.scale))) (quotient_of-over d (m +ℤ c) P.scale scale)

-- ---- the rows of a combination

-- what holds of all holds of the one that is there
pub holds_at : {A : Type 0} (Q : A → Type 0) (xs : List A) (n : ℕ) (a : A) → All Q xs → slice_get xs n ≡ Some a → Q a
holds_at Q xs n a all at = subst Q (get_or_from_slice_get xs n a a at) (all n a (slice_get_within xs n a at))

module _ (P : Problem) (cuts : List Row) (Q : Row → Type 0) (rows : All Q P.rows) (urows : All Q P.urows) (of_cuts : All Q cuts) where
  named_holds : (i : RowId) (row : Row) → row_named P cuts i ≡ Some row → Q row
  named_holds (id.Row n) row at = holds_at Q P.rows n row rows at
  named_holds (id.Uncertain n) row at = holds_at Q P.urows n row urows at
  named_holds (id.Cut n) row at = holds_at Q cuts n row of_cuts at

  -- what holds of each row, uncertainty row and cut holds of each row of a combination
  pub weighted_hold : (es : List Entry) → All (λ (w : Weighted). Q w.row) (weighted_rows P cuts es)
  weighted_hold [] = All-nil (λ (w : Weighted). Q w.row)
  weighted_hold (e ∷ es) = all_put (λ (w : Weighted). Q w.row) e.by (row_named P cuts e.row) (weighted_rows P cuts es) (named_holds e.row) (weighted_hold es)

-- ---- what is closed

pub closed_out_of_reach : (P : Problem) (cuts : List Row) (combo : Combination) (bx : List Range) (G : Goal) (prefix : List ℤ) (y : Point)
    → IsSound P → IsProper G → IsComplete P prefix → BeginIn bx prefix → drop P.wholes bx ≡ whole_box_of (continuous_vars P)
    → Meets P prefix y → All (HoldsOver y.den (values_over prefix y)) P.urows → All (HoldsOver y.den (values_over prefix y)) cuts → Reaches (objective_at P prefix y) G
    → All IsPositive combo.entries → Closes P combo.objective (weighted_rows P cuts combo.entries) bx G → ⊥
closed_out_of_reach P cuts combo bx G prefix y sound proper complete begin others meets urows of_cuts reaches positive closes =
    let xs = map (over y.den) (values_over prefix y) in
    let scale = sound.scale_positive in
    let some = meets.positive in
    let at : (rows : List Row) → All (HoldsOver y.den (values_over prefix y)) rows → All (HoldsAt xs) rows =
    λ rows h k e below. (HoldsAt-over y.den (values_over prefix y) (get_or rows k e) some).1 (h k e below) in
    let same = same_sym (objective_of P xs) (objective_at P prefix y) (objective_of-over P prefix y some scale) in
    closes_refutes P bx xs (weighted_rows P cuts combo.entries) scale (values_in_box P bx prefix y sound complete begin others some meets.within)
    (weighted_dens P cuts combo.entries positive) (weighted_not_negative P cuts combo.entries positive)
    (weighted_hold P cuts (HoldsAt xs) (at P.rows meets.rows) (at P.urows urows) (at cuts of_cuts) combo.entries)
    combo.objective G proper closes
    (reaches-same (objective_at P prefix y) (objective_of P xs) G (objective_den P prefix y scale some) (objective_of_den P prefix y some scale) proper same reaches)
