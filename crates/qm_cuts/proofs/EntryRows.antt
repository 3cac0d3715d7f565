-- The rows that the entries of a cut stand on, with their multipliers.
use Rattle.std.proofs.Common.{◌≡◌, ◌∙◌, refl, subst, ℕ, zero, suc, ◌+◌, ◌-◌, ◌<◌, List, [], ◌∷◌, length, get_or, All, Option, Some, None, arith, ℤ, pos, negsuc, ◌*ℤ◌, ◌≤ℤ◌, neg_ℤ}
use Rattle.std.specs.Prelude.{slice_get}
use Rattle.std.specs.Option.{option_map}
use Rattle.std.proofs.Math.IntN.{zero-*ℤ}
use Rattle.std.proofs.lemmas.Int.{ints}
use Rattle.std.proofs.lemmas.List.Elements.{All-cons, All-head, All-nil, All-tail}
use Rattle.qm_math.specs.Fraction.{Fraction, HasPositiveDen, whole, IsAtMost}
use Rattle.qm_math.proofs.Polynomials.{◌⊗◌, minus}
use Rattle.qm_math.proofs.Ring.{x0, x1, ring}
use Rattle.qm_math.proofs.Compare.{below_at_most_weak}
use Rattle.qm_model.specs.declared.row.Row.{Row}
use Rattle.qm_model.specs.declared.row.Term.{Term}
use Rattle.qm_model.specs.declared.variable.Var.{Var}
use Rattle.qm_model.specs.declared.game.Problem.{Problem}
use Rattle.qm_model.specs.Linear.{form}
use Rattle.qm_model.specs.Points.{AreWithinOver, HoldsOver}
use Rattle.qm_model.proofs.Forms.{sum_over-sum_of_terms}
use Rattle.qm_trees.specs.declared.cut_combo.CutEntry.{CutEntry}
use Rattle.qm_trees.specs.declared.cut_combo.CutRow.{CutRow}
use Rattle.qm_trees.specs.declared.cut_combo.CutRow.TheVariants as on
use Rattle.qm_trees.specs.CutEntries.{IsMultiplier, bound_row, high_row, low_row, row_on, rows_on}
use Rattle.qm_trees.specs.Entries.{Weighted}
use Rattle.qm_trees.proofs.ClosedGoals.{holds_at}
use Rattle.qm_trees.proofs.Multipliers.{all_put}

-- ---- what holds of each multiplier holds of those of the rows

on_each : (P : Problem) (earlier : List Row) (Q : Fraction → Type 0) (es : List CutEntry) → ((by : Fraction) → IsMultiplier by → Q by) → All (λ (e : CutEntry). IsMultiplier e.by) es
    → All (λ (w : Weighted). Q w.by) (rows_on P earlier es)
on_each P earlier Q [] says h = All-nil (λ (w : Weighted). Q w.by)
on_each P earlier Q (e ∷ es) says h =
    all_put (λ (w : Weighted). Q w.by) e.by (row_on P earlier e.on) (rows_on P earlier es) (λ row at. says e.by (All-head (λ (e : CutEntry). IsMultiplier e.by) e es h))
    (on_each P earlier Q es says (All-tail (λ (e : CutEntry). IsMultiplier e.by) e es h))

pub on_dens : (P : Problem) (earlier : List Row) (es : List CutEntry) → All (λ (e : CutEntry). IsMultiplier e.by) es → All (λ (w : Weighted). HasPositiveDen w.by) (rows_on P earlier es)
on_dens P earlier es h = on_each P earlier HasPositiveDen es (λ by is. is.0.positive) h

pub on_not_negative : (P : Problem) (earlier : List Row) (es : List CutEntry) → All (λ (e : CutEntry). IsMultiplier e.by) es → All (λ (w : Weighted). IsAtMost (whole (pos 0)) w.by) (rows_on P earlier es)
on_not_negative P earlier es h = on_each P earlier (IsAtMost (whole (pos 0))) es (λ by is. below_at_most_weak (whole (pos 0)) by is.1) h

-- ---- a bound's row holds within the bounds

within_at : (d : ℕ) (xs : List Var) (ns : List ℤ) (n : ℕ) (x : Var) → AreWithinOver d xs ns → slice_get xs n ≡ Some x
    → (n < length ns) × ((x.low *ℤ pos d) ≤ℤ get_or ns n (pos 0)) × (get_or ns n (pos 0) ≤ℤ (x.high *ℤ pos d))
within_at d [] ns n x within at = cc
within_at d (y ∷ xs) [] n x within at = absurd within
within_at d (y ∷ xs) (m ∷ ns) zero x within at =
    let same : y ≡ x = cc in
    subst (λ (z : Var). (0 < suc (length ns)) × ((z.low *ℤ pos d) ≤ℤ m) × (m ≤ℤ (z.high *ℤ pos d))) same (omega arith, within.0, within.1)
within_at d (y ∷ xs) (m ∷ ns) (suc n) x within at =
    let rest = within_at d xs ns n x within.2 at in
    (omega (arith, rest.0), rest.1, rest.2)

-- the form of one term
bound_form : (k : ℤ) (n : ℕ) (bound : ℤ) (ns : List ℤ) → (k ≡ pos 0 → ⊥) → n < length ns → form (bound_row k n bound).terms ns ≡ k *ℤ get_or ns n (pos 0)
bound_form k n bound ns some below =
    let ts : List Term = (bound_row k n bound).terms in
    let few = All-cons (λ (t : Term). t.var < 0 + length ns) (record { var = n; coef = k }) [] (omega (arith, below)) (All-nil (λ (t : Term). t.var < 0 + length ns)) in
    let whole_sum = sum_over-sum_of_terms ◌*ℤ◌ (pos 0) (λ a. zero-*ℤ a) ts 0 ns (omega arith, some, tt) few in
    let place : n - 0 ≡ n = omega arith in
    whole_sum ∙ rw place (omega (arith, ints))

low_holds : (d : ℕ) (ns : List ℤ) (n : ℕ) (x : Var) → n < length ns → (x.low *ℤ pos d) ≤ℤ get_or ns n (pos 0) → HoldsOver d ns (low_row n x)
low_holds d ns n x below within =
    let at = bound_form (negsuc 0) n (neg_ℤ x.low) ns (λ e. cc) below in
    let turned : (neg_ℤ x.low *ℤ pos d) ≡ neg_ℤ (x.low *ℤ pos d) = ring (x.low ∷ pos d ∷ []) (minus x0 ⊗ x1) (minus (x0 ⊗ x1)) refl in
    omega (arith, ints, at, turned, within)

high_holds : (d : ℕ) (ns : List ℤ) (n : ℕ) (x : Var) → n < length ns → get_or ns n (pos 0) ≤ℤ (x.high *ℤ pos d) → HoldsOver d ns (high_row n x)
high_holds d ns n x below within =
    let at = bound_form (pos 1) n x.high ns (λ e. cc) below in
    omega (arith, ints, at, within)

-- ---- what holds of the rows, the uncertainty rows and the cuts holds of the rows of entries, within the bounds

module _ (P : Problem) (earlier : List Row) (d : ℕ) (ns : List ℤ) (within : AreWithinOver d P.vars ns)
    (rows : All (HoldsOver d ns) P.rows) (urows : All (HoldsOver d ns) P.urows) (cuts : All (HoldsOver d ns) earlier) where
  bound_there : (f : Var → Row) (n : ℕ) (row : Row) → ((x : Var) → slice_get P.vars n ≡ Some x → HoldsOver d ns (f x))
      → (o : Option Var) → slice_get P.vars n ≡ o → option_map f o ≡ Some row → HoldsOver d ns row
  bound_there f n row holds None at there = cc
  bound_there f n row holds (Some x) at there = let same : f x ≡ row = cc in subst (HoldsOver d ns) same (holds x at)

  on_holds : (o : CutRow) (row : Row) → row_on P earlier o ≡ Some row → HoldsOver d ns row
  on_holds (on.Row n) row at = holds_at (HoldsOver d ns) P.rows n row rows at
  on_holds (on.Uncertain n) row at = holds_at (HoldsOver d ns) P.urows n row urows at
  on_holds (on.Cut n) row at = holds_at (HoldsOver d ns) earlier n row cuts at
  on_holds (on.Low n) row at =
      bound_there (low_row n) n row (λ x here. let w = within_at d P.vars ns n x within here in low_holds d ns n x w.0 w.1) (slice_get P.vars n) refl at
  on_holds (on.High n) row at =
      bound_there (high_row n) n row (λ x here. let w = within_at d P.vars ns n x within here in high_holds d ns n x w.0 w.2) (slice_get P.vars n) refl at

  pub on_hold : (es : List CutEntry) → All (λ (w : Weighted). HoldsOver d ns w.row) (rows_on P earlier es)
  on_hold [] = All-nil (λ (w : Weighted). HoldsOver d ns w.row)
  on_hold (e ∷ es) = all_put (λ (w : Weighted). HoldsOver d ns w.row) e.by (row_on P earlier e.on) (rows_on P earlier es) (on_holds e.on) (on_hold es)
