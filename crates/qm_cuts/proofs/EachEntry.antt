-- The rows that entries stand on, one entry after the other.
use Rattle.std.proofs.Common.{◌≡◌, ◌∙◌, ap, refl, sym, ℕ, ◌+◌, ◌<◌, Bool, true, false, ℤ, pos, List, ◌∷◌, length, get_or, drop, All, Option, Some, None, Ok, Err}
use Rattle.std.specs.Prelude.{IfSome, IsSome, IsSomeAnd, if◌then◌else◌, slice_get, is_some}
use Rattle.std.specs.Ordering.{int_eq}
use Rattle.std.specs.Option.{option_map}
use Rattle.std.specs.List.{list_all}
use Rattle.std.proofs.lemmas.List.{at_drop_more}
use Rattle.std.proofs.lemmas.List.Sums.{AllPass-from_list_all}
use Rattle.qm_math.specs.Fraction.{Fraction, whole}
use Rattle.qm_frac.specs.Checked.{Checked, and_then, added, multiplied}
use Rattle.qm_combo.specs.Entries.{IsNarrow}
use Rattle.qm_combo.proofs.Narrow.{all_at, row_is_narrow}
use Rattle.qm_model.specs.declared.row.Row.{Row}
use Rattle.qm_model.specs.declared.variable.Var.{Var}
use Rattle.qm_model.specs.declared.game.Problem.{Problem}
use Rattle.qm_model.specs.Linear.{coefficient}
use Rattle.qm_model.specs.Sound.{IsRowOver, IsSound}
use Rattle.qm_trees.specs.declared.cut_combo.CutEntry.{CutEntry}
use Rattle.qm_trees.specs.declared.cut_combo.CutRow.{CutRow}
use Rattle.qm_trees.specs.declared.cut_combo.CutRow.TheVariants as on
use Rattle.qm_trees.specs.CutEntries.{high_row, low_row, row_on, rows_on}
use Rattle.qm_trees.specs.Entries.{with_row}
use Rattle.qm_trees.specs.Evaluation.{add_coefficients, add_right_sides}
use Rattle.qm_cuts.specs.Steps.{AreUsable, IsUsable, add_multiple, add_product}

-- ---- those that are there are usable

narrow_all : (xs : List Var) (rows : List Row) → All (IsRowOver xs) rows → All IsNarrow rows
narrow_all xs rows over = λ k d h. row_is_narrow xs (get_or rows k d) (over k d h)

var_there : (f : Var → Row) (o : Option Var) → IsSome (option_map f o) → IsSome o
var_there f None there = cc
var_there f (Some x) there = refl

usable : (P : Problem) (earlier : List Row) → IsSound P → All (IsRowOver P.vars) earlier → (row : CutRow) → IsSome (row_on P earlier row) → IsUsable P earlier row
usable P earlier sound over (on.Row n) there = all_at IsNarrow P.rows n (narrow_all P.vars P.rows sound.rows) there
usable P earlier sound over (on.Uncertain n) there = all_at IsNarrow P.urows n (narrow_all P.vars P.urows sound.urows) there
usable P earlier sound over (on.Cut n) there = all_at IsNarrow earlier n (narrow_all P.vars earlier over) there
usable P earlier sound over (on.Low n) there = var_there (low_row n) (slice_get P.vars n) there
usable P earlier sound over (on.High n) there = var_there (high_row n) (slice_get P.vars n) there

pub there_are_usable : (P : Problem) (earlier : List Row) (es : List CutEntry) → IsSound P → All (IsRowOver P.vars) earlier → list_all (λ e. is_some (row_on P earlier e.on)) es ≡ true → AreUsable P earlier es
there_are_usable P earlier es sound over there =
    λ k e h. usable P earlier sound over (get_or es k e).on (AllPass-from_list_all (λ (e : CutEntry). is_some (row_on P earlier e.on)) es there k e h)

-- ---- the entry i, and then the others

rows_more : (P : Problem) (earlier : List Row) (es : List CutEntry) (i : ℕ) (d : CutEntry) (row : Row) → i < length es → row_on P earlier (get_or es i d).on ≡ Some row
    → rows_on P earlier (drop i es) ≡ with_row (get_or es i d).by row ∷ rows_on P earlier (drop (i + 1) es)
rows_more P earlier es i d row h e = at_drop_more (rows_on P earlier) es i d h ∙ rw e refl

-- the row is there, and has this
row_with : (P : Problem) (earlier : List Row) (row : CutRow) (Q : Row → Type 0) → IsUsable P earlier row → IfSome (row_on P earlier row) Q → (r : Row) × (row_on P earlier row ≡ Some r) × Q r
row_with P earlier row Q usable says = by_row (row_on P earlier row) refl (is_there row usable) says
  where
    mapped : (f : Var → Row) (o : Option Var) → IsSome o → IsSome (option_map f o)
    mapped f None there = cc
    mapped f (Some x) there = refl

    some_of : (o : Option Row) → IsSomeAnd o IsNarrow → IsSome o
    some_of None h = absurd h
    some_of (Some r) h = refl

    is_there : (row : CutRow) → IsUsable P earlier row → IsSome (row_on P earlier row)
    is_there (on.Row n) usable = some_of (slice_get P.rows n) usable
    is_there (on.Uncertain n) usable = some_of (slice_get P.urows n) usable
    is_there (on.Cut n) usable = some_of (slice_get earlier n) usable
    is_there (on.Low n) usable = mapped (low_row n) (slice_get P.vars n) usable
    is_there (on.High n) usable = mapped (high_row n) (slice_get P.vars n) usable

    by_row : (o : Option Row) → row_on P earlier row ≡ o → IsSome o → IfSome o Q → (r : Row) × (row_on P earlier row ≡ Some r) × Q r
    by_row None e there says = cc
    by_row (Some r) e there says = (r, e, says)

skipped_or : (b : Bool) (x : Checked Fraction) (c : Fraction) (f : Fraction → Checked Fraction) (next : Fraction → Checked Fraction)
    → (let y : Checked Fraction = if b then next c else and_then x (λ p. and_then (f p) next) in y) ≡ and_then (if b then Ok c else and_then x f) next
skipped_or true x c f next = refl
skipped_or false (Err e) c f next = refl
skipped_or false (Ok p) c f next = refl

pub right_more : (P : Problem) (earlier : List Row) (es : List CutEntry) (i : ℕ) (d : CutEntry) (right : ℤ) (sum : Fraction) → i < length es → AreUsable P earlier es
    → IfSome (row_on P earlier (get_or es i d).on) (λ row. right ≡ row.right)
    → add_right_sides (rows_on P earlier (drop i es)) sum
    ≡ and_then (add_product (get_or es i d).by right sum) (λ s. add_right_sides (rows_on P earlier (drop (i + 1) es)) s)
right_more P earlier es i d right sum h usable is =
    let r = row_with P earlier (get_or es i d).on (λ row. right ≡ row.right) (usable i d h) is in
    ap (λ ws. add_right_sides ws sum) (rows_more P earlier es i d r.0 h r.1)
    ∙ rw (sym r.2) (skipped_or false (multiplied (get_or es i d).by (whole right)) sum (λ p. added sum p) (λ s. add_right_sides (rows_on P earlier (drop (i + 1) es)) s))

pub coefficient_more : (P : Problem) (earlier : List Row) (es : List CutEntry) (i : ℕ) (d : CutEntry) (var : ℕ) (k : ℤ) (sum : Fraction) → i < length es → AreUsable P earlier es
    → IfSome (row_on P earlier (get_or es i d).on) (λ row. k ≡ coefficient row.terms var)
    → add_coefficients var (rows_on P earlier (drop i es)) sum
    ≡ and_then (add_multiple (get_or es i d).by k sum) (λ s. add_coefficients var (rows_on P earlier (drop (i + 1) es)) s)
coefficient_more P earlier es i d var k sum h usable is =
    let r = row_with P earlier (get_or es i d).on (λ row. k ≡ coefficient row.terms var) (usable i d h) is in
    let by = (get_or es i d).by in
    ap (λ ws. add_coefficients var ws sum) (rows_more P earlier es i d r.0 h r.1)
    ∙ rw (sym r.2) (skipped_or (int_eq k (pos 0)) (multiplied by (whole k)) sum (λ p. added sum p) (λ s. add_coefficients var (rows_on P earlier (drop (i + 1) es)) s))
