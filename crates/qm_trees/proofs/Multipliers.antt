-- Multipliers above 0: what they say of the rows that they weigh, and the tests of entries.
use Rattle.std.proofs.Common.{◌≡◌, ◌*ℤ◌, List, [], ◌∷◌, All, Option, Some, None, pos, refl, true}
use Rattle.std.specs.Prelude.{◌↔◌, ◌&&◌, ◌==◌, ◌^◌, nat_lt, is_some, IsSome, unsigned_abs}
use Rattle.std.specs.Bool.{Decides}
use Rattle.std.specs.List.{cons_option, list_all}
use Rattle.std.specs.Option.{option_map}
use Rattle.std.proofs.lemmas.Bool.Decides.{Decides-and, Decides-eqb, Decides-ltb, Decides-by_and}
use Rattle.std.proofs.lemmas.List.Elements.{All-cons, All-nil, All-head, All-tail}
use Rattle.qm_math.specs.Fraction.{Fraction, HasPositiveDen, whole, IsAtMost, IsBelow, is_below}
use Rattle.qm_math.proofs.Compare.{below_at_most_weak}
use Rattle.qm_math.proofs.WholeTests.{lt_of_test, test_of_lt}
use Rattle.qm_frac.specs.Gcd.{gcd_of}
use Rattle.qm_frac.specs.Lowest.{IsFrac}
use Rattle.qm_model.specs.declared.row.Row.{Row}
use Rattle.qm_model.specs.declared.row_id.RowId.{RowId}
use Rattle.qm_model.specs.declared.row_id.RowId.TheVariants as id
use Rattle.qm_model.specs.declared.game.Problem.{Problem}
use Rattle.qm_trees.specs.declared.combination.Entry.{Entry}
use Rattle.qm_trees.specs.Fractions.{is_frac, are_fracs}
use Rattle.qm_trees.specs.Entries.{AreEntries, AreWellFormed, IsBefore, IsPositive, is_before, is_positive, are_entries, are_well_formed, row_named, Weighted, with_row, weighted_rows}
use Rattle.qm_trees.specs.RefuteJudgement.{all_named}
use Rattle.qm_trees.specs.RefuteRight.{AreNamed}
use Rattle.qm_trees.proofs.Lines.{always, never}

-- ---- what holds of each multiplier holds of those of the weighted rows

-- what holds of the row that is there, and of the others, holds of all
pub all_put : (Q : Weighted → Type 0) (by : Fraction) (o : Option Row) (ws : List Weighted) → ((row : Row) → o ≡ Some row → Q (with_row by row)) → All Q ws
    → All Q (cons_option (option_map (with_row by) o) ws)
all_put Q by None ws h others = others
all_put Q by (Some row) ws h others = All-cons Q (with_row by row) ws (h row refl) others

weighted_each : (P : Problem) (cuts : List Row) (Q : Fraction → Type 0) (es : List Entry) → ((e : Entry) → IsPositive e → Q e.by) → All IsPositive es → All (λ (w : Weighted). Q w.by) (weighted_rows P cuts es)
weighted_each P cuts Q [] says h = All-nil (λ (w : Weighted). Q w.by)
weighted_each P cuts Q (e ∷ es) says h =
    all_put (λ (w : Weighted). Q w.by) e.by (row_named P cuts e.row) (weighted_rows P cuts es) (λ row at. says e (All-head IsPositive e es h))
    (weighted_each P cuts Q es says (All-tail IsPositive e es h))

pub weighted_dens : (P : Problem) (cuts : List Row) (es : List Entry) → All IsPositive es → All (λ (w : Weighted). HasPositiveDen w.by) (weighted_rows P cuts es)
weighted_dens P cuts es h = weighted_each P cuts HasPositiveDen es (λ e positive. positive.0) h

pub weighted_not_negative : (P : Problem) (cuts : List Row) (es : List Entry) → All IsPositive es → All (λ (w : Weighted). IsAtMost (whole (pos 0)) w.by) (weighted_rows P cuts es)
weighted_not_negative P cuts es h = weighted_each P cuts (IsAtMost (whole (pos 0))) es (λ e positive. below_at_most_weak (whole (pos 0)) e.by positive.1) h

-- ---- the tests of entries

below_says : (a b : Fraction) → Decides (is_below a b) (IsBelow a b)
below_says a b = (lt_of_test (a.num *ℤ pos b.den) (b.num *ℤ pos a.den), test_of_lt (a.num *ℤ pos b.den) (b.num *ℤ pos a.den))

positive_says : (e : Entry) → Decides (is_positive e) (IsPositive e)
positive_says e = Decides-and (nat_lt 0 e.by.den) (is_below (whole (pos 0)) e.by) (Decides-ltb 0 e.by.den) (below_says (whole (pos 0)) e.by)

frac_says : (r : Fraction) → Decides (is_frac r) (IsFrac r)
frac_says r =
    let lowest = gcd_of (unsigned_abs r.num) r.den == 1 in
    let num = nat_lt (unsigned_abs r.num) (2 ^ 127) in
    let den = nat_lt r.den (2 ^ 127) in
    let first = Decides-and (nat_lt 0 r.den) lowest (Decides-ltb 0 r.den) (Decides-eqb (gcd_of (unsigned_abs r.num) r.den) 1) in
    let second = Decides-and (nat_lt 0 r.den && lowest) num first (Decides-ltb (unsigned_abs r.num) (2 ^ 127)) in
    let all = Decides-and (nat_lt 0 r.den && lowest && num) den second (Decides-ltb r.den (2 ^ 127)) in (
      λ e. (let h = all.0 e in record { positive = h.0.0.0; lowest = h.0.0.1; num_fits = h.0.1; den_fits = h.1 }),
      λ h. all.1 (((h.positive, h.lowest), h.num_fits), h.den_fits),
    )

pub fracs_say : (values : List Fraction) → (are_fracs values ≡ true) ↔ All IsFrac values
fracs_say values = Decides-by_and is_frac IsFrac are_fracs frac_says refl (λ _ _. refl) values

before_says : (a b : RowId) → Decides (is_before a b) (IsBefore a b)
before_says (id.Row m) (id.Row n) = Decides-ltb m n
before_says (id.Row m) (id.Uncertain n) = always
before_says (id.Row m) (id.Cut n) = always
before_says (id.Uncertain m) (id.Row n) = never
before_says (id.Uncertain m) (id.Uncertain n) = Decides-ltb m n
before_says (id.Uncertain m) (id.Cut n) = always
before_says (id.Cut m) (id.Row n) = never
before_says (id.Cut m) (id.Uncertain n) = never
before_says (id.Cut m) (id.Cut n) = Decides-ltb m n

entries_say : (es : List Entry) → Decides (are_entries es) (AreEntries es)
entries_say [] = always
entries_say (e ∷ []) = positive_says e
entries_say (e ∷ f ∷ es) =
    let both = Decides-and (is_positive e) (is_before e.row f.row) (positive_says e) (before_says e.row f.row) in
    let all = Decides-and (is_positive e && is_before e.row f.row) (are_entries (f ∷ es)) both (entries_say (f ∷ es)) in
    (λ t. (let h = all.0 t in (h.0.0, h.0.1, h.1)), λ h. all.1 ((h.0, h.1), h.2))

pub well_formed_says : (es : List Entry) → (are_well_formed es ≡ true) ↔ AreWellFormed es
well_formed_says es =
    Decides-and (are_entries es) (list_all (λ e. is_frac e.by) es) (entries_say es)
    (Decides-by_and (λ (e : Entry). is_frac e.by) (λ (e : Entry). IsFrac e.by) (list_all (λ e. is_frac e.by)) (λ e. frac_says e.by) refl (λ _ _. refl) es)

pub all_named-says : (P : Problem) (cuts : List Row) (es : List Entry) → (all_named P cuts es ≡ true) ↔ AreNamed P cuts es
all_named-says P cuts es =
    Decides-by_and (λ (e : Entry). is_some (row_named P cuts e.row)) (λ (e : Entry). IsSome (row_named P cuts e.row)) (all_named P cuts) (λ e. (λ h. h, λ h. h)) refl (λ _ _. refl) es

-- ---- the entries of a combination

each_positive : (e : Entry) (es : List Entry) → AreEntries (e ∷ es) → All IsPositive (e ∷ es)
each_positive e [] h = All-cons IsPositive e [] h (All-nil IsPositive)
each_positive e (f ∷ es) h = All-cons IsPositive e (f ∷ es) h.0 (each_positive f es h.2)

pub entries_positive : (es : List Entry) → AreEntries es → All IsPositive es
entries_positive [] h = All-nil IsPositive
entries_positive (e ∷ es) h = each_positive e es h
