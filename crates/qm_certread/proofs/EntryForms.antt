-- Entries that words say are in form.
use Rattle.std.proofs.Common.{◌≡◌, ◌≢◌, ℕ, zero, suc, ◌-◌, ◌<◌, ◌^◌, Bool, true, false, ◌&&◌, List, [], ◌∷◌, ◌++◌, get_or, ℤ, pos, negsuc, ◌*ℤ◌, ◌<ℤ◌, unsigned_abs, Option, None, Some, Ok, Err, refl, sym, ap, ap₂, ◌∙◌, subst, inl, inr, arith}
use Rattle.std.specs.Prelude.{All, ◌||◌, ◌==◌, ◌⊎◌, nat_lt, int_lt, if◌then◌else◌}
use Rattle.std.specs.Option.{option_map}
use Rattle.std.proofs.lemmas.Bool.Decides.{nat_tests}
use Rattle.std.proofs.lemmas.List.Elements.{All-cons, All-nil}
use Rattle.std.proofs.lemmas.Int.{ints}
use Rattle.qm_math.specs.Fraction.{Fraction}
use Rattle.qm_frac.specs.Gcd.{gcd_of}
use Rattle.qm_frac.specs.Lowest.{IsFrac, IsInRange}
use Rattle.qm_frac.proofs.Divisors.{gcd_of-one}
use Rattle.qm_model.specs.declared.row_id.RowId.{RowId}
use Rattle.qm_text.specs.Digits.{is_plain_numeral, numeral_value}
use Rattle.qm_text.specs.Numbers.{SpellsFraction, SpellsWhole}
use Rattle.qm_trees.specs.declared.combination.Entry.{Entry}
use Rattle.qm_trees.specs.Entries.{AreEntries, AreWellFormed, IsBefore, IsPositive}
use Rattle.qm_certread.specs.declared.fault.Misread.TheVariants as rule
use Rattle.qm_certfile.specs.Lines.{Word}
use Rattle.qm_certread.specs.Spelling.{Said, Written, are_in_order, as_fraction, as_row, cut_at, each, entry_of, entry_row, entry_said, fraction_of, fraction_word, is_before, is_in_range, kind_of, multiplier_word, of_type, row_id, whole_of, with_both, written, written_row}
use Rattle.qm_certread.proofs.Quotients.{fraction_some, is_range}
use Rattle.qm_certread.proofs.RowOrder.{both, is_counting_by, counting_some}

-- ---- multipliers

pub typed_by : {V A : Type 0} (as_typed : V → Option A) (found : Option V) (a : A) → of_type as_typed found ≡ Ok a → (v : V) × (found ≡ Some v) × (as_typed v ≡ Some a)
typed_by {V} {A} as_typed None a e = absurd cc
typed_by {V} {A} as_typed (Some v) a e =
    elim (as_typed v) as (λ (o : Option A). as_typed v ≡ o → (elim o as (λ _. Said A) [ None ↦ Err rule.Number | Some b ↦ Ok b ]) ≡ Ok a → (w : V) × (Some v ≡ Some w) × (as_typed w ≡ Some a)) [
      | None ↦ λ is f. absurd cc
      | Some b ↦ λ is f. let same : b ≡ a = cc in (v, refl, is ∙ ap Some same)
    ] refl e

range_by : (t : Bool) (v a : Fraction) → is_in_range v ≡ t → (if t then Some v else None) ≡ Some a → (v ≡ a) × IsInRange a
range_by true v a is e = let same : v ≡ a = cc in (same, subst IsInRange same (is_range v is))
range_by false v a is e = absurd cc

pub fraction_told : (word : List ℕ) (a : Fraction) → fraction_word word ≡ Ok a → SpellsFraction word a × IsInRange a
fraction_told word a e =
    let typed = typed_by as_fraction (fraction_of word) a e in
    let range = range_by (is_in_range typed.0) typed.0 a refl typed.2 in
    (subst (SpellsFraction word) range.0 (fraction_some word typed.0 typed.1), range.1)

pub frac_told : (word : List ℕ) (a : Fraction) → SpellsFraction word a → IsInRange a → IsFrac a
frac_told word a (inl (h, e)) range = record {
  positive = omega arith;
  lowest = ap (gcd_of (unsigned_abs a.num)) e ∙ gcd_of-one (unsigned_abs a.num);
  num_fits = range.num_fits;
  den_fits = range.den_fits;
}
frac_told word a (inr (q, inl e)) range = let two = q.broken in record { positive = omega arith; lowest = e; num_fits = range.num_fits; den_fits = range.den_fits }
frac_told word a (inr (q, inr h)) range = absurd (h range)

-- a whole number whose word begins with neither a minus nor a zero
above_zero : (word : List ℕ) (z : ℤ) → SpellsWhole word z → get_or word 0 0 ≢ 45 → get_or word 0 0 ≢ 48 → (n : ℕ) × (z ≡ pos (suc n))
above_zero word (pos n) h minus first =
    let some = counting_some word (is_counting_by word h.0 first) in
    let value : n ≡ numeral_value word = h.1 in
    (n - 1, ap pos (omega arith))
above_zero word (negsuc n) h minus first = absurd (minus (ap (λ w. get_or w 0 0) h.1))

pub first_above : (word above below : List ℕ) (z : ℤ) → word ≡ above ++ 47 ∷ below → SpellsWhole above z → get_or word 0 0 ≡ get_or above 0 0
first_above word [] below (pos n) parts h = absurd (let no : is_plain_numeral [] ≡ true = h.0 in cc)
first_above word [] below (negsuc n) parts h = absurd (let no : [] ≡ 45 ∷ h.0 = h.1 in cc)
first_above word (b ∷ above) below z parts h = ap (λ w. get_or w 0 0) parts

num_above : (word : List ℕ) (a : Fraction) → SpellsFraction word a → get_or word 0 0 ≢ 45 → get_or word 0 0 ≢ 48 → (n : ℕ) × (a.num ≡ pos (suc n))
num_above word a (inl (h, e)) minus first = above_zero word a.num h minus first
num_above word a (inr (q, k)) minus first =
    let same = first_above word q.above q.below a.num q.parts q.num in
    above_zero q.above a.num q.num (λ e. minus (same ∙ e)) (λ e. first (same ∙ e))

positive_by : (e : Entry) (n : ℕ) → 0 < e.by.den → e.by.num ≡ pos (suc n) → IsPositive e
positive_by e n den is = (den, subst (λ (z : ℤ). (pos 0 *ℤ pos e.by.den) <ℤ (z *ℤ pos 1)) (sym is) (omega (arith, ints)))

pub neither : (t : Bool) (word : List ℕ) (a : Fraction) → (get_or word 0 0 == 45 || get_or word 0 0 == 48) ≡ t → (if t then Err rule.Text else fraction_word word) ≡ Ok a
    → (get_or word 0 0 ≢ 45) × (get_or word 0 0 ≢ 48) × (fraction_word word ≡ Ok a)
neither true word a is e = absurd cc
neither false word a is e = (λ h. absurd (grind (arith, nat_tests)), λ h. absurd (grind (arith, nat_tests)), e)

-- ---- rows

pub record RowFrom (found : Option Written) (row : RowId) : Type 0 where
  pub at : Written
  pub number : ℕ
  pub found_is : found ≡ Some at
  pub kind : at.kind < 3
  pub number_is : at.number ≡ pos (suc number)
  pub row_is : row ≡ row_id at.kind number

kind_by : (a b c : Bool) (kind : ℕ) → (if a then Some 0 else (if b then Some 1 else (if c then Some 2 else None))) ≡ Some kind → kind < 3
kind_by true b c kind e = let same : 0 ≡ kind = cc in omega arith
kind_by false true c kind e = let same : 1 ≡ kind = cc in omega arith
kind_by false false true kind e = let same : 2 ≡ kind = cc in omega arith
kind_by false false false kind e = absurd cc

as_row_by : (t : Bool) (kind n : ℕ) (row : RowId) → nat_lt (suc n) (2 ^ 32) ≡ t → option_map (λ m. row_id kind (m - 1)) (if t then Some (suc n) else None) ≡ Some row → row ≡ row_id kind n
as_row_by true kind n row is e = let same : row_id kind (suc n - 1) ≡ row = cc in let before : suc n - 1 ≡ n = omega arith in sym same ∙ ap (row_id kind) before
as_row_by false kind n row is e = absurd cc

row_by : (kind : Option ℕ) (found : Option ℤ) (row : RowId) → ((k : ℕ) → kind ≡ Some k → k < 3) → of_type as_row (written kind found) ≡ Ok row → RowFrom (written kind found) row
row_by None found row small e = absurd cc
row_by (Some k) None row small e = absurd cc
row_by (Some k) (Some (pos zero)) row small e = absurd cc
row_by (Some k) (Some (pos (suc n))) row small e =
    let typed = typed_by as_row (Some (record { kind = k; number = pos (suc n) })) row e in
    let same : record { kind = k; number = pos (suc n) } ≡ typed.0 = cc in
    let is : as_row (record { kind = k; number = pos (suc n) }) ≡ Some row = ap as_row same ∙ typed.2 in
    record { at = record { kind = k; number = pos (suc n) }; number = n; found_is = refl; kind = small k refl; number_is = refl; row_is = as_row_by (nat_lt (suc n) (2 ^ 32)) k n row refl is }
row_by (Some k) (Some (negsuc n)) row small e =
    let typed = typed_by as_row (Some (record { kind = k; number = negsuc n })) row e in
    let same : record { kind = k; number = negsuc n } ≡ typed.0 = cc in
    let is : as_row (record { kind = k; number = negsuc n }) ≡ Some row = ap as_row same ∙ typed.2 in
    absurd cc

row_told : (word : List ℕ) (row : RowId) → of_type as_row (written_row word) ≡ Ok row → RowFrom (written_row word) row
row_told [] row e = absurd cc
row_told (letter ∷ word) row e = row_by (kind_of letter) (whole_of word) row (λ k is. kind_by (letter == 114) (letter == 117) (letter == 99) k is) e

before_by : (k l m n : ℕ) → k < 3 → l < 3 → (k < l) ⊎ ((k ≡ l) × (m < n)) → IsBefore (row_id k m) (row_id l n)
before_by zero zero m n p q (inl h) = absurd (omega arith)
before_by zero zero m n p q (inr h) = h.1
before_by zero (suc zero) m n p q h = tt
before_by zero (suc (suc l)) m n p q h = tt
before_by (suc zero) zero m n p q (inl h) = absurd (omega arith)
before_by (suc zero) zero m n p q (inr h) = absurd (omega (arith, h.0))
before_by (suc zero) (suc zero) m n p q (inl h) = absurd (omega arith)
before_by (suc zero) (suc zero) m n p q (inr h) = h.1
before_by (suc zero) (suc (suc l)) m n p q h = tt
before_by (suc (suc k)) zero m n p q (inl h) = absurd (omega arith)
before_by (suc (suc k)) zero m n p q (inr h) = absurd (omega (arith, h.0))
before_by (suc (suc k)) (suc zero) m n p q (inl h) = absurd (omega arith)
before_by (suc (suc k)) (suc zero) m n p q (inr h) = absurd (omega (arith, h.0))
before_by (suc (suc k)) (suc (suc l)) m n p q (inl h) = absurd (omega arith)
before_by (suc (suc k)) (suc (suc l)) m n p q (inr h) = h.1

either : (a b : Bool) → a || b ≡ true → (a ≡ true) ⊎ (b ≡ true)
either true b e = inl refl
either false b e = inr e

order_by : (k l m n : ℕ) → nat_lt k l || (k == l && int_lt (pos (suc m)) (pos (suc n))) ≡ true → (k < l) ⊎ ((k ≡ l) × (m < n))
order_by k l m n e =
    elim (either (nat_lt k l) (k == l && int_lt (pos (suc m)) (pos (suc n))) e) [
      | inl h ↦ let less : nat_lt k l ≡ true = h in inl (grind (arith, nat_tests))
      | inr h ↦ let pair = both (k == l) (int_lt (pos (suc m)) (pos (suc n))) h in
          let first : (k == l) ≡ true = pair.0 in
          let second : nat_lt (suc m) (suc n) ≡ true = pair.1 in
          let number : suc m < suc n = grind (arith, nat_tests) in
          inr (grind (arith, nat_tests), omega arith)
    ]

rows_before : (x y : Option Written) (r s : RowId) → RowFrom x r → RowFrom y s → is_before x y ≡ true → IsBefore r s
rows_before x y r s p q e =
    let here : is_before (Some p.at) (Some q.at) ≡ true = ap₂ is_before (sym p.found_is) (sym q.found_is) ∙ e in
    let there : nat_lt p.at.kind q.at.kind || (p.at.kind == q.at.kind && int_lt (pos (suc p.number)) (pos (suc q.number))) ≡ true =
    ap₂ (λ (a : ℤ) (b : ℤ). nat_lt p.at.kind q.at.kind || (p.at.kind == q.at.kind && int_lt a b)) (sym p.number_is) (sym q.number_is) ∙ here in
    subst (λ (t : RowId). IsBefore t s) (sym p.row_is)
    (subst (λ (t : RowId). IsBefore (row_id p.at.kind p.number) t) (sym q.row_is)
    (before_by p.at.kind q.at.kind p.number q.number p.kind q.kind (order_by p.at.kind q.at.kind p.number q.number there)))

-- ---- entries

pub record EntryFrom (word : List ℕ) (e : Entry) : Type 0 where
  pub row : RowFrom (entry_row word) e.row
  pub positive : IsPositive e
  pub frac : IsFrac e.by

both_ok : (row : Said RowId) (by : Said Fraction) (e : Entry) → with_both entry_of row by ≡ Ok e → (row ≡ Ok e.row) × (by ≡ Ok e.by)
both_ok (Ok r) (Ok b) e is = let same : entry_of r b ≡ e = cc in (ap (λ (x : Entry). Ok x.row) same, ap (λ (x : Entry). Ok x.by) same)
both_ok (Ok r) (Err f) e is = absurd cc
both_ok (Err f) (Ok b) e is = absurd cc
both_ok (Err f) (Err g) e is = absurd cc

abbrev said_of : Option (Word × Word) → Said Entry
said_of None = Err rule.Text
said_of (Some parts) = with_both entry_of (of_type as_row (written_row parts.0)) (multiplier_word parts.1)

abbrev row_of : Option (Word × Word) → Option Written
row_of None = None
row_of (Some parts) = written_row parts.0

entry_by : (word : List ℕ) (found : Option (Word × Word)) (e : Entry) → cut_at 61 word ≡ found → said_of found ≡ Ok e → EntryFrom word e
entry_by word None e is f = absurd cc
entry_by word (Some (x, y)) e is f =
    let parts = both_ok (of_type as_row (written_row x)) (multiplier_word y) e f in
    let by = neither (get_or y 0 0 == 45 || get_or y 0 0 == 48) y e.by refl parts.1 in
    let told = fraction_told y e.by by.2 in
    let frac = frac_told y e.by told.0 told.1 in
    let num = num_above y e.by told.0 by.0 by.1 in
    record {
      row = subst (λ (o : Option Written). RowFrom o e.row) (sym (ap row_of is)) (row_told x e.row parts.0);
      positive = positive_by e num.0 frac.positive num.1;
      frac = frac;
    }

pub entry_told : (word : List ℕ) (e : Entry) → entry_said word ≡ Ok e → EntryFrom word e
entry_told word e is = entry_by word (cut_at 61 word) e refl is

each_ok : (word : List ℕ) (words : List Word) (first : Said Entry) (rest : Said (List Entry)) (es : List Entry) → with_both (λ e rest. e ∷ rest) first rest ≡ Ok es
    → (e : Entry) × (more : List Entry) × (es ≡ e ∷ more) × (first ≡ Ok e) × (rest ≡ Ok more)
each_ok word words (Ok e) (Ok more) es is = let same : e ∷ more ≡ es = cc in (e, more, sym same, refl, refl)
each_ok word words (Ok e) (Err f) es is = absurd cc
each_ok word words (Err f) (Ok more) es is = absurd cc
each_ok word words (Err f) (Err g) es is = absurd cc

one_frac : (e : Entry) → IsFrac e.by → All (λ e. IsFrac e.by) (e ∷ [])
one_frac e h = All-cons (λ (e : Entry). IsFrac e.by) e [] h (All-nil (λ (e : Entry). IsFrac e.by))

more_frac : (e : Entry) (es : List Entry) → IsFrac e.by → All (λ e. IsFrac e.by) es → All (λ e. IsFrac e.by) (e ∷ es)
more_frac e es h rest = All-cons (λ (e : Entry). IsFrac e.by) e es h rest

pub entries_told : (words : List Word) (es : List Entry) → each entry_said words ≡ Ok es → are_in_order words ≡ true → AreEntries es × All (λ e. IsFrac e.by) es
entries_told [] es e order = let none : [] ≡ es = cc in subst (λ l. AreEntries l × All (λ e. IsFrac e.by) l) none (tt, λ k d h. absurd (omega arith))
entries_told (word ∷ []) es e order =
    let first = each_ok word [] (entry_said word) (each entry_said []) es e in
    let none : [] ≡ first.1 = cc in
    let told = entry_told word first.0 first.3 in
    subst (λ l. AreEntries l × All (λ e. IsFrac e.by) l) (ap (λ l. first.0 ∷ l) none ∙ sym first.2) (told.positive, one_frac first.0 told.frac)
entries_told (word ∷ next ∷ words) es e order =
    let first = each_ok word (next ∷ words) (entry_said word) (each entry_said (next ∷ words)) es e in
    let second = each_ok next words (entry_said next) (each entry_said words) first.1 first.4 in
    let pair = both (is_before (entry_row word) (entry_row next)) (are_in_order (next ∷ words)) order in
    let told = entry_told word first.0 first.3 in
    let other = entry_told next second.0 second.3 in
    let rest = entries_told (next ∷ words) first.1 first.4 pair.1 in
    let before = rows_before (entry_row word) (entry_row next) first.0.row second.0.row told.row other.row pair.0 in
    let behind = subst (λ l. AreEntries l × All (λ e. IsFrac e.by) l) second.2 rest in
    subst (λ l. AreEntries l × All (λ e. IsFrac e.by) l) (sym (first.2 ∙ ap (λ l. first.0 ∷ l) second.2))
    ((told.positive, before, behind.0), more_frac first.0 (second.0 ∷ second.1) told.frac behind.1)

pub entries_formed : (words : List Word) (es : List Entry) → each entry_said words ≡ Ok es → are_in_order words ≡ true → AreWellFormed es
entries_formed words es e order = entries_told words es e order
