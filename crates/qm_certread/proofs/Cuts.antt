-- The pieces between bytes, by the first of these bytes.
use Rattle.std.proofs.Common.{◌≡◌, ◌≢◌, ℕ, zero, suc, ◌+◌, ◌<◌, Bool, true, false, List, [], ◌∷◌, length, take, drop, get_or, refl, sym, ap, ap₂, ◌∙◌, add-one, arith, None, Some}
use Rattle.std.specs.List.{slice_split, onto_first}
use Rattle.std.proofs.lemmas.List.Splits.{slice_split-cons_yes, slice_split-cons_no}
use Rattle.std.proofs.lemmas.List.{take_all}
use Rattle.std.specs.Prelude.{◌-◌, ◌==◌}
use Rattle.std.proofs.lemmas.List.{length-drop}
use Rattle.memchr.specs.Find.{is_byte, IsFirstByte}
use Rattle.qm_certread.specs.Spelling.{cut_at, with_front}

is_false : (b : Bool) → b ≢ true → b ≡ false
is_false true h = absurd (h refl)
is_false false h = refl

cut_none : (test : ℕ → Bool) (bytes : List ℕ) → ((k : ℕ) → k < length bytes → test (get_or bytes k 0) ≢ true) → slice_split test bytes ≡ bytes ∷ []
cut_none test [] none = refl
cut_none test (b ∷ bytes) none =
    slice_split-cons_no test b bytes (is_false (test b) (none 0 (omega arith)))
    ∙ ap (onto_first b) (cut_none test bytes (λ k h. none (suc k) (omega arith)))

cut_there : (test : ℕ → Bool) (bytes : List ℕ) (at : ℕ) → at < length bytes → ((k : ℕ) → k < at → test (get_or bytes k 0) ≢ true) → test (get_or bytes at 0) ≡ true
    → slice_split test bytes ≡ take at bytes ∷ slice_split test (drop (suc at) bytes)
cut_there test [] at h none here = absurd (omega arith)
cut_there test (b ∷ bytes) zero h none here = slice_split-cons_yes test b bytes here
cut_there test (b ∷ bytes) (suc at) h none here =
    slice_split-cons_no test b bytes (is_false (test b) (none 0 (omega arith)))
    ∙ ap (onto_first b) (cut_there test bytes at (omega arith) (λ k l. none (suc k) (omega arith)) here)

part_none : (mark : ℕ) (word : List ℕ) → ((k : ℕ) → k < length word → is_byte mark (get_or word k 0) ≢ true) → cut_at mark word ≡ None
part_none mark [] none = refl
part_none mark (b ∷ word) none =
    let here : (b == mark) ≡ false = is_false (b == mark) (none 0 (omega arith)) in
    rw here (ap (with_front b) (part_none mark word (λ k h. none (suc k) (omega arith))))

part_some : (mark : ℕ) (word : List ℕ) (at : ℕ) → at < length word → ((k : ℕ) → k < at → is_byte mark (get_or word k 0) ≢ true) → is_byte mark (get_or word at 0) ≡ true
    → cut_at mark word ≡ Some (take at word, drop (suc at) word)
part_some mark [] at h none here = absurd (omega arith)
part_some mark (b ∷ word) zero h none here = rw here refl
part_some mark (b ∷ word) (suc at) h none here =
    let first : (b == mark) ≡ false = is_false (b == mark) (none 0 (omega arith)) in
    rw first (ap (with_front b) (part_some mark word at (omega arith) (λ k l. none (suc k) (omega arith)) here))

-- what stands behind a place, as code takes it
pub behind_is : (word : List ℕ) (at : ℕ) → take (length word - at) (drop at word) ≡ drop at word
behind_is word at = let len = length-drop at word in take_all (length word - at) (drop at word) (omega arith)

pub parted : (mark : ℕ) (word : List ℕ) (at : ℕ) → IsFirstByte (is_byte mark) word (Some at) → cut_at mark word ≡ Some (take at word, drop (at + 1) word)
parted mark word at first =
    let high = first.0.high in
    part_some mark word at high (λ k h. first.0.before k (omega arith) h) first.1 ∙ ap (λ n. Some (take at word, drop n word)) (sym (add-one at))

pub unparted : (mark : ℕ) (word : List ℕ) → IsFirstByte (is_byte mark) word None → cut_at mark word ≡ None
unparted mark word first = part_none mark word (λ k h. first k (omega arith) h)

pub split_there : (c : ℕ) (bytes : List ℕ) (at : ℕ) → IsFirstByte (is_byte c) bytes (Some at) → slice_split (is_byte c) bytes ≡ take at bytes ∷ slice_split (is_byte c) (drop (at + 1) bytes)
split_there c bytes at first =
    let high = first.0.high in
    cut_there (is_byte c) bytes at high (λ k h. first.0.before k (omega arith) h) first.1 ∙ ap (λ n. take at bytes ∷ slice_split (is_byte c) (drop n bytes)) (sym (add-one at))

pub split_nowhere : (c : ℕ) (bytes : List ℕ) → IsFirstByte (is_byte c) bytes None → slice_split (is_byte c) bytes ≡ bytes ∷ []
split_nowhere c bytes first = cut_none (is_byte c) bytes (λ k h. first k (omega arith) h)

-- as code takes them
pub parted_there : (mark : ℕ) (word : List ℕ) (at : ℕ) (front back : List ℕ) → IsFirstByte (is_byte mark) word (Some at) → front ≡ take at word → back ≡ take (length word - (at + 1)) (drop (at + 1) word)
    → cut_at mark word ≡ Some (front, back)
parted_there mark word at front back first e f =
    parted mark word at first ∙ ap₂ (λ (x : List ℕ) (y : List ℕ). Some (x, y)) (sym e) (sym (f ∙ behind_is word (at + 1)))
