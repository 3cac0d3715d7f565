-- A search through a range finds exactly what is there.
use Rattle.std.proofs.Common.{◌≡◌, ℕ, zero, suc, Bool, true, false, arith, refl, subst, ℤ, pos, ◌+ℤ◌, ◌≤ℤ◌}
use Rattle.std.specs.Prelude.{negsuc, ◌-ℤ◌, ◌||◌}
use Rattle.std.proofs.lemmas.Int.{ints, by_lt_z}
use Rattle.qm_math.specs.Ranges.{IsBetween, count_of, size_of, some_of, some_between}

-- n numbers from low on reach up to high
record Spans (low high : ℤ) (n : ℕ) : Type 0 where
  pub last : low +ℤ pos n ≡ high +ℤ pos 1

-- a number from low on, and the test of it
record Found (test : ℤ → Bool) (low high : ℤ) : Type 0 where
  pub value : ℤ
  pub between : IsBetween low high value
  pub passes : test value ≡ true

or_cases : (a b : Bool) (P : Type 0) → a || b ≡ true → (a ≡ true → P) → (b ≡ true → P) → P
or_cases true b P e left right = left refl
or_cases false b P e left right = right e

or_left : (a b : Bool) → a ≡ true → a || b ≡ true
or_left true b e = refl
or_left false b e = cc

or_right : (a b : Bool) → b ≡ true → a || b ≡ true
or_right true b e = refl
or_right false b e = e

found_of : (test : ℤ → Bool) (low high : ℤ) (n : ℕ) → Spans low high n → some_of test low n ≡ true → Found test low high
found_of test low high zero spans e = cc
found_of test low high (suc n) spans e =
    or_cases (test low) (some_of test (low +ℤ pos 1) n) (Found test low high) e
    (λ here. record { value = low; between = (omega (arith, ints), omega (arith, ints, spans.last)); passes = here })
    (λ later.
    let further : Spans (low +ℤ pos 1) high n = record { last = omega (arith, ints, spans.last) } in
    let there = found_of test (low +ℤ pos 1) high n further later in
    record { value = there.value; between = (omega (arith, ints, there.between.0), there.between.1); passes = there.passes })

of_found : (test : ℤ → Bool) (low high : ℤ) (n : ℕ) (v : ℤ) → Spans low high n → IsBetween low high v → test v ≡ true → some_of test low n ≡ true
of_found test low high zero v spans between e = absurd (omega (arith, ints, spans.last, between.0, between.1))
of_found test low high (suc n) v spans between e =
    by_lt_z low v
    (λ later.
    let further : Spans (low +ℤ pos 1) high n = record { last = omega (arith, ints, spans.last) } in
    or_right (test low) (some_of test (low +ℤ pos 1) n)
    (of_found test (low +ℤ pos 1) high n v further (omega (arith, ints), between.1) e))
    (λ here.
    let same : v ≡ low = omega (arith, ints, between.0) in
    or_left (test low) (some_of test (low +ℤ pos 1) n) (subst (λ w. test w ≡ true) same e))

-- a range is empty, or its numbers are as many as its size says
count_is : (z : ℤ) → z ≤ℤ pos 0 → count_of z ≡ 0
count_is (pos n) h = omega (arith, ints, h)
count_is (negsuc n) h = refl

pub count_pos : (z : ℤ) → pos 0 ≤ℤ z → pos (count_of z) ≡ z
count_pos (pos n) h = refl
count_pos (negsuc n) h = absurd (omega (arith, ints, h))

none_of : (test : ℤ → Bool) (low : ℤ) (n : ℕ) → n ≡ 0 → some_of test low n ≡ false
none_of test low zero e = refl
none_of test low (suc n) e = absurd (omega arith)

spans_size : (low high : ℤ) → low ≤ℤ high → Spans low high (size_of low high)
spans_size low high h =
    let e = count_pos ((high +ℤ pos 1) -ℤ low) (omega (arith, ints)) in
    record { last = omega (arith, ints, e) }

pub some_between_found : (test : ℤ → Bool) (low high : ℤ) → some_between test low high ≡ true → (v : ℤ) × IsBetween low high v × (test v ≡ true)
some_between_found test low high e =
    by_lt_z high low
    (λ none.
    let size = count_is ((high +ℤ pos 1) -ℤ low) (omega (arith, ints)) in
    let no = none_of test low (size_of low high) size in
    absurd (cc (e, no)))
    (λ some.
    let found = found_of test low high (size_of low high) (spans_size low high some) e in
    (found.value, found.between, found.passes))

pub some_between_holds : (test : ℤ → Bool) (low high v : ℤ) → IsBetween low high v → test v ≡ true → some_between test low high ≡ true
some_between_holds test low high v between e =
    of_found test low high (size_of low high) v (spans_size low high (omega (arith, ints, between.0, between.1))) between e
