-- The lines of parts are right exactly where the ranges cover, and what stands below each is fine.
use Rattle.std.proofs.Common.{◌≡◌, ℕ, suc, Bool, true, false, not, List, [], ◌∷◌, length, map, All, refl, ap, ℤ, pos, ◌+ℤ◌, ◌≤ℤ◌, ◌<ℤ◌, arith, Ok}
use Rattle.std.specs.Prelude.{◌&&◌, ◌==◌, int_le, int_lt}
use Rattle.std.specs.Ordering.{int_eq}
use Rattle.std.proofs.lemmas.Int.{ints}
use Rattle.std.proofs.lemmas.Bool.{and_from, and_parts}
use Rattle.std.proofs.lemmas.Bool.Decides.{Decides-int_eq, nat_tests}
use Rattle.std.proofs.lemmas.List.Elements.{All-cons, All-nil, All-head, All-tail}
use Rattle.qm_math.proofs.WholeTests.{lt_of_test, test_of_lt, le_of_test, test_of_le, false_of_le}
use Rattle.qm_model.specs.declared.range.Range.{Range}
use Rattle.qm_model.specs.Boxes.{Cover, FollowOn}
use Rattle.qm_trees.specs.declared.rule.Rule.TheVariants as rule
use Rattle.qm_trees.specs.Verdicts.{Verdict, Fine, line, ◌then◌}
use Rattle.qm_trees.specs.Ranges.{same, counts_right, follows_on, judge_each, judge_parts}
use Rattle.qm_trees.specs.Passing.{IsFine}
use Rattle.qm_trees.proofs.Lines.{fine_parts, fine_both, fine_line, line_fine, ok_is}

-- a range that begins at `next` and has a value
pub record Begins (next : ℤ) (r : Range) : Type 0 where
  pub at : r.low ≡ next
  pub some : r.low ≤ℤ r.high

last_follows : (next high : ℤ) (r : Range) → follows_on next high true r ≡ true → Begins next r × (r.high ≡ high)
last_follows next high r e =
    let outer = and_parts (int_eq r.low next && int_le r.low r.high && int_le r.high high) (int_eq r.high high) e in
    let inner = and_parts (int_eq r.low next && int_le r.low r.high) (int_le r.high high) outer.0 in
    let first = and_parts (int_eq r.low next) (int_le r.low r.high) inner.0 in (
      record { at = (Decides-int_eq r.low next).0 first.0; some = le_of_test r.low r.high first.1 },
      (Decides-int_eq r.high high).0 outer.1,
    )

follows_last : (next high : ℤ) (r : Range) → Begins next r → r.high ≡ high → follows_on next high true r ≡ true
follows_last next high r begins ends =
    and_from (int_eq r.low next && int_le r.low r.high && int_le r.high high) (int_eq r.high high)
    (and_from (int_eq r.low next && int_le r.low r.high) (int_le r.high high)
    (and_from (int_eq r.low next) (int_le r.low r.high) ((Decides-int_eq r.low next).1 begins.at) (test_of_le r.low r.high begins.some))
    (test_of_le r.high high (omega (arith, ints))))
    ((Decides-int_eq r.high high).1 ends)

other_follows : (next high : ℤ) (r : Range) → follows_on next high false r ≡ true → Begins next r
other_follows next high r e =
    let outer = and_parts (int_eq r.low next && int_le r.low r.high && int_le r.high high) (not (int_eq r.high high)) e in
    let inner = and_parts (int_eq r.low next && int_le r.low r.high) (int_le r.high high) outer.0 in
    let first = and_parts (int_eq r.low next) (int_le r.low r.high) inner.0 in
    record { at = (Decides-int_eq r.low next).0 first.0; some = le_of_test r.low r.high first.1 }

not_equal : (a b : ℤ) → a <ℤ b → not (int_eq a b) ≡ true
not_equal a b h = by (int_eq a b) refl
  where
    by : (t : Bool) → int_eq a b ≡ t → not t ≡ true
    by true e = let same = (Decides-int_eq a b).0 e in absurd (omega (arith, ints))
    by false e = refl

follows_other : (next high : ℤ) (r : Range) → Begins next r → r.high <ℤ high → follows_on next high false r ≡ true
follows_other next high r begins before =
    and_from (int_eq r.low next && int_le r.low r.high && int_le r.high high) (not (int_eq r.high high))
    (and_from (int_eq r.low next && int_le r.low r.high) (int_le r.high high)
    (and_from (int_eq r.low next) (int_le r.low r.high) ((Decides-int_eq r.low next).1 begins.at) (test_of_le r.low r.high begins.some))
    (test_of_le r.high high (omega (arith, ints))))
    (not_equal r.high high before)

-- ranges that follow on end no earlier than they begin
pub FollowOn-le : (low high : ℤ) (r : Range) (rs : List Range) → FollowOn low high (r ∷ rs) → low ≤ℤ high
FollowOn-le low high r [] h = omega (arith, ints, h.1, h.2)
FollowOn-le low high r (s ∷ rs) h = omega (arith, ints, h.1, FollowOn-le (r.high +ℤ pos 1) high s rs h.2)

counts_some : (covered : Range) (n : ℕ) → int_lt covered.high covered.low ≡ false → counts_right covered (suc n) ≡ true
counts_some covered n e = rw e (by (suc n == 0) refl)
  where
    by : (t : Bool) → (suc n == 0) ≡ t → same t false ≡ true
    by true h = grind (arith, nat_tests)
    by false h = refl

module _ {A : Type 0} (range_of : A → Range) (judge : A → Verdict) where
  abbrev pub AllFine : List A → Type 0
  AllFine parts = All (λ part. IsFine (judge part)) parts

  fine_each : (next high : ℤ) (part : A) (parts : List A) → IsFine (judge_each range_of judge next high (part ∷ parts))
      → FollowOn next high (map range_of (part ∷ parts)) × AllFine (part ∷ parts)
  fine_each next high part [] h =
      let r = range_of part in
      let outer = fine_parts (line rule.Cover (Ok (follows_on next high true r))) (judge part then Fine 0) h in
      let inner = fine_parts (judge part) (Fine 0) outer.1 in
      let test = last_follows next high r (ok_is (follows_on next high true r) true (fine_line rule.Cover (Ok (follows_on next high true r)) outer.0)) in (
        (test.0.at, omega (arith, ints, test.0.at, test.0.some), omega (arith, ints, test.1)),
        All-cons (λ p. IsFine (judge p)) part [] inner.0 (All-nil (λ p. IsFine (judge p))),
      )
  fine_each next high part (other ∷ parts) h =
      let r = range_of part in
      let later = judge_each range_of judge (r.high +ℤ pos 1) high (other ∷ parts) in
      let outer = fine_parts (line rule.Cover (Ok (follows_on next high false r))) (judge part then later) h in
      let inner = fine_parts (judge part) later outer.1 in
      let rest = fine_each (r.high +ℤ pos 1) high other parts inner.1 in
      let test = other_follows next high r (ok_is (follows_on next high false r) true (fine_line rule.Cover (Ok (follows_on next high false r)) outer.0)) in (
        (test.at, omega (arith, ints, test.at, test.some), rest.0),
        All-cons (λ p. IsFine (judge p)) part (other ∷ parts) inner.0 rest.1,
      )

  each_fine : (next high : ℤ) (part : A) (parts : List A) → FollowOn next high (map range_of (part ∷ parts)) → AllFine (part ∷ parts)
      → IsFine (judge_each range_of judge next high (part ∷ parts))
  each_fine next high part [] follow fine =
      let r = range_of part in
      let begins : Begins next r = record { at = follow.0; some = omega (arith, ints, follow.0, follow.1) } in
      let ends : r.high ≡ high = omega (arith, ints, follow.2) in
      fine_both (line rule.Cover (Ok (follows_on next high true r))) (judge part then Fine 0)
      (line_fine rule.Cover (Ok (follows_on next high true r)) (ap (λ b. Ok b) (follows_last next high r begins ends)))
      (fine_both (judge part) (Fine 0) (All-head (λ p. IsFine (judge p)) part [] fine) tt)
  each_fine next high part (other ∷ parts) follow fine =
      let r = range_of part in
      let later = judge_each range_of judge (r.high +ℤ pos 1) high (other ∷ parts) in
      let begins : Begins next r = record { at = follow.0; some = omega (arith, ints, follow.0, follow.1) } in
      let before : r.high <ℤ high = omega (arith, ints, FollowOn-le (r.high +ℤ pos 1) high (range_of other) (map range_of parts) follow.2) in
      fine_both (line rule.Cover (Ok (follows_on next high false r))) (judge part then later)
      (line_fine rule.Cover (Ok (follows_on next high false r)) (ap (λ b. Ok b) (follows_other next high r begins before)))
      (fine_both (judge part) later (All-head (λ p. IsFine (judge p)) part (other ∷ parts) fine)
      (each_fine (r.high +ℤ pos 1) high other parts follow.2 (All-tail (λ p. IsFine (judge p)) part (other ∷ parts) fine)))

  -- the count and the parts
  pub fine_cover : (covered : Range) (parts : List A) → IsFine (judge_parts range_of judge covered parts) → Cover covered (map range_of parts) × AllFine parts
  fine_cover covered [] h =
      let outer = fine_parts (line rule.Cover (Ok (counts_right covered 0))) (Fine 0) h in (
        lt_of_test covered.high covered.low (ok_is (counts_right covered 0) true (fine_line rule.Cover (Ok (counts_right covered 0)) outer.0)),
        All-nil (λ p. IsFine (judge p)),
      )
  fine_cover covered (part ∷ parts) h =
      fine_each covered.low covered.high part parts
      (fine_parts (line rule.Cover (Ok (counts_right covered (suc (length parts))))) (judge_each range_of judge covered.low covered.high (part ∷ parts)) h).1

  pub cover_fine : (covered : Range) (parts : List A) → Cover covered (map range_of parts) → AllFine parts → IsFine (judge_parts range_of judge covered parts)
  cover_fine covered [] cover fine =
      fine_both (line rule.Cover (Ok (counts_right covered 0))) (Fine 0)
      (line_fine rule.Cover (Ok (counts_right covered 0)) (ap (λ b. Ok b) (test_of_lt covered.high covered.low cover))) tt
  cover_fine covered (part ∷ parts) cover fine =
      let some = false_of_le covered.low covered.high (FollowOn-le covered.low covered.high (range_of part) (map range_of parts) cover) in
      let count = suc (length parts) in
      fine_both (line rule.Cover (Ok (counts_right covered count))) (judge_each range_of judge covered.low covered.high (part ∷ parts))
      (line_fine rule.Cover (Ok (counts_right covered count)) (ap (λ b. Ok b) (counts_some covered (length parts) some)))
      (each_fine covered.low covered.high part parts cover fine)
