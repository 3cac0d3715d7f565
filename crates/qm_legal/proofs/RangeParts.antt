-- Parts of a range, and of two that follow on.
use Rattle.std.proofs.Common.{◌≡◌, refl, sym, subst, ℕ, ◌+◌, List, [], ◌∷◌, ◌++◌, drop, set, map, arith, ℤ, pos, ◌+ℤ◌, ◌-ℤ◌, ◌≤ℤ◌, ◌<ℤ◌, false, Some}
use Rattle.std.specs.Prelude.{int_le}
use Rattle.std.proofs.lemmas.Int.{ints}
use Rattle.std.proofs.lemmas.List.{map-append}
use Rattle.std.proofs.lemmas.List.Elements.{All-append}
use Rattle.qm_model.specs.declared.range.Range.{Range}
use Rattle.qm_model.specs.declared.variable.Player.TheVariants.{All as Universal}
use Rattle.qm_model.specs.declared.variable.Var.{Var}
use Rattle.qm_model.specs.declared.game.Problem.{Problem}
use Rattle.qm_model.specs.Boxes.{Cover, FollowOn}
use Rattle.qm_model.specs.Ranges.{range_at, single}
use Rattle.qm_trees.specs.declared.empty.Empty.{Split}
use Rattle.qm_trees.specs.declared.empty.EmptyPart.{EmptyPart}
use Rattle.qm_trees.specs.EmptyJudgement.{range_of, below_of}
use Rattle.qm_legal.specs.Queries.{Shows}
use Rattle.qm_legal.specs.SearchSteps.{IsFound, IsOneOf, SetsNext, range_to}
use Rattle.qm_legal.specs.JournalSteps.{AreFoundParts, AreShownParts, IsPartOf}
use Rattle.qm_legal.proofs.Places.{Reached}
use Rattle.qm_legal.proofs.RightTrees.{split_shows}

follow_join : (low first high : ℤ) (rs ss : List Range) → FollowOn low (first -ℤ pos 1) rs → FollowOn first high ss → FollowOn low high (rs ++ ss)
follow_join low first high [] ss h k = subst (λ v. FollowOn v high ss) (same first low h) k
  where
    same : (first low : ℤ) → low ≡ (first -ℤ pos 1) +ℤ pos 1 → first ≡ low
    same first low e = omega (arith, ints, e)
follow_join low first high (r ∷ rs) ss h k = (h.0, h.1, follow_join (r.high +ℤ pos 1) first high rs ss h.2 k)

follow_covers : (r : Range) (rs : List Range) → r.low ≤ℤ r.high → FollowOn r.low r.high rs → Cover r rs
follow_covers r [] some h = absurd (omega (arith, ints, some, h))
follow_covers r (q ∷ rs) some h = h

module _ (P : Problem) (later : List Var) (depth : ℕ) (bx : List Range) where
  -- the parts of all values of the range
  pub reached_parts : (within : Range) (next : ℤ) (parts : List EmptyPart) (after : List Range) → Reached P later depth bx within next parts → within.low ≤ℤ within.high → within.high <ℤ next
      → after ≡ bx → AreFoundParts P later depth bx after within (Some parts)
  reached_parts within next parts after reached some past same = (record { follow = by (map range_of parts) reached.follow reached.to; below = reached.below }, same)
    where
      by : (rs : List Range) → FollowOn within.low (next -ℤ pos 1) rs → ((rs ≡ [] → ⊥) → next ≤ℤ (within.high +ℤ pos 1)) → FollowOn within.low within.high rs
      by [] follow to = absurd (omega (arith, ints, some, past, follow))
      by (r ∷ rs) follow to =
          let most = to (λ e. cc) in
          let last : next -ℤ pos 1 ≡ within.high = omega (arith, ints, most, past) in
          subst (λ n. FollowOn within.low n (r ∷ rs)) last follow

  -- parts of the range with these ends
  pub shown_as : (one other : Range) (parts : List EmptyPart) → one.low ≡ other.low → one.high ≡ other.high → AreShownParts P later depth bx one parts → AreShownParts P later depth bx other parts
  shown_as one other parts low high h = record {
    follow = subst (λ v. FollowOn other.low v (map range_of parts)) high (subst (λ v. FollowOn v one.high (map range_of parts)) low h.follow);
    below = h.below;
  }

  -- the parts of lower and of upper values
  pub joined_parts : (low first high : ℤ) (below above parts : List EmptyPart) → AreShownParts P later depth bx (range_to low (first -ℤ pos 1)) below → AreShownParts P later depth bx (range_to first high) above
      → parts ≡ below ++ above → AreShownParts P later depth bx (range_to low high) parts
  joined_parts low first high below above parts h k is = rw is (record {
    follow = rw (map-append range_of below above) (follow_join low first high (map range_of below) (map range_of above) h.follow k.follow);
    below = All-append (λ part. Shows P later (depth + 1) (set bx depth (range_of part)) (below_of part)) below above h.below k.below;
  })

-- a range's values are one part of the range's itself
pub one_within : (covered within : Range) (next : ℤ) (run : Range) → IsPartOf covered within → within.low ≤ℤ next → next ≤ℤ within.high → run ≡ single next → IsOneOf covered run
one_within covered within next run part low high is =
    subst (IsOneOf covered) (sym is) (record { single = refl; low = omega (arith, ints, part.low, low); high = omega (arith, ints, part.high, high) })

pub one_value : (r covered run : Range) (next : ℤ) → covered ≡ r → covered.low ≤ℤ next → next ≤ℤ covered.high → run ≡ single next → IsOneOf r run
one_value r covered run next is low high run_is =
    subst (λ (q : Range). IsOneOf q run) is (subst (IsOneOf covered) (sym run_is) (record { single = refl; low = low; high = high }))

pub high_of : (covered r : Range) → covered ≡ r → covered.high ≤ℤ r.high
high_of covered r is = subst (λ (q : Range). covered.high ≤ℤ q.high) is (omega (arith, ints))

-- ---- ends of ranges

pub le_itself : (v : ℤ) → v ≤ℤ v
le_itself v = omega (arith, ints)

pub le_of_same : (v w : ℤ) → v ≡ w → v ≤ℤ w
le_of_same v w e = omega (arith, ints, e)

pub below_it : (v : ℤ) → (v -ℤ pos 1) <ℤ v
below_it v = omega (arith, ints)

pub lower_some : (low first : ℤ) → low <ℤ first → low ≤ℤ (first -ℤ pos 1)
lower_some low first h = omega (arith, ints, h)

pub one_low : (covered upper r : Range) → covered ≡ r → r.low ≤ℤ upper.low → upper.low ≤ℤ covered.low → upper.low ≡ r.low
one_low covered upper r is low high =
    let at_most : upper.low ≤ℤ r.low = subst (λ (q : Range). upper.low ≤ℤ q.low) is high in
    omega (arith, ints, low, at_most)

pub later_low : (next high : ℤ) → next ≤ℤ high → next ≤ℤ (high +ℤ pos 1)
later_low next high h = omega (arith, ints, h)

pub run_low : (run : Range) (next : ℤ) (within : Range) → run ≡ single next → within.low ≤ℤ next → within.low ≤ℤ run.low
run_low run next within is h = subst (λ (r : Range). within.low ≤ℤ r.low) (sym is) h

pub run_high : (run : Range) (next : ℤ) (within : Range) → run ≡ single next → next ≤ℤ within.high → run.high ≤ℤ within.high
run_high run next within is h = subst (λ (r : Range). r.high ≤ℤ within.high) (sym is) h

pub run_before : (run : Range) (next high : ℤ) → run ≡ single next → next ≤ℤ high → run.high <ℤ (high +ℤ pos 1)
run_before run next high is h = subst (λ (r : Range). r.high <ℤ (high +ℤ pos 1)) (sym is) (omega (arith, ints, h))

pub upper_part : (upper covered r : Range) → covered ≡ r → covered.low ≤ℤ upper.low → upper.high ≡ covered.high → IsPartOf r upper
upper_part upper covered r is low high = subst (λ (q : Range). IsPartOf q upper) is (record { low = low; high = le_of_same upper.high covered.high high })

pub lower_part : (r upper : Range) → upper.low ≤ℤ upper.high → upper.high ≡ r.high → IsPartOf r (range_to r.low (upper.low -ℤ pos 1))
lower_part r upper some high = record { low = omega (arith, ints); high = omega (arith, ints, some, high) }

pub filled_as : (covered r : Range) → covered ≡ r → r.low ≤ℤ r.high → covered.low ≤ℤ covered.high
filled_as covered r is some = subst (λ (q : Range). q.low ≤ℤ q.high) (sym is) some

pub past_of_test : (a b : ℤ) → int_le a b ≡ false → b <ℤ a
past_of_test a b e = grind (arith, ints)

-- the tree of the parts of all values
pub split_shown : (P : Problem) (rest : List Var) (depth : ℕ) (bx : List Range) (parts : List EmptyPart) (after : List Range) → SetsNext Universal rest → (range_at bx depth).low ≤ℤ (range_at bx depth).high
    → AreShownParts P (drop 1 rest) depth bx (range_at bx depth) parts → after ≡ bx → IsFound P rest depth bx after (Some (Split depth parts))
split_shown P [] depth bx parts after player some shown same = absurd player
split_shown P (x ∷ later) depth bx parts after player some shown same =
    (split_shows P x later depth bx parts player (follow_covers (range_at bx depth) (map range_of parts) some shown.follow) shown.below, same)
