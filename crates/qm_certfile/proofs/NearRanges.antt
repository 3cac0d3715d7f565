-- Ranges whose ends are near 0: their values, and the ranges that cover them.
use Rattle.std.proofs.Common.{ℕ, zero, suc, ◌+◌, ◌<◌, ◌≤◌, ℤ, pos, negsuc, ◌+ℤ◌, ◌≤ℤ◌, List, [], ◌∷◌, drop, length, map, arith, unsigned_abs}
use Rattle.std.specs.Prelude.{All, ◌^◌, slice_set}
use Rattle.std.proofs.lemmas.Int.{ints}
use Rattle.std.proofs.lemmas.List.Elements.{All-cons, All-nil, All-head, All-tail}
use Rattle.qm_math.specs.Ranges.{IsBetween}
use Rattle.qm_model.specs.declared.range.Range.{Range}
use Rattle.qm_model.specs.declared.variable.Player.{Player}
use Rattle.qm_model.specs.declared.variable.Player.TheVariants.{Exists, All as Universal}
use Rattle.qm_model.specs.declared.variable.Var.{Var}
use Rattle.qm_model.specs.Boxes.{Cover, FollowOn, bounds_of, whole_box_of}
use Rattle.qm_model.specs.Plays.{AreWithin}
use Rattle.qm_model.specs.Ranges.{range_at}
use Rattle.qm_model.specs.Wins.{MatchPlayer}
use Rattle.qm_trees.specs.Picks.{Fit, FitNext}
use Rattle.qm_certfile.specs.WellFormed.{IsNear, IsWhole}

pub whole_of : (z : ℤ) → unsigned_abs z ≤ 2 ^ 50 → IsWhole z
whole_of (pos n) h = omega (arith, h)
whole_of (negsuc n) h = omega (arith, h)

-- a value of such a range is near 0 too
pub between_near : (r : Range) (v : ℤ) → IsNear r → IsBetween r.low r.high v → unsigned_abs v ≤ 2 ^ 50
between_near r v near between = omega (arith, ints, near.0, near.1, between.0, between.1)

-- ---- boxes

abbrev pub AreNear : List Range → Type 0
AreNear [] = Unit {0}
AreNear (r ∷ bx) = IsNear r × AreNear bx

pub near_at : (bx : List Range) (i : ℕ) → AreNear bx → IsNear (range_at bx i)
near_at [] i near = (omega arith, omega arith)
near_at (r ∷ bx) zero near = near.0
near_at (r ∷ bx) (suc i) near = near_at bx i near.1

pub near_set : (bx : List Range) (i : ℕ) (to : Range) → AreNear bx → IsNear to → AreNear (slice_set bx i to)
near_set [] i to near here = tt
near_set (r ∷ bx) zero to near here = (here, near.1)
near_set (r ∷ bx) (suc i) to near here = (near.0, near_set bx i to near.1 here)

pub near_drop : (bx : List Range) (n : ℕ) → AreNear bx → AreNear (drop n bx)
near_drop bx zero near = near
near_drop [] (suc n) near = tt
near_drop (r ∷ bx) (suc n) near = near_drop bx n near.1

pub near_box : (xs : List Var) → All (λ x. IsNear (bounds_of x)) xs → AreNear (whole_box_of xs)
near_box [] all = tt
near_box (x ∷ xs) all = (All-head (λ (x : Var). IsNear (bounds_of x)) x xs all, near_box xs (All-tail (λ (x : Var). IsNear (bounds_of x)) x xs all))

-- ---- ranges that follow on

module _ {A : Type 0} (range_of : A → Range) where
  not_behind : (low high : ℤ) (parts : List A) → FollowOn low high (map range_of parts) → low ≤ℤ (high +ℤ pos 1)
  not_behind low high [] follow = omega (arith, ints, follow)
  not_behind low high (part ∷ parts) follow = omega (arith, ints, follow.1, not_behind ((range_of part).high +ℤ pos 1) high parts follow.2)

  many : (low high : ℤ) (parts : List A) → FollowOn low high (map range_of parts) → (pos (length parts) +ℤ low) ≤ℤ (high +ℤ pos 1)
  many low high [] follow = omega (arith, ints, follow)
  many low high (part ∷ parts) follow = omega (arith, ints, follow.1, many ((range_of part).high +ℤ pos 1) high parts follow.2)

  -- the ends of each part, where the first begins at least where the covered range does
  abbrev Lies : Range → A → Type 0
  Lies covered part = (covered.low ≤ℤ (range_of part).low) × ((range_of part).low ≤ℤ (range_of part).high) × ((range_of part).high ≤ℤ covered.high)

  each_lies : (covered : Range) (low : ℤ) (parts : List A) → covered.low ≤ℤ low → FollowOn low covered.high (map range_of parts) → All (Lies covered) parts
  each_lies covered low [] from follow = All-nil (Lies covered)
  each_lies covered low (part ∷ parts) from follow =
      let next = (range_of part).high +ℤ pos 1 in
      let last = not_behind next covered.high parts follow.2 in
      let here : Lies covered part = (omega (arith, ints, from, follow.0), omega (arith, ints, follow.0, follow.1), omega (arith, ints, last)) in
      All-cons (Lies covered) part parts here (each_lies covered next parts (omega (arith, ints, from, follow.1)) follow.2)

  -- parts that cover such a range have such ranges, and there are not too many to be counted
  pub cover_near : (covered : Range) (parts : List A) → Cover covered (map range_of parts) → IsNear covered → All (λ part. IsNear (range_of part)) parts × (length parts < 2 ^ 64)
  cover_near covered [] cover near = (All-nil (λ (part : A). IsNear (range_of part)), omega arith)
  cover_near covered (part ∷ parts) cover near =
      let count = many covered.low covered.high (part ∷ parts) cover in
      let each = each_lies covered covered.low (part ∷ parts) (omega (arith, ints)) cover in (
        λ k d h. (let lies = each k d h in (omega (arith, ints, near.0, near.1, lies.0, lies.1, lies.2), omega (arith, ints, near.0, near.1, lies.0, lies.1, lies.2))),
        omega (arith, ints, count, near.0, near.1),
      )

-- ---- values

pub within_whole : (xs : List Var) (us : List ℤ) → All (λ x. IsNear (bounds_of x)) xs → AreWithin xs us → All IsWhole us
within_whole [] [] all within = All-nil IsWhole
within_whole [] (u ∷ us) all within = absurd within
within_whole (x ∷ xs) [] all within = absurd within
within_whole (x ∷ xs) (u ∷ us) all within =
    let near = All-head (λ (x : Var). IsNear (bounds_of x)) x xs all in
    All-cons IsWhole u us (whole_of u (between_near (bounds_of x) u near within.0)) (within_whole xs us (All-tail (λ (x : Var). IsNear (bounds_of x)) x xs all) within.1)

fit_next : (player : Player) (r : Range) (us : List ℤ) (Others : List ℤ → Type 0) → IsNear r → ((vs : List ℤ) → Others vs → All IsWhole vs)
    → MatchPlayer player (Others us) (FitNext r us Others) → All IsWhole us
fit_next Exists r us Others near later fit = later us fit
fit_next Universal r [] Others near later fit = absurd fit
fit_next Universal r (u ∷ us) Others near later fit = All-cons IsWhole u us (whole_of u (between_near r u near fit.0)) (later us fit.1)

pub fit_whole : (xs : List Var) (bx : List Range) (us : List ℤ) → AreNear bx → Fit xs bx us → All IsWhole us
fit_whole [] bx [] near fit = All-nil IsWhole
fit_whole [] bx (u ∷ us) near fit = absurd fit
fit_whole (x ∷ xs) [] us near fit = absurd fit
fit_whole (x ∷ xs) (r ∷ bx) us near fit = fit_next x.player r us (Fit xs bx) near.0 (λ vs h. fit_whole xs bx vs near.1 h) fit
