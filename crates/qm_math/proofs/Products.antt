-- Products of whole numbers: their laws, their signs, and the orders that they keep.
use Rattle.std.proofs.Common.{◌≡◌, ◌∙◌, sym, ap, ap₂, ℕ, ◌*◌, ◌<◌, ◌⊎◌, inl, inr, arith, ℤ, pos, negsuc, ◌+ℤ◌, ◌-ℤ◌, ◌*ℤ◌, neg_ℤ, ◌≤ℤ◌, ◌<ℤ◌}
use Rattle.std.proofs.Math.IntN.{*ℤ_comm}
use Rattle.std.proofs.lemmas.Int.{ints, by_lt_z}
use borrow.Author.Differences.{up, down, neg_is}
use Rattle.qm_math.proofs.Whole.{add-*ℤ, *ℤ_assoc, cancel_le}

-- ---- a ring
pub one-*ℤ : (a : ℤ) → pos 1 *ℤ a ≡ a
one-*ℤ a = omega (arith, ints)

pub *ℤ-add : (a b c : ℤ) → a *ℤ (b +ℤ c) ≡ (a *ℤ b) +ℤ (a *ℤ c)
*ℤ-add a b c = *ℤ_comm a (b +ℤ c) ∙ add-*ℤ b c a ∙ ap₂ (λ x y. x +ℤ y) (*ℤ_comm b a) (*ℤ_comm c a)

pub neg-*ℤ : (a b : ℤ) → neg_ℤ a *ℤ b ≡ neg_ℤ (a *ℤ b)
neg-*ℤ a b =
    let parts = neg_is a in
    omega (
      arith,
      ints,
      ap (λ k. k * up b) parts.0,
      ap (λ k. k * down b) parts.0,
      ap (λ k. k * up b) parts.1,
      ap (λ k. k * down b) parts.1,
    )

pub *ℤ-neg : (a b : ℤ) → a *ℤ neg_ℤ b ≡ neg_ℤ (a *ℤ b)
*ℤ-neg a b = *ℤ_comm a (neg_ℤ b) ∙ neg-*ℤ b a ∙ ap neg_ℤ (*ℤ_comm b a)

pub sub-*ℤ : (a b c : ℤ) → (a -ℤ b) *ℤ c ≡ (a *ℤ c) -ℤ (b *ℤ c)
sub-*ℤ a b c = add-*ℤ a (neg_ℤ b) c ∙ ap (λ k. (a *ℤ c) +ℤ k) (neg-*ℤ b c)

pub *ℤ-sub : (a b c : ℤ) → a *ℤ (b -ℤ c) ≡ (a *ℤ b) -ℤ (a *ℤ c)
*ℤ-sub a b c = *ℤ-add a b (neg_ℤ c) ∙ ap (λ k. (a *ℤ b) +ℤ k) (*ℤ-neg a c)

pub *ℤ_left_comm : (a b c : ℤ) → a *ℤ (b *ℤ c) ≡ b *ℤ (a *ℤ c)
*ℤ_left_comm a b c = sym (*ℤ_assoc a b c) ∙ ap (λ k. k *ℤ c) (*ℤ_comm a b) ∙ *ℤ_assoc b a c

pub +ℤ_left_comm : (a b c : ℤ) → a +ℤ (b +ℤ c) ≡ b +ℤ (a +ℤ c)
+ℤ_left_comm a b c = omega (arith, ints)

-- the two in the middle change places
pub *ℤ_four : (a b c d : ℤ) → (a *ℤ b) *ℤ (c *ℤ d) ≡ (a *ℤ c) *ℤ (b *ℤ d)
*ℤ_four a b c d = *ℤ_assoc a b (c *ℤ d) ∙ ap (λ k. a *ℤ k) (*ℤ_left_comm b c d) ∙ sym (*ℤ_assoc a c (b *ℤ d))

-- ---- signs and orders
pub *ℤ-nonneg : (a b : ℤ) → pos 0 ≤ℤ a → pos 0 ≤ℤ b → pos 0 ≤ℤ (a *ℤ b)
*ℤ-nonneg (pos a) (pos b) h k = omega (arith, ints)
*ℤ-nonneg (pos a) (negsuc b) h k = absurd (omega (arith, ints, k))
*ℤ-nonneg (negsuc a) b h k = absurd (omega (arith, ints, h))

-- an order times a number that is not negative
pub *ℤ-le : (k a b : ℤ) → pos 0 ≤ℤ k → a ≤ℤ b → (k *ℤ a) ≤ℤ (k *ℤ b)
*ℤ-le k a b more h =
    let gap = *ℤ-nonneg k (b -ℤ a) more (omega (arith, ints)) in
    omega (arith, ints, gap, *ℤ-sub k b a)

-- an order times a number that is not positive turns round
pub *ℤ-le_turned : (k a b : ℤ) → k ≤ℤ pos 0 → a ≤ℤ b → (k *ℤ b) ≤ℤ (k *ℤ a)
*ℤ-le_turned k a b less h =
    let gap = *ℤ-nonneg (neg_ℤ k) (b -ℤ a) (omega (arith, ints)) (omega (arith, ints)) in
    omega (arith, ints, gap, neg-*ℤ k (b -ℤ a), *ℤ-sub k b a)

pub *ℤ-lt : (k a b : ℤ) → pos 0 <ℤ k → a <ℤ b → (k *ℤ a) <ℤ (k *ℤ b)
*ℤ-lt k a b more h =
    let gap = *ℤ-le k (a +ℤ pos 1) b (omega (arith, ints)) (omega (arith, ints)) in
    omega (arith, ints, gap, *ℤ-add k a (pos 1), more)

-- two orders of numbers that are not negative
pub *ℤ-le-*ℤ : (a b c d : ℤ) → pos 0 ≤ℤ a → a ≤ℤ b → pos 0 ≤ℤ c → c ≤ℤ d → (a *ℤ c) ≤ℤ (b *ℤ d)
*ℤ-le-*ℤ a b c d ha hab hc hcd =
    let first = *ℤ-le c a b hc hab in
    let second = *ℤ-le b c d (omega (arith, ints)) hcd in
    omega (arith, ints, first, second, *ℤ_comm c a, *ℤ_comm c b)

pub square_nonneg : (a : ℤ) → pos 0 ≤ℤ (a *ℤ a)
square_nonneg (pos a) = omega (arith, ints)
square_nonneg (negsuc a) = omega (arith, ints)

-- ---- a factor cancelled
pub cancel_same : (a b : ℤ) (d : ℕ) → 0 < d → a *ℤ pos d ≡ b *ℤ pos d → a ≡ b
cancel_same a b d more e =
    let up_to = cancel_le a b d more (omega (arith, ints, e)) in
    let down_to = cancel_le b a d more (omega (arith, ints, e)) in
    omega (arith, ints, up_to, down_to)

-- a product is 0 only where a factor is
pub zero_product : (a b : ℤ) → a *ℤ b ≡ pos 0 → (a ≡ pos 0) ⊎ (b ≡ pos 0)
zero_product a b e =
    by_lt_z (pos 0) a
    (λ more. inr (by_lt_z (pos 0) b
    (λ up_b. absurd (omega (arith, ints, *ℤ-lt a (pos 0) b more up_b, e)))
    (λ not_up. by_lt_z b (pos 0)
    (λ down_b. absurd (omega (arith, ints, *ℤ-lt a b (pos 0) more down_b, e)))
    (λ not_down. omega (arith, ints, not_up, not_down)))))
    (λ not_more. by_lt_z a (pos 0)
    (λ less. inr (by_lt_z (pos 0) b
    (λ up_b. absurd (omega (arith, ints, *ℤ-lt b a (pos 0) up_b less, *ℤ_comm a b, e)))
    (λ not_up. by_lt_z b (pos 0)
    (λ down_b. absurd (omega (arith, ints, *ℤ-lt (neg_ℤ a) b (pos 0) (omega (arith, ints, less)) down_b, neg-*ℤ a b, e)))
    (λ not_down. omega (arith, ints, not_up, not_down)))))
    (λ not_less. inl (omega (arith, ints, not_more, not_less))))
