-- No coefficient is larger than the size of its terms.
use Rattle.std.proofs.Common.{ℕ, zero, suc, ◌*◌, ◌≤◌, List, [], ◌∷◌, All, arith, unsigned_abs}
use Rattle.std.proofs.Math.Nat.{mul-le-mul_left}
use Rattle.std.proofs.lemmas.List.Sums.{sum_by-cons}
use Rattle.qm_model.specs.declared.row.Term.{Term}
use Rattle.qm_model.specs.Sizes.{terms_size}

pub coefs-size : (reach_of : ℕ → ℕ) (ts : List Term) → ((var : ℕ) → 1 ≤ reach_of var) → All (λ t. unsigned_abs t.coef ≤ terms_size reach_of ts) ts
coefs-size reach_of [] some i d h = absurd (omega arith)
coefs-size reach_of (t ∷ ts) some zero d h =
    let more = sum_by-cons (λ (u : Term). unsigned_abs u.coef * reach_of u.var) t ts in
    omega (arith, more, mul-le-mul_left (unsigned_abs t.coef) (some t.var))
coefs-size reach_of (t ∷ ts) some (suc i) d h =
    let more = sum_by-cons (λ (u : Term). unsigned_abs u.coef * reach_of u.var) t ts in
    omega (arith, more, coefs-size reach_of ts some i d (omega arith))
