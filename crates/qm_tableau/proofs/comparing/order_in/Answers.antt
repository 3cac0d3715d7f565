use Rattle.std.proofs.Common.{◌≡◌, ◌∙◌, ◌<◌, ◌+◌, add-one, ap₂, ℕ, pos, ◌*ℤ◌, arith, length}
use Rattle.std.specs.Ordering.{int_cmp}
use Rattle.qm_tableau.specs.Wholes.{at_place}
use Rattle.qm_tableau.proofs.SmallNumbers.{passed_64}
use Rattle.qm_tableau.proofs.comparing.order_in.Goals as goal

pub returns : goal.returns
returns c =
    let row = c.args.row.now in
    let leaving = c.args.leaving.now in
    let k = c.args.k + 1 in
    let b = c.args.best + 1 in
    let k_in : k < length row = omega (arith, c.requires.k) in
    let b_in : b < length row = omega (arith, c.requires.best) in
    let k_leaving : k < length leaving = omega (arith, k_in, c.requires.same) in
    let b_leaving : b < length leaving = omega (arith, b_in, c.requires.same) in
    let x = passed_64 (at_place row k) (c.requires.row.small k (pos 0) k_in) in
    let p = passed_64 (at_place leaving k) (c.requires.leaving.small k (pos 0) k_leaving) in
    let y = passed_64 (at_place row b) (c.requires.row.small b (pos 0) b_in) in
    let q = passed_64 (at_place leaving b) (c.requires.leaving.small b (pos 0) b_leaving) in
    let plain : c.order_of.result ≡ int_cmp (at_place row k *ℤ at_place leaving b) (at_place row b *ℤ at_place leaving k) = rw (x, p, y, q) at c.order_of.ensures in
    plain ∙ ap₂ (λ (m n : ℕ). int_cmp (at_place row m *ℤ at_place leaving n) (at_place row n *ℤ at_place leaving m)) (add-one c.args.k) (add-one c.args.best)
