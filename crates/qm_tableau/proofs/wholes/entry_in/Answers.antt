use Rattle.std.proofs.Common.{◌∙◌, ◌+◌, ◌≡◌, suc, sym, ap, pos, arith, ℕ, unsigned_abs, ◌<◌, length}
use Rattle.qm_frac.specs.Lowest.{lowest}
use Rattle.qm_tableau.specs.Wholes.{at_place}
use Rattle.qm_tableau.proofs.SmallNumbers.{widened}
use Rattle.qm_tableau.proofs.WholeEntries.{entry_in_row, small_fits, terms_positive}
use Rattle.qm_tableau.proofs.wholes.entry_in.Goals as goal

pub unreachable-requires : goal.unreachable-requires
unreachable-requires c =
    let inside : c.args.k + 1 < length c.args.row.now = omega (arith, c.requires.k) in
    let first : 0 < length c.args.row.now = omega (arith, c.requires.k) in
    let n_small = c.requires.row.small (c.args.k + 1) (pos 0) inside in
    let d_small = c.requires.row.small 0 (pos 0) first in
    let num = widened (at_place c.args.row.now (c.args.k + 1)) c.from.result n_small c.from.ensures in
    let den = widened (at_place c.args.row.now 0) c.from-2.result d_small c.from-2.ensures in
    let none = rw (num, den, c.in-None.is) at c.of.ensures in
    none (small_fits _ _ c.requires.row.positive n_small d_small)

pub returns : goal.returns
returns c =
    let row = c.args.row.now in
    let inside : c.args.k + 1 < length row = omega (arith, c.requires.k) in
    let first : 0 < length row = omega (arith, c.requires.k) in
    let n_small = c.requires.row.small (c.args.k + 1) (pos 0) inside in
    let d_small = c.requires.row.small 0 (pos 0) first in
    let num = widened (at_place row (c.args.k + 1)) c.from.result n_small c.from.ensures in
    let den = widened (at_place row 0) c.from-2.result d_small c.from-2.ensures in
    let some = rw (num, den, c.in-Some.is) at c.of.ensures in
    let next : c.args.k + 1 ≡ suc c.args.k = omega arith in
    some.1 ∙ terms_positive _ _ c.requires.row.positive
    ∙ ap (λ (k : ℕ). lowest (at_place row k) (unsigned_abs (at_place row 0))) next
    ∙ sym (entry_in_row row c.args.k c.requires.k)
