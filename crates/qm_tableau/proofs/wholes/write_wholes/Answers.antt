use Rattle.std.proofs.Common.{◌≡◌, ◌∙◌, ◌<◌, ◌≢◌, ◌+◌, ◌<ℤ◌, sym, ap, subst, add-one, arith, ℕ, ℤ, pos, suc, List, [], length, map, get_or, Ok}
use borrow.Author.Count.{below_more}
use Rattle.std.proofs.lemmas.List.{get_or-set_other, length-set}
use Rattle.qm_math.specs.Fraction.{Fraction}
use Rattle.qm_tableau.specs.Leaving.{Placed}
use Rattle.qm_tableau.specs.Pivoting.{new_rows}
use Rattle.qm_tableau.specs.Wholes.{IsSmallRow, at_place, fractions_of}
use Rattle.qm_tableau.specs.UpdateSteps.{IsUpdated}
use Rattle.qm_tableau.proofs.SmallNumbers.{above_is, passed_64}
use Rattle.qm_tableau.proofs.NoLeaving.{rows_are}
use Rattle.qm_tableau.proofs.UpdatedRows.{all_small, all_updated}
use Rattle.qm_tableau.proofs.wholes.write_wholes.Goals as goal

pub loop-i-preserved : goal.loop-i-preserved
loop-i-preserved c =
    let rows = c.args.numbers.now.rows in
    let i = c.loop-i.i in
    let now = c.update_row.new.self.rows in
    let before = c.loop-i.out.rows in
    let u = c.update_row.ensures in
    let here : IsUpdated c.args.col c.row-leaving.result.now (get_or rows i []) (get_or now i []) =
    subst (λ (r : List ℤ). IsUpdated c.args.col c.row-leaving.result.now r (get_or now i [])) c.row.ensures.row (u.updated c.if-not-update_row.false) in
    record {
      updated = below_more (λ (j : ℕ). IsUpdated c.args.col c.row-leaving.result.now (get_or rows j []) (get_or now j [])) i
          (λ j h. (let other : j ≢ i = λ e. omega (arith, h, e) in
          let same : get_or now j [] ≡ get_or before j [] = ap (λ (rs : List (List ℤ)). get_or rs j []) u.others ∙ get_or-set_other before i j _ [] other in
          subst (λ (r : List ℤ). IsUpdated c.args.col c.row-leaving.result.now (get_or rows j []) r) (sym same) (c.loop-i.invariant.updated j h))) here;
      count = ap (λ (rs : List (List ℤ)). length rs) u.others ∙ length-set before i _ ∙ c.loop-i.invariant.count;
      width = u.width ∙ c.loop-i.invariant.width;
    }

pub returns : goal.returns
returns c =
    let rows = c.args.numbers.now.rows in
    let outs = c.loop-i.out.rows in
    let leaving = c.row-leaving.result.now in
    let count : length outs ≡ length rows = c.loop-i.invariant.count ∙ c.requires.rows in
    let each = λ (j : ℕ) (h : j < length rows). c.loop-i.invariant.updated j (omega (arith, h, c.loop-i-test.false, c.height-i-end.ensures.count)) in
    let small : IsSmallRow leaving = rw c.row-leaving.ensures.row (c.requires.small c.args.row [] c.requires.row) in
    let wide : length leaving ≡ c.args.numbers.now.width = c.row-leaving.ensures.width in
    let inside : c.args.col + 1 < length leaving = omega (arith, wide, c.requires.col) in
    let passed = passed_64 (at_place leaving (c.args.col + 1)) (small.small (c.args.col + 1) (pos 0) inside) in
    let above : pos 0 <ℤ at_place leaving (c.args.col + 1) = above_is (at_place leaving (c.args.col + 1)) (rw passed at c.if-leaving-col-le0.false) in
    let some : pos 0 <ℤ at_place leaving (suc c.args.col) = subst (λ (k : ℕ). pos 0 <ℤ at_place leaving k) (add-one c.args.col) above in
    let all = rows_are c.args.col 0 c.args.numbers.now.width leaving rows small wide c.requires.col some c.requires.small c.height-i-end.ensures.widths in
    record {
      rows = λ _. ap (λ (r : List ℤ). new_rows c.args.col (fractions_of r) 0 (map fractions_of rows)) (sym c.row-leaving.ensures.row)
          ∙ all ∙ ap (λ (rs : List (List Fraction)). (let p : Placed (List (List Fraction)) = Ok rs in p)) (sym (all_updated c.args.col leaving rows outs count each));
      small = λ _. all_small c.args.col leaving rows outs count each;
      count = c.loop-i.invariant.count;
      width = c.loop-i.invariant.width;
    }
