use Rattle.std.proofs.Common.{◌≡◌, ◌∙◌, ◌<◌, ◌≤◌, ◌+◌, ◌*◌, sym, ap, ap₂, ℤ, List, [], ◌∷◌, ◌++◌, arith, length, map, get_or, take}
use Rattle.std.proofs.lemmas.List.{map-append, take_all, take_more}
use Rattle.qm_math.specs.Fraction.{Fraction}
use Rattle.qm_tableau.specs.Wholes.{fractions_of}
use Rattle.qm_tableau.proofs.grid.put_rows.Goals as goal

pub put_row-requires-clause-row : goal.put_row-requires-clause-row
put_row-requires-clause-row c =
    let inside : c.loop-i.i < length c.args.numbers.now.rows = omega (arith, c.loop-i-test.true, c.height-i-end.ensures.count) in
    rw c.row.ensures.row (c.requires.small c.loop-i.i [] inside)

pub loop-i-preserved : goal.loop-i-preserved
loop-i-preserved c =
    let rows = c.args.numbers.now.rows in
    let i = c.loop-i.i in
    let w = c.args.out.now.width in
    let inside : i < length rows = omega (arith, c.loop-i-test.true, c.height-i-end.ensures.count) in
    let before = c.loop-i.invariant in
    let put = c.put_row.ensures in
    let one : (i + 1) * w ≡ i * w + w = omega arith in
    record {
      rows = put.rows ∙ ap₂ (λ (rs : List (List Fraction)) (r : List ℤ). rs ++ fractions_of r ∷ []) before.rows c.row.ensures.row
          ∙ sym (map-append fractions_of (take i rows) (get_or rows i [] ∷ [])) ∙ ap (map fractions_of) (sym (take_more rows i [] inside));
      width = put.width ∙ before.width;
      room = omega (arith, one, before.room, before.width, put.spare);
    }

pub returns : goal.returns
returns c =
    let rows = c.args.numbers.now.rows in
    let all : length rows ≤ c.loop-i.i = omega (arith, c.loop-i-test.false, c.height-i-end.ensures.count) in
    record {
      rows = c.loop-i.invariant.rows ∙ ap (map fractions_of) (take_all c.loop-i.i rows all);
      width = c.loop-i.invariant.width;
    }
