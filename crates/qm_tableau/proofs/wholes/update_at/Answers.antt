use Rattle.std.proofs.Common.{◌≡◌, ◌∙◌, ◌*◌, ◌+◌, ◌-◌, sym, subst, arith, ℤ, List, [], length, get_or, drop}
use Rattle.std.proofs.lemmas.List.{length-drop, length-take-le}
use borrow.Rule.Slice.PartMut.{put_mid}
use Rattle.qm_tableau.specs.Tables.{rows_of}
use Rattle.qm_tableau.specs.UpdateSteps.{IsUpdated}
use Rattle.qm_tableau.proofs.Cuts.{row_below}
use Rattle.qm_tableau.proofs.RowLists.{part_put, put_here, put_others}
use Rattle.qm_tableau.proofs.wholes.update_at.Goals as goal

pub returns-clause-updated : goal.returns-clause-updated
returns-clause-updated c h =
    let w = c.args.width in
    let n = c.args.height in
    let i = c.args.i in
    let xs = c.args.numbers.now in
    let new = c.update.new.out in
    let most = row_below n w i c.requires.i in
    let rest = length-drop (i * w) xs in
    let size : i * w + w - i * w ≡ w = omega arith in
    let wide : length new ≡ w = c.update.ensures.count ∙ length-take-le (i * w + w - i * w) (drop (i * w) xs) (omega (arith, most, rest, size, c.requires.count)) ∙ size in
    let out = put_mid (i * w) (i * w + w - i * w) xs new in
    let here : get_or (rows_of w n out) i [] ≡ new = put_here w n i xs new out c.requires.i c.requires.count wide (part_put (i * w) w xs new) in
    subst (λ (r : List ℤ). IsUpdated c.args.col c.args.leaving.now c.args.row.now r) (sym here) (c.update.ensures.updated h)

pub returns-clause-others : goal.returns-clause-others
returns-clause-others c =
    let w = c.args.width in
    let n = c.args.height in
    let i = c.args.i in
    let xs = c.args.numbers.now in
    let new = c.update.new.out in
    let most = row_below n w i c.requires.i in
    let rest = length-drop (i * w) xs in
    let size : i * w + w - i * w ≡ w = omega arith in
    let wide : length new ≡ w = c.update.ensures.count ∙ length-take-le (i * w + w - i * w) (drop (i * w) xs) (omega (arith, most, rest, size, c.requires.count)) ∙ size in
    put_others w n i xs new (put_mid (i * w) (i * w + w - i * w) xs new) c.requires.i c.requires.count wide (part_put (i * w) w xs new)
