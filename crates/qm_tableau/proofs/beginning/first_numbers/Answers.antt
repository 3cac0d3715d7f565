use Rattle.std.proofs.Common.{◌≡◌, ◌∙◌, ◌+◌, ap, arith, length, add-one}
use Rattle.qm_tableau.specs.Tables.{Numbers}
use Rattle.qm_tableau.specs.Quantities.{quantities}
use Rattle.qm_tableau.proofs.Cuts.{length_rows_of}
use Rattle.qm_tableau.proofs.Rooms.{count_entries, rows_of_entries}
use Rattle.qm_tableau.proofs.beginning.first_numbers.Goals as goal

pub into_rows-requires-clause-count : goal.into_rows-requires-clause-count
into_rows-requires-clause-count c =
    count_entries c.args.highs.now c.args.values.now (quantities c.args.problem.now c.args.cuts.now c.args.bx.now) (length c.args.highs.now + 1) c.height_of-height.result _
    c.in_ok-push_entries.ensures (add-one (length c.args.highs.now)) c.height_of-height.ensures.count

pub returns-clause-few : goal.returns-clause-few
returns-clause-few c =
    let many : length c.in_ok-numbers.numbers.rows ≡ c.height_of-height.result =
    ap (λ (n : Numbers). length n.rows) c.in_ok-numbers.ensures ∙ length_rows_of (length c.args.highs.now + 1) c.height_of-height.result c.push_entries.new.entries in
    omega (arith, many, c.height_of-height.ensures.few)

pub returns-clause-rows : goal.returns-clause-rows
returns-clause-rows c =
    rows_of_entries c.args.highs.now c.args.values.now (quantities c.args.problem.now c.args.cuts.now c.args.bx.now) (length c.args.highs.now + 1) c.height_of-height.result
    c.push_entries.new.entries c.in_ok-numbers.numbers c.in_ok-numbers.ensures c.in_ok-push_entries.ensures (add-one (length c.args.highs.now)) c.height_of-height.ensures.count
