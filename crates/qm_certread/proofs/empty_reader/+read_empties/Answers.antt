use Rattle.std.proofs.Common.{◌≡◌, ◌+◌, length, arith, refl}
use Rattle.qm_certread.specs.Dues.{Empty, ranges}
use Rattle.qm_certread.specs.Forms.{empty_said}
use Rattle.qm_certread.specs.Nodes.{Split}
use Rattle.qm_certread.specs.NodesOf.{empty_part_nodes, in_turn}
use Rattle.qm_certread.specs.Pieces.{words_of}
use Rattle.qm_certread.specs.ReadSteps.{Fails, FailsPart}
use Rattle.std.proofs.Common.{rules, [], ◌∷◌, ◌++◌, ap, map, length-append}
use Rattle.qm_certread.proofs.EmptyRead.{split_nodes, split_told}
use Rattle.qm_certread.proofs.TreesRead.{below_fails, below_meets, err_out, node_fails, part_below_fails, part_fails, parts_fail, parts_more}
use Rattle.qm_certread.proofs.empty_reader.+read_empties.Goals as goal

pub read_empty-returns-in_err-said-clause-err : goal.read_empty-returns-in_err-said-clause-err
read_empty-returns-in_err-said-clause-err t c =
    err_out (λ e. Fails c.args.problem.now c.args.text.now (Empty c.args.least ∷ []) c.args.cursor.now e) c.from_residual.result _ c.from_residual.ensures.1
    (node_fails c.args.problem.now c.args.text.now (empty_said c.args.problem.now c.args.least) (Empty c.args.least) c.args.cursor.now _ (λ words. refl) c.in_err-said.ensures.err)

pub read_empty-read_empty_parts-requires : goal.read_empty-read_empty_parts-requires
read_empty-read_empty_parts-requires t c =
    let says = rw c.in-Split.is at c.in_ok-said.ensures.ok in
    let told = split_told c.args.problem.now c.args.least (words_of says.line) c.in-Split.var c.in-Split.count says.says in
    let low = told.0 in
    let high = told.1 in
    (omega arith, (c.requires.wholes, c.in_ok-said.ensures.place))

pub read_empty-returns-in_err-parts-in-Split-clause-err : goal.read_empty-returns-in_err-parts-in-Split-clause-err
read_empty-returns-in_err-parts-in-Split-clause-err t c =
    let says = rw c.in-Split.is at c.in_ok-said.ensures.ok in
    err_out (λ e. Fails c.args.problem.now c.args.text.now (Empty c.args.least ∷ []) c.args.cursor.now e) c.from_residual-in_err-parts-in-Split.result _ c.from_residual-in_err-parts-in-Split.ensures.1
    (below_fails c.args.problem.now c.args.text.now (Empty c.args.least) (Split c.in-Split.var c.in-Split.count) (ranges c.in-Split.count (Empty (c.in-Split.var + 1)))
    c.args.cursor.now c.next_empty.new.cursor _ says refl c.in_err-parts-in-Split.ensures.err)

pub read_empty-returns-in_ok-parts-in-Split-clause-ok : goal.read_empty-returns-in_ok-parts-in-Split-clause-ok
read_empty-returns-in_ok-parts-in-Split-clause-ok t c =
    let says = rw c.in-Split.is at c.in_ok-said.ensures.ok in
    below_meets c.args.problem.now c.args.text.now (Empty c.args.least) (Split c.in-Split.var c.in-Split.count) (ranges c.in-Split.count (Empty (c.in-Split.var + 1)))
    (in_turn (map empty_part_nodes c.in_ok-parts-in-Split.parts)) _ c.args.cursor.now c.next_empty.new.cursor c.read_empty_parts.new.cursor says refl c.in_ok-parts-in-Split.ensures.ok
    (split_nodes c.in-Split.var c.in_ok-parts-in-Split.parts c.in-Split.count c.in_ok-parts-in-Split.ensures.count)

pub read_empty_part-returns-in_err-range-clause-err : goal.read_empty_part-returns-in_err-range-clause-err
read_empty_part-returns-in_err-range-clause-err t c =
    err_out (λ e. FailsPart c.args.problem.now c.args.text.now (Empty c.args.least) c.args.cursor.now e) c.from_residual.result _ c.from_residual.ensures.1
    (part_fails c.args.problem.now c.args.text.now (Empty c.args.least) c.args.cursor.now _ c.in_err-range.ensures.err)

pub read_empty_part-returns-in_err-below-clause-err : goal.read_empty_part-returns-in_err-below-clause-err
read_empty_part-returns-in_err-below-clause-err t c =
    err_out (λ e. FailsPart c.args.problem.now c.args.text.now (Empty c.args.least) c.args.cursor.now e) c.from_residual-in_err-below.result _ c.from_residual-in_err-below.ensures.1
    (part_below_fails c.args.problem.now c.args.text.now (Empty c.args.least) c.in_ok-range.range c.args.cursor.now c.next_range.new.cursor _ c.in_ok-range.ensures.ok c.in_err-below.ensures.err)

pub read_empty_parts-returns-in_err-part-clause-err : goal.read_empty_parts-returns-in_err-part-clause-err
read_empty_parts-returns-in_err-part-clause-err t c =
    err_out (λ e. Fails c.args.problem.now c.args.text.now (ranges c.args.count (Empty c.args.least)) c.args.cursor.now e) c.from_residual.result _ c.from_residual.ensures.1
    (parts_fail c.args.problem.now c.args.text.now empty_part_nodes (Empty c.args.least) c.args.count c.loop-turn.turn c.loop-turn.parts c.args.cursor.now c.loop-turn.cursor _
    c.loop-turn-test.true c.loop-turn.invariant.moved c.in_err-part.ensures.err)

pub read_empty_parts-loop-turn-preserved : goal.read_empty_parts-loop-turn-preserved
read_empty_parts-loop-turn-preserved t c =
    let pushed : c.push.new.self ≡ c.loop-turn.parts ++ c.in_ok-part.part ∷ [] = search rules in
    record {
      place = c.in_ok-part.ensures.place;
      count = omega (arith, ap length pushed, length-append c.loop-turn.parts (c.in_ok-part.part ∷ []), c.loop-turn.invariant.count);
      moved =
          parts_more c.args.problem.now c.args.text.now empty_part_nodes (Empty c.args.least) c.args.count c.loop-turn.turn c.loop-turn.parts c.push.new.self c.in_ok-part.part c.args.cursor.now c.loop-turn.cursor c.read_empty_part.new.cursor
          c.loop-turn-test.true c.loop-turn.invariant.moved c.in_ok-part.ensures.ok pushed;
    }
