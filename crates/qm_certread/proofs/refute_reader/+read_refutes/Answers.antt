use Rattle.std.proofs.Common.{◌≡◌, ◌+◌, ◌<◌, ◌^◌, length, arith, refl}
use Rattle.std.proofs.lemmas.List.{length-take}
use Rattle.qm_certread.specs.Dues.{Refute, ranges}
use Rattle.qm_certread.specs.Forms.{refute_said}
use Rattle.qm_certread.specs.Nodes.{Over, Pick}
use Rattle.qm_certread.specs.NodesOf.{in_turn, refute_part_nodes}
use Rattle.qm_certfile.specs.Styles.{first_style}
use Rattle.qm_certread.specs.Pieces.{words_of}
use Rattle.qm_certread.specs.ReadSteps.{Fails, FailsPart}
use Rattle.std.proofs.Common.{rules, [], ◌∷◌, ◌++◌, ap, map, length-append}
use Rattle.qm_certread.proofs.RefuteRead.{over_nodes, over_told, pick_told}
use Rattle.qm_certread.proofs.TreesRead.{below_fails, below_meets, err_out, node_fails, part_below_fails, part_fails, parts_fail, parts_more}
use Rattle.qm_certread.proofs.refute_reader.+read_refutes.Goals as goal

pub read_refute-returns-in_err-said-clause-err : goal.read_refute-returns-in_err-said-clause-err
read_refute-returns-in_err-said-clause-err t c =
    err_out (λ e. Fails c.args.problem.now c.args.text.now (Refute c.args.depth ∷ []) c.args.cursor.now e) c.from_residual.result _ c.from_residual.ensures.1
    (node_fails c.args.problem.now c.args.text.now (refute_said first_style c.args.problem.now c.args.depth) (Refute c.args.depth) c.args.cursor.now _ (λ words. refl) c.in_err-said.ensures.err)

pub read_refute-overflow_add-depth : goal.read_refute-overflow_add-depth
read_refute-overflow_add-depth t c =
    let says = rw c.in-Over.is at c.in_ok-said.ensures.ok in
    let high = over_told c.args.problem.now c.args.depth (words_of says.line) c.in-Over.count says.says in
    let few : c.args.problem.now.wholes < 2 ^ 32 = omega arith in
    omega (arith, high, length-take c.args.problem.now.wholes c.args.problem.now.vars)

pub read_refute-overflow_add-depth-in-Pick : goal.read_refute-overflow_add-depth-in-Pick
read_refute-overflow_add-depth-in-Pick t c =
    let says = rw c.in-Pick.is at c.in_ok-said.ensures.ok in
    let high = pick_told c.args.problem.now c.args.depth (words_of says.line) c.in-Pick.value c.in-Pick.completion says.says in
    let few : c.args.problem.now.wholes < 2 ^ 32 = omega arith in
    omega (arith, high, length-take c.args.problem.now.wholes c.args.problem.now.vars)

pub read_refute-read_refute-requires : goal.read_refute-read_refute-requires
read_refute-read_refute-requires t c =
    let says = rw c.in-Pick.is at c.in_ok-said.ensures.ok in
    let high = pick_told c.args.problem.now c.args.depth (words_of says.line) c.in-Pick.value c.in-Pick.completion says.says in
    (omega arith, (c.requires.wholes, c.in_ok-said.ensures.place))

pub read_refute-returns-in_err-tree-in-Pick-clause-err : goal.read_refute-returns-in_err-tree-in-Pick-clause-err
read_refute-returns-in_err-tree-in-Pick-clause-err t c =
    let says = rw c.in-Pick.is at c.in_ok-said.ensures.ok in
    err_out (λ e. Fails c.args.problem.now c.args.text.now (Refute c.args.depth ∷ []) c.args.cursor.now e) c.from_residual-in_err-tree-in-Pick.result _ c.from_residual-in_err-tree-in-Pick.ensures.1
    (below_fails c.args.problem.now c.args.text.now (Refute c.args.depth) (Pick c.in-Pick.value c.in-Pick.completion) (Refute (c.args.depth + 1) ∷ [])
    c.args.cursor.now c.next_refute.new.cursor _ says refl c.in_err-tree-in-Pick.ensures.err)

pub read_refute-read_refute_parts-requires : goal.read_refute-read_refute_parts-requires
read_refute-read_refute_parts-requires t c =
    let says = rw c.in-Over.is at c.in_ok-said.ensures.ok in
    let high = over_told c.args.problem.now c.args.depth (words_of says.line) c.in-Over.count says.says in
    (omega arith, (c.requires.wholes, c.in_ok-said.ensures.place))

pub read_refute-returns-in_err-parts-in-Over-clause-err : goal.read_refute-returns-in_err-parts-in-Over-clause-err
read_refute-returns-in_err-parts-in-Over-clause-err t c =
    let says = rw c.in-Over.is at c.in_ok-said.ensures.ok in
    err_out (λ e. Fails c.args.problem.now c.args.text.now (Refute c.args.depth ∷ []) c.args.cursor.now e) c.from_residual-in_err-parts-in-Over.result _ c.from_residual-in_err-parts-in-Over.ensures.1
    (below_fails c.args.problem.now c.args.text.now (Refute c.args.depth) (Over c.in-Over.count) (ranges c.in-Over.count (Refute (c.args.depth + 1)))
    c.args.cursor.now c.next_refute.new.cursor _ says refl c.in_err-parts-in-Over.ensures.err)

pub read_refute-returns-in_ok-parts-in-Over-clause-ok : goal.read_refute-returns-in_ok-parts-in-Over-clause-ok
read_refute-returns-in_ok-parts-in-Over-clause-ok t c =
    let says = rw c.in-Over.is at c.in_ok-said.ensures.ok in
    below_meets c.args.problem.now c.args.text.now (Refute c.args.depth) (Over c.in-Over.count) (ranges c.in-Over.count (Refute (c.args.depth + 1)))
    (in_turn (map refute_part_nodes c.in_ok-parts-in-Over.parts)) _ c.args.cursor.now c.next_refute.new.cursor c.read_refute_parts.new.cursor says refl c.in_ok-parts-in-Over.ensures.ok
    (over_nodes c.in_ok-parts-in-Over.parts c.in-Over.count c.in_ok-parts-in-Over.ensures.count)

pub read_refute_part-returns-in_err-range-clause-err : goal.read_refute_part-returns-in_err-range-clause-err
read_refute_part-returns-in_err-range-clause-err t c =
    err_out (λ e. FailsPart c.args.problem.now c.args.text.now (Refute c.args.depth) c.args.cursor.now e) c.from_residual.result _ c.from_residual.ensures.1
    (part_fails c.args.problem.now c.args.text.now (Refute c.args.depth) c.args.cursor.now _ c.in_err-range.ensures.err)

pub read_refute_part-returns-in_err-below-clause-err : goal.read_refute_part-returns-in_err-below-clause-err
read_refute_part-returns-in_err-below-clause-err t c =
    err_out (λ e. FailsPart c.args.problem.now c.args.text.now (Refute c.args.depth) c.args.cursor.now e) c.from_residual-in_err-below.result _ c.from_residual-in_err-below.ensures.1
    (part_below_fails c.args.problem.now c.args.text.now (Refute c.args.depth) c.in_ok-range.range c.args.cursor.now c.next_range.new.cursor _ c.in_ok-range.ensures.ok c.in_err-below.ensures.err)

pub read_refute_parts-returns-in_err-part-clause-err : goal.read_refute_parts-returns-in_err-part-clause-err
read_refute_parts-returns-in_err-part-clause-err t c =
    err_out (λ e. Fails c.args.problem.now c.args.text.now (ranges c.args.count (Refute c.args.depth)) c.args.cursor.now e) c.from_residual.result _ c.from_residual.ensures.1
    (parts_fail c.args.problem.now c.args.text.now refute_part_nodes (Refute c.args.depth) c.args.count c.loop-turn.turn c.loop-turn.parts c.args.cursor.now c.loop-turn.cursor _
    c.loop-turn-test.true c.loop-turn.invariant.moved c.in_err-part.ensures.err)

pub read_refute_parts-loop-turn-preserved : goal.read_refute_parts-loop-turn-preserved
read_refute_parts-loop-turn-preserved t c =
    let pushed : c.push.new.self ≡ c.loop-turn.parts ++ c.in_ok-part.part ∷ [] = search rules in
    record {
      place = c.in_ok-part.ensures.place;
      count = omega (arith, ap length pushed, length-append c.loop-turn.parts (c.in_ok-part.part ∷ []), c.loop-turn.invariant.count);
      moved =
          parts_more c.args.problem.now c.args.text.now refute_part_nodes (Refute c.args.depth) c.args.count c.loop-turn.turn c.loop-turn.parts c.push.new.self c.in_ok-part.part c.args.cursor.now c.loop-turn.cursor c.read_refute_part.new.cursor
          c.loop-turn-test.true c.loop-turn.invariant.moved c.in_ok-part.ensures.ok pushed;
    }
