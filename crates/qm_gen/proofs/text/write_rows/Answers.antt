use Rattle.std.proofs.Common.{◌≡◌, arith}
use Rattle.qm_gen.proofs.Drawn.{rows_end, rows_start, rows_step}
use Rattle.qm_gen.proofs.text.write_rows.Goals as goal

pub loop-row-init : goal.loop-row-init
loop-row-init c = rows_start c.args.draws.now.state c.args.size c.append.new.self

pub loop-row-preserved : goal.loop-row-preserved
loop-row-preserved c =
    rows_step c.args.draws.now.state c.args.size c.loop-row._row c.append.new.self c.loop-row.out c.write_drawn_row.new.out c.loop-row.draws.state c.write_drawn_row.new.draws.state c.loop-row.invariant c.in_ok-write_drawn_row.ensures.text c.in_ok-write_drawn_row.ensures.state

pub returns : goal.returns
returns c =
    let all : c.loop-row._row ≡ c.args.size = omega arith in
    rows_end c.args.draws.now.state c.args.size c.loop-row._row c.args.out.now c.append.new.self c.loop-row.out c.loop-row.draws.state c.loop-row.invariant all c.in_ok-append.ensures.ok
