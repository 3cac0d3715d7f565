use Rattle.std.proofs.Common.{◌≤◌, length, arith}
use Rattle.qm_top.proofs.Answering.{refused_beyond}
use Rattle.qm_top.proofs.stated.by_tree.Goals as goal

pub normal-requires : goal.normal-requires
normal-requires c =
    let short : length c.args.text.now ≤ 4194304 = c.requires.short in
    record { in_order = c.trees_of_texts_are_in_order.ensures c.args.text.now c.args.tokens.now c.args.ast.now (omega (arith, short)) c.requires.tokens c.requires.ast }

pub returns-in_ok-normal_report-in-Err : goal.returns-in_ok-normal_report-in-Err
returns-in_ok-normal_report-in-Err c =
    refused_beyond c.args.text.now c.args.tokens.now c.args.ast.now c.in-Err.fault c.requires.tokens c.requires.ast c.in-Err.ensures _ _ c.in_ok-normal_report-in-Err.ensures

pub returns-in-Ok : goal.returns-in-Ok
returns-in-Ok c = record { tokens = c.args.tokens.now; cut = c.requires.tokens; ast = c.args.ast.now; parsed = c.requires.ast; normal = c.in-Ok.ensures }
