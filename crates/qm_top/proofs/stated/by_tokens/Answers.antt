use Rattle.std.proofs.Common.{refl}
use Rattle.qm_top.specs.Refusals.{unread}
use Rattle.qm_top.proofs.stated.by_tokens.Goals as goal

pub returns-in_ok-parse_line-in-Err : goal.returns-in_ok-parse_line-in-Err
returns-in_ok-parse_line-in-Err c =
    unread c.args.tokens.now c.in-Err.fault c.requires.tokens c.in-Err.ensures refl c.in_ok-parse_line-in-Err.ensures
