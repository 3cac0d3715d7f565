use Rattle.std.proofs.Common.{◌∷◌, drop, map, string_bytes, sym, subst}
use Rattle.std.specs.Prelude.{codes}
use Rattle.qm_top.proofs.Asking.{AskNothing, no_budget_asked}
use Rattle.qm_top.proofs.FrontWords.{first_word, words_behind}
use Rattle.qm_top.proofs.command.solve_of.Goals as goal

pub returns-in_err-nodes-in-len1-up-clause-none : goal.returns-in_err-nodes-in-len1-up-clause-none
returns-in_err-nodes-in-len1-up-clause-none c =
    let file = c.file-item.result in
    let words = first_word c.args.words.now file c.in-len1-up.len_at_least c.file-item.is in
    let none = rw (words_behind c.args.words.now) at c.in_err-nodes-in-len1-up.ensures.none in
    rw c.from_residual.ensures
    (subst (λ ws. AskNothing (codes "solve" ∷ ws)) (sym words) (no_budget_asked (string_bytes file) (map string_bytes (drop 1 c.args.words.now)) none))
