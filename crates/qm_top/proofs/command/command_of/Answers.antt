use Rattle.std.proofs.Common.{◌≡◌, ◌∷◌, drop, map, string_bytes, sym, ap, subst, ◌∙◌}
use Rattle.std.specs.Prelude.{IfSome, codes}
use Rattle.std.proofs.lemmas.Slice.Eq.{bytes_eq-Decides}
use Rattle.std.proofs.lemmas.Bool.Decides.{Decides-at}
use Rattle.qm_top.specs.Words.{Asks}
use Rattle.qm_top.proofs.FrontWords.{first_word, words_behind}
use Rattle.qm_top.proofs.command.command_of.Goals as goal

pub returns-then-eq-clause-some : goal.returns-then-eq-clause-some
returns-then-eq-clause-some c =
    let behind = map string_bytes (drop 1 c.args.words.now) in
    let words = first_word c.args.words.now c.command-item.result c.in-len1-up.len_at_least c.command-item.is in
    let named : c.as_str.result.now ≡ codes "solve" = (Decides-at _ _ c.eq.ensures (bytes_eq-Decides c.as_str.result.now (codes "solve"))).0 c.if-eq.true in
    let whole = words ∙ ap (λ t. t ∷ behind) (sym c.as_str.ensures.value ∙ named) in
    subst (λ ws. IfSome c.solve_of.result (λ command. Asks command ws)) (sym whole) (rw (words_behind c.args.words.now) at c.solve_of.ensures.some)

pub returns-then-eq-2-clause-some : goal.returns-then-eq-2-clause-some
returns-then-eq-2-clause-some c =
    let behind = map string_bytes (drop 1 c.args.words.now) in
    let words = first_word c.args.words.now c.command-item.result c.in-len1-up.len_at_least c.command-item.is in
    let named : c.as_str-else-eq.result.now ≡ codes "check" = (Decides-at _ _ c.eq-else-eq.ensures (bytes_eq-Decides c.as_str-else-eq.result.now (codes "check"))).0 c.if-eq-2.true in
    let whole = words ∙ ap (λ t. t ∷ behind) (sym c.as_str-else-eq.ensures.value ∙ named) in
    subst (λ ws. IfSome c.check_of.result (λ command. Asks command ws)) (sym whole) (rw (words_behind c.args.words.now) at c.check_of.ensures.some)

pub returns-then-eq-3-clause-some : goal.returns-then-eq-3-clause-some
returns-then-eq-3-clause-some c =
    let behind = map string_bytes (drop 1 c.args.words.now) in
    let words = first_word c.args.words.now c.command-item.result c.in-len1-up.len_at_least c.command-item.is in
    let named : c.as_str-else-eq-2.result.now ≡ codes "gen" = (Decides-at _ _ c.eq-else-eq-2.ensures (bytes_eq-Decides c.as_str-else-eq-2.result.now (codes "gen"))).0 c.if-eq-3.true in
    let whole = words ∙ ap (λ t. t ∷ behind) (sym c.as_str-else-eq-2.ensures.value ∙ named) in
    subst (λ ws. IfSome c.gen_of.result (λ command. Asks command ws)) (sym whole) (rw (words_behind c.args.words.now) at c.gen_of.ensures.some)
