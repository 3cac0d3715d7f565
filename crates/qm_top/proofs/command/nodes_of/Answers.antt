use Rattle.std.proofs.Common.{◌≡◌, [], ◌∷◌, string_bytes, sym, ap, ◌∙◌}
use Rattle.std.specs.Prelude.{codes}
use Rattle.std.proofs.lemmas.Slice.Eq.{bytes_eq-Decides}
use Rattle.std.proofs.lemmas.Bool.Decides.{Decides-at}
use Rattle.qm_top.proofs.Asking.{asked_nodes}
use Rattle.qm_top.proofs.FrontWords.{two_words}
use Rattle.qm_top.proofs.command.nodes_of.Goals as goal

pub returns-in_ok-nodes-in-len2-clause-some : goal.returns-in_ok-nodes-in-len2-clause-some
returns-in_ok-nodes-in-len2-clause-some c =
    let option = c.option-item.result in
    let number = c.number-item.result in
    let both = two_words c.args.words.now option number c.in-len2.len_at_least c.in-len2.len_below c.option-item.is c.number-item.is in
    let named : c.as_str.result.now ≡ codes "--nodes" = (Decides-at _ _ c.eq.ensures (bytes_eq-Decides c.as_str.result.now (codes "--nodes"))).0 c.if-eq.true in
    asked_nodes _ c.as_bytes.result.now c.in_ok-nodes-in-len2.nodes c.from.result
    (both ∙ ap (λ t. t ∷ string_bytes number ∷ []) (sym c.as_str.ensures.value ∙ named) ∙ ap (λ t. codes "--nodes" ∷ t ∷ []) (sym c.as_bytes.ensures.value))
    c.in_ok-nodes-in-len2.ensures.some
    c.from.ensures
