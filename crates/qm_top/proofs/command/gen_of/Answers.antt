use Rattle.std.proofs.Common.{◌≡◌, ◌∷◌, [], string_bytes, sym, ap, ◌∙◌}
use Rattle.std.specs.Prelude.{codes}
use Rattle.std.specs.Fmt.{decimal}
use Rattle.std.proofs.lemmas.Slice.Eq.{bytes_eq-Decides}
use Rattle.std.proofs.lemmas.Bool.Decides.{Decides-at}
use Rattle.qm_top.proofs.FrontWords.{three_words}
use Rattle.qm_top.proofs.command.gen_of.Goals as goal

pub returns-in_ok-size-in-len3-clause-some : goal.returns-in_ok-size-in-len3-clause-some
returns-in_ok-size-in-len3-clause-some c =
    let number = c.number-item-then-words-lt4.result in
    let size = c.size-item-then-words-lt4.result in
    let option = c.option-item.result in
    let words = three_words c.args.words.now number size option c.in-len3.len_at_least c.in-len3.len_below c.number-item-then-words-lt4.is c.size-item-then-words-lt4.is c.option-item.is in
    let named : c.as_str.result.now ≡ codes "--solve" = (Decides-at _ _ c.eq.ensures (bytes_eq-Decides c.as_str.result.now (codes "--solve"))).0 c.if-eq.true in
    let solve : string_bytes option ≡ codes "--solve" = sym c.as_str.ensures.value ∙ named in
    let first : string_bytes number ≡ decimal c.in_ok-number-in-len3.number = sym c.as_bytes-then-eq.ensures.value ∙ c.in_ok-number-in-len3.ensures.some.2 in
    let second : string_bytes size ≡ decimal c.in_ok-size-in-len3.size = sym c.as_bytes-then-eq-2.ensures.value ∙ c.in_ok-size-in-len3.ensures.some.2 in (
      c.in_ok-number-in-len3.ensures.some.1,
      c.in_ok-size-in-len3.ensures.some.0,
      c.in_ok-size-in-len3.ensures.some.1,
      ap (λ ws. codes "gen" ∷ ws)
          (words
          ∙ ap (λ t. t ∷ string_bytes size ∷ string_bytes option ∷ []) first
          ∙ ap (λ t. decimal c.in_ok-number-in-len3.number ∷ t ∷ string_bytes option ∷ []) second
          ∙ ap (λ t. decimal c.in_ok-number-in-len3.number ∷ decimal c.in_ok-size-in-len3.size ∷ t ∷ []) solve),
    )
