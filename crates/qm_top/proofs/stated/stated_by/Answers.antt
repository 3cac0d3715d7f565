use Rattle.std.proofs.Common.{[], ◌∷◌, refl, ap, ◌∙◌}
use Rattle.std.specs.Prelude.{codes}
use Rattle.qm_lex.specs.declared.place.Place.{Place}
use Rattle.qm_top.specs.FaultLines.{text_line}
use Rattle.qm_top.specs.Refusals.{bad_byte}
use Rattle.qm_top.proofs.stated.stated_by.Goals as goal

pub returns-in_ok-kind_line-in-Err-BadByte : goal.returns-in_ok-kind_line-in-Err-BadByte
returns-in_ok-kind_line-in-Err-BadByte c =
    let bad = c.tokens.ensures.bad c.in-Err-BadByte.at cc in
    bad_byte bad.0 bad.1 refl (c.in_ok-kind_line-in-Err-BadByte.ensures ∙ ap (λ (at : Place). text_line at (codes "byte" ∷ [])) bad.2)
