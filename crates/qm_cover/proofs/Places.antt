-- A box whose range is put back.
use Rattle.std.proofs.Common.{◌≡◌, ℕ, List, set, ap, ◌∙◌, pos}
use Rattle.std.proofs.lemmas.List.{set-set, set-get_or}
use Rattle.qm_model.specs.declared.range.Range.{Range}
use Rattle.qm_model.specs.Ranges.{range_at, single}

-- a range that is changed and put back
pub put_back : (bx changed tested last : List Range) (at : ℕ) (r before : Range) → changed ≡ set bx at r → tested ≡ changed → last ≡ set tested at before → before ≡ range_at bx at → last ≡ bx
put_back bx changed tested last at r before p q e is =
    e ∙ ap (λ xs. set xs at before) (q ∙ p) ∙ set-set bx at r before ∙ ap (set bx at) is ∙ set-get_or bx at (single (pos 0))

pub put_back_at : (bx : List Range) (at : ℕ) (r : Range) → set (set bx at r) at (range_at bx at) ≡ bx
put_back_at bx at r = set-set bx at r (range_at bx at) ∙ set-get_or bx at (single (pos 0))
