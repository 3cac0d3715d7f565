-- The low ends of the universal variables, one variable after the other.
use Rattle.std.proofs.Common.{◌≡◌, sym, ap, ◌∙◌, ℕ, ◌+◌, ◌<◌, Bool, true, false, List, [], ◌∷◌, ◌++◌, length, get_or, drop, map, ℤ, append_assoc}
use Rattle.std.specs.Prelude.{if◌then◌else◌}
use Rattle.std.proofs.lemmas.List.{at_drop_more}
use Rattle.qm_model.specs.declared.range.Range.{Range}
use Rattle.qm_model.specs.declared.variable.Var.{Var}
use Rattle.qm_model.specs.Legal.{universal_part}
use Rattle.qm_model.specs.Plays.{is_universal}
use Rattle.qm_legal.specs.Queries.{low_of}

abbrev pub lows : List Var → List Range → List ℤ
lows xs bx = universal_part xs (map low_of bx)

pub lows_more : (xs : List Var) (bx : List Range) (i : ℕ) (x : Var) (r : Range) (before after all : List ℤ) → i < length xs → i < length bx → x ≡ get_or xs i x → r ≡ get_or bx i r
    → after ≡ (if is_universal x then before ++ r.low ∷ [] else before) → before ++ lows (drop i xs) (drop i bx) ≡ all
    → after ++ lows (drop (i + 1) xs) (drop (i + 1) bx) ≡ all
lows_more xs bx i x r before after all h k at_x at_r is whole =
    let others = drop (i + 1) xs in
    let ranges = drop (i + 1) bx in
    let here : lows (drop i xs) (drop i bx) ≡ lows (x ∷ others) (r ∷ ranges) =
    at_drop_more (λ ys. lows ys (drop i bx)) xs i x h
    ∙ ap (λ (y : Var). lows (y ∷ others) (drop i bx)) (sym at_x)
    ∙ at_drop_more (λ rs. lows (x ∷ others) rs) bx i r k
    ∙ ap (λ (q : Range). lows (x ∷ others) (q ∷ ranges)) (sym at_r) in
    by (is_universal x) is (sym (ap (λ us. before ++ us) here) ∙ whole)
  where
    by : (b : Bool) → after ≡ (if b then before ++ r.low ∷ [] else before)
        → before ++ (if b then r.low ∷ lows (drop (i + 1) xs) (drop (i + 1) bx) else lows (drop (i + 1) xs) (drop (i + 1) bx)) ≡ all
        → after ++ lows (drop (i + 1) xs) (drop (i + 1) bx) ≡ all
    by true e w = ap (λ us. us ++ lows (drop (i + 1) xs) (drop (i + 1) bx)) e ∙ append_assoc before (r.low ∷ []) (lows (drop (i + 1) xs) (drop (i + 1) bx)) ∙ w
    by false e w = ap (λ us. us ++ lows (drop (i + 1) xs) (drop (i + 1) bx)) e ∙ w
