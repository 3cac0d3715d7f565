-- One step of the loops over the variables.
use Rattle.std.proofs.Common.{◌≡◌, ◌∙◌, sym, ap, ℕ, ◌+◌, ◌<◌, add-one, Bool, List, [], ◌∷◌, ◌++◌, length, get_or, drop, ℤ, pos}
use Rattle.std.specs.Prelude.{int_lt}
use Rattle.std.proofs.lemmas.List.{at_drop_more, append_assoc}
use Rattle.qm_math.specs.Fraction.{Fraction, whole}
use Rattle.qm_model.specs.declared.range.Range.{Range}
use Rattle.qm_model.specs.declared.row.Term.{Term}
use Rattle.qm_model.specs.Linear.{coefficient}
use Rattle.qm_tableau.specs.FirstTable.{numbers_from, raises}
use Rattle.qm_tableau.specs.Quantities.{turned}

-- one more item behind those that are done
pub moved_to_done : {A : Type 0} (done next whole : List A) (x : A) → done ++ x ∷ next ≡ whole → (done ++ x ∷ []) ++ next ≡ whole
moved_to_done done next all x h = append_assoc done (x ∷ []) next ∙ h

pub raises_more : (objective : List Term) (var : ℕ) (d : Range) (bx : List Range) (done all : List Bool) → var < length bx
    → done ++ raises objective var (drop var bx) ≡ all
    → (done ++ int_lt (pos 0) (coefficient objective var) ∷ []) ++ raises objective (var + 1) (drop (var + 1) bx) ≡ all
raises_more objective var d bx done all h before =
    ap (λ (n : ℕ). (done ++ int_lt (pos 0) (coefficient objective var) ∷ []) ++ raises objective n (drop (var + 1) bx)) (add-one var)
    ∙ moved_to_done done _ all _ (sym (at_drop_more (λ rs. done ++ raises objective var rs) bx var d h) ∙ before)

pub numbers_more : (f : ℕ → ℤ) (var : ℕ) (d : Bool) (highs : List Bool) (done all : List Fraction) → var < length highs
    → done ++ numbers_from f var (drop var highs) ≡ all
    → (done ++ whole (turned (get_or highs var d) (f var)) ∷ []) ++ numbers_from f (var + 1) (drop (var + 1) highs) ≡ all
numbers_more f var d highs done all h before =
    ap (λ (n : ℕ). (done ++ whole (turned (get_or highs var d) (f var)) ∷ []) ++ numbers_from f n (drop (var + 1) highs)) (add-one var)
    ∙ moved_to_done done _ all _ (sym (at_drop_more (λ hs. done ++ numbers_from f var hs) highs var d h) ∙ before)

-- the coefficient among the terms that are left is that among all
pub raises_step : (objective rest : List Term) (var : ℕ) (d : Range) (bx : List Range) (done now all : List Bool) (c : ℤ) → var < length bx
    → now ≡ done ++ int_lt (pos 0) c ∷ [] → c ≡ coefficient rest var → coefficient rest var ≡ coefficient objective var
    → done ++ raises objective var (drop var bx) ≡ all
    → now ++ raises objective (var + 1) (drop (var + 1) bx) ≡ all
raises_step objective rest var d bx done now all c h is value same before =
    ap (λ (hs : List Bool). hs ++ raises objective (var + 1) (drop (var + 1) bx)) (is ∙ ap (λ (z : ℤ). done ++ int_lt (pos 0) z ∷ []) (value ∙ same))
    ∙ raises_more objective var d bx done all h before

pub numbers_step : (less : Bool) (terms rest : List Term) (var : ℕ) (d : Bool) (highs : List Bool) (done now all : List Fraction) (c : ℤ) → var < length highs
    → now ≡ done ++ whole (turned (get_or highs var d) (turned less c)) ∷ [] → c ≡ coefficient rest var → coefficient rest var ≡ coefficient terms var
    → done ++ numbers_from (λ v. turned less (coefficient terms v)) var (drop var highs) ≡ all
    → now ++ numbers_from (λ v. turned less (coefficient terms v)) (var + 1) (drop (var + 1) highs) ≡ all
numbers_step less terms rest var d highs done now all c h is value same before =
    ap (λ (ks : List Fraction). ks ++ numbers_from (λ v. turned less (coefficient terms v)) (var + 1) (drop (var + 1) highs))
    (is ∙ ap (λ (z : ℤ). done ++ whole (turned (get_or highs var d) (turned less z)) ∷ []) (value ∙ same))
    ∙ numbers_more (λ v. turned less (coefficient terms v)) var d highs done all h before
