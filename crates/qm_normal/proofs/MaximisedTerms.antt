-- Terms as they are maximised, one after the other.
use Rattle.std.proofs.Common.{◌≡◌, ℕ, ◌<◌, ◌≤◌, List, [], ◌∷◌, map, length, get_or, refl, sym, ap, ◌∙◌, arith}
use Rattle.std.proofs.lemmas.List.{get_or-map, length-map}
use Rattle.qm_model.specs.declared.game.Sense.{Sense}
use Rattle.qm_model.specs.declared.game.Sense.TheVariants.{Max, Min}
use Rattle.qm_parse.specs.declared.ast.AstTerm.{AstTerm}
use Rattle.qm_normal.specs.Normal.{maximised}
use Rattle.qm_normal.specs.SumSteps.{maximised_term}

maximised_each : (terms : List AstTerm) → map (maximised_term Max) terms ≡ terms
maximised_each [] = refl
maximised_each (term ∷ terms) = ap (λ (list : List AstTerm). term ∷ list) (maximised_each terms)

pub maximised_is : (sense : Sense) (terms : List AstTerm) → map (maximised_term sense) terms ≡ maximised sense terms
unfolding maximised
maximised_is Max terms = maximised_each terms
maximised_is Min terms = refl

-- the term at an index, as it is maximised, is the one at that index of the terms as they are maximised
pub maximised_at : (sense : Sense) (terms : List AstTerm) (i : ℕ) (item term : AstTerm) → i < length terms → item ≡ get_or terms i item → term ≡ maximised_term sense item → term ≡ get_or (map (maximised_term sense) terms) i term
maximised_at sense terms i item term inside at is = is ∙ ap (maximised_term sense) at ∙ sym (get_or-map (maximised_term sense) terms i item term inside)

pub maximised_inside : (sense : Sense) (terms : List AstTerm) (i : ℕ) → i < length terms → i < length (map (maximised_term sense) terms)
maximised_inside sense terms i inside = let same = length-map terms (maximised_term sense) in omega (arith, inside)

pub maximised_end : (sense : Sense) (terms : List AstTerm) (i : ℕ) → length terms ≤ i → length (map (maximised_term sense) terms) ≤ i
maximised_end sense terms i end = let same = length-map terms (maximised_term sense) in omega (arith, end)
