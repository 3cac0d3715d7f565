-- The objective of the normal form is the written one, negated where the text minimises.
use Rattle.std.proofs.Common.{◌≡◌, ℕ, ◌*◌, ◌<◌, List, [], ◌∷◌, get_or, refl, sym, ◌∙◌, subst, ℤ, pos, ◌+ℤ◌, ◌*ℤ◌, Ok, Option, Some, None}
use Rattle.std.specs.Prelude.{All, map}
use Rattle.std.proofs.lemmas.List.Elements.{All-head, All-map, All-tail}
use Rattle.qm_math.specs.Fraction.{Fraction, HasPositiveDen, IsSame, whole}
use Rattle.qm_math.specs.Arithmetic as math
use Rattle.qm_math.specs.Arithmetic.{product_of, sum_of}
use Rattle.qm_math.specs.Over.{over}
use Rattle.qm_math.specs.Totals.{total_of}
use Rattle.qm_math.proofs.Polynomials.{number, ◌⊕◌, ◌⊗◌}
use Rattle.qm_math.proofs.Ring.{x0, x1, x2, x3, x4, x5, x6, ring}
use Rattle.qm_math.proofs.FractionLaws.{negated-product_of, product_of_den, same_refl, same_sym, same_trans, sum_of-same, sum_of_den, whole_den}
use Rattle.qm_math.proofs.FractionLinear.{same_given}
use Rattle.qm_math.proofs.Totals.{negated-total_of, total_of-map, total_of-same, total_of_den}
use Rattle.qm_frac.specs.Arithmetic.{negated}
use Rattle.qm_model.specs.declared.game.Problem.{Problem}
use Rattle.qm_model.specs.declared.game.Sense.{Sense}
use Rattle.qm_model.specs.declared.game.Sense.TheVariants.{Max, Min}
use Rattle.qm_model.specs.Linear.{form}
use Rattle.qm_parse.specs.declared.ast.Ast.{Ast}
use Rattle.qm_parse.specs.declared.ast.AstTerm.{AstTerm}
use Rattle.qm_parse.specs.Checks.{Has, NamesRight}
use Rattle.qm_normal.specs.Meaning.{HasNamesInOrder, in_game_order, maximised_value, objective_over, term_value, value_over, written_value}
use Rattle.qm_normal.specs.Normal.{Objective, maximised, normal_form, objective_times}
use Rattle.qm_normal.specs.Numbers.{HasProperNumbers, IsProperTerm}
use Rattle.qm_normal.specs.Rows.{common_denominator, is_constant, row_times, times}
use Rattle.qm_normal.specs.SumSteps.{maximised_term}
use Rattle.qm_normal.specs.Variables.{game_order, vars_of}
use Rattle.qm_normal.proofs.NormalDens.{maximised_proper, total_den, totals_den}
use Rattle.qm_normal.proofs.NormalSound.{objective_found}
use Rattle.qm_normal.proofs.NormalSteps.{ObjectiveParts, normal_parts}
use Rattle.qm_normal.proofs.NormalTerms.{length-totals}
use Rattle.qm_normal.proofs.RowMeaning.{DividesInto, common_divides, form_from, scaled_weighted, times_same, weighted, weighted_den, weighted_nums}
use Rattle.qm_normal.proofs.RowsWritten.{written_den, written_is}
use Rattle.qm_normal.proofs.SumMeaning.{HasPositiveValues, coef_if, coefs_den, term_value_is, total_is, value_by}

-- ---- over the scale

divided : (d den : ℕ) (v : Fraction) (n : ℤ) → IsSame (product_of (whole (pos d)) v) (over den n) → IsSame v (over (d * den) n)
unfolding product_of
divided d den v n h =
    ring (pos d ∷ v.num ∷ pos den ∷ []) (x1 ⊗ (x0 ⊗ x2)) (x0 ⊗ x1 ⊗ x2) refl ∙ h ∙ ring (n ∷ pos v.den ∷ []) (x0 ⊗ (number (pos 1) ⊗ x1)) (x0 ⊗ x1) refl

with_whole : (z k : ℤ) (den : ℕ) → IsSame (sum_of (over den z) (whole k)) (over den (z +ℤ (k *ℤ pos den)))
unfolding sum_of
with_whole z k den = ring (z ∷ k ∷ pos den ∷ []) ((x0 ⊗ number (pos 1) ⊕ x1 ⊗ x2) ⊗ x2) ((x0 ⊕ x1 ⊗ x2) ⊗ (x2 ⊗ number (pos 1))) refl

scaled_value : (d den : ℕ) (v w c : Fraction) (z k : ℤ) → 0 < den → 0 < v.den → 0 < w.den → 0 < c.den → IsSame v (sum_of w c)
    → IsSame (product_of (whole (pos d)) w) (over den z) → IsSame (product_of (whole (pos d)) c) (whole k) → IsSame v (over (d * den) (z +ℤ (k *ℤ pos den)))
scaled_value d den v w c z k some v_den w_den c_den v_is w_is c_is =
    let n = z +ℤ (k *ℤ pos den) in
    divided d den v n
    (same_given (whole (pos d) ∷ v ∷ w ∷ c ∷ over den z ∷ whole k ∷ over den n ∷ []) (x0 ⊗ x1) x6
    ((x0, x1, x2 ⊕ x3) ∷ (number (pos 1), x0 ⊗ x2, x4) ∷ (number (pos 1), x0 ⊗ x3, x5) ∷ (number (pos 1), x4 ⊕ x5, x6) ∷ [])
    (whole_den (pos d), (v_den, (w_den, (c_den, (some, (whole_den k, (some, tt))))))) (v_is, (w_is, (c_is, (with_whole z k den, tt)))) refl)

abbrev objective_fraction : Objective → ℕ → List ℤ → Fraction
objective_fraction objective den values = record { num = form objective.terms values +ℤ (objective.constant *ℤ pos den); den = objective.scale * den }

objective_value : (ast : Ast) (den : ℕ) (nums : ℕ → ℤ) → NamesRight ast → 0 < den → (terms : List AstTerm) (objective : Objective) → All IsProperTerm terms → HasNamesInOrder ast terms
    → ObjectiveParts (vars_of ast) (game_order ast) terms objective → IsSame (written_value (value_over den nums) terms) (objective_fraction objective den (in_game_order ast nums))
objective_value ast den nums right some terms objective proper ordered parts =
    let order = game_order ast in
    let value = value_over den nums in
    let positive : HasPositiveValues value = λ name. some in
    let values = in_game_order ast nums in
    let sums = parts.sums in
    let c = parts.constant in
    let c_all = total_of (coef_if is_constant) terms in
    let sums_den = totals_den order terms sums proper parts.sums_are in
    let c_den : 0 < c.den = total_den is_constant terms (whole (pos 0)) c proper (whole_den (pos 0)) parts.constant_is in
    let d = common_denominator (c ∷ sums) in
    let divides = common_divides (c ∷ sums) in
    let w = weighted value sums order in
    let v = written_value value terms in
    let z = weighted_nums d nums sums order in
    let k = times d c in
    let w_den = weighted_den value positive sums order sums_den in
    let v_den = written_den value positive terms proper in
    let v_is : IsSame v (sum_of w c) =
    same_trans v (sum_of w c_all) (sum_of w c) (sum_of_den w c_all w_den (coefs_den is_constant terms proper)) (written_is ast value positive right terms sums proper ordered parts.sums_are)
    (sum_of-same w c_all w c (same_refl w) (same_sym c c_all (total_is is_constant terms c proper parts.constant_is))) in
    let w_is = scaled_weighted d den nums some sums order (All-tail (DividesInto d) c sums divides) sums_den in
    let c_is = times_same d c (All-head (DividesInto d) c sums divides) in
    let found : IsSame v (over (d * den) (z +ℤ (k *ℤ pos den))) = scaled_value d den v w c z k some v_den w_den c_den v_is w_is c_is in
    let e : form (row_times d sums c).terms values ≡ z = form_from d nums 0 sums order (length-totals order terms sums parts.sums_are) in
    let made : IsSame v (objective_fraction (objective_times d sums c) den values) = subst (λ (f : ℤ). IsSame v (over (d * den) (f +ℤ (k *ℤ pos den)))) (sym e) found in
    subst (λ (o : Objective). IsSame v (objective_fraction o den values)) parts.objective_is made

-- ---- the sense

negated_value : (value : ℕ → Fraction) (coef : Fraction) (o : Option ℕ) → IsSame (value_by value (negated coef) o) (negated (value_by value coef o))
unfolding math.negated
negated_value value coef None = same_refl (negated coef)
negated_value value coef (Some n) = negated-product_of coef (value n)

turned_value : (value : ℕ → Fraction) (terms : List AstTerm) → IsSame (total_of (λ (term : AstTerm). negated (term_value value term)) terms) (negated (written_value value terms))
unfolding math.negated
turned_value value terms = same_sym (negated (written_value value terms)) (total_of (λ (term : AstTerm). negated (term_value value term)) terms) (negated-total_of (term_value value) terms)

negated_terms : (value : ℕ → Fraction) → HasPositiveValues value → (terms : List AstTerm) → All IsProperTerm terms → IsSame (written_value value (map (maximised_term Min) terms)) (negated (written_value value terms))
negated_terms value positive terms proper =
    let each = λ (term : AstTerm). term_value value (maximised_term Min term) in
    let turned = λ (term : AstTerm). negated (term_value value term) in
    let same : (term : AstTerm) → IsSame (each term) (turned term) =
    λ term. subst (λ (a : Fraction). IsSame a (turned term)) (term_value_is value (maximised_term Min term) term.name refl)
    (subst (λ (b : Fraction). IsSame (value_by value (negated term.coef) term.name) (negated b)) (term_value_is value term term.name refl) (negated_value value term.coef term.name)) in
    let term_den : (term : AstTerm) → 0 < term.coef.den → (o : Option ℕ) → 0 < (value_by value term.coef o).den = value_den value positive in
    let turned_den : 0 < (total_of turned terms).den =
    total_of_den turned terms (λ k d inside. let term = get_or terms k d in subst HasPositiveDen (term_value_is value term term.name refl) (term_den term (proper k d inside) term.name)) in
    subst (λ (a : Fraction). IsSame a (negated (written_value value terms))) (sym (total_of-map (term_value value) (maximised_term Min) terms))
    (same_trans (total_of each terms) (total_of turned terms) (negated (written_value value terms)) turned_den
    (total_of-same each turned terms (λ k d inside. same (get_or terms k d))) (turned_value value terms))
  where
    value_den : (value : ℕ → Fraction) → HasPositiveValues value → (term : AstTerm) → 0 < term.coef.den → (o : Option ℕ) → 0 < (value_by value term.coef o).den
    value_den value positive term some None = some
    value_den value positive term some (Some n) = product_of_den term.coef (value n) some (positive n)

maximised_is : (value : ℕ → Fraction) → HasPositiveValues value → (sense : Sense) (terms : List AstTerm) → All IsProperTerm terms → IsSame (written_value value (maximised sense terms)) (maximised_value sense (written_value value terms))
unfolding maximised
maximised_is value positive Max terms proper = same_refl (written_value value terms)
maximised_is value positive Min terms proper = negated_terms value positive terms proper

maximised_ordered : (ast : Ast) (sense : Sense) (terms : List AstTerm) → HasNamesInOrder ast terms → HasNamesInOrder ast (maximised sense terms)
unfolding maximised
maximised_ordered ast Max terms ordered = ordered
maximised_ordered ast Min terms ordered = All-map (λ (term : AstTerm). (name : ℕ) → term.name ≡ Some name → Has ast.order name) (maximised_term Min) terms ordered

pub objective_means : (ast : Ast) (P : Problem) (den : ℕ) (nums : ℕ → ℤ) → NamesRight ast → HasProperNumbers ast → HasNamesInOrder ast ast.objective → 0 < den → normal_form ast ≡ Ok P
    → IsSame (objective_over P den (in_game_order ast nums)) (maximised_value ast.sense (written_value (value_over den nums) ast.objective))
objective_means ast P den nums right proper ordered some h =
    let value = value_over den nums in
    let positive : HasPositiveValues value = λ name. some in
    let values = in_game_order ast nums in
    let terms = maximised ast.sense ast.objective in
    let proper_terms = maximised_proper ast.sense ast.objective proper.objective in
    let parts = normal_parts ast P h in
    let made = objective_value ast den nums right some terms parts.objective proper_terms (maximised_ordered ast ast.sense ast.objective ordered) (objective_found ast P parts) in
    let v = written_value value terms in
    let o = objective_fraction parts.objective den values in
    let whole_o : IsSame o (maximised_value ast.sense (written_value value ast.objective)) =
    same_trans o v (maximised_value ast.sense (written_value value ast.objective)) (written_den value positive terms proper_terms) (same_sym v o made)
    (maximised_is value positive ast.sense ast.objective proper.objective) in
    subst (λ (Q : Problem). IsSame (objective_over Q den values) (maximised_value ast.sense (written_value value ast.objective))) parts.problem whole_o
