-- The rows that a written row gives hold exactly where it does.
use Rattle.std.proofs.Common.{◌≡◌, ◌≢◌, ◌↔◌, cond, ℕ, ◌<◌, Bool, true, false, List, ◌∷◌, get_or, refl, sym, subst, ℤ, pos, ◌*ℤ◌, ◌≤ℤ◌, Ok, Option, Some, None}
use Rattle.std.specs.Prelude.{All}
use Rattle.std.proofs.lemmas.List.Elements.{All-cons, All-head, All-tail}
use Rattle.qm_math.specs.Fraction.{Fraction, HasPositiveDen, IsAtMost, IsSame, whole}
use Rattle.qm_math.specs.Arithmetic.{product_of, sum_of}
use Rattle.qm_math.specs.Over.{over}
use Rattle.qm_math.specs.Totals.{total_of}
use Rattle.qm_math.proofs.FractionLaws.{product_of-same, product_of_den, same_refl, same_sym, same_trans, sum_of-same, sum_of-zero, sum_of_den, whole_den}
use Rattle.qm_math.proofs.Totals.{total_of-same, total_of-zero, total_of_den}
use Rattle.qm_model.specs.declared.row.Row.{Row}
use Rattle.qm_model.specs.Linear.{form}
use Rattle.qm_model.specs.Points.{HoldsOver}
use Rattle.qm_parse.specs.declared.ast.Ast.{Ast}
use Rattle.qm_parse.specs.declared.ast.AstRow.{AstRow}
use Rattle.qm_parse.specs.declared.ast.AstTerm.{AstTerm}
use Rattle.qm_parse.specs.declared.ast.Named.{Named}
use Rattle.qm_parse.specs.Checks.{NamesRight}
use Rattle.qm_normal.specs.Meaning.{HasNamesInOrder, HasNoConstant, IsMet, in_game_order, term_value, value_over, written_value}
use Rattle.qm_normal.specs.Numbers.{IsProperRow, IsProperTerm}
use Rattle.qm_normal.specs.Rows.{common_denominator, is_constant, negated_row, normal_row, related, row_times, times, totals}
use Rattle.qm_normal.specs.Variables.{game_order, vars_of}
use Rattle.qm_normal.proofs.NormalDens.{common_denominator_pos, totals_den}
use Rattle.qm_normal.proofs.NormalSteps.{row_parts}
use Rattle.qm_normal.proofs.NormalTerms.{length-totals}
use Rattle.qm_normal.proofs.RowMeaning.{DividesInto, at_least_is, at_most_is, common_divides, form_from, negated_holds, related_holds, scaled_weighted, times_same, weighted, weighted_den, weighted_is, weighted_nums}
use Rattle.qm_normal.proofs.SumMeaning.{HasPositiveValues, by_name, by_name_den, coef_if, coefs_den, constant_is, in_order, term_value_is, value_by, value_by_names}

not_constant : (term : AstTerm) → (o : Option ℕ) → term.name ≡ o → o ≢ None → is_constant term ≡ false
not_constant term None e some = absurd (some refl)
not_constant term (Some n) e some = constant_is term (Some n) e

zero_if : (b : Bool) (coef : Fraction) → b ≡ false → IsSame (cond b coef (whole (pos 0))) (whole (pos 0))
zero_if true coef e = absurd (cc)
zero_if false coef e = same_refl (whole (pos 0))

pub no_constants : (terms : List AstTerm) → All (λ term. term.name ≢ None) terms → IsSame (total_of (coef_if is_constant) terms) (whole (pos 0))
no_constants terms some =
    let zeros = total_of (λ (term : AstTerm). whole (pos 0)) terms in
    same_trans (total_of (coef_if is_constant) terms) zeros (whole (pos 0)) (total_of_den (λ (term : AstTerm). whole (pos 0)) terms (λ k d inside. whole_den (pos 0)))
    (total_of-same (coef_if is_constant) (λ (term : AstTerm). whole (pos 0)) terms (λ k d inside. (let term = get_or terms k d in zero_if (is_constant term) term.coef (not_constant term term.name refl (some k d inside)))))
    (total_of-zero terms)

value_by_den : (value : ℕ → Fraction) → HasPositiveValues value → (coef : Fraction) → 0 < coef.den → (o : Option ℕ) → 0 < (value_by value coef o).den
value_by_den value positive coef some None = some
value_by_den value positive coef some (Some n) = product_of_den coef (value n) some (positive n)

pub written_den : (value : ℕ → Fraction) → HasPositiveValues value → (terms : List AstTerm) → All IsProperTerm terms → 0 < (written_value value terms).den
written_den value positive terms proper =
    total_of_den (term_value value) terms (λ k d inside.
    let term = get_or terms k d in
    subst HasPositiveDen (term_value_is value term term.name refl) (value_by_den value positive term.coef (proper k d inside) term.name))

-- the sums times the values, and the constants, are what the terms come to
pub written_is : (ast : Ast) (value : ℕ → Fraction) → HasPositiveValues value → NamesRight ast → (terms : List AstTerm) (sums : List Fraction) → All IsProperTerm terms → HasNamesInOrder ast terms
    → totals (game_order ast) terms ≡ Ok sums → IsSame (written_value value terms) (sum_of (weighted value sums (game_order ast)) (total_of (coef_if is_constant) terms))
written_is ast value positive right terms sums proper ordered h =
    let w = weighted value sums (game_order ast) in
    let names = total_of (by_name value terms) ast.order in
    let game = total_of (by_name value terms) (game_order ast) in
    let c = total_of (coef_if is_constant) terms in
    let c_den = coefs_den is_constant terms proper in
    let each : (named : Named) → 0 < (by_name value terms named).den = λ named. by_name_den value positive terms named proper in
    let names_den : 0 < names.den = total_of_den (by_name value terms) ast.order (λ k d inside. each (get_or ast.order k d)) in
    let game_den : 0 < game.den = total_of_den (by_name value terms) (game_order ast) (λ k d inside. each (get_or (game_order ast) k d)) in
    let w_is : IsSame w names = same_trans w game names game_den (weighted_is value terms proper (game_order ast) sums h) (in_order ast (by_name value terms) each) in
    same_trans (written_value value terms) (sum_of names c) (sum_of w c) (sum_of_den names c names_den c_den)
    (value_by_names value positive ast.order right.once terms proper ordered)
    (sum_of-same names c w c (same_sym w names w_is) (same_refl c))

-- without constants
rows_value : (ast : Ast) (value : ℕ → Fraction) → HasPositiveValues value → NamesRight ast → (row : AstRow) (sums : List Fraction) → IsProperRow row → HasNoConstant row → HasNamesInOrder ast row.terms
    → totals (game_order ast) row.terms ≡ Ok sums → IsSame (written_value value row.terms) (weighted value sums (game_order ast))
rows_value ast value positive right row sums proper none ordered h =
    let w = weighted value sums (game_order ast) in
    let c = total_of (coef_if is_constant) row.terms in
    let w_den = weighted_den value positive sums (game_order ast) (totals_den (game_order ast) row.terms sums proper.terms h) in
    same_trans (written_value value row.terms) (sum_of w c) w (sum_of_den w c w_den (coefs_den is_constant row.terms proper.terms))
    (written_is ast value positive right row.terms sums proper.terms ordered h)
    (same_trans (sum_of w c) (sum_of w (whole (pos 0))) w (sum_of_den w (whole (pos 0)) w_den (whole_den (pos 0)))
    (sum_of-same w c w (whole (pos 0)) (same_refl w) (no_constants row.terms none)) (sum_of-zero w))

pub row_means : (ast : Ast) (row : AstRow) (one : Row) (den : ℕ) (nums : ℕ → ℤ) → NamesRight ast → IsProperRow row → HasNoConstant row → HasNamesInOrder ast row.terms → 0 < den
    → normal_row (vars_of ast) (game_order ast) row.terms row.right ≡ Some one
    → All (HoldsOver den (in_game_order ast nums)) (related row.relation one) ↔ IsMet (value_over den nums) row
row_means ast row one den nums right proper none ordered some h =
    let order = game_order ast in
    let value = value_over den nums in
    let positive : HasPositiveValues value = λ name. some in
    let values = in_game_order ast nums in
    let parts = row_parts (vars_of ast) order row.terms row.right one h in
    let sums = parts.sums in
    let sums_den = totals_den order row.terms sums proper.terms parts.sums_are in
    let all_den = All-cons HasPositiveDen row.right sums proper.right sums_den in
    let d = common_denominator (row.right ∷ sums) in
    let d_some = common_denominator_pos (row.right ∷ sums) all_den in
    let divides = common_divides (row.right ∷ sums) in
    let w = weighted value sums order in
    let v = written_value value row.terms in
    let z = weighted_nums d nums sums order in
    let k = times d row.right in
    let w_den = weighted_den value positive sums order sums_den in
    let v_den = written_den value positive row.terms proper.terms in
    let v_is : IsSame v w = rows_value ast value positive right row sums proper none ordered parts.sums_are in
    let scale = whole (pos d) in
    let left_is : IsSame (product_of scale v) (over den z) =
    same_trans (product_of scale v) (product_of scale w) (over den z) (product_of_den scale w (whole_den (pos d)) w_den)
    (product_of-same scale v scale w (same_refl scale) v_is)
    (scaled_weighted d den nums some sums order (All-tail (DividesInto d) row.right sums divides) sums_den) in
    let right_is : IsSame (product_of scale row.right) (whole k) = times_same d row.right (All-head (DividesInto d) row.right sums divides) in
    let made = row_times d sums row.right in
    let e : form made.terms values ≡ z = form_from d nums 0 sums order (length-totals order row.terms sums parts.sums_are) in
    let most = at_most_is d den v row.right z k d_some some v_den proper.right left_is right_is in
    let least = at_least_is d den v row.right z k d_some some v_den proper.right left_is right_is in
    let turned = negated_holds den values made in
    let down : HoldsOver den values made ↔ IsAtMost v row.right =
    (λ holds. most.0 (subst (λ (m : ℤ). m ≤ℤ (k *ℤ pos den)) e holds), λ holds. subst (λ (m : ℤ). m ≤ℤ (k *ℤ pos den)) (sym e) (most.1 holds)) in
    let up : HoldsOver den values (negated_row made) ↔ IsAtMost row.right v = (
      λ holds. least.0 (subst (λ (m : ℤ). (k *ℤ pos den) ≤ℤ m) e (turned.0 holds)),
      λ holds. turned.1 (subst (λ (m : ℤ). (k *ℤ pos den) ≤ℤ m) (sym e) (least.1 holds)),
    ) in
    subst (λ (r : Row). All (HoldsOver den values) (related row.relation r) ↔ IsMet value row) parts.row_is
    (related_holds den values row.relation made v row.right down up)
