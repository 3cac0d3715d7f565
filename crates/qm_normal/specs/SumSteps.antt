-- One step of adding terms. No public clause cites this.
use Rattle.std.specs.Prelude.{ℕ, pos, List, Option, Some, None, slice_index_or, slice_set, if◌then◌else◌}
use Rattle.std.specs.Option.{option_map}
use Rattle.std.specs.Result.{result_ok}
use Rattle.qm_math.specs.Fraction.{Fraction, whole}
use Rattle.qm_frac.specs.Arithmetic.{negated}
use Rattle.qm_frac.specs.Checked.{added}
use Rattle.qm_model.specs.declared.game.Sense.{Sense}
use Rattle.qm_model.specs.declared.game.Sense.TheVariants.{Max, Min}
use Rattle.qm_parse.specs.declared.ast.AstTerm.{AstTerm}
use Rattle.qm_normal.specs.Rows.{is_constant}

-- the sums with a number added at a place, where there is one, unless the addition leaves
abbrev pub added_at : List Fraction → Option ℕ → Fraction → Option (List Fraction)
added_at sums None coef = Some sums
added_at sums (Some place) coef = option_map (λ sum. slice_set sums place sum) (result_ok (added (slice_index_or sums place (whole (pos 0))) coef))

-- the sum with the coefficient of a constant, unless the addition leaves; another term adds nothing
abbrev pub plus_constant : Fraction → AstTerm → Option Fraction
plus_constant sum term = if is_constant term then result_ok (added sum term.coef) else Some sum

-- a term as it is maximised
abbrev pub maximised_term : Sense → AstTerm → AstTerm
maximised_term Max term = term
maximised_term Min term = record { coef = negated term.coef; name = term.name; at = term.at }
