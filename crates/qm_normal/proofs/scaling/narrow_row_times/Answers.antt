use Rattle.std.proofs.Common.{◌≡◌, ℕ, ◌<◌, ◌^◌, ℤ, unsigned_abs, sym, subst, arith}
use Rattle.std.specs.Prelude.{All}
use Rattle.std.specs.Int.{w128, cast_signed, cast_unsigned}
use Rattle.std.proofs.lemmas.Int.{ints}
use Rattle.qm_math.specs.Fraction.{Fraction}
use Rattle.qm_normal.specs.Rows.{times}
use Rattle.qm_normal.specs.RowSteps.{HasNarrowTerms}
use Rattle.qm_normal.proofs.NarrowRows.{wide_by_terms}
use Rattle.qm_normal.proofs.NonzeroTerms.{narrow_terms}
use Rattle.qm_normal.proofs.scaling.narrow_row_times.Goals as goal

pub returns-in_default-2-clause-row : goal.returns-in_default-2-clause-row
returns-in_default-2-clause-row c =
    wide_by_terms c.args.vars.now c.args.sums.now c.args.right
    (subst (λ (d : ℕ). ¬ All (λ (sum : Fraction). unsigned_abs (times d sum) < 2 ^ 127) c.args.sums.now) c.requires.common (rw c.in_default-2.is at c.in_ok-terms.ensures))

pub returns-then-fits-clause-narrow : goal.returns-then-fits-clause-narrow
returns-then-fits-clause-narrow c =
    let some = rw c.in-Some-2.is at c.in_ok-terms.ensures in
    let size : unsigned_abs c.in-Some.right < 2 ^ 127 = subst (λ (z : ℤ). unsigned_abs z < 2 ^ 127) (sym c.in-Some.ensures.1) c.in-Some.ensures.0 in
    let fits : cast_signed w128 (cast_unsigned w128 c.in-Some.right) ≡ c.in-Some.right = omega (arith, ints, size) in
    record {
      terms = subst HasNarrowTerms (sym some.1) (narrow_terms c.args.d 0 c.args.sums.now some.0);
      right = subst (λ (z : ℤ). unsigned_abs z < 2 ^ 127) (sym fits) size;
    }
