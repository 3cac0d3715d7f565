-- Denominators in the normal form are positive where those of the text are.
use Rattle.std.proofs.Common.{◌≡◌, cond, ℕ, ◌<◌, eqb, Bool, true, false, ◌&&◌, List, [], ◌∷◌, sym, subst, lit<, pos, Ok, Option, Some, None}
use Rattle.std.specs.Prelude.{All, IfSome, unwrap_or}
use native.Mathlib.Nat.{mul-pos}
use Rattle.std.proofs.lemmas.List.Elements.{All-cons, All-head, All-map, All-nil, All-same, All-tail}
use Rattle.std.proofs.lemmas.Bool.{cond_both}
use Rattle.qm_math.specs.Fraction.{Fraction, HasPositiveDen, is_below, whole}
use Rattle.qm_frac.specs.Arithmetic.{negated}
use Rattle.qm_frac.specs.Checked.{added, and_then}
use Rattle.qm_frac.proofs.CheckedLaws.{IsFrac-added, and_then-ok}
use Rattle.qm_frac.proofs.Terms.{quotient_pos}
use Rattle.qm_model.specs.declared.game.Sense.{Sense}
use Rattle.qm_model.specs.declared.game.Sense.TheVariants.{Max, Min}
use Rattle.qm_parse.specs.declared.ast.Ast.{Ast}
use Rattle.qm_parse.specs.declared.ast.AstBound.{AstBound}
use Rattle.qm_parse.specs.declared.ast.AstTerm.{AstTerm}
use Rattle.qm_parse.specs.declared.ast.Named.{Named}
use Rattle.qm_parse.specs.declared.ast.Relation.{Relation}
use Rattle.qm_parse.specs.Checks.{sets_upper}
use Rattle.qm_normal.specs.Ends.{is_binary, greater_of, last_value, later, lesser_of, sets_lower, value_for}
use Rattle.qm_normal.specs.Normal.{maximised}
use Rattle.qm_normal.specs.Numbers.{HasProperNumbers, IsProperTerm}
use Rattle.qm_normal.specs.Rows.{common_denominator, is_of, total, total_from, totals}
use Rattle.qm_normal.proofs.NormalBounds.{HasProperEnds}

-- ---- sums

pub total_den : (test : AstTerm → Bool) (terms : List AstTerm) (sum r : Fraction) → All IsProperTerm terms → 0 < sum.den → total_from test terms sum ≡ Ok r → 0 < r.den
unfolding total_from
total_den test [] sum r proper some h = let e : sum ≡ r = cc in subst HasPositiveDen e some
total_den test (term ∷ terms) sum r proper some h =
    let rest = All-tail IsProperTerm term terms proper in
    elim (test term) as (λ b. cond b (and_then (added sum term.coef) (total_from test terms)) (total_from test terms sum) ≡ Ok r → 0 < r.den) [
      | true ↦ λ e.
          let step = and_then-ok (added sum term.coef) (total_from test terms) r e in
          total_den test terms step.0 r rest (IsFrac-added sum term.coef step.0 some (All-head IsProperTerm term terms proper) step.1).positive step.2
      | false ↦ λ e. total_den test terms sum r rest some e
    ] h

pub totals_den : (order : List Named) (terms : List AstTerm) (sums : List Fraction) → All IsProperTerm terms → totals order terms ≡ Ok sums → All HasPositiveDen sums
unfolding totals
totals_den [] terms sums proper h = let e : [] ≡ sums = cc in All-same HasPositiveDen sums [] (sym e) (All-nil HasPositiveDen)
totals_den (named ∷ order) terms sums proper h =
    let here = and_then-ok (total (is_of named.name) terms) _ sums h in
    let rest = and_then-ok (totals order terms) _ sums here.2 in
    let e : here.0 ∷ rest.0 ≡ sums = cc in
    All-same HasPositiveDen sums (here.0 ∷ rest.0) (sym e)
    (All-cons HasPositiveDen here.0 rest.0 (total_den (is_of named.name) terms (whole (pos 0)) here.0 proper (lit< tt) here.1) (totals_den order terms rest.0 proper rest.1))

pub common_denominator_pos : (values : List Fraction) → All HasPositiveDen values → 0 < common_denominator values
unfolding common_denominator
common_denominator_pos [] all = lit< tt
common_denominator_pos (value ∷ values) all =
    mul-pos (All-head HasPositiveDen value values all) (quotient_pos value.den (common_denominator values) (common_denominator_pos values (All-tail HasPositiveDen value values all)))

pub maximised_proper : (sense : Sense) (terms : List AstTerm) → All IsProperTerm terms → All IsProperTerm (maximised sense terms)
unfolding maximised
maximised_proper Max terms all = all
maximised_proper Min terms all = All-map IsProperTerm (λ (term : AstTerm). record { coef = negated term.coef; name = term.name; at = term.at }) terms all

-- ---- bounds

later_den : (a b : Option Fraction) → IfSome a HasPositiveDen → IfSome b HasPositiveDen → IfSome (later a b) HasPositiveDen
unfolding later
later_den a None p q = p
later_den a (Some value) p q = q

last_den : (sets : Relation → Bool) (name : ℕ) (bounds : List AstBound) → All (λ bound. IfSome bound.value HasPositiveDen) bounds → IfSome (last_value sets name bounds) HasPositiveDen
unfolding last_value
last_den sets name [] all = tt
last_den sets name (bound ∷ bounds) all =
    let P = λ (b : AstBound). IfSome b.value HasPositiveDen in
    later_den (value_for sets name bound) (last_value sets name bounds)
    (cond_both (eqb bound.name name && sets bound.relation) bound.value None (λ (o : Option Fraction). IfSome o HasPositiveDen) (λ _. All-head P bound bounds all) (λ _. tt))
    (last_den sets name bounds (All-tail P bound bounds all))

or_den : (o : Option Fraction) (d : Fraction) → IfSome o HasPositiveDen → 0 < d.den → 0 < (unwrap_or o d).den
or_den None d p q = q
or_den (Some value) d p q = p

pub proper_ends : (ast : Ast) (named : Named) → HasProperNumbers ast → HasProperEnds ast named
proper_ends ast named proper =
    let name = named.name in
    let one : 0 < 1 = lit< tt in
    let low = or_den (last_value sets_lower name ast.bounds) (whole (pos 0)) (last_den sets_lower name ast.bounds proper.bounds) one in
    let high = or_den (last_value sets_upper name ast.bounds) (whole (pos 1)) (last_den sets_upper name ast.bounds proper.bounds) one in
    let a = unwrap_or (last_value sets_lower name ast.bounds) (whole (pos 0)) in
    let b = unwrap_or (last_value sets_upper name ast.bounds) (whole (pos 1)) in
    record {
      lower = cond_both (is_binary ast name) (greater_of (whole (pos 0)) a) a HasPositiveDen (λ _. cond_both (is_below (whole (pos 0)) a) a (whole (pos 0)) HasPositiveDen (λ _. low) (λ _. one)) (λ _. low);
      upper = cond_both (is_binary ast name) (lesser_of (whole (pos 1)) b) b HasPositiveDen (λ _. cond_both (is_below b (whole (pos 1))) b (whole (pos 1)) HasPositiveDen (λ _. high) (λ _. one)) (λ _. high);
    }
