-- The rows of exact bounds.
use Rattle.std.proofs.Common.{◌≡◌, ◌≢◌, cond, ℕ, zero, suc, ◌+◌, ◌<◌, ◌≤◌, eqb, Bool, true, false, List, [], ◌∷◌, ◌++◌, length, sym, ap, arith, pos, neg_ℤ, unsigned_abs, Ok, Some, None}
use Rattle.std.specs.Prelude.{All}
use Rattle.std.proofs.lemmas.List.Elements.{All-append, All-cons, All-head, All-nil, All-same, All-tail}
use Rattle.std.proofs.lemmas.Option.{cond_some}
use Rattle.qm_math.specs.Fraction.{Fraction}
use Rattle.qm_model.specs.declared.row.Row.{Row}
use Rattle.qm_model.specs.declared.row.Term.{Term}
use Rattle.qm_model.specs.declared.variable.Var.{Var}
use Rattle.qm_model.specs.Sound.{IsRowOver}
use Rattle.qm_parse.specs.declared.ast.Ast.{Ast}
use Rattle.qm_parse.specs.declared.ast.Named.{Named}
use Rattle.qm_normal.specs.declared.fault.Which.TheVariants as which
use Rattle.qm_normal.specs.Ends.{lower_end, upper_end}
use Rattle.qm_normal.specs.Normal.{bound_rows_from, narrow, rows_of_bounds}
use Rattle.qm_normal.specs.Rows.{bound_row, high_row, is_narrow, low_row}
use Rattle.qm_normal.specs.Variables.{name_of, vars_of}
use Rattle.qm_normal.proofs.NormalSteps.{bind-ok, narrow-ok, narrow_sizes, same_ok}

-- both ends of a variable are over positive denominators
pub record HasProperEnds (ast : Ast) (named : Named) : Type 0 where
  pub lower : 0 < (lower_end ast named.name).den
  pub upper : 0 < (upper_end ast named.name).den

pub low_coef : (d : ℕ) → 0 < d → neg_ℤ (pos d) ≢ pos 0
low_coef zero some e = omega (arith, some)
low_coef (suc d) some e = absurd (let h : suc d ≡ 0 = ap unsigned_abs e in omega (arith, h))

pub high_coef : (d : ℕ) → 0 < d → pos d ≢ pos 0
high_coef d some e = let h : d ≡ 0 = ap unsigned_abs e in omega (arith, h, some)

IsRowOver-low : (xs : List Var) (var : ℕ) (bound : Fraction) → var < length xs → 0 < bound.den → is_narrow xs bound.den (low_row var bound) ≡ true → IsRowOver xs (low_row var bound)
IsRowOver-low xs var bound below some small = record {
  ordered = (omega arith, low_coef bound.den some, tt);
  vars = All-cons (λ (t : Term). t.var < length xs) (record { var = var; coef = neg_ℤ (pos bound.den) }) [] below (All-nil (λ (t : Term). t.var < length xs));
  size = (narrow_sizes xs bound.den (low_row var bound) small).1;
}

IsRowOver-high : (xs : List Var) (var : ℕ) (bound : Fraction) → var < length xs → 0 < bound.den → is_narrow xs bound.den (high_row var bound) ≡ true → IsRowOver xs (high_row var bound)
IsRowOver-high xs var bound below some small = record {
  ordered = (omega arith, high_coef bound.den some, tt);
  vars = All-cons (λ (t : Term). t.var < length xs) (record { var = var; coef = pos bound.den }) [] below (All-nil (λ (t : Term). t.var < length xs));
  size = (narrow_sizes xs bound.den (high_row var bound) small).1;
}

added_or_not : (Q : Row → Type 0) (is_whole is_small : Bool) (row : Row) (rows : List Row) → (is_small ≡ true → Q row) → cond is_whole (Some []) (cond is_small (Some (row ∷ [])) None) ≡ Some rows → All Q rows
added_or_not Q true is_small row rows holds h = let e : [] ≡ rows = cc in All-same Q rows [] (sym e) (All-nil Q)
added_or_not Q false is_small row rows holds h =
    let made = cond_some is_small (row ∷ []) rows h in
    All-same Q rows (row ∷ []) (sym made.1) (All-cons Q row [] (holds made.0) (All-nil Q))

-- what holds of the row of a bound where it is narrow holds of what is added
pub each_bound_row : (Q : Row → Type 0) (xs : List Var) (bound : Fraction) (row : Row) (rows : List Row) → (is_narrow xs bound.den row ≡ true → Q row) → bound_row xs bound row ≡ Some rows → All Q rows
each_bound_row Q xs bound row rows holds h = added_or_not Q (eqb bound.den 1) (is_narrow xs bound.den row) row rows holds h

both_rows : (ast : Ast) (var : ℕ) (named : Named) (rows : List Row) → var < length (vars_of ast) → HasProperEnds ast named → rows_of_bounds ast var named.name ≡ Ok rows → All (IsRowOver (vars_of ast)) rows
both_rows ast var named rows below ends h =
    let xs = vars_of ast in
    let Q = IsRowOver xs in
    let lower = lower_end ast named.name in
    let upper = upper_end ast named.name in
    let part = which.Bound (name_of ast named.name) in
    let low = bind-ok (narrow part (bound_row xs lower (low_row var lower))) _ rows h in
    let high = bind-ok (narrow part (bound_row xs upper (high_row var upper))) _ rows low.2 in
    let lows = each_bound_row Q xs lower (low_row var lower) low.0 (IsRowOver-low xs var lower below ends.lower) (narrow-ok part (bound_row xs lower (low_row var lower)) low.0 low.1) in
    let highs = each_bound_row Q xs upper (high_row var upper) high.0 (IsRowOver-high xs var upper below ends.upper) (narrow-ok part (bound_row xs upper (high_row var upper)) high.0 high.1) in
    All-same Q rows (low.0 ++ high.0) (sym (same_ok (low.0 ++ high.0) rows high.2)) (All-append Q low.0 high.0 lows highs)

pub bound_rows_over : (ast : Ast) (var : ℕ) (list : List Named) (rows : List Row) → var + length list ≤ length (vars_of ast) → All (HasProperEnds ast) list → bound_rows_from ast var list ≡ Ok rows → All (IsRowOver (vars_of ast)) rows
unfolding bound_rows_from
bound_rows_over ast var [] rows below ends h = All-same (IsRowOver (vars_of ast)) rows [] (sym (same_ok [] rows h)) (All-nil (IsRowOver (vars_of ast)))
bound_rows_over ast var (named ∷ list) rows below ends h =
    let Q = IsRowOver (vars_of ast) in
    let here = bind-ok (rows_of_bounds ast var named.name) _ rows h in
    let others = bind-ok (bound_rows_from ast (suc var) list) _ rows here.2 in
    let first = both_rows ast var named here.0 (omega (arith, below)) (All-head (HasProperEnds ast) named list ends) here.1 in
    let rest = bound_rows_over ast (suc var) list others.0 (omega (arith, below)) (All-tail (HasProperEnds ast) named list ends) others.1 in
    All-same Q rows (here.0 ++ others.0) (sym (same_ok (here.0 ++ others.0) rows others.2)) (All-append Q here.0 others.0 first rest)
