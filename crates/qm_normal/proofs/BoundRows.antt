-- The rows of exact bounds, and the bounds of variables, hold exactly where the bounds that are written do.
use Rattle.std.proofs.Common.{◌≡◌, ◌≢◌, ◌↔◌, ◌⊎◌, inl, inr, cond, ℕ, suc, ◌+◌, ◌-◌, ◌<◌, ◌≤◌, eqb, Bool, true, false, List, [], ◌∷◌, ◌++◌, get_or, length, refl, sym, ap, ◌∙◌, subst, arith, ℤ, pos, ◌+ℤ◌, ◌*ℤ◌, ◌≤ℤ◌, neg_ℤ, Ok, Some, None}
use Rattle.std.specs.Prelude.{All, map}
use Rattle.std.proofs.Math.IntN.{zero-*ℤ}
use Rattle.std.proofs.lemmas.Bool.Decides.{Decides-eqb}
use Rattle.std.proofs.lemmas.Int.{ints}
use Rattle.std.proofs.lemmas.List.Elements.{All-append, All-cons, All-head, All-nil, All-same, All-tail}
use Rattle.std.proofs.lemmas.Option.{cond_some}
use Rattle.qm_math.specs.Fraction.{Fraction, IsAtMost}
use Rattle.qm_math.specs.Over.{over}
use Rattle.qm_math.proofs.Polynomials.{number, ◌⊕◌, ◌⊗◌, minus}
use Rattle.qm_math.proofs.Ring.{x0, x1, ring}
use Rattle.qm_math.proofs.Lists.{all_left, all_right}
use Rattle.qm_math.specs.Rounding.{ceil_of, floor_of}
use Rattle.qm_model.specs.declared.row.Row.{Row}
use Rattle.qm_model.specs.declared.row.Term.{Term}
use Rattle.qm_model.specs.declared.variable.Var.{Var}
use Rattle.qm_model.specs.Linear.{form}
use Rattle.qm_model.specs.Points.{AreWithinOver, HoldsOver}
use Rattle.qm_model.proofs.Forms.{sum_over-sum_of_terms}
use Rattle.qm_parse.specs.declared.ast.Ast.{Ast}
use Rattle.qm_parse.specs.declared.ast.Named.{Named}
use Rattle.qm_normal.specs.declared.fault.Which.TheVariants as which
use Rattle.qm_normal.specs.Ends.{lower_end, upper_end}
use Rattle.qm_normal.specs.Meaning.{IsInBounds, value_over}
use Rattle.qm_normal.specs.Normal.{bound_rows_from, narrow, rows_of_bounds}
use Rattle.qm_normal.specs.Rows.{bound_row, high_row, is_narrow, low_row}
use Rattle.qm_normal.specs.Variables.{high_of, is_whole, low_of, name_of, var_of, vars_of}
use Rattle.qm_normal.proofs.BoundsWritten.{exact_lower, exact_upper, outward_lower, outward_upper, whole_lower, whole_upper}
use Rattle.qm_normal.proofs.NormalBounds.{HasProperEnds, high_coef, low_coef}
use Rattle.qm_normal.proofs.NormalSteps.{bind-ok, narrow-ok, same_ok}

-- ---- rows of one term

form_single : (var : ℕ) (coef : ℤ) (values : List ℤ) (n : ℤ) → coef ≢ pos 0 → var < length values → get_or values var (pos 0) ≡ n → form (record { var = var; coef = coef } ∷ []) values ≡ coef *ℤ n
form_single var coef values n some below is =
    let t : Term = record { var = var; coef = coef } in
    let place : var - 0 ≡ var = omega arith in
    sum_over-sum_of_terms ◌*ℤ◌ (pos 0) (λ a. zero-*ℤ a) (t ∷ []) 0 values (omega arith, some, tt) (All-cons (λ (u : Term). u.var < 0 + length values) t [] (omega (arith, below)) (All-nil (λ (u : Term). u.var < 0 + length values)))
    ∙ ap (λ (i : ℕ). (coef *ℤ get_or values i (pos 0)) +ℤ pos 0) place
    ∙ ap (λ (m : ℤ). (coef *ℤ m) +ℤ pos 0) is
    ∙ ring ((coef *ℤ n) ∷ []) (x0 ⊕ number (pos 0)) x0 refl

low_holds : (den var : ℕ) (l : Fraction) (values : List ℤ) (n : ℤ) → 0 < l.den → var < length values → get_or values var (pos 0) ≡ n → HoldsOver den values (low_row var l) ↔ IsAtMost l (over den n)
low_holds den var l values n some below is =
    let e : form (low_row var l).terms values ≡ neg_ℤ (n *ℤ pos l.den) =
    form_single var (neg_ℤ (pos l.den)) values n (low_coef l.den some) below is ∙ ring (pos l.den ∷ n ∷ []) (minus x0 ⊗ x1) (minus (x1 ⊗ x0)) refl in
    let k : neg_ℤ l.num *ℤ pos den ≡ neg_ℤ (l.num *ℤ pos den) = ring (l.num ∷ pos den ∷ []) (minus x0 ⊗ x1) (minus (x0 ⊗ x1)) refl in
    (λ h. omega (arith, ints, h, e, k), λ h. omega (arith, ints, h, e, k))

high_holds : (den var : ℕ) (u : Fraction) (values : List ℤ) (n : ℤ) → 0 < u.den → var < length values → get_or values var (pos 0) ≡ n → HoldsOver den values (high_row var u) ↔ IsAtMost (over den n) u
high_holds den var u values n some below is =
    let e : form (high_row var u).terms values ≡ n *ℤ pos u.den =
    form_single var (pos u.den) values n (high_coef u.den some) below is ∙ ring (pos u.den ∷ n ∷ []) (x0 ⊗ x1) (x1 ⊗ x0) refl in
    (λ h. subst (λ (m : ℤ). m ≤ℤ (u.num *ℤ pos den)) e h, λ h. subst (λ (m : ℤ). m ≤ℤ (u.num *ℤ pos den)) (sym e) h)

-- ---- a bound with its row

added_cases : (is_whole is_small : Bool) (row : Row) (rows : List Row) → cond is_whole (Some []) (cond is_small (Some (row ∷ [])) None) ≡ Some rows → (is_whole ≡ true) ⊎ (row ∷ [] ≡ rows)
added_cases true is_small row rows h = inl refl
added_cases false is_small row rows h = inr (cond_some is_small (row ∷ []) rows h).1

nothing_added : (is_whole is_small : Bool) (row : Row) (rows : List Row) → is_whole ≡ true → cond is_whole (Some []) (cond is_small (Some (row ∷ [])) None) ≡ Some rows → [] ≡ rows
nothing_added true is_small row rows e h = cc
nothing_added false is_small row rows e h = absurd (cc)

bound_cases : (xs : List Var) (bound : Fraction) (row : Row) (rows : List Row) → bound_row xs bound row ≡ Some rows → ((bound.den ≡ 1) × ([] ≡ rows)) ⊎ (row ∷ [] ≡ rows)
bound_cases xs bound row rows h =
    elim (added_cases (eqb bound.den 1) (is_narrow xs bound.den row) row rows h) [
      | inl e ↦ inl ((Decides-eqb bound.den 1).0 e, nothing_added (eqb bound.den 1) (is_narrow xs bound.den row) row rows e h)
      | inr e ↦ inr e
    ]

-- the bound and what is added for it, where the rounded bound follows and is the bound where that is whole
with_row : (B O X : Type 0) (Q : Row → Type 0) (row : Row) (rows : List Row) → (B → O) → Q row ↔ B → (X × ([] ≡ rows)) ⊎ (row ∷ [] ≡ rows) → (X → O → B) → (O × All Q rows) ↔ B
with_row B O X Q row rows outward holds (inl e) exact = (
  λ h. exact e.0 h.0,
  λ h. (outward h, All-same Q rows [] (sym e.1) (All-nil Q)),
)
with_row B O X Q row rows outward holds (inr e) exact = (
  λ h. holds.0 (All-head Q row [] (All-same Q (row ∷ []) rows e h.1)),
  λ h. (outward h, All-same Q rows (row ∷ []) (sym e) (All-cons Q row [] (holds.1 h) (All-nil Q))),
)

-- ---- a variable

-- the numerator lies between the rounded bounds
abbrev pub IsInRounded : Ast → ℕ → (ℕ → ℤ) → Named → Type 0
IsInRounded ast den nums named = ((low_of ast named.name *ℤ pos den) ≤ℤ nums named.name) × (nums named.name ≤ℤ (high_of ast named.name *ℤ pos den))

abbrev pub IsInExact : Ast → ℕ → (ℕ → ℤ) → Named → Type 0
IsInExact ast den nums named = IsInBounds ast (value_over den nums) named.name

both : (A B C D E F : Type 0) → (A × B) ↔ C → (D × E) ↔ F → ((A × D) × (B × E)) ↔ (C × F)
both A B C D E F p q = (
  λ h. (p.0 (h.0.0, h.1.0), q.0 (h.0.1, h.1.1)),
  λ h. (((p.1 h.0).0, (q.1 h.1).0), ((p.1 h.0).1, (q.1 h.1).1)),
)

continuous_means : (ast : Ast) (den : ℕ) (nums : ℕ → ℤ) (values : List ℤ) (var : ℕ) (named : Named) (rows : List Row) → HasProperEnds ast named → is_whole ast named.name ≡ false
    → var < length values → get_or values var (pos 0) ≡ nums named.name → rows_of_bounds ast var named.name ≡ Ok rows
    → (IsInRounded ast den nums named × All (HoldsOver den values) rows) ↔ IsInExact ast den nums named
continuous_means ast den nums values var named rows ends free below is h =
    let xs = vars_of ast in
    let Q = HoldsOver den values in
    let n = nums named.name in
    let l = lower_end ast named.name in
    let u = upper_end ast named.name in
    let part = which.Bound (name_of ast named.name) in
    let low = bind-ok (narrow part (bound_row xs l (low_row var l))) _ rows h in
    let high = bind-ok (narrow part (bound_row xs u (high_row var u))) _ rows low.2 in
    let e : low.0 ++ high.0 ≡ rows = same_ok (low.0 ++ high.0) rows high.2 in
    let low_is : low_of ast named.name ≡ floor_of l = ap (λ b. cond b (ceil_of l) (floor_of l)) free in
    let high_is : high_of ast named.name ≡ ceil_of u = ap (λ b. cond b (floor_of u) (ceil_of u)) free in
    let lower = with_row (IsAtMost l (over den n)) ((floor_of l *ℤ pos den) ≤ℤ n) (l.den ≡ 1) Q (low_row var l) low.0
    (outward_lower den n l ends.lower) (low_holds den var l values n ends.lower below is)
    (bound_cases xs l (low_row var l) low.0 (narrow-ok part (bound_row xs l (low_row var l)) low.0 low.1)) (λ one k. exact_lower den n l one k) in
    let upper = with_row (IsAtMost (over den n) u) (n ≤ℤ (ceil_of u *ℤ pos den)) (u.den ≡ 1) Q (high_row var u) high.0
    (outward_upper den n u ends.upper) (high_holds den var u values n ends.upper below is)
    (bound_cases xs u (high_row var u) high.0 (narrow-ok part (bound_row xs u (high_row var u)) high.0 high.1)) (λ one k. exact_upper den n u one k) in
    let pair = both _ _ _ _ _ _ lower upper in (
      λ k.
          let all = All-same Q (low.0 ++ high.0) rows e k.1 in
          let a = subst (λ (m : ℤ). (m *ℤ pos den) ≤ℤ n) low_is k.0.0 in
          let b = subst (λ (m : ℤ). n ≤ℤ (m *ℤ pos den)) high_is k.0.1 in
          pair.0 ((a, b), (all_left Q low.0 high.0 all, all_right Q low.0 high.0 all)),
      λ k.
          let back = pair.1 k in
          let a = subst (λ (m : ℤ). (m *ℤ pos den) ≤ℤ n) (sym low_is) back.0.0 in
          let b = subst (λ (m : ℤ). n ≤ℤ (m *ℤ pos den)) (sym high_is) back.0.1 in
          ((a, b), All-same Q rows (low.0 ++ high.0) (sym e) (All-append Q low.0 high.0 back.1.0 back.1.1)),
    )

pub whole_means : (ast : Ast) (den : ℕ) (nums : ℕ → ℤ) (named : Named) (k : ℤ) → HasProperEnds ast named → is_whole ast named.name ≡ true → 0 < den → nums named.name ≡ k *ℤ pos den
    → IsInRounded ast den nums named ↔ IsInExact ast den nums named
whole_means ast den nums named k ends whole some is =
    let l = lower_end ast named.name in
    let u = upper_end ast named.name in
    let low_is : low_of ast named.name ≡ ceil_of l = ap (λ b. cond b (ceil_of l) (floor_of l)) whole in
    let high_is : high_of ast named.name ≡ floor_of u = ap (λ b. cond b (floor_of u) (ceil_of u)) whole in
    let lower = whole_lower den k l some ends.lower in
    let upper = whole_upper den k u some ends.upper in
    let P : ℤ → ℤ → ℤ → Type 0 = λ low high n. (((low *ℤ pos den) ≤ℤ n) × (n ≤ℤ (high *ℤ pos den))) ↔ (IsAtMost l (over den n) × IsAtMost (over den n) u) in
    let made : P (ceil_of l) (floor_of u) (k *ℤ pos den) = (λ h. (lower.0 h.0, upper.0 h.1), λ h. (lower.1 h.0, upper.1 h.1)) in
    let with_n : P (ceil_of l) (floor_of u) (nums named.name) = subst (λ (n : ℤ). P (ceil_of l) (floor_of u) n) (sym is) made in
    let with_low : P (low_of ast named.name) (floor_of u) (nums named.name) = subst (λ (a : ℤ). P a (floor_of u) (nums named.name)) (sym low_is) with_n in
    subst (λ (b : ℤ). P (low_of ast named.name) b (nums named.name)) (sym high_is) with_low

-- ---- all continuous variables

pub continuous_list : (ast : Ast) (den : ℕ) (nums : ℕ → ℤ) (values : List ℤ) (var : ℕ) (list : List Named) (rows : List Row) → All (HasProperEnds ast) list → All (λ named. is_whole ast named.name ≡ false) list
    → var + length list ≤ length values → ((i : ℕ) → get_or values (var + i) (pos 0) ≡ get_or (map (λ (named : Named). nums named.name) list) i (pos 0)) → bound_rows_from ast var list ≡ Ok rows
    → (All (IsInRounded ast den nums) list × All (HoldsOver den values) rows) ↔ All (IsInExact ast den nums) list
unfolding bound_rows_from
continuous_list ast den nums values var [] rows ends free below is h =
    let Q = HoldsOver den values in
    (λ k. All-nil (IsInExact ast den nums), λ k. (All-nil (IsInRounded ast den nums), All-same Q rows [] (sym (same_ok [] rows h)) (All-nil Q)))
continuous_list ast den nums values var (named ∷ list) rows ends free below is h =
    let Q = HoldsOver den values in
    let R = IsInRounded ast den nums in
    let X = IsInExact ast den nums in
    let here = bind-ok (rows_of_bounds ast var named.name) _ rows h in
    let others = bind-ok (bound_rows_from ast (suc var) list) _ rows here.2 in
    let e : here.0 ++ others.0 ≡ rows = same_ok (here.0 ++ others.0) rows others.2 in
    let place : get_or values var (pos 0) ≡ nums named.name = ap (λ (i : ℕ). get_or values i (pos 0)) (let f : var ≡ var + 0 = omega arith in f) ∙ is 0 in
    let one = continuous_means ast den nums values var named here.0 (All-head (HasProperEnds ast) named list ends) (All-head (λ (n : Named). is_whole ast n.name ≡ false) named list free) (omega (arith, below)) place here.1 in
    let rest = continuous_list ast den nums values (suc var) list others.0 (All-tail (HasProperEnds ast) named list ends) (All-tail (λ (n : Named). is_whole ast n.name ≡ false) named list free) (omega (arith, below))
    (λ i. ap (λ (j : ℕ). get_or values j (pos 0)) (let f : suc var + i ≡ var + suc i = omega arith in f) ∙ is (suc i)) others.1 in (
      λ k.
          let all = All-same Q (here.0 ++ others.0) rows e k.1 in
          All-cons X named list (one.0 (All-head R named list k.0, all_left Q here.0 others.0 all)) (rest.0 (All-tail R named list k.0, all_right Q here.0 others.0 all)),
      λ k.
          let a = one.1 (All-head X named list k) in
          let b = rest.1 (All-tail X named list k) in
          (All-cons R named list a.0 b.0, All-same Q rows (here.0 ++ others.0) (sym e) (All-append Q here.0 others.0 a.1 b.1)),
    )

-- ---- bounds of variables, one by one

pub within_list : (ast : Ast) (den : ℕ) (nums : ℕ → ℤ) (list : List Named) → AreWithinOver den (map (var_of ast) list) (map (λ (named : Named). nums named.name) list) ↔ All (IsInRounded ast den nums) list
within_list ast den nums [] = (λ h. All-nil (IsInRounded ast den nums), λ h. tt)
within_list ast den nums (named ∷ list) =
    let R = IsInRounded ast den nums in
    let rest = within_list ast den nums list in (
      λ h. All-cons R named list (h.0, h.1) (rest.0 h.2),
      λ h. let a = All-head R named list h in (a.0, a.1, rest.1 (All-tail R named list h)),
    )
