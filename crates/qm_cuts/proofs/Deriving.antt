-- A row that a derivation gives is a cut.
use Rattle.std.proofs.Common.{◌≡◌, ◌≢◌, ◌∙◌, ap, refl, sym, subst, ℕ, zero, suc, ◌+◌, ◌-◌, ◌<◌, ◌≤◌, ◌^◌, Bool, true, false, List, [], ◌∷◌, length, get_or, drop, All, Option, Some, None, Ok, Err, arith, ℤ, pos}
use Rattle.std.specs.Prelude.{is_some, if◌then◌else◌, nat_le, ◌==◌}
use Rattle.std.specs.List.{list_all}
use Rattle.std.specs.Ordering.{int_eq}
use Rattle.std.proofs.Math.IntN.{zero-*ℤ}
use Rattle.std.proofs.Math.Nat.{lt_of_not-le}
use Rattle.std.proofs.lemmas.Int.{ints}
use Rattle.std.proofs.lemmas.Bool.Decides.{nat_tests}
use Rattle.std.proofs.lemmas.List.{get_or-drop, length-drop}
use Rattle.std.proofs.lemmas.List.Sums.{AllPass-from_list_all}
use Rattle.std.proofs.lemmas.List.Elements.{All-cons, All-nil}
use Rattle.qm_math.specs.Fraction.{Fraction, whole, IsSame}
use Rattle.qm_math.specs.Rounding.{IsFloor, floor_of}
use Rattle.qm_math.proofs.FractionLaws.{same_sym, same_trans, sum_of_den, whole_den}
use Rattle.qm_math.proofs.Rounding.{floor_of-IsFloor, IsFloor-same}
use Rattle.qm_math.proofs.WholeTests.{eq_of_test}
use Rattle.qm_frac.specs.Checked.{Checked, and_then}
use Rattle.qm_model.specs.declared.row.Row.{Row}
use Rattle.qm_model.specs.declared.row.Term.{Term}
use Rattle.qm_model.specs.declared.variable.Player.TheVariants.{Exists}
use Rattle.qm_model.specs.declared.variable.Var.{Var}
use Rattle.qm_model.specs.declared.game.Problem.{Problem}
use Rattle.qm_model.specs.Linear.{HasVarsBelow, IsOrderedFrom, coefficient}
use Rattle.qm_model.specs.Sizes.{reach_in_vars, row_size}
use Rattle.qm_model.specs.Sound.{IsSound}
use Rattle.qm_model.proofs.Forms.{IsOrderedFrom-weaker, coefficient-later, coefficient-other, coefficient-same}
use Rattle.qm_trees.specs.declared.cut_combo.CutEntry.{CutEntry}
use Rattle.qm_trees.specs.CutEntries.{AreCutEntries, row_on, rows_on}
use Rattle.qm_trees.specs.CutRules.{AreThere, Derivation, Form, Gives, IsCut, Missing, Wide, add_each, add_rows, derivation, first_broken, judged, may_stand, rounded, sized, terms_from, unless_broken}
use Rattle.qm_trees.specs.Entries.{Weighted}
use Rattle.qm_trees.specs.Evaluation.{add_coefficients, add_right_sides, combined_coefficient, right_side, zero as nothing}
use Rattle.qm_trees.proofs.CombinationSound.{combined_right, combined_right_den, combined_row_at, combined_row_at_den}
use Rattle.qm_trees.proofs.CombinationValues.{add_coefficients_exact, add_right_sides_exact, from_zero, nothing_less}
use Rattle.qm_trees.proofs.Lines.{bind_parts, ok_is}
use Rattle.qm_cuts.proofs.EntryRows.{on_dens}

-- ---- the terms of whole coefficients

not_zero : (z : ℤ) → int_eq z (pos 0) ≡ false → z ≢ pos 0
not_zero z e is = let t : int_eq (pos 0) (pos 0) ≡ false = subst (λ k. int_eq k (pos 0) ≡ false) is e in cc

-- a coefficient's term, where it isn't 0, before the terms of later variables
abbrev with_term : ℕ → Fraction → List Term → List Term
with_term var c ts = if int_eq c.num (pos 0) then ts else record { var = var; coef = c.num } ∷ ts

ordered_with : (var : ℕ) (c : Fraction) (ts : List Term) → IsOrderedFrom (suc var) ts → IsOrderedFrom var (with_term var c ts)
ordered_with var c ts rest = by_test (int_eq c.num (pos 0)) refl
  where
    by_test : (b : Bool) → int_eq c.num (pos 0) ≡ b → IsOrderedFrom var (if b then ts else record { var = var; coef = c.num } ∷ ts)
    by_test true e = IsOrderedFrom-weaker ts var (suc var) (omega arith) rest
    by_test false e = (omega arith, not_zero c.num e, rest)

pub terms_ordered : (var : ℕ) (cs : List Fraction) → IsOrderedFrom var (terms_from var cs)
terms_ordered var [] = tt
terms_ordered var (c ∷ cs) = ordered_with var c (terms_from (suc var) cs) (terms_ordered (suc var) cs)

below_with : (n var : ℕ) (c : Fraction) (ts : List Term) → (n ≤ var → c.num ≡ pos 0) → HasVarsBelow n ts → HasVarsBelow n (with_term var c ts)
below_with n var c ts zero_from rest = by_test (int_eq c.num (pos 0)) refl
  where
    by_test : (b : Bool) → int_eq c.num (pos 0) ≡ b → HasVarsBelow n (if b then ts else record { var = var; coef = c.num } ∷ ts)
    by_test true e = rest
    by_test false e =
        let below : var < n = lt_of_not-le (λ h. not_zero c.num e (zero_from h)) in
        All-cons (λ (t : Term). t.var < n) (record { var = var; coef = c.num }) ts below rest

-- the terms name variables below n, where each coefficient from n on is 0
pub terms_below : (n var : ℕ) (cs : List Fraction) → ((i : ℕ) → i < length cs → n ≤ var + i → (get_or cs i nothing).num ≡ pos 0) → HasVarsBelow n (terms_from var cs)
terms_below n var [] zeros = All-nil (λ (t : Term). t.var < n)
terms_below n var (c ∷ cs) zeros =
    below_with n var c (terms_from (suc var) cs) (λ h. zeros 0 (omega arith) (omega (arith, h)))
    (terms_below n (suc var) cs (λ i h more. zeros (suc i) (omega (arith, h)) (omega (arith, more))))

coefficient_here : (var : ℕ) (c : Fraction) (ts : List Term) → IsOrderedFrom (suc var) ts → coefficient (with_term var c ts) var ≡ c.num
coefficient_here var c ts order = by_test (int_eq c.num (pos 0)) refl
  where
    none_before : coefficient ts var ≡ pos 0
    none_before = coefficient-later ts (suc var) var order (omega arith)

    by_test : (b : Bool) → int_eq c.num (pos 0) ≡ b → coefficient (if b then ts else record { var = var; coef = c.num } ∷ ts) var ≡ c.num
    by_test true e = none_before ∙ sym (eq_of_test c.num (pos 0) e)
    by_test false e = let at = coefficient-same (record { var = var; coef = c.num }) ts var refl in omega (arith, ints, at, none_before)

coefficient_there : (var later : ℕ) (c : Fraction) (ts : List Term) → var < later → coefficient (with_term var c ts) later ≡ coefficient ts later
coefficient_there var later c ts h = by_test (int_eq c.num (pos 0)) refl
  where
    by_test : (b : Bool) → int_eq c.num (pos 0) ≡ b → coefficient (if b then ts else record { var = var; coef = c.num } ∷ ts) later ≡ coefficient ts later
    by_test true e = refl
    by_test false e = coefficient-other (record { var = var; coef = c.num }) ts later (λ is. omega (arith, is, h))

-- each variable has its coefficient
pub coefficient_of_terms : (var i : ℕ) (cs : List Fraction) → i < length cs → coefficient (terms_from var cs) (var + i) ≡ (get_or cs i nothing).num
coefficient_of_terms var i [] h = absurd (omega (arith, h))
coefficient_of_terms var zero (c ∷ cs) h =
    let same : var + 0 ≡ var = omega arith in
    rw same (coefficient_here var c (terms_from (suc var) cs) (terms_ordered (suc var) cs))
coefficient_of_terms var (suc i) (c ∷ cs) h =
    let same : var + suc i ≡ suc var + i = omega arith in
    rw same (coefficient_there var (suc var + i) c (terms_from (suc var) cs) (omega arith) ∙ coefficient_of_terms (suc var) i cs (omega (arith, h)))

-- ---- the coefficients, one by one

-- each variable's coefficient is that of the rows
pub record AreCoefficients (ws : List Weighted) (var : ℕ) (xs : List Var) (cs : List Fraction) : Type 0 where
  pub count : length cs ≡ length xs
  pub each : (i : ℕ) → i < length cs → add_coefficients (var + i) ws nothing ≡ Ok (get_or cs i nothing)

first_and_others : (ws : List Weighted) (var : ℕ) (x : Var) (xs : List Var) (c : Fraction) (cs : List Fraction) → add_coefficients var ws nothing ≡ Ok c → AreCoefficients ws (suc var) xs cs
    → AreCoefficients ws var (x ∷ xs) (c ∷ cs)
first_and_others ws var x xs c cs first others = record { count = ap suc others.count; each = each }
  where
    each : (i : ℕ) → i < suc (length cs) → add_coefficients (var + i) ws nothing ≡ Ok (get_or (c ∷ cs) i nothing)
    each zero h = let same : var + 0 ≡ var = omega arith in rw same first
    each (suc i) h = let same : var + suc i ≡ suc var + i = omega arith in rw same (others.each i (omega (arith, h)))

pub are_coefficients : (ws : List Weighted) (var : ℕ) (xs : List Var) (cs : List Fraction) → add_each ws var xs ≡ Ok cs → AreCoefficients ws var xs cs
are_coefficients ws var [] cs h =
    subst (AreCoefficients ws var []) (ok_is [] cs h) (record { count = refl; each = λ i below. absurd (omega (arith, below)) })
are_coefficients ws var (x ∷ xs) cs h =
    let p = bind_parts (add_coefficients var ws nothing) (λ c. and_then (add_each ws (suc var) xs) (λ ds. let r : Checked (List Fraction) = Ok (c ∷ ds) in r)) cs h in
    let q = bind_parts (add_each ws (suc var) xs) (λ ds. let r : Checked (List Fraction) = Ok (p.0 ∷ ds) in r) cs p.2 in
    subst (AreCoefficients ws var (x ∷ xs)) (ok_is (p.0 ∷ q.0) cs q.2) (first_and_others ws var x xs p.0 q.0 p.1 (are_coefficients ws (suc var) xs q.0 q.1))

-- none is broken
pub all_may_stand : (var : ℕ) (xs : List Var) (cs : List Fraction) → first_broken var xs cs ≡ None → (i : ℕ) (d : Var) → i < length xs → i < length cs → may_stand (get_or xs i d) (get_or cs i nothing) ≡ true
all_may_stand var [] cs none i d h k = absurd (omega (arith, h))
all_may_stand var (x ∷ xs) [] none i d h k = absurd (omega (arith, k))
all_may_stand var (x ∷ xs) (c ∷ cs) none i d h k =
    let first = first_stands (may_stand x c) var (first_broken (suc var) xs cs) none in
    at i h k first.0 (λ j hj kj. all_may_stand (suc var) xs cs first.1 j d hj kj)
  where
    first_stands : (b : Bool) (var : ℕ) (o : Option ℕ) → (if b then o else Some var) ≡ None → (b ≡ true) × (o ≡ None)
    first_stands true var o none = (refl, none)
    first_stands false var o none = cc

    at : (i : ℕ) → i < suc (length xs) → i < suc (length cs) → may_stand x c ≡ true
        → ((j : ℕ) → j < length xs → j < length cs → may_stand (get_or xs j d) (get_or cs j nothing) ≡ true) → may_stand (get_or (x ∷ xs) i d) (get_or (c ∷ cs) i nothing) ≡ true
    at zero h k here others = here
    at (suc j) h k here others = others j (omega (arith, h)) (omega (arith, k))

-- ---- what it takes for a derivation to give a row

pub record IsDerived (P : Problem) (earlier : List Row) (es : List CutEntry) (row : Row) : Type 0 where
  pub right : Fraction
  pub coefficients : List Fraction
  pub there : list_all (λ e. is_some (row_on P earlier e.on)) es ≡ true
  pub adds : add_right_sides (rows_on P earlier es) nothing ≡ Ok right
  pub each : add_each (rows_on P earlier es) 0 P.vars ≡ Ok coefficients
  pub stands : first_broken 0 P.vars coefficients ≡ None
  pub row_is : record { terms = terms_from 0 coefficients; right = floor_of right } ≡ row
  pub size : row_size (reach_in_vars P.vars) row ≤ 2 ^ 126

pub if_gives : (b : Bool) (r row : Row) → (if b then Gives r else Wide) ≡ Gives row → (b ≡ true) × (r ≡ row)
if_gives true r row h = (refl, cc)
if_gives false r row h = cc

pub unless_gives : (o : Option ℕ) (d : Derivation) (row : Row) → unless_broken o d ≡ Gives row → (o ≡ None) × (d ≡ Gives row)
unless_gives None d row h = (refl, h)
unless_gives (Some var) d row h = cc

there_gives : (b : Bool) (d : Derivation) (row : Row) → (if b then d else Missing) ≡ Gives row → (b ≡ true) × (d ≡ Gives row)
there_gives true d row h = (refl, h)
there_gives false d row h = cc

judged_gives : (xs : List Var) (f : Checked Form) (row : Row) → judged xs f ≡ Gives row
    → (form : Form) × (f ≡ Ok form) × (first_broken 0 xs form.coefficients ≡ None) × (sized xs (rounded form) ≡ Gives row)
judged_gives xs (Err leaves) row h = cc
judged_gives xs (Ok form) row h = let p = unless_gives (first_broken 0 xs form.coefficients) (sized xs (rounded form)) row h in (form, refl, p.0, p.1)

pub size_of_test : (m n : ℕ) → nat_le m n ≡ true → m ≤ n
size_of_test m n e = grind (arith, nat_tests)

pub is_derived : (P : Problem) (earlier : List Row) (es : List CutEntry) (row : Row) → derivation P earlier es ≡ Gives row → IsDerived P earlier es row
unfolding derivation
is_derived P earlier es row h =
    let ws = rows_on P earlier es in
    let t = there_gives (list_all (λ (e : CutEntry). is_some (row_on P earlier e.on)) es) (judged P.vars (add_rows P.vars ws)) row h in
    let j = judged_gives P.vars (add_rows P.vars ws) row t.1 in
    let s = if_gives (nat_le (row_size (reach_in_vars P.vars) (rounded j.0)) (2 ^ 126)) (rounded j.0) row j.3 in
    let next : Fraction → List Fraction → Checked Form = λ (r : Fraction) (cs : List Fraction). Ok (record { right = r; coefficients = cs }) in
    let a = bind_parts (add_right_sides ws nothing) (λ (r : Fraction). and_then (add_each ws 0 P.vars) (next r)) j.0 j.1 in
    let e = bind_parts (add_each ws 0 P.vars) (next a.0) j.0 a.2 in
    let form_is : record { right = a.0; coefficients = e.0 } ≡ j.0 = ok_is (let f : Form = record { right = a.0; coefficients = e.0 } in f) j.0 e.2 in
    record {
      right = a.0;
      coefficients = e.0;
      there = t.0;
      adds = a.1;
      each = e.1;
      stands = subst (λ (f : Form). first_broken 0 P.vars f.coefficients ≡ None) (sym form_is) j.2;
      row_is = ap rounded form_is ∙ s.1;
      size = subst (λ (r : Row). row_size (reach_in_vars P.vars) r ≤ 2 ^ 126) s.1 (size_of_test (row_size (reach_in_vars P.vars) (rounded j.0)) (2 ^ 126) s.0);
    }

-- ---- such a row is a cut

-- a coefficient that may stand is a whole number
stands_whole : (x : Var) (c : Fraction) → may_stand x c ≡ true → IsSame c (whole c.num)
stands_whole x c h = by_kind x.whole h
  where
    by_kind : (b : Bool) → (if b then c.den == 1 else int_eq c.num (pos 0)) ≡ true → IsSame c (whole c.num)
    by_kind true e = let one : c.den ≡ 1 = grind (arith, nat_tests) in rw one refl
    by_kind false e = let none : c.num ≡ pos 0 = eq_of_test c.num (pos 0) e in rw none (zero-*ℤ (pos 1) ∙ sym (zero-*ℤ (pos c.den)))

stands_zero : (x : Var) (c : Fraction) → x.whole ≡ false → may_stand x c ≡ true → c.num ≡ pos 0
stands_zero x c kind h = eq_of_test c.num (pos 0) (rw kind at h)

there_of_test : (P : Problem) (earlier : List Row) (es : List CutEntry) → list_all (λ e. is_some (row_on P earlier e.on)) es ≡ true → AreThere P earlier es
there_of_test P earlier es h = AllPass-from_list_all (λ (e : CutEntry). is_some (row_on P earlier e.on)) es h

module _ (P : Problem) (earlier : List Row) (es : List CutEntry) (row : Row) (sound : IsSound P) (form : AreCutEntries es) (d : IsDerived P earlier es row) where
  abbrev cs : List Fraction
  cs = d.coefficients

  abbrev ws : List Weighted
  ws = rows_on P earlier es

  dens : All (λ (w : Weighted). 0 < w.by.den) ws
  dens = on_dens P earlier es form.multipliers

  each : AreCoefficients ws 0 P.vars cs
  each = are_coefficients ws 0 P.vars cs d.each

  stand : (i : ℕ) (x : Var) → i < length P.vars → may_stand (get_or P.vars i x) (get_or cs i nothing) ≡ true
  stand i x h = all_may_stand 0 P.vars cs d.stands i x h (omega (arith, h, each.count))

  terms_are : row.terms ≡ terms_from 0 cs
  terms_are = sym (ap (λ (r : Row). r.terms) d.row_is)

  coefficient_is : (var : ℕ) → var < length P.vars → coefficient row.terms var ≡ (get_or cs var nothing).num
  coefficient_is var h =
      let same : 0 + var ≡ var = omega arith in
      ap (λ ts. coefficient ts var) terms_are ∙ rw same at (coefficient_of_terms 0 var cs (omega (arith, h, each.count)))

  coefficient_exact : (var : ℕ) (x : Var) → var < length P.vars → IsSame (combined_coefficient P false ws var) (whole (coefficient row.terms var))
  coefficient_exact var x h =
      let c = get_or cs var nothing in
      let same : 0 + var ≡ var = omega arith in
      let adds = rw same at (each.each var (omega (arith, h, each.count))) in
      let exact = add_coefficients_exact var ws nothing c dens (whole_den (pos 0)) adds in
      let combined = combined_row_at ws var in
      let is_whole = subst (λ (k : ℤ). IsSame c (whole k)) (sym (coefficient_is var h)) (stands_whole (get_or P.vars var x) c (stand var x h)) in
      let total = from_zero c combined (combined_row_at_den ws var dens) exact in
      same_trans (combined_coefficient P false ws var) combined (whole (coefficient row.terms var)) (combined_row_at_den ws var dens)
      (same_sym combined (combined_coefficient P false ws var) (nothing_less combined))
      (same_trans combined c (whole (coefficient row.terms var)) exact.positive (same_sym c combined total) is_whole)

  zero_behind : (x : Var) (i : ℕ) → i < length cs → P.wholes ≤ i → (get_or cs i nothing).num ≡ pos 0
  zero_behind x i h behind =
      let at : P.wholes + (i - P.wholes) ≡ i = omega (arith, behind) in
      let within : i - P.wholes < length (drop P.wholes P.vars) = omega (arith, length-drop P.wholes P.vars, h, behind, each.count, sound.wholes) in
      let continuous = sound.continuous_last (i - P.wholes) x within in
      let kind = rw (get_or-drop P.wholes P.vars (i - P.wholes) x, at) at continuous.0 in
      stands_zero (get_or P.vars i x) (get_or cs i nothing) kind (stand i x (omega (arith, h, each.count)))

  right_is : row.right ≡ floor_of d.right
  right_is = sym (ap (λ (r : Row). r.right) d.row_is)

  pub derived_is_cut : (x : Var) → IsCut P earlier es row
  derived_is_cut x =
      let exact = add_right_sides_exact ws nothing d.right dens (whole_den (pos 0)) d.adds in
      record {
        entries = form;
        there = there_of_test P earlier es d.there;
        over = record {
          ordered = subst (IsOrderedFrom 0) (sym terms_are) (terms_ordered 0 cs);
          vars = subst (HasVarsBelow (length P.vars)) (sym terms_are) (terms_below (length P.vars) 0 cs (λ i h more. absurd (omega (arith, h, more, each.count))));
          size = d.size;
        };
        coefficients = λ var h. coefficient_exact var x h;
        wholes = subst (HasVarsBelow P.wholes) (sym terms_are) (terms_below P.wholes 0 cs (λ i h more. zero_behind x i h (omega (arith, more))));
        right = subst (λ (n : ℤ). IsFloor n (right_side P false ws)) (sym right_is)
            (IsFloor-same (floor_of d.right) d.right (right_side P false ws) exact.positive (sum_of_den (combined_right ws) nothing (combined_right_den ws dens) (whole_den (pos 0))) exact.same
            (floor_of-IsFloor d.right exact.positive));
      }

pub a_variable : Var
a_variable = record { name = []; player = Exists; whole = true; low = pos 0; high = pos 0 }

pub derivation_is_cut : (P : Problem) (earlier : List Row) (es : List CutEntry) (row : Row) → IsSound P → AreCutEntries es → derivation P earlier es ≡ Gives row → IsCut P earlier es row
derivation_is_cut P earlier es row sound form h = derived_is_cut P earlier es row sound form (is_derived P earlier es row h) a_variable
