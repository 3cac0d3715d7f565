-- What the parts of a derivation say of the whole.
use Rattle.std.proofs.Common.{◌≡◌, ◌∙◌, ap, refl, sym, subst, ℕ, zero, suc, ◌+◌, ◌<◌, ◌≤◌, ◌^◌, Bool, true, false, ℤ, pos, List, [], ◌∷◌, ◌++◌, length, get_or, Option, Some, None, Ok, Err, arith, append_assoc, ◌↔◌, inl, inr}
use Rattle.std.specs.Prelude.{◌⊎◌, IfOk, Result, is_some, if◌then◌else◌, ◌&&◌, nat_le}
use Rattle.std.specs.Ordering.{int_eq}
use Rattle.std.specs.List.{list_all}
use Rattle.std.proofs.lemmas.List.{append-nil}
use Rattle.std.proofs.lemmas.List.Elements.{All-head, All-tail}
use Rattle.std.proofs.lemmas.Int.{ints}
use Rattle.std.proofs.lemmas.Bool.{and_parts, cases_lt, cases_order}
use Rattle.std.proofs.lemmas.Bool.Decides.{Decides-int_eq, nat_tests}
use Rattle.qm_math.specs.Fraction.{Fraction}
use Rattle.qm_math.specs.Rounding.{floor_of}
use Rattle.qm_math.proofs.WholeTests.{eq_of_test}
use Rattle.qm_frac.specs.declared.leaves.Leaves.{Leaves}
use Rattle.qm_frac.specs.Checked.{Checked, and_then}
use Rattle.qm_model.specs.declared.row.Row.{Row}
use Rattle.qm_model.specs.declared.row.Term.{Term}
use Rattle.qm_model.specs.declared.variable.Var.{Var}
use Rattle.qm_model.specs.declared.game.Problem.{Problem}
use Rattle.qm_model.specs.Linear.{HasVarsBelow, IsOrdered, IsOrderedFrom, coefficient}
use Rattle.qm_model.specs.Sound.{IsSound}
use Rattle.qm_model.specs.Sizes.{reach_in_vars, row_size}
use Rattle.qm_model.proofs.Forms.{coefficient-later, coefficient-other, coefficient-same}
use Rattle.qm_trees.specs.declared.cut_combo.CutEntry.{CutEntry}
use Rattle.qm_trees.specs.CutEntries.{AreCutEntries, row_on, rows_on}
use Rattle.qm_trees.specs.CutRules.{AreCutsAfter, Derivation, Derived, IsCut, Gives, Left, Missing, Wide, add_each, derivation, first_broken, may_stand, sized, terms_from, unless_broken}
use Rattle.qm_trees.specs.Entries.{Weighted}
use Rattle.qm_trees.specs.Evaluation.{add_coefficients, add_right_sides, zero as nothing}
use Rattle.qm_cuts.specs.declared.fault.CutFault.{CutFault}
use Rattle.qm_cuts.specs.declared.fault.CutFault.TheVariants as fault
use Rattle.qm_cuts.specs.declared.seen.Seen.{Seen}
use Rattle.qm_cuts.specs.Answers.{IsAnswer, IsSight, IsVerdict}
use Rattle.qm_cuts.specs.Pools.{rows_of}
use Rattle.qm_cuts.specs.Steps.{IsFound, broken_at, fit_each, fits_at, nothing_seen, or_later, see_each, seen_with, term_of}
use Rattle.qm_cuts.proofs.Deriving.{are_coefficients, coefficient_of_terms, derivation_is_cut, if_gives, size_of_test, terms_below, terms_ordered, unless_gives}

-- ---- what is seen of all variables

broken_first : (o : Option ℕ) (var : ℕ) (x : Var) (c : Fraction) (later : Option ℕ) → or_later (or_later o (broken_at var x c)) later ≡ or_later o (if may_stand x c then later else Some var)
broken_first o var x c later = by_test o (may_stand x c)
  where
    by_test : (o : Option ℕ) (b : Bool) → or_later (or_later o (if b then None else Some var)) later ≡ or_later o (if b then later else Some var)
    by_test (Some v) b = refl
    by_test None true = refl
    by_test None false = refl

terms_first : (ts : List Term) (var : ℕ) (c : Fraction) (cs : List Fraction) → (ts ++ term_of var c) ++ terms_from (suc var) cs ≡ ts ++ terms_from var (c ∷ cs)
terms_first ts var c cs = by_test (int_eq c.num (pos 0))
  where
    t : Term
    t = record { var = var; coef = c.num }

    by_test : (b : Bool) → (ts ++ (if b then [] else t ∷ [])) ++ terms_from (suc var) cs ≡ ts ++ (if b then terms_from (suc var) cs else t ∷ terms_from (suc var) cs)
    by_test true = append_assoc ts [] (terms_from (suc var) cs)
    by_test false = append_assoc ts (t ∷ []) (terms_from (suc var) cs)

same_seen : (o : Option ℕ) (ts : List Term) → ◌≡◌ {A = Seen} (record { broken = o; terms = ts }) (record { broken = or_later o None; terms = ts ++ [] })
same_seen None ts = rw append-nil refl
same_seen (Some v) ts = rw append-nil refl

pub see_each_is : (ws : List Weighted) (var : ℕ) (xs : List Var) (seen : Seen)
    → see_each ws var xs seen ≡ and_then (add_each ws var xs) (λ cs. Ok (record { broken = or_later seen.broken (first_broken var xs cs); terms = seen.terms ++ terms_from var cs }))
see_each_is ws var [] seen = ap (λ (s : Seen). let r : Checked Seen = Ok s in r) (same_seen seen.broken seen.terms)
see_each_is ws var (x ∷ xs) seen = by_first (λ c. see_each_is ws (suc var) xs (seen_with var x c seen)) (add_coefficients var ws nothing)
  where
    next : List Fraction → Checked Seen
    next cs = Ok (record { broken = or_later seen.broken (first_broken var (x ∷ xs) cs); terms = seen.terms ++ terms_from var cs })

    after : Fraction → List Fraction → Checked Seen
    after c cs = Ok (record { broken = or_later (or_later seen.broken (broken_at var x c)) (first_broken (suc var) xs cs); terms = (seen.terms ++ term_of var c) ++ terms_from (suc var) cs })

    made : Option ℕ → List Term → Checked Seen
    made o ts = Ok (record { broken = o; terms = ts })

    by_rest : (c : Fraction) (r : Checked (List Fraction)) → and_then r (after c) ≡ and_then (and_then r (λ cs. let k : Checked (List Fraction) = Ok (c ∷ cs) in k)) next
    by_rest c (Err leaves) = refl
    by_rest c (Ok cs) =
        ap (λ o. made o ((seen.terms ++ term_of var c) ++ terms_from (suc var) cs)) (broken_first seen.broken var x c (first_broken (suc var) xs cs))
        ∙ ap (λ ts. made (or_later seen.broken (first_broken var (x ∷ xs) (c ∷ cs))) ts) (terms_first seen.terms var c cs)

    by_first : ((c : Fraction) → see_each ws (suc var) xs (seen_with var x c seen) ≡ and_then (add_each ws (suc var) xs) (after c)) → (a : Checked Fraction)
        → and_then a (λ c. see_each ws (suc var) xs (seen_with var x c seen)) ≡ and_then (and_then a (λ c. and_then (add_each ws (suc var) xs) (λ cs. let k : Checked (List Fraction) = Ok (c ∷ cs) in k))) next
    by_first later (Err leaves) = refl
    by_first later (Ok c) = later c ∙ by_rest c (add_each ws (suc var) xs)

-- ---- whether the terms fit all variables

pub fits_from : List Term → ℕ → List Var → List Fraction → Bool
fits_from ts var [] cs = true
fits_from ts var (x ∷ xs) [] = true
fits_from ts var (x ∷ xs) (c ∷ cs) = fits_at ts var x c && fits_from ts (suc var) xs cs

and_true : (b : Bool) → b ≡ (b && true)
and_true true = refl
and_true false = refl

and_assoc : (a b c : Bool) → ((a && b) && c) ≡ (a && (b && c))
and_assoc true b c = refl
and_assoc false b c = refl

pub fit_each_is : (ws : List Weighted) (ts : List Term) (var : ℕ) (xs : List Var) (fit : Bool)
    → fit_each ws ts var xs fit ≡ and_then (add_each ws var xs) (λ cs. Ok (fit && fits_from ts var xs cs))
unfolding fits_from
fit_each_is ws ts var [] fit = ap (λ (b : Bool). let r : Checked Bool = Ok b in r) (and_true fit)
fit_each_is ws ts var (x ∷ xs) fit = by_first (λ c. fit_each_is ws ts (suc var) xs (fit && fits_at ts var x c)) (add_coefficients var ws nothing)
  where
    by_rest : (c : Fraction) (r : Checked (List Fraction))
        → and_then r (λ cs. let k : Checked Bool = Ok ((fit && fits_at ts var x c) && fits_from ts (suc var) xs cs) in k)
        ≡ and_then (and_then r (λ cs. let k : Checked (List Fraction) = Ok (c ∷ cs) in k)) (λ cs. let k : Checked Bool = Ok (fit && fits_from ts var (x ∷ xs) cs) in k)
    by_rest c (Err leaves) = refl
    by_rest c (Ok cs) = ap (λ (b : Bool). let r : Checked Bool = Ok b in r) (and_assoc fit (fits_at ts var x c) (fits_from ts (suc var) xs cs))

    by_first : ((c : Fraction) → fit_each ws ts (suc var) xs (fit && fits_at ts var x c) ≡ and_then (add_each ws (suc var) xs) (λ cs. let k : Checked Bool = Ok ((fit && fits_at ts var x c) && fits_from ts (suc var) xs cs) in k))
        → (a : Checked Fraction)
        → and_then a (λ c. fit_each ws ts (suc var) xs (fit && fits_at ts var x c))
        ≡ and_then (and_then a (λ c. and_then (add_each ws (suc var) xs) (λ cs. let k : Checked (List Fraction) = Ok (c ∷ cs) in k))) (λ cs. let k : Checked Bool = Ok (fit && fits_from ts var (x ∷ xs) cs) in k)
    by_first later (Err leaves) = refl
    by_first later (Ok c) = later c ∙ by_rest c (add_each ws (suc var) xs)

-- ---- which terms fit

fits_stand : (ts : List Term) (var : ℕ) (xs : List Var) (cs : List Fraction) → fits_from ts var xs cs ≡ true → first_broken var xs cs ≡ None
unfolding fits_from
fits_stand ts var [] cs e = refl
fits_stand ts var (x ∷ xs) [] e = refl
fits_stand ts var (x ∷ xs) (c ∷ cs) e =
    let p = and_parts (fits_at ts var x c) (fits_from ts (suc var) xs cs) e in
    let q = and_parts (may_stand x c) (int_eq c.num (coefficient ts var)) p.0 in
    rw q.0 (fits_stand ts (suc var) xs cs p.1)

fits_coefficients : (ts : List Term) (var : ℕ) (xs : List Var) (cs : List Fraction) → fits_from ts var xs cs ≡ true → (i : ℕ) → i < length xs → i < length cs → (get_or cs i nothing).num ≡ coefficient ts (var + i)
unfolding fits_from
fits_coefficients ts var [] cs e i h k = absurd (omega (arith, h))
fits_coefficients ts var (x ∷ xs) [] e i h k = absurd (omega (arith, k))
fits_coefficients ts var (x ∷ xs) (c ∷ cs) e zero h k =
    let p = and_parts (fits_at ts var x c) (fits_from ts (suc var) xs cs) e in
    let q = and_parts (may_stand x c) (int_eq c.num (coefficient ts var)) p.0 in
    let same : var + 0 ≡ var = omega arith in
    rw same (eq_of_test c.num (coefficient ts var) q.1)
fits_coefficients ts var (x ∷ xs) (c ∷ cs) e (suc i) h k =
    let p = and_parts (fits_at ts var x c) (fits_from ts (suc var) xs cs) e in
    let same : var + suc i ≡ suc var + i = omega arith in
    rw same (fits_coefficients ts (suc var) xs cs p.1 i (omega (arith, h)) (omega (arith, k)))

stands_first : (b : Bool) (var : ℕ) (o : Option ℕ) → (if b then o else Some var) ≡ None → (b ≡ true) × (o ≡ None)
stands_first true var o none = (refl, none)
stands_first false var o none = cc

fits_of : (ts : List Term) (var : ℕ) (xs : List Var) (cs : List Fraction) → first_broken var xs cs ≡ None → ((i : ℕ) → i < length cs → (get_or cs i nothing).num ≡ coefficient ts (var + i)) → fits_from ts var xs cs ≡ true
unfolding fits_from
fits_of ts var [] cs none are = refl
fits_of ts var (x ∷ xs) [] none are = refl
fits_of ts var (x ∷ xs) (c ∷ cs) none are =
    let s = stands_first (may_stand x c) var (first_broken (suc var) xs cs) none in
    let zeroth : var + 0 ≡ var = omega arith in
    let here : c.num ≡ coefficient ts var = rw zeroth at (are 0 (omega arith)) in
    let test : int_eq c.num (coefficient ts var) ≡ true = (Decides-int_eq c.num (coefficient ts var)).1 here in
    let later = fits_of ts (suc var) xs cs s.1 (λ i h. let same : var + suc i ≡ suc var + i = omega arith in rw same at (are (suc i) (omega (arith, h)))) in
    rw (s.0, test) later

-- ---- terms in order with the same coefficients are the same

head_coefficient : (t : Term) (ts : List Term) → IsOrderedFrom (suc t.var) ts → coefficient (t ∷ ts) t.var ≡ t.coef
head_coefficient t ts order =
    let same = coefficient-same t ts t.var refl in
    let none = coefficient-later ts (suc t.var) t.var order (omega arith) in
    omega (arith, ints, same, none)

none_before : (u : Term) (us : List Term) (var : ℕ) → IsOrderedFrom (suc u.var) us → var < u.var → coefficient (u ∷ us) var ≡ pos 0
none_before u us var order h = coefficient-other u us var (λ e. omega (arith, e, h)) ∙ coefficient-later us (suc u.var) var order (omega (arith, h))

none_from : (ts : List Term) (n var : ℕ) → HasVarsBelow n ts → n ≤ var → coefficient ts var ≡ pos 0
none_from [] n var below h = refl
none_from (t ∷ ts) n var below h =
    let first = All-head (λ (t : Term). t.var < n) t ts below in
    coefficient-other t ts var (λ e. omega (arith, first, h, e)) ∙ none_from ts n var (All-tail (λ (t : Term). t.var < n) t ts below) h

same_term : (a b : ℕ) (k j : ℤ) → a ≡ b → k ≡ j → ◌≡◌ {A = Term} (record { var = a; coef = k }) (record { var = b; coef = j })
same_term a b k j e f = rw (e, f) refl

ordered_same : (ts us : List Term) (least : ℕ) → IsOrderedFrom least ts → IsOrderedFrom least us → ((var : ℕ) → coefficient ts var ≡ coefficient us var) → ts ≡ us
ordered_same [] [] least p q same = refl
ordered_same [] (u ∷ us) least p q same = absurd (q.1 (sym (head_coefficient u us q.2) ∙ sym (same u.var)))
ordered_same (t ∷ ts) [] least p q same = absurd (p.1 (sym (head_coefficient t ts p.2) ∙ same t.var))
ordered_same (t ∷ ts) (u ∷ us) least p q same =
    by_order (λ next. ordered_same ts us next) (cases_order t.var u.var)
  where
    tails : t.var ≡ u.var → (var : ℕ) → coefficient ts var ≡ coefficient us var
    tails e var = elim (cases_lt t.var var) [
      | inl h ↦ sym (coefficient-other t ts var (λ f. omega (arith, f, h))) ∙ same var ∙ coefficient-other u us var (λ f. omega (arith, f, h, e))
      | inr h ↦ coefficient-later ts (suc t.var) var p.2 (omega (arith, h)) ∙ sym (coefficient-later us (suc u.var) var q.2 (omega (arith, h, e)))
    ]

    by_order : ((next : ℕ) → IsOrderedFrom next ts → IsOrderedFrom next us → ((var : ℕ) → coefficient ts var ≡ coefficient us var) → ts ≡ us)
        → (t.var ≡ u.var) ⊎ ((t.var < u.var) ⊎ (u.var < t.var)) → (t ∷ ts) ≡ (u ∷ us)
    by_order rest (inl e) =
        let coefs : t.coef ≡ u.coef = sym (head_coefficient t ts p.2) ∙ same t.var ∙ ap (λ v. coefficient (u ∷ us) v) e ∙ head_coefficient u us q.2 in
        let others = rest (suc t.var) p.2 (subst (λ (v : ℕ). IsOrderedFrom (suc v) us) (sym e) q.2) (tails e) in
        let heads : t ≡ u = same_term t.var u.var t.coef u.coef e coefs in
        ap (λ v. v ∷ ts) heads ∙ ap (λ vs. u ∷ vs) others
    by_order rest (inr (inl h)) = absurd (p.1 (sym (head_coefficient t ts p.2) ∙ same t.var ∙ none_before u us t.var q.2 h))
    by_order rest (inr (inr h)) = absurd (q.1 (sym (head_coefficient u us q.2) ∙ sym (same u.var) ∙ none_before t ts u.var p.2 h))

same_row : (ts us : List Term) (a b : ℤ) → ts ≡ us → a ≡ b → ◌≡◌ {A = Row} (record { terms = ts; right = a }) (record { terms = us; right = b })
same_row ts us a b e f = rw (e, f) refl

sized_fits : (xs : List Var) (row : Row) → row_size (reach_in_vars xs) row ≤ 2 ^ 126 → sized xs row ≡ Gives row
sized_fits xs row h = let test : nat_le (row_size (reach_in_vars xs) row) (2 ^ 126) ≡ true = test_of_size (row_size (reach_in_vars xs) row) (2 ^ 126) h in rw test refl
  where
    test_of_size : (m n : ℕ) → m ≤ n → nat_le m n ≡ true
    test_of_size m n h = grind (arith, nat_tests)

-- ---- the parts, and the whole

pub not_there : (P : Problem) (earlier : List Row) (es : List CutEntry) → list_all (λ e. is_some (row_on P earlier e.on)) es ≡ false → derivation P earlier es ≡ Missing
unfolding derivation
not_there P earlier es e = rw e refl

ok_parts : {A B : Type 0} (x : Checked A) (f : A → B) (b : B) → and_then x (λ a. let r : Checked B = Ok (f a) in r) ≡ Ok b → (a : A) × (x ≡ Ok a) × (f a ≡ b)
ok_parts (Ok a) f b e = (a, refl, cc)
ok_parts (Err leaves) f b e = cc

err_parts : {A B : Type 0} (x : Checked A) (f : A → B) (leaves : Leaves) → and_then x (λ a. let r : Checked B = Ok (f a) in r) ≡ Err leaves → x ≡ Err leaves
err_parts (Ok a) f leaves e = cc
err_parts (Err left) f leaves e = cc

never_left : (o : Option ℕ) (xs : List Var) (row : Row) (leaves : Leaves) → unless_broken o (sized xs row) ≡ Left leaves → ⊥
never_left None xs row leaves e = by_size (nat_le (row_size (reach_in_vars xs) row) (2 ^ 126)) e
  where
    by_size : (b : Bool) → (if b then Gives row else Wide) ≡ Left leaves → ⊥
    by_size true e = cc
    by_size false e = cc
never_left (Some v) xs row leaves e = cc

module _ (P : Problem) (earlier : List Row) (es : List CutEntry) (there : list_all (λ e. is_some (row_on P earlier e.on)) es ≡ true) where
  abbrev ws : List Weighted
  ws = rows_on P earlier es

  pub right_leaves : (leaves : Leaves) → add_right_sides ws nothing ≡ Err leaves → derivation P earlier es ≡ Left leaves
  unfolding derivation
  right_leaves leaves e = rw (there, e) refl

  module _ (right : Fraction) (adds : add_right_sides ws nothing ≡ Ok right) where
    coefficient_leaves : (leaves : Leaves) → add_each ws 0 P.vars ≡ Err leaves → derivation P earlier es ≡ Left leaves
    unfolding derivation
    coefficient_leaves leaves e = rw (there, adds, e) refl

    derivation_is : (cs : List Fraction) → add_each ws 0 P.vars ≡ Ok cs
        → derivation P earlier es ≡ unless_broken (first_broken 0 P.vars cs) (sized P.vars (record { terms = terms_from 0 cs; right = floor_of right }))
    unfolding derivation
    derivation_is cs e = rw (there, adds, e) refl

    pub seen_leaves : (leaves : Leaves) → see_each ws 0 P.vars nothing_seen ≡ Err leaves → derivation P earlier es ≡ Left leaves
    seen_leaves leaves e =
        coefficient_leaves leaves
        (err_parts (add_each ws 0 P.vars) (λ cs. let s : Seen = record { broken = first_broken 0 P.vars cs; terms = terms_from 0 cs } in s) leaves (sym (see_each_is ws 0 P.vars nothing_seen) ∙ e))

    pub seen_all : (seen : Seen) → see_each ws 0 P.vars nothing_seen ≡ Ok seen
        → (IsOrdered seen.terms) × (derivation P earlier es ≡ unless_broken seen.broken (sized P.vars (record { terms = seen.terms; right = floor_of right })))
    seen_all seen e =
        let p = ok_parts (add_each ws 0 P.vars) (λ cs. let s : Seen = record { broken = first_broken 0 P.vars cs; terms = terms_from 0 cs } in s) seen (sym (see_each_is ws 0 P.vars nothing_seen) ∙ e) in (
          subst (λ (s : Seen). IsOrdered s.terms) p.2 (terms_ordered 0 p.0),
          derivation_is p.0 p.1 ∙ ap (λ (s : Seen). unless_broken s.broken (sized P.vars (record { terms = s.terms; right = floor_of right }))) p.2,
        )

    pub fit_leaves_all : (ts : List Term) (leaves : Leaves) → fit_each ws ts 0 P.vars true ≡ Err leaves → derivation P earlier es ≡ Left leaves
    fit_leaves_all ts leaves e = coefficient_leaves leaves (err_parts (add_each ws 0 P.vars) (λ cs. fits_from ts 0 P.vars cs) leaves (sym (fit_each_is ws ts 0 P.vars true) ∙ e))

    pub sight_answer : (e : CutFault) → IsSight (see_each ws 0 P.vars nothing_seen) (Err e) → IsAnswer (derivation P earlier es) (Err e)
    sight_answer fault.Missing h = absurd h
    sight_answer (fault.Leaves leaves) h = seen_leaves leaves h
    sight_answer (fault.Broken var) h = absurd h
    sight_answer fault.Wide h = absurd h
    sight_answer fault.Memory h = tt

    module _ (row : Row) (fit : Bool) (ordered : IsOrdered row.terms) (tested : fit_each ws row.terms 0 P.vars true ≡ Ok fit) where
      parts : (cs : List Fraction) × (add_each ws 0 P.vars ≡ Ok cs) × (fits_from row.terms 0 P.vars cs ≡ fit)
      parts = ok_parts (add_each ws 0 P.vars) (λ cs. fits_from row.terms 0 P.vars cs) fit (sym (fit_each_is ws row.terms 0 P.vars true) ∙ tested)

      found_gives : IsFound fit P.vars right row → derivation P earlier es ≡ Gives row
      found_gives found =
          let cs = parts.0 in
          let each = are_coefficients ws 0 P.vars cs parts.1 in
          let fits = parts.2 ∙ found.fits in
          let terms : terms_from 0 cs ≡ row.terms = ordered_same (terms_from 0 cs) row.terms 0 (terms_ordered 0 cs) ordered (λ var.
          elim (cases_lt var (length cs)) [
            | inl h ↦
                let at : 0 + var ≡ var = omega arith in
                rw at at (coefficient_of_terms 0 var cs h ∙ fits_coefficients row.terms 0 P.vars cs fits var (omega (arith, h, each.count)) h)
            | inr h ↦
                none_from (terms_from 0 cs) (length cs) var (terms_below (length cs) 0 cs (λ i k more. absurd (omega (arith, k, more)))) h
                ∙ sym (none_from row.terms (length P.vars) var found.vars (omega (arith, h, each.count)))
          ]) in
          derivation_is cs parts.1
          ∙ ap (λ o. unless_broken o (sized P.vars (record { terms = terms_from 0 cs; right = floor_of right }))) (fits_stand row.terms 0 P.vars cs fits)
          ∙ ap (λ r. sized P.vars r) (same_row (terms_from 0 cs) row.terms (floor_of right) row.right terms (sym found.floor))
          ∙ sized_fits P.vars row found.size

      gives_found : derivation P earlier es ≡ Gives row → IsFound fit P.vars right row
      gives_found gives =
          let cs = parts.0 in
          let made : Row = record { terms = terms_from 0 cs; right = floor_of right } in
          let each = are_coefficients ws 0 P.vars cs parts.1 in
          let u = unless_gives (first_broken 0 P.vars cs) (sized P.vars made) row (sym (derivation_is cs parts.1) ∙ gives) in
          let s = if_gives (nat_le (row_size (reach_in_vars P.vars) made) (2 ^ 126)) made row u.1 in
          record {
            fits = sym parts.2 ∙ fits_of row.terms 0 P.vars cs u.0 (λ i h. sym (coefficient_of_terms 0 i cs h) ∙ ap (λ (r : Row). coefficient r.terms (0 + i)) s.1);
            floor = sym (ap (λ (r : Row). r.right) s.1);
            vars = subst (λ (r : Row). HasVarsBelow (length P.vars) r.terms) s.1 (terms_below (length P.vars) 0 cs (λ i h more. absurd (omega (arith, h, more, each.count))));
            size = subst (λ (r : Row). row_size (reach_in_vars P.vars) r ≤ 2 ^ 126) s.1 (size_of_test (row_size (reach_in_vars P.vars) made) (2 ^ 126) s.0);
          }

      pub fit_verdict : (b : Bool) → (b ≡ true) ↔ IsFound fit P.vars right row → IsVerdict (derivation P earlier es) row (Ok b)
      fit_verdict true iff = found_gives (iff.0 refl)
      fit_verdict false iff = (
        λ gives. (let none = iff.1 (gives_found gives) in cc),
        λ leaves e. never_left (first_broken 0 P.vars parts.0) P.vars (record { terms = terms_from 0 parts.0; right = floor_of right }) leaves (sym (derivation_is parts.0 parts.1) ∙ e),
      )

pub missing_verdict : (d : Derivation) (row : Row) → d ≡ Missing → IsVerdict d row (Ok false)
missing_verdict d row e = (λ gives. cc, λ leaves left. cc)

pub answer_cut : (P : Problem) (earlier : List Row) (es : List CutEntry) → IsSound P → AreCutEntries es → (r : Result Row CutFault) → IsAnswer (derivation P earlier es) r → IfOk r (λ row. IsCut P earlier es row)
answer_cut P earlier es sound form (Ok row) h = derivation_is_cut P earlier es row sound form h
answer_cut P earlier es sound form (Err e) h = tt

pub cuts_more : (P : Problem) (earlier : List Row) (cuts : List Derived) (es : List CutEntry) (row : Row) → AreCutsAfter P earlier cuts → IsCut P (earlier ++ rows_of cuts) es row
    → AreCutsAfter P earlier (cuts ++ record { entries = es; row = row } ∷ [])
cuts_more P earlier [] es row are cut = (rw append-nil at cut, tt)
cuts_more P earlier (c ∷ cuts) es row are cut =
    (are.0, cuts_more P (earlier ++ c.row ∷ []) cuts es row are.1 (subst (λ (rs : List Row). IsCut P rs es row) (sym (append_assoc earlier (c.row ∷ []) (rows_of cuts))) cut))
