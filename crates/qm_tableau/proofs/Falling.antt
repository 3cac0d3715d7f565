-- The columns of the first tableau are lexicographically negative.
use Rattle.std.proofs.Common.{◌≡◌, ◌∙◌, refl, sym, ap, ap₂, subst, ℕ, zero, suc, ◌+◌, ◌<◌, ◌≤◌, inl, inr, Bool, true, false, List, [], ◌∷◌, ◌++◌, length, get_or, map, arith, ℤ, pos, negsuc, neg_ℤ, ◌+ℤ◌, ◌<ℤ◌, ◌≢◌}
use Rattle.std.specs.Prelude.{if◌then◌else◌, ◌==◌, int_lt}
use Rattle.std.proofs.lemmas.Int.{ints}
use Rattle.std.proofs.lemmas.Bool.Decides.{nat_tests}
use Rattle.qm_math.specs.Fraction.{Fraction, IsBelow, IsSame, whole}
use Rattle.qm_math.specs.Lexicographic.{IsLexNegative}
use Rattle.qm_model.specs.declared.range.Range.{Range}
use Rattle.qm_model.specs.declared.row.Term.{Term}
use Rattle.qm_model.specs.declared.row.Row.{Row}
use Rattle.qm_model.specs.declared.game.Problem.{Problem}
use Rattle.qm_model.specs.Linear.{coefficient}
use Rattle.qm_tableau.specs.Quantities.{Quantity, bound_quantities, coefficient_in, quantities, slack_quantity, turned}
use Rattle.qm_tableau.specs.FirstTable.{corner, first_row, first_table, numbers_from, raises}
use Rattle.qm_tableau.specs.Columns.{column_at}

pub numbers_at : (f : ℕ → ℤ) (var : ℕ) (highs : List Bool) (j : ℕ) (d : Fraction) → j < length highs
    → get_or (numbers_from f var highs) j d ≡ whole (turned (get_or highs j false) (f (var + j)))
numbers_at f var [] j d h = absurd (omega arith)
numbers_at f var (high ∷ highs) zero d h = let at : var ≡ var + 0 = omega arith in ap (λ (n : ℕ). whole (turned high (f n))) at
numbers_at f var (high ∷ highs) (suc j) d h =
    let at : suc var + j ≡ var + suc j = omega arith in
    numbers_at f (suc var) highs j d (omega arith) ∙ ap (λ (n : ℕ). whole (turned (get_or highs j false) (f n))) at

raises_at : (objective : List Term) (var : ℕ) (bx : List Range) (j : ℕ) → j < length bx
    → get_or (raises objective var bx) j false ≡ int_lt (pos 0) (coefficient objective (var + j))
raises_at objective var [] j h = absurd (omega arith)
raises_at objective var (r ∷ bx) zero h = let at : var ≡ var + 0 = omega arith in ap (λ (n : ℕ). int_lt (pos 0) (coefficient objective n)) at
raises_at objective var (r ∷ bx) (suc j) h =
    let at : suc var + j ≡ var + suc j = omega arith in
    raises_at objective (suc var) bx j (omega arith) ∙ ap (λ (n : ℕ). int_lt (pos 0) (coefficient objective n)) at

length_raised : (objective : List Term) (var : ℕ) (bx : List Range) → length (raises objective var bx) ≡ length bx
length_raised objective var [] = refl
length_raised objective var (r ∷ bx) = ap suc (length_raised objective (suc var) bx)

-- a number from each quantity
numbers_in : Bool → ℕ → List Quantity → List Fraction
numbers_in high j qs = map (λ q. whole (turned high (coefficient_in q j))) qs

-- the column, once its numbers are known
column_is : (highs : List Bool) (values : List ℤ) (j : ℕ) (qs : List Quantity) → j < length highs
    → column_at (map (first_row highs values) qs) (suc j) ≡ numbers_in (get_or highs j false) j qs
unfolding numbers_in
column_is highs values j [] h = refl
column_is highs values j (q ∷ qs) h =
    ap₂ (λ (x : Fraction) (xs : List Fraction). x ∷ xs) (numbers_at (coefficient_in q) 0 highs j (whole (pos 0)) h ∙ ap (λ (n : ℕ). whole (turned (get_or highs j false) (coefficient_in q n))) (let e : 0 + j ≡ j = omega arith in e))
    (column_is highs values j qs h)

below_nought : (n : ℤ) → n <ℤ pos 0 → IsBelow (whole n) (whole (pos 0))
below_nought n h = omega (arith, ints, h)

own : (b : Bool) → b ≡ true → (let z : ℤ = neg_ℤ (if b then pos 1 +ℤ pos 0 else pos 0) in z) <ℤ pos 0
own true h = omega (arith, ints)
own false h = absurd (cc)

other : (b : Bool) → b ≡ false → (let z : ℤ = if b then pos 1 +ℤ pos 0 else pos 0 in z) ≡ pos 0
other true h = absurd (cc)
other false h = refl

-- among the distances from the ends, the variable's own distance from its high end decides
bounds_fall : (var j : ℕ) (bx : List Range) (more : List Quantity) → var ≤ j → j < var + length bx → IsLexNegative (numbers_in false j (bound_quantities var bx ++ more))
unfolding numbers_in
bounds_fall var j [] more low high = absurd (omega arith)
bounds_fall var j (r ∷ bx) more low high = by_test (var == j) refl (λ later. bounds_fall (suc var) j bx more (omega (arith, low, later)) (omega (arith, high)))
  where
    by_test : (b : Bool) → (var == j) ≡ b → ((var ≢ j) → IsLexNegative (numbers_in false j (bound_quantities (suc var) bx ++ more))) → IsLexNegative (numbers_in false j (bound_quantities var (r ∷ bx) ++ more))
    by_test true e rest = inl (below_nought _ (own (var == j) e))
    by_test false e rest =
        let none = other (var == j) e in
        let later : var ≢ j = λ same. (let t : (var == j) ≡ true = grind (arith, nat_tests) in absurd (cc)) in
        let high_none : IsSame (whole (neg_ℤ (coefficient (record { var = var; coef = pos 1 } ∷ []) j))) (whole (pos 0)) = rw none refl in
        let low_none : IsSame (whole (coefficient (record { var = var; coef = pos 1 } ∷ []) j)) (whole (pos 0)) = rw none refl in
        inr (high_none, inr (low_none, rest later))

-- the objective's number decides, unless it is 0
objective_falls : (k : ℤ) (rest : Bool → List Fraction) → (k ≡ pos 0 → IsLexNegative (rest false)) → IsLexNegative (whole (turned (int_lt (pos 0) k) k) ∷ rest (int_lt (pos 0) k))
objective_falls (pos zero) rest h = inr (refl, h refl)
objective_falls (pos (suc n)) rest h =
    let e : int_lt (pos 0) (pos (suc n)) ≡ true = grind (arith, ints) in
    inl (rw e (below_nought (neg_ℤ (pos (suc n))) (omega (arith, ints))))
objective_falls (negsuc n) rest h = inl (below_nought (negsuc n) (omega (arith, ints)))

pub first_falls : (P : Problem) (cuts : List Row) (bx : List Range) (j : ℕ) → j < length bx → IsLexNegative (column_at (first_table P cuts bx).rows (suc j))
unfolding numbers_in
first_falls P cuts bx j h =
    let highs = raises P.terms 0 bx in
    let inside : j < length highs = (let e = length_raised P.terms 0 bx in omega (arith, h, e)) in
    let high : get_or highs j false ≡ int_lt (pos 0) (coefficient P.terms j) = raises_at P.terms 0 bx j h ∙ ap (λ (n : ℕ). int_lt (pos 0) (coefficient P.terms n)) (let e : 0 + j ≡ j = omega arith in e) in
    let more = map slack_quantity P.rows ++ (map slack_quantity P.urows ++ map slack_quantity cuts) in
    let is = column_is highs (corner highs bx) j (quantities P cuts bx) inside ∙ ap (λ (b : Bool). numbers_in b j (quantities P cuts bx)) high in
    subst IsLexNegative (sym is)
    (objective_falls (coefficient P.terms j) (λ b. numbers_in b j (bound_quantities 0 bx ++ more)) (λ e. bounds_fall 0 j bx more (omega arith) (omega (arith, h))))
