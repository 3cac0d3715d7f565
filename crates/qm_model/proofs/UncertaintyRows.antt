-- Where a legal prefix sets all whole variables, each uncertainty row holds over each denominator.
use Rattle.std.proofs.Common.{◌≡◌, ℕ, zero, suc, ◌-◌, ◌<◌, Bool, true, false, List, [], ◌∷◌, ◌++◌, length, get_or, map, take, drop, All, refl, sym, ap, ap₂, ◌∙◌, ℤ, pos, ◌+ℤ◌, ◌*ℤ◌, arith}
use Rattle.std.specs.Prelude.{IsTrue, MatchOption, slice_get, if◌then◌else◌}
use Rattle.std.proofs.Math.IntN.{zero-*ℤ}
use Rattle.std.proofs.lemmas.List.{length-map, length-take, length-append, get_or-map, get_or_append_left}
use Rattle.std.proofs.lemmas.List.Elements.{All-head, All-tail}
use Rattle.qm_math.proofs.Whole.{add-*ℤ, *ℤ_assoc, scaled_le}
use Rattle.qm_model.specs.declared.row.Term.{Term}
use Rattle.qm_model.specs.declared.row.Row.{Row}
use Rattle.qm_model.specs.declared.variable.Var.{Var}
use Rattle.qm_model.specs.declared.game.Problem.{Problem}
use Rattle.qm_model.specs.Linear.{HasVarsBelow, IsOrdered, form}
use Rattle.qm_model.specs.Plays.{HoldsAt, is_universal, spread, whole_vars}
use Rattle.qm_model.specs.Legal.{AgreesWithPlay, IsComplete, IsLegal, universal_part}
use Rattle.qm_model.specs.Points.{HoldsOver, Point, values_over}
use Rattle.qm_model.specs.Sound.{IsContinuous, IsOverUniversal, IsRowOver, IsSound}
use Rattle.qm_model.proofs.Forms.{sum_of_terms, sum_over-sum_of_terms}
use Rattle.qm_model.proofs.Legality.{play_of_legal}

-- ---- the universal values of a prefix, spread over the variables again

-- the variable numbered so is universal
abbrev pub IsUniversalAt : List Var → ℕ → Type 0
IsUniversalAt xs i = MatchOption (slice_get xs i) ⊥ (λ x. IsTrue (is_universal x))

pub spread-other : (x : Var) (xs : List Var) (us : List ℤ) → is_universal x ≡ false → spread (x ∷ xs) us ≡ pos 0 ∷ spread xs us
spread-other x xs [] e = refl
spread-other x xs (u ∷ us) e = rw e refl

pub spread-here : (x : Var) (xs : List Var) (u : ℤ) (us : List ℤ) → is_universal x ≡ true → spread (x ∷ xs) (u ∷ us) ≡ u ∷ spread xs us
spread-here x xs u us e = rw e refl

pub length-spread : (xs : List Var) (us : List ℤ) → length (spread xs us) ≡ length xs
length-spread [] us = refl
length-spread (x ∷ xs) [] = ap suc (length-spread xs [])
length-spread (x ∷ xs) (u ∷ us) = by (is_universal x) (length-spread xs us) (length-spread xs (u ∷ us))
  where
    by : (b : Bool) → length (spread xs us) ≡ length xs → length (spread xs (u ∷ us)) ≡ length xs
        → length (if b then u ∷ spread xs us else pos 0 ∷ spread xs (u ∷ us)) ≡ suc (length xs)
    by true taken skipped = ap suc taken
    by false taken skipped = ap suc skipped

-- a universal variable has its value back, whatever universal values follow
pub spread-universal_part : (xs : List Var) (vs rest : List ℤ) (i : ℕ) → i < length vs → IsUniversalAt xs i
    → get_or (spread xs (universal_part xs vs ++ rest)) i (pos 0) ≡ get_or vs i (pos 0)
spread-universal_part [] vs rest i below universal = absurd universal
spread-universal_part (x ∷ xs) [] rest i below universal = absurd (omega (arith, below))
spread-universal_part (x ∷ xs) (v ∷ vs) rest zero below universal =
    rw universal (ap (λ ws. get_or ws 0 (pos 0)) (spread-here x xs v (universal_part xs vs ++ rest) universal))
spread-universal_part (x ∷ xs) (v ∷ vs) rest (suc i) below universal =
    by (is_universal x) refl (spread-universal_part xs vs rest i (omega (arith, below)) universal)
  where
    by : (b : Bool) → is_universal x ≡ b → get_or (spread xs (universal_part xs vs ++ rest)) i (pos 0) ≡ get_or vs i (pos 0)
        → get_or (spread (x ∷ xs) (universal_part (x ∷ xs) (v ∷ vs) ++ rest)) (suc i) (pos 0) ≡ get_or vs i (pos 0)
    by true e later = rw e (ap (λ ws. get_or ws (suc i) (pos 0)) (spread-here x xs v (universal_part xs vs ++ rest) e) ∙ later)
    by false e later =
        let us = universal_part xs vs ++ rest in
        rw e (ap (λ ws. get_or ws (suc i) (pos 0)) (spread-other x xs us e) ∙ later)

-- ---- universal variables are whole

universal_or_continuous : (x : Var) → IsTrue (is_universal x) → IsContinuous x → ⊥
universal_or_continuous x universal continuous = cc

pub universal_is_whole : (n : ℕ) (xs : List Var) (i : ℕ) → All IsContinuous (drop n xs) → IsUniversalAt xs i → i < n
universal_is_whole zero xs i last universal = absurd (none xs i last universal)
  where
    none : (xs : List Var) (i : ℕ) → All IsContinuous xs → IsUniversalAt xs i → ⊥
    none [] i last universal = universal
    none (x ∷ xs) zero last universal = universal_or_continuous x universal (All-head IsContinuous x xs last)
    none (x ∷ xs) (suc i) last universal = none xs i (All-tail IsContinuous x xs last) universal
universal_is_whole (suc n) [] i last universal = absurd universal
universal_is_whole (suc n) (x ∷ xs) zero last universal = omega arith
universal_is_whole (suc n) (x ∷ xs) (suc i) last universal = omega (arith, universal_is_whole n xs i last universal)

pub universal_at_take : (n : ℕ) (xs : List Var) (i : ℕ) → i < n → IsUniversalAt xs i → IsUniversalAt (take n xs) i
universal_at_take zero xs i below universal = absurd (omega (arith, below))
universal_at_take (suc n) [] i below universal = absurd universal
universal_at_take (suc n) (x ∷ xs) zero below universal = universal
universal_at_take (suc n) (x ∷ xs) (suc i) below universal = universal_at_take n xs i (omega (arith, below)) universal

-- ---- a form over one denominator

-- values that are n times the others, at the variables that the terms name
abbrev pub AreTimes : ℕ → List ℤ → List ℤ → Term → Type 0
AreTimes n many few t = get_or many t.var (pos 0) ≡ get_or few t.var (pos 0) *ℤ pos n

terms_times : (n : ℕ) (many few : List ℤ) (ts : List Term) → All (AreTimes n many few) ts
    → sum_of_terms ◌*ℤ◌ (pos 0) ts 0 many ≡ sum_of_terms ◌*ℤ◌ (pos 0) ts 0 few *ℤ pos n
terms_times n many few [] all = sym (zero-*ℤ (pos n))
terms_times n many few (t ∷ ts) all =
    let none : t.var - 0 ≡ t.var = omega arith in
    let a = get_or few t.var (pos 0) in
    let rest = sum_of_terms ◌*ℤ◌ (pos 0) ts 0 few in
    let here : t.coef *ℤ get_or many (t.var - 0) (pos 0) ≡ (t.coef *ℤ get_or few (t.var - 0) (pos 0)) *ℤ pos n =
    rw none (ap (λ k. t.coef *ℤ k) (All-head (AreTimes n many few) t ts all) ∙ sym (*ℤ_assoc t.coef a (pos n))) in
    ap₂ ◌+ℤ◌ here (terms_times n many few ts (All-tail (AreTimes n many few) t ts all)) ∙ sym (add-*ℤ (t.coef *ℤ get_or few (t.var - 0) (pos 0)) rest (pos n))

-- the form is as many times as great
pub form-times : (n : ℕ) (many few : List ℤ) (ts : List Term) → IsOrdered ts → HasVarsBelow (length many) ts → HasVarsBelow (length few) ts → All (AreTimes n many few) ts
    → form ts many ≡ form ts few *ℤ pos n
form-times n many few ts order below_many below_few all =
    sum_over-sum_of_terms ◌*ℤ◌ (pos 0) (λ a. zero-*ℤ a) ts 0 many order (λ k u h. omega (arith, below_many k u h))
    ∙ terms_times n many few ts all
    ∙ ap (λ k. k *ℤ pos n) (sym (sum_over-sum_of_terms ◌*ℤ◌ (pos 0) (λ a. zero-*ℤ a) ts 0 few order (λ k u h. omega (arith, below_few k u h))))

-- ---- the rows

-- a complete prefix has as many values as there are whole variables
pub length-complete : (P : Problem) (prefix : List ℤ) → IsSound P → IsComplete P prefix → length prefix ≡ P.wholes
length-complete P prefix sound complete = omega (arith, complete, length-take P.wholes P.vars, sound.wholes)

module _ (P : Problem) (prefix : List ℤ) (y : Point) (sound : IsSound P) (complete : IsComplete P prefix) (play : AgreesWithPlay P prefix) where
  -- the values of all variables, as numerators
  abbrev all_values : List ℤ
  all_values = values_over prefix y

  -- the values of the whole variables in the play: 0 for the existential ones
  abbrev play_values : List ℤ
  play_values = spread (whole_vars P) (universal_part (whole_vars P) prefix ++ play.rest)

  value_is : (i : ℕ) → IsUniversalAt P.vars i → get_or all_values i (pos 0) ≡ get_or play_values i (pos 0) *ℤ pos y.den
  value_is i universal =
      let whole_at = universal_is_whole P.wholes P.vars i sound.continuous_last universal in
      let long = length-complete P prefix sound complete in
      let scaled = map (λ v. v *ℤ pos y.den) prefix in
      get_or_append_left scaled y.nums (pos 0) i (omega (arith, whole_at, long, length-map prefix (λ v. v *ℤ pos y.den)))
      ∙ get_or-map (λ v. v *ℤ pos y.den) prefix i (pos 0) (pos 0) (omega (arith, whole_at, long))
      ∙ ap (λ v. v *ℤ pos y.den)
      (sym (spread-universal_part (whole_vars P) prefix play.rest i (omega (arith, whole_at, long)) (universal_at_take P.wholes P.vars i whole_at universal)))

  row_holds : (row : Row) → IsRowOver P.vars row → All (IsOverUniversal P.vars) row.terms → HoldsAt play_values row → HoldsOver y.den all_values row
  row_holds row is_row universal holds =
      let ts = row.terms in
      let long = length-complete P prefix sound complete in
      let whole_at : HasVarsBelow P.wholes ts = λ k e h. universal_is_whole P.wholes P.vars (get_or ts k e).var sound.continuous_last (universal k e h) in
      let many : HasVarsBelow (length all_values) ts =
      λ k e h. omega (arith, whole_at k e h, long, length-map prefix (λ v. v *ℤ pos y.den), length-append (map (λ v. v *ℤ pos y.den) prefix) y.nums) in
      let few : HasVarsBelow (length play_values) ts =
      λ k e h. omega (arith, whole_at k e h, length-spread (whole_vars P) (universal_part (whole_vars P) prefix ++ play.rest), length-take P.wholes P.vars, sound.wholes) in
      let same = form-times y.den all_values play_values ts is_row.ordered many few (λ k e h. value_is (get_or ts k e).var (universal k e h)) in
      rw same (scaled_le (form ts play_values) row.right y.den holds)

  urows_hold : All (HoldsOver y.den all_values) P.urows
  urows_hold = λ k e h. row_holds (get_or P.urows k e) (sound.urows k e h) (sound.urows_universal k e h) (play.is_play.rows k e h)

pub legal_meets_uncertainty : (P : Problem) (prefix : List ℤ) (y : Point) → IsSound P → IsComplete P prefix → IsLegal P prefix
    → All (HoldsOver y.den (values_over prefix y)) P.urows
legal_meets_uncertainty P prefix y sound complete legal = urows_hold P prefix y sound complete (play_of_legal P prefix legal)
