-- A form over all variables comes to the sum over its terms.
use Rattle.std.proofs.Common.{◌≡◌, refl, ℕ, ◌<◌, Bool, true, false, List, [], ◌∷◌, arith, All, ℤ, pos, ◌+ℤ◌, if◌then◌else◌}
use Rattle.std.specs.Prelude.{◌==◌}
use Rattle.qm_math.specs.Fraction.{Fraction, HasPositiveDen, IsSame, whole}
use Rattle.qm_math.specs.Arithmetic.{product_of, sum_of}
use Rattle.qm_math.specs.Totals.{total_of}
use Rattle.qm_math.proofs.FractionLaws.{product_of-same, product_of_den, same_refl, same_sym, same_trans, sum_of-same, sum_of-whole, sum_of_den, whole_den}
use Rattle.qm_math.proofs.FractionRing.{same_by_ring}
use Rattle.qm_math.proofs.Polynomials.{number, ◌⊕◌, ◌⊗◌}
use Rattle.qm_math.proofs.Ring.{x0, x1}
use Rattle.qm_math.proofs.Totals.{total_of_den}
use Rattle.qm_model.specs.declared.row.Term.{Term}
use Rattle.qm_model.specs.Linear.{coefficient}
use Rattle.qm_tableau.specs.Tables.{entry_of}
use Rattle.qm_tableau.proofs.Exactness.{entry_den}
use Rattle.qm_trees.specs.BoxPoints.{form_of}
use Rattle.qm_trees.proofs.CombinationSound.{form_of-combined, form_of-nothing}
use Rattle.qm_simplex.proofs.ClosingSums.{form_same, one_at, one_den, picked}
use Rattle.qm_simplex.proofs.PointValues.{form_den}

-- the coefficient with one term more
more_at : (k c : ℤ) (var n : ℕ) → IsSame (whole (if var == n then k +ℤ c else c)) (sum_of (product_of (whole k) (one_at var n)) (whole c))
more_at k c var n = by_test (var == n)
  where
    by_test : (b : Bool) → IsSame (whole (if b then k +ℤ c else c)) (sum_of (product_of (whole k) (if b then whole (pos 1) else whole (pos 0))) (whole c))
    by_test true =
        same_trans (whole (k +ℤ c)) (sum_of (whole k) (whole c)) (sum_of (product_of (whole k) (whole (pos 1))) (whole c)) (sum_of_den (whole k) (whole c) (whole_den k) (whole_den c))
        (same_sym (sum_of (whole k) (whole c)) (whole (k +ℤ c)) (sum_of-whole k c)) (same_by_ring (whole k ∷ whole c ∷ []) (x0 ⊕ x1) (x0 ⊗ number (pos 1) ⊕ x1) refl)
    by_test false = same_by_ring (whole k ∷ whole c ∷ []) x1 (x0 ⊗ number (pos 0) ⊕ x1) refl

-- what the terms come to
abbrev pub terms_at : List Fraction → List Term → Fraction
terms_at xs ts = total_of (λ t. product_of (whole t.coef) (entry_of xs t.var)) ts

module _ (xs : List Fraction) (dens : All HasPositiveDen xs) where
  pub term_den : (t : Term) → 0 < (product_of (whole t.coef) (entry_of xs t.var)).den
  term_den t = product_of_den (whole t.coef) (entry_of xs t.var) (whole_den t.coef) (entry_den xs t.var dens)

  pub terms_den : (ts : List Term) → 0 < (terms_at xs ts).den
  terms_den ts = total_of_den (λ t. product_of (whole t.coef) (entry_of xs t.var)) ts (λ k d h. term_den _)

  pub form_of-terms : (ts : List Term) → IsSame (form_of (λ n. whole (coefficient ts n)) 0 xs) (terms_at xs ts)
  form_of-terms [] = form_of-nothing 0 xs
  form_of-terms (t ∷ ts) =
      let k = whole t.coef in
      let g : ℕ → Fraction = λ n. whole (coefficient ts n) in
      let both : ℕ → Fraction = λ n. sum_of (product_of k (one_at t.var n)) (g n) in
      let one = form_of (one_at t.var) 0 xs in
      let rest = form_of g 0 xs in
      let g_den : (n : ℕ) → 0 < (g n).den = λ n. whole_den (coefficient ts n) in
      let both_den : (n : ℕ) → 0 < (both n).den =
      λ n. sum_of_den (product_of k (one_at t.var n)) (g n) (product_of_den k (one_at t.var n) (whole_den t.coef) (one_den t.var n)) (g_den n) in
      let one_form_den = form_den (one_at t.var) 0 xs (one_den t.var) dens in
      let sum_den = sum_of_den (product_of k one) rest (product_of_den k one (whole_den t.coef) one_form_den) (form_den g 0 xs g_den dens) in
      same_trans (form_of (λ n. whole (coefficient (t ∷ ts) n)) 0 xs) (form_of both 0 xs) (terms_at xs (t ∷ ts)) (form_den both 0 xs both_den dens)
      (form_same (λ n. whole (coefficient (t ∷ ts) n)) both 0 xs (λ n. more_at t.coef (coefficient ts n) t.var n))
      (same_trans (form_of both 0 xs) (sum_of (product_of k one) rest) (terms_at xs (t ∷ ts)) sum_den
      (form_of-combined k (one_at t.var) g 0 xs)
      (sum_of-same (product_of k one) rest (product_of k (entry_of xs t.var)) (terms_at xs ts)
      (product_of-same k one k (entry_of xs t.var) (same_refl k) (picked t.var xs dens)) (form_of-terms ts)))
