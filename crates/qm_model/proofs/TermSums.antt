-- A loop that sums what each term gives: its values, its sizes, and that nothing overflows 128 bits.
use Rattle.std.proofs.Common.{◌≡◌, ℕ, ◌+◌, ◌*◌, ◌-◌, ◌<◌, ◌≤◌, ◌^◌, List, length, drop, get_or, arith, ap, ◌∙◌, unsigned_abs, ℤ, pos, ◌+ℤ◌}
use Rattle.std.proofs.lemmas.Int.{ints, fits_signed_from_abs}
use Rattle.std.proofs.lemmas.List.{at_drop_more}
use Rattle.std.proofs.lemmas.List.Sums.{sum_by-cons}
use Rattle.std.proofs.lemmas.Option.{slice_get-get_or}
use Rattle.std.specs.Option.{option_map_or}
use mir.Syntax.{w128}
use mir.Val.{SFits}
use Rattle.qm_model.specs.declared.row.Term.{Term}
use Rattle.qm_model.specs.Linear.{IsOrdered, HasVarsBelow, sum_over}
use Rattle.qm_model.specs.Sizes.{reach_at, terms_size}
use Rattle.qm_model.proofs.Forms.{sum_of_terms, sum_over-sum_of_terms}

abbrev pub term_at : List Term → ℕ → Term
term_at ts i = get_or ts i (record { var = 0; coef = pos 0 })

-- f gives what a coefficient comes to with a variable's part, d is any part, and bound says how far a part reaches
module _ {A : Type 0} (f : ℤ → A → ℤ) (d : A) (bound : A → ℕ) where
  -- the sum over the terms, each with its variable's part
  abbrev pub sum_at : List Term → List A → ℤ
  sum_at ts parts = sum_of_terms f d ts 0 parts

  abbrev pub part_of : List A → Term → A
  part_of parts t = get_or parts t.var d

  -- the sizes of the terms from i on
  pub terms_size_more : (ts : List Term) (parts : List A) (i : ℕ) → i < length ts → HasVarsBelow (length parts) ts
      → terms_size (reach_at bound parts) (drop i ts)
      ≡ unsigned_abs (term_at ts i).coef * bound (part_of parts (term_at ts i)) + terms_size (reach_at bound parts) (drop (i + 1) ts)
  terms_size_more ts parts i h below =
      let e : Term = record { var = 0; coef = pos 0 } in
      at_drop_more (terms_size (reach_at bound parts)) ts i e h
      ∙ sum_by-cons (λ (t : Term). unsigned_abs t.coef * reach_at bound parts t.var) (get_or ts i e) (drop (i + 1) ts)
      ∙ ap (λ k. unsigned_abs (get_or ts i e).coef * option_map_or bound k 1 + terms_size (reach_at bound parts) (drop (i + 1) ts)) (slice_get-get_or parts (get_or ts i e).var d (below i e h))

  -- the sum of the terms from i on
  pub sum_at_more : (ts : List Term) (parts : List A) (i : ℕ) → i < length ts
      → sum_at (drop i ts) parts ≡ f (term_at ts i).coef (part_of parts (term_at ts i)) +ℤ sum_at (drop (i + 1) ts) parts
  sum_at_more ts parts i h =
      let e : Term = record { var = 0; coef = pos 0 } in
      let same : (get_or ts i e).var - 0 ≡ (get_or ts i e).var = omega arith in
      at_drop_more (λ xs. sum_at xs parts) ts i e h
      ∙ ap (λ k. f (get_or ts i e).coef (get_or parts k d) +ℤ sum_at (drop (i + 1) ts) parts) same

  -- the sum over all variables is the sum over the terms
  pub sum_over-sum_at : ((a : A) → f (pos 0) a ≡ pos 0) → (ts : List Term) (parts : List A) → IsOrdered ts → HasVarsBelow (length parts) ts
      → sum_over f ts 0 parts ≡ sum_at ts parts
  sum_over-sum_at none ts parts order below = sum_over-sum_of_terms f d none ts 0 parts order (λ k u h. omega (arith, below k u h))

  -- what one turn of the loop needs and keeps, where part is what the term at i gives
  pub record Turn (ts : List Term) (parts : List A) (i : ℕ) (sum part : ℤ) : Type 0 where
    pub fits : SFits w128 (sum +ℤ part)
    pub value : (sum +ℤ part) +ℤ sum_at (drop (i + 1) ts) parts ≡ sum_at ts parts
    pub size : unsigned_abs (sum +ℤ part) + terms_size (reach_at bound parts) (drop (i + 1) ts) ≤ terms_size (reach_at bound parts) ts

  pub turn : ((k : ℤ) (a : A) → unsigned_abs (f k a) ≤ unsigned_abs k * bound a)
      → (ts : List Term) (parts : List A) (i : ℕ) (sum part : ℤ)
      → i < length ts → HasVarsBelow (length parts) ts → terms_size (reach_at bound parts) ts ≤ 2 ^ 126
      → sum +ℤ sum_at (drop i ts) parts ≡ sum_at ts parts
      → unsigned_abs sum + terms_size (reach_at bound parts) (drop i ts) ≤ terms_size (reach_at bound parts) ts
      → part ≡ f (term_at ts i).coef (part_of parts (term_at ts i))
      → Turn ts parts i sum part
  turn within ts parts i sum part h below small value size is =
      let more = terms_size_more ts parts i h below in
      let here : unsigned_abs part ≤ unsigned_abs (term_at ts i).coef * bound (part_of parts (term_at ts i)) =
      rw is (within (term_at ts i).coef (part_of parts (term_at ts i))) in
      let both : unsigned_abs (sum +ℤ part) ≤ unsigned_abs sum + unsigned_abs part = omega (arith, ints) in
      record {
        fits = fits_signed_from_abs w128 (sum +ℤ part) (omega arith);
        value = omega (arith, ints, sum_at_more ts parts i h, is);
        size = omega arith;
      }
