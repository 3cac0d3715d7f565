-- Boxes in which the first variables have values.
use Rattle.std.proofs.Common.{◌≡◌, ◌↔◌, arith, ◌∙◌, sym, refl, ap, subst, ℕ, zero, suc, ◌≤◌, if◌then◌else◌, List, [], ◌∷◌, ◌++◌, length, take, drop, map, ℤ}
use Rattle.std.proofs.lemmas.Int.{ints}
use Rattle.std.proofs.lemmas.List.{append-nil, length-take}
use Rattle.qm_model.specs.declared.range.Range.{Range}
use Rattle.qm_model.specs.declared.variable.Var.{Var}
use Rattle.qm_model.specs.Boxes.{IsBox, IsInside, bounds_of, whole_box_of}
use Rattle.qm_model.specs.declared.game.Problem.{Problem}
use Rattle.qm_model.specs.Legal.{IsLegal, IsPrefix, universal_part}
use Rattle.qm_model.specs.Plays.{BeginWithin, IsWithin, is_universal, whole_vars}
use Rattle.qm_model.specs.Ranges.{single}
use Rattle.qm_model.proofs.BoxLaws.{whole_box_is_box}
use Rattle.qm_model.proofs.LegalMoves.{BeginWithin-long, universal_part-none}
use Rattle.qm_legal.specs.Queries.{AreFree, AreSet, IsCompletion, IsExact, IsQuery, IsQueryOf, low_of, set_values}
use Rattle.qm_legal.specs.declared.legality.Legality.{Legality}
use Rattle.qm_legal.proofs.Boxes.{between_inside}
use Rattle.qm_journal.specs.Lawful.{prefix_box}

inside_single : (x : Var) (v : ℤ) → IsWithin x v → IsInside (single v) (bounds_of x)
inside_single x v h = between_inside (bounds_of x) (single v) h.0 (omega (arith, ints)) h.1

pub prefix_box-is_box : (n : ℕ) (xs : List Var) (vs : List ℤ) → BeginWithin (take n xs) vs → IsBox xs (prefix_box xs vs)
prefix_box-is_box n xs [] h = whole_box_is_box xs
prefix_box-is_box zero [] (v ∷ vs) h = absurd h
prefix_box-is_box zero (x ∷ xs) (v ∷ vs) h = absurd h
prefix_box-is_box (suc n) [] (v ∷ vs) h = absurd h
prefix_box-is_box (suc n) (x ∷ xs) (v ∷ vs) h = (inside_single x v h.0, prefix_box-is_box n xs vs h.1)

-- no variable has a value
nothing_set : (vs : List ℤ) → prefix_box [] vs ≡ []
nothing_set [] = refl
nothing_set (v ∷ vs) = refl

pub no_variable : (xs : List Var) (vs : List ℤ) (bx : List Range) → length xs ≡ 0 → bx ≡ bx ++ prefix_box xs vs
no_variable [] vs bx none = rw (nothing_set vs, append-nil bx) refl
no_variable (x ∷ xs) vs bx none = absurd (omega (arith, none))

-- ---- the box of a prefix as a query's

pub prefix_box-set : (n : ℕ) (xs : List Var) (vs : List ℤ) → AreSet (take (length vs) (take n xs)) (prefix_box xs vs)
prefix_box-set n xs [] = tt
prefix_box-set zero [] (v ∷ vs) = tt
prefix_box-set zero (x ∷ xs) (v ∷ vs) = tt
prefix_box-set (suc n) [] (v ∷ vs) = tt
prefix_box-set (suc n) (x ∷ xs) (v ∷ vs) = (λ player. refl, prefix_box-set n xs vs)

whole_box-free : (n : ℕ) (xs : List Var) → AreFree (take n xs) (whole_box_of xs)
whole_box-free zero [] = tt
whole_box-free zero (x ∷ xs) = tt
whole_box-free (suc n) [] = tt
whole_box-free (suc n) (x ∷ xs) = (λ player. refl, whole_box-free n xs)

pub prefix_box-free : (n : ℕ) (xs : List Var) (vs : List ℤ) → AreFree (drop (length vs) (take n xs)) (drop (length vs) (prefix_box xs vs))
prefix_box-free n xs [] = whole_box-free n xs
prefix_box-free zero [] (v ∷ vs) = tt
prefix_box-free zero (x ∷ xs) (v ∷ vs) = tt
prefix_box-free (suc n) [] (v ∷ vs) = tt
prefix_box-free (suc n) (x ∷ xs) (v ∷ vs) = prefix_box-free n xs vs

pub prefix_box-values : (n : ℕ) (xs : List Var) (vs : List ℤ) → BeginWithin (take n xs) vs → universal_part (take n xs) vs ≡ universal_part (take (length vs) (take n xs)) (map low_of (prefix_box xs vs))
prefix_box-values n xs [] h = universal_part-none (take n xs)
prefix_box-values zero [] (v ∷ vs) h = absurd h
prefix_box-values zero (x ∷ xs) (v ∷ vs) h = absurd h
prefix_box-values (suc n) [] (v ∷ vs) h = absurd h
prefix_box-values (suc n) (x ∷ xs) (v ∷ vs) h =
    ap (λ us. if is_universal x then v ∷ us else us) (prefix_box-values n xs vs h.1)

pub prefix_box_query : (P : Problem) (prefix : List ℤ) (bx : List Range) → IsPrefix P prefix → bx ≡ prefix_box P.vars prefix → IsQuery P (length prefix) bx
prefix_box_query P prefix bx within e =
    subst (λ b. IsQuery P (length prefix) b) (sym e)
    (record {
      depth_in = omega (arith, BeginWithin-long (whole_vars P) prefix within, length-take P.wholes P.vars);
      box = prefix_box-is_box P.wholes P.vars prefix within;
      set = prefix_box-set P.wholes P.vars prefix;
      free = prefix_box-free P.wholes P.vars prefix;
    })

pub prefix_box_legal : (P : Problem) (prefix : List ℤ) (bx : List Range) (legality : Legality) → IsPrefix P prefix → bx ≡ prefix_box P.vars prefix
    → IsExact P (length prefix) bx legality → IsCompletion legality ↔ IsLegal P prefix
prefix_box_legal P prefix bx legality within e exact =
    exact prefix (prefix_box-values P.wholes P.vars prefix within ∙ ap (λ b. set_values P (length prefix) b) (sym e))

-- the universal values of a prefix box are those of the prefix, so it may be asked about
pub prefix_box_asked : (P : Problem) (prefix : List ℤ) (bx : List Range) → IsPrefix P prefix → bx ≡ prefix_box P.vars prefix → IsQueryOf P prefix bx
prefix_box_asked P prefix bx within e = record {
  query = prefix_box_query P prefix bx within e;
  values = ap (λ b. set_values P (length prefix) b) e ∙ sym (prefix_box-values P.wholes P.vars prefix within);
}
