-- Completions: values of the later universal variables that make a play with those that are set.
use Rattle.std.proofs.Common.{◌≡◌, ℕ, zero, suc, ◌+◌, ◌<◌, ◌≤◌, Bool, true, false, List, [], ◌∷◌, ◌++◌, length, map, take, drop, set, All, arith, refl, sym, ap, subst, ◌∙◌, append-nil, append_assoc, ℤ, inl, inr}
use Rattle.std.specs.Prelude.{filter, ◌⊎◌, if◌then◌else◌}
use Rattle.std.proofs.lemmas.List.{length-map}
use Rattle.std.proofs.lemmas.List.Elements.{All-nil}
use Rattle.qm_math.specs.Ranges.{IsBetween}
use Rattle.qm_model.specs.declared.range.Range.{Range}
use Rattle.qm_model.specs.declared.variable.Player.TheVariants.{Exists, All as Universal}
use Rattle.qm_model.specs.declared.variable.Var.{Var}
use Rattle.qm_model.specs.declared.game.Problem.{Problem}
use Rattle.qm_model.specs.Legal.{universal_part}
use Rattle.qm_model.specs.Plays.{AreWithin, BeginWithin, HoldsAt, IsPlay, IsWithin, is_universal, spread, universal_vars, whole_vars}
use Rattle.qm_model.proofs.Legality.{both_within, parts_within}
use Rattle.qm_model.proofs.Players.{is_for_all, not_universal}
use Rattle.qm_model.specs.Ranges.{range_at, single}
use Rattle.qm_legal.specs.SearchSteps.{SetsNext}
use Rattle.qm_legal.specs.Queries.{low_of, set_values}
use Rattle.qm_search.specs.PlaceSteps.{Completes, IsSearchBox, IsSearchPlace, next_value}
use Rattle.qm_search.proofs.SearchBoxes.{below, range_is, within_bounds}

-- ---- the universal values of the first variables

-- a value more, which counts where its variable is universal
values_push : (xs : List Var) (n : ℕ) (bx : List Range) (x : Var) (later : List Var) (v : ℤ) → drop n xs ≡ x ∷ later → n < length bx
    → universal_part (take (suc n) xs) (map low_of (set bx n (single v))) ≡ universal_part (take n xs) (map low_of bx) ++ (if is_universal x then v ∷ [] else [])
values_push [] zero bx x later v e below = cc
values_push [] (suc n) bx x later v e below = cc
values_push (y ∷ xs) n [] x later v e below = absurd (omega (arith, below))
values_push (y ∷ xs) zero (r ∷ bx) x later v e below = let same : y ≡ x = cc in rw same refl
values_push (y ∷ xs) (suc n) (r ∷ bx) x later v e below = by (is_universal y) (values_push xs n bx x later v e (omega (arith, below)))
  where
    more : List ℤ
    more = if is_universal x then v ∷ [] else []

    by : (b : Bool) → universal_part (take (suc n) xs) (map low_of (set bx n (single v))) ≡ universal_part (take n xs) (map low_of bx) ++ more
        → (if b then r.low ∷ universal_part (take (suc n) xs) (map low_of (set bx n (single v))) else universal_part (take (suc n) xs) (map low_of (set bx n (single v))))
        ≡ (if b then r.low ∷ universal_part (take n xs) (map low_of bx) else universal_part (take n xs) (map low_of bx)) ++ more
    by true h = ap (λ us. r.low ∷ us) h
    by false h = h

-- the universal variables behind them
values_rest : (xs : List Var) (n : ℕ) (vs : List ℤ) → n ≤ length vs → drop (length (universal_part (take n xs) vs)) (filter is_universal xs) ≡ filter is_universal (drop n xs)
values_rest xs zero vs long = refl
values_rest [] (suc n) vs long = none (length (universal_part [] vs))
  where
    none : (m : ℕ) → (let xs : List Var = [] in drop m xs) ≡ []
    none zero = refl
    none (suc m) = refl
values_rest (x ∷ xs) (suc n) [] long = absurd (omega (arith, long))
values_rest (x ∷ xs) (suc n) (v ∷ vs) long = by (is_universal x) (values_rest xs n vs (omega (arith, long)))
  where
    by : (b : Bool) → drop (length (universal_part (take n xs) vs)) (filter is_universal xs) ≡ filter is_universal (drop n xs)
        → drop (length (if b then v ∷ universal_part (take n xs) vs else universal_part (take n xs) vs)) (if b then x ∷ filter is_universal xs else filter is_universal xs) ≡ filter is_universal (drop n xs)
    by true h = h
    by false h = h

-- ---- completions at a box

-- a completion at a universal variable begins with a value of it
record Begins (x : Var) (later : List Var) (completion : List ℤ) : Type 0 where
  pub some : 0 < length completion
  pub is : completion ≡ next_value completion ∷ drop 1 completion
  pub within : IsWithin x (next_value completion)
  pub others : AreWithin (filter is_universal later) (drop 1 completion)

begins : (x : Var) (later : List Var) (completion : List ℤ) → AreWithin (x ∷ filter is_universal later) completion → Begins x later completion
begins x later [] within = absurd within
begins x later (u ∷ us) within = record { some = omega arith; is = refl; within = within.0; others = within.1 }

module _ (P : Problem) (rest : List Var) (depth : ℕ) (bx : List Range) (from_depth : rest ≡ drop depth (whole_vars P)) (long : depth ≤ length bx) (completion : List ℤ) (completes : Completes P depth bx completion) where
  universal_rest : drop (length (set_values P depth bx)) (universal_vars P) ≡ filter is_universal rest
  universal_rest =
      values_rest (whole_vars P) depth (map low_of bx) (omega (arith, long, length-map bx low_of)) ∙ ap (filter is_universal) (sym from_depth)

  values_within : BeginWithin (universal_vars P) (set_values P depth bx) × AreWithin (drop (length (set_values P depth bx)) (universal_vars P)) completion
  values_within = parts_within (universal_vars P) (set_values P depth bx) completion completes.within

  -- the values of a completion are within the bounds
  pub completion_within : AreWithin (filter is_universal rest) completion
  completion_within = subst (λ xs. AreWithin xs completion) universal_rest values_within.1

module _ (P : Problem) (x : Var) (later : List Var) (depth : ℕ) (bx : List Range) (from_depth : x ∷ later ≡ drop depth (whole_vars P)) (here : IsSearchBox P depth bx) where
  first : depth < length bx
  first = below P x later depth bx from_depth here

  set_values-more : (v : ℤ) → set_values P (depth + 1) (set bx depth (single v)) ≡ set_values P depth bx ++ (if is_universal x then v ∷ [] else [])
  set_values-more v =
      let one : depth + 1 ≡ suc depth = omega arith in
      rw one (values_push (whole_vars P) depth bx x later v (sym from_depth) first)

  -- an existential variable's value leaves each completion one
  completes_existential : (v : ℤ) (completion : List ℤ) → x.player ≡ Exists → Completes P depth bx completion → Completes P (depth + 1) (set bx depth (single v)) completion
  completes_existential v completion player completes =
      let values = set_values-more v ∙ ap (λ (b : Bool). set_values P depth bx ++ (if b then v ∷ [] else [])) (not_universal x player) ∙ append-nil (set_values P depth bx) in
      subst (λ us. IsPlay P (us ++ completion)) (sym values) completes

  module _ (player : x.player ≡ Universal) where
    -- a universal variable's value stands before the others
    pub values_before : (v : ℤ) (others : List ℤ) → set_values P depth bx ++ v ∷ others ≡ set_values P (depth + 1) (set bx depth (single v)) ++ others
    values_before v others =
        let values = set_values-more v ∙ ap (λ (b : Bool). set_values P depth bx ++ (if b then v ∷ [] else [])) (is_for_all x player) in
        sym (append_assoc (set_values P depth bx) (v ∷ []) others) ∙ ap (λ us. us ++ others) (sym values)

    module _ (completion : List ℤ) (completes : Completes P depth bx completion) where
      begins_of : Begins x later completion
      begins_of =
          let within = completion_within P (x ∷ later) depth bx from_depth (omega (arith, first)) completion completes in
          begins x later completion (subst (λ (b : Bool). AreWithin (if b then x ∷ filter is_universal later else filter is_universal later) completion) (is_for_all x player) within)

      -- the first value is legal, and the others complete it
      completes_first : (v : ℤ) → v ≡ next_value completion → Completes P (depth + 1) (set bx depth (single v)) (drop 1 completion)
      completes_first v e =
          let whole : completion ≡ v ∷ drop 1 completion = subst (λ u. completion ≡ u ∷ drop 1 completion) (sym e) begins_of.is in
          subst (IsPlay P) (ap (λ us. set_values P depth bx ++ us) whole ∙ values_before v (drop 1 completion)) completes

      -- so are all values where no uncertainty row is there
      completes_free : (v : ℤ) → P.urows ≡ [] → IsWithin x v → Completes P (depth + 1) (set bx depth (single v)) (drop 1 completion)
      completes_free v none within =
          let long : depth ≤ length bx = omega (arith, first) in
          let us = set_values P depth bx in
          let rest : drop (length us) (universal_vars P) ≡ x ∷ filter is_universal later =
          universal_rest P (x ∷ later) depth bx from_depth long completion completes ∙ ap (λ (b : Bool). if b then x ∷ filter is_universal later else filter is_universal later) (is_for_all x player) in
          let firsts = (values_within P (x ∷ later) depth bx from_depth long completion completes).0 in
          let lasts : AreWithin (drop (length us) (universal_vars P)) (v ∷ drop 1 completion) = subst (λ xs. AreWithin xs (v ∷ drop 1 completion)) (sym rest) (within, begins_of.others) in
          let play : IsPlay P (us ++ v ∷ drop 1 completion) = record {
            within = both_within (universal_vars P) us (v ∷ drop 1 completion) firsts lasts;
            rows = subst (All (HoldsAt (spread (whole_vars P) (us ++ v ∷ drop 1 completion)))) (sym none) (All-nil (HoldsAt (spread (whole_vars P) (us ++ v ∷ drop 1 completion))));
          } in
          subst (IsPlay P) (values_before v (drop 1 completion)) play

      -- a value that goes on as the completion does
      completes_known : (v : ℤ) → IsWithin x v → ((P.urows ≡ []) ⊎ (v ≡ next_value completion)) → Completes P (depth + 1) (set bx depth (single v)) (drop 1 completion)
      completes_known v within (inl none) = completes_free v none within
      completes_known v within (inr first) = completes_first v first

-- ---- values of the next variable

-- the completion's value of the next variable lies in its range
pub record BeginsInRange (depth : ℕ) (bx : List Range) (completion : List ℤ) : Type 0 where
  pub some : 0 < length completion
  pub within : IsBetween (range_at bx depth).low (range_at bx depth).high (next_value completion)

pub begins_here : {P : Problem} {depth : ℕ} {bx : List Range} {completion : List ℤ} (rest : List Var) → rest ≡ drop depth (whole_vars P) → SetsNext Universal rest → IsSearchPlace P depth bx completion
    → BeginsInRange depth bx completion
begins_here [] from_depth player place = absurd player
begins_here {P} {depth} {bx} {completion} (x ∷ later) from_depth player place =
    let first = begins_of P x later depth bx from_depth place.box player completion place.completes in
    record { some = first.some; within = rw (range_is P x later depth bx from_depth place.box) first.within }

-- a value of an existential variable leaves a completion one
pub completes_choice : {P : Problem} {depth : ℕ} {bx : List Range} {completion : List ℤ} (rest : List Var) → rest ≡ drop depth (whole_vars P) → SetsNext Exists rest → IsSearchPlace P depth bx completion
    → (v : ℤ) → Completes P (depth + 1) (set bx depth (single v)) completion
completes_choice [] from_depth player place v = absurd player
completes_choice {P} {depth} {bx} {completion} (x ∷ later) from_depth player place v = completes_existential P x later depth bx from_depth place.box v completion player place.completes

-- a value of a universal variable that goes on as the completion does
pub completes_answer : {P : Problem} {depth : ℕ} {bx : List Range} {completion : List ℤ} (rest : List Var) → rest ≡ drop depth (whole_vars P) → SetsNext Universal rest → IsSearchPlace P depth bx completion
    → (v : ℤ) → IsBetween (range_at bx depth).low (range_at bx depth).high v → ((P.urows ≡ []) ⊎ (v ≡ next_value completion)) → Completes P (depth + 1) (set bx depth (single v)) (drop 1 completion)
completes_answer [] from_depth player place v within known = absurd player
completes_answer {P} {depth} {bx} {completion} (x ∷ later) from_depth player place v within known =
    completes_known P x later depth bx from_depth place.box player completion place.completes v (within_bounds P x later depth bx from_depth place.box v within) known
