-- Uncertainty rows at the values of a universal play: their variables are whole, and no value is farther from 0 than bounds.
use Rattle.std.proofs.Common.{◌≡◌, ℕ, zero, suc, ◌≤◌, ◌^◌, Bool, true, false, List, [], ◌∷◌, length, take, filter, get_or, All, refl, arith, ℤ}
use Rattle.std.specs.Prelude.{◌&&◌, int_le}
use Rattle.std.proofs.lemmas.Bool.{and_parts}
use Rattle.std.proofs.lemmas.Int.{ints}
use Rattle.std.proofs.lemmas.List.{length-take}
use Rattle.qm_math.proofs.WholeTests.{le_of_test}
use Rattle.qm_model.specs.declared.variable.Var.{Var}
use Rattle.qm_model.specs.declared.game.Problem.{Problem}
use Rattle.qm_model.specs.Legal.{begin_within}
use Rattle.qm_model.specs.Linear.{HasVarsBelow}
use Rattle.qm_model.specs.Plays.{is_universal, spread, universal_vars, whole_vars}
use Rattle.qm_model.specs.Sizes.{reach_in_values, reach_in_vars, row_size}
use Rattle.qm_model.specs.Sound.{IsSound}
use Rattle.qm_model.proofs.Sizes.{ReachesNoFarther, one_le_reach, rows_size_le}
use Rattle.qm_model.proofs.UncertaintyRows.{length-spread, universal_is_whole}

spread_reaches : (n : ℕ) (xs : List Var) (us : List ℤ) → begin_within (filter is_universal (take n xs)) us ≡ true → ReachesNoFarther (reach_in_values (spread (take n xs) us)) (reach_in_vars xs)
spread_reaches zero xs us within var = one_le_reach xs var
spread_reaches (suc n) [] us within var = one_le_reach [] var
spread_reaches (suc n) (x ∷ xs) [] within zero = omega arith
spread_reaches (suc n) (x ∷ xs) [] within (suc var) = spread_reaches n xs [] refl var
spread_reaches (suc n) (x ∷ xs) (u ∷ us) within var = by (is_universal x) refl (λ vs w i. spread_reaches n xs vs w i) var
  where
    by : (b : Bool) → is_universal x ≡ b → ((vs : List ℤ) → begin_within (filter is_universal (take n xs)) vs ≡ true → ReachesNoFarther (reach_in_values (spread (take n xs) vs)) (reach_in_vars xs))
        → ReachesNoFarther (reach_in_values (spread (x ∷ take n xs) (u ∷ us))) (reach_in_vars (x ∷ xs))
    by true e others zero =
        let all : (int_le x.low u && int_le u x.high && begin_within (filter is_universal (take n xs)) us) ≡ true = rw e at within in
        let ends = and_parts (int_le x.low u && int_le u x.high) (begin_within (filter is_universal (take n xs)) us) all in
        let both = and_parts (int_le x.low u) (int_le u x.high) ends.0 in
        rw e (omega (arith, ints, le_of_test x.low u both.0, le_of_test u x.high both.1))
    by true e others (suc var) =
        let all : (int_le x.low u && int_le u x.high && begin_within (filter is_universal (take n xs)) us) ≡ true = rw e at within in
        let ends = and_parts (int_le x.low u && int_le u x.high) (begin_within (filter is_universal (take n xs)) us) all in
        rw e (others us ends.1 var)
    by false e others zero = rw e (omega arith)
    by false e others (suc var) = let more : begin_within (filter is_universal (take n xs)) (u ∷ us) ≡ true = rw e at within in rw e (others (u ∷ us) more var)

module _ (P : Problem) (us : List ℤ) (sound : IsSound P) where
  pub play_vars_below : All (λ row. HasVarsBelow (length (spread (whole_vars P) us)) row.terms) P.urows
  play_vars_below k d h i e j =
      omega (
        arith,
        universal_is_whole P.wholes P.vars (get_or (get_or P.urows k d).terms i e).var sound.continuous_last (sound.urows_universal k d h i e j),
        length-spread (whole_vars P) us,
        length-take P.wholes P.vars,
        sound.wholes,
      )

  pub play_rows_small : begin_within (universal_vars P) us ≡ true → All (λ row. row_size (reach_in_values (spread (whole_vars P) us)) row ≤ 2 ^ 126) P.urows
  play_rows_small within = rows_size_le P.vars P.urows (reach_in_values (spread (whole_vars P) us)) sound.urows (spread_reaches P.wholes P.vars us within)
