-- The prefix that a box of the search has: it is within bounds, the box is the one of it, and it is legal where its
-- universal values can be completed.
use Rattle.std.proofs.Common.{◌≡◌, ℕ, zero, suc, ◌<◌, ◌≤◌, Bool, true, false, List, [], ◌∷◌, ◌++◌, length, map, take, drop, All, arith, refl, sym, ap, subst, ◌∙◌, ℤ, if◌then◌else◌}
use Rattle.std.proofs.lemmas.Int.{ints}
use Rattle.std.proofs.lemmas.List.{length-map, length-take, take-append-drop, take-map, take-take}
use Rattle.std.proofs.lemmas.List.Elements.{All-head, All-tail}
use Rattle.qm_model.specs.declared.range.Range.{Range}
use Rattle.qm_model.specs.declared.variable.Var.{Var}
use Rattle.qm_model.specs.declared.game.Problem.{Problem}
use Rattle.qm_model.specs.Boxes.{IsBox, whole_box_of}
use Rattle.qm_model.specs.Legal.{IsLegal, IsPrefix, universal_part}
use Rattle.qm_model.specs.Plays.{BeginWithin, IsPlay, is_universal, whole_vars}
use Rattle.qm_model.specs.Ranges.{single}
use Rattle.qm_model.proofs.BoxLaws.{IsBox-length}
use Rattle.qm_model.proofs.Legality.{legal_of_play}
use Rattle.qm_journal.specs.Lawful as journal
use Rattle.qm_legal.specs.Queries.{low_of, set_values}
use Rattle.qm_simplex.specs.RightLeaves.{AllShorter, prefix_box}
use Rattle.qm_search.specs.Entering.{IsEnterable}
use Rattle.qm_search.specs.PlaceSteps.{AreEntered, Completes, IsSearchBox, IsSingle, prefix_before}

-- a range of one value is that of its low end
single_is : (r : Range) → IsSingle r → single r.low ≡ r
single_is r one = ap (λ (h : ℤ). let s : Range = record { low = r.low; high = h } in s) one

-- ranges of one value are those of their values
singles_are : (rs : List Range) → All IsSingle rs → map single (map low_of rs) ≡ rs
singles_are [] ones = refl
singles_are (r ∷ rs) ones =
    ap (λ (s : Range). s ∷ map single (map low_of rs)) (single_is r (All-head IsSingle r rs ones)) ∙ ap (λ ss. r ∷ ss) (singles_are rs (All-tail IsSingle r rs ones))

-- values of such ranges are within the bounds
singles_within : (n m : ℕ) (vars : List Var) (bx : List Range) → n ≤ m → IsBox vars bx → All IsSingle (take n bx) → BeginWithin (take m vars) (map low_of (take n bx))
singles_within zero m vars bx less box ones = tt
singles_within (suc n) zero vars bx less box ones = absurd (omega (arith, less))
singles_within (suc n) (suc m) [] [] less box ones = tt
singles_within (suc n) (suc m) [] (r ∷ bx) less box ones = absurd box
singles_within (suc n) (suc m) (x ∷ vars) [] less box ones = absurd box
singles_within (suc n) (suc m) (x ∷ vars) (r ∷ bx) less box ones =
    let one : r.low ≡ r.high = All-head IsSingle r (take n bx) ones in
    ((box.0.low, omega (arith, ints, one, box.0.high)), singles_within n m vars bx (omega (arith, less)) box.1 (All-tail IsSingle r (take n bx) ones))

-- a box that begins with such ranges, and goes on with the variables' bounds, is that of their values
singles_played : (n : ℕ) (vars : List Var) (bx : List Range) → IsBox vars bx → All IsSingle (take n bx) → drop n bx ≡ whole_box_of (drop n vars)
    → journal.prefix_box vars (map low_of (take n bx)) ≡ bx
singles_played zero vars bx box ones others = sym others
singles_played (suc n) [] [] box ones others = refl
singles_played (suc n) [] (r ∷ bx) box ones others = absurd box
singles_played (suc n) (x ∷ vars) [] box ones others = absurd box
singles_played (suc n) (x ∷ vars) (r ∷ bx) box ones others =
    ap (λ (s : Range). s ∷ journal.prefix_box vars (map low_of (take n bx))) (single_is r (All-head IsSingle r (take n bx) ones))
    ∙ ap (λ rs. r ∷ rs) (singles_played n vars bx box.1 (All-tail IsSingle r (take n bx) ones) others)

-- the universal part of the first values is that of the first variables
part_of_first : (n : ℕ) (xs : List Var) (vs : List ℤ) → universal_part xs (take n vs) ≡ universal_part (take n xs) vs
part_of_first zero [] vs = refl
part_of_first zero (x ∷ xs) vs = refl
part_of_first (suc n) [] vs = refl
part_of_first (suc n) (x ∷ xs) [] = refl
part_of_first (suc n) (x ∷ xs) (v ∷ vs) = by_player (is_universal x) (part_of_first n xs vs)
  where
    by_player : (b : Bool) → universal_part xs (take n vs) ≡ universal_part (take n xs) vs
        → (if b then v ∷ universal_part xs (take n vs) else universal_part xs (take n vs)) ≡ (if b then v ∷ universal_part (take n xs) vs else universal_part (take n xs) vs)
    by_player true e = ap (λ us. v ∷ us) e
    by_player false e = e

-- a shorter prefix of the box is the prefix's beginning
take_before : (n depth : ℕ) (bx : List Range) → n ≤ depth → take n (prefix_before depth bx) ≡ prefix_before n bx
take_before n depth bx less = take-map low_of n (take depth bx) ∙ ap (map low_of) (take-take n depth bx less)

module _ (P : Problem) (depth : ℕ) (bx : List Range) (here : IsSearchBox P depth bx) where
  pub prefix_long : length (prefix_before depth bx) ≡ depth
  prefix_long = omega (arith, length-map (take depth bx) low_of, length-take depth bx, IsBox-length P.vars bx here.box, here.shallow, here.sound.wholes)

  pub prefix_within : IsPrefix P (prefix_before depth bx)
  prefix_within = singles_within depth P.wholes P.vars bx here.shallow here.box here.set

  -- the box is that of its prefix
  pub box_is : prefix_box P (prefix_before depth bx) ≡ bx
  box_is =
      ap (λ rs. rs ++ whole_box_of (drop (length (prefix_before depth bx)) P.vars)) (singles_are (take depth bx) here.set)
      ∙ ap (λ (n : ℕ). take depth bx ++ whole_box_of (drop n P.vars)) prefix_long
      ∙ ap (λ rs. take depth bx ++ rs) (sym here.others)
      ∙ take-append-drop depth bx

  -- the journal's too
  pub journal_box_is : journal.prefix_box P.vars (prefix_before depth bx) ≡ bx
  journal_box_is = singles_played depth P.vars bx here.box here.set here.others

  -- its universal values are those that are set
  pub values_are : universal_part (whole_vars P) (prefix_before depth bx) ≡ set_values P depth bx
  values_are = ap (universal_part (whole_vars P)) (sym (take-map low_of depth bx)) ∙ part_of_first depth (whole_vars P) (map low_of bx)

  pub legal_at : (completion : List ℤ) → Completes P depth bx completion → IsLegal P (prefix_before depth bx)
  legal_at completion play =
      legal_of_play P (prefix_before depth bx) (record { rest = completion; is_play = subst (λ us. IsPlay P (us ++ completion)) (sym values_are) play })

  -- where each shorter prefix of the box may be entered, each on the way to the box's may be
  pub all_shorter : AreEntered P depth bx → AllShorter (IsEnterable P) (prefix_before depth bx)
  all_shorter entered n some less =
      let below : n < depth = omega (arith, less, prefix_long) in
      subst (IsEnterable P) (sym (take_before n depth bx (omega (arith, below)))) (entered n some below)
