-- How the search goes from box to box.
use Rattle.std.proofs.Common.{add-zero, ◌≡◌, ℕ, zero, suc, ◌+◌, ◌<◌, ◌≤◌, List, [], ◌∷◌, ◌++◌, length, get_or, drop, take, set, All, arith, refl, sym, ap, subst, ◌∙◌, ℤ, pos}
use Rattle.std.proofs.lemmas.List.{drop-append-le, drop-drop, drop-set-lt, drop-map, get_or-drop, length-drop, length-take, take-append-drop, take_all, take_more_set}
use Rattle.std.proofs.lemmas.List.Elements.{All-head, All-nil, All-push, All-tail}
use Rattle.qm_math.specs.Ranges.{IsBetween}
use Rattle.qm_model.specs.declared.range.Range.{Range}
use Rattle.qm_model.specs.declared.variable.Var.{Var}
use Rattle.qm_model.specs.declared.game.Problem.{Problem}
use Rattle.qm_model.specs.Boxes.{IsBox, bounds_of, whole_box_of}
use Rattle.qm_model.specs.Plays.{IsWithin, whole_vars}
use Rattle.qm_model.specs.Points.{continuous_vars}
use Rattle.qm_model.specs.Sound.{IsSound}
use Rattle.qm_model.proofs.BoxLaws.{IsBox-length, whole_box_is_box}
use Rattle.qm_model.specs.Ranges.{range_at, single}
use Rattle.qm_game.proofs.NextVariables.{next_in_box}
use Rattle.qm_legal.specs.Queries.{AreFree, AreSet, IsQuery}
use Rattle.qm_legal.proofs.Boxes.{one_inside, set_in_box}
use Rattle.qm_search.specs.PlaceSteps.{IsSearchBox, IsSingle}

-- behind the depth come the whole variables that are left, and then the continuous ones
pub later_vars : (P : Problem) (depth : ℕ) → IsSound P → depth ≤ P.wholes → drop depth P.vars ≡ drop depth (whole_vars P) ++ continuous_vars P
later_vars P depth sound shallow =
    ap (drop depth) (sym (take-append-drop P.wholes P.vars))
    ∙ drop-append-le depth (whole_vars P) (continuous_vars P) (omega (arith, shallow, sound.wholes, length-take P.wholes P.vars))

-- a value of a range in its place makes a box
pub box_at : (P : Problem) (bx : List Range) (depth : ℕ) (v : ℤ) → IsBox P.vars bx → IsBetween (range_at bx depth).low (range_at bx depth).high v → IsBox P.vars (set bx depth (single v))
box_at P bx depth v box within =
    set_in_box P.vars bx depth (single v) box (one_inside (range_at bx depth) (single v) (record { single = refl; low = within.0; high = within.1 }))

-- ---- the next variable

module _ (P : Problem) (x : Var) (later : List Var) (depth : ℕ) (bx : List Range) (from_depth : x ∷ later ≡ drop depth (whole_vars P)) (here : IsSearchBox P depth bx) where
  pub below : depth < length bx
  below = next_in_box P (x ∷ later) depth bx from_depth (omega arith) here.box

  vars_are : drop depth P.vars ≡ x ∷ (later ++ continuous_vars P)
  vars_are = later_vars P depth here.sound here.shallow ∙ ap (λ xs. xs ++ continuous_vars P) (sym from_depth)

  ranges_are : drop depth bx ≡ whole_box_of (x ∷ (later ++ continuous_vars P))
  ranges_are = here.others ∙ ap whole_box_of vars_are

  -- its range is its bounds
  pub range_is : range_at bx depth ≡ bounds_of x
  range_is =
      ap (λ i. range_at bx i) (sym (add-zero depth)) ∙ sym (get_or-drop depth bx 0 (single (pos 0))) ∙ ap (λ rs. get_or rs 0 (single (pos 0))) ranges_are

  -- so are those of the others
  pub later_ranges : drop (depth + 1) bx ≡ whole_box_of (later ++ continuous_vars P)
  later_ranges = sym (drop-drop 1 depth bx) ∙ ap (drop 1) ranges_are

  -- a value of its range is within its bounds
  pub within_bounds : (v : ℤ) → IsBetween (range_at bx depth).low (range_at bx depth).high v → IsWithin x v
  within_bounds v within = rw range_is at within

module _ (P : Problem) (rest : List Var) (depth : ℕ) (bx : List Range) (from_depth : rest ≡ drop depth (whole_vars P)) (some : 0 < length rest) (here : IsSearchBox P depth bx) where
  -- the next variable is one of the whole ones
  pub next_shallow : depth + 1 ≤ P.wholes
  next_shallow = omega (arith, some, ap length from_depth, length-drop depth (whole_vars P), length-take P.wholes P.vars)

  -- the box after the next variable is set
  pub next_box : (v : ℤ) → IsBetween (range_at bx depth).low (range_at bx depth).high v → IsSearchBox P (depth + 1) (set bx depth (single v))
  next_box v within =
      let first = next_in_box P rest depth bx from_depth some here.box in
      let others : drop (depth + 1) bx ≡ whole_box_of (drop (depth + 1) P.vars) =
      sym (drop-drop 1 depth bx) ∙ ap (drop 1) here.others ∙ drop-map bounds_of 1 (drop depth P.vars) ∙ ap whole_box_of (drop-drop 1 depth P.vars) in
      record {
        sound = here.sound;
        shallow = next_shallow;
        box = box_at P bx depth v here.box within;
        set = subst (All IsSingle) (sym (take_more_set bx depth (single v) first)) (All-push IsSingle (take depth bx) (single v) here.set refl);
        others = drop-set-lt (depth + 1) bx depth (single v) (omega arith) ∙ others;
      }

-- where no variable is continuous, all are set in the end
pub all_set : (P : Problem) (bx : List Range) → P.wholes ≡ length P.vars → IsSearchBox P P.wholes bx → All IsSingle bx
all_set P bx whole here = subst (All IsSingle) (take_all P.wholes bx (omega (arith, whole, IsBox-length P.vars bx here.box))) here.set

-- the whole box is the first
pub first_box : (P : Problem) → IsSound P → IsSearchBox P 0 (whole_box_of P.vars)
first_box P sound = record {
  sound = sound;
  shallow = omega arith;
  box = whole_box_is_box P.vars;
  set = All-nil IsSingle;
  others = refl;
}

-- ---- what may be asked of a box

sets : (xs : List Var) (n : ℕ) (bx : List Range) → length xs ≤ length bx → All IsSingle (take n bx) → AreSet (take n xs) bx
sets xs zero bx long single_ones = tt
sets [] (suc n) bx long single_ones = tt
sets (x ∷ xs) (suc n) [] long single_ones = absurd (omega (arith, long))
sets (x ∷ xs) (suc n) (r ∷ bx) long single_ones =
    ((λ universal. All-head IsSingle r (take n bx) single_ones), sets xs n bx (omega (arith, long)) (All-tail IsSingle r (take n bx) single_ones))

frees : (xs ys : List Var) → AreFree xs (whole_box_of (xs ++ ys))
frees [] ys = tt
frees (x ∷ xs) ys = ((λ universal. refl), frees xs ys)

pub query : (P : Problem) (depth : ℕ) (bx : List Range) → IsSearchBox P depth bx → IsQuery P depth bx
query P depth bx here = record {
  depth_in = here.shallow;
  box = here.box;
  set = sets (whole_vars P) depth bx (omega (arith, length-take P.wholes P.vars, IsBox-length P.vars bx here.box)) here.set;
  free = subst (AreFree (drop depth (whole_vars P))) (sym (here.others ∙ ap whole_box_of (later_vars P depth here.sound here.shallow)))
      (frees (drop depth (whole_vars P)) (continuous_vars P));
}
