-- A box whose last universal ranges are fixed at values in them lies inside the box, and so do its points.
use Rattle.std.proofs.Common.{ℕ, zero, suc, List, [], ◌∷◌, ◌++◌, take, drop, arith, ℤ, ◌≤ℤ◌, unsigned_abs}
use Rattle.std.specs.Prelude.{◌≤◌, IfOk, Result, Ok, Err, max}
use Rattle.std.specs.List.{AllZip}
use Rattle.std.proofs.lemmas.Int.{ints}
use Rattle.qm_math.specs.Fraction.{Fraction, IsAtMost, whole}
use Rattle.qm_math.specs.Ranges.{IsBetween}
use Rattle.qm_math.proofs.Compare.{at_most_trans}
use Rattle.qm_math.proofs.FractionLaws.{whole_den}
use Rattle.qm_model.specs.declared.range.Range.{Range}
use Rattle.qm_model.specs.declared.row.Row.{Row}
use Rattle.qm_model.specs.declared.variable.Var.{Var}
use Rattle.qm_model.specs.declared.game.Problem.{Problem}
use Rattle.qm_model.specs.Boxes.{IsBox, IsInside, bounds_of}
use Rattle.qm_model.specs.Plays.{whole_vars}
use Rattle.qm_model.specs.Ranges.{single}
use Rattle.qm_model.proofs.BoxLaws.{inside_itself, inside_trans}
use Rattle.qm_model.proofs.Players.{by_player, is_for_all, not_universal}
use Rattle.qm_trees.specs.BoxPoints.{IsInBox}
use Rattle.qm_trees.specs.Picks.{Fit, fixed}
use Rattle.qm_trees.proofs.PickedPlays.{fit_next, fit_skip}
use Rattle.qm_simplex.specs.Relaxation.{IsInRelaxation}
use Rattle.qm_io.specs.declared.list.Memory.{Memory}
use Rattle.qm_relax.specs.declared.answers.RelaxedPoint.{RelaxedPoint}
use Rattle.qm_relax.specs.declared.answers.RelaxedPoint.TheVariants as pointed
use Rattle.qm_relax.specs.Answers.{IfBound, IsBestPoint}
use Rattle.qm_relax.specs.Scenarios.{FitLast, fixed_last, scenario_depth}

-- ---- ranges inside others

near_between : (low high v : ℤ) → IsBetween low high v → unsigned_abs v ≤ max (unsigned_abs low) (unsigned_abs high)
near_between low high v h = omega (arith, ints, h.0, h.1)

value_between : (r : Range) (v : ℤ) → IsBetween r.low r.high v → IsInside (single v) r
value_between r v between =
    let is_near = near_between r.low r.high v between in
    record { low = between.0; high = between.1; low_near = is_near; high_near = is_near }

all_themselves : (bx : List Range) → AllZip IsInside bx bx
all_themselves [] = tt
all_themselves (r ∷ bx) = (inside_itself r, all_themselves bx)

fixed_inside : (xs : List Var) (bx : List Range) (us : List ℤ) → Fit xs bx us → AllZip IsInside (fixed xs bx us) bx
fixed_inside [] bx us h = all_themselves bx
fixed_inside (x ∷ xs) [] us h = absurd h
fixed_inside (x ∷ xs) (r ∷ bx) [] h = all_themselves (r ∷ bx)
fixed_inside (x ∷ xs) (r ∷ bx) (u ∷ us) h =
    by_player x (AllZip IsInside (fixed (x ∷ xs) (r ∷ bx) (u ∷ us)) (r ∷ bx))
    (λ existential. rw (not_universal x existential) (inside_itself r, fixed_inside xs bx (u ∷ us) (fit_skip x xs r bx (u ∷ us) existential h)))
    (λ universal.
    let next = fit_next x xs r bx (u ∷ us) universal h in
    rw (is_for_all x universal) (value_between r u next.0, fixed_inside xs bx us next.1))

behind_inside : (depth : ℕ) (bx rest : List Range) → AllZip IsInside rest (drop depth bx) → AllZip IsInside (take depth bx ++ rest) bx
behind_inside zero bx rest h = h
behind_inside (suc depth) [] rest h = h
behind_inside (suc depth) (r ∷ bx) rest h = (inside_itself r, behind_inside depth bx rest h)

last_inside : (P : Problem) (bx : List Range) (us : List ℤ) → FitLast P bx us → AllZip IsInside (fixed_last P bx us) bx
last_inside P bx us h =
    let depth = scenario_depth P us in
    behind_inside depth bx (fixed (drop depth (whole_vars P)) (drop depth bx) us) (fixed_inside (drop depth (whole_vars P)) (drop depth bx) us h)

-- ---- boxes and points

box_inside : (xs : List Var) (inner outer : List Range) → IsBox xs outer → AllZip IsInside inner outer → IsBox xs inner
box_inside [] [] [] box h = tt
box_inside [] [] (r ∷ outer) box h = absurd h
box_inside [] (q ∷ inner) [] box h = absurd h
box_inside [] (q ∷ inner) (r ∷ outer) box h = absurd box
box_inside (x ∷ xs) [] [] box h = absurd box
box_inside (x ∷ xs) [] (r ∷ outer) box h = absurd h
box_inside (x ∷ xs) (q ∷ inner) [] box h = absurd h
box_inside (x ∷ xs) (q ∷ inner) (r ∷ outer) box h = (inside_trans q r (bounds_of x) h.0 box.0, box_inside xs inner outer box.1 h.1)

whole_at_most : (a b : ℤ) → a ≤ℤ b → IsAtMost (whole a) (whole b)
whole_at_most a b h = omega (arith, ints, h)

point_inside : (inner outer : List Range) (point : List Fraction) → AllZip IsInside inner outer → IsInBox inner point → IsInBox outer point
point_inside [] [] point h inside = inside
point_inside [] (r ∷ outer) point h inside = absurd h
point_inside (q ∷ inner) [] point h inside = absurd h
point_inside (q ∷ inner) (r ∷ outer) [] h inside = absurd inside
point_inside (q ∷ inner) (r ∷ outer) (x ∷ xs) h inside = (
  inside.0,
  (
    at_most_trans (whole r.low) (whole q.low) x (whole_den q.low) (whole_at_most r.low q.low h.0.low) inside.1.0,
    at_most_trans x (whole q.high) (whole r.high) (whole_den q.high) inside.1.1 (whole_at_most q.high r.high h.0.high),
  ),
  point_inside inner outer xs h.1 inside.2,
)

-- ---- the box of a scenario

module _ (P : Problem) (bx : List Range) (us : List ℤ) (fits : FitLast P bx us) where
  pub fixed_is_box : IsBox P.vars bx → IsBox P.vars (fixed_last P bx us)
  fixed_is_box box = box_inside P.vars (fixed_last P bx us) bx box (last_inside P bx us fits)

  lent_relaxation : (cuts : List Row) (point : List Fraction) → IsInRelaxation P cuts (fixed_last P bx us) point → IsInRelaxation P cuts bx point
  lent_relaxation cuts point is =
      record { inside = point_inside (fixed_last P bx us) bx point (last_inside P bx us fits) is.inside; rows = is.rows; urows = is.urows; extra = is.extra }

  -- what is told beside a bound of a scenario
  pub lent_point : (cuts : List Row) (told : Result RelaxedPoint Memory) → IfOk told (IfBound (IsBestPoint P cuts (fixed_last P bx us)))
      → IfOk told (IfBound (λ best. IsInRelaxation P cuts bx best.point))
  lent_point cuts (Err e) h = tt
  lent_point cuts (Ok (pointed.Closed combo)) h = tt
  lent_point cuts (Ok (pointed.Bound best)) h = lent_relaxation cuts best.point h.feasible
  lent_point cuts (Ok (pointed.NoBound why)) h = tt
