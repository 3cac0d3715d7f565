-- The leaf run step by step: the rows one after another, what follows them, and what is told of it.
use Rattle.std.proofs.Common.{◌≡◌, ℕ, suc, ◌+◌, ◌<◌, ◌≤◌, List, [], ◌∷◌, length, get_or, drop, arith, refl, sym, ap, subst, ◌∙◌, Ok, Err}
use Rattle.std.specs.Prelude.{IsOk, Result}
use Rattle.std.proofs.lemmas.List.{drop_more, drop_all}
use Rattle.qm_math.specs.Fraction.{Fraction}
use Rattle.qm_model.specs.declared.range.Range.{Range}
use Rattle.qm_model.specs.declared.row.Row.{Row}
use Rattle.qm_model.specs.declared.game.Problem.{Problem}
use Rattle.qm_trees.specs.Entries.{Combination}
use Rattle.qm_trees.specs.Leaves.{row_sum}
use Rattle.qm_simplex.specs.declared.answers.LeavePlace.TheVariants as place
use Rattle.qm_simplex.specs.declared.answers.LpEnd.{LpEnd}
use Rattle.qm_simplex.specs.declared.answers.LpEnd.TheVariants.{Best, Void}
use Rattle.qm_simplex.specs.declared.answers.LpFault.{LpFault}
use Rattle.qm_simplex.specs.declared.answers.LpFault.TheVariants as fault
use Rattle.qm_simplex.specs.LeafRuns.{IsLeafRun, combination_at, evaluated, leaf_point, objective_at, rows_at}
use Rattle.qm_simplex.specs.Listed.{IsRunBy, ListsRun}
use Rattle.qm_simplex.specs.Runs.{Pivot}
use Rattle.qm_simplex.specs.Stops.{Located, after_pivots, located, then_at}
use Rattle.qm_search.specs.declared.leaf_run.Left.{Left}
use Rattle.qm_search.specs.LeafSteps.{IsRunFault, Tells}

-- where the first step leaves, the whole does
pub leaves_first : {A B : Type 0} (x : Located A) (f : A → Located B) (left : Left) → x ≡ Err (left.at, left.leaves) → then_at x f ≡ Err (left.at, left.leaves)
leaves_first x f left e = ap (λ z. then_at z f) e

-- where it doesn't, what follows is told
pub tells_next : {A B C : Type 0} (x : Located A) (f : A → Located B) (r : Result C Left) → IsOk x → ((a : A) → Tells (f a) r) → Tells (then_at x f) r
tells_next (Ok a) f r ok next = next a
tells_next (Err left) f r ok next = absurd (cc)

-- ---- rows

module _ (P : Problem) (bx : List Range) (point : List Fraction) (rows : List Row) (i : ℕ) (so_far : rows_at P bx point (i + 1) (drop i rows) ≡ rows_at P bx point 1 rows) where
  module _ (row : Row) (inside : i < length rows) (is : row ≡ get_or rows i row) where
    abbrev here : Located Fraction
    here = located (place.RowSum (i + 1)) (row_sum P bx point row)

    abbrev later : Fraction → Located (Unit {0})
    later sum = rows_at P bx point (suc (i + 1)) (drop (i + 1) rows)

    split : then_at here later ≡ rows_at P bx point 1 rows
    split =
        let parts : drop i rows ≡ row ∷ drop (i + 1) rows = drop_more rows i row inside ∙ ap (λ z. z ∷ drop (i + 1) rows) (sym is) in
        sym (ap (rows_at P bx point (i + 1)) parts) ∙ so_far

    pub row_leaves : (left : Left) → here ≡ Err (left.at, left.leaves) → rows_at P bx point 1 rows ≡ Err (left.at, left.leaves)
    row_leaves left e = sym split ∙ leaves_first here later left e

    goes_on : (x : Located Fraction) → IsOk x → then_at x later ≡ rows_at P bx point ((i + 1) + 1) (drop (i + 1) rows)
    goes_on (Ok s) ok = let next : suc (i + 1) ≡ (i + 1) + 1 = omega arith in ap (λ n. rows_at P bx point n (drop (i + 1) rows)) next
    goes_on (Err left) ok = absurd (cc)

    pub row_is_fine : IsOk here → rows_at P bx point ((i + 1) + 1) (drop (i + 1) rows) ≡ rows_at P bx point 1 rows
    row_is_fine ok = sym (goes_on here ok) ∙ split

  pub rows_are_fine : length rows ≤ i → IsOk (rows_at P bx point 1 rows)
  rows_are_fine past =
      let none : drop i rows ≡ [] = drop_all i rows past in
      subst (λ (x : Located (Unit {0})). IsOk x) (sym (ap (rows_at P bx point (i + 1)) none) ∙ so_far) refl

-- ---- behind an end

module _ (P : Problem) (bx : List Range) (point : List Fraction) (value : Fraction) (combo : Combination) (pivots : ℕ) where
  abbrev y : List Fraction
  y = leaf_point P point

  abbrev last : {A : Type 0} → A → Located LpEnd
  last worth = Ok (Best point value combo pivots)

  abbrev second : Fraction → Located LpEnd
  second objective = then_at (combination_at P bx combo) last

  abbrev first : Unit {0} → Located LpEnd
  first sums = then_at (objective_at P bx y) second

  pub best_rows_leave : (left : Left) → rows_at P bx y 1 P.rows ≡ Err (left.at, left.leaves) → evaluated P bx (Best point value combo pivots) ≡ Err (left.at, left.leaves)
  best_rows_leave left e = leaves_first (rows_at P bx y 1 P.rows) first left e

  pub best_objective_leaves : (left : Left) → IsOk (rows_at P bx y 1 P.rows) → objective_at P bx y ≡ Err (left.at, left.leaves)
      → evaluated P bx (Best point value combo pivots) ≡ Err (left.at, left.leaves)
  best_objective_leaves left rows e = by_rows (rows_at P bx y 1 P.rows) rows
    where
      by_rows : (x : Located (Unit {0})) → IsOk x → then_at x first ≡ Err (left.at, left.leaves)
      by_rows (Ok sums) ok = leaves_first (objective_at P bx y) second left e
      by_rows (Err other) ok = absurd (cc)

  pub best_told : {C : Type 0} (r : Result C Left) → IsOk (rows_at P bx y 1 P.rows) → IsOk (objective_at P bx y) → Tells (combination_at P bx combo) r
      → Tells (evaluated P bx (Best point value combo pivots)) r
  best_told r rows objective told =
      tells_next (rows_at P bx y 1 P.rows) first r rows (λ sums. tells_next (objective_at P bx y) second r objective (λ o. by_combination (combination_at P bx combo) r told))
    where
      by_combination : {A C : Type 0} (x : Located A) (r : Result C Left) → Tells x r → Tells (then_at x last) r
      by_combination (Ok worth) (Ok nothing) h = refl
      by_combination (Err left) (Ok nothing) h = absurd (cc)
      by_combination x (Err left) h = leaves_first x last left h

pub told_of_best : {C : Type 0} (P : Problem) (bx : List Range) (end : LpEnd) (point : List Fraction) (combo : Combination) (r : Result C Left) {value : Fraction} {pivots : ℕ}
    → end ≡ Best point value combo pivots → ((v : Fraction) (n : ℕ) → Tells (evaluated P bx (Best point v combo n)) r) → Tells (evaluated P bx end) r
told_of_best P bx end point combo r {value} {pivots} is told = subst (λ (e : LpEnd). Tells (evaluated P bx e) r) (sym is) (told value pivots)

pub void_told : {C : Type 0} (P : Problem) (bx : List Range) (combo : Combination) (pivots : ℕ) (r : Result C Left) → Tells (combination_at P bx combo) r → Tells (evaluated P bx (Void combo pivots)) r
void_told {C} P bx combo pivots r told = by_combination (combination_at P bx combo) r told
  where
    last : {A : Type 0} → A → Located LpEnd
    last worth = Ok (Void combo pivots)

    by_combination : {A : Type 0} (x : Located A) (r : Result C Left) → Tells x r → Tells (then_at x last) r
    by_combination (Ok worth) (Ok nothing) h = refl
    by_combination (Err left) (Ok nothing) h = absurd (cc)
    by_combination x (Err left) h = leaves_first x last left h

-- ---- the run

same_end : {A : Type 0} (x : Located A) (f : A → Located LpEnd) (end : LpEnd) → ((a : A) → IsOk (f a) → f a ≡ Ok end) → IsOk (then_at x f) → then_at x f ≡ Ok end
same_end (Ok a) f end next ok = next a ok
same_end (Err left) f end next ok = absurd (cc)

-- what is evaluated behind an end leaves the end as it is
pub evaluated_is : (P : Problem) (bx : List Range) (end : LpEnd) → IsOk (evaluated P bx end) → evaluated P bx end ≡ Ok end
evaluated_is P bx (Best point value combo pivots) ok =
    same_end (rows_at P bx (leaf_point P point) 1 P.rows) _ (Best point value combo pivots)
    (λ sums more. same_end (objective_at P bx (leaf_point P point)) _ (Best point value combo pivots)
    (λ objective most. same_end (combination_at P bx combo) _ (Best point value combo pivots) (λ worth all. refl) most) more) ok
evaluated_is P bx (Void combo pivots) ok = same_end (combination_at P bx combo) _ (Void combo pivots) (λ worth all. refl) ok

-- where the evaluation leaves
pub left_behind : (P : Problem) (bx : List Range) (end : LpEnd) (pivots : List Pivot) (left : Left) → IsRunBy P [] bx pivots (Ok end) → evaluated P bx end ≡ Err (left.at, left.leaves)
    → IsLeafRun P bx (Err (record { pivots = pivots; at = left.at; leaves = left.leaves }))
left_behind P bx end pivots left runs e = record { pivots = pivots; run = Ok end; runs = runs; goes_on = ap (after_pivots pivots) e }

-- where the run itself leaves
pub left_within : (P : Problem) (bx : List Range) (e : LpFault) → ListsRun P [] bx (Err e) → IsRunFault P bx e
left_within P bx (fault.Leaves leaves) run =
    record { pivots = run.pivots; run = Err leaves; runs = record { last = run.last; leads = run.leads; stops = run.stops }; goes_on = refl }
left_within P bx fault.Memory run = tt
