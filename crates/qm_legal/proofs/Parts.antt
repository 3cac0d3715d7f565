-- The part of a run of values that a dead row closes.
use Rattle.std.proofs.Common.{◌≡◌, ◌∙◌, sym, ap, subst, ℕ, zero, suc, ◌+◌, List, [], ◌∷◌, get_or, set, arith, false, ℤ, pos, negsuc, ◌≤ℤ◌, ◌<ℤ◌, ◌-ℤ◌, Option, Some, None}
use Rattle.std.specs.Prelude.{IsSomeAnd, slice_get}
use Rattle.std.proofs.lemmas.Int.{ints}
use Rattle.qm_math.specs.Fraction.{whole}
use Rattle.qm_math.specs.Ranges.{least_product}
use Rattle.qm_math.specs.Sums.{sum_from}
use Rattle.qm_math.proofs.Between.{neg_times}
use Rattle.qm_model.specs.declared.range.Range.{Range}
use Rattle.qm_model.specs.declared.row.Row.{Row}
use Rattle.qm_model.specs.declared.row_id.RowId.TheVariants as id
use Rattle.qm_model.specs.declared.variable.Var.{Var}
use Rattle.qm_model.specs.declared.game.Problem.{Problem}
use Rattle.qm_model.specs.Boxes.{IsBox, IsDead, least_value}
use Rattle.qm_model.specs.Linear.{coefficient}
use Rattle.qm_model.specs.Sound.{IsSound}
use Rattle.qm_trees.specs.declared.empty.Empty.{Empty, Close}
use Rattle.qm_trees.specs.declared.empty.EmptyPart.{EmptyPart}
use Rattle.qm_trees.specs.EmptyJudgement.{range_of, below_of}
use Rattle.qm_model.specs.Ranges.{range_at}
use Rattle.qm_legal.specs.SearchSteps.{IsDeadRun, IsOneOf, IsPart, range_to}
use Rattle.qm_legal.proofs.Boxes.{between_inside, set_in_box}
use Rattle.qm_legal.proofs.RightTrees.{dead_shows}

-- a row that is there
pub there : {X : Type 0} (D Q : X → Type 0) (xs : List X) (n : ℕ) (x : X) → IsSomeAnd (slice_get xs n) D → x ≡ get_or xs n x → Q x → IsSomeAnd (slice_get xs n) Q
there D Q [] n x some e h = absurd some
there D Q (y ∷ xs) zero x some e h = subst Q e h
there D Q (y ∷ xs) (suc n) x some e h = there D Q xs n x some e h

-- a range that begins as the run, over which the row is dead
pub dead_tried : (row : Row) (before bx : List Range) (depth : ℕ) (run tried : Range) → before ≡ bx → tried.low ≡ run.low → IsDead (set before depth tried) row
    → IsDead (set bx depth (range_to run.low tried.high)) row
dead_tried row before bx depth run tried same low h =
    let is : tried ≡ range_to run.low tried.high = ap (λ v. range_to v tried.high) low in
    subst (λ b. IsDead (set b depth (range_to run.low tried.high)) row) same (subst (λ (r : Range). IsDead (set before depth r) row) is h)

-- what holds of a row that is there holds of it
pub some_weaker : {X : Type 0} (D Q : X → Type 0) (o : Option X) → ((x : X) → D x → Q x) → IsSomeAnd o D → IsSomeAnd o Q
some_weaker D Q None f some = absurd some
some_weaker D Q (Some x) f some = f x some

some_then : {X : Type 0} (D : X → Type 0) (R : Type 0) (o : Option X) → ((x : X) → D x → R) → IsSomeAnd o D → R
some_then D R None f some = absurd some
some_then D R (Some x) f some = f x some

-- ---- the row is dead over fewer values

sum_from-set-le : {A : Type 0} (f : ℕ → A → ℤ) (first : ℕ) (xs : List A) (var : ℕ) (x y : A) → f (first + var) x ≤ℤ f (first + var) y → sum_from f first (set xs var x) ≤ℤ sum_from f first (set xs var y)
sum_from-set-le f first [] var x y h = omega (arith, ints)
sum_from-set-le f first (a ∷ xs) zero x y h =
    let here : first + 0 ≡ first = omega arith in
    let le : f first x ≤ℤ f first y = rw here at h in
    omega (arith, ints, le)
sum_from-set-le f first (a ∷ xs) (suc var) x y h =
    let next : first + suc var ≡ suc first + var = omega arith in
    let le = sum_from-set-le f (suc first) xs var x y (rw next at h) in
    omega (arith, ints, le)

least_product-less : (k low m v : ℤ) → m ≤ℤ v → least_product k low v ≤ℤ least_product k low m
least_product-less (pos n) low m v h = omega (arith, ints)
least_product-less (negsuc n) low m v h = neg_times n m v h

pub dead_less : (row : Row) (bx : List Range) (depth : ℕ) (low m v : ℤ) → m ≤ℤ v → IsDead (set bx depth (range_to low v)) row → IsDead (set bx depth (range_to low m)) row
dead_less row bx depth low m v h dead =
    let le = sum_from-set-le (λ var (r : Range). least_product (coefficient row.terms var) r.low r.high) 0 bx depth (range_to low v) (range_to low m)
    (least_product-less (coefficient row.terms (0 + depth)) low m v h) in
    less row.right (least_value row.terms (set bx depth (range_to low v))) (least_value row.terms (set bx depth (range_to low m))) le dead
  where
    less : (right a b : ℤ) → a ≤ℤ b → right <ℤ a → right <ℤ b
    less right a b le dead = omega (arith, ints, le, dead)

-- no run that goes on to the tried value or beyond is dead, where that one isn't
pub none_longer : (row : Row) (before bx : List Range) (depth : ℕ) (run tried : Range) (last : ℤ) → before ≡ bx → tried.low ≡ run.low → (IsDead (set before depth tried) row → ⊥)
    → (v : ℤ) → (tried.high -ℤ pos 1) <ℤ v → v ≤ℤ last → IsDead (set bx depth (range_to run.low v)) row → ⊥
none_longer row before bx depth run tried last same low alive v above within dead =
    let is : tried ≡ range_to run.low tried.high = ap (λ u. range_to u tried.high) low in
    let le : tried.high ≤ℤ v = omega (arith, ints, above) in
    let less = dead_less row bx depth run.low tried.high v le dead in
    alive (subst (λ b. IsDead (set b depth tried) row) (sym same) (subst (λ (r : Range). IsDead (set bx depth r) row) (sym is) less))

module _ (P : Problem) (later : List Var) (depth : ℕ) (bx : List Range) (sound : IsSound P) (box : IsBox P.vars bx) (run range : Range) (one : IsOneOf (range_at bx depth) run) (last : ℤ) (within : last ≤ℤ (range_at bx depth).high) where
  part_of_run : (row : Row) (n : ℕ) (below : Empty) (part : EmptyPart) → IsDeadRun row bx depth run last range
      → IsSomeAnd (slice_get P.urows n) (IsDead (set bx depth range)) → below ≡ Close (record { objective = false; entries = record { row = id.Uncertain n; by = whole (pos 1) } ∷ [] })
      → range_of part ≡ range → below_of part ≡ below → IsPart P later depth bx run.low last part
  part_of_run row n below part found dead is range_is below_is =
      let from : (range_at bx depth).low ≤ℤ range.low = omega (arith, ints, found.low, one.low) in
      let begun : run.low ≤ℤ range.high = omega (arith, ints, one.single, found.some) in
      let full : range.low ≤ℤ range.high = omega (arith, ints, found.low, begun) in
      let high : range.high ≤ℤ (range_at bx depth).high = omega (arith, ints, found.high, within) in
      let inside = between_inside (range_at bx depth) range from full high in
      let shows = dead_shows P later (depth + 1) (set bx depth range) below n sound (set_in_box P.vars bx depth range box inside) dead is in
      record {
        low = ap (λ (r : Range). r.low) range_is ∙ found.low;
        some = rw range_is begun;
        high = rw range_is found.high;
        below = rw (range_is, below_is) shows;
      }

  pub dead_is_part : (n : ℕ) (below : Empty) (part : EmptyPart) → IsSomeAnd (slice_get P.urows n) (λ row. IsDeadRun row bx depth run last range)
      → below ≡ Close (record { objective = false; entries = record { row = id.Uncertain n; by = whole (pos 1) } ∷ [] })
      → range_of part ≡ range → below_of part ≡ below → IsPart P later depth bx run.low last part
  dead_is_part n below part some is range_is below_is =
      let dead = some_weaker (λ row. IsDeadRun row bx depth run last range) (IsDead (set bx depth range)) (slice_get P.urows n) (λ row found. found.dead) some in
      some_then (λ row. IsDeadRun row bx depth run last range) (IsPart P later depth bx run.low last part) (slice_get P.urows n)
      (λ row found. part_of_run row n below part found dead is range_is below_is) some
