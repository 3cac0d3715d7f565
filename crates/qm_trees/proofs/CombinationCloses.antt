-- The test of a combination closes a goal exactly where the combination closes it and no operation leaves.
use Rattle.std.proofs.Common.{◌≡◌, refl, sym, ◌<◌, List, All, arith, pos, ◌≤ℤ◌, subst, Bool, true, false, Ok, inl, inr}
use Rattle.std.specs.Prelude.{Any as Some, ◌↔◌, IsOk, if◌then◌else◌}
use Rattle.std.specs.List.{list_any}
use Rattle.std.proofs.lemmas.Int.{ints}
use Rattle.std.proofs.lemmas.List.Folds.{Any-from_list_any, list_any-from_Any}
use Rattle.std.proofs.lemmas.Bool.{both_ways}
use Rattle.qm_math.specs.Fraction.{Fraction, IsAtMost, IsBelow, is_below, is_at_most}
use Rattle.qm_math.proofs.Compare.{at_most_trans, below_at_most, at_most_below, below_at_most_weak}
use Rattle.qm_math.proofs.FractionLaws.{same_refl}
use Rattle.qm_math.proofs.FractionOrder.{at_most_congr, below_congr, not_at_most_below}
use Rattle.qm_math.proofs.WholeTests.{lt_of_test, test_of_lt}
use Rattle.qm_frac.specs.Checked.{Checked, and_then}
use Rattle.qm_frac.proofs.CheckedLaws.{and_then-ok}
use Rattle.qm_model.specs.declared.range.Range.{Range}
use Rattle.qm_model.specs.declared.game.Problem.{Problem}
use Rattle.qm_model.specs.Boxes.{IsEmptyRange}
use Rattle.qm_model.specs.Goals.{Goal, Any, AtLeast, Above, IsNoHarder, IsProper}
use Rattle.qm_trees.specs.declared.combination.ComboValue.{ComboValue}
use Rattle.qm_trees.specs.declared.combination.ComboValue.TheVariants.{Nothing, Void, Bound}
use Rattle.qm_trees.specs.Entries.{Weighted}
use Rattle.qm_trees.specs.Evaluation.{right_side, least_combined, bound_of, value_of}
use Rattle.qm_trees.specs.Closing.{Excludes, Closes, closes_goal, is_empty_range, closing}
use Rattle.qm_trees.proofs.CombinationSound.{bound_of_den}
use Rattle.qm_trees.proofs.CombinationValues.{IsExact, Says, Bounds, says, bounds, below_true, below_false}
use Rattle.qm_trees.proofs.Lines.{bind_ok}

most_true : (a b : Fraction) → is_at_most a b ≡ true → IsAtMost a b
most_true a b e = grind (arith, ints)

most_false : (a b : Fraction) → is_at_most a b ≡ false → IsBelow b a
most_false a b e = grind (arith, ints)

pub ok_bool : (s t : Bool) → (let r : Checked Bool = Ok s in r) ≡ Ok t → s ≡ t
ok_bool s t h = cc

-- the fact holds where the answer is yes, and fails where it is no
abbrev pub IsAnswer : Type 0 → Bool → Type 0
IsAnswer A true = A
IsAnswer A false = A → ⊥

below_answer : (a b c : Fraction) → 0 < b.den → 0 < c.den → IsExact a b → (t : Bool) → is_below a c ≡ t → IsAnswer (IsBelow b c) t
below_answer a b c hb hc exact true e = below_congr a c b c exact.positive hc hb hc exact.same (same_refl c) (below_true a c e)
below_answer a b c hb hc exact false e = λ h. not_at_most_below c b (at_most_congr c a c b hc exact.positive (same_refl c) exact.same (below_false a c e)) h

most_answer : (a b c : Fraction) → 0 < b.den → 0 < c.den → IsExact a b → (t : Bool) → is_at_most a c ≡ t → IsAnswer (IsAtMost b c) t
most_answer a b c hb hc exact true e = at_most_congr a c b c exact.positive hc exact.same (same_refl c) (most_true a c e)
most_answer a b c hb hc exact false e = λ h. not_at_most_below b c h (below_congr c a c b hc exact.positive hc hb (same_refl c) exact.same (most_false a c e))

module _ (P : Problem) (ws : List Weighted) (bx : List Range) (dens : All (λ (w : Weighted). 0 < w.by.den) ws) (scale : pos 1 ≤ℤ P.scale) where
  rows_answer : (G : Goal) (v : ComboValue) → Says P ws bx v → IsAnswer (Excludes P false ws bx G) (closes_goal G v)
  rows_answer G Nothing said = λ h. not_at_most_below (least_combined P false ws bx) (right_side P false ws) said h
  rows_answer G Void said = said
  rows_answer G (Bound w) said = absurd said

  bound_answer : (G : Goal) (v : ComboValue) → IsProper G → Bounds P ws bx v → IsAnswer (Excludes P true ws bx G) (closes_goal G v)
  bound_answer G Nothing proper said = absurd said
  bound_answer G Void proper said = absurd said
  bound_answer Any (Bound w) proper said = λ h. h
  bound_answer (AtLeast t) (Bound w) proper said = below_answer w (bound_of P ws bx) t (bound_of_den P ws bx scale dens) proper said (is_below w t) refl
  bound_answer (Above t) (Bound w) proper said = most_answer w (bound_of P ws bx) t (bound_of_den P ws bx scale dens) proper said (is_at_most w t) refl

  value_answer : (objective : Bool) (G : Goal) (v : ComboValue) → IsProper G → value_of P objective ws bx ≡ Ok v → IsAnswer (Excludes P objective ws bx G) (closes_goal G v)
  value_answer false G v proper h = rows_answer G v (says P ws bx v dens h)
  value_answer true G v proper h = bound_answer G v proper (bounds P ws bx v dens scale h)

-- ---- empty ranges

pub some_empty : (bx : List Range) → list_any is_empty_range bx ≡ true → Some IsEmptyRange bx
some_empty bx e = let p = Any-from_list_any is_empty_range bx e in (p.0, p.1, p.2, p.3, lt_of_test p.1.high p.1.low p.4)

pub some_empty_test : (bx : List Range) → Some IsEmptyRange bx → list_any is_empty_range bx ≡ true
some_empty_test bx p = list_any-from_Any is_empty_range bx (p.0, p.1, p.2, p.3, test_of_lt p.1.high p.1.low p.4)

-- ---- the test

answered : (P : Problem) (objective : Bool) (ws : List Weighted) (bx : List Range) (G : Goal) → All (λ (w : Weighted). 0 < w.by.den) ws → pos 1 ≤ℤ P.scale → IsProper G
    → (empty : Bool) → list_any is_empty_range bx ≡ empty → (b : Bool)
    → (if empty then Ok true else and_then (value_of P objective ws bx) (λ v. let z : Checked Bool = Ok (closes_goal G v) in z)) ≡ Ok b → IsAnswer (Closes P objective ws bx G) b
answered P objective ws bx G dens scale proper true e b h = subst (IsAnswer (Closes P objective ws bx G)) (ok_bool true b h) (inl (some_empty bx e))
answered P objective ws bx G dens scale proper false e b h =
    let p = and_then-ok (value_of P objective ws bx) (λ v. let z : Checked Bool = Ok (closes_goal G v) in z) b h in
    either b (subst (IsAnswer (Excludes P objective ws bx G)) (ok_bool (closes_goal G p.0) b p.2) (value_answer P ws bx dens scale objective G p.0 proper p.1))
  where
    either : (b : Bool) → IsAnswer (Excludes P objective ws bx G) b → IsAnswer (Closes P objective ws bx G) b
    either true h = inr h
    either false h = neither h
      where
        neither : (Excludes P objective ws bx G → ⊥) → Closes P objective ws bx G → ⊥
        neither h (inl empty) = both_ways (list_any is_empty_range bx) e (some_empty_test bx empty)
        neither h (inr excludes) = h excludes

closing_answer : (P : Problem) (objective : Bool) (ws : List Weighted) (bx : List Range) (G : Goal) (b : Bool) → All (λ (w : Weighted). 0 < w.by.den) ws → pos 1 ≤ℤ P.scale → IsProper G
    → closing P objective ws bx G ≡ Ok b → IsAnswer (Closes P objective ws bx G) b
unfolding closing
closing_answer P objective ws bx G b dens scale proper h = answered P objective ws bx G dens scale proper (list_any is_empty_range bx) refl b h

-- an answer is yes exactly where the fact holds and no operation leaves
pub answer_exact : (A : Type 0) (x : Checked Bool) → ((b : Bool) → x ≡ Ok b → IsAnswer A b) → (x ≡ Ok true) ↔ (A × IsOk x)
answer_exact A x answers = (
  λ e. (answers true e, subst IsOk (sym e) refl),
  λ both. let p = bind_ok x both.1 in yes p.0 p.1 both.0,
)
  where
    yes : (b : Bool) → x ≡ Ok b → A → x ≡ Ok true
    yes true e h = e
    yes false e h = absurd (answers false e h)

pub closing_exact : (P : Problem) (objective : Bool) (ws : List Weighted) (bx : List Range) (G : Goal) → All (λ (w : Weighted). 0 < w.by.den) ws → pos 1 ≤ℤ P.scale → IsProper G
    → (closing P objective ws bx G ≡ Ok true) ↔ (Closes P objective ws bx G × IsOk (closing P objective ws bx G))
closing_exact P objective ws bx G dens scale proper =
    answer_exact (Closes P objective ws bx G) (closing P objective ws bx G) (λ b e. closing_answer P objective ws bx G b dens scale proper e)

-- ---- harder goals

excludes_harder : (P : Problem) (objective : Bool) (ws : List Weighted) (bx : List Range) (G H : Goal) → All (λ (w : Weighted). 0 < w.by.den) ws → pos 1 ≤ℤ P.scale → IsProper G → IsProper H
    → IsNoHarder G H → Excludes P objective ws bx G → Excludes P objective ws bx H
excludes_harder P false ws bx G H dens scale proper proper' order h = h
excludes_harder P true ws bx Any H dens scale proper proper' order h = absurd h
excludes_harder P true ws bx (AtLeast s) Any dens scale proper proper' order h = absurd order
excludes_harder P true ws bx (AtLeast s) (AtLeast t) dens scale proper proper' order h = below_at_most (bound_of P ws bx) s t proper' h order
excludes_harder P true ws bx (AtLeast s) (Above t) dens scale proper proper' order h = at_most_trans (bound_of P ws bx) s t proper (below_at_most_weak (bound_of P ws bx) s h) order
excludes_harder P true ws bx (Above s) Any dens scale proper proper' order h = absurd order
excludes_harder P true ws bx (Above s) (AtLeast t) dens scale proper proper' order h = at_most_below (bound_of P ws bx) s t (bound_of_den P ws bx scale dens) h order
excludes_harder P true ws bx (Above s) (Above t) dens scale proper proper' order h = at_most_trans (bound_of P ws bx) s t proper h order

pub closes_harder : (P : Problem) (objective : Bool) (ws : List Weighted) (bx : List Range) (G H : Goal) → All (λ (w : Weighted). 0 < w.by.den) ws → pos 1 ≤ℤ P.scale → IsProper G → IsProper H
    → IsNoHarder G H → Closes P objective ws bx G → Closes P objective ws bx H
closes_harder P objective ws bx G H dens scale proper proper' order (inl empty) = inl empty
closes_harder P objective ws bx G H dens scale proper proper' order (inr h) = inr (excludes_harder P objective ws bx G H dens scale proper proper' order h)
