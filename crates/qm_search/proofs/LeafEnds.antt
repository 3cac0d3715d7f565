-- The end of a leaf run: its point is a leaf that reaches the value, and its combination refutes the rest.
use Rattle.std.proofs.Common.{◌≡◌, ℕ, suc, ◌≤◌, Bool, true, false, List, [], ◌∷◌, length, All, arith, refl, sym, ap, subst, ◌∙◌, inr, Ok, Err}
use Rattle.std.specs.Prelude.{IsOk, if◌then◌else◌}
use Rattle.std.specs.List.{list_any}
use Rattle.std.proofs.lemmas.List.Elements.{All-cons, All-drop, All-nil}
use Rattle.qm_math.specs.Fraction.{Fraction, HasPositiveDen, is_at_most, whole}
use Rattle.qm_math.proofs.FractionOrder.{at_most-same}
use Rattle.qm_frac.specs.Checked.{Checked, and_then}
use Rattle.qm_frac.specs.Lowest.{IsFrac}
use Rattle.qm_model.specs.declared.range.Range.{Range}
use Rattle.qm_model.specs.declared.row.Row.{Row}
use Rattle.qm_model.specs.declared.game.Problem.{Problem}
use Rattle.qm_model.specs.Boxes.{IsBox}
use Rattle.qm_model.specs.Goals.{Goal, Any as AnyGoal, Above}
use Rattle.qm_model.proofs.BoxLaws.{IsBox-length}
use Rattle.qm_trees.specs.declared.combination.ComboValue.{ComboValue}
use Rattle.qm_trees.specs.declared.policy.Policy.{Policy, Leaf, out-Policy}
use Rattle.qm_trees.specs.declared.policy.Below.TheOpen as policy_node
use Rattle.qm_trees.specs.declared.refutation.Refute.{Refute, Close}
use Rattle.qm_trees.specs.Closing.{Excludes, closes_goal, closing, is_empty_range}
use Rattle.qm_trees.specs.Entries.{AreWellFormed, Combination, weighted_rows}
use Rattle.qm_trees.specs.Evaluation.{bound_of, value_of}
use Rattle.qm_trees.specs.Leaves.{leaf_objective, objective_reaches, row_holds, row_sum}
use Rattle.qm_trees.specs.PolicyJudgement.{Layer}
use Rattle.qm_trees.specs.PolicyRight.{IsEndInRange, IsLeafInRange, IsRightEnd}
use Rattle.qm_trees.specs.RefuteRight.{AreNamed, IsCloseInRange}
use Rattle.qm_policy.proofs.Steps.{objective_reaches_by}
use Rattle.qm_simplex.specs.declared.answers.LeavePlace.{LeavePlace}
use Rattle.qm_simplex.specs.declared.answers.LeavePlace.TheVariants as place
use Rattle.qm_simplex.specs.declared.answers.LpEnd.{LpEnd}
use Rattle.qm_simplex.specs.declared.answers.LpEnd.TheVariants.{Best, Void}
use Rattle.qm_simplex.specs.Ends.{IsBest, IsVoid, combination_of}
use Rattle.qm_simplex.specs.LeafRuns.{combination_at, evaluated, leaf_point, objective_at, rows_at}
use Rattle.qm_simplex.specs.Stops.{Located, located, then_at}
use Rattle.qm_simplex.proofs.LeafPoints.{box_long, leaf_is_right}
use Rattle.qm_search.specs.LeafSteps.{IsLawfulEnd, IsLeafEnd}
use Rattle.qm_search.specs.OutcomeSteps.{IsReached, Refutes, Secures}
use Rattle.qm_search.specs.PlaceSteps.{IsEndPlace}
use Rattle.qm_search.proofs.DeadRows.{refutes_from}
use Rattle.qm_policy.proofs.Steps.{out-of-Leaf}

-- ---- where no operation leaves

located_ok : {A : Type 0} (at : LeavePlace) (x : Checked A) → IsOk (located at x) → IsOk x
located_ok at (Ok x) h = refl
located_ok at (Err leaves) h = absurd (cc)

-- a first step that doesn't leave, and what follows
then_ok : {A B : Type 0} (x : Located A) (f : A → Located B) → IsOk (then_at x f) → IsOk x × (a : A) × IsOk (f a)
then_ok (Ok a) f h = (refl, a, h)
then_ok (Err left) f h = absurd (cc)

ok_by : {A : Type 0} (x : Located A) (a : A) → x ≡ Ok a → IsOk x
ok_by x a e = rw e refl

bind_is_ok : {A B : Type 0} (x : Checked A) (f : A → B) → IsOk x → IsOk (and_then x (λ a. let y : Checked B = Ok (f a) in y))
bind_is_ok (Ok a) f h = refl
bind_is_ok (Err leaves) f h = absurd (cc)

module _ (P : Problem) (bx : List Range) where
  rows_ok : (y : List Fraction) (number : ℕ) (rows : List Row) → IsOk (rows_at P bx y number rows) → All (λ row. IsOk (row_holds P bx y row)) rows
  rows_ok y number [] h = All-nil (λ row. IsOk (row_holds P bx y row))
  rows_ok y number (row ∷ rows) h =
      let parts = then_ok (located (place.RowSum number) (row_sum P bx y row)) (λ sum. rows_at P bx y (suc number) rows) h in
      All-cons (λ r. IsOk (row_holds P bx y r)) row rows
      (bind_is_ok (row_sum P bx y row) (λ s. is_at_most s (whole row.right)) (located_ok (place.RowSum number) (row_sum P bx y row) parts.0))
      (rows_ok y (suc number) rows parts.2)

  objective_ok : (y : List Fraction) (v : Fraction) → IsOk (objective_at P bx y) → IsOk (objective_reaches P v bx y)
  objective_ok y v h =
      subst (λ (x : Checked Bool). IsOk x) (objective_reaches_by P v bx y)
      (bind_is_ok (leaf_objective P bx y) (λ w. is_at_most v w) (located_ok place.Objective (leaf_objective P bx y) h))

  closing_ok : (combo : Combination) (G : Goal) → IsOk (combination_at P bx combo) → IsCloseInRange P [] G bx combo
  unfolding closing
  closing_ok combo G h =
      let x = value_of P combo.objective (weighted_rows P [] combo.entries) bx in
      by_test (list_any is_empty_range bx) (bind_is_ok x (closes_goal G) (located_ok place.Combination x h))
    where
      by_test : (b : Bool) → IsOk (and_then (value_of P combo.objective (weighted_rows P [] combo.entries) bx) (λ v. let y : Checked Bool = Ok (closes_goal G v) in y))
          → IsOk (if b then Ok true else and_then (value_of P combo.objective (weighted_rows P [] combo.entries) bx) (λ v. let y : Checked Bool = Ok (closes_goal G v) in y))
      by_test true g = refl
      by_test false g = g

-- ---- the outcome

module _ (P : Problem) (bx : List Range) (place : IsEndPlace P bx) (depth : ℕ) (combo : Combination) (form : AreWellFormed combo.entries) (named : AreNamed P [] combo.entries)
    (in_range : IsOk (combination_at P bx combo)) where
  -- a contradiction
  pub void_outcome : (tree : Refute) → IsVoid P [] bx combo → tree ≡ Close combo → Refutes P [] [] [] depth bx AnyGoal tree
  void_outcome tree void is =
      let closes : Excludes P combo.objective (weighted_rows P [] combo.entries) bx AnyGoal = rw void.objective void.contradicts in
      refutes_from P [] [] [] depth bx AnyGoal combo tree form named (inr closes) (closing_ok P bx combo AnyGoal in_range) is

  module _ (point : List Fraction) (value : Fraction) (best : IsBest P [] bx point value combo) (positive : HasPositiveDen value) where
    short : P.wholes ≤ length bx
    short = omega (arith, place.box.sound.wholes, IsBox-length P.vars bx place.box.box)

    -- nothing above the value is reached
    best_refutes : (tree : Refute) → tree ≡ Close combo → Refutes P [] [] [] depth bx (Above value) tree
    best_refutes tree is =
        let at_most = at_most-same (bound_of P (weighted_rows P [] combo.entries) bx) value best.bound in
        let closes : Excludes P combo.objective (weighted_rows P [] combo.entries) bx (Above value) = rw best.objective at_most in
        refutes_from P [] [] [] depth bx (Above value) combo tree form named (inr closes) (closing_ok P bx combo (Above value) in_range) is

    leaf_secures : (policy : Policy) → All IsFrac (leaf_point P point) → policy ≡ Leaf (leaf_point P point) → IsOk (rows_at P bx (leaf_point P point) 1 P.rows) → IsOk (objective_at P bx (leaf_point P point))
        → Secures P [] depth bx value policy
    leaf_secures policy fracs ends rows objective =
        let y = leaf_point P point in
        let layer : policy_node.Leaf y ≡ out-Policy policy = sym (ap out-Policy ends ∙ out-of-Leaf y) in
        let right = leaf_is_right P bx point best.feasible.inside short place.box.set value place.box.sound place.box.others best.feasible.rows positive best.reached in
        let range : IsLeafInRange P value bx y = (rows_ok P bx y 1 P.rows rows, objective_ok P bx y value objective) in
        record {
          right = subst (λ (l : Layer). IsRightEnd P value bx l) layer (fracs, right);
          in_range = subst (λ (l : Layer). IsEndInRange P value bx l) layer range;
        }

-- ---- what is told of an end

pub end_short : (P : Problem) (bx : List Range) → IsEndPlace P bx → P.wholes ≤ length bx
end_short P bx place = omega (arith, place.box.sound.wholes, IsBox-length P.vars bx place.box.box)

-- a best point has a value for each variable
pub best_long : (P : Problem) (bx : List Range) (end : LpEnd) (point : List Fraction) (value : Fraction) (combo : Combination) {pivots : ℕ} → IsBox P.vars bx → IsLawfulEnd P bx end
    → end ≡ Best point value combo pivots → length point ≡ length P.vars
best_long P bx end point value combo {pivots} box lawful is =
    let best = (subst (IsLawfulEnd P bx) is lawful).right in
    box_long bx point best.feasible.inside ∙ IsBox-length P.vars bx box

pub end_named : (P : Problem) (bx : List Range) (end : LpEnd) (combo : Combination) → IsLawfulEnd P bx end → combination_of end ≡ combo → AreNamed P [] combo.entries
end_named P bx end combo lawful is = subst (λ (c : Combination). AreNamed P [] c.entries) is lawful.named

pub void_end : (P : Problem) (bx : List Range) (depth : ℕ) (end : LpEnd) (combo : Combination) (tree : Refute) {pivots : ℕ} → IsEndPlace P bx → IsLeafEnd P bx end → end ≡ Void combo pivots
    → AreWellFormed combo.entries → tree ≡ Close combo → Refutes P [] [] [] depth bx AnyGoal tree
void_end P bx depth end combo tree {pivots} place leaf is form closed =
    let this = subst (IsLeafEnd P bx) is leaf in
    let last : ComboValue → Located LpEnd = λ worth. Ok (Void combo pivots) in
    let ok = then_ok (combination_at P bx combo) last (ok_by (evaluated P bx (Void combo pivots)) (Void combo pivots) this.in_range) in
    void_outcome P bx place depth combo form this.lawful.named ok.0 tree this.lawful.right closed

pub best_end : (P : Problem) (bx : List Range) (depth : ℕ) (end : LpEnd) (point : List Fraction) (value : Fraction) (combo : Combination) (policy : Policy) (tree : Refute) {pivots : ℕ}
    → IsEndPlace P bx → IsLeafEnd P bx end → end ≡ Best point value combo pivots → AreWellFormed combo.entries → All IsFrac point → HasPositiveDen value → policy ≡ Leaf (leaf_point P point) → tree ≡ Close combo
    → IsReached P [] [] [] depth bx value policy tree
best_end P bx depth end point value combo policy tree {pivots} place leaf is form fracs positive ends closed =
    let this = subst (IsLeafEnd P bx) is leaf in
    let y = leaf_point P point in
    let last : ComboValue → Located LpEnd = λ worth. Ok (Best point value combo pivots) in
    let second : Fraction → Located LpEnd = λ objective. then_at (combination_at P bx combo) last in
    let first : Unit {0} → Located LpEnd = λ sums. then_at (objective_at P bx y) second in
    let rows = then_ok (rows_at P bx y 1 P.rows) first (ok_by (evaluated P bx (Best point value combo pivots)) (Best point value combo pivots) this.in_range) in
    let objective = then_ok (objective_at P bx y) second rows.2 in
    let worth = then_ok (combination_at P bx combo) last objective.2 in
    record {
      positive = positive;
      secures = leaf_secures P bx place depth combo form this.lawful.named worth.0 point value this.lawful.right positive policy (All-drop IsFrac P.wholes point fracs) ends rows.0 objective.0;
      refutes = best_refutes P bx place depth combo form this.lawful.named worth.0 point value this.lawful.right positive tree closed;
    }
