-- What propagation tells of the given box.
use Rattle.std.proofs.Common.{◌≡◌, ◌≢◌, ◌∙◌, sym, ap, refl, subst, ℕ, zero, suc, ◌+◌, ◌≤◌, ◌==◌, inl, inr, Bool, true, false, List, [], ◌∷◌, length, arith, All, ℤ, pos, ◌*ℤ◌, ◌≤ℤ◌, ◌<ℤ◌}
use Rattle.std.specs.Prelude.{Option, Some, None, IsSomeAnd, slice_get, if◌then◌else◌}
use Rattle.std.specs.Option.{option_map_or}
use Rattle.std.proofs.lemmas.Bool.Decides.{eqb_tells, nat_tests}
use Rattle.std.proofs.lemmas.Int.{ints}
use Rattle.std.proofs.lemmas.List.Elements.{All-head, All-tail}
use Rattle.qm_math.proofs.Whole.{scaled_lt}
use Rattle.qm_model.specs.declared.game.Problem.{Problem}
use Rattle.qm_model.specs.declared.range.Range.{Range}
use Rattle.qm_model.specs.declared.row.Row.{Row}
use Rattle.qm_model.specs.declared.row_id.RowId.{RowId}
use Rattle.qm_model.specs.declared.row_id.RowId.TheVariants as id
use Rattle.qm_model.specs.Boxes.{IsBox, IsDead, least_value}
use Rattle.qm_model.specs.Linear.{form}
use Rattle.qm_model.specs.Points.{HoldsOver}
use Rattle.qm_model.specs.Sound.{IsSound}
use Rattle.qm_prop.specs.declared.course.Course.{Course}
use Rattle.qm_prop.specs.declared.reason.Propagated.{Propagated}
use Rattle.qm_prop.specs.declared.reason.Propagated.TheVariants.{Narrowed, Dead}
use Rattle.qm_prop.specs.declared.reason.Reason.{Reason}
use Rattle.qm_prop.specs.declared.sweep.Kind.TheVariants as kind
use Rattle.qm_prop.specs.Courses.{Swept, name_of, propagation_from, propagation_of, sweep_of, sweep_rows, swept}
use Rattle.qm_prop.specs.Points.{AreIn, IsPoint}
use Rattle.qm_prop.specs.Propagation.{AreAtRest, Tells}
use Rattle.qm_prop.specs.Reasons.{AreReasons, KeepsPoints, box_after, narrowed, row_named}
use Rattle.qm_prop.proofs.LeastValues.{least-le-form}
use Rattle.qm_prop.proofs.Progress.{IsCourse, IsSwept, sweep_rows-course}
use Rattle.qm_prop.proofs.Rest.{sweep_rows-more, sweep_rows-rest}

-- ---- points
-- what holds of each row and of the one of this number
numbered : (Q R : Row → Type 0) (rows : List Row) (n : ℕ) → All R rows → IsSomeAnd (slice_get rows n) Q → (row : Row) × Q row × R row
numbered Q R [] n all some = absurd some
numbered Q R (row ∷ rows) zero all some = (row, some, All-head R row rows all)
numbered Q R (row ∷ rows) (suc n) all some = numbered Q R rows n (All-tail R row rows all) some

row-holds : (P : Problem) (bx : List Range) (den : ℕ) (values : List ℤ) (Q : Row → Type 0) (name : RowId) → IsPoint P bx den values → IsSomeAnd (row_named P name) Q
    → (row : Row) × Q row × HoldsOver den values row
row-holds P bx den values Q (id.Row n) point some = numbered Q (HoldsOver den values) P.rows n point.rows some
row-holds P bx den values Q (id.Uncertain n) point some = numbered Q (HoldsOver den values) P.urows n point.urows some
row-holds P bx den values Q (id.Cut n) point some = absurd some

point-after : (P : Problem) (bx : List Range) (qs : List Reason) (den : ℕ) (values : List ℤ) → AreReasons P bx qs → IsPoint P bx den values → IsPoint P (box_after bx qs) den values
point-after P bx [] den values are point = point
point-after P bx (q ∷ qs) den values are point =
    let holds = row-holds P bx den values (KeepsPoints P.vars bx q) q.row point are.0.row in
    point-after P (narrowed bx q) qs den values are.1
    (record { positive = point.positive; within = holds.1 den values point.positive point.within holds.2; rows = point.rows; urows = point.urows })

-- no point is in a box over which a row is dead
dead-void : (P : Problem) (bx : List Range) (name : RowId) (den : ℕ) (values : List ℤ) → IsSomeAnd (row_named P name) (IsDead bx) → ¬ IsPoint P bx den values
dead-void P bx name den values dead point =
    let found = row-holds P bx den values (IsDead bx) name point dead in
    let row = found.0 in
    let least = least-le-form row.terms 0 den P.vars bx values point.within in
    let more = scaled_lt row.right (least_value row.terms bx) den point.positive found.1 in
    absurd (contrary (least_value row.terms bx *ℤ pos den) (form row.terms values) (row.right *ℤ pos den) least found.2 more)
  where
    contrary : (a b c : ℤ) → a ≤ℤ b → b ≤ℤ c → c <ℤ a → ⊥
    contrary a b c h k l = omega (arith, ints)

-- ---- a whole sweep
-- what holds of the sweep of the rows if it finds a dead one, and of that of the uncertainty rows if not
by_end : (Q : Swept → Type 0) (o : Option RowId) (x y : Swept) → ((name : RowId) → o ≡ Some name → Q x) → (o ≡ None → Q y) → Q (option_map_or (λ name. x) o y)
by_end Q None x y found none = none refl
by_end Q (Some name) x y found none = found name refl

abbrev rows_of : Problem → Course → Swept
rows_of P s = sweep_rows P.vars (name_of kind.Rows) 0 P.rows s

abbrev urows_of : Problem → Course → Swept
urows_of P s = sweep_rows P.vars (name_of kind.Uncertain) 0 P.urows s

sweep_of-course : (P : Problem) (given : List Range) (s : Course) → IsSound P → IsCourse P given s → IsSwept P given (sweep_of P s)
sweep_of-course P given s sound is =
    let first = sweep_rows-course P given (name_of kind.Rows) 0 P.rows s (λ i. let e : 0 + i ≡ i = omega arith in ap (slice_get P.rows) e) sound.rows is in
    let second = sweep_rows-course P given (name_of kind.Uncertain) 0 P.urows (rows_of P s).course (λ i. let e : 0 + i ≡ i = omega arith in ap (slice_get P.urows) e) sound.urows first.course in
    by_end (IsSwept P given) (rows_of P s).dead (rows_of P s) (urows_of P (rows_of P s).course) (λ name e. first) (λ e. second)

sweep_of-more : (P : Problem) (s : Course) → length s.reasons ≤ length (sweep_of P s).course.reasons
sweep_of-more P s =
    let first = sweep_rows-more P.vars (name_of kind.Rows) 0 P.rows s in
    let second = sweep_rows-more P.vars (name_of kind.Uncertain) 0 P.urows (rows_of P s).course in
    by_end (λ end. length s.reasons ≤ length end.course.reasons) (rows_of P s).dead (rows_of P s) (urows_of P (rows_of P s).course) (λ name e. first) (λ e. omega (arith, first, second))

sweep_of-rest : (P : Problem) (s : Course) → (sweep_of P s).dead ≡ None → length (sweep_of P s).course.reasons ≡ length s.reasons
    → ((sweep_of P s).course ≡ s) × AreAtRest P s.bx
sweep_of-rest P s none same =
    let first = sweep_rows-more P.vars (name_of kind.Rows) 0 P.rows s in
    let second = sweep_rows-more P.vars (name_of kind.Uncertain) 0 P.urows (rows_of P s).course in
    by_end (λ end. end.dead ≡ None → length end.course.reasons ≡ length s.reasons → (end.course ≡ s) × AreAtRest P s.bx)
    (rows_of P s).dead (rows_of P s) (urows_of P (rows_of P s).course)
    (λ name e none same. absurd (cc))
    (λ e none same.
    let rows = sweep_rows-rest P.vars (name_of kind.Rows) 0 P.rows s e (omega (arith, first, second, same)) in
    let urows = sweep_rows-rest P.vars (name_of kind.Uncertain) 0 P.urows s (subst (λ s'. (urows_of P s').dead ≡ None) rows.0 none)
    (subst (λ s'. length (urows_of P s').course.reasons ≡ length s.reasons) rows.0 same) in
    (ap (λ s'. (urows_of P s').course) rows.0 ∙ urows.0, record { rows = rows.1; urows = urows.1 }))
    none same

-- ---- all sweeps
abbrev answer : Problem → ℕ → Course → Swept → Propagated
answer P n s end =
    option_map_or
    (λ name. Dead name end.course.reasons)
    end.dead
    (if length end.course.reasons == length s.reasons then Narrowed end.course.bx end.course.reasons true else propagation_from P n end.course)

-- what propagation answers after a sweep: at a dead row, after one that adds no reason, and after any other
pub sweep-dead : (P : Problem) (n : ℕ) (s t : Course) (name : RowId) → sweep_of P s ≡ swept t (Some name) → propagation_from P (suc n) s ≡ Dead name t.reasons
unfolding propagation_from
sweep-dead P n s t name e = ap (answer P n s) e

pub sweep-rest : (P : Problem) (n : ℕ) (s t : Course) → sweep_of P s ≡ swept t None → length t.reasons ≡ length s.reasons → propagation_from P (suc n) s ≡ Narrowed t.bx t.reasons true
unfolding propagation_from
sweep-rest P n s t e same = ap (answer P n s) e ∙ chosen (length t.reasons) (length s.reasons) (Narrowed t.bx t.reasons true) (propagation_from P n t) same
  where
    chosen : (a b : ℕ) (x y : Propagated) → a ≡ b → (if a == b then x else y) ≡ x
    chosen a b x y e = grind (arith, nat_tests)

pub sweep-more : (P : Problem) (n : ℕ) (s t : Course) → sweep_of P s ≡ swept t None → length t.reasons ≢ length s.reasons → propagation_from P (suc n) s ≡ propagation_from P n t
unfolding propagation_from
sweep-more P n s t e more = ap (answer P n s) e ∙ chosen (length t.reasons) (length s.reasons) (Narrowed t.bx t.reasons true) (propagation_from P n t) more
  where
    chosen : (a b : ℕ) (x y : Propagated) → a ≢ b → (if a == b then x else y) ≡ y
    chosen a b x y e = grind (arith, nat_tests)

next-answer : (P : Problem) (n : ℕ) (s : Course) → propagation_from P (suc n) s ≡ answer P n s (sweep_of P s)
unfolding propagation_from
next-answer P n s = refl

pub last-answer : (P : Problem) (s : Course) → propagation_from P zero s ≡ Narrowed s.bx s.reasons false
unfolding propagation_from
last-answer P s = refl

-- what an answer tells, where one that isn't settled has at least so many reasons
record NarrowsAfter (P : Problem) (given : List Range) (least : ℕ) (bx : List Range) (qs : List Reason) (at_rest : Bool) : Type 0 where
  course : IsCourse P given (record { bx = bx; reasons = qs })
  settled : at_rest ≡ true → AreAtRest P bx
  unsettled : at_rest ≡ false → least ≤ length qs

record DiesAfter (P : Problem) (given : List Range) (name : RowId) (qs : List Reason) : Type 0 where
  reasons : AreReasons P given qs
  dead : IsSomeAnd (row_named P name) (IsDead (box_after given qs))

abbrev TellsAfter : Problem → List Range → ℕ → Propagated → Type 0
TellsAfter P given least (Narrowed bx qs at_rest) = NarrowsAfter P given least bx qs at_rest
TellsAfter P given least (Dead name qs) = DiesAfter P given name qs

TellsAfter-fewer : (P : Problem) (given : List Range) (least more : ℕ) (p : Propagated) → least ≤ more → TellsAfter P given more p → TellsAfter P given least p
TellsAfter-fewer P given least more (Narrowed bx qs at_rest) le tells = record { course = tells.course; settled = tells.settled; unsettled = λ e. omega (arith, le, tells.unsettled e) }
TellsAfter-fewer P given least more (Dead name qs) le tells = tells

by_answer : (Q : Propagated → Type 0) (o : Option RowId) (f : RowId → Propagated) (p : Propagated) → ((name : RowId) → o ≡ Some name → Q (f name)) → (o ≡ None → Q p) → Q (option_map_or f o p)
by_answer Q None f p found none = none refl
by_answer Q (Some name) f p found none = found name refl

by_count : (Q : Propagated → Type 0) (a b : ℕ) (x y : Propagated) → (a ≡ b → Q x) → (a ≢ b → Q y) → Q (if a == b then x else y)
by_count Q a b x y same more =
    elim (eqb_tells a b) [
      | inl h ↦ subst (λ t. Q (if t then x else y)) (sym h.0) (same h.1)
      | inr h ↦ subst (λ t. Q (if t then x else y)) (sym h.0) (more h.1)
    ]

tells-from : (P : Problem) (given : List Range) (n : ℕ) (s : Course) → IsSound P → IsCourse P given s → TellsAfter P given (n + length s.reasons) (propagation_from P n s)
tells-from P given zero s sound is =
    let here : TellsAfter P given (0 + length s.reasons) (Narrowed s.bx s.reasons false) = record { course = is; settled = λ e. absurd (cc); unsettled = λ e. omega arith } in
    subst (TellsAfter P given (0 + length s.reasons)) (sym (last-answer P s)) here
tells-from P given (suc n) s sound is =
    let end : Swept = sweep_of P s in
    let came = sweep_of-course P given s sound is in
    let least = sweep_of-more P s in
    subst (TellsAfter P given (suc n + length s.reasons)) (sym (next-answer P n s))
    (by_answer (TellsAfter P given (suc n + length s.reasons)) end.dead (λ name. Dead name end.course.reasons)
    (if length end.course.reasons == length s.reasons then Narrowed end.course.bx end.course.reasons true else propagation_from P n end.course)
    (λ name e. record { reasons = came.course.reasons; dead = subst (λ bx. IsSomeAnd (row_named P name) (IsDead bx)) came.course.after (came.dead name e) })
    (λ none.
    by_count (TellsAfter P given (suc n + length s.reasons)) (length end.course.reasons) (length s.reasons)
    (Narrowed end.course.bx end.course.reasons true) (propagation_from P n end.course)
    (λ same.
    let rest = sweep_of-rest P s none same in
    record { course = came.course; settled = λ e. subst (λ (t : Course). AreAtRest P t.bx) (sym rest.0) rest.1; unsettled = λ e. absurd (cc) })
    (λ more.
    TellsAfter-fewer P given (suc n + length s.reasons) (n + length end.course.reasons) (propagation_from P n end.course) (omega (arith, least, more))
    (tells-from P given n end.course sound came.course))))

tells-of : (P : Problem) (given : List Range) (p : Propagated) → TellsAfter P given 32 p → Tells P given p
tells-of P given (Narrowed bx qs at_rest) tells = record {
  box = tells.course.box;
  reasons = tells.course.reasons;
  after = tells.course.after;
  points = λ den values point. subst (λ b. AreIn den P.vars b values) (sym tells.course.after) (point-after P given qs den values tells.course.reasons point).within;
  settled = tells.settled;
  unsettled = tells.unsettled;
}
tells-of P given (Dead name qs) tells = record {
  reasons = tells.reasons;
  dead = tells.dead;
  void = λ den values point. dead-void P (box_after given qs) name den values tells.dead (point-after P given qs den values tells.reasons point);
}

pub propagation-tells : (P : Problem) (bx : List Range) → IsSound P → IsBox P.vars bx → Tells P bx (propagation_of P bx)
propagation-tells P bx sound box =
    let start : Course = record { bx = bx; reasons = [] } in
    let is : IsCourse P bx start = record { box = box; reasons = tt; after = refl } in
    tells-of P bx (propagation_of P bx) (TellsAfter-fewer P bx 32 (32 + 0) (propagation_of P bx) (omega arith) (tells-from P bx 32 start sound is))
