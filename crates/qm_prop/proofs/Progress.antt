-- The reasons of a course lead to its box, whatever rows it goes through.
use Rattle.std.proofs.Common.{◌≡◌, ◌∙◌, sym, ap, subst, ℕ, suc, ◌+◌, ◌<◌, List, [], ◌∷◌, ◌++◌, length, arith, All, pos, ◌≤ℤ◌}
use Rattle.std.specs.Prelude.{Some, IsSomeAnd, slice_get}
use Rattle.std.specs.List.{fold}
use Rattle.std.proofs.lemmas.List.Elements.{All-head, All-tail}
use Rattle.std.proofs.lemmas.List.Sums.{fold-append}
use Rattle.std.proofs.lemmas.Option.{slice_get-get_or}
use Rattle.qm_math.proofs.WholeTests.{lt_of_test, le_of_false}
use Rattle.qm_model.specs.declared.game.Problem.{Problem}
use Rattle.qm_model.specs.declared.range.Range.{Range}
use Rattle.qm_model.specs.declared.row.Row.{Row}
use Rattle.qm_model.specs.declared.row.Term.{Term}
use Rattle.qm_model.specs.declared.row_id.RowId.{RowId}
use Rattle.qm_model.specs.declared.variable.Var.{Var}
use Rattle.qm_model.specs.Boxes.{IsBox, IsDead, IsInside, least_value}
use Rattle.qm_model.specs.Sound.{IsRowOver}
use Rattle.qm_model.specs.Ranges.{range_at}
use Rattle.qm_model.proofs.BoxLaws.{IsBox-length, IsBox-set}
use Rattle.qm_prop.specs.declared.course.Course.{Course}
use Rattle.qm_prop.specs.declared.reason.Reason.{Reason}
use Rattle.qm_prop.specs.Courses.{Swept, by_row, by_term, followed, is_dead, is_whole_at, reason_in, sweep_rows, swept}
use Rattle.qm_prop.specs.Narrower.{slack_of}
use Rattle.qm_prop.specs.Reasons.{AreReasons, Follows, KeepsPoints, box_after, narrowed, row_named}
use Rattle.qm_prop.proofs.Found.{by_reason, by_term_in-least, reason-is}
use Rattle.qm_prop.proofs.Keeping.{term-keeps}
use Rattle.qm_prop.proofs.LeastValues.{IsTermOf, terms-of}
use Rattle.qm_prop.proofs.Narrowing.{narrower-is}
use Rattle.qm_prop.proofs.Rest.{by_death}

-- the reasons lead from the given box to the course's
pub record IsCourse (P : Problem) (given : List Range) (s : Course) : Type 0 where
  pub box : IsBox P.vars s.bx
  pub reasons : AreReasons P given s.reasons
  pub after : s.bx ≡ box_after given s.reasons

-- ---- one more reason
AreReasons-more : (P : Problem) (bx : List Range) (qs : List Reason) (q : Reason) → AreReasons P bx qs → Follows P (box_after bx qs) q → AreReasons P bx (qs ++ q ∷ [])
AreReasons-more P bx [] q are follows = (follows, tt)
AreReasons-more P bx (p ∷ qs) q are follows = (are.0, AreReasons-more P (narrowed bx p) qs q are.1 follows)

followed-course : (P : Problem) (given : List Range) (s : Course) (q : Reason) → IsCourse P given s → Follows P s.bx q → IsCourse P given (followed s q)
followed-course P given s q is follows =
    let inside = λ (r : Range) (at : slice_get s.bx q.var ≡ Some r). subst (IsInside q.after) (unsome q.before r (sym follows.before ∙ at)) follows.inside in
    record {
      box = IsBox-set P.vars s.bx q.var q.after is.box inside;
      reasons = AreReasons-more P given s.reasons q is.reasons (subst (λ bx. Follows P bx q) is.after follows);
      after = ap (λ bx. narrowed bx q) is.after ∙ sym (fold-append narrowed given s.reasons (q ∷ []));
    }
  where
    unsome : (a b : Range) → Some a ≡ Some b → a ≡ b
    unsome a b e = cc

-- ---- one term
-- a term of the row, over one of the variables
pub record IsGood (xs : List Var) (us : List Term) (t : Term) : Type 0 where
  pub of : IsTermOf us t
  pub below : t.var < length xs

pub goods : (xs : List Var) (row : Row) → IsRowOver xs row → All (IsGood xs row.terms) row.terms
goods xs row over i d h = record { of = terms-of row.terms over.ordered i d h; below = over.vars i d h }

follows-of : (P : Problem) (name : RowId) (row : Row) (bx : List Range) (t : Term) (q : Reason) → row_named P name ≡ Some row → IsGood P.vars row.terms t → IsBox P.vars bx
    → least_value row.terms bx ≤ℤ row.right → reason_in P.vars name (slack_of row bx) bx t ≡ Some q → Follows P bx q
follows-of P name row bx t q named good box alive e =
    let found = reason-is P.vars name (slack_of row bx) bx t q e in
    let narrow = narrower-is (is_whole_at P.vars t.var) t.coef (slack_of row bx) (range_at bx t.var) q.after found.after in
    let below : t.var < length bx = rw (IsBox-length P.vars bx box) good.below in
    let at : slice_get bx t.var ≡ Some (range_at bx t.var) = slice_get-get_or bx t.var (record { low = pos 0; high = pos 0 }) below in
    let keeps : KeepsPoints P.vars bx q row = rw found.var (term-keeps P.vars bx row t q.after good.of alive found.after) in
    record {
      before = ap (λ k. slice_get bx k) found.var ∙ at ∙ ap Some (sym found.before);
      inside = subst (IsInside q.after) (sym found.before) narrow.inside;
      narrower = λ same. narrow.differs (same ∙ found.before);
      row = subst (λ o. IsSomeAnd o (KeepsPoints P.vars bx q)) (sym (ap (row_named P) found.row ∙ named)) keeps;
    }

by_terms-course : (P : Problem) (given : List Range) (name : RowId) (row : Row) (ts : List Term) (s : Course) → row_named P name ≡ Some row → All (IsGood P.vars row.terms) ts
    → least_value row.terms s.bx ≤ℤ row.right → IsCourse P given s → IsCourse P given (fold (by_term P.vars name row) s ts)
by_terms-course P given name row [] s named good alive is = is
by_terms-course P given name row (t ∷ ts) s named good alive is =
    let here = All-head (IsGood P.vars row.terms) t ts good in
    let next : IsCourse P given (by_term P.vars name row s t) =
    by_reason (IsCourse P given) s (reason_in P.vars name (slack_of row s.bx) s.bx t) (λ e. is)
    (λ q e. followed-course P given s q is (follows-of P name row s.bx t q named here is.box alive e)) in
    let below : t.var < length s.bx = rw (IsBox-length P.vars s.bx is.box) here.below in
    let least = by_term_in-least P.vars name (slack_of row s.bx) row.terms s t here.of below in
    by_terms-course P given name row ts (by_term P.vars name row s t) named (All-tail (IsGood P.vars row.terms) t ts good) (rw least alive) next

-- ---- a sweep
pub record IsSwept (P : Problem) (given : List Range) (end : Swept) : Type 0 where
  pub course : IsCourse P given end.course
  pub dead : (name : RowId) → end.dead ≡ Some name → IsSomeAnd (row_named P name) (IsDead end.course.bx)

pub sweep_rows-course : (P : Problem) (given : List Range) (name : ℕ → RowId) (number : ℕ) (rows : List Row) (s : Course)
    → ((i : ℕ) → row_named P (name (number + i)) ≡ slice_get rows i) → All (IsRowOver P.vars) rows → IsCourse P given s
    → IsSwept P given (sweep_rows P.vars name number rows s)
sweep_rows-course P given name number [] s named over is = record { course = is; dead = λ other e. absurd (cc) }
sweep_rows-course P given name number (row ∷ rows) s named over is =
    let same : number + 0 ≡ number = omega arith in
    let here : row_named P (name number) ≡ Some row = rw same at (named 0) in
    let next = by_row P.vars (name number) row s in
    by_death (IsSwept P given) (is_dead s.bx row) (swept s (Some (name number))) (sweep_rows P.vars name (suc number) rows next)
    (λ e. record {
      course = is;
      dead = λ other at.
          subst (λ o. IsSomeAnd (row_named P o) (IsDead s.bx)) (unsome (name number) other at)
          (subst (λ o. IsSomeAnd o (IsDead s.bx)) (sym here) (lt_of_test row.right (least_value row.terms s.bx) e));
    })
    (λ e.
    let alive = le_of_false row.right (least_value row.terms s.bx) e in
    let after = by_terms-course P given (name number) row row.terms s here (goods P.vars row (All-head (IsRowOver P.vars) row rows over)) alive is in
    sweep_rows-course P given name (suc number) rows next
    (λ i. let more : number + suc i ≡ suc number + i = omega arith in rw more at (named (suc i)))
    (All-tail (IsRowOver P.vars) row rows over) after)
  where
    unsome : (a b : RowId) → Some a ≡ Some b → a ≡ b
    unsome a b e = cc
