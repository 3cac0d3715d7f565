-- What the narrowing of one term is, and what it leaves: the box, and the least value of its row.
use Rattle.std.proofs.Common.{◌≡◌, ◌∙◌, sym, ap, refl, subst, ℕ, suc, ◌+◌, ◌<◌, ◌≤◌, List, [], ◌∷◌, length, length-append, get_or, drop, arith, pos}
use Rattle.std.specs.Prelude.{Option, Some, None, slice_get}
use Rattle.std.specs.List.{fold}
use Rattle.std.specs.Option.{ForSome, option_map, option_map_or}
use Rattle.std.proofs.lemmas.Option.{get_or_from_slice_get, slice_get-get_or}
use Rattle.std.proofs.Math.Seq.{drop-cons}
use Rattle.qm_math.specs.Ranges.{least_product}
use Rattle.qm_model.specs.declared.range.Range.{Range}
use Rattle.qm_model.specs.declared.row.Row.{Row}
use Rattle.qm_model.specs.declared.row.Term.{Term}
use Rattle.qm_model.specs.declared.row_id.RowId.{RowId}
use Rattle.qm_model.specs.declared.variable.Var.{Var}
use Rattle.qm_model.specs.Boxes.{IsBox, IsInside, least_value}
use Rattle.qm_model.specs.Linear.{coefficient}
use Rattle.qm_model.specs.Ranges.{range_at}
use Rattle.qm_model.proofs.BoxLaws.{IsBox-set}
use Rattle.qm_prop.specs.declared.course.Course.{Course}
use Rattle.qm_prop.specs.declared.reason.Reason.{Reason}
use Rattle.qm_prop.specs.Courses.{by_term, by_term_in, followed, is_whole_at, reason_in}
use Rattle.qm_prop.specs.Narrower.{narrower, slack_of}
use Rattle.qm_prop.proofs.LeastValues.{IsTermOf, least_value-set}
use Rattle.qm_prop.proofs.Narrowing.{narrower-is}

mapped : (f : Range → Reason) (o : Option Range) (q : Reason) → option_map f o ≡ Some q → (after : Range) × (o ≡ Some after) × (f after ≡ q)
mapped f None q e = absurd (cc)
mapped f (Some after) q e = (after, refl, cc)

-- the reason names the term's variable, its row, the variable's range and the narrower one
pub record IsFound (xs : List Var) (name : RowId) (slack : ℕ) (bx : List Range) (t : Term) (q : Reason) : Type 0 where
  pub var : q.var ≡ t.var
  pub row : q.row ≡ name
  pub before : q.before ≡ range_at bx t.var
  pub after : narrower (is_whole_at xs t.var) t.coef slack (range_at bx t.var) ≡ Some q.after

pub reason-is : (xs : List Var) (name : RowId) (slack : ℕ) (bx : List Range) (t : Term) (q : Reason) → reason_in xs name slack bx t ≡ Some q → IsFound xs name slack bx t q
reason-is xs name slack bx t q e =
    let f : Range → Reason = λ after. record { var = t.var; row = name; before = range_at bx t.var; after = after } in
    let found = mapped f (narrower (is_whole_at xs t.var) t.coef slack (range_at bx t.var)) q e in
    record {
      var = ap (λ (p : Reason). p.var) (sym found.2);
      row = ap (λ (p : Reason). p.row) (sym found.2);
      before = ap (λ (p : Reason). p.before) (sym found.2);
      after = found.1 ∙ ap (λ (p : Reason). Some p.after) found.2;
    }

pub reason-inside : (xs : List Var) (name : RowId) (slack : ℕ) (bx : List Range) (t : Term) (q : Reason) → reason_in xs name slack bx t ≡ Some q → ForSome (slice_get bx q.var) (IsInside q.after)
reason-inside xs name slack bx t q e =
    let found = reason-is xs name slack bx t q e in
    let is = narrower-is (is_whole_at xs t.var) t.coef slack (range_at bx t.var) q.after found.after in
    λ r at. subst (IsInside q.after) (get_or_from_slice_get bx t.var r (record { low = pos 0; high = pos 0 }) (ap (λ k. slice_get bx k) (sym found.var) ∙ at)) is.inside

-- what holds of the course as it is and of each course that goes on holds of the course by the term
pub by_reason : (Q : Course → Type 0) (s : Course) (o : Option Reason) → (o ≡ None → Q s) → ((q : Reason) → o ≡ Some q → Q (followed s q)) → Q (option_map_or (followed s) o s)
by_reason Q s None same more = same refl
by_reason Q s (Some q) same more = more q refl

-- a term leaves a box a box
pub by_term_in-box : (xs : List Var) (name : RowId) (slack : ℕ) (s : Course) (t : Term) → IsBox xs s.bx → IsBox xs (by_term_in xs name slack s t).bx
by_term_in-box xs name slack s t box =
    by_reason (λ s'. IsBox xs s'.bx) s (reason_in xs name slack s.bx t) (λ e. box)
    (λ q e. IsBox-set xs s.bx q.var q.after box (reason-inside xs name slack s.bx t q e))

pub by_terms-box : (xs : List Var) (name : RowId) (row : Row) (ts : List Term) (s : Course) → IsBox xs s.bx → IsBox xs (fold (by_term xs name row) s ts).bx
by_terms-box xs name row [] s box = box
by_terms-box xs name row (t ∷ ts) s box = by_terms-box xs name row ts (by_term xs name row s t) (by_term_in-box xs name (slack_of row s.bx) s t box)

-- a term leaves the least value of its row
pub by_term_in-least : (xs : List Var) (name : RowId) (slack : ℕ) (us : List Term) (s : Course) (t : Term) → IsTermOf us t → t.var < length s.bx
    → least_value us (by_term_in xs name slack s t).bx ≡ least_value us s.bx
by_term_in-least xs name slack us s t is below =
    by_reason (λ s'. least_value us s'.bx ≡ least_value us s.bx) s (reason_in xs name slack s.bx t) (λ e. refl)
    (λ q e.
    let found = reason-is xs name slack s.bx t q e in
    let narrow = narrower-is (is_whole_at xs t.var) t.coef slack (range_at s.bx t.var) q.after found.after in
    let at : slice_get s.bx t.var ≡ Some (range_at s.bx t.var) = slice_get-get_or s.bx t.var (record { low = pos 0; high = pos 0 }) below in
    let same : least_product (coefficient us t.var) q.after.low q.after.high ≡ least_product (coefficient us t.var) (range_at s.bx t.var).low (range_at s.bx t.var).high =
    ap (λ k. least_product k q.after.low q.after.high) is.coefficient ∙ narrow.least
    ∙ ap (λ k. least_product k (range_at s.bx t.var).low (range_at s.bx t.var).high) (sym is.coefficient) in
    rw found.var (least_value-set us s.bx t.var (range_at s.bx t.var) q.after at same))

pub by_term_in-slack : (xs : List Var) (name : RowId) (slack : ℕ) (row : Row) (s : Course) (t : Term) → IsTermOf row.terms t → t.var < length s.bx
    → slack_of row (by_term_in xs name slack s t).bx ≡ slack_of row s.bx
by_term_in-slack xs name slack row s t is below =
    let e = by_term_in-least xs name slack row.terms s t is below in
    rw e

-- one more item of a fold
pub fold-drop : {A B : Type 0} (f : B → A → B) (b : B) (xs : List A) (i : ℕ) (d : A) → i < length xs → fold f b (drop i xs) ≡ fold f (f b (get_or xs i d)) (drop (i + 1) xs)
fold-drop f b xs i d h =
    let next : i + 1 ≡ suc i = omega arith in
    let e : drop i xs ≡ get_or xs i d ∷ drop (suc i) xs = drop-cons xs i d h in
    rw (next, e)

-- ---- how many reasons there are
pub by_term_in-more : (xs : List Var) (name : RowId) (slack : ℕ) (s : Course) (t : Term) → length s.reasons ≤ length (by_term_in xs name slack s t).reasons
by_term_in-more xs name slack s t =
    by_reason (λ s'. length s.reasons ≤ length s'.reasons) s (reason_in xs name slack s.bx t) (λ e. omega arith)
    (λ q e. omega (arith, length-append s.reasons (q ∷ [])))

pub by_terms-more : (xs : List Var) (name : RowId) (row : Row) (ts : List Term) (s : Course) → length s.reasons ≤ length (fold (by_term xs name row) s ts).reasons
by_terms-more xs name row [] s = omega arith
by_terms-more xs name row (t ∷ ts) s =
    omega (arith, by_term_in-more xs name (slack_of row s.bx) s t, by_terms-more xs name row ts (by_term xs name row s t))
