-- A sweep that adds no reason leaves the course, and then no row alone narrows its box.
use Rattle.std.proofs.Common.{◌≡◌, ◌∙◌, ap, refl, subst, ℕ, suc, ◌≤◌, Bool, true, false, List, [], ◌∷◌, length, length-append, arith, All}
use Rattle.std.specs.Prelude.{Option, Some, None, if◌then◌else◌}
use Rattle.std.specs.List.{fold}
use Rattle.std.specs.Option.{option_map}
use Rattle.std.proofs.lemmas.Int.{ints}
use Rattle.std.proofs.lemmas.List.Elements.{All-cons}
use Rattle.qm_math.proofs.WholeTests.{le_of_false}
use Rattle.qm_model.specs.declared.range.Range.{Range}
use Rattle.qm_model.specs.declared.row.Row.{Row}
use Rattle.qm_model.specs.declared.row.Term.{Term}
use Rattle.qm_model.specs.declared.row_id.RowId.{RowId}
use Rattle.qm_model.specs.declared.variable.Var.{Var}
use Rattle.qm_model.specs.Boxes.{least_value}
use Rattle.qm_model.specs.Ranges.{range_at}
use Rattle.qm_prop.specs.declared.course.Course.{Course}
use Rattle.qm_prop.specs.declared.reason.Reason.{Reason}
use Rattle.qm_prop.specs.Courses.{Swept, by_row, by_term, is_dead, is_whole_at, reason_in, sweep_rows, swept}
use Rattle.qm_prop.specs.Narrower.{narrower, slack_of}
use Rattle.qm_prop.specs.Propagation.{IsAtRest}
use Rattle.qm_prop.proofs.Found.{by_reason, by_term_in-more, by_terms-more}

-- ---- a row that is dead
-- ---- a term
-- the term does not narrow its variable over the box
abbrev pub IsStill : List Var → Row → List Range → Term → Type 0
IsStill xs row bx t = narrower (is_whole_at xs t.var) t.coef (slack_of row bx) (range_at bx t.var) ≡ None

unmapped : (f : Range → Reason) (o : Option Range) → option_map f o ≡ None → o ≡ None
unmapped f None e = refl
unmapped f (Some after) e = absurd (cc)

by_term-rest : (xs : List Var) (name : RowId) (row : Row) (s : Course) (t : Term) → length (by_term xs name row s t).reasons ≡ length s.reasons
    → (by_term xs name row s t ≡ s) × IsStill xs row s.bx t
by_term-rest xs name row s t same =
    let none : (s' : Course) → Type 0 = λ s'. length s'.reasons ≡ length s.reasons → (s' ≡ s) × (reason_in xs name (slack_of row s.bx) s.bx t ≡ None) in
    let both : (by_term xs name row s t ≡ s) × (reason_in xs name (slack_of row s.bx) s.bx t ≡ None) =
    by_reason none s (reason_in xs name (slack_of row s.bx) s.bx t) (λ e h. (refl, e)) (λ q e h. absurd (omega (arith, h, length-append s.reasons (q ∷ [])))) same in
    let f : Range → Reason = λ after. record { var = t.var; row = name; before = range_at s.bx t.var; after = after } in
    (both.0, unmapped f (narrower (is_whole_at xs t.var) t.coef (slack_of row s.bx) (range_at s.bx t.var)) both.1)

by_terms-rest : (xs : List Var) (name : RowId) (row : Row) (ts : List Term) (s : Course) → length (fold (by_term xs name row) s ts).reasons ≡ length s.reasons
    → (fold (by_term xs name row) s ts ≡ s) × All (IsStill xs row s.bx) ts
by_terms-rest xs name row [] s same = (refl, λ i d h. absurd (omega arith))
by_terms-rest xs name row (t ∷ ts) s same =
    let least = by_term_in-more xs name (slack_of row s.bx) s t in
    let more = by_terms-more xs name row ts (by_term xs name row s t) in
    let here = by_term-rest xs name row s t (omega (arith, least, more, same)) in
    let rest = by_terms-rest xs name row ts s (subst (λ s'. length (fold (by_term xs name row) s' ts).reasons ≡ length s.reasons) here.0 same) in
    (ap (λ s'. fold (by_term xs name row) s' ts) here.0 ∙ rest.0, All-cons (IsStill xs row s.bx) t ts here.1 rest.1)

-- ---- a sweep
-- what holds of the sweep if the row is dead and if it isn't
pub by_death : (Q : Swept → Type 0) (b : Bool) (x y : Swept) → (b ≡ true → Q x) → (b ≡ false → Q y) → Q (if b then x else y)
by_death Q true x y dead alive = dead refl
by_death Q false x y dead alive = alive refl

pub sweep_rows-more : (xs : List Var) (name : ℕ → RowId) (number : ℕ) (rows : List Row) (s : Course) → length s.reasons ≤ length (sweep_rows xs name number rows s).course.reasons
sweep_rows-more xs name number [] s = omega arith
sweep_rows-more xs name number (row ∷ rows) s =
    let next = by_row xs (name number) row s in
    by_death (λ end. length s.reasons ≤ length end.course.reasons) (is_dead s.bx row) (swept s (Some (name number))) (sweep_rows xs name (suc number) rows next)
    (λ e. omega arith)
    (λ e. omega (arith, by_terms-more xs (name number) row row.terms s, sweep_rows-more xs name (suc number) rows next))

pub sweep_rows-rest : (xs : List Var) (name : ℕ → RowId) (number : ℕ) (rows : List Row) (s : Course) → (sweep_rows xs name number rows s).dead ≡ None
    → length (sweep_rows xs name number rows s).course.reasons ≡ length s.reasons
    → ((sweep_rows xs name number rows s).course ≡ s) × All (IsAtRest xs s.bx) rows
sweep_rows-rest xs name number [] s none same = (refl, λ i d h. absurd (omega arith))
sweep_rows-rest xs name number (row ∷ rows) s none same =
    let next = by_row xs (name number) row s in
    by_death (λ end. end.dead ≡ None → length end.course.reasons ≡ length s.reasons → (end.course ≡ s) × All (IsAtRest xs s.bx) (row ∷ rows))
    (is_dead s.bx row) (swept s (Some (name number))) (sweep_rows xs name (suc number) rows next)
    (λ e none same. absurd (cc))
    (λ e none same.
    let least = by_terms-more xs (name number) row row.terms s in
    let more = sweep_rows-more xs name (suc number) rows next in
    let here = by_terms-rest xs (name number) row row.terms s (omega (arith, least, more, same)) in
    let rest = sweep_rows-rest xs name (suc number) rows s (subst (λ s'. (sweep_rows xs name (suc number) rows s').dead ≡ None) here.0 none)
    (subst (λ s'. length (sweep_rows xs name (suc number) rows s').course.reasons ≡ length s.reasons) here.0 same) in
    let alive = le_of_false row.right (least_value row.terms s.bx) e in (
      ap (λ s'. (sweep_rows xs name (suc number) rows s').course) here.0 ∙ rest.0,
      All-cons (IsAtRest xs s.bx) row rows (record { alive = λ dead. omega (arith, ints, alive, dead); still = here.1 }) rest.1,
    ))
    none same
