-- Sweeps through the rows of a problem, each of which narrows the box so far.
use Rattle.std.specs.Prelude.{ℕ, zero, suc, ◌==◌, ◌++◌, int_lt, Bool, true, false, Option, Some, None, List, [], ◌∷◌, length, slice_get, slice_set, if◌then◌else◌}
use Rattle.std.specs.Option.{option_map, option_map_or}
use Rattle.std.specs.List.{fold}
use Rattle.qm_model.specs.declared.game.Problem.{Problem}
use Rattle.qm_model.specs.declared.range.Range.{Range}
use Rattle.qm_model.specs.declared.row.Row.{Row}
use Rattle.qm_model.specs.declared.row.Term.{Term}
use Rattle.qm_model.specs.declared.row_id.RowId.{RowId}
use Rattle.qm_model.specs.declared.row_id.RowId.TheVariants as id
use Rattle.qm_model.specs.declared.variable.Var.{Var}
use Rattle.qm_model.specs.Boxes.{least_value}
use Rattle.qm_model.specs.Ranges.{range_at}
use Rattle.qm_prop.specs.declared.course.Course.{Course}
use Rattle.qm_prop.specs.declared.reason.Propagated.{Propagated}
use Rattle.qm_prop.specs.declared.reason.Propagated.TheVariants.{Narrowed, Dead}
use Rattle.qm_prop.specs.declared.reason.Reason.{Reason}
use Rattle.qm_prop.specs.declared.sweep.Kind.{Kind}
use Rattle.qm_prop.specs.declared.sweep.Kind.TheVariants as kind
use Rattle.qm_prop.specs.Narrower.{narrower, slack_of}

-- whether the variable is whole
abbrev pub is_whole_at : List Var → ℕ → Bool
is_whole_at xs var = option_map_or (λ (x : Var). x.whole) (slice_get xs var) false

-- the course with the reason's range in its variable's place, and the reason put last
abbrev pub followed : Course → Reason → Course
followed s q = record { bx = slice_set s.bx q.var q.after; reasons = s.reasons ++ q ∷ [] }

-- the narrowing of the term's variable by its row, of this name and slack, where it narrows it
abbrev pub reason_in : List Var → RowId → ℕ → List Range → Term → Option Reason
reason_in xs name slack bx t =
    option_map
    (λ after. record { var = t.var; row = name; before = range_at bx t.var; after = after })
    (narrower (is_whole_at xs t.var) t.coef slack (range_at bx t.var))

-- the course goes on by that narrowing
abbrev pub by_term_in : List Var → RowId → ℕ → Course → Term → Course
by_term_in xs name slack s t = option_map_or (followed s) (reason_in xs name slack s.bx t) s

-- the same over the box so far
abbrev pub by_term : List Var → RowId → Row → Course → Term → Course
by_term xs name row s t = by_term_in xs name (slack_of row s.bx) s t

-- a row narrows its variables one after the other, in game order
abbrev pub by_row : List Var → RowId → Row → Course → Course
by_row xs name row s = fold (by_term xs name row) s row.terms

abbrev pub is_dead : List Range → Row → Bool
is_dead bx row = int_lt row.right (least_value row.terms bx)

-- at its turn a row that is dead changes nothing
abbrev pub visited : List Var → RowId → Row → Course → Course
visited xs name row s = if is_dead s.bx row then s else by_row xs name row s

-- how far a sweep came, and the row that was dead at its turn, if one was
pub record Swept : Type 0 where
  pub course : Course
  pub dead : Option RowId

abbrev pub swept : Course → Option RowId → Swept
swept s dead = record { course = s; dead = dead }

-- the names of the rows and of the uncertainty rows, by number
abbrev pub name_of : Kind → ℕ → RowId
name_of kind.Rows number = id.Row number
name_of kind.Uncertain number = id.Uncertain number

-- each row narrows at its turn, up to the first that is then dead
abbrev pub sweep_rows : List Var → (ℕ → RowId) → ℕ → List Row → Course → Swept
sweep_rows xs name number [] s = swept s None
sweep_rows xs name number (row ∷ rows) s =
    if is_dead s.bx row then swept s (Some (name number))
    else sweep_rows xs name (suc number) rows (by_row xs (name number) row s)

-- a sweep goes through the rows, then through the uncertainty rows
abbrev pub sweep_of : Problem → Course → Swept
sweep_of P s =
    let first = sweep_rows P.vars (name_of kind.Rows) 0 P.rows s in
    option_map_or (λ name. first) first.dead (sweep_rows P.vars (name_of kind.Uncertain) 0 P.urows first.course)

-- at most so many sweeps: to a dead row, or until one narrows nothing, or each has narrowed something
unfoldable pub propagation_from : Problem → ℕ → Course → Propagated
propagation_from P zero s = Narrowed s.bx s.reasons false
propagation_from P (suc sweeps) s =
    let end = sweep_of P s in
    option_map_or
    (λ name. Dead name end.course.reasons)
    end.dead
    (if length end.course.reasons == length s.reasons then Narrowed end.course.bx end.course.reasons true else propagation_from P sweeps end.course)

-- at most 32 sweeps from the given box
abbrev pub propagation_of : Problem → List Range → Propagated
propagation_of P bx = propagation_from P 32 (record { bx = bx; reasons = [] })
