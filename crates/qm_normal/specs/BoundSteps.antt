-- The exact bounds of a variable, and their rows. No public clause cites this.
use Rattle.std.specs.Prelude.{ℕ, List, ◌++◌, Option}
use Rattle.std.specs.Option.{option_and_then, option_map}
use Rattle.qm_model.specs.declared.row.Row.{Row}
use Rattle.qm_model.specs.declared.variable.Var.{Var}
use Rattle.qm_parse.specs.declared.ast.Ast.{Ast}
use Rattle.qm_parse.specs.declared.ast.Named.{Named}
use Rattle.qm_normal.specs.declared.bound_rows.Bounds.{Bounds}
use Rattle.qm_normal.specs.declared.ends.Ends.{Ends}
use Rattle.qm_normal.specs.declared.roles.Roles.{Roles}
use Rattle.qm_normal.specs.Ends.{lower_end, upper_end}
use Rattle.qm_normal.specs.Rows.{bound_row, high_row, low_row}
use Rattle.qm_normal.specs.TableSteps.{lower_by, upper_by}

abbrev pub bounds_of : Ast → Named → Bounds
bounds_of ast named = record { lower = lower_end ast named.name; upper = upper_end ast named.name }

-- the same by the tables
abbrev pub bounds_by : Roles → Ends → ℕ → Bounds
bounds_by roles ends name = record { lower = lower_by roles ends name; upper = upper_by roles ends name }

-- the rows of both bounds of the variable of this number, the lower one first, unless one is too wide
abbrev pub rows_of_both : List Var → ℕ → Bounds → Option (List Row)
rows_of_both vars var bounds =
    option_and_then (λ low. option_map (λ high. low ++ high) (bound_row vars bounds.upper (high_row var bounds.upper)))
    (bound_row vars bounds.lower (low_row var bounds.lower))
