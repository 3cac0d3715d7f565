-- The limits of a game.
use Rattle.std.specs.Prelude.{ℕ, ◌+◌, ◌^◌, pos, ◌-ℤ◌, unsigned_abs, Bool, not, ◌&&◌, ◌||◌, nat_le, int_le, List, length, sum_by, Option, Some, None, if◌then◌else◌}
use Rattle.qm_model.specs.declared.row.Row.{Row}
use Rattle.qm_model.specs.declared.variable.Var.{Var}
use Rattle.qm_parse.specs.declared.ast.Ast.{Ast}
use Rattle.qm_parse.specs.declared.ast.Named.{Named}
use Rattle.qm_parse.specs.Checks.{first_such}
use Rattle.qm_normal.specs.declared.fault.Counted.TheVariants.{Variables, Rows, Terms}
use Rattle.qm_normal.specs.declared.fault.NormalFault.{NormalFault}
use Rattle.qm_normal.specs.declared.fault.NormalFault.TheVariants as fault
use Rattle.qm_normal.specs.Variables.{name_of, var_of}

-- bounds of at most 2 ^ 50 in magnitude, and of a whole variable at most 1,048,576 values
abbrev pub fits_domain : Var → Bool
fits_domain x =
    nat_le (unsigned_abs x.low) (2 ^ 50) && nat_le (unsigned_abs x.high) (2 ^ 50)
    && (not x.whole || int_le (x.high -ℤ x.low) (pos 1048575))

-- the first variable of ORDER whose domain is too large
abbrev pub large_domain : Ast → Option Named
large_domain ast = first_such (λ named. not (fits_domain (var_of ast named))) ast.order

unfoldable pub domain_fault : Ast → Option Named → Option NormalFault
domain_fault ast None = None
domain_fault ast (Some named) = Some (fault.Domain (name_of ast named.name))

-- too many variables, or else a domain that is too large
abbrev pub variables_fault : Ast → Option NormalFault
variables_fault ast =
    if nat_le (length ast.order) 1000 then domain_fault ast (large_domain ast)
    else Some (fault.Many Variables (length ast.order))

-- how many terms rows have
abbrev pub terms_in : List Row → ℕ
terms_in rows = sum_by (λ row. length row.terms) rows

-- too many rows, or else too many terms
abbrev pub rows_fault : List Row → List Row → Option NormalFault
rows_fault rows urows =
    if not (nat_le (length rows + length urows) 2000) then Some (fault.Many Rows (length rows + length urows))
    else if not (nat_le (terms_in rows + terms_in urows) 200000) then Some (fault.Many Terms (terms_in rows + terms_in urows))
    else None
