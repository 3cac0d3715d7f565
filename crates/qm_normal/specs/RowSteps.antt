-- The two sections of rows, and rows whose numbers can be negated. No public clause cites this.
use Rattle.std.specs.Prelude.{◌<◌, ◌^◌, ℕ, List, All, unsigned_abs}
use Rattle.qm_model.specs.declared.row.Row.{Row}
use Rattle.qm_model.specs.declared.row.Term.{Term}
use Rattle.qm_normal.specs.declared.fault.Which.TheVariants as which
use Rattle.qm_normal.specs.declared.fault.Which.{Which}
use Rattle.qm_normal.specs.declared.rows.Section.TheVariants.{Rows, Uncertain}
use Rattle.qm_normal.specs.declared.rows.Section.{Section}
use Rattle.qm_parse.specs.declared.ast.Ast.{Ast}
use Rattle.qm_parse.specs.declared.ast.AstRow.{AstRow}

-- the rows of the section
unfoldable pub rows_in : Section → Ast → List AstRow
rows_in Rows ast = ast.rows
rows_in Uncertain ast = ast.uncertain

-- the row of this number in the section
unfoldable pub part_of : Section → ℕ → Which
part_of Rows number = which.Row number
part_of Uncertain number = which.Uncertainty number

-- numbers of 128 bits whose negated ones have no more
abbrev pub HasNarrowTerms : List Term → Type 0
HasNarrowTerms terms = All (λ term. unsigned_abs term.coef < 2 ^ 127) terms

pub record IsNarrowRow (row : Row) : Type 0 where
  pub terms : HasNarrowTerms row.terms
  pub right : unsigned_abs row.right < 2 ^ 127
