-- Which numbers the program's fractions can hold.
use Rattle.std.specs.Prelude.{ℕ, ◌<◌, ◌^◌, List, All, IsSomeAnd, length, unsigned_abs}
use Rattle.qm_model.specs.declared.row.Term.{Term}
use Rattle.qm_model.specs.declared.row.Row.{Row}
use Rattle.qm_model.specs.declared.range.Range.{Range}
use Rattle.qm_model.specs.declared.game.Problem.{Problem}
use Rattle.qm_model.specs.Linear.{IsOrdered, coefficient}
use Rattle.qm_trees.specs.declared.combination.Entry.{Entry}
use Rattle.qm_trees.specs.Entries.{row_named}

-- the terms are in order, and each coefficient is a fraction of the program
pub record AreNarrow (ts : List Term) : Type 0 where
  pub ordered : IsOrdered ts
  pub coefficients : (var : ℕ) → unsigned_abs (coefficient ts var) < 2 ^ 127

-- so are the row's, and its right side
pub record IsNarrow (row : Row) : Type 0 where
  pub terms : AreNarrow row.terms
  pub right : unsigned_abs row.right < 2 ^ 127

-- each entry names such a row
abbrev pub NameNarrowRows : Problem → List Row → List Entry → Type 0
NameNarrowRows P cuts es = All (λ e. IsSomeAnd (row_named P cuts e.row) IsNarrow) es

-- the rows that are named and the objective are narrow, the scale is not 0, and there are not too many variables
pub record HasNarrowRows (P : Problem) (cuts : List Row) (es : List Entry) (bx : List Range) : Type 0 where
  pub rows : NameNarrowRows P cuts es
  pub objective : AreNarrow P.terms
  pub constant : unsigned_abs P.constant < 2 ^ 127
  pub scale : unsigned_abs P.scale < 2 ^ 127
  pub scale_positive : 0 < unsigned_abs P.scale
  pub few : length bx < 2 ^ 29
