-- Rows whose numbers the program's fractions can hold.
use Rattle.std.specs.Prelude.{ℕ, ◌<◌, ◌^◌, List, All, IsSomeAnd, length, unsigned_abs}
use Rattle.qm_model.specs.declared.row.Term.{Term}
use Rattle.qm_model.specs.declared.row.Row.{Row}
use Rattle.qm_model.specs.declared.game.Problem.{Problem}
use Rattle.qm_model.specs.Linear.{IsOrdered, HasVarsBelow}
use Rattle.qm_trees.specs.declared.combination.Entry.{Entry}
use Rattle.qm_trees.specs.Entries.{row_named}

-- terms in order, of so many variables, each coefficient a fraction of the program
pub record AreNarrow (n : ℕ) (ts : List Term) : Type 0 where
  pub ordered : IsOrdered ts
  pub vars : HasVarsBelow n ts
  pub coefficients : All (λ t. unsigned_abs t.coef < 2 ^ 127) ts

-- so are the row's, and its right side
pub record IsNarrow (n : ℕ) (row : Row) : Type 0 where
  pub terms : AreNarrow n row.terms
  pub right : unsigned_abs row.right < 2 ^ 127

-- each entry names such a row
abbrev pub NameNarrow : ℕ → Problem → List Row → List Entry → Type 0
NameNarrow n P cuts es = All (λ e. IsSomeAnd (row_named P cuts e.row) (IsNarrow n)) es

-- the rows that are named and the objective are such, and so is the scale, which isn't 0
pub record HasNarrow (P : Problem) (cuts : List Row) (es : List Entry) : Type 0 where
  pub rows : NameNarrow (length P.vars) P cuts es
  pub objective : AreNarrow (length P.vars) P.terms
  pub constant : unsigned_abs P.constant < 2 ^ 127
  pub scale : unsigned_abs P.scale < 2 ^ 127
  pub scale_positive : 0 < unsigned_abs P.scale
