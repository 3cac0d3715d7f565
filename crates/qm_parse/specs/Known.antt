-- Numbers that are those of names, where there are so many names.
use Rattle.std.specs.Prelude.{ℕ, ◌<◌, List, All, IfSome}
use Rattle.qm_parse.specs.declared.ast.Ast.{Ast}
use Rattle.qm_parse.specs.declared.ast.AstBound.{AstBound}
use Rattle.qm_parse.specs.declared.ast.AstRow.{AstRow}
use Rattle.qm_parse.specs.declared.ast.AstTerm.{AstTerm}
use Rattle.qm_parse.specs.declared.ast.Named.{Named}
use Rattle.qm_parse.specs.declared.word.Symbol.{Symbol}
use Rattle.qm_parse.specs.declared.word.Word.{Word}
use Rattle.qm_parse.specs.declared.word.Word.TheVariants.{Name}

-- where the word is a name, it is one of these
abbrev pub IsKnown : ℕ → Word → Type 0
IsKnown n (Name name labels) = name < n
IsKnown n word = Unit

-- each name among the symbols is one of these
abbrev pub AreKnown : ℕ → List Symbol → Type 0
AreKnown n symbols = All (λ symbol. IsKnown n symbol.word) symbols

-- a constant has no name
abbrev pub IsTermBelow : ℕ → AstTerm → Type 0
IsTermBelow n term = IfSome term.name (λ name. name < n)

abbrev pub AreTermsBelow : ℕ → List AstTerm → Type 0
AreTermsBelow n terms = All (IsTermBelow n) terms

abbrev pub AreRowsBelow : ℕ → List AstRow → Type 0
AreRowsBelow n rows = All (λ row. AreTermsBelow n row.terms) rows

abbrev pub AreBoundsBelow : ℕ → List AstBound → Type 0
AreBoundsBelow n bounds = All (λ bound. bound.name < n) bounds

abbrev pub AreNamesBelow : ℕ → List Named → Type 0
AreNamesBelow n list = All (λ named. named.name < n) list

-- each number of a name in the tree is below this
pub record HasNumbersBelow (n : ℕ) (ast : Ast) : Type 0 where
  pub objective : AreTermsBelow n ast.objective
  pub rows : AreRowsBelow n ast.rows
  pub uncertain : AreRowsBelow n ast.uncertain
  pub bounds : AreBoundsBelow n ast.bounds
  pub generals : AreNamesBelow n ast.generals
  pub binaries : AreNamesBelow n ast.binaries
  pub existential : AreNamesBelow n ast.existential
  pub universal : AreNamesBelow n ast.universal
  pub order : AreNamesBelow n ast.order
