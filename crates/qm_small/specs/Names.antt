-- Which names a small text may use, and where.
use Rattle.std.specs.Prelude.{◌≢◌, ℕ, ◌+◌, ◌≤◌, List, length, All, AllPairs, Contains}
use Rattle.qm_small.specs.Written.{Written, WrittenRow, WrittenTerm}

-- no name stands twice
abbrev pub AreDistinct : List (List ℕ) → Type 0
AreDistinct names = AllPairs (λ one other. one ≢ other) names

-- each name stands among the known ones
abbrev pub AreKnown : List (List ℕ) → List (List ℕ) → Type 0
AreKnown known names = All (Contains known) names

-- no name stands among the others
abbrev pub AreApart : List (List ℕ) → List (List ℕ) → Type 0
AreApart others names = All (λ name. ¬ Contains others name) names

-- each term names a known variable
abbrev pub AreOver : List (List ℕ) → List WrittenTerm → Type 0
AreOver known terms = All (λ term. Contains known term.name) terms

-- each row's terms do
abbrev pub AreRowsOver : List (List ℕ) → List WrittenRow → Type 0
AreRowsOver known rows = All (λ row. AreOver known row.terms) rows

-- The lists of names fit one another: BINARIES and ORDER hold the same names, each once, at most 100;
-- EXISTS and ALL hold some of these, and none in common.
pub record ListsFit (written : Written) : Type 0 where
  pub few : length written.binaries ≤ 100
  pub binaries_once : AreDistinct written.binaries
  pub order_once : AreDistinct written.order
  pub binaries_ordered : AreKnown written.order written.binaries
  pub order_known : AreKnown written.binaries written.order
  pub exists_known : AreKnown written.binaries written.exists
  pub universal_known : AreKnown written.binaries written.universal
  pub apart : AreApart written.universal written.exists

-- The text names its variables right: its lists fit one another, each term names one of BINARIES and in the
-- uncertainty rows one of ALL, and there are at most 2,000 rows of both kinds.
pub record NamesFit (written : Written) : Type 0 where
  pub lists : ListsFit written
  pub objective_known : AreOver written.binaries written.objective
  pub rows_known : AreRowsOver written.binaries written.rows
  pub uncertain_known : AreRowsOver written.universal written.uncertain
  pub few_rows : length written.rows + length written.uncertain ≤ 2000
