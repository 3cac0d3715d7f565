-- What has a small text.
use Rattle.std.specs.Prelude.{◌≢◌, ◌<◌, ◌≤◌, unsigned_abs, List, [], length, All, IsTrue}
use Rattle.qm_small.specs.Written.{Written, WrittenRow, WrittenTerm}
use Rattle.qm_small.specs.Lines.{text_of}
use Rattle.qm_small.specs.Names.{NamesFit}
use Rattle.qm_small.specs.Spelling.{is_name}

-- each factor has six digits at most
abbrev pub HaveShortFactors : List WrittenTerm → Type 0
HaveShortFactors terms = All (λ term. term.factor < 1000000) terms

-- one term at least, and six digits at most in each number
pub record IsWritableRow (row : WrittenRow) : Type 0 where
  pub some : row.terms ≢ []
  pub factors : HaveShortFactors row.terms
  pub right : unsigned_abs row.right < 1000000

-- Names that are right and are spelled as names, rows that have terms, numbers of six digits at most, and a text of
-- 4,194,304 bytes at most.
pub record IsWritable (written : Written) : Type 0 where
  pub names_right : NamesFit written
  pub names : All (λ name. IsTrue (is_name name)) written.binaries
  pub objective : HaveShortFactors written.objective
  pub rows : All IsWritableRow written.rows
  pub uncertain : All IsWritableRow written.uncertain
  pub short : length (text_of written) ≤ 4194304
