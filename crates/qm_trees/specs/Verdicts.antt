-- Judgements of trees in the order of their text.
use Rattle.std.specs.Prelude.{ℕ, ◌+◌, Bool, true, false, Ok, Err}
use Rattle.qm_frac.specs.Checked.{Checked}
use Rattle.qm_frac.specs.declared.leaves.Leaves.{Leaves}
use Rattle.qm_trees.specs.declared.rule.Rule.{Rule}

-- so many lines, all of them right; or the first line at fault, counted from 0: it breaks a rule, or an operation leaves
pub data Verdict : Type 0 where
  Fine : ℕ → Verdict
  Broken : Rule → ℕ → Verdict
  Left : Leaves → ℕ → Verdict

-- the first lines, and then the others: the first fault decides
infixr 20 ◌then◌
abbrev pub ◌then◌ : Verdict → Verdict → Verdict
(Fine m) then (Fine n) = Fine (m + n)
(Fine m) then (Broken rule n) = Broken rule (m + n)
(Fine m) then (Left leaves n) = Left leaves (m + n)
(Broken rule n) then after = Broken rule n
(Left leaves n) then after = Left leaves n

-- one line, by what its rule's test answers
abbrev pub line : Rule → Checked Bool → Verdict
line rule (Ok true) = Fine 1
line rule (Ok false) = Broken rule 0
line rule (Err leaves) = Left leaves 0

-- what the test of a tree answers: true where all is fine, false at a broken rule, the operation where one leaves
abbrev pub answer_of : Verdict → Checked Bool
answer_of (Fine n) = Ok true
answer_of (Broken rule n) = Ok false
answer_of (Left leaves n) = Err leaves
