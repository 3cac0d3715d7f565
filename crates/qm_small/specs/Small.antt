-- Small texts, and the problems that they state.
use Rattle.std.specs.Prelude.{◌≡◌, ℕ, ◌≤◌, List, length}
use Rattle.qm_model.specs.declared.game.Problem.{Problem}
use Rattle.qm_small.specs.Written.{Written}
use Rattle.qm_small.specs.Grammar.{SpellsText}
use Rattle.qm_small.specs.Names.{NamesFit}
use Rattle.qm_small.specs.Problems.{problem_of}

-- The text states the problem: it has at most 4,194,304 bytes, it spells something that names its variables right,
-- and the problem is what that says.
pub record IsSmallText (text : List ℕ) (P : Problem) : Type 0 where
  pub short : length text ≤ 4194304
  pub written : Written
  pub spelled : SpellsText text written
  pub names_right : NamesFit written
  pub problem : P ≡ problem_of written
