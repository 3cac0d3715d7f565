-- Trees in order, as those of texts are.
use Rattle.std.specs.Prelude.{◌≡◌, ◌<◌, ◌^◌, None, length}
use Rattle.qm_parse.specs.declared.ast.Ast.{Ast}
use Rattle.qm_parse.specs.Checks.{name_fault}
use Rattle.qm_parse.specs.Known.{HasNumbersBelow}
use Rattle.qm_normal.specs.Numbers.{HasProperNumbers}

-- the names are used right and their numbers are known, each number of the tree is proper, and so few rows can be numbered
pub record IsTreeInOrder (ast : Ast) : Type 0 where
  pub names : name_fault ast ≡ None
  pub known : HasNumbersBelow (length ast.names) ast
  pub proper : HasProperNumbers ast
  pub rows : length ast.rows < 2 ^ 31
  pub uncertain : length ast.uncertain < 2 ^ 31
