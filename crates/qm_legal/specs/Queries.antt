-- What is asked, and what is answered.
use Rattle.std.specs.Prelude.{◌≡◌, ◌↔◌, ◌≤◌, ℕ, ℤ, List, [], ◌∷◌, ◌++◌, drop, length, take, map, true, Ok}
use Rattle.qm_model.specs.declared.range.Range.{Range}
use Rattle.qm_model.specs.declared.variable.Player.TheVariants.{All as Universal}
use Rattle.qm_model.specs.declared.variable.Var.{Var}
use Rattle.qm_model.specs.declared.game.Problem.{Problem}
use Rattle.qm_model.specs.Boxes.{IsBox, bounds_of}
use Rattle.qm_model.specs.Legal.{IsLegal, universal_part}
use Rattle.qm_model.specs.Plays.{IsPlay, whole_vars}
use Rattle.qm_trees.specs.declared.empty.Empty.{Empty}
use Rattle.qm_trees.specs.EmptyJudgement.{judge_empty}
use Rattle.qm_trees.specs.EmptyRight.{IsRightEmpty, IsEmptyInRange}
use Rattle.qm_trees.specs.Picks.{Fit}
use Rattle.qm_trees.specs.Verdicts.{answer_of}
use Rattle.qm_legal.specs.declared.legality.Legality.{Legality}
use Rattle.qm_legal.specs.declared.legality.Legality.TheVariants.{Completion, Illegal}

-- each universal variable has one value in its range
abbrev pub AreSet : List Var → List Range → Type 0
AreSet [] bx = Unit {0}
AreSet (x ∷ xs) [] = ⊥
AreSet (x ∷ xs) (r ∷ bx) = (x.player ≡ Universal → r.low ≡ r.high) × AreSet xs bx

-- each universal variable's range is its bounds
abbrev pub AreFree : List Var → List Range → Type 0
AreFree [] bx = Unit {0}
AreFree (x ∷ xs) [] = ⊥
AreFree (x ∷ xs) (r ∷ bx) = (x.player ≡ Universal → r ≡ bounds_of x) × AreFree xs bx

-- a box of the game, in which the universal variables before the depth are set and the others are free
pub record IsQuery (P : Problem) (depth : ℕ) (bx : List Range) : Type 0 where
  pub depth_in : depth ≤ P.wholes
  pub box : IsBox P.vars bx
  pub set : AreSet (take depth (whole_vars P)) bx
  pub free : AreFree (drop depth (whole_vars P)) (drop depth bx)

abbrev pub low_of : Range → ℤ
low_of r = r.low

-- the values of the universal variables before the depth
abbrev pub set_values : Problem → ℕ → List Range → List ℤ
set_values P depth bx = universal_part (take depth (whole_vars P)) (map low_of bx)

-- a box of the game, in which the universal variables that the prefix sets have its values and the others are free
pub record IsQueryOf (P : Problem) (prefix : List ℤ) (bx : List Range) : Type 0 where
  pub query : IsQuery P (length prefix) bx
  pub values : set_values P (length prefix) bx ≡ universal_part (whole_vars P) prefix

-- the tree is right over the box, where it may split these variables, and no operation leaves
pub record Shows (P : Problem) (rest : List Var) (depth : ℕ) (bx : List Range) (tree : Empty) : Type 0 where
  pub right : IsRightEmpty P rest depth bx tree
  pub in_range : IsEmptyInRange P rest depth bx tree

-- the tree is right over the box and no operation leaves, so its test passes; and no universal play is left in the box
pub record IsIllegal (P : Problem) (bx : List Range) (tree : Empty) : Type 0 where
  pub shows : Shows P (whole_vars P) 0 bx tree
  pub passes : answer_of (judge_empty P (whole_vars P) 0 bx tree) ≡ Ok true
  pub none : (us : List ℤ) → IsPlay P us → Fit (whole_vars P) bx us → ⊥

-- values that complete those that are set to a universal play, or a tree that shows that there are none
abbrev pub IsRightLegality : Problem → ℕ → List Range → Legality → Type 0
IsRightLegality P depth bx (Completion values) = IsPlay P (set_values P depth bx ++ values)
IsRightLegality P depth bx (Illegal tree) = IsIllegal P bx tree

abbrev pub IsCompletion : Legality → Type 0
IsCompletion (Completion values) = Unit {0}
IsCompletion (Illegal tree) = ⊥

-- a completion is answered exactly where a prefix with the set values is legal
abbrev pub IsExact : Problem → ℕ → List Range → Legality → Type 0
IsExact P depth bx legality = (prefix : List ℤ) → universal_part (whole_vars P) prefix ≡ set_values P depth bx → IsCompletion legality ↔ IsLegal P prefix
