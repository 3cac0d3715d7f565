-- A box with a value of the first variable may be asked about behind the empty prefix.
use Rattle.std.proofs.Common.{◌≡◌, refl, ℕ, ◌<◌, List, [], ◌∷◌, length, take, map, get_or, arith}
use Rattle.qm_model.specs.declared.range.Range.{Range}
use Rattle.qm_model.specs.declared.variable.Var.{Var}
use Rattle.qm_model.specs.declared.game.Problem.{Problem}
use Rattle.qm_model.specs.Legal.{universal_part}
use Rattle.qm_model.specs.Plays.{whole_vars}
use Rattle.qm_model.proofs.LegalMoves.{universal_part-none}
use Rattle.qm_legal.specs.Queries.{IsQuery, IsQueryOf, low_of}

one_set : (xs : List Var) (r : Range) (bx : List Range) → universal_part (take 1 xs) (map low_of (r ∷ bx)) ≡ universal_part xs (r.low ∷ [])
one_set [] r bx = refl
one_set (x ∷ xs) r bx = rw (universal_part-none xs) refl

-- the first value is set
pub value_asked : (P : Problem) (bx : List Range) (d : Range) → 0 < length bx → IsQuery P 1 bx → IsQueryOf P ((get_or bx 0 d).low ∷ []) bx
value_asked P [] d some query = absurd (omega (arith, some))
value_asked P (r ∷ bx) d some query = record { query = query; values = one_set (whole_vars P) r bx }
