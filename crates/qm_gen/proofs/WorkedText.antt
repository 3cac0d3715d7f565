-- The texts of 1 and 2 and of 1 and 3, judged by the definitions.
use Rattle.std.proofs.Common.{◌≡◌, [], ◌∷◌, map, refl}
use Rattle.std.specs.Prelude.{codes}
use Rattle.std.specs.Fmt.{digits}
use Rattle.std.specs.List.{range_with_len}
use Rattle.qm_small.specs.Lines.{lines_of}
use Rattle.qm_gen.specs.Draws.{draw, state_behind}
use Rattle.qm_gen.specs.Generated.{generated}

draws : map (draw 1) (range_with_len 0 6) ≡ 16838 ∷ 5758 ∷ 10113 ∷ 17515 ∷ 31051 ∷ 5627 ∷ []
unfolding state_behind
draws = refl

-- 16838 and 5758 for the objective, 10113 and 17515 for the first row, 31051 and 5627 for the second
two_variables : lines_of (generated 1 2)
    ≡ (codes "MAXIMIZE" ∷ []) ∷ (codes "9" ∷ codes "x1" ∷ codes "+" ∷ codes "8" ∷ codes "x2" ∷ [])
    ∷ (codes "SUBJECT" ∷ codes "TO" ∷ [])
    ∷ (codes "2" ∷ codes "x1" ∷ codes "+" ∷ codes "3" ∷ codes "x2" ∷ codes "<=" ∷ codes "2" ∷ [])
    ∷ (codes "1" ∷ codes "x1" ∷ codes "+" ∷ codes "4" ∷ codes "x2" ∷ codes "<=" ∷ codes "2" ∷ [])
    ∷ (codes "BINARIES" ∷ []) ∷ (codes "x1" ∷ codes "x2" ∷ [])
    ∷ (codes "EXISTS" ∷ []) ∷ (codes "x1" ∷ codes "x2" ∷ [])
    ∷ (codes "ORDER" ∷ []) ∷ (codes "x1" ∷ codes "x2" ∷ []) ∷ (codes "END" ∷ []) ∷ []
unfolding state_behind digits
two_variables = refl

-- the third variable is universal
three_variables : lines_of (generated 1 3)
    ≡ (codes "MAXIMIZE" ∷ []) ∷ (codes "9" ∷ codes "x1" ∷ codes "+" ∷ codes "8" ∷ codes "x2" ∷ codes "+" ∷ codes "7" ∷ codes "x3" ∷ [])
    ∷ (codes "SUBJECT" ∷ codes "TO" ∷ [])
    ∷ (codes "3" ∷ codes "x1" ∷ codes "+" ∷ codes "1" ∷ codes "x2" ∷ codes "+" ∷ codes "4" ∷ codes "x3" ∷ codes "<=" ∷ codes "6" ∷ [])
    ∷ (codes "5" ∷ codes "x2" ∷ codes "<=" ∷ codes "2" ∷ [])
    ∷ (codes "5" ∷ codes "x2" ∷ codes "+" ∷ codes "4" ∷ codes "x3" ∷ codes "<=" ∷ codes "6" ∷ [])
    ∷ (codes "UNCERTAINTY" ∷ codes "SUBJECT" ∷ codes "TO" ∷ [])
    ∷ (codes "1" ∷ codes "x3" ∷ codes "<=" ∷ codes "1" ∷ [])
    ∷ (codes "BINARIES" ∷ []) ∷ (codes "x1" ∷ codes "x2" ∷ codes "x3" ∷ [])
    ∷ (codes "EXISTS" ∷ []) ∷ (codes "x1" ∷ codes "x2" ∷ [])
    ∷ (codes "ALL" ∷ []) ∷ (codes "x3" ∷ [])
    ∷ (codes "ORDER" ∷ []) ∷ (codes "x1" ∷ codes "x2" ∷ codes "x3" ∷ []) ∷ (codes "END" ∷ []) ∷ []
unfolding state_behind digits
three_variables = refl
