-- How many entries are always enough.
use Rattle.std.specs.Prelude.{ℕ, ◌+◌, ◌*◌, List, [], ◌∷◌, if◌then◌else◌}
use Rattle.qm_math.specs.Ranges.{size_of}
use Rattle.qm_model.specs.declared.variable.Var.{Var}
use Rattle.qm_model.specs.declared.game.Problem.{Problem}
use Rattle.qm_model.specs.Plays.{universal_vars, whole_vars}
use Rattle.qm_journal.specs.Lawful.{is_restricted}

-- how many lists of values within bounds the first of these variables have, the empty list counted
abbrev pub prefix_count : List Var → ℕ
prefix_count [] = 1
prefix_count (x ∷ xs) = 1 + size_of x.low x.high * prefix_count xs

-- how many prefixes there are
abbrev pub whole_prefixes : Problem → ℕ
whole_prefixes P = prefix_count (whole_vars P)

-- how many lists of values of the first universal variables there are
abbrev pub universal_prefixes : Problem → ℕ
universal_prefixes P = prefix_count (universal_vars P)

-- a budget that no lawful journal spends
abbrev pub enough : Problem → ℕ
enough P = if is_restricted P then whole_prefixes P * (1 + universal_prefixes P) else whole_prefixes P
