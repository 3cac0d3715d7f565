-- What the existential player is to reach.
use Rattle.std.specs.Prelude.{◌<◌}
use Rattle.qm_math.specs.Fraction.{Fraction, IsAtMost, IsBelow}

-- to meet the rows with any objective, with one of at least t, or with one above t
pub data Goal : Type 0 where
  Any : Goal
  AtLeast : Fraction → Goal
  Above : Fraction → Goal

abbrev pub Reaches : Fraction → Goal → Type 0
Reaches value Any = Unit {0}
Reaches value (AtLeast t) = IsAtMost t value
Reaches value (Above t) = IsBelow t value

-- whatever reaches the second goal reaches the first
abbrev pub IsNoHarder : Goal → Goal → Type 0
IsNoHarder Any harder = Unit {0}
IsNoHarder (AtLeast s) Any = ⊥
IsNoHarder (AtLeast s) (AtLeast t) = IsAtMost s t
IsNoHarder (AtLeast s) (Above t) = IsAtMost s t
IsNoHarder (Above s) Any = ⊥
IsNoHarder (Above s) (AtLeast t) = IsBelow s t
IsNoHarder (Above s) (Above t) = IsAtMost s t

-- the goal's fraction has a positive denominator
abbrev pub IsProper : Goal → Type 0
IsProper Any = Unit {0}
IsProper (AtLeast t) = 0 < t.den
IsProper (Above t) = 0 < t.den
