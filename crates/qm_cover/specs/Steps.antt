-- Tests in a row.
use Rattle.std.specs.Prelude.{Bool, false, Ok, if◌then◌else◌}
use Rattle.qm_frac.specs.Checked.{Checked, and_then}

-- the first test that answers no or leaves decides
abbrev pub first_of : Checked Bool → Checked Bool → Checked Bool
first_of x y = and_then x (λ holds. if holds then y else Ok false)
