-- The bounds that a text gives a variable.
use Rattle.std.specs.Prelude.{ℕ, pos, Bool, true, false, ◌&&◌, ◌==◌, List, [], ◌∷◌, Option, Some, None, unwrap_or, if◌then◌else◌}
use Rattle.qm_math.specs.Fraction.{Fraction, is_below, whole}
use Rattle.qm_parse.specs.declared.ast.Ast.{Ast}
use Rattle.qm_parse.specs.declared.ast.AstBound.{AstBound}
use Rattle.qm_parse.specs.declared.ast.Relation.{Relation}
use Rattle.qm_parse.specs.declared.ast.Relation.TheVariants.{Less, Greater, Equal}
use Rattle.qm_parse.specs.Checks.{has_name, sets_upper}

-- the relation bounds from below
unfoldable pub sets_lower : Relation → Bool
sets_lower Less = false
sets_lower Greater = true
sets_lower Equal = true

-- the later of two values, where it is there
unfoldable pub later : Option Fraction → Option Fraction → Option Fraction
later earlier None = earlier
later earlier (Some value) = Some value

-- the value of a bound, where it is of this name and of these relations
abbrev pub value_for : (Relation → Bool) → ℕ → AstBound → Option Fraction
value_for sets name bound = if (bound.name == name) && sets bound.relation then bound.value else None

-- the value of the last bound of this name and of these relations
unfoldable pub last_value : (Relation → Bool) → ℕ → List AstBound → Option Fraction
last_value sets name [] = None
last_value sets name (bound ∷ bounds) = later (value_for sets name bound) (last_value sets name bounds)

-- the name stands in BINARIES
abbrev pub is_binary : Ast → ℕ → Bool
is_binary ast name = has_name ast.binaries name

abbrev pub greater_of : Fraction → Fraction → Fraction
greater_of a b = if is_below a b then b else a

abbrev pub lesser_of : Fraction → Fraction → Fraction
lesser_of a b = if is_below b a then b else a

-- the lower bound, 0 where BOUNDS gives none; of a binary it is not below 0
abbrev pub lower_end : Ast → ℕ → Fraction
lower_end ast name =
    if is_binary ast name then greater_of (whole (pos 0)) (unwrap_or (last_value sets_lower name ast.bounds) (whole (pos 0)))
    else unwrap_or (last_value sets_lower name ast.bounds) (whole (pos 0))

-- the upper bound, of a binary 1 where BOUNDS gives none or a greater one; each other variable has one
abbrev pub upper_end : Ast → ℕ → Fraction
upper_end ast name =
    if is_binary ast name then lesser_of (whole (pos 1)) (unwrap_or (last_value sets_upper name ast.bounds) (whole (pos 1)))
    else unwrap_or (last_value sets_upper name ast.bounds) (whole (pos 1))
