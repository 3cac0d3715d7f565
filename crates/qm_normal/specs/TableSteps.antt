-- What the tables of a text's variables say, and which text they are of. No public clause cites this.
use Rattle.std.specs.Prelude.{◌≡◌, ℕ, ℤ, pos, ◌^◌, ◌-ℤ◌, unsigned_abs, Bool, not, ◌&&◌, ◌||◌, nat_le, int_le, List, length, Option, None, slice_index_or, unwrap_or, if◌then◌else◌}
use Rattle.qm_math.specs.Fraction.{Fraction, whole}
use Rattle.qm_math.specs.Rounding.{ceil_of, floor_of}
use Rattle.qm_model.specs.declared.variable.Player.TheVariants.{Exists, All as Universal}
use Rattle.qm_model.specs.declared.variable.Var.{Var}
use Rattle.qm_parse.specs.Checks.{sets_upper}
use Rattle.qm_parse.specs.Marks.{is_marked}
use Rattle.qm_parse.specs.declared.ast.Ast.{Ast}
use Rattle.qm_parse.specs.declared.ast.AstBound.{AstBound}
use Rattle.qm_parse.specs.declared.ast.Named.{Named}
use Rattle.qm_normal.specs.declared.ends.Ends.{Ends}
use Rattle.qm_normal.specs.declared.latest.Latest.{Latest}
use Rattle.qm_normal.specs.declared.order.GameOrder.{GameOrder}
use Rattle.qm_normal.specs.declared.roles.Roles.{Roles}
use Rattle.qm_normal.specs.Ends.{greater_of, is_binary, last_value, later, lesser_of, sets_lower}
use Rattle.qm_normal.specs.Variables.{game_order, is_universal, is_whole, name_of, whole_names}

-- the variable takes whole values alone, by the marks
abbrev pub whole_by : Roles → ℕ → Bool
whole_by roles name = is_marked roles.generals name || is_marked roles.binaries name

abbrev pub binary_by : Roles → ℕ → Bool
binary_by roles name = is_marked roles.binaries name

abbrev pub universal_by : Roles → ℕ → Bool
universal_by roles name = is_marked roles.universal name

-- these are the roles that the text gives its names
pub record IsRolesOf (ast : Ast) (roles : Roles) : Type 0 where
  pub whole : (name : ℕ) → whole_by roles name ≡ is_whole ast name
  pub binary : (name : ℕ) → binary_by roles name ≡ is_binary ast name
  pub universal : (name : ℕ) → universal_by roles name ≡ is_universal ast name

-- the value of a number, if it has one
abbrev pub value_by : Latest → ℕ → Option Fraction
value_by latest name = slice_index_or latest.values name None

-- these bounds are taken in, behind those that were there
pub record Notes (bounds : List AstBound) (old new : Ends) : Type 0 where
  pub lower : (name : ℕ) → value_by new.lower name ≡ later (value_by old.lower name) (last_value sets_lower name bounds)
  pub upper : (name : ℕ) → value_by new.upper name ≡ later (value_by old.upper name) (last_value sets_upper name bounds)

-- these are the values that the text gives its names
pub record IsEndsOf (ast : Ast) (ends : Ends) : Type 0 where
  pub lower : (name : ℕ) → value_by ends.lower name ≡ last_value sets_lower name ast.bounds
  pub upper : (name : ℕ) → value_by ends.upper name ≡ last_value sets_upper name ast.bounds

-- the lower end by the tables
abbrev pub lower_by : Roles → Ends → ℕ → Fraction
lower_by roles ends name =
    if binary_by roles name then greater_of (whole (pos 0)) (unwrap_or (value_by ends.lower name) (whole (pos 0)))
    else unwrap_or (value_by ends.lower name) (whole (pos 0))

-- the upper end by the tables
abbrev pub upper_by : Roles → Ends → ℕ → Fraction
upper_by roles ends name =
    if binary_by roles name then lesser_of (whole (pos 1)) (unwrap_or (value_by ends.upper name) (whole (pos 1)))
    else unwrap_or (value_by ends.upper name) (whole (pos 1))

-- the bounds as whole numbers by the tables
abbrev pub low_by : Roles → Ends → ℕ → ℤ
low_by roles ends name = if whole_by roles name then ceil_of (lower_by roles ends name) else floor_of (lower_by roles ends name)

abbrev pub high_by : Roles → Ends → ℕ → ℤ
high_by roles ends name = if whole_by roles name then floor_of (upper_by roles ends name) else ceil_of (upper_by roles ends name)

-- the variable by the tables
abbrev pub var_by : Ast → Roles → Ends → Named → Var
var_by ast roles ends named = record {
  name = name_of ast named.name;
  player = if universal_by roles named.name then Universal else Exists;
  whole = whole_by roles named.name;
  low = low_by roles ends named.name;
  high = high_by roles ends named.name;
}

-- bounds that aren't too far from 0 and, for a whole variable, not too far apart
abbrev pub fits_between : Bool → ℤ → ℤ → Bool
fits_between whole low high =
    nat_le (unsigned_abs low) (2 ^ 50) && nat_le (unsigned_abs high) (2 ^ 50) && (not whole || int_le (high -ℤ low) (pos 1048575))

abbrev pub fits_by : Roles → Ends → ℕ → Bool
fits_by roles ends name = fits_between (whole_by roles name) (low_by roles ends name) (high_by roles ends name)

-- the variable is whole, or else continuous, by the marks
abbrev pub kept_by : Roles → Bool → ℕ → Bool
kept_by roles whole name = if whole then whole_by roles name else not (whole_by roles name)

-- this is the text's game order
pub record IsGameOrderOf (ast : Ast) (order : GameOrder) : Type 0 where
  pub names : order.names ≡ game_order ast
  pub wholes : order.wholes ≡ length (whole_names ast)
