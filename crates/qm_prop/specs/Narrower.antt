-- How far a row alone narrows the range of one of its variables.
use Rattle.std.specs.Prelude.{ℕ, ◌+◌, ◌-◌, ◌/◌, nat_lt, ℤ, pos, negsuc, ◌+ℤ◌, ◌-ℤ◌, unsigned_abs, unwrap_or, Bool, Option, Some, None, List, if◌then◌else◌}
use Rattle.qm_math.specs.Ranges.{count_of}
use Rattle.qm_model.specs.declared.row.Row.{Row}
use Rattle.qm_model.specs.declared.range.Range.{Range}
use Rattle.qm_model.specs.Boxes.{least_value}

-- by how much the row's least value over the box falls short of its right side
abbrev pub slack_of : Row → List Range → ℕ
slack_of row bx = count_of (row.right -ℤ least_value row.terms bx)

-- how many steps a variable may lie from its better end, where its coefficient has this size and all other variables
-- lie at theirs: the slack over the size, rounded down for a whole variable, up for a continuous one
abbrev pub room_of : Bool → ℕ → ℕ → ℕ
room_of whole slack size = if whole then slack / size else (slack + (size - 1)) / size

-- how many steps apart the ends of a range are
abbrev pub width_of : Range → ℕ
width_of r = count_of (r.high -ℤ r.low)

-- the range up to so many steps from its low end, and from its high end
abbrev pub above_low : ℕ → Range → Range
above_low steps r = record { low = r.low; high = r.low +ℤ pos steps }

abbrev pub below_high : ℕ → Range → Range
below_high steps r = record { low = r.high -ℤ pos steps; high = r.high }

-- the range up to so many steps from its better end for this coefficient
abbrev pub cut_to : ℤ → ℕ → Range → Range
cut_to (pos k) steps r = above_low steps r
cut_to (negsuc k) steps r = below_high steps r

-- the range as far as a term of this coefficient narrows it in a row of this slack, where it does
abbrev pub narrower : Bool → ℤ → ℕ → Range → Option Range
narrower whole coef slack r =
    if nat_lt (room_of whole slack (unsigned_abs coef)) (width_of r) then Some (cut_to coef (room_of whole slack (unsigned_abs coef)) r) else None

-- the range after that narrowing
abbrev pub range_by : Bool → ℤ → ℕ → Range → Range
range_by whole coef slack r = unwrap_or (narrower whole coef slack r) r
