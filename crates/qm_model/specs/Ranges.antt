-- Ranges of a box, and the values of one.
use Rattle.std.specs.Prelude.{ℕ, ℤ, pos, Bool, ◌&&◌, int_le, List, slice_index_or}
use Rattle.qm_model.specs.declared.range.Range.{Range}

-- the range of one value
abbrev pub single : ℤ → Range
single v = record { low = v; high = v }

-- the range of a variable in a box
abbrev pub range_at : List Range → ℕ → Range
range_at bx var = slice_index_or bx var (single (pos 0))

abbrev pub is_in : Range → ℤ → Bool
is_in r v = int_le r.low v && int_le v r.high
