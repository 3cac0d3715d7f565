-- How numbers are spelled.
use Rattle.std.specs.Prelude.{ℕ, List}
use Rattle.qm_text.specs.Decimals.{Decimal, SpellsDecimal}

-- a word that spells a decimal: digits with a point or without one, and behind them an exponent or nothing
abbrev pub IsNumber : List ℕ → Type 0
IsNumber word = (d : Decimal) × SpellsDecimal word d
