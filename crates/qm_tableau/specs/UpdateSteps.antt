-- What a pivot does to a row of whole numbers, without the divisors that its numbers have in common.
use Rattle.std.specs.Prelude.{◌≡◌, ℕ, ◌<◌, ℤ, pos, ◌-ℤ◌, ◌*ℤ◌, ◌<ℤ◌, List, length, if◌then◌else◌, ◌==◌}
use Rattle.qm_tableau.specs.declared.updating.Step.{Step}
use Rattle.qm_tableau.specs.Wholes.{IsSmall, IsSmallRow, at_place, fractions_of, updated_row}

-- the row's number in a place and the leaving row's, without a divisor that they have in common
pub record IsStep (at : ℕ) (row leaving : List ℤ) (step : Step) : Type 0 where
  pub place : step.place ≡ at
  pub shared : ℕ
  pub by_is : step.by *ℤ pos shared ≡ at_place leaving at
  pub factor_is : step.factor *ℤ pos shared ≡ at_place row at
  pub some : 0 < shared
  pub positive : pos 0 <ℤ step.by
  pub by_small : IsSmall step.by
  pub factor_small : IsSmall step.factor

-- What a place of the row gets before a common divisor is taken out: place 0 the denominator times `by`, the entering
-- column's place the factor times the leaving row's denominator, each other its number times `by` less the factor times
-- the leaving row's.
abbrev pub number_at : ℕ → ℤ → ℤ → List ℤ → List ℤ → ℕ → ℤ
number_at at by factor row leaving k =
    if k == 0 then at_place row 0 *ℤ by
    else if k == at then factor *ℤ at_place leaving 0
    else (at_place row k *ℤ by) -ℤ (factor *ℤ at_place leaving k)

-- each number of the first n places is that of its place without the divisor, and small
abbrev pub HasParts : ℕ → (ℕ → ℤ) → ℕ → List ℤ → Type 0
HasParts divisor number n out = (k : ℕ) → k < n → (at_place out k *ℤ pos divisor ≡ number k) × IsSmall (at_place out k)

-- a small row with the fractions of the row after a pivot in column c
pub record IsUpdated (c : ℕ) (leaving row out : List ℤ) : Type 0 where
  pub count : length out ≡ length row
  pub small : IsSmallRow out
  pub fractions : fractions_of out ≡ fractions_of (updated_row c leaving row)
