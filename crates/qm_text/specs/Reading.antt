-- What a reader of numbers answers.
use Rattle.std.specs.Prelude.{◌≡◌, ◌↔◌, Result, Ok, Err}
use Rattle.qm_text.specs.declared.fault.NumberFault.{NumberFault}
use Rattle.qm_text.specs.declared.fault.NumberFault.TheVariants as fault

-- The answer is what is spelled, where that fits; that a number leaves, exactly where what is spelled doesn't fit;
-- and that there is no number, exactly where nothing is spelled.
pub record Reads {V A : Type 0} (Spells Fits : V → Type 0) (value : V → A) (answer : Result A NumberFault) : Type 0 where
  pub ok : (a : A) → (answer ≡ Ok a) ↔ ((v : V) × Spells v × Fits v × (a ≡ value v))
  pub leaves : (answer ≡ Err fault.Leaves) ↔ ((v : V) × Spells v × ¬ Fits v)
  pub not_number : (answer ≡ Err fault.NotNumber) ↔ ((v : V) → ¬ Spells v)

-- the same, where what is spelled is the number itself
abbrev pub ReadsNumber : {V : Type 0} → (V → Type 0) → (V → Type 0) → Result V NumberFault → Type 0
ReadsNumber Spells Fits answer = Reads Spells Fits (λ n. n) answer
