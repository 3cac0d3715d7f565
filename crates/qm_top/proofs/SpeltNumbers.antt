-- A number within bounds, read from its word.
use Rattle.std.proofs.Common.{◌≡◌, ◌≢◌, ◌<◌, ◌≤◌, ℕ, List, ◌↔◌, ℤ, pos, Option, Some, None, Result, Ok, refl, sym, subst, ◌∙◌, arith, to_z, of_z}
use Rattle.std.specs.Prelude.{FitsSigned, IfNone, IfSome}
use Rattle.std.specs.Int.{w64}
use Rattle.std.specs.Fmt.{decimal, signed_decimal}
use Rattle.std.proofs.lemmas.Int.{to_z-of_z}
use Rattle.qm_text.specs.declared.fault.NumberFault.{NumberFault}
use Rattle.qm_text.specs.Numbers.{SpellsWhole}
use Rattle.qm_text.specs.Reading.{ReadsNumber}
use Rattle.qm_text.proofs.Readings.{read_fits, read_spells}

-- what is written of a number spells it, and nothing else does
abbrev pub OneWord : Type 0
OneWord = (word : List ℕ) (n : ℤ) → FitsSigned w64 n → SpellsWhole word n ↔ (word ≡ signed_decimal n)

-- what a reader of whole numbers answers
abbrev pub IsRead : List ℕ → Result ℤ NumberFault → Type 0
IsRead word answer = ReadsNumber (SpellsWhole word) (FitsSigned w64) answer

-- a number that was read is written as its word
read_word : OneWord → (word : List ℕ) (n : ℕ) → IsRead word (Ok (pos n)) → word ≡ decimal n
read_word law word n read =
    (law word (pos n) (read_fits (SpellsWhole word) (FitsSigned w64) (pos n) read)).0 (read_spells (SpellsWhole word) (FitsSigned w64) (pos n) read)

small_fits : (n : ℕ) → n < 4294967296 → FitsSigned w64 (pos n)
small_fits n small = omega (arith, small)

-- a number below 2^32 is read from its word
pub number_read : OneWord → (word : List ℕ) (answer : Result ℤ NumberFault) (n : ℕ) → n < 4294967296 → IsRead word answer → word ≡ decimal n → answer ≡ Ok (pos n)
number_read law word answer n small read same =
    let fits = small_fits n small in
    (read.ok (pos n)).1 (pos n, (law word (pos n) fits).1 same, fits, refl)

-- a number that was read, as calls pass it
passed : (word : List ℕ) (n : ℤ) → IsRead word (Ok n) → to_z w64 (of_z w64 n) ≡ n
passed word n read = to_z-of_z w64 n (read_fits (SpellsWhole word) (FitsSigned w64) n read)

pub some_number : OneWord → (word : List ℕ) (z : ℤ) (least most : ℕ) (found : Option ℕ) → IsRead word (Ok z)
    → IfSome found (λ n. (least ≤ n) × (n ≤ most) × (to_z w64 (of_z w64 z) ≡ pos n)) → IfSome found (λ n. (least ≤ n) × (n ≤ most) × (word ≡ decimal n))
some_number law word z least most (Some n) read is =
    let same : z ≡ pos n = sym (passed word z read) ∙ is.2 in
    (is.0, is.1, read_word law word n (subst (λ (m : ℤ). IsRead word (Ok m)) same read))
some_number law word z least most None read is = tt

pub no_number : OneWord → (word : List ℕ) (z : ℤ) (least most : ℕ) (found : Option ℕ) → most < 4294967296 → IsRead word (Ok z)
    → IfNone found ((n : ℕ) → least ≤ n → n ≤ most → to_z w64 (of_z w64 z) ≢ pos n) → IfNone found ((n : ℕ) → least ≤ n → n ≤ most → word ≢ decimal n)
no_number law word z least most (Some n) small read none = tt
no_number law word z least most None small read none = λ n above below same.
    let is : Ok z ≡ Ok (pos n) = number_read law word (Ok z) n (omega (arith, small, below)) read same in
    let equal : z ≡ pos n = cc in
    none n above below (passed word z read ∙ equal)
