-- Rows and entries, as words say them.
use Rattle.std.proofs.Common.{◌≡◌, ◌≢◌, ℕ, zero, suc, ◌-◌, ◌^◌, Bool, true, false, ℤ, pos, negsuc, Option, None, Some, Ok, Err, refl, sym, ap, ◌∙◌, arith}
use Rattle.std.specs.Prelude.{nat_lt, if◌then◌else◌}
use Rattle.std.specs.Option.{option_map}
use Rattle.qm_model.specs.declared.row_id.RowId.{RowId}
use Rattle.qm_certread.specs.declared.fault.Misread.{Misread}
use Rattle.qm_certread.specs.declared.fault.Misread.TheVariants as rule
use Rattle.qm_certread.specs.Spelling.{Said, of_type, as_count, as_row, row_id, written}
use Rattle.qm_certread.specs.WordSteps.{row_number_said}
use Rattle.qm_certread.proofs.Decoded.{typed_some, outside}

-- ---- the number of a row

count_by : (t : Bool) (n m : ℕ) → nat_lt n (2 ^ 32) ≡ t → of_type as_count (Some (pos n)) ≡ Ok m → (t ≡ true) × (n ≡ m)
count_by true n m is e = let here : of_type as_count (Some (pos n)) ≡ Ok n = typed_some as_count (pos n) n (rw is refl) in (refl, cc)
count_by false n m is e = let here : of_type as_count (Some (pos n)) ≡ Err rule.Number = outside as_count (pos n) (rw is refl) in absurd cc

pub row_zero : (found : Option ℤ) → of_type as_count found ≡ Ok 0 → row_number_said found ≡ Err rule.Text
row_zero None e = refl
row_zero (Some (pos zero)) e = refl
row_zero (Some (pos (suc n))) e = let told = count_by (nat_lt (suc n) (2 ^ 32)) (suc n) 0 refl e in absurd (omega (arith, told.1))
row_zero (Some (negsuc n)) e = absurd cc

pub row_some : (found : Option ℤ) (m : ℕ) → of_type as_count found ≡ Ok m → m ≢ 0 → row_number_said found ≡ Ok (m - 1)
row_some None m e h = absurd cc
row_some (Some (pos zero)) m e h = let told = count_by (nat_lt 0 (2 ^ 32)) 0 m refl e in absurd (h (sym told.1))
row_some (Some (pos (suc n))) m e h =
    let told = count_by (nat_lt (suc n) (2 ^ 32)) (suc n) m refl e in
    let same : n ≡ m - 1 = omega (arith, told.1) in
    rw told.0 (ap Ok same)
row_some (Some (negsuc n)) m e h = absurd cc

err_by : (t : Bool) (n : ℕ) (f : Misread) → nat_lt n (2 ^ 32) ≡ t → of_type as_count (Some (pos n)) ≡ Err f → (t ≡ false) × (rule.Number ≡ f)
err_by true n f is e = let here : of_type as_count (Some (pos n)) ≡ Ok n = typed_some as_count (pos n) n (rw is refl) in absurd cc
err_by false n f is e = let here : of_type as_count (Some (pos n)) ≡ Err rule.Number = outside as_count (pos n) (rw is refl) in (refl, cc)

pub row_err : (found : Option ℤ) (f : Misread) → of_type as_count found ≡ Err f → row_number_said found ≡ Err f
row_err None f e = e
row_err (Some (pos zero)) f e = let told = err_by (nat_lt 0 (2 ^ 32)) 0 f refl e in absurd cc
row_err (Some (pos (suc n))) f e =
    let told = err_by (nat_lt (suc n) (2 ^ 32)) (suc n) f refl e in
    rw told.0 (ap Err told.1)
row_err (Some (negsuc n)) f e = e

-- a row of a kind, by its number
abbrev pub row_from : ℕ → Said ℕ → Said RowId
row_from kind (Ok n) = Ok (row_id kind n)
row_from kind (Err f) = Err f

row_type : (t : Bool) (kind n : ℕ) → nat_lt (suc n) (2 ^ 32) ≡ t
    → of_type as_row (Some (record { kind = kind; number = pos (suc n) })) ≡ row_from kind (if t then Ok n else Err rule.Number)
row_type true kind n is =
    let count : as_count (pos (suc n)) ≡ Some (suc n) = rw is refl in
    let before : suc n - 1 ≡ n = omega arith in
    typed_some as_row (record { kind = kind; number = pos (suc n) }) (row_id kind n)
    (ap (option_map (λ m. row_id kind (m - 1))) count ∙ ap (λ m. Some (row_id kind m)) before)
row_type false kind n is =
    let count : as_count (pos (suc n)) ≡ None = rw is refl in
    outside as_row (record { kind = kind; number = pos (suc n) }) (ap (option_map (λ m. row_id kind (m - 1))) count)

pub row_said : (kind : ℕ) (found : Option ℤ) → of_type as_row (written (Some kind) found) ≡ row_from kind (row_number_said found)
row_said kind None = refl
row_said kind (Some (pos zero)) = refl
row_said kind (Some (pos (suc n))) = row_type (nat_lt (suc n) (2 ^ 32)) kind n refl
row_said kind (Some (negsuc n)) = refl
