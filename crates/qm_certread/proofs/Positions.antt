-- Positions of variables, as words name them.
use Rattle.std.proofs.Common.{◌≡◌, ℕ, zero, suc, ◌<◌, ◌≤◌, ◌^◌, List, [], ◌∷◌, length, ℤ, pos, negsuc, Option, None, Some, Result, Ok, Err, inl, inr, refl, sym, ap, ◌∙◌, to_z, of_z, arith}
use Rattle.std.specs.Prelude.{FitsSigned, slice_get, ◌&&◌, nat_le, if◌then◌else◌}
use Rattle.std.specs.Int.{w64}
use Rattle.std.proofs.lemmas.Int.{to_z-of_z}
use Rattle.std.proofs.lemmas.List.{length-take}
use Rattle.std.proofs.lemmas.Bool.{cases_lt}
use Rattle.qm_text.specs.Numbers.{SpellsWhole}
use Rattle.qm_text.specs.Reading.{ReadsNumber}
use Rattle.qm_text.specs.declared.fault.NumberFault.{NumberFault}
use Rattle.qm_text.specs.declared.fault.NumberFault.TheVariants as number
use Rattle.qm_text.proofs.Readings.{read_spells, read_fits}
use Rattle.qm_model.specs.declared.variable.Var.{Var}
use Rattle.qm_model.specs.declared.game.Problem.{Problem}
use Rattle.qm_model.specs.Plays.{is_universal, whole_vars}
use Rattle.qm_certread.specs.declared.fault.Misread.{Misread}
use Rattle.qm_certread.specs.declared.fault.Misread.TheVariants as rule
use Rattle.qm_certread.specs.Spelling.{Said, whole_of}
use Rattle.qm_certread.specs.Forms.{position_said}
use Rattle.qm_certread.specs.SaidSteps.{position_from}
use Rattle.qm_certread.proofs.Decoded.{whole_is, whole_some}

pub get_none : {X : Type 0} (xs : List X) (n : ℕ) → length xs ≤ n → slice_get xs n ≡ None
get_none [] n h = refl
get_none (x ∷ xs) zero h = absurd (omega arith)
get_none (x ∷ xs) (suc n) h = get_none xs n (omega arith)

pub position_passed : (P : Problem) (least : ℕ) (word : List ℕ) (z : ℤ) (r : Result ℕ Misread) → ReadsNumber (SpellsWhole word) (FitsSigned w64) (Ok z)
    → r ≡ position_from P least (Some (to_z w64 (of_z w64 z))) → r ≡ position_said P least word
position_passed P least word z r reads e =
    e ∙ ap (λ (y : ℤ). position_from P least (Some y)) (to_z-of_z w64 z (read_fits (SpellsWhole word) (FitsSigned w64) z reads))
    ∙ ap (position_from P least) (sym (whole_is word z (read_spells (SpellsWhole word) (FitsSigned w64) z reads)))

few : (P : Problem) → P.wholes < 2 ^ 32 → length (whole_vars P) < 2 ^ 32
few P h = let len = length-take P.wholes P.vars in omega arith

high_of : (n len : ℕ) → len < 2 ^ 32 → ¬ FitsSigned w64 (pos (suc n)) → len ≤ n
high_of n len h large =
    elim (cases_lt n len) [
      | inl less ↦ absurd (large (omega arith))
      | inr more ↦ more
    ]

abbrev position_of_var : ℕ → ℕ → Option Var → Said ℕ
position_of_var least n found =
    elim (elim found as (λ _. Option ℕ) [ None ↦ None | Some x ↦ (if is_universal x && nat_le least n then Some n else None) ]) as (λ _. Said ℕ) [ None ↦ Err rule.Text | Some k ↦ Ok k ]

far : (P : Problem) (least : ℕ) (z : ℤ) → P.wholes < 2 ^ 32 → ¬ FitsSigned w64 z → position_from P least (Some z) ≡ Err rule.Text
far P least (pos zero) h large = refl
far P least (pos (suc n)) h large =
    let few = few P h in
    let high : length (whole_vars P) ≤ n = high_of n (length (whole_vars P)) few large in
    ap (λ (o : Option Var). position_of_var least n o) (get_none (whole_vars P) n high)
far P least (negsuc n) h large = refl

none_spelled : (word : List ℕ) (found : Option ℤ) → whole_of word ≡ found → ((z : ℤ) → ¬ SpellsWhole word z) → whole_of word ≡ None
none_spelled word None is none = is
none_spelled word (Some z) is none = absurd (none z (whole_some word z is))

pub position_err : (P : Problem) (least : ℕ) (word : List ℕ) (e : NumberFault) → P.wholes < 2 ^ 32 → ReadsNumber (SpellsWhole word) (FitsSigned w64) (Err e) → Err rule.Text ≡ position_said P least word
position_err P least word number.NotNumber h reads = sym (ap (position_from P least) (none_spelled word (whole_of word) refl (reads.not_number.0 refl)))
position_err P least word number.Leaves h reads =
    let read = reads.leaves.0 refl in
    sym (ap (position_from P least) (whole_is word read.0 read.1) ∙ far P least read.0 h read.2)
