-- How an answer is what a text spells, where it spells one number at most.
use Rattle.std.proofs.Common.{◌≡◌, Ok, Err, refl, sym, ap, ◌∙◌, subst}
use Rattle.qm_text.specs.declared.fault.NumberFault.{NumberFault}
use Rattle.qm_text.specs.declared.fault.NumberFault.TheVariants as fault
use Rattle.qm_text.specs.Reading.{Reads}

pub reads_ok : {V A : Type 0} (Spells Fits : V → Type 0) (value : V → A) → ((v w : V) → Spells v → Spells w → v ≡ w)
    → (v : V) → Spells v → Fits v → Reads Spells Fits value (Ok (value v))
reads_ok {V} {A} Spells Fits value one v spells fits = record {
  ok = λ a. (λ e. (v, spells, fits, cc e), λ h. ap Ok (ap value (one v h.0 spells h.1) ∙ sym h.3));
  leaves = (λ e. cc e, λ h. absurd (h.2 (subst Fits (one v h.0 spells h.1) fits)));
  not_number = (λ e. cc e, λ h. absurd (h v spells));
}

pub reads_leaves : {V A : Type 0} (Spells Fits : V → Type 0) (value : V → A) → ((v w : V) → Spells v → Spells w → v ≡ w)
    → (v : V) → Spells v → ¬ Fits v → Reads Spells Fits value (Err fault.Leaves)
reads_leaves {V} {A} Spells Fits value one v spells not_fits = record {
  ok = λ a. (λ e. cc e, λ h. absurd (not_fits (subst Fits (one h.0 v h.1 spells) h.2)));
  leaves = (λ e. (v, spells, not_fits), λ h. refl);
  not_number = (λ e. cc e, λ h. absurd (h v spells));
}

pub reads_none : {V A : Type 0} (Spells Fits : V → Type 0) (value : V → A) → ((v : V) → ¬ Spells v) → Reads Spells Fits value (Err fault.NotNumber)
reads_none {V} {A} Spells Fits value none = record {
  ok = λ a. (λ e. cc e, λ h. absurd (none h.0 h.1));
  leaves = (λ e. cc e, λ h. absurd (none h.0 h.1));
  not_number = (λ e. none, λ h. refl);
}

-- an error stands for the error of another reading
pub err_passes : {V A W B : Type 0} (Spells Fits : V → Type 0) (value : V → A) (Spells' Fits' : W → Type 0) (value' : W → B)
    → ((v w : W) → Spells' v → Spells' w → v ≡ w) → (e : NumberFault) → Reads Spells Fits value (Err e)
    → (((v : V) → ¬ Spells v) → (w : W) → ¬ Spells' w)
    → ((v : V) → Spells v → ¬ Fits v → (w : W) × Spells' w × ¬ Fits' w)
    → Reads Spells' Fits' value' (Err e)
err_passes {V} {A} {W} {B} Spells Fits value Spells' Fits' value' one fault.NotNumber h none leaves =
    reads_none Spells' Fits' value' (none (h.not_number.0 refl))
err_passes {V} {A} {W} {B} Spells Fits value Spells' Fits' value' one fault.Leaves h none leaves =
    let found = h.leaves.0 refl in
    let other = leaves found.0 found.1 found.2 in
    reads_leaves Spells' Fits' value' one other.0 other.1 other.2

-- what is read is spelled, and fits
pub read_spells : {V : Type 0} (Spells Fits : V → Type 0) (n : V) → Reads Spells Fits (λ m. m) (Ok n) → Spells n
read_spells {V} Spells Fits n h = let read = (h.ok n).0 refl in subst Spells (sym read.3) read.1

pub read_fits : {V : Type 0} (Spells Fits : V → Type 0) (n : V) → Reads Spells Fits (λ m. m) (Ok n) → Fits n
read_fits {V} Spells Fits n h = let read = (h.ok n).0 refl in subst Fits (sym read.3) read.2
