-- Which verdicts are fine, and the tests of lines as facts.
use Rattle.std.proofs.Common.{◌≡◌, Bool, true, false, refl, sym, subst, true≢false, Ok, Err}
use Rattle.std.specs.Prelude.{IsOk, if◌then◌else◌}
use Rattle.std.specs.Bool.{Decides}
use Rattle.qm_frac.specs.Checked.{Checked, and_then}
use Rattle.qm_trees.specs.declared.rule.Rule.{Rule}
use Rattle.qm_trees.specs.Verdicts.{Verdict, Fine, Broken, Left, line, ◌then◌, answer_of}
use Rattle.qm_trees.specs.Passing.{IsFine}

-- the test that is false of what never holds
pub never : Decides false ⊥
never = (λ e. absurd (true≢false (sym e)), λ h. absurd h)

-- the test that is true of what always holds
pub always : Decides true (Unit {0})
always = (λ e. tt, λ h. refl)

-- both of two verdicts
pub fine_parts : (a b : Verdict) → IsFine (a then b) → IsFine a × IsFine b
fine_parts (Fine m) (Fine n) h = (tt, tt)
fine_parts (Fine m) (Broken rule n) h = absurd h
fine_parts (Fine m) (Left leaves n) h = absurd h
fine_parts (Broken rule n) b h = absurd h
fine_parts (Left leaves n) b h = absurd h

pub fine_both : (a b : Verdict) → IsFine a → IsFine b → IsFine (a then b)
fine_both (Fine m) (Fine n) h k = tt
fine_both (Fine m) (Broken rule n) h k = absurd k
fine_both (Fine m) (Left leaves n) h k = absurd k
fine_both (Broken rule n) b h k = absurd h
fine_both (Left leaves n) b h k = absurd h

-- one line
pub fine_line : (rule : Rule) (x : Checked Bool) → IsFine (line rule x) → x ≡ Ok true
fine_line rule (Ok true) h = refl
fine_line rule (Ok false) h = absurd h
fine_line rule (Err leaves) h = absurd h

pub line_fine : (rule : Rule) (x : Checked Bool) → x ≡ Ok true → IsFine (line rule x)
line_fine rule x e = subst (λ y. IsFine (line rule y)) (sym e) tt

-- the test answers yes exactly where all is fine
pub fine_of_answer : (v : Verdict) → answer_of v ≡ Ok true → IsFine v
fine_of_answer (Fine n) e = tt
fine_of_answer (Broken rule n) e = cc
fine_of_answer (Left leaves n) e = cc

pub answer_of_fine : (v : Verdict) → IsFine v → answer_of v ≡ Ok true
answer_of_fine (Fine n) h = refl
answer_of_fine (Broken rule n) h = absurd h
answer_of_fine (Left leaves n) h = absurd h

pub ok_is : {A : Type 0} (a b : A) → ◌≡◌ {A = Checked A} (Ok a) (Ok b) → a ≡ b
ok_is a b e = cc

-- the value of a step that goes through
pub bind_parts : {A B : Type 0} (x : Checked A) (f : A → Checked B) (r : B) → and_then x f ≡ Ok r → (y : A) × (x ≡ Ok y) × (f y ≡ Ok r)
bind_parts (Ok y) f r e = (y, refl, e)
bind_parts (Err leaves) f r e = cc

pub bind_ok : {A : Type 0} (x : Checked A) → IsOk x → (y : A) × (x ≡ Ok y)
bind_ok (Ok y) h = (y, refl)
bind_ok (Err leaves) h = cc

-- ---- a test that stands before another

abbrev pub tested : Bool → Checked Bool → Checked Bool
tested b x = if b then x else Ok false

pub tested_parts : (b : Bool) (x : Checked Bool) → tested b x ≡ Ok true → (b ≡ true) × (x ≡ Ok true)
tested_parts true x e = (refl, e)
tested_parts false x e = cc

pub tested_from : (b : Bool) (x : Checked Bool) → b ≡ true → x ≡ Ok true → tested b x ≡ Ok true
tested_from b x e h = rw e h
