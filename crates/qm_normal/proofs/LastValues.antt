-- The last value of each name, as bounds are taken in one by one.
use Rattle.std.proofs.Common.{◌≡◌, ℕ, ◌+◌, ◌<◌, Bool, true, false, ◌&&◌, eqb, List, [], ◌∷◌, ◌++◌, take, length, get_or, Option, Some, None, refl, sym, ap, ◌∙◌, if◌then◌else◌}
use Rattle.std.proofs.lemmas.List.{take_more}
use Rattle.qm_math.specs.Fraction.{Fraction}
use Rattle.qm_parse.specs.Checks.{sets_upper}
use Rattle.qm_parse.specs.declared.ast.Ast.{Ast}
use Rattle.qm_parse.specs.declared.ast.AstBound.{AstBound}
use Rattle.qm_parse.specs.declared.ast.Relation.{Relation}
use Rattle.qm_normal.specs.Ends.{last_value, later, sets_lower, value_for}
use Rattle.qm_normal.specs.TableSteps.{IsEndsOf, Notes, value_by}
use Rattle.qm_normal.specs.declared.ends.Ends.{Ends}
use Rattle.qm_normal.specs.declared.latest.Latest.{Latest}

later-none : (value : Option Fraction) → later None value ≡ value
unfolding later
later-none None = refl
later-none (Some value) = refl

none-later : (value : Option Fraction) → later value None ≡ value
unfolding later
none-later value = refl

later-later : (a b c : Option Fraction) → later (later a b) c ≡ later a (later b c)
unfolding later
later-later a b None = refl
later-later a b (Some value) = refl

last_value-append : (sets : Relation → Bool) (name : ℕ) (front behind : List AstBound) → last_value sets name (front ++ behind) ≡ later (last_value sets name front) (last_value sets name behind)
unfolding last_value
last_value-append sets name [] behind = sym (later-none (last_value sets name behind))
last_value-append sets name (bound ∷ front) behind =
    ap (later (value_for sets name bound)) (last_value-append sets name front behind)
    ∙ sym (later-later (value_for sets name bound) (last_value sets name front) (last_value sets name behind))

last_value-one : (sets : Relation → Bool) (name : ℕ) (bound : AstBound) → last_value sets name (bound ∷ []) ≡ value_for sets name bound
unfolding last_value
last_value-one sets name bound = none-later (value_for sets name bound)

-- a value counts where the name is the bound's and the relation is of the kind that is meant
taken_in : (same meant : Bool) (old value : Option Fraction) → (if same then later old (if meant then value else None) else old) ≡ later old (if same && meant then value else None)
taken_in true meant old value = refl
taken_in false meant old value = sym (none-later old)

pub noted_one : (sets : Relation → Bool) (bound : AstBound) (old new : Latest) → ((name : ℕ) → value_by new name ≡ (if eqb bound.name name then later (value_by old name) (if sets bound.relation then bound.value else None) else value_by old name)) → (name : ℕ) → value_by new name ≡ later (value_by old name) (last_value sets name (bound ∷ []))
noted_one sets bound old new noted name =
    noted name ∙ taken_in (eqb bound.name name) (sets bound.relation) (value_by old name) bound.value
    ∙ ap (later (value_by old name)) (sym (last_value-one sets name bound))

-- no bound
pub Notes-nil : (ends : Ends) → Notes [] ends ends
unfolding last_value
Notes-nil ends = record {
  lower = λ name. sym (none-later (value_by ends.lower name));
  upper = λ name. sym (none-later (value_by ends.upper name));
}

more_values : (sets : Relation → Bool) (name : ℕ) (front behind : List AstBound) (old mid new : Option Fraction) → mid ≡ later old (last_value sets name front) → new ≡ later mid (last_value sets name behind) → new ≡ later old (last_value sets name (front ++ behind))
more_values sets name front behind old mid new one other =
    other ∙ ap (λ (value : Option Fraction). later value (last_value sets name behind)) one
    ∙ later-later old (last_value sets name front) (last_value sets name behind)
    ∙ ap (later old) (sym (last_value-append sets name front behind))

-- a step of a loop
pub Notes-more : (bounds : List AstBound) (i : ℕ) (bound : AstBound) (old mid new : Ends) → i < length bounds → bound ≡ get_or bounds i bound → Notes (take i bounds) old mid → Notes (bound ∷ []) mid new → Notes (take (i + 1) bounds) old new
Notes-more bounds i bound old mid new inside at front here =
    rw (take_more bounds i bound inside, ← at) (record {
      lower = λ name. more_values sets_lower name (take i bounds) (bound ∷ []) (value_by old.lower name) (value_by mid.lower name) (value_by new.lower name) (front.lower name) (here.lower name);
      upper = λ name. more_values sets_upper name (take i bounds) (bound ∷ []) (value_by old.upper name) (value_by mid.upper name) (value_by new.upper name) (front.upper name) (here.upper name);
    })

-- all bounds of a text, taken in where there was no value
pub IsEndsOf-made : (ast : Ast) (old new : Ends) → ((name : ℕ) → value_by old.lower name ≡ None) → ((name : ℕ) → value_by old.upper name ≡ None) → Notes ast.bounds old new → IsEndsOf ast new
IsEndsOf-made ast old new lower upper notes = record {
  lower = λ name. notes.lower name ∙ ap (λ (value : Option Fraction). later value (last_value sets_lower name ast.bounds)) (lower name) ∙ later-none (last_value sets_lower name ast.bounds);
  upper = λ name. notes.upper name ∙ ap (λ (value : Option Fraction). later value (last_value sets_upper name ast.bounds)) (upper name) ∙ later-none (last_value sets_upper name ast.bounds);
}
