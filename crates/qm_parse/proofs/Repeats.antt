-- The first name of a list that stands before its place too, in a loop over the list.
use Rattle.std.proofs.Common.{◌≡◌, ℕ, ◌+◌, ◌<◌, ◌≤◌, Bool, true, false, ◌||◌, eqb, List, [], ◌∷◌, take, drop, length, get_or, Option, Some, None, refl, sym, ap, ◌∙◌}
use Rattle.std.proofs.lemmas.List.{at_drop_more, at_drop_all}
use Rattle.std.proofs.lemmas.List.Folds.{list_any_more}
use Rattle.qm_parse.specs.Checks.{has_name, repeated}
use Rattle.qm_parse.specs.Marks.{IsMarksOf, is_marked}
use Rattle.qm_parse.specs.declared.ast.Named.{Named}
use Rattle.qm_parse.specs.declared.marks.Marks.{Marks}

pub repeated-here : (others : List Named) (named : Named) (list : List Named) → has_name others named.name ≡ true → repeated others (named ∷ list) ≡ Some named
unfolding repeated
repeated-here others named list stands = rw stands refl

pub repeated-later : (others : List Named) (named : Named) (list : List Named) → has_name others named.name ≡ false → repeated others (named ∷ list) ≡ repeated (named ∷ others) list
unfolding repeated
repeated-later others named list new = rw new refl

pub repeated-nil : (others : List Named) → repeated others [] ≡ None
unfolding repeated
repeated-nil others = refl

-- only the names of the others count
repeated-same : (one other list : List Named) → ((name : ℕ) → has_name one name ≡ has_name other name) → repeated one list ≡ repeated other list
unfolding repeated
repeated-same one other [] same = refl
repeated-same one other (named ∷ list) same =
    rw (same named.name, repeated-same (named ∷ one) (named ∷ other) list (λ name. ap (λ b. eqb named.name name || b) (same name))) refl

or_turned : (a b : Bool) → (a || b) ≡ (b || a)
or_turned true true = refl
or_turned true false = refl
or_turned false true = refl
or_turned false false = refl

has_name-more : (list : List Named) (i : ℕ) (d : Named) → i < length list → (name : ℕ) → has_name (take (i + 1) list) name ≡ (has_name (take i list) name || eqb (get_or list i d).name name)
has_name-more list i d inside name = list_any_more (λ (named : Named). eqb named.name name) list i d inside

repeat_here : (list : List Named) (i : ℕ) (d : Named) (answer : Option Named) → i < length list → has_name (take i list) (get_or list i d).name ≡ true → repeated (take i list) (drop i list) ≡ answer → Some (get_or list i d) ≡ answer
repeat_here list i d answer inside stands rest =
    sym (repeated-here (take i list) (get_or list i d) (drop (i + 1) list) stands) ∙ sym (at_drop_more (repeated (take i list)) list i d inside) ∙ rest

repeat_later : (list : List Named) (i : ℕ) (d : Named) (answer : Option Named) → i < length list → has_name (take i list) (get_or list i d).name ≡ false → repeated (take i list) (drop i list) ≡ answer → repeated (take (i + 1) list) (drop (i + 1) list) ≡ answer
repeat_later list i d answer inside new rest =
    let here = get_or list i d in
    repeated-same (take (i + 1) list) (here ∷ take i list) (drop (i + 1) list) (λ name. has_name-more list i d inside name ∙ or_turned (has_name (take i list) name) (eqb here.name name))
    ∙ sym (repeated-later (take i list) here (drop (i + 1) list) new) ∙ sym (at_drop_more (repeated (take i list)) list i d inside) ∙ rest

pub repeat_nowhere : (list : List Named) (i : ℕ) (answer : Option Named) → length list ≤ i → repeated (take i list) (drop i list) ≡ answer → None ≡ answer
repeat_nowhere list i answer outside rest = sym (repeated-nil (take i list)) ∙ sym (at_drop_all (repeated (take i list)) list i outside) ∙ rest

-- marks of the names before the place, one place on
pub marks_more : (list : List Named) (i : ℕ) (d : Named) (old new : Marks) → i < length list → IsMarksOf (take i list) old → ((name : ℕ) → is_marked new name ≡ (is_marked old name || eqb (get_or list i d).name name)) → IsMarksOf (take (i + 1) list) new
marks_more list i d old new inside before more =
    λ name. more name ∙ ap (λ b. b || eqb (get_or list i d).name name) (before name) ∙ sym (has_name-more list i d inside name)

pub marked_later : (list : List Named) (i : ℕ) (d : Named) (before : Marks) (answer : Option Named) → i < length list → IsMarksOf (take i list) before → false ≡ is_marked before (get_or list i d).name → repeated (take i list) (drop i list) ≡ answer → repeated (take (i + 1) list) (drop (i + 1) list) ≡ answer
marked_later list i d before answer inside marks new rest =
    repeat_later list i d answer inside (sym (marks (get_or list i d).name) ∙ sym new) rest

pub marked_here : (list : List Named) (i : ℕ) (d : Named) (before : Marks) (answer : Option Named) → i < length list → IsMarksOf (take i list) before → true ≡ is_marked before (get_or list i d).name → repeated (take i list) (drop i list) ≡ answer → Some (get_or list i d) ≡ answer
marked_here list i d before answer inside marks stands rest =
    repeat_here list i d answer inside (sym (marks (get_or list i d).name) ∙ sym stands) rest
