-- The first of a list that a test accepts, in a loop over the list.
use Rattle.std.proofs.Common.{◌≡◌, ℕ, ◌+◌, ◌<◌, ◌≤◌, Bool, true, false, List, [], ◌∷◌, drop, length, get_or, Option, Some, None, refl, sym, ◌∙◌}
use Rattle.std.proofs.lemmas.List.{at_drop_more, at_drop_all}
use Rattle.qm_parse.specs.Checks.{first_such}
use Rattle.qm_parse.specs.declared.ast.Named.{Named}

pub first_such-here : (test : Named → Bool) (named : Named) (list : List Named) → test named ≡ true → first_such test (named ∷ list) ≡ Some named
unfolding first_such
first_such-here test named list accepted = rw accepted

pub first_such-later : (test : Named → Bool) (named : Named) (list : List Named) → test named ≡ false → first_such test (named ∷ list) ≡ first_such test list
unfolding first_such
first_such-later test named list refused = rw refused

pub first_such-nil : (test : Named → Bool) → first_such test [] ≡ None
unfolding first_such
first_such-nil test = refl

-- tests that agree find the same
pub first_such-same : (test other : Named → Bool) → ((named : Named) → test named ≡ other named) → (list : List Named) → first_such test list ≡ first_such other list
unfolding first_such
first_such-same test other same [] = refl
first_such-same test other same (named ∷ list) = rw (same named, first_such-same test other same list)

-- where the search ends, and how it goes on
pub found_here : (test : Named → Bool) (list : List Named) (i : ℕ) (d : Named) (answer : Option Named) → i < length list → test (get_or list i d) ≡ true → first_such test (drop i list) ≡ answer → Some (get_or list i d) ≡ answer
found_here test list i d answer inside accepted rest =
    sym (first_such-here test (get_or list i d) (drop (i + 1) list) accepted) ∙ sym (at_drop_more (first_such test) list i d inside) ∙ rest

pub found_later : (test : Named → Bool) (list : List Named) (i : ℕ) (d : Named) (answer : Option Named) → i < length list → test (get_or list i d) ≡ false → first_such test (drop i list) ≡ answer → first_such test (drop (i + 1) list) ≡ answer
found_later test list i d answer inside refused rest =
    sym (first_such-later test (get_or list i d) (drop (i + 1) list) refused) ∙ sym (at_drop_more (first_such test) list i d inside) ∙ rest

pub found_nowhere : (test : Named → Bool) (list : List Named) (i : ℕ) (answer : Option Named) → length list ≤ i → first_such test (drop i list) ≡ answer → None ≡ answer
found_nowhere test list i answer outside rest = sym (first_such-nil test) ∙ sym (at_drop_all (first_such test) list i outside) ∙ rest
