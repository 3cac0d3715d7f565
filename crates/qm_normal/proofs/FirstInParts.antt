-- The first name that a test accepts, in a list that is made of parts, in a loop over the parts.
use Rattle.std.proofs.Common.{◌≡◌, ℕ, ◌+◌, ◌<◌, ◌≤◌, Bool, true, false, List, [], ◌∷◌, ◌++◌, drop, length, get_or, Option, Some, None, refl, sym, ap, ◌∙◌, if◌then◌else◌}
use Rattle.std.specs.List.{flat_map}
use Rattle.std.proofs.lemmas.List.{at_drop_more, at_drop_all}
use Rattle.qm_parse.specs.Checks.{first_such}
use Rattle.qm_parse.specs.declared.ast.Named.{Named}
use Rattle.qm_parse.proofs.FirstSuch.{first_such-nil}

-- what the first part gives, or else the second
unfoldable or_behind : Option Named → Option Named → Option Named
or_behind None other = other
or_behind (Some named) other = Some named

chosen : (b : Bool) (named : Named) (one other : Option Named) → (if b then Some named else or_behind one other) ≡ or_behind (if b then Some named else one) other
unfolding or_behind
chosen true named one other = refl
chosen false named one other = refl

first_such-append : (test : Named → Bool) (front behind : List Named) → first_such test (front ++ behind) ≡ or_behind (first_such test front) (first_such test behind)
unfolding first_such or_behind
first_such-append test [] behind = refl
first_such-append test (named ∷ front) behind =
    rw (first_such-append test front behind) (chosen (test named) named (first_such test front) (first_such test behind))

or_behind-some : (one other : Option Named) (named : Named) → one ≡ Some named → or_behind one other ≡ Some named
unfolding or_behind
or_behind-some one other named found = rw found refl

or_behind-none : (one other : Option Named) → one ≡ None → or_behind one other ≡ other
unfolding or_behind
or_behind-none one other nothing = rw nothing refl

part_next : {X : Type 0} (test : Named → Bool) (uses_of : X → List Named) (list : List X) (i : ℕ) (x : X) → i < length list → x ≡ get_or list i x → first_such test (flat_map uses_of (drop i list)) ≡ or_behind (first_such test (uses_of x)) (first_such test (flat_map uses_of (drop (i + 1) list)))
part_next test uses_of list i x inside at =
    at_drop_more (λ xs. first_such test (flat_map uses_of xs)) list i x inside
    ∙ first_such-append test (uses_of (get_or list i x)) (flat_map uses_of (drop (i + 1) list))
    ∙ ap (λ x. or_behind (first_such test (uses_of x)) (first_such test (flat_map uses_of (drop (i + 1) list)))) (sym at)

-- where the search ends, and how it goes on
pub in_part : {X : Type 0} (test : Named → Bool) (uses_of : X → List Named) (list : List X) (i : ℕ) (x : X) (named : Named) (answer : Option Named) → i < length list → x ≡ get_or list i x → first_such test (uses_of x) ≡ Some named → first_such test (flat_map uses_of (drop i list)) ≡ answer → Some named ≡ answer
in_part test uses_of list i x named answer inside at found rest =
    sym (or_behind-some (first_such test (uses_of x)) (first_such test (flat_map uses_of (drop (i + 1) list))) named found)
    ∙ sym (part_next test uses_of list i x inside at) ∙ rest

pub in_later_part : {X : Type 0} (test : Named → Bool) (uses_of : X → List Named) (list : List X) (i : ℕ) (x : X) (answer : Option Named) → i < length list → x ≡ get_or list i x → first_such test (uses_of x) ≡ None → first_such test (flat_map uses_of (drop i list)) ≡ answer → first_such test (flat_map uses_of (drop (i + 1) list)) ≡ answer
in_later_part test uses_of list i x answer inside at nothing rest =
    sym (or_behind-none (first_such test (uses_of x)) (first_such test (flat_map uses_of (drop (i + 1) list))) nothing)
    ∙ sym (part_next test uses_of list i x inside at) ∙ rest

pub in_no_part : {X : Type 0} (test : Named → Bool) (uses_of : X → List Named) (list : List X) (i : ℕ) (answer : Option Named) → length list ≤ i → first_such test (flat_map uses_of (drop i list)) ≡ answer → None ≡ answer
in_no_part test uses_of list i answer outside rest =
    sym (first_such-nil test) ∙ sym (at_drop_all (λ xs. first_such test (flat_map uses_of xs)) list i outside) ∙ rest
