-- A survey as it takes places in: none, one, and those of two parts.
use Rattle.std.proofs.Common.{◌≡◌, ℕ, ◌+◌, ◌<◌, Bool, true, false, not, ◌||◌, eqb, List, [], ◌∷◌, ◌++◌, take, length, get_or, Option, Some, None, refl, sym, ap, ◌∙◌}
use Rattle.std.specs.List.{filter, flat_map}
use Rattle.std.proofs.lemmas.List.{take_more, map_more, append-nil}
use Rattle.std.proofs.lemmas.List.Elements.{filter_agree, filter-append}
use Rattle.std.proofs.lemmas.List.Folds.{list_any-append}
use Rattle.std.proofs.lemmas.Grind.{flat_map-append}
use Rattle.qm_parse.specs.Checks.{bound_use, bound_uses, earliest, has_name, row_uses, term_use, term_uses, uses}
use Rattle.qm_parse.specs.Marks.{IsMarksOf, is_marked}
use Rattle.qm_parse.specs.SurveySteps.{Adds, IsSurveyOf, earlier_of, earliest_unmarked}
use Rattle.qm_parse.specs.declared.ast.Ast.{Ast}
use Rattle.qm_parse.specs.declared.ast.AstBound.{AstBound}
use Rattle.qm_parse.specs.declared.ast.AstTerm.{AstTerm}
use Rattle.qm_parse.specs.declared.ast.Named.{Named}
use Rattle.qm_parse.specs.declared.marks.Marks.{Marks}
use Rattle.qm_parse.specs.declared.survey.Survey.{Survey}
use Rattle.qm_parse.proofs.Earliest.{earlier-same, earlier_of-None, earlier_of-earlier_of, earliest-append}

or_false : (b : Bool) → b ≡ (b || false)
or_false true = refl
or_false false = refl

or_assoc : (a b c : Bool) → ((a || b) || c) ≡ (a || (b || c))
or_assoc true b c = refl
or_assoc false b c = refl

-- no place
pub Adds-nil : (order : Marks) (survey : Survey) → Adds order [] survey survey
unfolding earliest
Adds-nil order survey = record {
  used = λ name. or_false (is_marked survey.used name);
  unordered = sym (earlier_of-None survey.unordered);
}

earliest_unmarked-append : (order : Marks) (places more : List Named) → earliest_unmarked order (places ++ more) ≡ earlier_of (earliest_unmarked order places) (earliest_unmarked order more)
earliest_unmarked-append order places more =
    let test : Named → Bool = λ named. not (is_marked order named.name) in
    ap earliest (filter-append test places more) ∙ earliest-append (filter test places) (filter test more)

-- the places of two parts
pub Adds-append : (order : Marks) (places more : List Named) (old mid new : Survey) → Adds order places old mid → Adds order more mid new → Adds order (places ++ more) old new
Adds-append order places more old mid new one other = record {
  used = λ name.
      other.used name ∙ ap (λ b. b || has_name more name) (one.used name)
      ∙ or_assoc (is_marked old.used name) (has_name places name) (has_name more name)
      ∙ ap (λ b. is_marked old.used name || b) (sym (list_any-append (λ (named : Named). eqb named.name name) places more));
  unordered =
      other.unordered ∙ ap (λ (first : Option Named). earlier_of first (earliest_unmarked order more)) one.unordered
      ∙ earlier_of-earlier_of old.unordered (earliest_unmarked order places) (earliest_unmarked order more)
      ∙ ap (earlier_of old.unordered) (sym (earliest_unmarked-append order places more));
}

-- one place, whose name is marked as used
pub used_here : (old new : Marks) (named : Named) → ((name : ℕ) → is_marked new name ≡ (is_marked old name || eqb named.name name)) → (name : ℕ) → is_marked new name ≡ (is_marked old name || has_name (named ∷ []) name)
used_here old new named marks name = marks name ∙ ap (λ b. is_marked old name || b) (or_false (eqb named.name name))

-- one place of a name of ORDER
pub Adds-ordered : (order : Marks) (named : Named) (old : Survey) (used : Marks) → ((name : ℕ) → is_marked used name ≡ (is_marked old.used name || eqb named.name name)) → is_marked order named.name ≡ true → Adds order (named ∷ []) old (record { used = used; unordered = old.unordered })
unfolding earliest
Adds-ordered order named old used marks ordered = record {
  used = used_here old.used used named marks;
  unordered = rw ordered (sym (earlier_of-None old.unordered));
}

-- one place of a name that isn't in ORDER
pub Adds-unordered : (order : Marks) (named first : Named) (old : Survey) (used : Marks) → ((name : ℕ) → is_marked used name ≡ (is_marked old.used name || eqb named.name name)) → is_marked order named.name ≡ false → Some first ≡ earlier_of old.unordered (Some named) → Adds order (named ∷ []) old (record { used = used; unordered = Some first })
unfolding earliest
Adds-unordered order named first old used marks unordered is = record {
  used = used_here old.used used named marks;
  unordered = rw (unordered, earlier-same named) is;
}

-- a step of a loop
pub Adds-more_names : (order : Marks) (list : List Named) (i : ℕ) (d : Named) (old mid new : Survey) → i < length list → Adds order (take i list) old mid → Adds order (get_or list i d ∷ []) mid new → Adds order (take (i + 1) list) old new
Adds-more_names order list i d old mid new inside front here =
    rw (take_more list i d inside) (Adds-append order (take i list) (get_or list i d ∷ []) old mid new front here)

pub Adds-more : {X : Type 0} (uses_of : X → List Named) (order : Marks) (list : List X) (i : ℕ) (x : X) (old mid new : Survey) → i < length list → x ≡ get_or list i x → Adds order (flat_map uses_of (take i list)) old mid → Adds order (uses_of x) mid new → Adds order (flat_map uses_of (take (i + 1) list)) old new
Adds-more uses_of order list i x old mid new inside at front here =
    let parts : flat_map uses_of (take (i + 1) list) ≡ flat_map uses_of (take i list) ++ uses_of x =
    ap (flat_map uses_of) (take_more list i x inside) ∙ flat_map-append uses_of (take i list) (get_or list i x ∷ [])
    ∙ ap (λ (uses : List Named). flat_map uses_of (take i list) ++ uses) (append-nil (uses_of (get_or list i x)) ∙ ap uses_of (sym at)) in
    rw parts (Adds-append order (flat_map uses_of (take i list)) (uses_of x) old mid new front here)

pub Adds-more_bounds : (order : Marks) (bounds : List AstBound) (i : ℕ) (bound : AstBound) (old mid new : Survey) → i < length bounds → bound ≡ get_or bounds i bound → Adds order (bound_uses (take i bounds)) old mid → Adds order (bound_use bound ∷ []) mid new → Adds order (bound_uses (take (i + 1) bounds)) old new
Adds-more_bounds order bounds i bound old mid new inside at front here =
    rw (map_more bound_use bounds i bound inside, ← at) (Adds-append order (bound_uses (take i bounds)) (bound_use bound ∷ []) old mid new front here)

-- the place of a term, if it has a variable
pub term_use-Some : (term : AstTerm) (name : ℕ) → term.name ≡ Some name → term_use term ≡ record { name = name; at = term.at } ∷ []
unfolding term_use
term_use-Some term name is = rw is refl

pub term_use-None : (term : AstTerm) → term.name ≡ None → term_use term ≡ []
unfolding term_use
term_use-None term is = rw is refl

-- all places, part by part
pub Adds-uses : (ast : Ast) (order : Marks) (a b c d e f g h i : Survey)
    → Adds order (term_uses ast.objective) a b → Adds order (row_uses ast.rows) b c → Adds order (row_uses ast.uncertain) c d
    → Adds order (bound_uses ast.bounds) d e → Adds order ast.generals e f → Adds order ast.binaries f g
    → Adds order ast.existential g h → Adds order ast.universal h i → Adds order (uses ast) a i
Adds-uses ast order a b c d e f g h i objective rows uncertain bounds generals binaries existential universal =
    Adds-append order _ _ a h i (Adds-append order _ _ a g h (Adds-append order _ _ a f g (Adds-append order _ _ a e f
    (Adds-append order _ _ a d e (Adds-append order _ _ a c d (Adds-append order _ _ a b c objective rows) uncertain) bounds) generals) binaries) existential) universal

-- a survey of all places that began with none
pub IsSurveyOf-made : (ast : Ast) (order none : Marks) (survey : Survey) → IsMarksOf ast.order order → IsMarksOf [] none → Adds order (uses ast) (record { used = none; unordered = None }) survey → IsSurveyOf ast survey
unfolding earlier_of
IsSurveyOf-made ast order none survey marks empty adds = record {
  used = λ name. adds.used name ∙ ap (λ b. b || has_name (uses ast) name) (empty name);
  unordered =
      adds.unordered
      ∙ ap earliest (filter_agree (λ named. not (is_marked order named.name)) (λ named. not (has_name ast.order named.name)) (λ named. ap not (marks named.name)) (uses ast));
}
