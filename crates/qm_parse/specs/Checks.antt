-- How a text has to use its names, and the first place where it doesn't.
use Rattle.std.specs.Prelude.{◌≢◌, ℕ, Bool, true, false, not, ◌&&◌, ◌||◌, ◌==◌, nat_lt, List, [], ◌∷◌, ◌++◌, All, AllPairs, Option, Some, None, map, filter, IsTrue, if◌then◌else◌}
use Rattle.std.specs.List.{flat_map, list_any}
use Rattle.qm_lex.specs.declared.place.Place.{Place}
use Rattle.qm_parse.specs.declared.ast.Ast.{Ast}
use Rattle.qm_parse.specs.declared.ast.AstBound.{AstBound}
use Rattle.qm_parse.specs.declared.ast.AstRow.{AstRow}
use Rattle.qm_parse.specs.declared.ast.AstTerm.{AstTerm}
use Rattle.qm_parse.specs.declared.ast.Named.{Named}
use Rattle.qm_parse.specs.declared.ast.Relation.{Relation}
use Rattle.qm_parse.specs.declared.ast.Relation.TheVariants.{Less, Greater, Equal}
use Rattle.qm_parse.specs.declared.offence.NameFault.{NameFault}
use Rattle.qm_parse.specs.declared.offence.Offence.{Offence}
use Rattle.qm_parse.specs.declared.offence.Offence.TheVariants as offence

-- the name stands in the list
abbrev pub has_name : List Named → ℕ → Bool
has_name list name = list_any (λ named. named.name == name) list

-- the first of the list that the test accepts
unfoldable pub first_such : (Named → Bool) → List Named → Option Named
first_such test [] = None
first_such test (named ∷ list) = if test named then Some named else first_such test list

-- one place stands before another
abbrev pub is_before : Place → Place → Bool
is_before one other = nat_lt one.line other.line || ((one.line == other.line) && nat_lt one.column other.column)

-- the earlier one; the first where none is
unfoldable pub earlier : Named → Option Named → Named
earlier one None = one
earlier one (Some other) = if is_before other.at one.at then other else one

-- the one that stands first in the text
unfoldable pub earliest : List Named → Option Named
earliest [] = None
earliest (named ∷ list) = Some (earlier named (earliest list))

-- the name of a term; a constant has none
unfoldable pub term_use : AstTerm → List Named
term_use term = elim term.name [ None ↦ [] | Some name ↦ record { name = name; at = term.at } ∷ [] ]

abbrev pub term_uses : List AstTerm → List Named
term_uses terms = flat_map term_use terms

abbrev pub row_uses : List AstRow → List Named
row_uses rows = flat_map (λ row. term_uses row.terms) rows

abbrev pub bound_use : AstBound → Named
bound_use bound = record { name = bound.name; at = bound.at }

abbrev pub bound_uses : List AstBound → List Named
bound_uses bounds = map bound_use bounds

-- each place where a variable stands, but for ORDER
abbrev pub uses : Ast → List Named
uses ast =
    term_uses ast.objective ++ row_uses ast.rows ++ row_uses ast.uncertain ++ bound_uses ast.bounds
    ++ ast.generals ++ ast.binaries ++ ast.existential ++ ast.universal

-- the first name of ALL that stands in EXISTS too
abbrev pub both_players : Ast → Option Named
both_players ast = first_such (λ named. has_name ast.existential named.name) ast.universal

-- the first of the list whose name stands before it or among the others
unfoldable pub repeated : List Named → List Named → Option Named
repeated others [] = None
repeated others (named ∷ list) = if has_name others named.name then Some named else repeated (named ∷ others) list

-- the first name of ORDER that stands there a second time
abbrev pub twice : Ast → Option Named
twice ast = repeated [] ast.order

-- the first name of ORDER that is no variable
abbrev pub unknown : Ast → Option Named
unknown ast = first_such (λ named. not (has_name (uses ast) named.name)) ast.order

-- the first place of a variable that isn't in ORDER
abbrev pub unordered : Ast → Option Named
unordered ast = earliest (filter (λ named. not (has_name ast.order named.name)) (uses ast))

-- the bound has no number
abbrev pub is_infinite : AstBound → Bool
is_infinite bound = elim bound.value [ None ↦ true | Some value ↦ false ]

-- the first bound without a number
abbrev pub infinite : Ast → Option Named
infinite ast = first_such (λ named. true) (bound_uses (filter is_infinite ast.bounds))

-- the relation bounds from above
unfoldable pub sets_upper : Relation → Bool
sets_upper Less = true
sets_upper Greater = false
sets_upper Equal = true

-- some bound of the name is from above
abbrev pub has_upper : List AstBound → ℕ → Bool
has_upper bounds name = list_any (λ bound. (bound.name == name) && sets_upper bound.relation) bounds

-- the first name of ORDER that is not in BINARIES and has no upper bound
abbrev pub without_upper : Ast → Option Named
without_upper ast =
    first_such (λ named. not (has_name ast.binaries named.name || has_upper ast.bounds named.name)) ast.order

-- an offence of the name, where there is one
unfoldable pub offended : Offence → Option Named → Option NameFault
offended kind None = None
offended kind (Some named) = Some (record { offence = kind; name = named.name; at = named.at })

unfoldable pub or_else : Option NameFault → Option NameFault → Option NameFault
or_else None other = other
or_else (Some fault) other = Some fault

-- the first offence: by the kinds in their order, and of each kind by its first place
abbrev pub name_fault : Ast → Option NameFault
name_fault ast =
    or_else (offended offence.BothPlayers (both_players ast))
    (or_else (offended offence.Twice (twice ast))
    (or_else (offended offence.Unknown (unknown ast))
    (or_else (offended offence.Unordered (unordered ast))
    (or_else (offended offence.Infinite (infinite ast))
    (offended offence.NoUpper (without_upper ast))))))

-- the name stands in the list
abbrev pub Has : List Named → ℕ → Type 0
Has list name = IsTrue (has_name list name)

-- The names are used right: no name belongs to both players, ORDER holds each variable and nothing else, each once, and
-- each variable has bounds that are numbers, from above too, but that those of BINARIES need none.
pub record NamesRight (ast : Ast) : Type 0 where
  pub apart : All (λ named. ¬ Has ast.existential named.name) ast.universal
  pub once : AllPairs (λ one other. one.name ≢ other.name) ast.order
  pub known : All (λ named. Has (uses ast) named.name) ast.order
  pub ordered : All (λ named. Has ast.order named.name) (uses ast)
  pub finite : All (λ bound. bound.value ≢ None) ast.bounds
  pub bounded : All (λ named. IsTrue (has_name ast.binaries named.name || has_upper ast.bounds named.name)) ast.order
