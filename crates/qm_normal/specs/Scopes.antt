-- What is out of scope: continuous variables that the universal player sets or waits for, and existential ones in its rows.
use Rattle.std.specs.Prelude.{ℕ, not, ◌&&◌, List, [], ◌∷◌, Option, Some, None, if◌then◌else◌}
use Rattle.std.specs.List.{list_any}
use Rattle.qm_lex.specs.declared.place.Place.{Place}
use Rattle.qm_parse.specs.declared.ast.Ast.{Ast}
use Rattle.qm_parse.specs.declared.ast.Named.{Named}
use Rattle.qm_parse.specs.Checks.{first_such, row_uses}
use Rattle.qm_normal.specs.declared.fault.NormalFault.{NormalFault}
use Rattle.qm_normal.specs.declared.fault.NormalFault.TheVariants as fault
use Rattle.qm_normal.specs.Variables.{is_universal, is_whole, name_of}

-- the first universal variable of ORDER that is continuous
abbrev pub continuous_universal : Ast → Option Named
continuous_universal ast = first_such (λ named. not (is_whole ast named.name) && is_universal ast named.name) ast.order

-- the first continuous variable of the list that a universal one follows
unfoldable pub followed_by_universal : Ast → List Named → Option Named
followed_by_universal ast [] = None
followed_by_universal ast (named ∷ list) =
    if not (is_whole ast named.name) && list_any (λ other. is_universal ast other.name) list then Some named
    else followed_by_universal ast list

-- the first continuous variable of ORDER that stands before a universal one
abbrev pub continuous_early : Ast → Option Named
continuous_early ast = followed_by_universal ast ast.order

-- the first place of an existential variable in the uncertainty rows
abbrev pub exists_in_uncertainty : Ast → Option Named
exists_in_uncertainty ast = first_such (λ named. not (is_universal ast named.name)) (row_uses ast.uncertain)

-- the fault of a name, where there is one, or else the next fault
unfoldable pub told : (List ℕ → Place → NormalFault) → Ast → Option Named → Option NormalFault → Option NormalFault
told kind ast None next = next
told kind ast (Some named) next = Some (kind (name_of ast named.name) named.at)

-- the first fault of scope
abbrev pub scope_fault : Ast → Option NormalFault
scope_fault ast =
    told fault.ContinuousUniversal ast (continuous_universal ast)
    (told fault.ContinuousEarly ast (continuous_early ast)
    (told fault.ExistsInUncertainty ast (exists_in_uncertainty ast) None))
