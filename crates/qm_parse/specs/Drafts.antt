-- What a token adds to what was read. Public clauses cite this through `read` alone.
use Rattle.std.specs.Prelude.{ℕ, pos, Bool, true, false, not, [], ◌∷◌, ◌++◌, Option, Some, None, if◌then◌else◌}
use Rattle.qm_math.specs.Fraction.{Fraction}
use Rattle.qm_frac.specs.Arithmetic.{negated}
use Rattle.qm_lex.specs.declared.place.Place.{Place}
use Rattle.qm_lex.specs.declared.token.Keyword.{Keyword}
use Rattle.qm_lex.specs.declared.token.Keyword.TheVariants as keyword
use Rattle.qm_model.specs.declared.game.Sense.{Sense}
use Rattle.qm_model.specs.declared.game.Sense.TheVariants.{Max, Min}
use Rattle.qm_parse.specs.declared.ast.Ast.{Ast}
use Rattle.qm_parse.specs.declared.ast.AstBound.{AstBound}
use Rattle.qm_parse.specs.declared.ast.AstRow.{AstRow}
use Rattle.qm_parse.specs.declared.ast.AstTerm.{AstTerm}
use Rattle.qm_parse.specs.declared.ast.Named.{Named}
use Rattle.qm_parse.specs.declared.ast.Relation.{Relation}
use Rattle.qm_parse.specs.declared.ast.Relation.TheVariants.{Less, Greater, Equal}
use Rattle.qm_parse.specs.declared.draft.Draft.{Draft}
use Rattle.qm_parse.specs.declared.stage.NameList.{NameList}
use Rattle.qm_parse.specs.declared.stage.NameList.TheVariants.{Generals, Binaries, Exists, All, Order}
use Rattle.qm_parse.specs.declared.stage.Stage.{Stage}
use Rattle.qm_parse.specs.declared.stage.Stage.TheVariants.{Start, ObjectiveFirst, ObjectiveBegin, ObjectiveSigned, ObjectiveNumber, ObjectiveTerm, RowsBegin, RowSigned, RowNumber, RowTerm, RowRelation, RowEnd, BoundsBegin, BoundSigned, BoundValue, BoundTurned, BoundNamed, BoundName, BoundRelation, BoundEnd, Names}
use Rattle.qm_parse.specs.declared.word.Word.{Word}
use Rattle.qm_parse.specs.declared.word.Word.TheVariants.{Name, Number, Sign, Related, Keyword as Reserved, Infinite, Free}

abbrev pub one : Fraction
one = record { num = pos 1; den = 1 }

-- the number, negated where the signs before it say so
unfoldable pub signed_by : Bool → Fraction → Fraction
signed_by negative value = if negative then negated value else value

-- the same relation, seen from the other side
unfoldable pub turned : Relation → Relation
turned Less = Greater
turned Greater = Less
turned Equal = Equal

unfoldable pub sense_of : Keyword → Sense
sense_of keyword.Minimize = Min
sense_of keyword.Min = Min
sense_of word = Max

unfoldable pub with_sense : Sense → Draft → Draft
with_sense sense draft = record draft { ast = record draft.ast { sense = sense } }

-- a minus turns the sign
unfoldable pub signed : Bool → Draft → Draft
signed minus draft = record draft { negative = if minus then not draft.negative else draft.negative }

-- the number of a term, with its signs
unfoldable pub with_coef : Fraction → Place → Draft → Draft
with_coef value at draft = record draft { coef = signed_by draft.negative value; at = at; negative = false }

unfoldable pub with_objective : AstTerm → Draft → Draft
with_objective term draft =
    record draft { ast = record draft.ast { objective = draft.ast.objective ++ term ∷ [] }; negative = false }

-- a constant of the objective
unfoldable pub with_constant : Draft → Draft
with_constant draft = with_objective (record { coef = draft.coef; name = None; at = draft.at }) draft

-- the objective's term of a name without a number
unfoldable pub with_single : ℕ → Place → Draft → Draft
with_single name at draft = with_objective (record { coef = signed_by draft.negative one; name = Some name; at = at }) draft

-- the objective's term of a name behind its number
unfoldable pub with_multiple : ℕ → Place → Draft → Draft
with_multiple name at draft = with_objective (record { coef = draft.coef; name = Some name; at = at }) draft

-- a row begins
unfoldable pub with_row_at : Place → Draft → Draft
with_row_at at draft = record draft { row_at = at }

unfoldable pub with_term : AstTerm → Draft → Draft
with_term term draft = record draft { terms = draft.terms ++ term ∷ []; negative = false }

-- a row's term of a name without a number
unfoldable pub with_single_term : ℕ → Place → Draft → Draft
with_single_term name at draft = with_term (record { coef = signed_by draft.negative one; name = Some name; at = at }) draft

-- a row's term of a name behind its number
unfoldable pub with_multiple_term : ℕ → Place → Draft → Draft
with_multiple_term name at draft = with_term (record { coef = draft.coef; name = Some name; at = at }) draft

unfoldable pub with_relation : Relation → Draft → Draft
with_relation relation draft = record draft { relation = relation }

-- the row that has begun, with its right side
unfoldable pub row_of : Fraction → Draft → AstRow
row_of right draft =
    record { terms = draft.terms; relation = draft.relation; right = signed_by draft.negative right; at = draft.row_at }

-- the row ends; behind UNCERTAINTY it is one of the uncertainty rows
unfoldable pub with_row : Bool → Fraction → Draft → Draft
with_row true right draft =
    record draft { ast = record draft.ast { uncertain = draft.ast.uncertain ++ row_of right draft ∷ [] }; terms = []; negative = false }
with_row false right draft =
    record draft { ast = record draft.ast { rows = draft.ast.rows ++ row_of right draft ∷ [] }; terms = []; negative = false }

-- the value of a bound, with its signs
unfoldable pub value_by : Bool → Option Fraction → Option Fraction
value_by negative None = None
value_by negative (Some value) = Some (signed_by negative value)

-- the value that begins a bound
unfoldable pub with_value : Option Fraction → Draft → Draft
with_value value draft = record draft { value = value_by draft.negative value; negative = false }

-- the name of a bound
unfoldable pub with_name : ℕ → Place → Draft → Draft
with_name name at draft = record draft { name = name; at = at }

unfoldable pub with_bound : AstBound → Draft → Draft
with_bound bound draft =
    record draft { ast = record draft.ast { bounds = draft.ast.bounds ++ bound ∷ [] }; negative = false }

-- the bound of the value before the name
unfoldable pub with_turned : ℕ → Place → Draft → Draft
with_turned name at draft =
    with_bound (record { name = name; relation = turned draft.relation; value = draft.value; at = at }) (with_name name at draft)

-- the bound of the value behind the name
unfoldable pub with_bounded : Option Fraction → Draft → Draft
with_bounded value draft =
    with_bound (record { name = draft.name; relation = draft.relation; value = value_by draft.negative value; at = draft.at }) draft

-- the bound of a name that is FREE
unfoldable pub with_free : Draft → Draft
with_free draft = with_bound (record { name = draft.name; relation = Less; value = None; at = draft.at }) draft

unfoldable pub listed : NameList → Named → Ast → Ast
listed Generals named ast = record ast { generals = ast.generals ++ named ∷ [] }
listed Binaries named ast = record ast { binaries = ast.binaries ++ named ∷ [] }
listed Exists named ast = record ast { existential = ast.existential ++ named ∷ [] }
listed All named ast = record ast { universal = ast.universal ++ named ∷ [] }
listed Order named ast = record ast { order = ast.order ++ named ∷ [] }

-- a name of a list
unfoldable pub with_listed : NameList → ℕ → Place → Draft → Draft
with_listed list name at draft = record draft { ast = listed list (record { name = name; at = at }) draft.ast }

-- within a term of the objective
unfoldable pub objective_noted : Word → Place → Draft → Draft
objective_noted (Sign minus) at draft = signed minus draft
objective_noted (Number (Some value)) at draft = with_coef value at draft
objective_noted (Name n labels) at draft = with_single n at draft
objective_noted word at draft = draft

-- behind a number of the objective, which is a constant where no name follows
unfoldable pub constant_noted : Word → Place → Draft → Draft
constant_noted (Name n labels) at draft = with_multiple n at draft
constant_noted (Sign minus) at draft = signed minus (with_constant draft)
constant_noted (Reserved word) at draft = with_constant draft
constant_noted word at draft = draft

-- within a term of a row
unfoldable pub row_noted : Word → Place → Draft → Draft
row_noted (Sign minus) at draft = signed minus draft
row_noted (Number (Some value)) at draft = with_coef value at draft
row_noted (Name n labels) at draft = with_single_term n at draft
row_noted (Related relation) at draft = with_relation relation draft
row_noted word at draft = draft

-- where a row may begin
unfoldable pub row_begin_noted : Word → Place → Draft → Draft
row_begin_noted (Name n true) at draft = with_row_at at draft
row_begin_noted (Reserved word) at draft = draft
row_begin_noted word at draft = row_noted word at (with_row_at at draft)

-- on the right side of a row
unfoldable pub right_noted : Bool → Word → Draft → Draft
right_noted uncertain (Sign minus) draft = signed minus draft
right_noted uncertain (Number (Some value)) draft = with_row uncertain value draft
right_noted uncertain word draft = draft

-- where a bound may begin, or within the value that begins it
unfoldable pub bound_noted : Word → Place → Draft → Draft
bound_noted (Sign minus) at draft = signed minus draft
bound_noted (Number (Some value)) at draft = with_value (Some value) draft
bound_noted Infinite at draft = with_value None draft
bound_noted (Name n labels) at draft = with_name n at draft
bound_noted (Related relation) at draft = with_relation relation draft
bound_noted Free at draft = with_free draft
bound_noted word at draft = draft

-- within the value behind the name of a bound
unfoldable pub bounded_noted : Word → Draft → Draft
bounded_noted (Sign minus) draft = signed minus draft
bounded_noted (Number (Some value)) draft = with_bounded (Some value) draft
bounded_noted Infinite draft = with_bounded None draft
bounded_noted word draft = draft

-- the name behind the value of a bound
unfoldable pub turned_noted : Word → Place → Draft → Draft
turned_noted (Name n labels) at draft = with_turned n at draft
turned_noted word at draft = draft

unfoldable pub list_noted : NameList → Word → Place → Draft → Draft
list_noted list (Name n labels) at draft = with_listed list n at draft
list_noted list word at draft = draft

unfoldable pub start_noted : Word → Draft → Draft
start_noted (Reserved word) draft = with_sense (sense_of word) draft
start_noted word draft = draft

-- the objective's label is passed over
unfoldable pub first_noted : Word → Place → Draft → Draft
first_noted (Name n true) at draft = draft
first_noted word at draft = objective_noted word at draft

-- what the next token adds, given the stage before it and whether UNCERTAINTY was there
unfoldable pub noted : Stage → Bool → Word → Place → Draft → Draft
noted Start uncertain word at draft = start_noted word draft
noted ObjectiveFirst uncertain word at draft = first_noted word at draft
noted ObjectiveBegin uncertain word at draft = objective_noted word at draft
noted ObjectiveSigned uncertain word at draft = objective_noted word at draft
noted ObjectiveTerm uncertain word at draft = objective_noted word at draft
noted ObjectiveNumber uncertain word at draft = constant_noted word at draft
noted RowsBegin uncertain word at draft = row_begin_noted word at draft
noted RowEnd uncertain word at draft = row_begin_noted word at draft
noted RowSigned uncertain word at draft = row_noted word at draft
noted RowTerm uncertain word at draft = row_noted word at draft
noted RowNumber uncertain (Name n labels) at draft = with_multiple_term n at draft
noted RowRelation uncertain word at draft = right_noted uncertain word draft
noted BoundsBegin uncertain word at draft = bound_noted word at draft
noted BoundSigned uncertain word at draft = bound_noted word at draft
noted BoundValue uncertain word at draft = bound_noted word at draft
noted BoundTurned uncertain word at draft = turned_noted word at draft
noted BoundNamed uncertain word at draft = bound_noted word at draft
noted BoundName uncertain word at draft = bound_noted word at draft
noted BoundRelation uncertain word at draft = bounded_noted word draft
noted BoundEnd uncertain word at draft = bound_noted word at draft
noted (Names list) uncertain word at draft = list_noted list word at draft
noted stage uncertain word at draft = draft
