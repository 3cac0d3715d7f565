-- A text has no more rows than symbols.
use Rattle.std.proofs.Common.{◌≡◌, ℕ, ◌+◌, ◌≤◌, Bool, true, false, List, [], ◌∷◌, ◌++◌, length, refl, ap, subst, Some, arith, length-append}
use Rattle.std.specs.Prelude.{Ok}
use Rattle.qm_lex.specs.declared.place.Place.{Place}
use Rattle.qm_parse.specs.declared.ast.Ast.{Ast}
use Rattle.qm_parse.specs.declared.ast.AstRow.{AstRow}
use Rattle.qm_parse.specs.declared.draft.Draft.{Draft}
use Rattle.qm_parse.specs.declared.stage.NameList.{NameList}
use Rattle.qm_parse.specs.declared.stage.NameList.TheVariants.{Generals, Binaries, Exists, All as Universal, Order}
use Rattle.qm_parse.specs.declared.stage.Stage.{Stage}
use Rattle.qm_parse.specs.declared.stage.Stage.TheVariants.{Start, ObjectiveFirst, ObjectiveBegin, ObjectiveSigned, ObjectiveNumber, ObjectiveTerm, RowsBegin, RowSigned, RowNumber, RowTerm, RowRelation, RowEnd, BoundsBegin, BoundSigned, BoundValue, BoundTurned, BoundNamed, BoundName, BoundRelation, BoundEnd, Names, Ended}
use Rattle.qm_parse.specs.declared.stage.State.{State}
use Rattle.qm_parse.specs.declared.word.Symbol.{Symbol}
use Rattle.qm_parse.specs.declared.word.Word.{Word}
use Rattle.qm_parse.specs.declared.word.Word.TheVariants.{Name, Number, Sign, Related, Keyword as Reserved, Infinite, Free}
use Rattle.qm_parse.specs.Drafts.{bound_noted, bounded_noted, constant_noted, first_noted, list_noted, listed, noted, objective_noted, right_noted, row_begin_noted, row_noted, signed, start_noted, turned_noted, with_bound, with_bounded, with_coef, with_constant, with_free, with_listed, with_multiple, with_multiple_term, with_name, with_objective, with_relation, with_row, with_row_at, with_sense, with_single, with_single_term, with_term, with_turned, with_value}
use Rattle.qm_parse.specs.Reading.{empty_ast, empty_draft, finished, read, start}
use Rattle.qm_parse.specs.Texts.{IsText, KnowColons}
use Rattle.qm_parse.proofs.ReadTexts.{text_reads}
use Rattle.qm_parse.proofs.WrittenSteps.{goes}

-- the rows and the uncertainty rows are no more than before, but for one that is new
record HasOneMore (before after : Ast) : Type 0 where
  rows : length after.rows ≤ length before.rows + 1
  uncertain : length after.uncertain ≤ length before.uncertain + 1

abbrev IsStep : Draft → Draft → Type 0
IsStep before after = HasOneMore before.ast after.ast

-- no row is new
same_rows : (before after : Ast) → after.rows ≡ before.rows → after.uncertain ≡ before.uncertain → HasOneMore before after
same_rows before after rows uncertain =
    let few = ap (length {A = AstRow}) rows in
    let sure = ap (length {A = AstRow}) uncertain in
    record { rows = omega arith; uncertain = omega arith }

objective_step : (word : Word) (at : Place) (draft : Draft) → IsStep draft (objective_noted word at draft)
unfolding objective_noted signed with_coef with_single with_objective
objective_step (Sign minus) at draft = same_rows draft.ast _ refl refl
objective_step (Number (Some value)) at draft = same_rows draft.ast _ refl refl
objective_step (Name n labels) at draft = same_rows draft.ast _ refl refl
objective_step word at draft = same_rows draft.ast _ refl refl

constant_step : (word : Word) (at : Place) (draft : Draft) → IsStep draft (constant_noted word at draft)
unfolding constant_noted signed with_multiple with_constant with_objective
constant_step (Name n labels) at draft = same_rows draft.ast _ refl refl
constant_step (Sign minus) at draft = same_rows draft.ast _ refl refl
constant_step (Reserved word) at draft = same_rows draft.ast _ refl refl
constant_step word at draft = same_rows draft.ast _ refl refl

row_step : (word : Word) (at : Place) (draft : Draft) → IsStep draft (row_noted word at draft)
unfolding row_noted signed with_coef with_single_term with_term with_relation
row_step (Sign minus) at draft = same_rows draft.ast _ refl refl
row_step (Number (Some value)) at draft = same_rows draft.ast _ refl refl
row_step (Name n labels) at draft = same_rows draft.ast _ refl refl
row_step (Related relation) at draft = same_rows draft.ast _ refl refl
row_step word at draft = same_rows draft.ast _ refl refl

row_begin_step : (word : Word) (at : Place) (draft : Draft) → IsStep draft (row_begin_noted word at draft)
unfolding row_begin_noted with_row_at
row_begin_step (Name n true) at draft = same_rows draft.ast _ refl refl
row_begin_step (Reserved word) at draft = same_rows draft.ast _ refl refl
row_begin_step word at draft = row_step word at (record draft { row_at = at })

one_longer : (rows : List AstRow) (row : AstRow) → length (rows ++ row ∷ []) ≤ length rows + 1
one_longer rows row = simp length-append (omega arith)

right_step : (uncertain : Bool) (word : Word) (draft : Draft) → IsStep draft (right_noted uncertain word draft)
unfolding right_noted signed with_row
right_step uncertain (Sign minus) draft = same_rows draft.ast _ refl refl
right_step true (Number (Some value)) draft = record { rows = omega arith; uncertain = one_longer draft.ast.uncertain _ }
right_step false (Number (Some value)) draft = record { rows = one_longer draft.ast.rows _; uncertain = omega arith }
right_step uncertain word draft = same_rows draft.ast _ refl refl

bound_step : (word : Word) (at : Place) (draft : Draft) → IsStep draft (bound_noted word at draft)
unfolding bound_noted signed with_value with_name with_relation with_free with_bound
bound_step (Sign minus) at draft = same_rows draft.ast _ refl refl
bound_step (Number (Some value)) at draft = same_rows draft.ast _ refl refl
bound_step Infinite at draft = same_rows draft.ast _ refl refl
bound_step (Name n labels) at draft = same_rows draft.ast _ refl refl
bound_step (Related relation) at draft = same_rows draft.ast _ refl refl
bound_step Free at draft = same_rows draft.ast _ refl refl
bound_step word at draft = same_rows draft.ast _ refl refl

bounded_step : (word : Word) (draft : Draft) → IsStep draft (bounded_noted word draft)
unfolding bounded_noted signed with_bounded with_bound
bounded_step (Sign minus) draft = same_rows draft.ast _ refl refl
bounded_step (Number (Some value)) draft = same_rows draft.ast _ refl refl
bounded_step Infinite draft = same_rows draft.ast _ refl refl
bounded_step word draft = same_rows draft.ast _ refl refl

turned_step : (word : Word) (at : Place) (draft : Draft) → IsStep draft (turned_noted word at draft)
unfolding turned_noted with_turned with_bound with_name
turned_step (Name n labels) at draft = same_rows draft.ast _ refl refl
turned_step word at draft = same_rows draft.ast _ refl refl

listed_step : (list : NameList) (n : ℕ) (at : Place) (draft : Draft) → IsStep draft (with_listed list n at draft)
unfolding with_listed listed
listed_step Generals n at draft = same_rows draft.ast _ refl refl
listed_step Binaries n at draft = same_rows draft.ast _ refl refl
listed_step Exists n at draft = same_rows draft.ast _ refl refl
listed_step Universal n at draft = same_rows draft.ast _ refl refl
listed_step Order n at draft = same_rows draft.ast _ refl refl

list_step : (list : NameList) (word : Word) (at : Place) (draft : Draft) → IsStep draft (list_noted list word at draft)
unfolding list_noted
list_step list (Name n labels) at draft = listed_step list n at draft
list_step list word at draft = same_rows draft.ast _ refl refl

start_step : (word : Word) (draft : Draft) → IsStep draft (start_noted word draft)
unfolding start_noted with_sense
start_step (Reserved word) draft = same_rows draft.ast _ refl refl
start_step word draft = same_rows draft.ast _ refl refl

first_step : (word : Word) (at : Place) (draft : Draft) → IsStep draft (first_noted word at draft)
unfolding first_noted
first_step (Name n true) at draft = same_rows draft.ast _ refl refl
first_step word at draft = objective_step word at draft

-- a symbol gives one row at most
noted_step : (stage : Stage) (uncertain : Bool) (word : Word) (at : Place) (draft : Draft) → IsStep draft (noted stage uncertain word at draft)
unfolding noted with_multiple_term with_term
noted_step Start uncertain word at draft = start_step word draft
noted_step ObjectiveFirst uncertain word at draft = first_step word at draft
noted_step ObjectiveBegin uncertain word at draft = objective_step word at draft
noted_step ObjectiveSigned uncertain word at draft = objective_step word at draft
noted_step ObjectiveTerm uncertain word at draft = objective_step word at draft
noted_step ObjectiveNumber uncertain word at draft = constant_step word at draft
noted_step RowsBegin uncertain word at draft = row_begin_step word at draft
noted_step RowEnd uncertain word at draft = row_begin_step word at draft
noted_step RowSigned uncertain word at draft = row_step word at draft
noted_step RowTerm uncertain word at draft = row_step word at draft
noted_step RowNumber uncertain (Name n labels) at draft = same_rows draft.ast _ refl refl
noted_step RowRelation uncertain word at draft = right_step uncertain word draft
noted_step BoundsBegin uncertain word at draft = bound_step word at draft
noted_step BoundSigned uncertain word at draft = bound_step word at draft
noted_step BoundValue uncertain word at draft = bound_step word at draft
noted_step BoundTurned uncertain word at draft = turned_step word at draft
noted_step BoundNamed uncertain word at draft = bound_step word at draft
noted_step BoundName uncertain word at draft = bound_step word at draft
noted_step BoundRelation uncertain word at draft = bounded_step word draft
noted_step BoundEnd uncertain word at draft = bound_step word at draft
noted_step (Names list) uncertain word at draft = list_step list word at draft
noted_step stage uncertain word at draft = same_rows draft.ast _ refl refl

-- at most so many rows, and as many uncertainty rows
pub record HasFewRows (n : ℕ) (before after : Ast) : Type 0 where
  pub rows : length after.rows ≤ length before.rows + n
  pub uncertain : length after.uncertain ≤ length before.uncertain + n

finished_same : (stage : Stage) (draft : Draft) (end : Place) (ast : Ast) → finished stage draft end ≡ Ok ast → draft.ast ≡ ast
unfolding finished
finished_same Ended draft end ast is = cc
finished_same stage draft end ast is = absurd cc

read_few : (symbols : List Symbol) (state : State) (draft : Draft) (end : Place) (ast : Ast) → read state draft symbols end ≡ Ok ast → HasFewRows (length symbols) draft.ast ast
unfolding read
read_few [] state draft end ast is =
    let same = finished_same state.stage draft end ast is in
    subst (λ (tree : Ast). HasFewRows 0 draft.ast tree) same (record { rows = omega arith; uncertain = omega arith })
read_few (symbol ∷ symbols) state draft end ast is =
    let on = goes state.stage state.seen draft symbol symbols end ast is in
    let one = noted_step state.stage state.seen.uncertainty symbol.word symbol.place draft in
    let others = read_few symbols on.next (noted state.stage state.seen.uncertainty symbol.word symbol.place draft) end ast on.reads in
    record { rows = omega arith; uncertain = omega arith }

-- a text has no more rows of either kind than symbols
pub text_few : (names : List (List ℕ)) (symbols : List Symbol) (ast : Ast) → KnowColons symbols → IsText names symbols ast
    → (length ast.rows ≤ length symbols) × (length ast.uncertain ≤ length symbols)
unfolding empty_draft empty_ast
text_few names symbols ast colons text =
    let end : Place = record { line = 1; column = 1 } in
    let few = read_few symbols start (empty_draft names) end ast (text_reads names symbols ast end colons text) in
    (omega (arith, few.rows), omega (arith, few.uncertain))
