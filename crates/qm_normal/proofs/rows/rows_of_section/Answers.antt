use Rattle.std.proofs.Common.{◌≡◌, ◌<◌, List, ap, sym, ◌∙◌, arith, length, get_or, Some, None, Err}
use Rattle.qm_model.specs.declared.row.Row.{Row}
use Rattle.qm_parse.specs.declared.ast.AstRow.{AstRow}
use Rattle.qm_normal.specs.Normal.{rows_from, with_front}
use Rattle.qm_model.specs.declared.variable.Var.{Var}
use Rattle.qm_parse.specs.declared.ast.AstTerm.{AstTerm}
use Rattle.qm_parse.specs.declared.ast.Named.{Named}
use Rattle.qm_normal.specs.declared.fault.NormalFault.TheVariants as fault
use Rattle.qm_normal.specs.declared.fault.Which.{Which}
use Rattle.qm_normal.specs.Rows.{normal_row}
use Rattle.qm_normal.specs.Variables.{game_order, vars_of}
use Rattle.qm_normal.specs.RowSteps.{part_of, rows_in}
use Rattle.qm_normal.proofs.RowLists.{front-nil, last_rows, turn_rows, wide_rows}
use Rattle.qm_normal.proofs.rows.rows_of_section.Goals as goal

pub loop-before-init : goal.loop-before-init
loop-before-init c =
    let rows = rows_from (part_of c.args.section) c.args.ast.now 0 (rows_in c.args.section c.args.ast.now) in
    ap (λ (front : List Row). with_front front rows) c.new-list.ensures ∙ front-nil rows

pub returns : goal.returns
returns c =
    last_rows (part_of c.args.section) c.args.ast.now (rows_in c.args.section c.args.ast.now) c.loop-before.before c.loop-before.list _ (omega (arith, ap (length {A = AstRow}) c.rows_in-row-items.ensures)) c.loop-before.invariant

pub loop-before-preserved : goal.loop-before-preserved
loop-before-preserved c =
    let ast = c.args.ast.now in
    let rows = rows_in c.args.section ast in
    let row = c.row-item.result in
    let inside : c.loop-before.before < length rows = omega (arith, ap (length {A = AstRow}) c.rows_in-row-items.ensures) in
    let at : row ≡ get_or rows c.loop-before.before row = c.row-item.is ∙ ap (λ (rs : List AstRow). get_or rs c.loop-before.before row) c.rows_in-row-items.ensures in
    let made : Some c.in-Some.one ≡ normal_row (vars_of ast) (game_order ast) row.terms row.right =
    sym c.in-Some.is ∙ c.in_ok-one.ensures.row
    ∙ ap (λ (xs : List Var). normal_row xs c.args.order.now c.as_slice-terms.result.now row.right) c.requires.vars
    ∙ ap (λ (order : List Named). normal_row (vars_of ast) order c.as_slice-terms.result.now row.right) c.requires.order
    ∙ ap (λ (terms : List AstTerm). normal_row (vars_of ast) (game_order ast) terms row.right) c.as_slice-terms.ensures in
    turn_rows (part_of c.args.section) ast rows c.loop-before.before row c.in-Some.one c.loop-before.list c.add_related.new.list _ inside at made c.in_ok-add_related-in-Some.ensures c.loop-before.invariant

pub returns-in-None : goal.returns-in-None
returns-in-None c =
    let ast = c.args.ast.now in
    let rows = rows_in c.args.section ast in
    let row = c.row-item.result in
    let inside : c.loop-before.before < length rows = omega (arith, ap (length {A = AstRow}) c.rows_in-row-items.ensures) in
    let at : row ≡ get_or rows c.loop-before.before row = c.row-item.is ∙ ap (λ (rs : List AstRow). get_or rs c.loop-before.before row) c.rows_in-row-items.ensures in
    let made : None ≡ normal_row (vars_of ast) (game_order ast) row.terms row.right =
    sym c.in-None.is ∙ c.in_ok-one.ensures.row
    ∙ ap (λ (xs : List Var). normal_row xs c.args.order.now c.as_slice-terms.result.now row.right) c.requires.vars
    ∙ ap (λ (order : List Named). normal_row (vars_of ast) order c.as_slice-terms.result.now row.right) c.requires.order
    ∙ ap (λ (terms : List AstTerm). normal_row (vars_of ast) (game_order ast) terms row.right) c.as_slice-terms.ensures in
    wide_rows (part_of c.args.section) ast rows c.loop-before.before row c.loop-before.list _ inside at made c.loop-before.invariant
    ∙ ap (λ (part : Which). Err (fault.Wide part)) (sym c.part_of.ensures)
