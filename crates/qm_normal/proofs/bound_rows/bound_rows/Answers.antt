use Rattle.std.proofs.Common.{◌≡◌, ℕ, ◌+◌, true, false, get_or, ap, ◌∙◌, rules, arith}
use Rattle.qm_normal.specs.Normal.{bound_rows_from, with_front}
use Rattle.qm_parse.specs.declared.ast.Named.{Named}
use Rattle.qm_normal.proofs.TableLaws.{bounds_same}
use Rattle.qm_normal.proofs.RowLists.{last_bounds, put_seen, turn_bounds, wide_bounds}
use Rattle.qm_normal.proofs.bound_rows.bound_rows.Goals as goal

abbrev no_name : Named
no_name = record { name = 0; at = record { line = 0; column = 0 } }

pub loop-i-init : goal.loop-i-init
loop-i-init c =
    let first : c.args.first + 0 ≡ c.args.first = omega arith in
    ap (λ (n : ℕ). with_front c.args.front (bound_rows_from c.args.ast.now n c.args.continuous.now)) first

pub returns-then-not-branch : goal.returns-then-not-branch
returns-then-not-branch c =
    let told : c.in_ok-add_rows.field-0 ≡ false = search rules in
    rw c.in_ok-too_wide.ensures
    (wide_bounds c.args.ast.now c.args.first c.args.continuous.now c.loop-i.i no_name c.loop-i.list c.add_rows.new.list (with_front c.args.front (bound_rows_from c.args.ast.now c.args.first c.args.continuous.now)) (omega arith)
    (put_seen c.args.ast.now c.args.vars.now (c.args.first + c.loop-i.i) (get_or c.args.continuous.now c.loop-i.i no_name) c.exact_bounds-bounds.result c.in_ok-add_rows.field-0 false c.loop-i.list c.add_rows.new.list
    c.requires.vars (c.exact_bounds-bounds.ensures ∙ bounds_same c.args.ast.now c.args.roles.now c.args.ends.now c.requires.roles c.requires.ends (get_or c.args.continuous.now c.loop-i.i no_name)) told c.in_ok-add_rows.ensures)
    c.loop-i.invariant)

pub loop-i-preserved : goal.loop-i-preserved
loop-i-preserved c =
    let told : c.in_ok-add_rows.field-0 ≡ true = search rules in
    turn_bounds c.args.ast.now c.args.first c.args.continuous.now c.loop-i.i no_name c.loop-i.list c.add_rows.new.list (with_front c.args.front (bound_rows_from c.args.ast.now c.args.first c.args.continuous.now)) (omega arith)
    (put_seen c.args.ast.now c.args.vars.now (c.args.first + c.loop-i.i) (get_or c.args.continuous.now c.loop-i.i no_name) c.exact_bounds-bounds.result c.in_ok-add_rows.field-0 true c.loop-i.list c.add_rows.new.list
    c.requires.vars (c.exact_bounds-bounds.ensures ∙ bounds_same c.args.ast.now c.args.roles.now c.args.ends.now c.requires.roles c.requires.ends (get_or c.args.continuous.now c.loop-i.i no_name)) told c.in_ok-add_rows.ensures)
    c.loop-i.invariant

pub returns : goal.returns
returns c = last_bounds c.args.ast.now c.args.first c.args.continuous.now c.loop-i.i c.loop-i.list _ (omega arith) c.loop-i.invariant
