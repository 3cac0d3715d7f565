use Rattle.std.proofs.Common.{sym, ◌∙◌}
use Rattle.qm_check.proofs.Plays.{play_rows_small, play_vars_below}
use Rattle.qm_check.proofs.play.is_play.Goals as goal

pub all_hold-requires-clause-vars : goal.all_hold-requires-clause-vars
all_hold-requires-clause-vars c =
    let sound = rw c.problem-problem.ensures.value at c.problem-problem.ensures.sound in
    rw (c.as_slice.ensures, c.as_slice-2.ensures, c.in_ok-all.ensures, c.whole_vars-vars.ensures, c.problem-problem.ensures.value)
    (play_vars_below c.args.game.now c.args.values.now sound)

pub all_hold-requires-clause-size : goal.all_hold-requires-clause-size
all_hold-requires-clause-size c =
    let sound = rw c.problem-problem.ensures.value at c.problem-problem.ensures.sound in
    let within = rw (c.whole_vars-vars.ensures, c.problem-problem.ensures.value) at c.are_in_bounds.ensures in
    rw (c.as_slice.ensures, c.as_slice-2.ensures, c.in_ok-all.ensures, c.whole_vars-vars.ensures, c.problem-problem.ensures.value)
    (play_rows_small c.args.game.now c.args.values.now sound (sym within ∙ c.if-not-are_in_bounds.false))
