use Rattle.std.proofs.Common.{◌≡◌, ◌++◌, drop}
use Rattle.qm_model.specs.Plays.{spread}
use Rattle.qm_check.proofs.play.spread.Given as goal

abbrev pub invariant-loop-var : goal.invariant-loop-var
invariant-loop-var l = l.all ++ spread (drop l.var-index l.vars) l.left ≡ spread l.vars l.values
