use Rattle.std.proofs.lemmas.Int.{to_z-of_z}
use Rattle.std.proofs.Common.{◌≡◌, ◌∙◌, sym}
use mir.Syntax.{w64}
use Rattle.probe_journals.proofs.Chains.{legal_along}
use Rattle.probe_journals.proofs.questions.going_on.Goals as goal

pub returns : goal.returns
returns c =
    rw (c.in_ok-with_end.ensures, to_z-of_z w64 c.args.value c.ranges.value)
    (legal_along c.args.game.now c.args.before.now c.args.value c.whole_vars-vars.result.now c.index-vars-before.result c.whole_vars-vars.ensures.vars c.if-before-vars.false c.index-vars-before.is (sym c.is_for_all.ensures ∙ c.if-is_for_all.false) c.requires.legal)
