use Rattle.std.proofs.Common.{◌≡◌, true}
use Rattle.qm_certread.specs.Spelling.{are_in_order}
use Rattle.qm_certread.specs.WordSteps.{words_behind}
use Rattle.qm_certread.proofs.EntryForms.{entries_formed}
use Rattle.qm_certread.proofs.said.entries_said.Goals as goal

pub of-requires : goal.of-requires
of-requires c =
    let order : are_in_order (words_behind c.args.rest.now) ≡ true = cc in
    entries_formed (words_behind c.args.rest.now) c.in-Ok.entries c.in-Ok.ensures order
