use Rattle.std.proofs.Common.{◌∙◌, refl, length}
use Rattle.qm_journal.specs.Questions.{named_prefix}
use Rattle.qm_legal.proofs.Asking.{answered_at_once}
use Rattle.qm_legal.proofs.Plays.{illegal_prefix, legal_completion, tree_is_illegal, values_complete}
use Rattle.qm_legal.proofs.answer.legal.Goals as goal

pub at-here-requires : goal.at-here-requires
at-here-requires c = rw c.depth_of.ensures c.requires.bx.query.depth_in

pub answered-requires-clause-lawful : goal.answered-requires-clause-lawful
answered-requires-clause-lawful c = rw c.at-here.ensures.game c.requires.lawful

pub answered-requires-clause-new : goal.answered-requires-clause-new
answered-requires-clause-new c = rw c.at-here.ensures.game c.requires.new

pub answered-requires-clause-depth : goal.answered-requires-clause-depth
answered-requires-clause-depth c = c.at-here.ensures.depth ∙ c.depth_of.ensures

pub answered-requires-clause-bx : goal.answered-requires-clause-bx
answered-requires-clause-bx c = rw (c.at-here.ensures.game, c.in_ok-tried.ensures) c.requires.bx

pub completion-requires-clause-depth : goal.completion-requires-clause-depth
completion-requires-clause-depth c = rw (c.at-here.ensures.game, c.at-here.ensures.depth, c.depth_of.ensures) c.requires.bx.query.depth_in

pub completion-requires-clause-bx : goal.completion-requires-clause-bx
completion-requires-clause-bx c =
    let found = rw c.in-None.is at c.in_ok-tree.ensures.found in
    found.box

pub returns-in_err-tried-clause-went_on : goal.returns-in_err-tried-clause-went_on
returns-in_err-tried-clause-went_on c = (answered_at_once c.args.game.now c.args.named c.args.journal.now c.args.journal.now c.requires.lawful refl).went_on

pub returns-in-Some-clause-answer : goal.returns-in-Some-clause-answer
returns-in-Some-clause-answer c =
    let P = c.args.game.now in
    let depth = length (named_prefix c.args.journal.now.entries c.args.named.parent c.args.named.value) in
    let sound = rw c.problem-problem.ensures.value at c.problem-problem.ensures.sound in
    let here = rw (c.at-here.ensures.game, c.at-here.ensures.depth, c.depth_of.ensures) at c.at-here.result.from_depth in
    let found = rw (c.in-Some.is, here, c.at-here.ensures.game, c.at-here.ensures.depth, c.depth_of.ensures) at c.in_ok-tree.ensures.found in
    tree_is_illegal P sound depth c.args.bx.now c.requires.bx.query c.in_ok-tried.tried c.answered.new.bx c.in-Some.tree c.in_ok-tried.ensures found

pub returns-in-Some-clause-exact : goal.returns-in-Some-clause-exact
returns-in-Some-clause-exact c = λ prefix same.
    let P = c.args.game.now in
    let depth = length (named_prefix c.args.journal.now.entries c.args.named.parent c.args.named.value) in
    let sound = rw c.problem-problem.ensures.value at c.problem-problem.ensures.sound in
    let here = rw (c.at-here.ensures.game, c.at-here.ensures.depth, c.depth_of.ensures) at c.at-here.result.from_depth in
    let found = rw (c.in-Some.is, here, c.at-here.ensures.game, c.at-here.ensures.depth, c.depth_of.ensures) at c.in_ok-tree.ensures.found in
    let tree = tree_is_illegal P sound depth c.args.bx.now c.requires.bx.query c.in_ok-tried.tried c.answered.new.bx c.in-Some.tree c.in_ok-tried.ensures found in
    (λ none. absurd none, illegal_prefix P sound depth c.args.bx.now c.requires.bx.query prefix same c.in-Some.tree tree)

pub returns-clause-answer : goal.returns-clause-answer
returns-clause-answer c =
    let P = c.args.game.now in
    let depth = length (named_prefix c.args.journal.now.entries c.args.named.parent c.args.named.value) in
    let sound = rw c.problem-problem.ensures.value at c.problem-problem.ensures.sound in
    let here = rw (c.at-here.ensures.game, c.at-here.ensures.depth, c.depth_of.ensures) at c.at-here.result.from_depth in
    let found = rw (c.in-None.is, c.at-here.ensures.game, c.at-here.ensures.depth, c.depth_of.ensures) at c.in_ok-tree.ensures.found in
    let values = rw (here, c.at-here.ensures.depth, c.depth_of.ensures) at c.in_ok-completion-in-None.ensures in
    let play = values_complete P sound depth c.args.bx.now c.requires.bx.query c.in_ok-tried.tried c.answered.new.bx c.in_ok-completion-in-None.field-0 c.in_ok-tried.ensures found values in
    play

pub returns-clause-exact : goal.returns-clause-exact
returns-clause-exact c = λ prefix same.
    let P = c.args.game.now in
    let depth = length (named_prefix c.args.journal.now.entries c.args.named.parent c.args.named.value) in
    let sound = rw c.problem-problem.ensures.value at c.problem-problem.ensures.sound in
    let here = rw (c.at-here.ensures.game, c.at-here.ensures.depth, c.depth_of.ensures) at c.at-here.result.from_depth in
    let found = rw (c.in-None.is, c.at-here.ensures.game, c.at-here.ensures.depth, c.depth_of.ensures) at c.in_ok-tree.ensures.found in
    let values = rw (here, c.at-here.ensures.depth, c.depth_of.ensures) at c.in_ok-completion-in-None.ensures in
    let play = values_complete P sound depth c.args.bx.now c.requires.bx.query c.in_ok-tried.tried c.answered.new.bx c.in_ok-completion-in-None.field-0 c.in_ok-tried.ensures found values in
    (λ _. legal_completion P sound depth c.args.bx.now c.requires.bx.query prefix same c.in_ok-completion-in-None.field-0 play, λ _. tt)

pub returns-in_err-tree-clause-went_on : goal.returns-in_err-tree-clause-went_on
returns-in_err-tree-clause-went_on c = c.answered.ensures.answered.went_on

pub returns-in_err-tree-clause-lawful : goal.returns-in_err-tree-clause-lawful
returns-in_err-tree-clause-lawful c = rw c.at-here.ensures.game at c.answered.ensures.answered.lawful

pub returns-in_err-tree-clause-limit : goal.returns-in_err-tree-clause-limit
returns-in_err-tree-clause-limit c = c.answered.ensures.answered.limit

pub returns-in_err-tree-clause-unrestricted : goal.returns-in_err-tree-clause-unrestricted
returns-in_err-tree-clause-unrestricted c = rw c.at-here.ensures.game at c.answered.ensures.answered.unrestricted

pub returns-in-Some-clause-went_on : goal.returns-in-Some-clause-went_on
returns-in-Some-clause-went_on c = c.answered.ensures.answered.went_on

pub returns-in-Some-clause-lawful : goal.returns-in-Some-clause-lawful
returns-in-Some-clause-lawful c = rw c.at-here.ensures.game at c.answered.ensures.answered.lawful

pub returns-in-Some-clause-limit : goal.returns-in-Some-clause-limit
returns-in-Some-clause-limit c = c.answered.ensures.answered.limit

pub returns-in-Some-clause-unrestricted : goal.returns-in-Some-clause-unrestricted
returns-in-Some-clause-unrestricted c = rw c.at-here.ensures.game at c.answered.ensures.answered.unrestricted

pub returns-in_err-completion-in-None-clause-went_on : goal.returns-in_err-completion-in-None-clause-went_on
returns-in_err-completion-in-None-clause-went_on c = c.answered.ensures.answered.went_on

pub returns-in_err-completion-in-None-clause-lawful : goal.returns-in_err-completion-in-None-clause-lawful
returns-in_err-completion-in-None-clause-lawful c = rw c.at-here.ensures.game at c.answered.ensures.answered.lawful

pub returns-in_err-completion-in-None-clause-limit : goal.returns-in_err-completion-in-None-clause-limit
returns-in_err-completion-in-None-clause-limit c = c.answered.ensures.answered.limit

pub returns-in_err-completion-in-None-clause-unrestricted : goal.returns-in_err-completion-in-None-clause-unrestricted
returns-in_err-completion-in-None-clause-unrestricted c = rw c.at-here.ensures.game at c.answered.ensures.answered.unrestricted

pub returns-clause-went_on : goal.returns-clause-went_on
returns-clause-went_on c = c.answered.ensures.answered.went_on

pub returns-clause-lawful : goal.returns-clause-lawful
returns-clause-lawful c = rw c.at-here.ensures.game at c.answered.ensures.answered.lawful

pub returns-clause-limit : goal.returns-clause-limit
returns-clause-limit c = c.answered.ensures.answered.limit

pub returns-clause-unrestricted : goal.returns-clause-unrestricted
returns-clause-unrestricted c = rw c.at-here.ensures.game at c.answered.ensures.answered.unrestricted
