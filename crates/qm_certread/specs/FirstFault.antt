-- The first fault of a certificate's text: line by line its form, and then its rule, with what the lines before it say.
use Rattle.std.specs.Prelude.{ℕ, ◌+◌, ℤ, Bool, false, ◌&&◌, ◌==◌, List, [], ◌∷◌, ◌++◌, drop, None, Some, Ok, Err, slice_get, if◌then◌else◌}
use Rattle.std.specs.List.{list_all}
use Rattle.qm_math.specs.Fraction.{Fraction}
use Rattle.qm_model.specs.declared.row.Row.{Row}
use Rattle.qm_model.specs.declared.range.Range.{Range}
use Rattle.qm_model.specs.declared.game.Problem.{Problem}
use Rattle.qm_model.specs.Goals.{Goal}
use Rattle.qm_model.specs.Legal.{begin_within, holds_at}
use Rattle.qm_model.specs.Plays.{spread, universal_vars, whole_vars}
use Rattle.qm_model.specs.Ranges.{is_in, range_at}
use Rattle.qm_trees.specs.declared.rule.Rule.TheVariants as broken
use Rattle.qm_trees.specs.Verdicts.{Verdict, Fine, Broken, line, ◌then◌}
use Rattle.qm_trees.specs.Ranges.{counts_right, follows_on}
use Rattle.qm_trees.specs.Leaves.{leaf_passes}
use Rattle.qm_trees.specs.Picks.{fit, meet_on_box, picked}
use Rattle.qm_trees.specs.EmptyJudgement.{closes_empty}
use Rattle.qm_trees.specs.RefuteJudgement.{Head, closes_here, counts_over}
use Rattle.qm_certfile.specs.Styles.{Style, first_style}
use Rattle.qm_certread.specs.Pieces.{lines_of, words_of}
use Rattle.qm_certread.specs.Nodes.{Node, Legal, Choose, Answer, Leaf, Split, Over, Pick, Close, Part}
use Rattle.qm_certread.specs.Forms.{is_nothing, rule_of, said_at}
use Rattle.qm_certread.specs.Tasks.{Task, Claimed, Played, Policy, Below, Empty, Refute, Ranges, due_of, follow}

-- ---- the rule of a line that is in form

-- each value is within the bounds of its universal variable, and then each uncertainty row holds
abbrev pub is_play : Problem → List ℤ → Bool
is_play P values = begin_within (universal_vars P) values && list_all (holds_at (spread (whole_vars P) values)) P.urows

-- in a policy at a value
abbrev pub policy_rule : Problem → Fraction → ℕ → List Range → Node → Verdict
policy_rule P value depth bx (Choose v) = line broken.Choose (Ok (is_in (range_at bx depth) v))
policy_rule P value depth bx (Answer count) = line broken.Cover (Ok (counts_right (range_at bx depth) count))
policy_rule P value depth bx (Leaf point) = line broken.Leaf (leaf_passes P value bx point)
policy_rule P value depth bx node = Fine 1

-- in an empty tree
abbrev pub empty_rule : Problem → List Range → Node → Verdict
empty_rule P bx (Split var count) = line broken.Cover (Ok (counts_right (range_at bx var) count))
empty_rule P bx (Close combo) = line broken.Close (closes_empty P bx combo)
empty_rule P bx node = Fine 1

-- so many ranges may cover that of the next variable: a universal one's has one alone
abbrev pub may_cover : Problem → ℕ → List Range → ℕ → Bool
may_cover P depth bx count = elim (slice_get (whole_vars P) depth) [ None ↦ false | Some x ↦ counts_over x (range_at bx depth) count ]

-- the value is in range, and with the completion each uncertainty row holds at the worst ends of the box
abbrev pub can_pick : Problem → ℕ → List Range → ℤ → List ℤ → Bool
can_pick P depth bx v completion =
    let later = drop (depth + 1) (whole_vars P) in
    is_in (range_at bx depth) v && fit later (drop (depth + 1) bx) completion && meet_on_box P (picked depth later bx v completion)

-- in a refutation of a goal
abbrev pub refute_rule : Problem → List Row → Goal → ℕ → List Range → Node → Verdict
refute_rule P cuts G depth bx (Over count) = line broken.Cover (Ok (may_cover P depth bx count))
refute_rule P cuts G depth bx (Pick v completion) = line broken.Pick (Ok (can_pick P depth bx v completion))
refute_rule P cuts G depth bx (Close combo) = line broken.Close (closes_here P cuts bx G combo)
refute_rule P cuts G depth bx node = Fine 1

-- the line that says this, which has no rule at other places
abbrev pub rule_at : Problem → List Row → List Head → Task → Node → Verdict
rule_at P cuts heads Played (Legal values) = line broken.Legal (Ok (is_play P values))
rule_at P cuts heads (Policy value depth bx) node = policy_rule P value depth bx node
rule_at P cuts heads (Below value depth bx) node = policy_rule P value depth bx node
rule_at P cuts heads (Empty position bx) node = empty_rule P bx node
rule_at P cuts heads (Refute G depth bx) node = refute_rule P cuts G depth bx node
rule_at P cuts heads (Ranges covering n next) (Part range) = line broken.Cover (Ok (follows_on next covering.high (n == 0) range))
rule_at P cuts heads task node = Fine 1

-- ---- texts

-- The lines of a text where these tasks are due, from its first one on. The last piece of a text has no LF, so a line that
-- is due there is missing or cut; and where nothing is due, the text ends. The rows are the cuts, the heads those of lemmas.
abbrev pub judge_lines : Style → Problem → List Row → List Head → List Task → List (List ℕ) → Verdict
judge_lines style P cuts heads tasks [] = Broken broken.Text 0
judge_lines style P cuts heads [] (rest ∷ []) = if is_nothing rest then Fine 0 else Broken broken.Text 0
judge_lines style P cuts heads (task ∷ tasks) (rest ∷ []) = Broken broken.Text 0
judge_lines style P cuts heads [] (line ∷ next ∷ lines) = Broken broken.Text 0
judge_lines style P cuts heads (task ∷ tasks) (line ∷ next ∷ lines) =
    elim (said_at style P (due_of task) (words_of line)) [
      | Ok node ↦ rule_at P cuts heads task node then judge_lines style P cuts heads (follow style P task node ++ tasks) (next ∷ lines)
      | Err r ↦ Broken (rule_of r) 0
    ]

-- The first line of a certificate's text at fault, counted from 0: it isn't in form, or breaks its rule, or an operation
-- of its rule leaves. `Fine` where none is. There are no cuts and no lemmas yet.
unfoldable pub first_fault : Problem → List ℕ → Verdict
first_fault P text = judge_lines first_style P [] [] (Claimed ∷ []) (lines_of text)
