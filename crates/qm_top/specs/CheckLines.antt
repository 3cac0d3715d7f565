-- The lines that say what a certificate's text comes to.
use Rattle.std.specs.Prelude.{ℕ, List, [], ◌∷◌, codes}
use Rattle.std.specs.Fmt.{decimal}
use Rattle.qm_frac.specs.declared.leaves.Leaves.{Leaves}
use Rattle.qm_trees.specs.declared.rule.Rule.{Rule}
use Rattle.qm_trees.specs.declared.rule.Rule.TheVariants as rule
use Rattle.qm_certfile.specs.Lines.{Line, Word, line_text}
use Rattle.qm_top.specs.LeaveLines.{operation_words}

abbrev pub rule_word : Rule → Word
rule_word rule.Text = codes "text"
rule_word rule.Number = codes "number"
rule_word rule.Legal = codes "legal"
rule_word rule.Cut = codes "cut"
rule_word rule.Cover = codes "cover"
rule_word rule.Choose = codes "choose"
rule_word rule.Leaf = codes "leaf"
rule_word rule.Close = codes "close"
rule_word rule.Pick = codes "pick"
rule_word rule.Scenario = codes "scenario"
rule_word rule.Use = codes "use"
rule_word rule.Lemma = codes "lemma"

-- it is accepted with this claim, which its first line says so
abbrev pub accepted_line : Line → List ℕ
accepted_line claim = line_text (codes "accepted" ∷ claim)

-- the line of this number is the first at fault, and breaks this rule
abbrev pub refused_line : ℕ → Rule → List ℕ
refused_line number broken = line_text (codes "refused" ∷ decimal number ∷ rule_word broken ∷ [])

-- the line of this number is the first at fault: this operation of its rule leaves
abbrev pub leaves_line : ℕ → Leaves → List ℕ
leaves_line number leaves = line_text (codes "leaves" ∷ decimal number ∷ operation_words leaves)
