-- The lines of trees: a node's line first, then what stands below it. The place is the number of the next variable.
use Rattle.std.specs.Prelude.{ℕ, ◌+◌, Bool, true, false, List, [], ◌∷◌, ◌++◌, codes, length, map}
use Rattle.std.specs.Fmt.{decimal, signed_decimal}
use Rattle.qm_model.specs.declared.range.Range.{Range}
use Rattle.qm_trees.specs.declared.combination.Entry.{Entry}
use Rattle.qm_trees.specs.declared.empty.Empty.{Empty}
use Rattle.qm_trees.specs.declared.empty.Empty.TheOpen as none
use Rattle.qm_trees.specs.declared.empty.Empty.TheFolds.{fold-Empty, fold-EmptyPart}
use Rattle.qm_trees.specs.declared.empty.EmptyPart.{EmptyPart}
use Rattle.qm_trees.specs.declared.policy.Policy.{Policy}
use Rattle.qm_trees.specs.declared.policy.Below.TheOpen as answer
use Rattle.qm_trees.specs.declared.policy.Below.{Below}
use Rattle.qm_trees.specs.declared.policy.Below.TheFolds.{fold-Below, fold-Policy, fold-PolicyPart}
use Rattle.qm_trees.specs.declared.policy.PolicyPart.{PolicyPart}
use Rattle.qm_trees.specs.declared.refutation.Refute.{Refute}
use Rattle.qm_trees.specs.declared.refutation.Refute.TheOpen as why
use Rattle.qm_trees.specs.declared.refutation.Refute.TheFolds.{fold-Refute, fold-RefutePart}
use Rattle.qm_trees.specs.declared.refutation.RefutePart.{RefutePart}
use Rattle.qm_trees.specs.Entries.{Combination}
use Rattle.qm_text.specs.Numbers.{number_word}
use Rattle.qm_certfile.specs.Lines.{Word, Line}
use Rattle.qm_certfile.specs.Styles.{Style}

-- the lines from a place on
abbrev pub Lines : Type 0
Lines = ℕ → List Line

-- those of each part, one after another
abbrev pub joined : List Lines → Lines
joined [] place = []
joined (part ∷ parts) place = part place ++ joined parts place

-- `range LOW HIGH`, and what stands below
abbrev pub part_lines : Range → Lines → Lines
part_lines r below place = (codes "range" ∷ signed_decimal r.low ∷ signed_decimal r.high ∷ []) ∷ below place

-- ---- combinations

-- `NAME=MULTIPLIER`
abbrev pub entry_word : Style → Entry → Word
entry_word style e = style.row_name e.row ++ 61 ∷ number_word e.by

abbrev pub objective_words : Bool → List Word
objective_words true = codes "o" ∷ []
objective_words false = []

-- `close`, `o` where the objective is in, and the entries
abbrev pub close_line : Style → Combination → Line
close_line style combo = codes "close" ∷ objective_words combo.objective ++ map (entry_word style) combo.entries

-- ---- empty trees

-- `split VARIABLE COUNT`, and the parts
abbrev pub empty_step : Style → none.Empty-F Lines Lines → Lines
empty_step style (none.Split var parts) place = (codes "split" ∷ style.split_variable var ∷ decimal (length parts) ∷ []) ∷ joined parts place
empty_step style (none.Close combo) place = close_line style combo ∷ []

abbrev pub empty_part_step : none.EmptyPart-F Lines Lines → Lines
empty_part_step part = part_lines part.range part.below

abbrev pub empty_lines : Style → Empty → Lines
empty_lines style = fold-Empty Lines Lines (empty_step style) empty_part_step

abbrev pub empty_part_lines : Style → EmptyPart → Lines
empty_part_lines style = fold-EmptyPart Lines Lines (empty_step style) empty_part_step

-- `illegal`, and the tree that shows it
abbrev pub illegal_lines : Style → Empty → Lines
illegal_lines style tree place = (codes "illegal" ∷ []) ∷ empty_lines style tree place

-- ---- policies

abbrev pub policy_step : Style → answer.Policy-F Lines Lines Lines → Lines
policy_step style (answer.Choose value below) place = (codes "choose" ∷ style.variable place ++ signed_decimal value ∷ []) ∷ below (place + 1)
policy_step style (answer.Answer parts) place = (codes "answer" ∷ style.variable place ++ decimal (length parts) ∷ []) ∷ joined parts (place + 1)
policy_step style (answer.Leaf point) place = (codes "leaf" ∷ style.continuous_values (map number_word point)) ∷ []

abbrev pub policy_part_step : answer.PolicyPart-F Lines Lines Lines → Lines
policy_part_step part = part_lines part.range part.below

abbrev pub below_step : Style → answer.Below-F Lines Lines Lines → Lines
below_step style (answer.On policy) = policy
below_step style (answer.Illegal tree) = illegal_lines style tree

abbrev pub policy_lines : Style → Policy → Lines
policy_lines style = fold-Policy Lines Lines Lines (below_step style) (policy_step style) policy_part_step

abbrev pub policy_part_lines : Style → PolicyPart → Lines
policy_part_lines style = fold-PolicyPart Lines Lines Lines (below_step style) (policy_step style) policy_part_step

abbrev pub below_lines : Style → Below → Lines
below_lines style = fold-Below Lines Lines Lines (below_step style) (policy_step style) policy_part_step

-- ---- refutations

abbrev pub refute_step : Style → why.Refute-F Lines Lines → Lines
refute_step style (why.Over parts) place = (codes "over" ∷ style.variable place ++ decimal (length parts) ∷ []) ∷ joined parts (place + 1)
refute_step style (why.Pick value completion below) place =
    (codes "pick" ∷ style.variable place ++ signed_decimal value ∷ style.universal_values (place + 1) (map signed_decimal completion)) ∷ below (place + 1)
refute_step style (why.Close combo) place = close_line style combo ∷ []

abbrev pub refute_part_step : why.RefutePart-F Lines Lines → Lines
refute_part_step part = part_lines part.range part.below

abbrev pub refute_lines : Style → Refute → Lines
refute_lines style = fold-Refute Lines Lines (refute_step style) refute_part_step

abbrev pub refute_part_lines : Style → RefutePart → Lines
refute_part_lines style = fold-RefutePart Lines Lines (refute_step style) refute_part_step
