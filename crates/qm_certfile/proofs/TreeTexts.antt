-- The text of a tree, written node by node.
use Rattle.std.proofs.Common.{◌≡◌, ℕ, ◌+◌, ◌<◌, ℤ, List, [], ◌∷◌, ◌++◌, append_assoc, drop, get_or, length, map, sym, ap, ◌∙◌}
use Rattle.std.specs.Prelude.{codes}
use Rattle.std.specs.Fmt.{decimal, signed_decimal}
use Rattle.std.proofs.lemmas.List.{drop_more}
use Rattle.qm_trees.specs.declared.policy.Policy.{Policy}
use Rattle.qm_trees.specs.declared.policy.Policy.TheVariants.{Answer}
use Rattle.qm_trees.specs.declared.empty.Empty.{Empty}
use Rattle.qm_trees.specs.declared.empty.Empty.TheVariants.{Split}
use Rattle.qm_trees.specs.declared.empty.EmptyPart.{EmptyPart}
use Rattle.qm_trees.specs.declared.policy.Below.{Below}
use Rattle.qm_trees.specs.declared.policy.Below.TheVariants.{On}
use Rattle.qm_trees.specs.declared.policy.PolicyPart.{PolicyPart}
use Rattle.qm_trees.specs.declared.refutation.Refute.{Refute}
use Rattle.qm_trees.specs.declared.refutation.Refute.TheVariants.{Over, Pick}
use Rattle.qm_trees.specs.declared.refutation.RefutePart.{RefutePart}
use Rattle.qm_certfile.specs.Lines.{Line, line_text, text_of}
use Rattle.qm_certfile.specs.Styles.{first_style}
use Rattle.qm_certfile.specs.TreeLines.{Lines, joined, below_lines, empty_lines, empty_part_lines, policy_lines, policy_part_lines, refute_lines, refute_part_lines}
use Rattle.qm_certfile.proofs.LineTexts.{text_of_append, wrote}
use Rattle.qm_certfile.proofs.TreeShapes.{answer_lines, on_lines, split_lines, over_lines, pick_lines}

-- a part more
pub part_wrote : {A : Type 0} (f : A → Lines) (parts : List A) (at : ℕ) (part : A) (old here new : List ℕ)
    → at < length parts → part ≡ get_or parts at part
    → ((place : ℕ) → here ++ text_of (joined (map f (drop at parts)) place) ≡ old ++ text_of (joined (map f parts) place))
    → ((place : ℕ) → new ≡ here ++ text_of (f part place))
    → (place : ℕ) → new ++ text_of (joined (map f (drop (at + 1) parts)) place) ≡ old ++ text_of (joined (map f parts) place)
part_wrote f parts at part old here new h is before step place =
    let split : drop at parts ≡ part ∷ drop (at + 1) parts = drop_more parts at part h ∙ ap (λ z. z ∷ drop (at + 1) parts) (sym is) in
    let rest = joined (map f (drop (at + 1) parts)) place in
    ap (λ t. t ++ text_of rest) (step place) ∙ append_assoc here (text_of (f part place)) (text_of rest)
    ∙ ap (λ t. here ++ t) (sym (text_of_append (f part place) rest) ∙ sym (ap (λ ps. text_of (joined (map f ps) place)) split))
    ∙ before place

-- the line of a node, and then what stands below it
line_wrote_then : (line : Line) (below : Lines) (old mid new : List ℕ) → mid ≡ old ++ line_text line → ((place : ℕ) → new ≡ mid ++ text_of (below place))
    → (place next : ℕ) (all : List Line) → all ≡ line ∷ below next → new ≡ old ++ text_of all
line_wrote_then line below old mid new e f place next all is = wrote old mid new (line_text line) (text_of (below next)) (text_of all) e (f next) (ap text_of is)

pub answer_wrote : (policy : Policy) (parts : List PolicyPart) (old mid new : List ℕ) → policy ≡ Answer parts
    → mid ≡ old ++ line_text (codes "answer" ∷ decimal (length parts) ∷ [])
    → ((place : ℕ) → new ≡ mid ++ text_of (joined (map (policy_part_lines first_style) parts) place))
    → (place : ℕ) → new ≡ old ++ text_of (policy_lines first_style policy place)
answer_wrote policy parts old mid new is e f place =
    line_wrote_then (codes "answer" ∷ decimal (length parts) ∷ []) (joined (map (policy_part_lines first_style) parts)) old mid new e f place (place + 1) (policy_lines first_style policy place)
    (ap (λ t. policy_lines first_style t place) is ∙ answer_lines first_style parts place)

pub split_wrote : (tree : Empty) (var : ℕ) (parts : List EmptyPart) (old mid new : List ℕ) → tree ≡ Split var parts
    → mid ≡ old ++ line_text (codes "split" ∷ decimal (var + 1) ∷ decimal (length parts) ∷ [])
    → ((place : ℕ) → new ≡ mid ++ text_of (joined (map (empty_part_lines first_style) parts) place))
    → (place : ℕ) → new ≡ old ++ text_of (empty_lines first_style tree place)
split_wrote tree var parts old mid new is e f place =
    line_wrote_then (codes "split" ∷ decimal (var + 1) ∷ decimal (length parts) ∷ []) (joined (map (empty_part_lines first_style) parts)) old mid new e f place place (empty_lines first_style tree place)
    (ap (λ t. empty_lines first_style t place) is ∙ split_lines first_style var parts place)

pub on_wrote : (below : Below) (policy : Policy) (old new : List ℕ) → below ≡ On policy → ((place : ℕ) → new ≡ old ++ text_of (policy_lines first_style policy place))
    → (place : ℕ) → new ≡ old ++ text_of (below_lines first_style below place)
on_wrote below policy old new is f place =
    f place ∙ ap (λ ls. old ++ text_of ls) (sym (ap (λ b. below_lines first_style b place) is ∙ on_lines first_style policy place))

pub over_wrote : (tree : Refute) (parts : List RefutePart) (old mid new : List ℕ) → tree ≡ Over parts
    → mid ≡ old ++ line_text (codes "over" ∷ decimal (length parts) ∷ [])
    → ((place : ℕ) → new ≡ mid ++ text_of (joined (map (refute_part_lines first_style) parts) place))
    → (place : ℕ) → new ≡ old ++ text_of (refute_lines first_style tree place)
over_wrote tree parts old mid new is e f place =
    line_wrote_then (codes "over" ∷ decimal (length parts) ∷ []) (joined (map (refute_part_lines first_style) parts)) old mid new e f place (place + 1) (refute_lines first_style tree place)
    (ap (λ t. refute_lines first_style t place) is ∙ over_lines first_style parts place)

pub pick_wrote : (tree : Refute) (value : ℤ) (completion : List ℤ) (below : Refute) (old mid new : List ℕ) → tree ≡ Pick value completion below
    → mid ≡ old ++ line_text (codes "pick" ∷ signed_decimal value ∷ map signed_decimal completion)
    → ((place : ℕ) → new ≡ mid ++ text_of (refute_lines first_style below place))
    → (place : ℕ) → new ≡ old ++ text_of (refute_lines first_style tree place)
pick_wrote tree value completion below old mid new is e f place =
    line_wrote_then (codes "pick" ∷ signed_decimal value ∷ map signed_decimal completion) (refute_lines first_style below) old mid new e f place (place + 1) (refute_lines first_style tree place)
    (ap (λ t. refute_lines first_style t place) is ∙ pick_lines first_style value completion below place)
