-- The lines of trees are those of their nodes.
use Rattle.std.proofs.Common.{◌≡◌, ℕ, ◌+◌, List, [], ◌∷◌, ◌++◌, length, map, refl, sym, ap, ap₂, ◌∙◌, subst}
use Rattle.std.specs.Prelude.{codes}
use Rattle.std.specs.Fmt.{decimal, signed_decimal}
use Rattle.std.proofs.lemmas.List.{length-map, map-append}
use Rattle.qm_trees.specs.declared.empty.Empty.{Empty as EmptyTree}
use Rattle.qm_trees.specs.declared.empty.EmptyPart.{EmptyPart}
use Rattle.qm_trees.specs.declared.empty.Empty.TheOpen as none
use Rattle.qm_trees.specs.declared.empty.Empty.TheViews.{roll-Empty, roll-EmptyPart}
use Rattle.qm_trees.specs.declared.empty.Empty.TheFolds.{fold-roll-Empty, fold-roll-EmptyPart, map-Empty, map-EmptyPart, ind-Empty}
use Rattle.qm_trees.specs.declared.policy.Policy.{Policy as Moving}
use Rattle.qm_trees.specs.declared.policy.Below.{Below as Under}
use Rattle.qm_trees.specs.declared.policy.PolicyPart.{PolicyPart}
use Rattle.qm_trees.specs.declared.policy.Below.TheOpen as answer
use Rattle.qm_trees.specs.declared.policy.Below.TheViews.{roll-Below, roll-Policy, roll-PolicyPart}
use Rattle.qm_trees.specs.declared.policy.Below.TheFolds.{fold-roll-Below, fold-roll-Policy, fold-roll-PolicyPart, map-Below, map-Policy, map-PolicyPart, ind-Policy}
use Rattle.qm_trees.specs.declared.refutation.Refute.{Refute as Refutation}
use Rattle.qm_trees.specs.declared.refutation.RefutePart.{RefutePart}
use Rattle.qm_trees.specs.declared.refutation.Refute.TheOpen as why
use Rattle.qm_trees.specs.declared.refutation.Refute.TheViews.{roll-Refute, roll-RefutePart}
use Rattle.qm_trees.specs.declared.refutation.Refute.TheFolds.{fold-roll-Refute, fold-roll-RefutePart, map-Refute, map-RefutePart, ind-Refute}
use Rattle.qm_certfile.specs.Lines.{Line}
use Rattle.qm_certfile.specs.Styles.{first_style}
use Rattle.qm_certfile.specs.TreeLines as lines
use Rattle.qm_certfile.specs.TreeLines.{Lines, joined, below_lines, empty_lines, empty_part_lines, policy_lines, policy_part_lines, refute_lines, refute_part_lines}
use Rattle.qm_certread.specs.Nodes.{Node}
use Rattle.qm_certread.specs.NodesOf as nodes
use Rattle.qm_certread.specs.NodesOf.{in_turn, below_nodes, empty_nodes, empty_part_nodes, policy_nodes, policy_part_nodes, refute_nodes, refute_part_nodes}
use Rattle.qm_certread.specs.Fits.{line_of}

-- from every place on
abbrev Same : (A : Type 0) → (A → Lines) → (A → List Node) → A → Type 0
Same A lines nodes a = (place : ℕ) → lines a place ≡ map line_of (nodes a)

same_parts : (A : Type 0) (lines : A → Lines) (nodes : A → List Node) (parts : List ((a : A) × Same A lines nodes a)) (place : ℕ)
    → joined (map lines (map (λ e. e.0) parts)) place ≡ map line_of (in_turn (map nodes (map (λ e. e.0) parts)))
same_parts A lines nodes [] place = refl
same_parts A lines nodes (p ∷ parts) place =
    ap₂ (λ (first : List Line) (rest : List Line). first ++ rest) (p.1 place) (same_parts A lines nodes parts place)
    ∙ sym (map-append line_of (nodes p.0) (in_turn (map nodes (map (λ e. e.0) parts))))

-- as many lines as nodes of parts
counted : {A B C : Type 0} (f : A → B) (g : A → C) (xs : List A) → decimal (length (map f xs)) ≡ decimal (length (map g xs))
counted {A} {B} {C} f g xs = ap decimal (length-map xs f ∙ sym (length-map xs g))

-- ---- empty trees

abbrev SameEmpty : EmptyTree → Type 0
SameEmpty t = Same EmptyTree (empty_lines first_style) empty_nodes t

abbrev SameEmptyPart : EmptyPart → Type 0
SameEmptyPart r = Same EmptyPart (empty_part_lines first_style) empty_part_nodes r

abbrev KnownEmpty : Type 0
KnownEmpty = none.Empty-F ((t : EmptyTree) × SameEmpty t) ((r : EmptyPart) × SameEmptyPart r)

abbrev plain_empty : KnownEmpty → none.Empty-F EmptyTree EmptyPart
plain_empty y = map-Empty ((t : EmptyTree) × SameEmpty t) ((r : EmptyPart) × SameEmptyPart r) EmptyTree EmptyPart (λ e. e.0) (λ e. e.0) y

empty_layer : (y : KnownEmpty) (place : ℕ)
    → lines.empty_step first_style (map-Empty EmptyTree EmptyPart Lines Lines (empty_lines first_style) (empty_part_lines first_style) (plain_empty y)) place
    ≡ map line_of (nodes.empty_step (map-Empty EmptyTree EmptyPart (List Node) (List Node) empty_nodes empty_part_nodes (plain_empty y)))
empty_layer (none.Split var parts) place =
    ap₂ (λ (count : List ℕ) (rest : List Line). (codes "split" ∷ decimal (var + 1) ∷ count ∷ []) ∷ rest)
    (counted (empty_part_lines first_style) empty_part_nodes (map (λ (e : (r : EmptyPart) × SameEmptyPart r). e.0) parts))
    (same_parts EmptyPart (empty_part_lines first_style) empty_part_nodes parts place)
empty_layer (none.Close combo) place = refl

empty_same_step : (x : none.Empty-F EmptyTree EmptyPart) (y : KnownEmpty) → plain_empty y ≡ x → SameEmpty (roll-Empty x)
empty_same_step x y is = subst (λ z. SameEmpty (roll-Empty z)) is (λ place.
    ap (λ (f : Lines). f place) (fold-roll-Empty Lines Lines (lines.empty_step first_style) lines.empty_part_step (plain_empty y))
    ∙ empty_layer y place
    ∙ sym (ap (map line_of) (fold-roll-Empty (List Node) (List Node) nodes.empty_step nodes.empty_part_step (plain_empty y))))

abbrev KnownEmptyPart : Type 0
KnownEmptyPart = none.EmptyPart-F ((t : EmptyTree) × SameEmpty t) ((r : EmptyPart) × SameEmptyPart r)

abbrev plain_empty_part : KnownEmptyPart → none.EmptyPart-F EmptyTree EmptyPart
plain_empty_part y = map-EmptyPart ((t : EmptyTree) × SameEmpty t) ((r : EmptyPart) × SameEmptyPart r) EmptyTree EmptyPart (λ e. e.0) (λ e. e.0) y

empty_part_step : (x : none.EmptyPart-F EmptyTree EmptyPart) (y : KnownEmptyPart) → plain_empty_part y ≡ x → SameEmptyPart (roll-EmptyPart x)
empty_part_step x y is = subst (λ z. SameEmptyPart (roll-EmptyPart z)) is (λ place.
    ap (λ (f : Lines). f place) (fold-roll-EmptyPart Lines Lines (lines.empty_step first_style) lines.empty_part_step (plain_empty_part y))
    ∙ ap (λ ls. (codes "range" ∷ signed_decimal y.range.low ∷ signed_decimal y.range.high ∷ []) ∷ ls) (y.below.1 place)
    ∙ sym (ap (map line_of) (fold-roll-EmptyPart (List Node) (List Node) nodes.empty_step nodes.empty_part_step (plain_empty_part y))))

pub empty_same : (t : EmptyTree) (place : ℕ) → empty_lines first_style t place ≡ map line_of (empty_nodes t)
empty_same = ind-Empty SameEmpty SameEmptyPart empty_same_step empty_part_step

-- ---- policies

abbrev SameBelow : Under → Type 0
SameBelow b = Same Under (below_lines first_style) below_nodes b

abbrev SamePolicy : Moving → Type 0
SamePolicy p = Same Moving (policy_lines first_style) policy_nodes p

abbrev SamePolicyPart : PolicyPart → Type 0
SamePolicyPart r = Same PolicyPart (policy_part_lines first_style) policy_part_nodes r

abbrev KnownPolicy : Type 0
KnownPolicy = answer.Policy-F ((b : Under) × SameBelow b) ((p : Moving) × SamePolicy p) ((r : PolicyPart) × SamePolicyPart r)

abbrev plain_policy : KnownPolicy → answer.Policy-F Under Moving PolicyPart
plain_policy y = map-Policy ((b : Under) × SameBelow b) ((p : Moving) × SamePolicy p) ((r : PolicyPart) × SamePolicyPart r) Under Moving PolicyPart (λ e. e.0) (λ e. e.0) (λ e. e.0) y

policy_layer : (y : KnownPolicy) (place : ℕ)
    → lines.policy_step first_style (map-Policy Under Moving PolicyPart Lines Lines Lines (below_lines first_style) (policy_lines first_style) (policy_part_lines first_style) (plain_policy y)) place
    ≡ map line_of (nodes.policy_step (map-Policy Under Moving PolicyPart (List Node) (List Node) (List Node) below_nodes policy_nodes policy_part_nodes (plain_policy y)))
policy_layer (answer.Choose value below) place = ap (λ ls. (codes "choose" ∷ signed_decimal value ∷ []) ∷ ls) (below.1 (place + 1))
policy_layer (answer.Answer parts) place =
    ap₂ (λ (count : List ℕ) (rest : List Line). (codes "answer" ∷ count ∷ []) ∷ rest)
    (counted (policy_part_lines first_style) policy_part_nodes (map (λ (e : (r : PolicyPart) × SamePolicyPart r). e.0) parts))
    (same_parts PolicyPart (policy_part_lines first_style) policy_part_nodes parts (place + 1))
policy_layer (answer.Leaf point) place = refl

policy_same_step : (x : answer.Policy-F Under Moving PolicyPart) (y : KnownPolicy) → plain_policy y ≡ x → SamePolicy (roll-Policy x)
policy_same_step x y is = subst (λ z. SamePolicy (roll-Policy z)) is (λ place.
    ap (λ (f : Lines). f place) (fold-roll-Policy Lines Lines Lines (lines.below_step first_style) (lines.policy_step first_style) lines.policy_part_step (plain_policy y))
    ∙ policy_layer y place
    ∙ sym (ap (map line_of) (fold-roll-Policy (List Node) (List Node) (List Node) nodes.below_step nodes.policy_step nodes.policy_part_step (plain_policy y))))

abbrev KnownBelow : Type 0
KnownBelow = answer.Below-F ((b : Under) × SameBelow b) ((p : Moving) × SamePolicy p) ((r : PolicyPart) × SamePolicyPart r)

abbrev plain_below : KnownBelow → answer.Below-F Under Moving PolicyPart
plain_below y = map-Below ((b : Under) × SameBelow b) ((p : Moving) × SamePolicy p) ((r : PolicyPart) × SamePolicyPart r) Under Moving PolicyPart (λ e. e.0) (λ e. e.0) (λ e. e.0) y

below_layer : (y : KnownBelow) (place : ℕ)
    → lines.below_step first_style (map-Below Under Moving PolicyPart Lines Lines Lines (below_lines first_style) (policy_lines first_style) (policy_part_lines first_style) (plain_below y)) place
    ≡ map line_of (nodes.below_step (map-Below Under Moving PolicyPart (List Node) (List Node) (List Node) below_nodes policy_nodes policy_part_nodes (plain_below y)))
below_layer (answer.On policy) place = policy.1 place
below_layer (answer.Illegal tree) place = ap (λ ls. (codes "illegal" ∷ []) ∷ ls) (empty_same tree place)

below_same_step : (x : answer.Below-F Under Moving PolicyPart) (y : KnownBelow) → plain_below y ≡ x → SameBelow (roll-Below x)
below_same_step x y is = subst (λ z. SameBelow (roll-Below z)) is (λ place.
    ap (λ (f : Lines). f place) (fold-roll-Below Lines Lines Lines (lines.below_step first_style) (lines.policy_step first_style) lines.policy_part_step (plain_below y))
    ∙ below_layer y place
    ∙ sym (ap (map line_of) (fold-roll-Below (List Node) (List Node) (List Node) nodes.below_step nodes.policy_step nodes.policy_part_step (plain_below y))))

abbrev KnownPolicyPart : Type 0
KnownPolicyPart = answer.PolicyPart-F ((b : Under) × SameBelow b) ((p : Moving) × SamePolicy p) ((r : PolicyPart) × SamePolicyPart r)

abbrev plain_policy_part : KnownPolicyPart → answer.PolicyPart-F Under Moving PolicyPart
plain_policy_part y = map-PolicyPart ((b : Under) × SameBelow b) ((p : Moving) × SamePolicy p) ((r : PolicyPart) × SamePolicyPart r) Under Moving PolicyPart (λ e. e.0) (λ e. e.0) (λ e. e.0) y

policy_part_step : (x : answer.PolicyPart-F Under Moving PolicyPart) (y : KnownPolicyPart) → plain_policy_part y ≡ x → SamePolicyPart (roll-PolicyPart x)
policy_part_step x y is = subst (λ z. SamePolicyPart (roll-PolicyPart z)) is (λ place.
    ap (λ (f : Lines). f place) (fold-roll-PolicyPart Lines Lines Lines (lines.below_step first_style) (lines.policy_step first_style) lines.policy_part_step (plain_policy_part y))
    ∙ ap (λ ls. (codes "range" ∷ signed_decimal y.range.low ∷ signed_decimal y.range.high ∷ []) ∷ ls) (y.below.1 place)
    ∙ sym (ap (map line_of) (fold-roll-PolicyPart (List Node) (List Node) (List Node) nodes.below_step nodes.policy_step nodes.policy_part_step (plain_policy_part y))))

pub policy_same : (p : Moving) (place : ℕ) → policy_lines first_style p place ≡ map line_of (policy_nodes p)
policy_same = ind-Policy SameBelow SamePolicy SamePolicyPart below_same_step policy_same_step policy_part_step

-- ---- refutations

abbrev SameRefute : Refutation → Type 0
SameRefute t = Same Refutation (refute_lines first_style) refute_nodes t

abbrev SameRefutePart : RefutePart → Type 0
SameRefutePart r = Same RefutePart (refute_part_lines first_style) refute_part_nodes r

abbrev KnownRefute : Type 0
KnownRefute = why.Refute-F ((t : Refutation) × SameRefute t) ((r : RefutePart) × SameRefutePart r)

abbrev plain_refute : KnownRefute → why.Refute-F Refutation RefutePart
plain_refute y = map-Refute ((t : Refutation) × SameRefute t) ((r : RefutePart) × SameRefutePart r) Refutation RefutePart (λ e. e.0) (λ e. e.0) y

refute_layer : (y : KnownRefute) (place : ℕ)
    → lines.refute_step first_style (map-Refute Refutation RefutePart Lines Lines (refute_lines first_style) (refute_part_lines first_style) (plain_refute y)) place
    ≡ map line_of (nodes.refute_step (map-Refute Refutation RefutePart (List Node) (List Node) refute_nodes refute_part_nodes (plain_refute y)))
refute_layer (why.Over parts) place =
    ap₂ (λ (count : List ℕ) (rest : List Line). (codes "over" ∷ count ∷ []) ∷ rest)
    (counted (refute_part_lines first_style) refute_part_nodes (map (λ (e : (r : RefutePart) × SameRefutePart r). e.0) parts))
    (same_parts RefutePart (refute_part_lines first_style) refute_part_nodes parts (place + 1))
refute_layer (why.Pick value completion below) place = ap (λ ls. (codes "pick" ∷ signed_decimal value ∷ map signed_decimal completion) ∷ ls) (below.1 (place + 1))
refute_layer (why.Close combo) place = refl

refute_same_step : (x : why.Refute-F Refutation RefutePart) (y : KnownRefute) → plain_refute y ≡ x → SameRefute (roll-Refute x)
refute_same_step x y is = subst (λ z. SameRefute (roll-Refute z)) is (λ place.
    ap (λ (f : Lines). f place) (fold-roll-Refute Lines Lines (lines.refute_step first_style) lines.refute_part_step (plain_refute y))
    ∙ refute_layer y place
    ∙ sym (ap (map line_of) (fold-roll-Refute (List Node) (List Node) nodes.refute_step nodes.refute_part_step (plain_refute y))))

abbrev KnownRefutePart : Type 0
KnownRefutePart = why.RefutePart-F ((t : Refutation) × SameRefute t) ((r : RefutePart) × SameRefutePart r)

abbrev plain_refute_part : KnownRefutePart → why.RefutePart-F Refutation RefutePart
plain_refute_part y = map-RefutePart ((t : Refutation) × SameRefute t) ((r : RefutePart) × SameRefutePart r) Refutation RefutePart (λ e. e.0) (λ e. e.0) y

refute_part_step : (x : why.RefutePart-F Refutation RefutePart) (y : KnownRefutePart) → plain_refute_part y ≡ x → SameRefutePart (roll-RefutePart x)
refute_part_step x y is = subst (λ z. SameRefutePart (roll-RefutePart z)) is (λ place.
    ap (λ (f : Lines). f place) (fold-roll-RefutePart Lines Lines (lines.refute_step first_style) lines.refute_part_step (plain_refute_part y))
    ∙ ap (λ ls. (codes "range" ∷ signed_decimal y.range.low ∷ signed_decimal y.range.high ∷ []) ∷ ls) (y.below.1 place)
    ∙ sym (ap (map line_of) (fold-roll-RefutePart (List Node) (List Node) nodes.refute_step nodes.refute_part_step (plain_refute_part y))))

pub refute_same : (t : Refutation) (place : ℕ) → refute_lines first_style t place ≡ map line_of (refute_nodes t)
refute_same = ind-Refute SameRefute SameRefutePart refute_same_step refute_part_step
