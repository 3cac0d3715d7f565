-- A certificate that is of its types has no number of more than 64 digits.
use Rattle.std.proofs.Common.{◌≡◌, ℕ, ◌+◌, ◌<◌, ℤ, List, [], ◌∷◌, ◌++◌, length, map, subst, arith, unsigned_abs}
use Rattle.std.specs.Prelude.{◌^◌, max}
use Rattle.std.proofs.lemmas.List.{length-map}
use Rattle.qm_trees.specs.declared.empty.Empty.{Empty}
use Rattle.qm_trees.specs.declared.empty.EmptyPart.{EmptyPart}
use Rattle.qm_trees.specs.declared.empty.Empty.TheOpen as none
use Rattle.qm_trees.specs.declared.empty.Empty.TheViews.{roll-Empty, roll-EmptyPart}
use Rattle.qm_trees.specs.declared.empty.Empty.TheFolds.{fold-roll-Empty, fold-roll-EmptyPart, map-Empty, map-EmptyPart, ind-Empty}
use Rattle.qm_trees.specs.declared.policy.Policy.{Policy}
use Rattle.qm_trees.specs.declared.policy.Below.{Below}
use Rattle.qm_trees.specs.declared.policy.PolicyPart.{PolicyPart}
use Rattle.qm_trees.specs.declared.policy.Below.TheOpen as answer
use Rattle.qm_trees.specs.declared.policy.Below.TheViews.{roll-Policy, roll-Below, roll-PolicyPart}
use Rattle.qm_trees.specs.declared.policy.Below.TheFolds.{fold-roll-Below, fold-roll-Policy, fold-roll-PolicyPart, map-Below, map-Policy, map-PolicyPart, ind-Policy}
use Rattle.qm_trees.specs.declared.refutation.Refute.{Refute}
use Rattle.qm_trees.specs.declared.refutation.RefutePart.{RefutePart}
use Rattle.qm_trees.specs.declared.refutation.Refute.TheOpen as why
use Rattle.qm_trees.specs.declared.refutation.Refute.TheViews.{roll-Refute, roll-RefutePart}
use Rattle.qm_trees.specs.declared.refutation.Refute.TheFolds.{fold-roll-Refute, fold-roll-RefutePart, map-Refute, map-RefutePart, ind-Refute}
use Rattle.qm_certfile.specs.declared.certificate.Certificate.{Certificate}
use Rattle.qm_certfile.specs.declared.certificate.Certificate.TheVariants as ending
use Rattle.qm_certfile.specs.Numbers.{greatest, below_number_step, empty_number_step, empty_part_number_step, greatest_in_below, greatest_in_empty, greatest_in_empty_part, greatest_in_policy, greatest_in_policy_part, greatest_in_refute, greatest_in_refute_part, greatest_number, policy_number_step, policy_part_number_step, refute_number_step, refute_part_number_step}
use Rattle.qm_certfile.specs.WellFormed.{AreOfType, IsWellFormed, Piece, Whole, below_pieces, below_step, empty_part_pieces, empty_part_step, empty_pieces, empty_step, policy_part_pieces, policy_part_step, policy_pieces, policy_step, refute_part_pieces, refute_part_step, refute_pieces, refute_step}
use Rattle.qm_certfile.proofs.Pieces.{IsBounded, bound_by_layer, both_of_type, entries_bound, fraction_bound, numbers_bound, parts_bound, whole_bound, wholes_bound}

-- ---- empty trees

abbrev BoundedEmpty : Empty → Type 0
BoundedEmpty t = IsBounded Empty empty_pieces greatest_in_empty t

abbrev BoundedEmptyPart : EmptyPart → Type 0
BoundedEmptyPart r = IsBounded EmptyPart empty_part_pieces greatest_in_empty_part r

abbrev KnownEmpty : Type 0
KnownEmpty = none.Empty-F ((t : Empty) × BoundedEmpty t) ((r : EmptyPart) × BoundedEmptyPart r)

abbrev plain_empty : KnownEmpty → none.Empty-F Empty EmptyPart
plain_empty y = map-Empty ((t : Empty) × BoundedEmpty t) ((r : EmptyPart) × BoundedEmptyPart r) Empty EmptyPart (λ e. e.0) (λ e. e.0) y

abbrev empty_layer_pieces : none.Empty-F Empty EmptyPart → List Piece
empty_layer_pieces z = empty_step (map-Empty Empty EmptyPart (List Piece) (List Piece) empty_pieces empty_part_pieces z)

abbrev empty_layer_number : none.Empty-F Empty EmptyPart → ℕ
empty_layer_number z = empty_number_step (map-Empty Empty EmptyPart ℕ ℕ greatest_in_empty greatest_in_empty_part z)

empty_layer_bound : (y : KnownEmpty) → AreOfType (empty_layer_pieces (plain_empty y)) → empty_layer_number (plain_empty y) < 10 ^ 64
empty_layer_bound (none.Split v ps) h =
    let parts = map (λ (r : (r : EmptyPart) × BoundedEmptyPart r). r.0) ps in
    let var = h.0 in
    let count = h.1.0 in
    let pieces = length-map parts empty_part_pieces in
    let numbers = length-map parts greatest_in_empty_part in
    let rest = parts_bound EmptyPart empty_part_pieces greatest_in_empty_part ps h.1.1 in
    omega (arith, var, count, pieces, numbers, rest)
empty_layer_bound (none.Close c) h = entries_bound c.entries h.0.1

empty_bound_step : (x : none.Empty-F Empty EmptyPart) (y : KnownEmpty) → plain_empty y ≡ x → BoundedEmpty (roll-Empty x)
empty_bound_step x y is = subst (λ z. BoundedEmpty (roll-Empty z)) is
    (bound_by_layer Empty (none.Empty-F Empty EmptyPart) empty_pieces greatest_in_empty roll-Empty empty_layer_pieces empty_layer_number
    (fold-roll-Empty (List Piece) (List Piece) empty_step empty_part_step) (fold-roll-Empty ℕ ℕ empty_number_step empty_part_number_step) (plain_empty y) (empty_layer_bound y))

abbrev KnownEmptyPart : Type 0
KnownEmptyPart = none.EmptyPart-F ((t : Empty) × BoundedEmpty t) ((r : EmptyPart) × BoundedEmptyPart r)

abbrev plain_empty_part : KnownEmptyPart → none.EmptyPart-F Empty EmptyPart
plain_empty_part y = map-EmptyPart ((t : Empty) × BoundedEmpty t) ((r : EmptyPart) × BoundedEmptyPart r) Empty EmptyPart (λ e. e.0) (λ e. e.0) y

abbrev empty_part_layer_pieces : none.EmptyPart-F Empty EmptyPart → List Piece
empty_part_layer_pieces z = empty_part_step (map-EmptyPart Empty EmptyPart (List Piece) (List Piece) empty_pieces empty_part_pieces z)

abbrev empty_part_layer_number : none.EmptyPart-F Empty EmptyPart → ℕ
empty_part_layer_number z = empty_part_number_step (map-EmptyPart Empty EmptyPart ℕ ℕ greatest_in_empty greatest_in_empty_part z)

empty_part_layer_bound : (y : KnownEmptyPart) → AreOfType (empty_part_layer_pieces (plain_empty_part y)) → empty_part_layer_number (plain_empty_part y) < 10 ^ 64
empty_part_layer_bound y h =
    let low = whole_bound y.range.low h.0 in
    let high = whole_bound y.range.high h.1.0 in
    let below = y.below.1 h.1.1 in
    omega (arith, low, high, below)

empty_part_bound_step : (x : none.EmptyPart-F Empty EmptyPart) (y : KnownEmptyPart) → plain_empty_part y ≡ x → BoundedEmptyPart (roll-EmptyPart x)
empty_part_bound_step x y is = subst (λ z. BoundedEmptyPart (roll-EmptyPart z)) is
    (bound_by_layer EmptyPart (none.EmptyPart-F Empty EmptyPart) empty_part_pieces greatest_in_empty_part roll-EmptyPart empty_part_layer_pieces empty_part_layer_number
    (fold-roll-EmptyPart (List Piece) (List Piece) empty_step empty_part_step) (fold-roll-EmptyPart ℕ ℕ empty_number_step empty_part_number_step) (plain_empty_part y) (empty_part_layer_bound y))

pub empty_bound : (t : Empty) → AreOfType (empty_pieces t) → greatest_in_empty t < 10 ^ 64
empty_bound = ind-Empty BoundedEmpty BoundedEmptyPart empty_bound_step empty_part_bound_step

-- ---- policies

abbrev BoundedBelow : Below → Type 0
BoundedBelow b = IsBounded Below below_pieces greatest_in_below b

abbrev BoundedPolicy : Policy → Type 0
BoundedPolicy p = IsBounded Policy policy_pieces greatest_in_policy p

abbrev BoundedPolicyPart : PolicyPart → Type 0
BoundedPolicyPart r = IsBounded PolicyPart policy_part_pieces greatest_in_policy_part r

abbrev KnownPolicy : Type 0
KnownPolicy = answer.Policy-F ((b : Below) × BoundedBelow b) ((p : Policy) × BoundedPolicy p) ((r : PolicyPart) × BoundedPolicyPart r)

abbrev plain_policy : KnownPolicy → answer.Policy-F Below Policy PolicyPart
plain_policy y = map-Policy ((b : Below) × BoundedBelow b) ((p : Policy) × BoundedPolicy p) ((r : PolicyPart) × BoundedPolicyPart r) Below Policy PolicyPart (λ e. e.0) (λ e. e.0) (λ e. e.0) y

abbrev policy_layer_pieces : answer.Policy-F Below Policy PolicyPart → List Piece
policy_layer_pieces z = policy_step (map-Policy Below Policy PolicyPart (List Piece) (List Piece) (List Piece) below_pieces policy_pieces policy_part_pieces z)

abbrev policy_layer_number : answer.Policy-F Below Policy PolicyPart → ℕ
policy_layer_number z = policy_number_step (map-Policy Below Policy PolicyPart ℕ ℕ ℕ greatest_in_below greatest_in_policy greatest_in_policy_part z)

policy_layer_bound : (y : KnownPolicy) → AreOfType (policy_layer_pieces (plain_policy y)) → policy_layer_number (plain_policy y) < 10 ^ 64
policy_layer_bound (answer.Choose v p) h =
    let value = whole_bound v h.0 in
    let below = p.1 h.1 in
    omega (arith, value, below)
policy_layer_bound (answer.Answer ps) h =
    let parts = map (λ (r : (r : PolicyPart) × BoundedPolicyPart r). r.0) ps in
    let count = h.0 in
    let pieces = length-map parts policy_part_pieces in
    let numbers = length-map parts greatest_in_policy_part in
    let rest = parts_bound PolicyPart policy_part_pieces greatest_in_policy_part ps h.1 in
    omega (arith, count, pieces, numbers, rest)
policy_layer_bound (answer.Leaf point) h = numbers_bound point h

policy_bound_step : (x : answer.Policy-F Below Policy PolicyPart) (y : KnownPolicy) → plain_policy y ≡ x → BoundedPolicy (roll-Policy x)
policy_bound_step x y is = subst (λ z. BoundedPolicy (roll-Policy z)) is
    (bound_by_layer Policy (answer.Policy-F Below Policy PolicyPart) policy_pieces greatest_in_policy roll-Policy policy_layer_pieces policy_layer_number
    (fold-roll-Policy (List Piece) (List Piece) (List Piece) below_step policy_step policy_part_step) (fold-roll-Policy ℕ ℕ ℕ below_number_step policy_number_step policy_part_number_step) (plain_policy y) (policy_layer_bound y))

abbrev KnownBelow : Type 0
KnownBelow = answer.Below-F ((b : Below) × BoundedBelow b) ((p : Policy) × BoundedPolicy p) ((r : PolicyPart) × BoundedPolicyPart r)

abbrev plain_below : KnownBelow → answer.Below-F Below Policy PolicyPart
plain_below y = map-Below ((b : Below) × BoundedBelow b) ((p : Policy) × BoundedPolicy p) ((r : PolicyPart) × BoundedPolicyPart r) Below Policy PolicyPart (λ e. e.0) (λ e. e.0) (λ e. e.0) y

abbrev below_layer_pieces : answer.Below-F Below Policy PolicyPart → List Piece
below_layer_pieces z = below_step (map-Below Below Policy PolicyPart (List Piece) (List Piece) (List Piece) below_pieces policy_pieces policy_part_pieces z)

abbrev below_layer_number : answer.Below-F Below Policy PolicyPart → ℕ
below_layer_number z = below_number_step (map-Below Below Policy PolicyPart ℕ ℕ ℕ greatest_in_below greatest_in_policy greatest_in_policy_part z)

below_layer_bound : (y : KnownBelow) → AreOfType (below_layer_pieces (plain_below y)) → below_layer_number (plain_below y) < 10 ^ 64
below_layer_bound (answer.On p) h = p.1 h
below_layer_bound (answer.Illegal t) h = empty_bound t h

below_bound_step : (x : answer.Below-F Below Policy PolicyPart) (y : KnownBelow) → plain_below y ≡ x → BoundedBelow (roll-Below x)
below_bound_step x y is = subst (λ z. BoundedBelow (roll-Below z)) is
    (bound_by_layer Below (answer.Below-F Below Policy PolicyPart) below_pieces greatest_in_below roll-Below below_layer_pieces below_layer_number
    (fold-roll-Below (List Piece) (List Piece) (List Piece) below_step policy_step policy_part_step) (fold-roll-Below ℕ ℕ ℕ below_number_step policy_number_step policy_part_number_step) (plain_below y) (below_layer_bound y))

abbrev KnownPolicyPart : Type 0
KnownPolicyPart = answer.PolicyPart-F ((b : Below) × BoundedBelow b) ((p : Policy) × BoundedPolicy p) ((r : PolicyPart) × BoundedPolicyPart r)

abbrev plain_policy_part : KnownPolicyPart → answer.PolicyPart-F Below Policy PolicyPart
plain_policy_part y = map-PolicyPart ((b : Below) × BoundedBelow b) ((p : Policy) × BoundedPolicy p) ((r : PolicyPart) × BoundedPolicyPart r) Below Policy PolicyPart (λ e. e.0) (λ e. e.0) (λ e. e.0) y

abbrev policy_part_layer_pieces : answer.PolicyPart-F Below Policy PolicyPart → List Piece
policy_part_layer_pieces z = policy_part_step (map-PolicyPart Below Policy PolicyPart (List Piece) (List Piece) (List Piece) below_pieces policy_pieces policy_part_pieces z)

abbrev policy_part_layer_number : answer.PolicyPart-F Below Policy PolicyPart → ℕ
policy_part_layer_number z = policy_part_number_step (map-PolicyPart Below Policy PolicyPart ℕ ℕ ℕ greatest_in_below greatest_in_policy greatest_in_policy_part z)

policy_part_layer_bound : (y : KnownPolicyPart) → AreOfType (policy_part_layer_pieces (plain_policy_part y)) → policy_part_layer_number (plain_policy_part y) < 10 ^ 64
policy_part_layer_bound y h =
    let low = whole_bound y.range.low h.0 in
    let high = whole_bound y.range.high h.1.0 in
    let below = y.below.1 h.1.1 in
    omega (arith, low, high, below)

policy_part_bound_step : (x : answer.PolicyPart-F Below Policy PolicyPart) (y : KnownPolicyPart) → plain_policy_part y ≡ x → BoundedPolicyPart (roll-PolicyPart x)
policy_part_bound_step x y is = subst (λ z. BoundedPolicyPart (roll-PolicyPart z)) is
    (bound_by_layer PolicyPart (answer.PolicyPart-F Below Policy PolicyPart) policy_part_pieces greatest_in_policy_part roll-PolicyPart policy_part_layer_pieces policy_part_layer_number
    (fold-roll-PolicyPart (List Piece) (List Piece) (List Piece) below_step policy_step policy_part_step) (fold-roll-PolicyPart ℕ ℕ ℕ below_number_step policy_number_step policy_part_number_step) (plain_policy_part y) (policy_part_layer_bound y))

policy_bound : (p : Policy) → AreOfType (policy_pieces p) → greatest_in_policy p < 10 ^ 64
policy_bound = ind-Policy BoundedBelow BoundedPolicy BoundedPolicyPart below_bound_step policy_bound_step policy_part_bound_step

-- ---- refutations

abbrev BoundedRefute : Refute → Type 0
BoundedRefute t = IsBounded Refute refute_pieces greatest_in_refute t

abbrev BoundedRefutePart : RefutePart → Type 0
BoundedRefutePart r = IsBounded RefutePart refute_part_pieces greatest_in_refute_part r

abbrev KnownRefute : Type 0
KnownRefute = why.Refute-F ((t : Refute) × BoundedRefute t) ((r : RefutePart) × BoundedRefutePart r)

abbrev plain_refute : KnownRefute → why.Refute-F Refute RefutePart
plain_refute y = map-Refute ((t : Refute) × BoundedRefute t) ((r : RefutePart) × BoundedRefutePart r) Refute RefutePart (λ e. e.0) (λ e. e.0) y

abbrev refute_layer_pieces : why.Refute-F Refute RefutePart → List Piece
refute_layer_pieces z = refute_step (map-Refute Refute RefutePart (List Piece) (List Piece) refute_pieces refute_part_pieces z)

abbrev refute_layer_number : why.Refute-F Refute RefutePart → ℕ
refute_layer_number z = refute_number_step (map-Refute Refute RefutePart ℕ ℕ greatest_in_refute greatest_in_refute_part z)

refute_layer_bound : (y : KnownRefute) → AreOfType (refute_layer_pieces (plain_refute y)) → refute_layer_number (plain_refute y) < 10 ^ 64
refute_layer_bound (why.Over ps) h =
    let parts = map (λ (r : (r : RefutePart) × BoundedRefutePart r). r.0) ps in
    let count = h.0 in
    let pieces = length-map parts refute_part_pieces in
    let numbers = length-map parts greatest_in_refute_part in
    let rest = parts_bound RefutePart refute_part_pieces greatest_in_refute_part ps h.1 in
    omega (arith, count, pieces, numbers, rest)
refute_layer_bound (why.Pick v completion t) h =
    let value = whole_bound v h.0 in
    let both = both_of_type (map Whole completion) (refute_pieces t.0) h.1 in
    let values = wholes_bound completion both.0 in
    let below = t.1 both.1 in
    omega (arith, value, values, below)
refute_layer_bound (why.Close c) h = entries_bound c.entries h.0.1

refute_bound_step : (x : why.Refute-F Refute RefutePart) (y : KnownRefute) → plain_refute y ≡ x → BoundedRefute (roll-Refute x)
refute_bound_step x y is = subst (λ z. BoundedRefute (roll-Refute z)) is
    (bound_by_layer Refute (why.Refute-F Refute RefutePart) refute_pieces greatest_in_refute roll-Refute refute_layer_pieces refute_layer_number
    (fold-roll-Refute (List Piece) (List Piece) refute_step refute_part_step) (fold-roll-Refute ℕ ℕ refute_number_step refute_part_number_step) (plain_refute y) (refute_layer_bound y))

abbrev KnownRefutePart : Type 0
KnownRefutePart = why.RefutePart-F ((t : Refute) × BoundedRefute t) ((r : RefutePart) × BoundedRefutePart r)

abbrev plain_refute_part : KnownRefutePart → why.RefutePart-F Refute RefutePart
plain_refute_part y = map-RefutePart ((t : Refute) × BoundedRefute t) ((r : RefutePart) × BoundedRefutePart r) Refute RefutePart (λ e. e.0) (λ e. e.0) y

abbrev refute_part_layer_pieces : why.RefutePart-F Refute RefutePart → List Piece
refute_part_layer_pieces z = refute_part_step (map-RefutePart Refute RefutePart (List Piece) (List Piece) refute_pieces refute_part_pieces z)

abbrev refute_part_layer_number : why.RefutePart-F Refute RefutePart → ℕ
refute_part_layer_number z = refute_part_number_step (map-RefutePart Refute RefutePart ℕ ℕ greatest_in_refute greatest_in_refute_part z)

refute_part_layer_bound : (y : KnownRefutePart) → AreOfType (refute_part_layer_pieces (plain_refute_part y)) → refute_part_layer_number (plain_refute_part y) < 10 ^ 64
refute_part_layer_bound y h =
    let low = whole_bound y.range.low h.0 in
    let high = whole_bound y.range.high h.1.0 in
    let below = y.below.1 h.1.1 in
    omega (arith, low, high, below)

refute_part_bound_step : (x : why.RefutePart-F Refute RefutePart) (y : KnownRefutePart) → plain_refute_part y ≡ x → BoundedRefutePart (roll-RefutePart x)
refute_part_bound_step x y is = subst (λ z. BoundedRefutePart (roll-RefutePart z)) is
    (bound_by_layer RefutePart (why.RefutePart-F Refute RefutePart) refute_part_pieces greatest_in_refute_part roll-RefutePart refute_part_layer_pieces refute_part_layer_number
    (fold-roll-RefutePart (List Piece) (List Piece) refute_step refute_part_step) (fold-roll-RefutePart ℕ ℕ refute_number_step refute_part_number_step) (plain_refute_part y) (refute_part_layer_bound y))

refute_bound : (t : Refute) → AreOfType (refute_pieces t) → greatest_in_refute t < 10 ^ 64
refute_bound = ind-Refute BoundedRefute BoundedRefutePart refute_bound_step refute_part_bound_step

-- ---- certificates

pub certificate_bound : (c : Certificate) → IsWellFormed c → greatest_number c < 10 ^ 64
certificate_bound (ending.Optimal value legal policy refute) h =
    let first = fraction_bound value h.0 in
    let split = both_of_type (map Whole legal) (policy_pieces policy ++ refute_pieces refute) h.1 in
    let trees = both_of_type (policy_pieces policy) (refute_pieces refute) split.1 in
    let values = wholes_bound legal split.0 in
    let moves = policy_bound policy trees.0 in
    let last = refute_bound refute trees.1 in
    omega (arith, first, values, moves, last)
certificate_bound (ending.Infeasible legal refute) h =
    let split = both_of_type (map Whole legal) (refute_pieces refute) h in
    let values = wholes_bound legal split.0 in
    let last = refute_bound refute split.1 in
    omega (arith, values, last)
certificate_bound (ending.Empty tree) h = empty_bound tree h
