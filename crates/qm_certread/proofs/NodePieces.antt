-- A certificate that fits is well formed.
use Rattle.std.proofs.Common.{◌≡◌, ℕ, ◌<◌, ◌^◌, List, [], ◌∷◌, ◌++◌, append_assoc, length, map, Option, None, Some, inl, inr, refl, sym, ap, ap₂, ◌∙◌, subst, arith}
use Rattle.std.specs.Prelude.{All}
use Rattle.std.proofs.lemmas.List.{length-map}
use Rattle.std.proofs.lemmas.Option.{slice_get_within}
use Rattle.qm_math.specs.Fraction.{Fraction}
use Rattle.qm_math.specs.Arithmetic.{negated}
use Rattle.qm_frac.specs.Gcd.{gcd_of}
use Rattle.qm_frac.specs.Lowest.{IsFrac}
use Rattle.qm_frac.proofs.SignLaws.{unsigned_abs-neg}
use Rattle.qm_model.specs.declared.game.Sense.{Sense}
use Rattle.qm_model.specs.declared.game.Sense.TheVariants.{Max, Min}
use Rattle.qm_model.specs.declared.row_id.RowId.{RowId}
use Rattle.qm_model.specs.declared.row_id.RowId.TheVariants as id
use Rattle.qm_model.specs.declared.variable.Player.{Player}
use Rattle.qm_model.specs.declared.variable.Player.TheVariants.{Exists, All as Universal}
use Rattle.qm_model.specs.declared.game.Problem.{Problem}
use Rattle.qm_model.specs.Plays.{whole_vars}
use Rattle.qm_trees.specs.declared.combination.Entry.{Entry}
use Rattle.qm_trees.specs.declared.empty.Empty.{Empty as EmptyTree}
use Rattle.qm_trees.specs.declared.empty.EmptyPart.{EmptyPart}
use Rattle.qm_trees.specs.declared.empty.Empty.TheOpen as none
use Rattle.qm_trees.specs.declared.empty.Empty.TheViews.{roll-Empty, roll-EmptyPart}
use Rattle.qm_trees.specs.declared.empty.Empty.TheFolds.{fold-roll-Empty, fold-roll-EmptyPart, map-Empty, map-EmptyPart, ind-Empty}
use Rattle.qm_trees.specs.declared.policy.Policy.{Policy as Moving}
use Rattle.qm_trees.specs.declared.policy.Below.{Below as Under}
use Rattle.qm_trees.specs.declared.policy.PolicyPart.{PolicyPart}
use Rattle.qm_trees.specs.declared.policy.Below.TheOpen as answer
use Rattle.qm_trees.specs.declared.policy.Below.TheViews.{roll-Below, roll-Policy, roll-PolicyPart}
use Rattle.qm_trees.specs.declared.policy.Below.TheFolds.{fold-roll-Below, fold-roll-Policy, fold-roll-PolicyPart, map-Below, map-Policy, map-PolicyPart, ind-Policy}
use Rattle.qm_trees.specs.declared.refutation.Refute.{Refute as Refutation}
use Rattle.qm_trees.specs.declared.refutation.RefutePart.{RefutePart}
use Rattle.qm_trees.specs.declared.refutation.Refute.TheOpen as why
use Rattle.qm_trees.specs.declared.refutation.Refute.TheViews.{roll-Refute, roll-RefutePart}
use Rattle.qm_trees.specs.declared.refutation.Refute.TheFolds.{fold-roll-Refute, fold-roll-RefutePart, map-Refute, map-RefutePart, ind-Refute}
use Rattle.qm_certfile.specs.declared.certificate.Certificate.{Certificate}
use Rattle.qm_certfile.specs.declared.certificate.Certificate.TheVariants as ending
use Rattle.qm_certfile.specs.Numbers.{number_of_row}
use Rattle.qm_certfile.specs.Styles.{first_style}
use Rattle.qm_certfile.specs.CertificateLines.{certificate_text, claimed}
use Rattle.qm_certfile.specs.WellFormed as formed
use Rattle.qm_certfile.specs.WellFormed.{AreOfType, Count, Entries, IsEntry, IsWellFormed, IsWhole, Number, Piece, Position, Whole, below_pieces, empty_part_pieces, empty_pieces, policy_part_pieces, policy_pieces, position_of, refute_part_pieces, refute_pieces, together}
use Rattle.qm_certfile.proofs.Bounds.{certificate_bound}
use Rattle.qm_certfile.proofs.DifferentTexts.{certificate_told}
use Rattle.qm_certfile.proofs.Pieces.{both_of_type, joined_of_type, numbers_of_type, wholes_of_type}
use Rattle.qm_certread.specs.Nodes.{Node, Fixed, Infeasible, NoPlay, Optimal, Legal, Choose, Answer, Leaf, Split, Over, Pick, Close, Part}
use Rattle.qm_certread.specs.Dues.{Due, Claimed, Played, Said as DueLine, Policy, Below, Empty, Refute, Ranges, after, end_line, refute_line}
use Rattle.qm_certread.specs.Forms.{player_at}
use Rattle.qm_certread.specs.NodesOf as nodes
use Rattle.qm_certread.specs.NodesOf.{in_turn, below_nodes, empty_nodes, empty_part_nodes, nodes_of, policy_nodes, policy_part_nodes, refute_nodes, refute_part_nodes}
use Rattle.qm_certread.specs.Fits.{AreFit, Fits, FitsAt, FitsMove, IsRowEntry}

-- what the line is made of
abbrev pub node_pieces : Node → List Piece
node_pieces (Fixed line) = []
node_pieces Infeasible = []
node_pieces NoPlay = []
node_pieces (Optimal value) = Number value ∷ []
node_pieces (Legal values) = map Whole values
node_pieces (Choose value) = Whole value ∷ []
node_pieces (Answer count) = Count count ∷ []
node_pieces (Leaf point) = map Number point
node_pieces (Split var count) = Position var ∷ Count count ∷ []
node_pieces (Over count) = Count count ∷ []
node_pieces (Pick value completion) = Whole value ∷ map Whole completion
node_pieces (Close combo) = Entries combo.entries ∷ []
node_pieces (Part range) = Whole range.low ∷ Whole range.high ∷ []

abbrev pub all_pieces : List Node → List Piece
all_pieces [] = []
all_pieces (n ∷ ns) = node_pieces n ++ all_pieces ns

pub pieces_append : (ns ms : List Node) → all_pieces (ns ++ ms) ≡ all_pieces ns ++ all_pieces ms
pieces_append [] ms = refl
pieces_append (n ∷ ns) ms = ap (λ ps. node_pieces n ++ ps) (pieces_append ns ms) ∙ sym (append_assoc (node_pieces n) (all_pieces ns) (all_pieces ms))

pub append_none : (ps : List Piece) → ps ++ [] ≡ ps
append_none [] = refl
append_none (p ∷ ps) = ap (λ t. p ∷ t) (append_none ps)

-- ---- the pieces of a tree are those of its nodes

abbrev Same : (A : Type 0) → (A → List Piece) → (A → List Node) → A → Type 0
Same A pieces nodes a = pieces a ≡ all_pieces (nodes a)

same_parts : (A : Type 0) (pieces : A → List Piece) (nodes : A → List Node) (parts : List ((a : A) × Same A pieces nodes a))
    → together (map pieces (map (λ e. e.0) parts)) ≡ all_pieces (in_turn (map nodes (map (λ e. e.0) parts)))
same_parts A pieces nodes [] = refl
same_parts A pieces nodes (p ∷ parts) =
    ap₂ (λ (first : List Piece) (rest : List Piece). first ++ rest) p.1 (same_parts A pieces nodes parts)
    ∙ sym (pieces_append (nodes p.0) (in_turn (map nodes (map (λ e. e.0) parts))))

counted : {A B C : Type 0} (f : A → B) (g : A → C) (xs : List A) → length (map f xs) ≡ length (map g xs)
counted {A} {B} {C} f g xs = length-map xs f ∙ sym (length-map xs g)

-- ---- empty trees

abbrev SameEmpty : EmptyTree → Type 0
SameEmpty t = Same EmptyTree empty_pieces empty_nodes t

abbrev SameEmptyPart : EmptyPart → Type 0
SameEmptyPart r = Same EmptyPart empty_part_pieces empty_part_nodes r

abbrev KnownEmpty : Type 0
KnownEmpty = none.Empty-F ((t : EmptyTree) × SameEmpty t) ((r : EmptyPart) × SameEmptyPart r)

abbrev plain_empty : KnownEmpty → none.Empty-F EmptyTree EmptyPart
plain_empty y = map-Empty ((t : EmptyTree) × SameEmpty t) ((r : EmptyPart) × SameEmptyPart r) EmptyTree EmptyPart (λ e. e.0) (λ e. e.0) y

empty_layer : (y : KnownEmpty)
    → formed.empty_step (map-Empty EmptyTree EmptyPart (List Piece) (List Piece) empty_pieces empty_part_pieces (plain_empty y))
    ≡ all_pieces (nodes.empty_step (map-Empty EmptyTree EmptyPart (List Node) (List Node) empty_nodes empty_part_nodes (plain_empty y)))
empty_layer (none.Split var parts) =
    ap₂ (λ (count : ℕ) (rest : List Piece). Position var ∷ Count count ∷ rest)
    (counted empty_part_pieces empty_part_nodes (map (λ (e : (r : EmptyPart) × SameEmptyPart r). e.0) parts)) (same_parts EmptyPart empty_part_pieces empty_part_nodes parts)
empty_layer (none.Close combo) = refl

empty_step : (x : none.Empty-F EmptyTree EmptyPart) (y : KnownEmpty) → plain_empty y ≡ x → SameEmpty (roll-Empty x)
empty_step x y is = subst (λ z. SameEmpty (roll-Empty z)) is (
    fold-roll-Empty (List Piece) (List Piece) formed.empty_step formed.empty_part_step (plain_empty y)
    ∙ empty_layer y
    ∙ sym (ap all_pieces (fold-roll-Empty (List Node) (List Node) nodes.empty_step nodes.empty_part_step (plain_empty y))))

abbrev KnownEmptyPart : Type 0
KnownEmptyPart = none.EmptyPart-F ((t : EmptyTree) × SameEmpty t) ((r : EmptyPart) × SameEmptyPart r)

abbrev plain_empty_part : KnownEmptyPart → none.EmptyPart-F EmptyTree EmptyPart
plain_empty_part y = map-EmptyPart ((t : EmptyTree) × SameEmpty t) ((r : EmptyPart) × SameEmptyPart r) EmptyTree EmptyPart (λ e. e.0) (λ e. e.0) y

empty_part_step : (x : none.EmptyPart-F EmptyTree EmptyPart) (y : KnownEmptyPart) → plain_empty_part y ≡ x → SameEmptyPart (roll-EmptyPart x)
empty_part_step x y is = subst (λ z. SameEmptyPart (roll-EmptyPart z)) is (
    fold-roll-EmptyPart (List Piece) (List Piece) formed.empty_step formed.empty_part_step (plain_empty_part y)
    ∙ ap (λ ps. Whole y.range.low ∷ Whole y.range.high ∷ ps) y.below.1
    ∙ sym (ap all_pieces (fold-roll-EmptyPart (List Node) (List Node) nodes.empty_step nodes.empty_part_step (plain_empty_part y))))

pub empty_same : (t : EmptyTree) → empty_pieces t ≡ all_pieces (empty_nodes t)
empty_same = ind-Empty SameEmpty SameEmptyPart empty_step empty_part_step

-- ---- policies

abbrev SameBelow : Under → Type 0
SameBelow b = Same Under below_pieces below_nodes b

abbrev SamePolicy : Moving → Type 0
SamePolicy p = Same Moving policy_pieces policy_nodes p

abbrev SamePolicyPart : PolicyPart → Type 0
SamePolicyPart r = Same PolicyPart policy_part_pieces policy_part_nodes r

abbrev KnownPolicy : Type 0
KnownPolicy = answer.Policy-F ((b : Under) × SameBelow b) ((p : Moving) × SamePolicy p) ((r : PolicyPart) × SamePolicyPart r)

abbrev plain_policy : KnownPolicy → answer.Policy-F Under Moving PolicyPart
plain_policy y = map-Policy ((b : Under) × SameBelow b) ((p : Moving) × SamePolicy p) ((r : PolicyPart) × SamePolicyPart r) Under Moving PolicyPart (λ e. e.0) (λ e. e.0) (λ e. e.0) y

policy_layer : (y : KnownPolicy)
    → formed.policy_step (map-Policy Under Moving PolicyPart (List Piece) (List Piece) (List Piece) below_pieces policy_pieces policy_part_pieces (plain_policy y))
    ≡ all_pieces (nodes.policy_step (map-Policy Under Moving PolicyPart (List Node) (List Node) (List Node) below_nodes policy_nodes policy_part_nodes (plain_policy y)))
policy_layer (answer.Choose value below) = ap (λ ps. Whole value ∷ ps) below.1
policy_layer (answer.Answer parts) =
    ap₂ (λ (count : ℕ) (rest : List Piece). Count count ∷ rest)
    (counted policy_part_pieces policy_part_nodes (map (λ (e : (r : PolicyPart) × SamePolicyPart r). e.0) parts)) (same_parts PolicyPart policy_part_pieces policy_part_nodes parts)
policy_layer (answer.Leaf point) = sym (append_none (map Number point))

policy_step : (x : answer.Policy-F Under Moving PolicyPart) (y : KnownPolicy) → plain_policy y ≡ x → SamePolicy (roll-Policy x)
policy_step x y is = subst (λ z. SamePolicy (roll-Policy z)) is (
    fold-roll-Policy (List Piece) (List Piece) (List Piece) formed.below_step formed.policy_step formed.policy_part_step (plain_policy y)
    ∙ policy_layer y
    ∙ sym (ap all_pieces (fold-roll-Policy (List Node) (List Node) (List Node) nodes.below_step nodes.policy_step nodes.policy_part_step (plain_policy y))))

abbrev KnownBelow : Type 0
KnownBelow = answer.Below-F ((b : Under) × SameBelow b) ((p : Moving) × SamePolicy p) ((r : PolicyPart) × SamePolicyPart r)

abbrev plain_below : KnownBelow → answer.Below-F Under Moving PolicyPart
plain_below y = map-Below ((b : Under) × SameBelow b) ((p : Moving) × SamePolicy p) ((r : PolicyPart) × SamePolicyPart r) Under Moving PolicyPart (λ e. e.0) (λ e. e.0) (λ e. e.0) y

below_layer : (y : KnownBelow)
    → formed.below_step (map-Below Under Moving PolicyPart (List Piece) (List Piece) (List Piece) below_pieces policy_pieces policy_part_pieces (plain_below y))
    ≡ all_pieces (nodes.below_step (map-Below Under Moving PolicyPart (List Node) (List Node) (List Node) below_nodes policy_nodes policy_part_nodes (plain_below y)))
below_layer (answer.On policy) = policy.1
below_layer (answer.Illegal tree) = empty_same tree

below_step : (x : answer.Below-F Under Moving PolicyPart) (y : KnownBelow) → plain_below y ≡ x → SameBelow (roll-Below x)
below_step x y is = subst (λ z. SameBelow (roll-Below z)) is (
    fold-roll-Below (List Piece) (List Piece) (List Piece) formed.below_step formed.policy_step formed.policy_part_step (plain_below y)
    ∙ below_layer y
    ∙ sym (ap all_pieces (fold-roll-Below (List Node) (List Node) (List Node) nodes.below_step nodes.policy_step nodes.policy_part_step (plain_below y))))

abbrev KnownPolicyPart : Type 0
KnownPolicyPart = answer.PolicyPart-F ((b : Under) × SameBelow b) ((p : Moving) × SamePolicy p) ((r : PolicyPart) × SamePolicyPart r)

abbrev plain_policy_part : KnownPolicyPart → answer.PolicyPart-F Under Moving PolicyPart
plain_policy_part y = map-PolicyPart ((b : Under) × SameBelow b) ((p : Moving) × SamePolicy p) ((r : PolicyPart) × SamePolicyPart r) Under Moving PolicyPart (λ e. e.0) (λ e. e.0) (λ e. e.0) y

policy_part_step : (x : answer.PolicyPart-F Under Moving PolicyPart) (y : KnownPolicyPart) → plain_policy_part y ≡ x → SamePolicyPart (roll-PolicyPart x)
policy_part_step x y is = subst (λ z. SamePolicyPart (roll-PolicyPart z)) is (
    fold-roll-PolicyPart (List Piece) (List Piece) (List Piece) formed.below_step formed.policy_step formed.policy_part_step (plain_policy_part y)
    ∙ ap (λ ps. Whole y.range.low ∷ Whole y.range.high ∷ ps) y.below.1
    ∙ sym (ap all_pieces (fold-roll-PolicyPart (List Node) (List Node) (List Node) nodes.below_step nodes.policy_step nodes.policy_part_step (plain_policy_part y))))

pub policy_same : (p : Moving) → policy_pieces p ≡ all_pieces (policy_nodes p)
policy_same = ind-Policy SameBelow SamePolicy SamePolicyPart below_step policy_step policy_part_step

-- ---- refutations

abbrev SameRefute : Refutation → Type 0
SameRefute t = Same Refutation refute_pieces refute_nodes t

abbrev SameRefutePart : RefutePart → Type 0
SameRefutePart r = Same RefutePart refute_part_pieces refute_part_nodes r

abbrev KnownRefute : Type 0
KnownRefute = why.Refute-F ((t : Refutation) × SameRefute t) ((r : RefutePart) × SameRefutePart r)

abbrev plain_refute : KnownRefute → why.Refute-F Refutation RefutePart
plain_refute y = map-Refute ((t : Refutation) × SameRefute t) ((r : RefutePart) × SameRefutePart r) Refutation RefutePart (λ e. e.0) (λ e. e.0) y

refute_layer : (y : KnownRefute)
    → formed.refute_step (map-Refute Refutation RefutePart (List Piece) (List Piece) refute_pieces refute_part_pieces (plain_refute y))
    ≡ all_pieces (nodes.refute_step (map-Refute Refutation RefutePart (List Node) (List Node) refute_nodes refute_part_nodes (plain_refute y)))
refute_layer (why.Over parts) =
    ap₂ (λ (count : ℕ) (rest : List Piece). Count count ∷ rest)
    (counted refute_part_pieces refute_part_nodes (map (λ (e : (r : RefutePart) × SameRefutePart r). e.0) parts)) (same_parts RefutePart refute_part_pieces refute_part_nodes parts)
refute_layer (why.Pick value completion below) = ap (λ ps. (Whole value ∷ map Whole completion) ++ ps) below.1
refute_layer (why.Close combo) = refl

refute_step : (x : why.Refute-F Refutation RefutePart) (y : KnownRefute) → plain_refute y ≡ x → SameRefute (roll-Refute x)
refute_step x y is = subst (λ z. SameRefute (roll-Refute z)) is (
    fold-roll-Refute (List Piece) (List Piece) formed.refute_step formed.refute_part_step (plain_refute y)
    ∙ refute_layer y
    ∙ sym (ap all_pieces (fold-roll-Refute (List Node) (List Node) nodes.refute_step nodes.refute_part_step (plain_refute y))))

abbrev KnownRefutePart : Type 0
KnownRefutePart = why.RefutePart-F ((t : Refutation) × SameRefute t) ((r : RefutePart) × SameRefutePart r)

abbrev plain_refute_part : KnownRefutePart → why.RefutePart-F Refutation RefutePart
plain_refute_part y = map-RefutePart ((t : Refutation) × SameRefute t) ((r : RefutePart) × SameRefutePart r) Refutation RefutePart (λ e. e.0) (λ e. e.0) y

refute_part_step : (x : why.RefutePart-F Refutation RefutePart) (y : KnownRefutePart) → plain_refute_part y ≡ x → SameRefutePart (roll-RefutePart x)
refute_part_step x y is = subst (λ z. SameRefutePart (roll-RefutePart z)) is (
    fold-roll-RefutePart (List Piece) (List Piece) formed.refute_step formed.refute_part_step (plain_refute_part y)
    ∙ ap (λ ps. Whole y.range.low ∷ Whole y.range.high ∷ ps) y.below.1
    ∙ sym (ap all_pieces (fold-roll-RefutePart (List Node) (List Node) nodes.refute_step nodes.refute_part_step (plain_refute_part y))))

pub refute_same : (t : Refutation) → refute_pieces t ≡ all_pieces (refute_nodes t)
refute_same = ind-Refute SameRefute SameRefutePart refute_step refute_part_step

-- ---- what fits is of its type

row_position : (row : RowId) → number_of_row row < 2 ^ 32 → position_of row < 2 ^ 32
row_position (id.Row n) h = omega arith
row_position (id.Uncertain n) h = omega arith
row_position (id.Cut n) h = omega arith

entries_typed : (es : List Entry) → All IsRowEntry es → All IsEntry es
entries_typed es h = λ k d l. let e = h k d l in (row_position _ e.0, e.1)

wide : (n : ℕ) → n < 2 ^ 32 → n < 2 ^ 64
wide n h = omega arith

module _ (P : Problem) (few : length (whole_vars P) < 2 ^ 32) where
  move_typed : (found : Option Player) (node : Node) → FitsMove P found node → AreOfType (node_pieces node)
  move_typed None node (point, is, (len, all)) = subst (λ n. AreOfType (node_pieces n)) is (numbers_of_type point all)
  move_typed (Some Exists) node (value, is, h) = subst (λ n. AreOfType (node_pieces n)) is (h, tt)
  move_typed (Some Universal) node (count, is, h) = subst (λ n. AreOfType (node_pieces n)) is (wide count h, tt)

  node_typed : (d : Due) (node : Node) → FitsAt P d node → AreOfType (node_pieces node)
  node_typed Claimed node (inl same) = subst (λ n. AreOfType (node_pieces n)) same tt
  node_typed Claimed node (inr (inl same)) = subst (λ n. AreOfType (node_pieces n)) same tt
  node_typed Claimed node (inr (inr (value, is, h))) = subst (λ n. AreOfType (node_pieces n)) is (h, tt)
  node_typed Played node (values, is, (len, all)) = subst (λ n. AreOfType (node_pieces n)) is (wholes_of_type values all)
  node_typed (DueLine line) node same = subst (λ n. AreOfType (node_pieces n)) same tt
  node_typed (Policy depth) node h = move_typed (player_at P depth) node h
  node_typed (Below depth) node (inl same) = subst (λ n. AreOfType (node_pieces n)) same tt
  node_typed (Below depth) node (inr h) = move_typed (player_at P depth) node h
  node_typed (Empty least) node (inl (var, (x, at, universal, low), (count, is, h))) =
      let inside = slice_get_within (whole_vars P) var x at in
      subst (λ n. AreOfType (node_pieces n)) is (omega arith, (wide count h, tt))
  node_typed (Empty least) node (inr (combo, is, (plain, (order, all)))) = subst (λ n. AreOfType (node_pieces n)) is ((order, entries_typed combo.entries all), tt)
  node_typed (Refute depth) node (inl (inside, (count, is, h))) = subst (λ n. AreOfType (node_pieces n)) is (wide count h, tt)
  node_typed (Refute depth) node (inr (inl (player, (value, whole, (completion, is, (len, all)))))) = subst (λ n. AreOfType (node_pieces n)) is (whole, wholes_of_type completion all)
  node_typed (Refute depth) node (inr (inr (combo, is, (order, all)))) = subst (λ n. AreOfType (node_pieces n)) is ((order, entries_typed combo.entries all), tt)
  node_typed (Ranges n due) node (range, is, h) = subst (λ m. AreOfType (node_pieces m)) is (h.0, (h.1, tt))

  nodes_typed : (dues : List Due) (ns : List Node) → AreFit P dues ns → AreOfType (all_pieces ns)
  nodes_typed [] [] fit = tt
  nodes_typed [] (n ∷ ns) fit = absurd fit
  nodes_typed (d ∷ dues) [] fit = absurd fit
  nodes_typed (d ∷ dues) (n ∷ ns) fit = joined_of_type (node_pieces n) (all_pieces ns) (node_typed d n fit.0) (nodes_typed (after first_style d n ++ dues) ns fit.1)

  -- ---- certificates

  frac_turned : (a : Fraction) → IsFrac (negated a) → IsFrac a
  unfolding negated
  frac_turned a h =
      let size = unsigned_abs-neg a.num in
      let num = h.num_fits in
      record { positive = h.positive; lowest = ap (λ n. gcd_of n a.den) (sym size) ∙ h.lowest; num_fits = omega (arith, size); den_fits = h.den_fits }

  pub frac_claimed : (sense : Sense) (a : Fraction) → IsFrac (claimed sense a) → IsFrac a
  frac_claimed Max a h = h
  frac_claimed Min a h = frac_turned a h

  end_pieces : (ns : List Node) (line : List (List ℕ)) → all_pieces (ns ++ Fixed line ∷ []) ≡ all_pieces ns
  end_pieces ns line = pieces_append ns (Fixed line ∷ []) ∙ append_none (all_pieces ns)

  pub fits_formed : (c : Certificate) → Fits P c → IsWellFormed c
  fits_formed (ending.Optimal value legal policy refute) fits =
      let all = nodes_typed (Claimed ∷ []) (nodes_of first_style P (ending.Optimal value legal policy refute)) fits in
      let moves = policy_nodes policy in
      let last = Fixed refute_line ∷ refute_nodes refute in
      let parts = both_of_type (map Whole legal) (all_pieces ((moves ++ last) ++ Fixed end_line ∷ [])) all.1 in
      let same : all_pieces ((moves ++ last) ++ Fixed end_line ∷ []) ≡ policy_pieces policy ++ refute_pieces refute =
      end_pieces (moves ++ last) end_line ∙ pieces_append moves last ∙ ap₂ (λ (xs : List Piece) (ys : List Piece). xs ++ ys) (sym (policy_same policy)) (sym (refute_same refute)) in
      (frac_claimed P.sense value all.0, joined_of_type (map Whole legal) (policy_pieces policy ++ refute_pieces refute) parts.0 (subst AreOfType same parts.1))
  fits_formed (ending.Infeasible legal refute) fits =
      let all = nodes_typed (Claimed ∷ []) (nodes_of first_style P (ending.Infeasible legal refute)) fits in
      let same : all_pieces (refute_nodes refute ++ Fixed end_line ∷ []) ≡ refute_pieces refute = end_pieces (refute_nodes refute) end_line ∙ sym (refute_same refute) in
      subst AreOfType (ap (λ ps. map Whole legal ++ ps) same) all
  fits_formed (ending.Empty tree) fits =
      subst AreOfType (end_pieces (empty_nodes tree) end_line ∙ sym (empty_same tree)) (nodes_typed (Claimed ∷ []) (nodes_of first_style P (ending.Empty tree)) fits)

  -- two certificates that fit and have one text are the same
  pub one_fits : (c d : Certificate) → Fits P c → Fits P d → certificate_text P c ≡ certificate_text P d → c ≡ d
  one_fits c d fits other same = certificate_told P c d (certificate_bound c (fits_formed c fits)) (certificate_bound d (fits_formed d other)) same
