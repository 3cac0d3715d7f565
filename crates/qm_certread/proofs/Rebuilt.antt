-- Nodes that may stand where they are due are those of a tree, and behind it what is due next.
use Rattle.std.proofs.Common.{◌≡◌, ℕ, zero, suc, ◌+◌, ◌≤◌, List, [], ◌∷◌, ◌++◌, append_assoc, length, length-append, map, Option, None, Some, inl, inr, refl, sym, ap, ◌∙◌, subst, arith}
use Rattle.qm_math.specs.Fraction.{Fraction}
use Rattle.qm_model.specs.declared.range.Range.{Range}
use Rattle.qm_model.specs.declared.variable.Player.{Player}
use Rattle.qm_model.specs.declared.variable.Player.TheVariants.{Exists, All as Universal}
use Rattle.qm_model.specs.declared.game.Problem.{Problem}
use Rattle.qm_trees.specs.Entries.{Combination}
use Rattle.qm_trees.specs.declared.empty.Empty.{Empty as EmptyTree}
use Rattle.qm_trees.specs.declared.empty.EmptyPart.{EmptyPart}
use Rattle.qm_trees.specs.declared.empty.Empty.TheOpen as none
use Rattle.qm_trees.specs.declared.empty.Empty.TheViews.{roll-Empty, roll-EmptyPart}
use Rattle.qm_trees.specs.declared.empty.Empty.TheFolds.{fold-roll-Empty, fold-roll-EmptyPart}
use Rattle.qm_trees.specs.declared.empty.Empty.TheVariants.{Split as SplitTree}
use Rattle.qm_trees.specs.declared.policy.Policy.{Policy as Moving}
use Rattle.qm_trees.specs.declared.policy.Below.{Below as Under}
use Rattle.qm_trees.specs.declared.policy.PolicyPart.{PolicyPart}
use Rattle.qm_trees.specs.declared.policy.Below.TheOpen as answer
use Rattle.qm_trees.specs.declared.policy.Below.TheViews.{roll-Below, roll-Policy, roll-PolicyPart}
use Rattle.qm_trees.specs.declared.policy.Below.TheFolds.{fold-roll-Below, fold-roll-Policy, fold-roll-PolicyPart}
use Rattle.qm_trees.specs.declared.policy.Policy.TheVariants.{Answer as AnswerTree, Choose as ChooseTree}
use Rattle.qm_trees.specs.declared.policy.Below.TheVariants.{On as OnPolicy}
use Rattle.qm_trees.specs.declared.refutation.Refute.{Refute as Refutation}
use Rattle.qm_trees.specs.declared.refutation.RefutePart.{RefutePart}
use Rattle.qm_trees.specs.declared.refutation.Refute.TheOpen as why
use Rattle.qm_trees.specs.declared.refutation.Refute.TheViews.{roll-Refute, roll-RefutePart}
use Rattle.qm_trees.specs.declared.refutation.Refute.TheFolds.{fold-roll-Refute, fold-roll-RefutePart}
use Rattle.qm_trees.specs.declared.refutation.Refute.TheVariants.{Over as OverTree, Pick as PickTree}
use Rattle.qm_certfile.specs.Styles.{first_style}
use Rattle.qm_certread.specs.Nodes.{Node, Fixed, Choose, Answer, Leaf, Split, Over, Pick, Close, Part}
use Rattle.qm_certread.specs.Dues.{Due, Policy, Below, Empty, Refute, Ranges, after, illegal_line, ranges}
use Rattle.qm_certread.specs.NodesOf.{in_turn, below_nodes, below_step, empty_nodes, empty_part_nodes, policy_nodes, policy_part_nodes, policy_part_step, policy_step, refute_nodes, refute_part_nodes}
use Rattle.qm_certread.specs.NodesOf as nodes
use Rattle.qm_certread.specs.Forms.{player_at}
use Rattle.qm_certread.specs.Fits.{AreFit, FitsMove}
use Rattle.qm_certread.proofs.EmptyRead.{split_nodes}
use Rattle.qm_certread.proofs.PolicyRead.{answer_nodes, choose_nodes, on_nodes}
use Rattle.qm_certread.proofs.RefuteRead.{over_nodes, pick_nodes}

module _ (P : Problem) where
  -- a tree whose nodes stand first, and behind them what fits these
  pub record Built (T : Type 0) (nodes : T → List Node) (ds : List Due) (ns : List Node) : Type 0 where
    pub tree : T
    pub rest : List Node
    pub all : ns ≡ nodes tree ++ rest
    pub fit : AreFit P ds rest

  abbrev pub Builder : (T : Type 0) → (T → List Node) → Due → ℕ → Type 0
  Builder T nodes d fuel = (ds : List Due) (ns : List Node) → length ns ≤ fuel → AreFit P (d ∷ ds) ns → Built T nodes ds ns

  shorter : (first rest ns : List Node) (fuel : ℕ) → ns ≡ first ++ rest → length ns ≤ fuel → length rest ≤ fuel
  shorter first rest ns fuel is h = omega (arith, ap length is, length-append first rest, h)

  -- the first node is a leaf of its tree
  leaf_built : (T : Type 0) (nodes : T → List Node) (d : Due) (tree : T) (node : Node) (ds : List Due) (ns : List Node) → nodes tree ≡ node ∷ [] → after first_style d node ≡ []
      → AreFit P (after first_style d node ++ ds) ns → Built T nodes ds (node ∷ ns)
  leaf_built T nodes d tree node ds ns is none fit = record {
    tree = tree;
    rest = ns;
    all = ap (λ first. first ++ ns) (sym is);
    fit = subst (λ dues. AreFit P (dues ++ ds) ns) none fit;
  }

  -- the first node, and a tree behind it
  behind_built : (T U : Type 0) (nodes : T → List Node) (below : U → List Node) (wrap : U → T) (node : Node) (ds : List Due) (ns : List Node) → ((u : U) → nodes (wrap u) ≡ node ∷ below u)
      → Built U below ds ns → Built T nodes ds (node ∷ ns)
  behind_built T U nodes below wrap node ds ns is built = record {
    tree = wrap built.tree;
    rest = built.rest;
    all = ap (λ t. node ∷ t) built.all ∙ ap (λ first. first ++ built.rest) (sym (is built.tree));
    fit = built.fit;
  }

  -- ---- parts

  pub record PartsBuilt (A : Type 0) (nodes : A → List Node) (n : ℕ) (ds : List Due) (ns : List Node) : Type 0 where
    pub parts : List A
    pub count : length parts ≡ n
    pub rest : List Node
    pub all : ns ≡ in_turn (map nodes parts) ++ rest
    pub fit : AreFit P ds rest

  module _ (A T : Type 0) (make : Range → T → A) (nodes : T → List Node) (part_nodes : A → List Node) (is_part : (range : Range) (t : T) → part_nodes (make range t) ≡ Part range ∷ nodes t) where
    part_first : (range : Range) (t : T) (parts : List A) (ns rest more : List Node) → ns ≡ nodes t ++ rest → rest ≡ in_turn (map part_nodes parts) ++ more
        → Part range ∷ ns ≡ in_turn (map part_nodes (make range t ∷ parts)) ++ more
    part_first range t parts ns rest more first second =
        let behind = in_turn (map part_nodes parts) in
        ap (λ l. Part range ∷ l) (first ∙ ap (λ l. nodes t ++ l) second ∙ sym (append_assoc (nodes t) behind more))
        ∙ ap (λ l. (l ++ behind) ++ more) (sym (is_part range t))

    parts_from : (due : Due) (fuel : ℕ) → Builder T nodes due fuel → (n : ℕ) (ds : List Due) (ns : List Node) → length ns ≤ fuel → AreFit P (ranges n due ++ ds) ns → PartsBuilt A part_nodes n ds ns
    parts_from due fuel below zero ds ns len fit = record { parts = []; count = refl; rest = ns; all = refl; fit = fit }
    parts_from due fuel below (suc n) ds [] len fit = absurd fit
    parts_from due fuel below (suc n) ds (node ∷ ns) len (here, behind) =
        let range = here.0 in
        let dues : AreFit P (due ∷ ranges n due ++ ds) ns = subst (λ m. AreFit P (after first_style (Ranges n due) m ++ ds) ns) (sym here.1) behind in
        let first = below (ranges n due ++ ds) ns (omega arith) dues in
        let more = parts_from due fuel below n ds first.rest (shorter (nodes first.tree) first.rest ns fuel first.all (omega arith)) first.fit in
        record {
          parts = make range first.tree ∷ more.parts;
          count = ap suc more.count;
          rest = more.rest;
          all = ap (λ m. m ∷ ns) (sym here.1) ∙ part_first range first.tree more.parts ns first.rest more.rest first.all more.all;
          fit = more.fit;
        }

  -- a node and its parts
  parts_built : (T A : Type 0) (nodes : T → List Node) (part_nodes : A → List Node) (wrap : List A → T) (node : Node) (n : ℕ) (ds : List Due) (ns : List Node)
      → ((parts : List A) → length parts ≡ n → nodes (wrap parts) ≡ node ∷ in_turn (map part_nodes parts)) → PartsBuilt A part_nodes n ds ns → Built T nodes ds (node ∷ ns)
  parts_built T A nodes part_nodes wrap node n ds ns is built = record {
    tree = wrap built.parts;
    rest = built.rest;
    all = ap (λ t. node ∷ t) built.all ∙ ap (λ first. first ++ built.rest) (sym (is built.parts built.count));
    fit = built.fit;
  }

  -- ---- empty trees

  abbrev empty_close : Combination → EmptyTree
  empty_close combo = roll-Empty (none.Close combo)

  abbrev empty_part : Range → EmptyTree → EmptyPart
  empty_part range below = roll-EmptyPart (record { range = range; below = below })

  abbrev EmptyHere : ℕ → List Due → List Node → Node → Type 0
  EmptyHere least ds ns node = AreFit P (after first_style (Empty least) node ++ ds) ns → Built EmptyTree empty_nodes ds (node ∷ ns)

  pub empty_from : (fuel least : ℕ) → Builder EmptyTree empty_nodes (Empty least) fuel
  empty_from fuel least ds [] len fit = absurd fit
  empty_from zero least ds (node ∷ ns) len fit = absurd (omega arith)
  empty_from (suc fuel) least ds (node ∷ ns) len (inl (var, split, (count, is, h)), behind) =
      subst (EmptyHere least ds ns) is
      (λ fit. parts_built EmptyTree EmptyPart empty_nodes empty_part_nodes (SplitTree var) (Split var count) count ds ns (λ parts e. split_nodes var parts count e)
      (parts_from EmptyPart EmptyTree empty_part empty_nodes empty_part_nodes
      (λ range t. fold-roll-EmptyPart (List Node) (List Node) nodes.empty_step nodes.empty_part_step (record { range = range; below = t }))
      (Empty (var + 1)) fuel (empty_from fuel (var + 1)) count ds ns (omega arith) fit))
      behind
  empty_from (suc fuel) least ds (node ∷ ns) len (inr (combo, is, h), behind) =
      subst (EmptyHere least ds ns) is
      (λ fit. leaf_built EmptyTree empty_nodes (Empty least) (empty_close combo) (Close combo) ds ns
      (fold-roll-Empty (List Node) (List Node) nodes.empty_step nodes.empty_part_step (none.Close combo)) refl fit)
      behind

  -- ---- policies

  abbrev policy_leaf : List Fraction → Moving
  policy_leaf point = roll-Policy (answer.Leaf point)

  abbrev below_illegal : EmptyTree → Under
  below_illegal tree = roll-Below (answer.Illegal tree)

  abbrev policy_part : Range → Under → PolicyPart
  policy_part range below = roll-PolicyPart (record { range = range; below = below })

  pub move_after : (found : Option Player) (depth : ℕ) (node : Node) → FitsMove P found node → after first_style (Below depth) node ≡ after first_style (Policy depth) node
  move_after None depth node (point, is, h) = subst (λ n. after first_style (Below depth) n ≡ after first_style (Policy depth) n) is refl
  move_after (Some Exists) depth node (value, is, h) = subst (λ n. after first_style (Below depth) n ≡ after first_style (Policy depth) n) is refl
  move_after (Some Universal) depth node (count, is, h) = subst (λ n. after first_style (Below depth) n ≡ after first_style (Policy depth) n) is refl

  abbrev BelowHere : ℕ → List Due → List Node → Node → Type 0
  BelowHere depth ds ns node = AreFit P (after first_style (Below depth) node ++ ds) ns → Built Under below_nodes ds (node ∷ ns)

  on_built : (ds : List Due) (ns : List Node) → Built Moving policy_nodes ds ns → Built Under below_nodes ds ns
  on_built ds ns built = record {
    tree = OnPolicy built.tree;
    rest = built.rest;
    all = built.all ∙ ap (λ first. first ++ built.rest) (sym (on_nodes built.tree));
    fit = built.fit;
  }

  below_from : (fuel depth : ℕ) → Builder Moving policy_nodes (Policy depth) fuel → Builder Under below_nodes (Below depth) fuel
  below_from fuel depth policy ds [] len fit = absurd fit
  below_from fuel depth policy ds (node ∷ ns) len (inl same, behind) =
      subst (BelowHere depth ds ns) same
      (λ fit. behind_built Under EmptyTree below_nodes empty_nodes below_illegal (Fixed illegal_line) ds ns
      (λ tree. fold-roll-Below (List Node) (List Node) (List Node) below_step policy_step policy_part_step (answer.Illegal tree))
      (empty_from (length ns) 0 ds ns (omega arith) fit))
      behind
  below_from fuel depth policy ds (node ∷ ns) len (inr move, behind) =
      on_built ds (node ∷ ns) (policy ds (node ∷ ns) len (move, subst (λ dues. AreFit P (dues ++ ds) ns) (move_after (player_at P depth) depth node move) behind))

  abbrev PolicyHere : ℕ → List Due → List Node → Node → Type 0
  PolicyHere depth ds ns node = AreFit P (after first_style (Policy depth) node ++ ds) ns → Built Moving policy_nodes ds (node ∷ ns)

  module _ (fuel : ℕ) (policy : (depth : ℕ) → Builder Moving policy_nodes (Policy depth) fuel) where
    move_from : (found : Option Player) (depth : ℕ) (ds : List Due) (node : Node) (ns : List Node) → length ns ≤ fuel → FitsMove P found node → PolicyHere depth ds ns node
    move_from None depth ds node ns len (point, is, h) =
        subst (PolicyHere depth ds ns) is
        (λ fit. leaf_built Moving policy_nodes (Policy depth) (policy_leaf point) (Leaf point) ds ns
        (fold-roll-Policy (List Node) (List Node) (List Node) below_step policy_step policy_part_step (answer.Leaf point)) refl fit)
    move_from (Some Exists) depth ds node ns len (value, is, h) =
        subst (PolicyHere depth ds ns) is
        (λ fit. behind_built Moving Moving policy_nodes policy_nodes (ChooseTree value) (Choose value) ds ns (λ t. choose_nodes value t t refl) (policy (depth + 1) ds ns len fit))
    move_from (Some Universal) depth ds node ns len (count, is, h) =
        subst (PolicyHere depth ds ns) is
        (λ fit. parts_built Moving PolicyPart policy_nodes policy_part_nodes AnswerTree (Answer count) count ds ns (λ parts e. answer_nodes parts count e)
        (parts_from PolicyPart Under policy_part below_nodes policy_part_nodes
        (λ range t. fold-roll-PolicyPart (List Node) (List Node) (List Node) below_step policy_step policy_part_step (record { range = range; below = t }))
        (Below (depth + 1)) fuel (below_from fuel (depth + 1) (policy (depth + 1))) count ds ns len fit))

  pub policy_from : (fuel depth : ℕ) → Builder Moving policy_nodes (Policy depth) fuel
  policy_from fuel depth ds [] len fit = absurd fit
  policy_from zero depth ds (node ∷ ns) len fit = absurd (omega arith)
  policy_from (suc fuel) depth ds (node ∷ ns) len (move, behind) = move_from fuel (policy_from fuel) (player_at P depth) depth ds node ns (omega arith) move behind

  -- ---- refutations

  abbrev refute_close : Combination → Refutation
  refute_close combo = roll-Refute (why.Close combo)

  abbrev refute_part : Range → Refutation → RefutePart
  refute_part range below = roll-RefutePart (record { range = range; below = below })

  abbrev RefuteHere : ℕ → List Due → List Node → Node → Type 0
  RefuteHere depth ds ns node = AreFit P (after first_style (Refute depth) node ++ ds) ns → Built Refutation refute_nodes ds (node ∷ ns)

  pub refute_from : (fuel depth : ℕ) → Builder Refutation refute_nodes (Refute depth) fuel
  refute_from fuel depth ds [] len fit = absurd fit
  refute_from zero depth ds (node ∷ ns) len fit = absurd (omega arith)
  refute_from (suc fuel) depth ds (node ∷ ns) len (inl (inside, (count, is, h)), behind) =
      subst (RefuteHere depth ds ns) is
      (λ fit. parts_built Refutation RefutePart refute_nodes refute_part_nodes OverTree (Over count) count ds ns (λ parts e. over_nodes parts count e)
      (parts_from RefutePart Refutation refute_part refute_nodes refute_part_nodes
      (λ range t. fold-roll-RefutePart (List Node) (List Node) nodes.refute_step nodes.refute_part_step (record { range = range; below = t }))
      (Refute (depth + 1)) fuel (refute_from fuel (depth + 1)) count ds ns (omega arith) fit))
      behind
  refute_from (suc fuel) depth ds (node ∷ ns) len (inr (inl (player, (value, whole, (completion, is, h)))), behind) =
      subst (RefuteHere depth ds ns) is
      (λ fit. behind_built Refutation Refutation refute_nodes refute_nodes (PickTree value completion) (Pick value completion) ds ns (λ t. pick_nodes value completion t t refl)
      (refute_from fuel (depth + 1) ds ns (omega arith) fit))
      behind
  refute_from (suc fuel) depth ds (node ∷ ns) len (inr (inr (combo, is, h)), behind) =
      subst (RefuteHere depth ds ns) is
      (λ fit. leaf_built Refutation refute_nodes (Refute depth) (refute_close combo) (Close combo) ds ns
      (fold-roll-Refute (List Node) (List Node) nodes.refute_step nodes.refute_part_step (why.Close combo)) refl fit)
      behind
