-- Nodes that may stand where these are due, and behind them whatever fits what is due next.
use Rattle.std.proofs.Common.{◌≡◌, ◌<◌, ◌≤◌, ◌^◌, ℤ, List, [], ◌∷◌, ◌++◌, append_assoc, length, length-append, map, All, refl, sym, ap, subst, arith}
use Rattle.std.proofs.lemmas.List.Elements.{All-cons, All-head, All-nil, All-tail}
use Rattle.qm_model.specs.declared.range.Range.{Range}
use Rattle.qm_model.specs.declared.game.Problem.{Problem}
use Rattle.qm_certfile.specs.Styles.{first_style}
use Rattle.qm_certfile.specs.WellFormed.{AreOfType, IsWhole, Whole}
use Rattle.qm_certfile.proofs.Pieces.{both_of_type}
use Rattle.qm_certread.specs.Nodes.{Node, Part}
use Rattle.qm_certread.specs.Dues.{Due, Ranges, after, ranges}
use Rattle.qm_certread.specs.NodesOf.{in_turn}
use Rattle.qm_certread.specs.Fits.{AreFit, FitsAt}
use Rattle.qm_certread.proofs.NodePieces.{all_pieces, pieces_append}

-- all numbers of the nodes are of their types, but for counts, which have 64 bits
abbrev pub AreTyped : List Node → Type 0
AreTyped nodes = AreOfType (all_pieces nodes)

pub both_typed : (ns ms : List Node) → AreTyped (ns ++ ms) → AreTyped ns × AreTyped ms
both_typed ns ms h = both_of_type (all_pieces ns) (all_pieces ms) (subst AreOfType (pieces_append ns ms) h)

pub typed_wholes : (zs : List ℤ) → AreOfType (map Whole zs) → All IsWhole zs
typed_wholes [] h = All-nil IsWhole
typed_wholes (z ∷ zs) h = All-cons IsWhole z zs h.0 (typed_wholes zs h.1)

module _ (P : Problem) where
  abbrev pub Fitting : List Due → List Node → Type 0
  Fitting dues nodes = (later : List Due) (behind : List Node) → AreFit P later behind → AreFit P (dues ++ later) (nodes ++ behind)

  pub none_fit : Fitting [] []
  none_fit later behind fit = fit

  -- a node, and what is due behind it
  pub node_fits : (d : Due) (node : Node) (nodes : List Node) → FitsAt P d node → Fitting (after first_style d node) nodes → Fitting (d ∷ []) (node ∷ nodes)
  node_fits d node nodes here rest later behind fit = (here, rest later behind fit)

  pub both_fit : (ds es : List Due) (ns ms : List Node) → Fitting ds ns → Fitting es ms → Fitting (ds ++ es) (ns ++ ms)
  both_fit ds es ns ms first second later behind fit =
      subst (λ dues. AreFit P dues ((ns ++ ms) ++ behind)) (sym (append_assoc ds es later))
      (subst (λ l. AreFit P (ds ++ (es ++ later)) l) (sym (append_assoc ns ms behind)) (first (es ++ later) (ms ++ behind) (second later behind fit)))

  -- ---- ranges

  module _ {A : Type 0} (below : Due) (range_of : A → Range) (nodes part_nodes : A → List Node) (is_part : (a : A) → part_nodes a ≡ Part (range_of a) ∷ nodes a) where
    -- there are no more parts than nodes of theirs
    pub few_parts : (parts : List A) → length parts ≤ length (in_turn (map part_nodes parts))
    few_parts [] = omega arith
    few_parts (part ∷ parts) = omega (arith, few_parts parts, length-append (part_nodes part) (in_turn (map part_nodes parts)), ap length (is_part part))

    abbrev pub PartFits : A → Type 0
    PartFits part = length (nodes part) < 2 ^ 32 → AreTyped (nodes part) → Fitting (below ∷ []) (nodes part)

    pub parts_fit : (parts : List A) → All PartFits parts → length (in_turn (map part_nodes parts)) < 2 ^ 32 → AreTyped (in_turn (map part_nodes parts))
        → Fitting (ranges (length parts) below) (in_turn (map part_nodes parts))
    parts_fit [] each small typed = none_fit
    parts_fit (part ∷ parts) each small typed =
        let range = range_of part in
        let rest = in_turn (map part_nodes parts) in
        let n = length parts in
        let size = length-append (part_nodes part) rest in
        let first_size = ap length (is_part part) in
        let both = both_typed (part_nodes part) rest typed in
        let here : AreTyped (Part range ∷ nodes part) = subst AreTyped (is_part part) both.0 in
        let first : Fitting (below ∷ []) (nodes part) = All-head PartFits part parts each (omega (arith, small, size, first_size)) here.1.1 in
        let others = parts_fit parts (All-tail PartFits part parts each) (omega (arith, small, size)) both.1 in
        subst (λ (l : List Node). Fitting (Ranges n below ∷ []) (l ++ rest)) (sym (is_part part))
        (node_fits (Ranges n below) (Part range) (nodes part ++ rest) (range, refl, (here.0, here.1.0))
        (both_fit (below ∷ []) (ranges n below) (nodes part) rest first others))
