-- Nodes that stand where tasks are due are judged one after another, and then what stands behind them.
use Rattle.std.proofs.Common.{◌≡◌, ℕ, zero, suc, ◌+◌, ◌<◌, ◌^◌, ℤ, pos, ◌+ℤ◌, Bool, true, false, List, [], ◌∷◌, ◌++◌, append_assoc, length, map, Ok, Err, refl, sym, ap, ◌∙◌, subst, arith}
use Rattle.std.specs.Prelude.{◌==◌, slice_set}
use Rattle.std.proofs.lemmas.Bool.Decides.{nat_tests}
use Rattle.std.proofs.lemmas.List.{map-append}
use Rattle.memchr.specs.Find.{is_byte}
use Rattle.qm_model.specs.declared.row.Row.{Row}
use Rattle.qm_model.specs.declared.range.Range.{Range}
use Rattle.qm_model.specs.declared.game.Problem.{Problem}
use Rattle.qm_model.specs.Plays.{whole_vars}
use Rattle.qm_model.specs.Ranges.{range_at}
use Rattle.qm_trees.specs.declared.rule.Rule.TheVariants as broken
use Rattle.qm_trees.specs.Verdicts.{Verdict, Fine, Broken, line, ◌then◌}
use Rattle.qm_trees.specs.Ranges.{follows_on, is_last_before, judge_each}
use Rattle.qm_trees.specs.RefuteJudgement.{Head}
use Rattle.qm_certfile.specs.Lines.{line_text, text_of}
use Rattle.qm_certfile.specs.Styles.{first_style}
use Rattle.qm_certread.specs.Pieces.{lines_of, words_of}
use Rattle.qm_certread.specs.Spelling.{Said}
use Rattle.qm_certread.specs.Nodes.{Node, Fixed, Infeasible, NoPlay, Optimal, Choose, Answer, Split, Over, Pick, Part}
use Rattle.qm_certread.specs.Dues.{Due, after}
use Rattle.qm_certread.specs.Dues as due
use Rattle.qm_certread.specs.Forms.{rule_of, said_at}
use Rattle.qm_certread.specs.NodesOf.{in_turn}
use Rattle.qm_certread.specs.Fits.{AreFit, FitsAt, line_of}
use Rattle.qm_certread.specs.Tasks.{Kind, Policies, EmptyTrees, Refutations, Covering, Task, Claimed, Played, Said as Fixing, Policy, Below, Empty, Refute, Ranges, below, due_below, due_of, follow, ranges, tree_of}
use Rattle.qm_certread.specs.FirstFault.{judge_lines, rule_at}
use Rattle.qm_certread.proofs.ThenLaws.{none_then, then_assoc, then_none}
use Rattle.qm_certread.proofs.TextLines.{joined}
use Rattle.qm_certread.proofs.TextSplits.{IsClean, again, line_first_so, node_shown}
use Rattle.qm_certread.proofs.LinesFit.{node_said}
use Rattle.qm_certread.proofs.WordCuts.{some_piece}

-- the ranges of a variable in a box
abbrev pub covering : Kind → ℕ → List Range → Covering
covering kind var bx = record { kind = kind; var = var; high = (range_at bx var).high; box = bx }

-- ---- what follows a line is due as its form says

pub tree_due : (kind : Kind) (depth : ℕ) (bx : List Range) → due_of (tree_of kind depth bx) ≡ due_below kind depth
tree_due (Policies value) depth bx = refl
tree_due EmptyTrees depth bx = refl
tree_due (Refutations G) depth bx = refl

pub ranges_due : (covering : Covering) (n : ℕ) (next : ℤ) → map due_of (ranges covering n next) ≡ due.ranges n (due_below covering.kind (covering.var + 1))
ranges_due covering zero next = refl
ranges_due covering (suc n) next = refl

pub follow_due : (P : Problem) (task : Task) (node : Node) → map due_of (follow first_style P task node) ≡ after first_style (due_of task) node
follow_due P (Policy value depth bx) (Answer n) = ranges_due (covering (Policies value) depth bx) n (range_at bx depth).low
follow_due P (Below value depth bx) (Answer n) = ranges_due (covering (Policies value) depth bx) n (range_at bx depth).low
follow_due P (Empty position bx) (Split var n) = ranges_due (covering EmptyTrees var bx) n (range_at bx var).low
follow_due P (Refute G depth bx) (Over n) = ranges_due (covering (Refutations G) depth bx) n (range_at bx depth).low
follow_due P (Ranges cover n next) (Part range) =
    ap (λ (d : Due). d ∷ map due_of (ranges cover n (range.high +ℤ pos 1))) (tree_due cover.kind (cover.var + 1) (slice_set cover.box cover.var range))
    ∙ ap (λ (ds : List Due). due_below cover.kind (cover.var + 1) ∷ ds) (ranges_due cover n (range.high +ℤ pos 1))
follow_due P Claimed (Optimal shown) = refl
follow_due P Claimed Infeasible = refl
follow_due P Claimed NoPlay = refl
follow_due P Claimed node = refl
follow_due P Played node = refl
follow_due P (Fixing words) node = refl
follow_due P (Policy value depth bx) (Choose v) = refl
follow_due P (Policy value depth bx) node = refl
follow_due P (Below value depth bx) (Choose v) = refl
follow_due P (Below value depth bx) (Fixed words) = refl
follow_due P (Below value depth bx) node = refl
follow_due P (Empty position bx) node = refl
follow_due P (Refute G depth bx) (Pick v completion) = refl
follow_due P (Refute G depth bx) node = refl
follow_due P (Ranges cover n next) node = refl

-- ---- turns

module _ (P : Problem) (cuts : List Row) (heads : List Head) where
  -- what is judged of a line by what it says, and of those behind it
  abbrev pub next_judged : Task → List Task → List (List ℕ) → Said Node → Verdict
  next_judged task tasks lines (Ok node) = rule_at P cuts heads task node then judge_lines first_style P cuts heads (follow first_style P task node ++ tasks) lines
  next_judged task tasks lines (Err r) = Broken (rule_of r) 0

  pub next_is : (task : Task) (tasks : List Task) (line next : List ℕ) (lines : List (List ℕ)) (said : Said Node) → said_at first_style P (due_of task) (words_of line) ≡ said
      → judge_lines first_style P cuts heads (task ∷ tasks) (line ∷ next ∷ lines) ≡ next_judged task tasks (next ∷ lines) said
  next_is task tasks line next lines said e = by (said_at first_style P (due_of task) (words_of line)) ∙ ap (next_judged task tasks (next ∷ lines)) e
    where
      by : (s : Said Node) → (elim s as (λ _. Verdict) [
        | Ok node ↦ rule_at P cuts heads task node then judge_lines first_style P cuts heads (follow first_style P task node ++ tasks) (next ∷ lines)
        | Err r ↦ Broken (rule_of r) 0
      ]) ≡ next_judged task tasks (next ∷ lines) s
      by (Ok node) = refl
      by (Err r) = refl

module _ (P : Problem) (cuts : List Row) (heads : List Head) (few : length (whole_vars P) < 2 ^ 32) (more : List ℕ) where
  -- the nodes' lines, and more text behind them
  abbrev pub judged : List Task → List Node → Verdict
  judged tasks nodes = judge_lines first_style P cuts heads tasks (lines_of (text_of (map line_of nodes) ++ more))

  -- one node's line, and then the others
  pub node_judged : (task : Task) (tasks : List Task) (node : Node) (nodes : List Node) → FitsAt P (due_of task) node → IsClean (due_of task)
      → judged (task ∷ tasks) (node ∷ nodes) ≡ rule_at P cuts heads task node then judged (follow first_style P task node ++ tasks) nodes
  node_judged task tasks node nodes fits clean =
      let rest = text_of (map line_of nodes) ++ more in
      let line = node_shown P few (due_of task) node fits clean in
      let others = some_piece (is_byte 10) rest in
      let pieces : lines_of (text_of (map line_of (node ∷ nodes)) ++ more) ≡ joined 32 (line_of node) ∷ others.0 ∷ others.1 =
      ap lines_of (append_assoc (line_text (line_of node)) (text_of (map line_of nodes)) more) ∙ line_first_so (line_of node) rest line ∙ ap (λ ls. joined 32 (line_of node) ∷ ls) others.2 in
      let says : said_at first_style P (due_of task) (words_of (joined 32 (line_of node))) ≡ Ok node = ap (said_at first_style P (due_of task)) (again (line_of node) line) ∙ node_said P few (due_of task) node fits in
      ap (judge_lines first_style P cuts heads (task ∷ tasks)) pieces
      ∙ next_is P cuts heads task tasks (joined 32 (line_of node)) others.0 others.1 (Ok node) says
      ∙ ap (λ ls. rule_at P cuts heads task node then judge_lines first_style P cuts heads (follow first_style P task node ++ tasks) ls) (sym others.2)

  -- nodes that are judged so where these tasks are due, and what stands behind them fits what is due there
  pub record Turned (tasks : List Task) (nodes : List Node) (verdict : Verdict) (dues : List Due) (later : List Task) (behind : List Node) : Type 0 where
    pub fit : AreFit P dues behind
    pub same : judged (tasks ++ later) (nodes ++ behind) ≡ verdict then judged later behind

  abbrev pub IsTurn : List Task → List Node → Verdict → Type 0
  IsTurn tasks nodes verdict = (dues : List Due) (later : List Task) (behind : List Node) → AreFit P (map due_of tasks ++ dues) (nodes ++ behind) → Turned tasks nodes verdict dues later behind

  pub no_turn : IsTurn [] [] (Fine 0)
  no_turn dues later behind fit = record { fit = fit; same = sym (none_then (judged later behind)) }

  pub both_turn : (ts us : List Task) (ns ms : List Node) (v w : Verdict) → IsTurn ts ns v → IsTurn us ms w → IsTurn (ts ++ us) (ns ++ ms) (v then w)
  both_turn ts us ns ms v w first second dues later behind fit =
      let due : map due_of (ts ++ us) ++ dues ≡ map due_of ts ++ (map due_of us ++ dues) = ap (λ ds. ds ++ dues) (map-append due_of ts us) ∙ append_assoc (map due_of ts) (map due_of us) dues in
      let fit_first : AreFit P (map due_of ts ++ (map due_of us ++ dues)) (ns ++ (ms ++ behind)) =
      subst (λ ds. AreFit P ds (ns ++ (ms ++ behind))) due (subst (λ l. AreFit P (map due_of (ts ++ us) ++ dues) l) (append_assoc ns ms behind) fit) in
      let one = first (map due_of us ++ dues) (us ++ later) (ms ++ behind) fit_first in
      let two = second dues later behind one.fit in
      record {
        fit = two.fit;
        same = ap (λ l. judged ((ts ++ us) ++ later) l) (append_assoc ns ms behind) ∙ ap (λ l. judged l (ns ++ (ms ++ behind))) (append_assoc ts us later)
            ∙ one.same ∙ ap (λ x. v then x) two.same ∙ sym (then_assoc v w (judged later behind));
      }

  pub same_turn : (ts : List Task) (ns : List Node) (v w : Verdict) → v ≡ w → IsTurn ts ns v → IsTurn ts ns w
  same_turn ts ns v w e turn = subst (λ x. IsTurn ts ns x) e turn

  pub nodes_turn : (ts : List Task) (ns ms : List Node) (v : Verdict) → ns ≡ ms → IsTurn ts ns v → IsTurn ts ms v
  nodes_turn ts ns ms v e turn = subst (λ l. IsTurn ts l v) e turn

  -- a node, and what follows it
  pub node_turn : (task : Task) (node : Node) (ns : List Node) (w : Verdict) → IsClean (due_of task) → IsTurn (follow first_style P task node) ns w
      → IsTurn (task ∷ []) (node ∷ ns) (rule_at P cuts heads task node then w)
  node_turn task node ns w clean turn dues later behind (here, fit) =
      let rule = rule_at P cuts heads task node in
      let rest = turn dues later behind (subst (λ ds. AreFit P (ds ++ dues) (ns ++ behind)) (sym (follow_due P task node)) fit) in
      record {
        fit = rest.fit;
        same = node_judged task later node (ns ++ behind) here clean ∙ ap (λ x. rule then x) rest.same ∙ sym (then_assoc rule w (judged later behind));
      }

  -- a node behind which nothing is due
  pub last_turn : (task : Task) (node : Node) (v : Verdict) → IsClean (due_of task) → follow first_style P task node ≡ [] → rule_at P cuts heads task node ≡ v → IsTurn (task ∷ []) (node ∷ []) v
  last_turn task node v clean none is =
      same_turn (task ∷ []) (node ∷ []) (rule_at P cuts heads task node then (Fine 0)) v (then_none (rule_at P cuts heads task node) ∙ is)
      (node_turn task node [] (Fine 0) clean (subst (λ ts. IsTurn ts [] (Fine 0)) (sym none) no_turn))

  -- what is known of the first node, since it fits
  pub known_turn : (task : Task) (node : Node) (ns : List Node) (v : Verdict) → (FitsAt P (due_of task) node → IsTurn (task ∷ []) (node ∷ ns) v) → IsTurn (task ∷ []) (node ∷ ns) v
  known_turn task node ns v turn dues later behind fit = turn fit.0 dues later behind fit

  -- ---- ranges

  last_before : {A : Type 0} (parts : List A) → (length parts == 0) ≡ is_last_before parts
  last_before [] = refl
  last_before (part ∷ others) = by (suc (length others) == 0) refl
    where
      by : (t : Bool) → (suc (length others) == 0) ≡ t → t ≡ false
      by true e = grind (arith, nat_tests)
      by false e = refl

  kind_clean : (kind : Kind) (depth : ℕ) → IsClean (due_below kind depth)
  kind_clean (Policies value) depth = tt
  kind_clean EmptyTrees depth = tt
  kind_clean (Refutations G) depth = tt

  module _ {A : Type 0} (cover : Covering) (range_of : A → Range) (nodes : A → List Node) (part_nodes : A → List Node) (judge : A → Verdict)
      (is_part : (a : A) → part_nodes a ≡ Part (range_of a) ∷ nodes a) (turn : (a : A) → IsTurn (below cover (range_of a) ∷ []) (nodes a) (judge a)) where
    pub parts_turn : (next : ℤ) (all : List A) → IsTurn (ranges cover (length all) next) (in_turn (map part_nodes all)) (judge_each range_of judge next cover.high all)
    parts_turn next [] = no_turn
    parts_turn next (a ∷ all) =
        let range = range_of a in
        let again = range.high +ℤ pos 1 in
        let task = Ranges cover (length all) next in
        let rest = in_turn (map part_nodes all) in
        let w = judge_each range_of judge again cover.high all in
        let behind = both_turn (below cover range ∷ []) (ranges cover (length all) again) (nodes a) rest (judge a) w (turn a) (parts_turn again all) in
        let whole = node_turn task (Part range) (nodes a ++ rest) (judge a then w) (kind_clean cover.kind (cover.var + 1)) behind in
        nodes_turn (task ∷ []) (Part range ∷ (nodes a ++ rest)) (part_nodes a ++ rest) (judge_each range_of judge next cover.high (a ∷ all)) (ap (λ first. first ++ rest) (sym (is_part a)))
        (same_turn (task ∷ []) (Part range ∷ (nodes a ++ rest)) (line broken.Cover (Ok (follows_on next cover.high (length all == 0) range)) then (judge a then w)) (judge_each range_of judge next cover.high (a ∷ all))
        (ap (λ (t : Bool). line broken.Cover (Ok (follows_on next cover.high t range)) then (judge a then w)) (last_before all)) whole)
