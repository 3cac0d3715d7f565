-- What the list of what is due stands for, as it grows and shrinks at its end.
use Rattle.std.proofs.Common.{◌≡◌, ℕ, ◌<◌, ◌≤ℤ◌, List, [], ◌∷◌, ◌++◌, length, set, reverse, sym, ap, ◌∙◌, subst, arith, ℤ, pos}
use Rattle.std.proofs.lemmas.Int.{ints}
use Rattle.std.proofs.lemmas.List.{reverse-append, set-set, set-get_or, length-set}
use Rattle.qm_model.specs.declared.range.Range.{Range}
use Rattle.qm_model.specs.declared.variable.Var.{Var}
use Rattle.qm_model.specs.declared.game.Problem.{Problem}
use Rattle.qm_model.specs.Boxes.{IsInside}
use Rattle.qm_model.specs.Ranges.{range_at, single}
use Rattle.qm_certread.specs.Tasks.{parts, ranges}
use Rattle.qm_check.specs.declared.due.Due.{Due}
use Rattle.qm_check.specs.declared.due.Due.TheVariants as due
use Rattle.qm_check.specs.declared.due.Kind.{Kind}
use Rattle.qm_check.specs.declared.due.Open.{Open}
use Rattle.qm_check.specs.declared.due.Tree.{Tree}
use Rattle.qm_check.specs.declared.walk.Walk.{Walk}
use Rattle.qm_check.specs.Walks.{CanAllGiveBack, CanGiveBack, IsWalk, covering_of, due_tasks, given_back, kind_of, tasks_from, tasks_of, tree_task}
use Rattle.qm_check.proofs.Boxes.{box_narrowed}

last_first : (dues : List Due) (d : Due) → reverse (dues ++ d ∷ []) ≡ d ∷ reverse dues
last_first dues d = reverse-append dues (d ∷ [])

-- ---- one more that is due

pub tasks_pushed : (dues more : List Due) (d : Due) (bx : List Range) → more ≡ dues ++ d ∷ [] → tasks_from (reverse more) bx ≡ due_tasks d (given_back d bx) ++ tasks_from (reverse dues) (given_back d bx)
tasks_pushed dues more d bx is = ap (λ ds. tasks_from (reverse ds) bx) is ∙ ap (λ ds. tasks_from ds bx) (last_first dues d)

pub gives_pushed : (xs : List Var) (dues more : List Due) (d : Due) (bx : List Range) → more ≡ dues ++ d ∷ [] → CanGiveBack xs d bx → CanAllGiveBack xs (reverse dues) (given_back d bx)
    → CanAllGiveBack xs (reverse more) bx
gives_pushed xs dues more d bx is this others =
    let both : CanAllGiveBack xs (d ∷ reverse dues) bx = (this, others) in
    subst (λ ds. CanAllGiveBack xs ds bx) (sym (ap reverse is ∙ last_first dues d)) both

pub gives_popped : (xs : List Var) (dues more : List Due) (d : Due) (bx : List Range) → more ≡ dues ++ d ∷ [] → CanAllGiveBack xs (reverse more) bx
    → CanGiveBack xs d bx × CanAllGiveBack xs (reverse dues) (given_back d bx)
gives_popped xs dues more d bx is all =
    let both : CanAllGiveBack xs (d ∷ reverse dues) bx = subst (λ ds. CanAllGiveBack xs ds bx) (ap reverse is ∙ last_first dues d) all in both

-- ---- a tree that is due

pub tree_pushed : (old new : Walk) (tree : Tree) → new.due ≡ old.due ++ due.Tree tree ∷ [] → new.bx ≡ old.bx → tasks_of new ≡ tree_task tree old.bx ∷ tasks_of old
tree_pushed old new tree dues bx = tasks_pushed old.due new.due (due.Tree tree) new.bx dues ∙ ap (λ b. tree_task tree b ∷ tasks_from (reverse old.due) b) bx

pub tree_stays : (old new : Walk) (tree : Tree) (P : Problem) → new.due ≡ old.due ++ due.Tree tree ∷ [] → new.bx ≡ old.bx → IsWalk P old → IsWalk P new
tree_stays old new tree P dues bx is = record {
  box = rw bx is.box;
  nodes = gives_pushed P.vars old.due new.due (due.Tree tree) new.bx dues tt (rw bx is.nodes);
}

-- ---- a node that is opened

module _ (bx : List Range) (var : ℕ) (r : Range) where
  put_back : set (set bx var r) var (range_at bx var) ≡ bx
  put_back = set-set bx var r (range_at bx var) ∙ set-get_or bx var (single (pos 0))

module _ (old new : Walk) (node : Open) (covered : node.covered ≡ range_at old.bx node.var) where
  stays_same : set old.bx node.var node.covered ≡ old.bx
  stays_same = ap (set old.bx node.var) covered ∙ set-get_or old.bx node.var (single (pos 0))

  -- its ranges are due
  pub node_pushed : new.due ≡ old.due ++ due.Open node ∷ [] → new.bx ≡ old.bx → tasks_of new ≡ ranges (covering_of node old.bx) node.left node.next ++ tasks_of old
  node_pushed dues bx =
      tasks_pushed old.due new.due (due.Open node) new.bx dues
      ∙ ap (λ b. ranges (covering_of node b) node.left node.next ++ tasks_from (reverse old.due) b) (ap (λ b. set b node.var node.covered) bx ∙ stays_same)

  pub node_stays : (P : Problem) → node.var < length old.bx → node.covered.low ≤ℤ node.next → new.due ≡ old.due ++ due.Open node ∷ [] → new.bx ≡ old.bx → IsWalk P old → IsWalk P new
  node_stays P inside next dues bx is =
      let same : set new.bx node.var node.covered ≡ old.bx = ap (λ b. set b node.var node.covered) bx ∙ stays_same in
      record {
        box = rw bx is.box;
        nodes = gives_pushed P.vars old.due new.due (due.Open node) new.bx dues (rw bx inside, next, rw same is.box) (rw same is.nodes);
      }

  module _ (mid : List Due) (tree : Tree) (range : Range) (first : mid ≡ old.due ++ due.Open node ∷ []) (second : new.due ≡ mid ++ due.Tree tree ∷ []) (put : new.bx ≡ set old.bx node.var range) where
    back : set new.bx node.var node.covered ≡ old.bx
    back = ap (λ b. set b node.var node.covered) put ∙ ap (set (set old.bx node.var range) node.var) covered ∙ put_back old.bx node.var range

    -- the tree in its range, and then the others
    pub entered : tasks_of new ≡ tree_task tree (set old.bx node.var range) ∷ ranges (covering_of node old.bx) node.left node.next ++ tasks_of old
    entered =
        tasks_pushed mid new.due (due.Tree tree) new.bx second
        ∙ ap (λ ts. tree_task tree new.bx ∷ ts) (tasks_pushed old.due mid (due.Open node) new.bx first ∙ ap (λ b. ranges (covering_of node b) node.left node.next ++ tasks_from (reverse old.due) b) back)
        ∙ ap (λ b. tree_task tree b ∷ ranges (covering_of node old.bx) node.left node.next ++ tasks_of old) put

    pub entered_stays : (P : Problem) → node.var < length old.bx → node.covered.low ≤ℤ node.next → IsInside range node.covered → IsWalk P old → IsWalk P new
    entered_stays P inside next within is = record {
      box = rw put (box_narrowed P.vars old.bx node.var range is.box (rw (sym covered) within));
      nodes =
          gives_pushed P.vars mid new.due (due.Tree tree) new.bx second tt
          (gives_pushed P.vars old.due mid (due.Open node) new.bx first (rw (put, length-set) inside, next, rw back is.box) (rw back is.nodes));
    }

-- ---- a node whose ranges are all to come

module _ (old new : Walk) (kind : Kind) (var count : ℕ) (covered : Range) (next : ℤ) (is : covered ≡ range_at old.bx var) (begins : next ≡ covered.low)
    (dues : new.due ≡ old.due ++ due.Open (record { kind = kind; var = var; covered = covered; left = count; next = next }) ∷ []) (bx : new.bx ≡ old.bx) where
  abbrev whole_node : Open
  whole_node = record { kind = kind; var = var; covered = covered; left = count; next = next }

  pub parted : tasks_of new ≡ parts (kind_of kind) var old.bx count ++ tasks_of old
  parted =
      node_pushed old new whole_node is dues bx
      ∙ ap (λ z. ranges (covering_of whole_node old.bx) count z ++ tasks_of old) begins
      ∙ ap (λ (r : Range). ranges (record { kind = kind_of kind; var = var; high = r.high; box = old.bx }) count r.low ++ tasks_of old) is

  pub parted_stays : (P : Problem) → var < length old.bx → IsWalk P old → IsWalk P new
  parted_stays P inside walk = node_stays old new whole_node is P inside (omega (arith, ints, begins)) dues bx walk
