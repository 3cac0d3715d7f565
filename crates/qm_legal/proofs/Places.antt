-- How the search goes from place to place.
use Rattle.std.proofs.Common.{◌≡◌, refl, sym, ap, subst, ◌∙◌, ℕ, zero, suc, ◌+◌, ◌<◌, ◌≤◌, List, [], ◌∷◌, ◌++◌, length, take, drop, set, map, All, arith, ℤ, pos, ◌+ℤ◌, ◌-ℤ◌, ◌≤ℤ◌, Option, Some, None, Ok, Err}
use Rattle.std.specs.Prelude.{slice_set, Result, IfOk}
use Rattle.std.proofs.lemmas.Int.{ints}
use Rattle.std.proofs.lemmas.List.{length-drop, take_all, take-take, take-set-le, map-append}
use Rattle.std.proofs.lemmas.List.Elements.{All-push}
use Rattle.qm_model.specs.declared.range.Range.{Range}
use Rattle.qm_model.specs.declared.variable.Player.{Player}
use Rattle.qm_model.specs.declared.variable.Player.TheVariants.{Exists}
use Rattle.qm_model.specs.declared.variable.Var.{Var}
use Rattle.qm_model.specs.declared.game.Problem.{Problem}
use Rattle.qm_model.specs.Boxes.{FollowOn, IsDead}
use Rattle.qm_model.specs.Plays.{whole_vars}
use Rattle.qm_game.specs.First.{HasNone}
use Rattle.qm_game.proofs.NextVariables.{next_in_box}
use Rattle.qm_trees.specs.declared.empty.Empty.{Empty}
use Rattle.qm_trees.specs.declared.empty.EmptyPart.{EmptyPart}
use Rattle.qm_trees.specs.EmptyJudgement.{range_of, below_of}
use Rattle.qm_model.specs.Ranges.{range_at, single}
use Rattle.qm_legal.specs.Queries.{AreSet, Shows}
use Rattle.qm_legal.specs.SearchSteps.{IsAliveBox, IsCompleted, IsFound, IsOneOf, IsPart, SetsNext}
use Rattle.qm_legal.proofs.Boxes.{one_inside, set_in_box}
use Rattle.qm_legal.proofs.RightTrees.{earlier}

-- ---- the universal variables that are set

-- one range more, of one value
set_next : (xs : List Var) (depth : ℕ) (bx : List Range) (r : Range) → r.low ≡ r.high → depth < length bx → AreSet (take depth xs) bx → AreSet (take (suc depth) xs) (set bx depth r)
set_next [] zero bx r single below h = tt
set_next (y ∷ xs) zero [] r single below h = absurd (omega (arith, below))
set_next (y ∷ xs) zero (q ∷ bx) r single below h = ((λ universal. single), tt)
set_next [] (suc depth) bx r single below h = tt
set_next (y ∷ xs) (suc depth) [] r single below h = absurd (omega (arith, below))
set_next (y ∷ xs) (suc depth) (q ∷ bx) r single below h = (h.0, set_next xs depth bx r single (omega (arith, below)) h.1)

-- one variable more, which the other player sets
set_other : (xs : List Var) (depth : ℕ) (bx : List Range) → SetsNext Exists (drop depth xs) → depth < length bx → AreSet (take depth xs) bx → AreSet (take (suc depth) xs) bx
set_other [] zero bx other below h = tt
set_other (y ∷ xs) zero [] other below h = absurd (omega (arith, below))
set_other (y ∷ xs) zero (q ∷ bx) other below h = ((λ universal. cc), tt)
set_other [] (suc depth) bx other below h = tt
set_other (y ∷ xs) (suc depth) [] other below h = absurd (omega (arith, below))
set_other (y ∷ xs) (suc depth) (q ∷ bx) other below h = (h.0, set_other xs depth bx other (omega (arith, below)) h.1)

-- ---- places

pub some_next : (player : Player) (rest : List Var) → SetsNext player rest → 0 < length rest
some_next player [] sets = absurd sets
some_next player (x ∷ later) sets = omega arith

pub sets_next : (player : Player) (rest : List Var) (x : Var) (later : List Var) → rest ≡ x ∷ later → x.player ≡ player → SetsNext player rest
sets_next player rest x later is sets = rw is sets

module _ (P : Problem) (depth : ℕ) (bx : List Range) (rest : List Var) (from_depth : rest ≡ drop depth (whole_vars P)) where
  -- where no variable is left
  pub completed_at_end : length rest ≡ 0 → IsAliveBox P depth bx → IsCompleted P depth bx bx
  completed_at_end none here =
      let count = ap length from_depth in
      let short : length (whole_vars P) ≤ depth = omega (arith, none, count, length-drop depth (whole_vars P)) in
      record {
        box = here.box;
        set = subst (λ xs. AreSet xs bx) (take_all depth (whole_vars P) short) here.set;
        alive = here.alive;
        same = refl;
      }

  up : suc depth ≡ depth + 1
  up = omega arith

  -- behind a variable of the other player
  pub alive_behind : SetsNext Exists rest → IsAliveBox P depth bx → IsAliveBox P (depth + 1) bx
  alive_behind other here =
      let below = next_in_box P rest depth bx from_depth (some_next Exists rest other) here.box in
      record {
        box = here.box;
        set = subst (λ n. AreSet (take n (whole_vars P)) bx) up (set_other (whole_vars P) depth bx (subst (SetsNext Exists) from_depth other) below here.set);
        alive = here.alive;
      }

  -- behind a value
  pub alive_behind_value : 0 < length rest → (r : Range) → IsOneOf (range_at bx depth) r → HasNone (IsDead (set bx depth r)) P.urows → IsAliveBox P depth bx → IsAliveBox P (depth + 1) (set bx depth r)
  alive_behind_value some r one alive here = record {
    box = set_in_box P.vars bx depth r here.box (one_inside (range_at bx depth) r one);
    set = subst (λ n. AreSet (take n (whole_vars P)) (set bx depth r)) up (set_next (whole_vars P) depth bx r one.single (next_in_box P rest depth bx from_depth some here.box) here.set);
    alive = alive;
  }

module _ (P : Problem) (depth : ℕ) (bx : List Range) where
  take_less : (after other : List Range) → take (depth + 1) after ≡ take (depth + 1) other → take depth after ≡ take depth other
  take_less after other e =
      sym (take-take depth (depth + 1) after (omega arith)) ∙ ap (take depth) e ∙ take-take depth (depth + 1) other (omega arith)

  -- what is completed behind a variable is completed before it
  pub completed_behind : (after : List Range) → IsCompleted P (depth + 1) bx after → IsCompleted P depth bx after
  completed_behind after h = record { box = h.box; set = h.set; alive = h.alive; same = take_less after bx h.same }

  pub completed_behind_value : (r : Range) (after : List Range) → IsCompleted P (depth + 1) (set bx depth r) after → IsCompleted P depth bx after
  completed_behind_value r after h = record { box = h.box; set = h.set; alive = h.alive; same = take_less after (set bx depth r) h.same ∙ take-set-le depth bx depth r (omega arith) }

  -- what is found behind a variable of the other player
  found_behind : (rest : List Var) → 0 < length rest → (after : List Range) (found : Option Empty) → IsFound P (drop 1 rest) (depth + 1) bx after found → IsFound P rest depth bx after found
  found_behind [] some after found h = absurd (omega (arith, some))
  found_behind (x ∷ later) some after (Some tree) h = (earlier P bx tree x later depth h.0, h.1)
  found_behind (x ∷ later) some after None h = completed_behind after h

  -- the same of an answer that may lack memory
  pub found_behind_if : {E : Type 0} (rest : List Var) → 0 < length rest → (after : List Range) (answer : Result (Option Empty) E)
      → IfOk answer (IsFound P (drop 1 rest) (depth + 1) bx after) → IfOk answer (IsFound P rest depth bx after)
  found_behind_if rest some after (Ok found) h = found_behind rest some after found h
  found_behind_if rest some after (Err e) h = h

-- ---- parts

-- The parts' ranges follow on from the low end to before `next`, and each tree shows that no play is left below.
pub record Reached (P : Problem) (later : List Var) (depth : ℕ) (bx : List Range) (covered : Range) (next : ℤ) (parts : List EmptyPart) : Type 0 where
  pub from : covered.low ≤ℤ next
  pub follow : FollowOn covered.low (next -ℤ pos 1) (map range_of parts)
  pub to : (map range_of parts ≡ [] → ⊥) → next ≤ℤ (covered.high +ℤ pos 1)
  pub below : All (λ part. Shows P later (depth + 1) (slice_set bx depth (range_of part)) (below_of part)) parts

follow_push : (low high : ℤ) (rs : List Range) (r : Range) → FollowOn low high rs → r.low ≡ high +ℤ pos 1 → r.low ≤ℤ r.high → FollowOn low r.high (rs ++ r ∷ [])
follow_push low high [] r e is some = (is ∙ sym e, omega (arith, ints, e, is, some), refl)
follow_push low high (q ∷ rs) r h is some = (h.0, h.1, follow_push (q.high +ℤ pos 1) high rs r h.2 is some)

minus_plus_one : (n : ℤ) → n ≡ (n -ℤ pos 1) +ℤ pos 1
minus_plus_one n = omega (arith, ints)

plus_minus_one : (n : ℤ) → n ≡ (n +ℤ pos 1) -ℤ pos 1
plus_minus_one n = omega (arith, ints)

module _ (P : Problem) (later : List Var) (depth : ℕ) (bx : List Range) where
  -- none yet
  pub reached_none : (covered : Range) → Reached P later depth bx covered covered.low []
  reached_none covered = record {
    from = omega (arith, ints);
    follow = minus_plus_one covered.low;
    to = λ some. absurd (some refl);
    below = λ k d h. absurd (omega (arith, h));
  }

  -- a part of the next value on, as it was found
  pub record Part (covered : Range) (next : ℤ) (part : EmptyPart) : Type 0 where
    pub low : (range_of part).low ≡ next
    pub some : next ≤ℤ (range_of part).high
    pub high : (range_of part).high ≤ℤ covered.high
    pub below : Shows P later (depth + 1) (slice_set bx depth (range_of part)) (below_of part)

  pub part_from : (before : List Range) (covered run : Range) (next last : ℤ) (part : EmptyPart) → before ≡ bx → last ≡ covered.high → run ≡ single next
      → IsPart P later depth before run.low last part → Part covered next part
  part_from before covered run next last part same is run_is here =
      let at_next = rw (same, run_is) at here in
      record { low = at_next.low; some = at_next.some; high = rw is at at_next.high; below = at_next.below }

  -- one part more
  pub reached_more : (covered : Range) (next : ℤ) (parts pushed : List EmptyPart) (part : EmptyPart) → Reached P later depth bx covered next parts
      → Part covered next part → pushed ≡ parts ++ part ∷ [] → Reached P later depth bx covered ((range_of part).high +ℤ pos 1) pushed
  reached_more covered next parts pushed part reached here push = record {
    from = omega (arith, ints, reached.from, here.some);
    follow =
        let low : (range_of part).low ≡ (next -ℤ pos 1) +ℤ pos 1 = here.low ∙ minus_plus_one next in
        let some : (range_of part).low ≤ℤ (range_of part).high = rw here.low here.some in
        let on = follow_push covered.low (next -ℤ pos 1) (map range_of parts) (range_of part) reached.follow low some in
        let lists : map range_of pushed ≡ map range_of parts ++ range_of part ∷ [] = ap (map range_of) push ∙ map-append range_of parts (part ∷ []) in
        subst (λ n. FollowOn covered.low n (map range_of pushed)) (plus_minus_one (range_of part).high) (subst (FollowOn covered.low (range_of part).high) (sym lists) on);
    to = λ some. omega (arith, ints, here.high);
    below = subst (All (λ part. Shows P later (depth + 1) (slice_set bx depth (range_of part)) (below_of part))) (sym push)
        (All-push (λ part. Shows P later (depth + 1) (slice_set bx depth (range_of part)) (below_of part)) parts part reached.below here.below);
  }
