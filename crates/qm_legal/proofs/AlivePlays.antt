-- The values that are set in a box are values of the first universal variables, whose own box is alive where this one is.
use Rattle.std.proofs.Common.{◌≡◌, refl, sym, ap, subst, ◌∙◌, ℕ, zero, suc, ◌<◌, Bool, true, false, List, [], ◌∷◌, ◌++◌, length, get_or, take, drop, All, arith, ℤ, pos, ◌<ℤ◌}
use Rattle.std.specs.Prelude.{filter, if◌then◌else◌}
use Rattle.std.proofs.Math.IntN.{zero-*ℤ}
use Rattle.std.proofs.lemmas.Int.{ints}
use Rattle.std.proofs.lemmas.List.{take-append-drop}
use Rattle.qm_math.specs.Ranges.{least_product}
use Rattle.qm_math.proofs.Sums.{sum_of_each-same}
use Rattle.qm_model.specs.declared.range.Range.{Range}
use Rattle.qm_model.specs.declared.row.Row.{Row}
use Rattle.qm_model.specs.declared.row.Term.{Term}
use Rattle.qm_model.specs.declared.variable.Var.{Var}
use Rattle.qm_model.specs.declared.game.Problem.{Problem}
use Rattle.qm_model.specs.Boxes.{IsBox, bounds_of, least_value, whole_box_of}
use Rattle.qm_model.specs.Linear.{HasVarsBelow}
use Rattle.qm_model.specs.Plays.{BeginWithin, is_universal, whole_vars}
use Rattle.qm_model.specs.Ranges.{single}
use Rattle.qm_model.specs.Sound.{IsOverUniversal, IsRowOver, IsSound}
use Rattle.qm_model.proofs.BoxLaws.{IsBox-length}
use Rattle.qm_model.proofs.Forms.{sum_over-each}
use Rattle.qm_model.proofs.Players.{by_player, is_for_all, not_universal, universal_of}
use Rattle.qm_model.proofs.UncertaintyRows.{IsUniversalAt, universal_at_take, universal_is_whole}
use Rattle.qm_journal.specs.Lawful.{IsAlivePlay, play_box}
use Rattle.qm_legal.specs.Queries.{AreFree, AreSet, set_values}
use Rattle.qm_legal.specs.JournalSteps.{IsOpenBox}
use Rattle.qm_legal.proofs.Lows.{lows}
use Rattle.qm_legal.proofs.OpenBoxes.{free_of_open}

-- ---- the box of values of the first universal variables

play_box-none : (xs : List Var) → play_box xs [] ≡ whole_box_of xs
play_box-none [] = refl
play_box-none (x ∷ xs) = refl

play_box-other : (x : Var) (xs : List Var) (us : List ℤ) → is_universal x ≡ false → play_box (x ∷ xs) us ≡ bounds_of x ∷ play_box xs us
play_box-other x xs [] e = ap (λ bx. bounds_of x ∷ bx) (sym (play_box-none xs))
play_box-other x xs (u ∷ us) e = rw e refl

play_box-here : (x : Var) (xs : List Var) (u : ℤ) (us : List ℤ) → is_universal x ≡ true → play_box (x ∷ xs) (u ∷ us) ≡ single u ∷ play_box xs us
play_box-here x xs u us e = rw e refl

length-bounds : (xs : List Var) → length (whole_box_of xs) ≡ length xs
length-bounds [] = refl
length-bounds (x ∷ xs) = ap suc (length-bounds xs)

length-play_box : (xs : List Var) (us : List ℤ) → length (play_box xs us) ≡ length xs
length-play_box [] [] = refl
length-play_box [] (u ∷ us) = refl
length-play_box (x ∷ xs) [] = ap suc (length-bounds xs)
length-play_box (x ∷ xs) (u ∷ us) = by (is_universal x) (length-play_box xs us) (length-play_box xs (u ∷ us))
  where
    by : (b : Bool) → length (play_box xs us) ≡ length xs → length (play_box xs (u ∷ us)) ≡ length xs
        → length (if b then single u ∷ play_box xs us else bounds_of x ∷ play_box xs (u ∷ us)) ≡ suc (length xs)
    by true taken skipped = ap suc taken
    by false taken skipped = ap suc skipped

-- ---- it has each universal variable's range of the box in which they are set

at_free : (xs more : List Var) (bx : List Range) (i : ℕ) (d : Range) → AreFree xs bx → IsUniversalAt xs i → get_or (whole_box_of (xs ++ more)) i d ≡ get_or bx i d
at_free [] more bx i d free at = absurd at
at_free (x ∷ xs) more [] i d free at = absurd free
at_free (x ∷ xs) more (r ∷ bx) zero d free at = sym (free.0 (universal_of x at))
at_free (x ∷ xs) more (r ∷ bx) (suc i) d free at = at_free xs more bx i d free.1 at

single_is : (r : Range) → r.low ≡ r.high → single r.low ≡ r
single_is r e = ap (λ v. record { low = r.low; high = v }) e

at_play : (xs more : List Var) (depth : ℕ) (bx : List Range) (i : ℕ) (d : Range) → AreSet (take depth xs) bx → AreFree (drop depth xs) (drop depth bx) → IsUniversalAt xs i
    → get_or (play_box (xs ++ more) (lows (take depth xs) bx)) i d ≡ get_or bx i d
at_play [] more depth bx i d set free at = absurd at
at_play (x ∷ xs) more zero bx i d set free at = at_free (x ∷ xs) more bx i d free at
at_play (x ∷ xs) more (suc depth) [] i d set free at = absurd set
at_play (x ∷ xs) more (suc depth) (r ∷ bx) zero d set free at =
    let universal = universal_of x at in
    rw at (ap (λ b. get_or b 0 d) (play_box-here x (xs ++ more) r.low (lows (take depth xs) bx) at) ∙ single_is r (set.0 universal))
at_play (x ∷ xs) more (suc depth) (r ∷ bx) (suc i) d set free at =
    by (is_universal x) refl (at_play xs more depth bx i d set.1 free at)
  where
    by : (b : Bool) → is_universal x ≡ b → get_or (play_box (xs ++ more) (lows (take depth xs) bx)) i d ≡ get_or bx i d
        → get_or (play_box (x ∷ (xs ++ more)) (lows (x ∷ take depth xs) (r ∷ bx))) (suc i) d ≡ get_or bx i d
    by true e later = rw e (ap (λ b. get_or b (suc i) d) (play_box-here x (xs ++ more) r.low (lows (take depth xs) bx) e) ∙ later)
    by false e later = rw e (ap (λ b. get_or b (suc i) d) (play_box-other x (xs ++ more) (lows (take depth xs) bx) e) ∙ later)

-- ---- so rows over universal variables are as dead over it

module _ (xs : List Var) (A B : List Range) (long : length A ≡ length xs) (same_long : length B ≡ length xs) (same : (i : ℕ) (d : Range) → IsUniversalAt xs i → get_or A i d ≡ get_or B i d) where
  least_same : (row : Row) → IsRowOver xs row → All (IsOverUniversal xs) row.terms → least_value row.terms A ≡ least_value row.terms B
  least_same row over universal =
      let ts = row.terms in
      let d = single (pos 0) in
      let below_a : HasVarsBelow (length A) ts = rw long over.vars in
      let below_b : HasVarsBelow (length B) ts = rw same_long over.vars in
      let one : (k : ℕ) (e : Term) → k < length ts → least_product (get_or ts k e).coef (get_or A (get_or ts k e).var d).low (get_or A (get_or ts k e).var d).high ≡ least_product (get_or ts k e).coef (get_or B (get_or ts k e).var d).low (get_or B (get_or ts k e).var d).high =
      (λ k e h. ap (λ (q : Range). least_product (get_or ts k e).coef q.low q.high) (same (get_or ts k e).var d (universal k e h))) in
      sum_over-each (λ k (q : Range). least_product k q.low q.high) d (λ q. zero-*ℤ q.low) ts A over.ordered below_a
      ∙ sum_of_each-same (λ (t : Term). least_product t.coef (get_or A t.var d).low (get_or A t.var d).high) (λ (t : Term). least_product t.coef (get_or B t.var d).low (get_or B t.var d).high) ts one
      ∙ sym (sum_over-each (λ k (q : Range). least_product k q.low q.high) d (λ q. zero-*ℤ q.low) ts B over.ordered below_b)

-- ---- and they are within the bounds

lows_begin : (xs more : List Var) (depth : ℕ) (bx : List Range) → AreSet (take depth xs) bx → IsBox (xs ++ more) bx → BeginWithin (filter is_universal xs) (lows (take depth xs) bx)
lows_begin xs more zero bx set box = tt
lows_begin [] more (suc depth) bx set box = tt
lows_begin (x ∷ xs) more (suc depth) [] set box = absurd set
lows_begin (x ∷ xs) more (suc depth) (r ∷ bx) set box =
    by_player x (BeginWithin (filter is_universal (x ∷ xs)) (lows (x ∷ take depth xs) (r ∷ bx)))
    (λ existential. rw (not_universal x existential) (lows_begin xs more depth bx set.1 box.1))
    (λ universal. rw (is_for_all x universal) ((box.0.low, omega (arith, ints, set.0 universal, box.0.high)), lows_begin xs more depth bx set.1 box.1))

module _ (P : Problem) (sound : IsSound P) (depth : ℕ) (bx : List Range) where
  same_at : AreSet (take depth (whole_vars P)) bx → AreFree (drop depth (whole_vars P)) (drop depth bx) → (i : ℕ) (d : Range) → IsUniversalAt P.vars i
      → get_or (play_box P.vars (set_values P depth bx)) i d ≡ get_or bx i d
  same_at set free i d at =
      let whole = universal_at_take P.wholes P.vars i (universal_is_whole P.wholes P.vars i sound.continuous_last at) at in
      subst (λ xs. get_or (play_box xs (set_values P depth bx)) i d ≡ get_or bx i d) (take-append-drop P.wholes P.vars)
      (at_play (whole_vars P) (drop P.wholes P.vars) depth bx i d set free whole)

  pub alive_play : IsOpenBox P depth bx → IsAlivePlay P (set_values P depth bx)
  alive_play here =
      let box = here.alive.box in
      let free = free_of_open (drop depth (whole_vars P)) (drop depth bx) here.others in
      let same = least_same P.vars (play_box P.vars (set_values P depth bx)) bx (length-play_box P.vars (set_values P depth bx)) (IsBox-length P.vars bx box) (same_at here.alive.set free) in
      record {
        within = lows_begin (whole_vars P) (drop P.wholes P.vars) depth bx here.alive.set (subst (λ xs. IsBox xs bx) (sym (take-append-drop P.wholes P.vars)) box);
        urows = λ k d h dead. here.alive.alive k d h
            (subst (λ v. (get_or P.urows k d).right <ℤ v) (same (get_or P.urows k d) (sound.urows k d h) (sound.urows_universal k d h)) dead);
      }
