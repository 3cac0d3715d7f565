-- A right tree leaves no universal play in its box.
use Rattle.std.proofs.Common.{◌≡◌, ◌≢◌, refl, sym, ap, subst, ◌∙◌, ℕ, zero, suc, ◌+◌, ◌*◌, true, false, List, [], ◌∷◌, get_or, map, set, drop, All, arith, ℤ, pos, ◌*ℤ◌, Option, Some, None, inl, inr}
use Rattle.std.specs.Prelude.{◌⊎◌, ◌&&◌, IsTrue, slice_set, is_some}
use Rattle.std.specs.List.{cons_option}
use Rattle.std.specs.Option.{option_map}
use Rattle.std.proofs.lemmas.Bool.{and_parts}
use Rattle.std.proofs.Math.IntN.{zero-*ℤ}
use Rattle.std.proofs.lemmas.Int.{ints}
use Rattle.std.proofs.lemmas.List.{drop-drop}
use Rattle.std.proofs.lemmas.List.Elements.{All-cons, All-nil, All-head, All-tail}
use Rattle.std.proofs.lemmas.Option.{slice_get_within, get_or_from_slice_get}
use Rattle.qm_math.specs.Fraction.{Fraction, whole, IsAtMost, IsBelow}
use Rattle.qm_math.specs.Arithmetic.{sum_of, difference_of, product_of, negated}
use Rattle.qm_math.specs.Ends.{IsWithin as IsWithinEnds}
use Rattle.qm_math.specs.Over.{over}
use Rattle.qm_math.specs.Ranges.{IsBetween}
use Rattle.qm_math.proofs.Polynomials.{number, ◌⊕◌, minus}
use Rattle.qm_math.proofs.Ring.{x0, x1, x2, x3, x4}
use Rattle.qm_math.proofs.FractionLaws.{same_sym, whole_den}
use Rattle.qm_math.proofs.FractionOrder.{not_at_most_below, sum_of-at_most}
use Rattle.qm_math.proofs.FractionLinear.{at_most_given}
use Rattle.qm_math.proofs.Ends.{least_multiple-at_most}
use Rattle.qm_model.specs.declared.range.Range.{Range}
use Rattle.qm_model.specs.declared.row.Row.{Row}
use Rattle.qm_model.specs.declared.row.Term.{Term}
use Rattle.qm_model.specs.declared.row_id.RowId.{RowId}
use Rattle.qm_model.specs.declared.row_id.RowId.TheVariants as id
use Rattle.qm_model.specs.declared.variable.Player.TheVariants.{Exists, All as Universal}
use Rattle.qm_model.specs.declared.variable.Var.{Var}
use Rattle.qm_model.specs.declared.game.Problem.{Problem}
use Rattle.qm_model.specs.Linear.{coefficient}
use Rattle.qm_model.specs.Plays.{HoldsAt as HoldsInPlay, IsPlay, is_universal, spread, whole_vars}
use Rattle.qm_model.specs.Points.{HoldsOver}
use Rattle.qm_model.specs.Sound.{IsOverUniversal, IsSound}
use Rattle.qm_model.proofs.Forms.{coefficient-other}
use Rattle.qm_model.proofs.Players.{by_player, is_for_all, not_universal, universal_of}
use Rattle.qm_model.proofs.UncertaintyRows.{IsUniversalAt, spread-here, spread-other, universal_at_take, universal_is_whole}
use Rattle.qm_trees.specs.declared.combination.Entry.{Entry}
use Rattle.qm_trees.specs.declared.empty.Empty.{Empty, out-Empty}
use Rattle.qm_trees.specs.declared.empty.Empty.TheOpen as node
use Rattle.qm_trees.specs.Entries.{Combination, Weighted, row_named, weighted_rows, with_row}
use Rattle.qm_trees.specs.Evaluation.{right_side, combined_coefficient, least_form, least_combined, least_end_by}
use Rattle.qm_trees.specs.BoxPoints.{IsInBox, HoldsAt, form_of}
use Rattle.qm_trees.specs.Picks.{Fit}
use Rattle.qm_model.specs.Ranges.{range_at, single}
use Rattle.qm_trees.specs.Reaching.{HasValue}
use Rattle.qm_trees.specs.EmptyJudgement.{Layer, range_of, below_of, all_uncertain, is_uncertain}
use Rattle.qm_trees.specs.EmptyRight.{HasEmptyUniversal, IsRightClose, IsRightEnd, IsRightSplit, IsRightEmpty}
use Rattle.qm_trees.proofs.CombinationSound.{combined_coefficient_den, combined_right, combined_right_den, combined_row_at, combined_row_at_den, form_of-difference, form_of-nothing, form_of_den, least_combined_den, least_end_multiple, rows_at_most}
use Rattle.qm_trees.proofs.FoundParts.{Finds, cover_finds}
use Rattle.qm_trees.proofs.Multipliers.{entries_positive, weighted_dens, weighted_not_negative}
use Rattle.qm_trees.proofs.PickedPlays.{between_itself, fit_at, fit_next, fit_set, fit_skip, next_gives}
use Rattle.qm_trees.proofs.RowsOver.{HoldsAt-over}

-- ---- the least value of a form in which the universal variables alone have coefficients

-- a number is at most another over 1
ends_over : (r : Range) (u : ℤ) → IsBetween r.low r.high u → IsWithinEnds (whole r.low) (whole r.high) (over 1 u)
ends_over r u h = (omega (arith, ints, h.0), omega (arith, ints, h.1))

nothing_at_most : (k : Fraction) (e v : ℤ) → k.num ≡ pos 0 → IsAtMost (product_of k (whole e)) (product_of k (over 1 v))
unfolding product_of
nothing_at_most k e v none =
    let first : (k.num *ℤ e) ≡ pos 0 = ap (λ n. n *ℤ e) none ∙ zero-*ℤ e in
    let second : (k.num *ℤ v) ≡ pos 0 = ap (λ n. n *ℤ v) none ∙ zero-*ℤ v in
    rw (first, second, zero-*ℤ (pos (k.den * 1))) (omega (arith, ints))

nothing_more : (a b : Fraction) → a.num ≡ pos 0 → b.num ≡ pos 0 → (sum_of a b).num ≡ pos 0
unfolding sum_of
nothing_more a b e f = rw (e, f) (omega (arith, ints))

nothing_times : (k : Fraction) (e : ℤ) → k.num ≡ pos 0 → (product_of k (whole e)).num ≡ pos 0
unfolding product_of
nothing_times k e none = rw none (omega (arith, ints))

times_nothing : (k : Fraction) (e : ℤ) → e ≡ pos 0 → (product_of k (whole e)).num ≡ pos 0
unfolding product_of
times_nothing k e none = rw none (omega (arith, ints))

nothing_is_at_most : (a : Fraction) → a.num ≡ pos 0 → IsAtMost a (whole (pos 0))
nothing_is_at_most a e = rw e (omega (arith, ints))

-- no coefficient where the variable, counted from `var` on, isn't a universal one
abbrev NamesUniversal : (ℕ → Fraction) → ℕ → List Var → Type 0
NamesUniversal k var xs = (i : ℕ) → (IsUniversalAt xs i → ⊥) → (k (var + i)).num ≡ pos 0

names_later : (k : ℕ → Fraction) (var : ℕ) (x : Var) (xs : List Var) → NamesUniversal k var (x ∷ xs) → NamesUniversal k (suc var) xs
names_later k var x xs names i other =
    let same : var + suc i ≡ suc var + i = omega arith in
    subst (λ n. (k n).num ≡ pos 0) same (names (suc i) other)

module _ (k : ℕ → Fraction) where
  least_of_none : (var : ℕ) (bx : List Range) → NamesUniversal k var [] → (least_form k var bx).num ≡ pos 0
  least_of_none var [] names = refl
  least_of_none var (r ∷ bx) names =
      let same : var + 0 ≡ var = omega arith in
      let none : (k var).num ≡ pos 0 = subst (λ n. (k n).num ≡ pos 0) same (names 0 (λ h. h)) in
      let later : NamesUniversal k (suc var) [] = λ i other. (let more : var + suc i ≡ suc var + i = omega arith in subst (λ n. (k n).num ≡ pos 0) more (names (suc i) other)) in
      nothing_more (product_of (k var) (whole (least_end_by (k var).num r))) (least_form k (suc var) bx) (nothing_times (k var) (least_end_by (k var).num r) none)
      (least_of_none (suc var) bx later)

  -- at a universal variable, whose value lies in the range, and at another one
  least_here : (var : ℕ) (r : Range) (bx : List Range) (u : ℤ) (vs : List ℤ) → IsBetween r.low r.high u → IsAtMost (least_form k (suc var) bx) (form_of k (suc var) (map (over 1) vs))
      → IsAtMost (least_form k var (r ∷ bx)) (form_of k var (map (over 1) (u ∷ vs)))
  least_here var r bx u vs inside later =
      sum_of-at_most (product_of (k var) (whole (least_end_by (k var).num r))) (least_form k (suc var) bx) (product_of (k var) (over 1 u)) (form_of k (suc var) (map (over 1) vs))
      (subst (λ (e : Fraction). IsAtMost e (product_of (k var) (over 1 u))) (least_end_multiple (k var) r) (least_multiple-at_most (k var) (whole r.low) (whole r.high) (over 1 u) (ends_over r u inside)))
      later

  least_other : (var : ℕ) (r : Range) (bx : List Range) (vs : List ℤ) → (k var).num ≡ pos 0 → IsAtMost (least_form k (suc var) bx) (form_of k (suc var) (map (over 1) vs))
      → IsAtMost (least_form k var (r ∷ bx)) (form_of k var (map (over 1) (pos 0 ∷ vs)))
  least_other var r bx vs none later =
      sum_of-at_most (product_of (k var) (whole (least_end_by (k var).num r))) (least_form k (suc var) bx) (product_of (k var) (over 1 (pos 0))) (form_of k (suc var) (map (over 1) vs))
      (nothing_at_most (k var) (least_end_by (k var).num r) (pos 0) none) later

  least_fits : (xs : List Var) (var : ℕ) (bx : List Range) (us : List ℤ) → Fit xs bx us → NamesUniversal k var xs → IsAtMost (least_form k var bx) (form_of k var (map (over 1) (spread xs us)))
  least_fits [] var bx us fits names = nothing_is_at_most (least_form k var bx) (least_of_none var bx names)
  least_fits (x ∷ xs) var [] us fits names = absurd fits
  least_fits (x ∷ xs) var (r ∷ bx) us fits names =
      by_player x (IsAtMost (least_form k var (r ∷ bx)) (form_of k var (map (over 1) (spread (x ∷ xs) us))))
      (λ existential.
      let same : var + 0 ≡ var = omega arith in
      let none : (k var).num ≡ pos 0 = subst (λ n. (k n).num ≡ pos 0) same (names 0 (λ h. other existential h)) in
      rw (spread-other x xs us (not_universal x existential))
      (least_other var r bx (spread xs us) none (least_fits xs (suc var) bx us (fit_skip x xs r bx us existential fits) (names_later k var x xs names))))
      (λ universal. next_gives r us (Fit xs bx) (λ vs. IsAtMost (least_form k var (r ∷ bx)) (form_of k var (map (over 1) (spread (x ∷ xs) vs)))) (fit_next x xs r bx us universal fits)
      (λ u later inside others. rw (spread-here x xs u later (is_for_all x universal))
      (least_here var r bx u (spread xs later) inside (least_fits xs (suc var) bx later others (names_later k var x xs names)))))
    where
      other : x.player ≡ Exists → IsTrue (is_universal x) → ⊥
      other existential universal = let e = not_universal x existential in cc

-- ---- uncertainty rows alone

-- what holds of each uncertainty row holds of each row of a combination of such rows
module _ (P : Problem) (Q : Row → Type 0) (urows : All Q P.urows) where
  named_holds : (i : RowId) (row : Row) → is_uncertain i ≡ true → row_named P [] i ≡ Some row → Q row
  named_holds (id.Row n) row e at = cc
  named_holds (id.Uncertain n) row e at = subst Q (get_or_from_slice_get P.urows n row row at) (urows n row (slice_get_within P.urows n row at))
  named_holds (id.Cut n) row e at = cc

  put_holds : (e : Entry) (o : Option Row) (ws : List Weighted) → is_uncertain e.row ≡ true → row_named P [] e.row ≡ o → All (λ (w : Weighted). Q w.row) ws
      → All (λ (w : Weighted). Q w.row) (cons_option (option_map (with_row e.by) o) ws)
  put_holds e None ws uncertain at others = others
  put_holds e (Some row) ws uncertain at others = All-cons (λ (w : Weighted). Q w.row) (with_row e.by row) ws (named_holds e.row row uncertain at) others

  uncertain_hold : (es : List Entry) → all_uncertain P es ≡ true → All (λ (w : Weighted). Q w.row) (weighted_rows P [] es)
  uncertain_hold [] h = All-nil (λ (w : Weighted). Q w.row)
  uncertain_hold (e ∷ es) h =
      let parts = and_parts (is_uncertain e.row && is_some (row_named P [] e.row)) (all_uncertain P es) h in
      let here = and_parts (is_uncertain e.row) (is_some (row_named P [] e.row)) parts.0 in
      put_holds e (row_named P [] e.row) (weighted_rows P [] es) here.0 refl (uncertain_hold es parts.1)

-- terms that don't name a variable give it nothing
unnamed : (ts : List Term) (var : ℕ) → All (λ (t : Term). t.var ≢ var) ts → coefficient ts var ≡ pos 0
unnamed [] var h = refl
unnamed (t ∷ ts) var h =
    coefficient-other t ts var (All-head (λ (u : Term). u.var ≢ var) t ts h) ∙ unnamed ts var (All-tail (λ (u : Term). u.var ≢ var) t ts h)

-- a row over universal variables gives others nothing
over_universal : (xs : List Var) (ts : List Term) (var : ℕ) → All (IsOverUniversal xs) ts → (IsUniversalAt xs var → ⊥) → coefficient ts var ≡ pos 0
over_universal xs ts var universal other = unnamed ts var (λ i d h e. other (subst (IsUniversalAt xs) e (universal i d h)))

-- rows that give the variable nothing, combined
combined_nothing : (ws : List Weighted) (var : ℕ) → All (λ (w : Weighted). coefficient w.row.terms var ≡ pos 0) ws → (combined_row_at ws var).num ≡ pos 0
combined_nothing [] var h = refl
combined_nothing (w ∷ ws) var h =
    nothing_more (product_of w.by (whole (coefficient w.row.terms var))) (combined_row_at ws var)
    (times_nothing w.by (coefficient w.row.terms var) (All-head (λ (w : Weighted). coefficient w.row.terms var ≡ pos 0) w ws h))
    (combined_nothing ws var (All-tail (λ (w : Weighted). coefficient w.row.terms var ≡ pos 0) w ws h))

minus_nothing : (negated (whole (pos 0))).num ≡ pos 0
unfolding negated
minus_nothing = refl

no_less : (a : Fraction) → a.num ≡ pos 0 → (difference_of a (whole (pos 0))).num ≡ pos 0
no_less a e = nothing_more a (negated (whole (pos 0))) e minus_nothing

-- ---- a play in the box

-- each value in a range of its own
alone_in_box : (vs : List ℤ) → IsInBox (map single vs) (map (over 1) vs)
alone_in_box [] = tt
alone_in_box (v ∷ vs) = (omega arith, ends_over (single v) v (between_itself v), alone_in_box vs)

full_universal : (xs : List Var) (bx : List Range) (us : List ℤ) → Fit xs bx us → HasEmptyUniversal xs bx → ⊥
full_universal [] bx us fits empty = empty
full_universal (x ∷ xs) [] us fits empty = empty
full_universal (x ∷ xs) (r ∷ bx) us fits (inl here) =
    let universal = universal_of x here.0 in
    next_gives r us (Fit xs bx) (λ vs. ⊥) (fit_next x xs r bx us universal fits) (λ u later inside others. omega (arith, ints, inside.0, inside.1, here.1))
full_universal (x ∷ xs) (r ∷ bx) us fits (inr later) =
    by_player x ⊥
    (λ existential. full_universal xs bx us (fit_skip x xs r bx us existential fits) later)
    (λ universal. next_gives r us (Fit xs bx) (λ vs. ⊥) (fit_next x xs r bx us universal fits) (λ u rest inside others. full_universal xs bx rest others later))

module _ (P : Problem) (sound : IsSound P) (us : List ℤ) (rows : All (HoldsInPlay (spread (whole_vars P) us)) P.urows) where
  abbrev values : List ℤ
  values = spread (whole_vars P) us

  abbrev points : List Fraction
  points = map (over 1) values

  held : All (HoldsAt points) P.urows
  held = λ i d h.
      let row = get_or P.urows i d in
      let here : HoldsOver 1 values row = omega (arith, ints, rows i d h) in
      (HoldsAt-over 1 values row (omega arith)).1 here

  other_at : (var : ℕ) → (IsUniversalAt (whole_vars P) var → ⊥) → IsUniversalAt P.vars var → ⊥
  other_at var other universal = other (universal_at_take P.wholes P.vars var (universal_is_whole P.wholes P.vars var sound.continuous_last universal) universal)

  module _ (bx : List Range) (fits : Fit (whole_vars P) bx us) where
    not_closed : (combo : Combination) → IsRightClose P bx combo → ⊥
    not_closed combo right = by right.closes
      where
        ws : List Weighted
        ws = weighted_rows P [] combo.entries

        k : ℕ → Fraction
        k = combined_coefficient P false ws

        names : NamesUniversal k 0 (whole_vars P)
        names = λ i other.
            let same : i ≡ 0 + i = omega arith in
            subst (λ n. (k n).num ≡ pos 0) same
            (no_less (combined_row_at ws i)
            (combined_nothing ws i
            (uncertain_hold P (λ row. coefficient row.terms i ≡ pos 0)
            (λ n d h. over_universal P.vars (get_or P.urows n d).terms i (sound.urows_universal n d h) (other_at i other)) combo.entries right.named)))

        at_most : IsAtMost (least_combined P false ws bx) (right_side P false ws)
        at_most =
            let positive = entries_positive combo.entries right.well_formed.0 in
            let dens = weighted_dens P [] combo.entries positive in
            let around = map single values in
            let inside = alone_in_box values in
            let left = form_of k 0 points in
            let parts = form_of (combined_row_at ws) 0 points in
            let less = form_of (λ n. whole (pos 0)) 0 points in
            at_most_given (least_combined P false ws bx ∷ left ∷ parts ∷ less ∷ combined_right ws ∷ []) x0 (x4 ⊕ number (pos 0))
            ((number (pos 1), x1, x2 ⊕ minus x3) ∷ (number (pos 1), number (pos 0), x3) ∷ []) ((x0, x1) ∷ (x2, x4) ∷ []) (
              least_combined_den P false ws bx dens,
              (
                form_of_den k 0 around points (combined_coefficient_den P false ws dens) inside,
                (
                  form_of_den (combined_row_at ws) 0 around points (λ n. combined_row_at_den ws n dens) inside,
                  (form_of_den (λ n. whole (pos 0)) 0 around points (λ n. whole_den (pos 0)) inside, (combined_right_den ws dens, tt)),
                ),
              ),
            )
            (form_of-difference (combined_row_at ws) (λ n. whole (pos 0)) 0 points, (same_sym less (whole (pos 0)) (form_of-nothing 0 points), tt)) (
              least_fits k (whole_vars P) 0 bx us fits names,
              (rows_at_most around points ws inside dens (weighted_not_negative P [] combo.entries positive) (uncertain_hold P (HoldsAt points) held combo.entries right.named), tt),
            )
            refl

        by : (HasEmptyUniversal (whole_vars P) bx ⊎ IsBelow (right_side P false ws) (least_combined P false ws bx)) → ⊥
        by (inl empty) = full_universal (whole_vars P) bx us fits empty
        by (inr below) = not_at_most_below (least_combined P false ws bx) (right_side P false ws) at_most below

  -- ---- trees

  universal_here : (xs : List Var) (depth : ℕ) (x : Var) (later : List Var) → drop depth xs ≡ x ∷ later → x.player ≡ Universal → IsUniversalAt xs depth
  universal_here [] zero x later e universal = cc
  universal_here [] (suc depth) x later e universal = cc
  universal_here (y ∷ xs) zero x later e universal = let same : x ≡ y = cc in subst (λ z. IsTrue (is_universal z)) same (is_for_all x universal)
  universal_here (y ∷ xs) (suc depth) x later e universal = universal_here xs depth x later e universal

  no_play_end : (bx : List Range) (layer : Layer) → Fit (whole_vars P) bx us → IsRightEnd P bx layer → ⊥
  no_play_end bx (node.Close combo) fits right = not_closed bx fits combo right
  no_play_end bx (node.Split var parts) fits right = right

  no_play_split : (x : Var) (later : List Var) (depth : ℕ) (IsRight : List Range → Empty → Type 0) → drop depth (whole_vars P) ≡ x ∷ later
      → ((bx : List Range) (tree : Empty) → Fit (whole_vars P) bx us → IsRight bx tree → ⊥)
      → (bx : List Range) (tree : Empty) (layer : Layer) → Fit (whole_vars P) bx us → IsRightSplit P x depth IsRight bx tree layer → ⊥
  no_play_split x later depth IsRight next below bx tree (node.Close combo) fits right = not_closed bx fits combo right
  no_play_split x later depth IsRight next below bx tree (node.Split var parts) fits (inr right) = below bx tree fits right.1
  no_play_split x later depth IsRight next below bx tree (node.Split var parts) fits (inl right) =
      let u = get_or values depth (pos 0) in
      let has : HasValue (range_at bx depth) u = fit_at (whole_vars P) bx us depth (single (pos 0)) fits (universal_here (whole_vars P) depth x later next right.1) in
      by u (fit_set (whole_vars P) bx us depth) (cover_finds range_of (range_at bx depth) parts u right.2 has)
    where
      by : (u : ℤ) → ((r : Range) → Fit (whole_vars P) bx us → IsBetween r.low r.high u → Fit (whole_vars P) (set bx depth r) us) → Finds range_of parts u → ⊥
      by u narrowed (n, part, h, is, has) =
          let tree_right : IsRight (slice_set bx depth (range_of part)) (below_of part) = subst (λ p. IsRight (slice_set bx depth (range_of p)) (below_of p)) is (right.3 n part h) in
          below (slice_set bx depth (range_of part)) (below_of part) (narrowed (range_of part) fits has) tree_right

  no_play_from : (xs : List Var) (depth : ℕ) (bx : List Range) (tree : Empty) → drop depth (whole_vars P) ≡ xs → Fit (whole_vars P) bx us → IsRightEmpty P xs depth bx tree → ⊥
  no_play_from [] depth bx tree next fits right = no_play_end bx (out-Empty tree) fits right
  no_play_from (x ∷ xs) depth bx tree next fits right =
      let up : drop (depth + 1) (whole_vars P) ≡ xs =
      let same : depth + 1 ≡ 1 + depth = omega arith in
      sym (drop-drop 1 depth (whole_vars P)) ∙ ap (drop 1) next in
      no_play_split x xs depth (IsRightEmpty P xs (depth + 1)) next (λ b t fit is_right. no_play_from xs (depth + 1) b t up fit is_right) bx tree (out-Empty tree) fits right

-- no universal play has its values in the box of a right tree
pub no_play : (P : Problem) (bx : List Range) (tree : Empty) (us : List ℤ) → IsSound P → IsPlay P us → Fit (whole_vars P) bx us → IsRightEmpty P (whole_vars P) 0 bx tree → ⊥
no_play P bx tree us sound play fits right = no_play_from P sound us play.rows (whole_vars P) 0 bx tree refl fits right
