-- A right policy reaches its value on every universal play, and so wins.
use Rattle.std.proofs.Common.{◌≡◌, ℕ, zero, suc, ◌+◌, ◌<◌, ◌≤◌, Bool, List, [], ◌∷◌, ◌++◌, length, get_or, set, take, drop, refl, sym, ap, subst, ◌∙◌, ℤ, pos, arith}
use Rattle.std.specs.Prelude.{filter, slice_set, if◌then◌else◌}
use Rattle.std.specs.List.{AllZip}
use Rattle.std.proofs.Math.Seq.{set-append_seam, get_or-append_seam}
use Rattle.std.proofs.lemmas.Int.{ints}
use Rattle.std.proofs.lemmas.List.{length-append, length-take, take-append-drop, take_all, drop-drop, append_assoc, get_or_append_left}
use Rattle.std.proofs.lemmas.Slice.Zip.{AllZip-long}
use Rattle.qm_math.specs.Fraction.{Fraction}
use Rattle.qm_model.specs.declared.range.Range.{Range}
use Rattle.qm_model.specs.declared.variable.Player.TheVariants.{All as Universal}
use Rattle.qm_model.specs.declared.variable.Var.{Var}
use Rattle.qm_model.specs.declared.game.Problem.{Problem}
use Rattle.qm_model.specs.Boxes.{bounds_of, whole_box_of}
use Rattle.qm_model.specs.Goals.{Goal, AtLeast}
use Rattle.qm_model.specs.Legal.{IsLegal, universal_part}
use Rattle.qm_model.specs.Plays.{AreWithin, IsPlay, IsWithin, is_universal, universal_vars, whole_vars}
use Rattle.qm_model.specs.Points.{continuous_vars}
use Rattle.qm_model.specs.Sound.{IsSound}
use Rattle.qm_model.specs.Wins.{WinsAtEnd, WinsFrom, Wins}
use Rattle.qm_model.proofs.Legality.{parts_within, play_of_legal}
use Rattle.qm_model.proofs.LegalMoves.{rest-universal, universal_part-existential, universal_part-universal}
use Rattle.qm_model.proofs.Players.{is_for_all, not_universal}
use Rattle.qm_trees.specs.declared.policy.Policy.{Policy, out-Policy}
use Rattle.qm_trees.specs.declared.policy.Below.TheOpen as node
use Rattle.qm_model.specs.Ranges.{range_at, single}
use Rattle.qm_trees.specs.BoxPoints.{BeginIn}
use Rattle.qm_trees.specs.Picks.{Fit}
use Rattle.qm_trees.specs.PolicyJudgement.{Layer, BelowLayer, range_of, below_of}
use Rattle.qm_trees.specs.PolicyRight.{IsRightBelow, IsRightEnd, IsRightMove, IsRightPolicy}
use Rattle.qm_trees.specs.Reaching.{HasValue, PolicyReaches, ReachesAtEnd, ReachesBelow, ReachesByMove, point_of}
use Rattle.qm_trees.proofs.EmptySound.{no_play}
use Rattle.qm_trees.proofs.FoundParts.{Finds, cover_finds}
use Rattle.qm_trees.proofs.LeafLines.{AreInBounds-dens, AreInBounds-length}
use Rattle.qm_trees.proofs.LeafPoints.{leaf_meets, leaf_reaches}
use Rattle.qm_trees.proofs.PickedPlays.{fit_behind, within_fits}

-- ---- places

in_push : (rs : List Range) (vs : List ℤ) (r : Range) (v : ℤ) → AllZip HasValue rs vs → HasValue r v → AllZip HasValue (rs ++ r ∷ []) (vs ++ v ∷ [])
in_push [] [] r v all has = (has, tt)
in_push [] (w ∷ vs) r v all has = absurd all
in_push (q ∷ rs) [] r v all has = absurd all
in_push (q ∷ rs) (w ∷ vs) r v all has = (all.0, in_push rs vs r v all.1 has)

in_at : (rs : List Range) (vs : List ℤ) (i : ℕ) → AllZip HasValue rs vs → i < length rs → HasValue (range_at rs i) (get_or vs i (pos 0))
in_at [] vs i all h = absurd (omega arith)
in_at (q ∷ rs) [] i all h = absurd all
in_at (q ∷ rs) (w ∷ vs) zero all h = all.0
in_at (q ∷ rs) (w ∷ vs) (suc i) all h = in_at rs vs i all.1 (omega arith)

begins_in : (rs : List Range) (vs : List ℤ) → AllZip HasValue rs vs → BeginIn rs vs
begins_in [] [] all = tt
begins_in [] (v ∷ vs) all = absurd all
begins_in (r ∷ rs) [] all = tt
begins_in (r ∷ rs) (v ∷ vs) all = (all.0, begins_in rs vs all.1)

-- The first variables' ranges have the prefix's values, and the others' are their bounds.
record Place (P : Problem) (xs : List Var) (depth : ℕ) (prefix : List ℤ) (bx : List Range) : Type 0 where
  done : List Range
  box_is : bx ≡ done ++ whole_box_of (xs ++ continuous_vars P)
  count : length done ≡ depth
  values : AllZip HasValue done prefix
  total : depth + length xs ≡ P.wholes
  next : drop depth (whole_vars P) ≡ xs

-- the next variable's range is its bounds
next_range : (P : Problem) (x : Var) (xs : List Var) (depth : ℕ) (prefix : List ℤ) (bx : List Range) → Place P (x ∷ xs) depth prefix bx → range_at bx depth ≡ bounds_of x
next_range P x xs depth prefix bx place =
    subst (λ n. range_at bx n ≡ bounds_of x) place.count
    (ap (λ b. range_at b (length place.done)) place.box_is ∙ get_or-append_seam place.done (bounds_of x) (whole_box_of (xs ++ continuous_vars P)) (single (pos 0)))

-- the place after the next variable is set to a value of a range
next_place : (P : Problem) (x : Var) (xs : List Var) (depth : ℕ) (prefix : List ℤ) (bx : List Range) (r : Range) (v : ℤ) → Place P (x ∷ xs) depth prefix bx → HasValue r v
    → Place P xs (depth + 1) (prefix ++ v ∷ []) (slice_set bx depth r)
next_place P x xs depth prefix bx r v place has =
    let rest = whole_box_of (xs ++ continuous_vars P) in
    record {
      done = place.done ++ r ∷ [];
      box_is = subst (λ n. set bx n r ≡ (place.done ++ r ∷ []) ++ rest) place.count
          (ap (λ b. set b (length place.done) r) place.box_is ∙ set-append_seam place.done (bounds_of x) rest r ∙ sym (append_assoc place.done (r ∷ []) rest));
      count = length-append place.done (r ∷ []) ∙ ap (λ n. n + 1) place.count;
      values = in_push place.done prefix r v place.values has;
      total = omega (arith, place.total);
      next = (let up : depth + 1 ≡ 1 + depth = omega arith in sym (drop-drop 1 depth (whole_vars P)) ∙ ap (drop 1) place.next);
    }

-- the prefix has a value for each variable before the place
length_at : (P : Problem) (xs : List Var) (depth : ℕ) (prefix : List ℤ) (bx : List Range) → Place P xs depth prefix bx → length prefix ≡ depth
length_at P xs depth prefix bx place = omega (arith, AllZip-long HasValue place.done prefix place.values, place.count)

-- a play that goes on from the prefix has its values in the box
place_fits : (P : Problem) (sound : IsSound P) (xs : List Var) (depth : ℕ) (prefix : List ℤ) (bx : List Range) (us : List ℤ) → Place P xs depth prefix bx → AreWithin (filter is_universal xs) us
    → Fit (whole_vars P) bx (universal_part (whole_vars P) prefix ++ us)
place_fits P sound xs depth prefix bx us place within =
    let rest = whole_box_of (xs ++ continuous_vars P) in
    let long = length_at P xs depth prefix bx place in
    let behind : Fit (drop (length prefix) (whole_vars P)) rest us =
    subst (λ ys. Fit ys rest us) (sym (ap (λ n. drop n (whole_vars P)) long ∙ place.next)) (within_fits xs (continuous_vars P) us within) in
    let short : length prefix ≤ length (whole_vars P) = omega (arith, long, place.total, length-take P.wholes P.vars, sound.wholes) in
    let fits = fit_behind (whole_vars P) place.done rest prefix us (begins_in place.done prefix place.values) short behind in
    let all : take (length prefix) place.done ≡ place.done = take_all (length prefix) place.done (omega (arith, long, place.count)) in
    subst (λ b. Fit (whole_vars P) b (universal_part (whole_vars P) prefix ++ us)) (ap (λ rs. rs ++ rest) all ∙ sym place.box_is) fits

-- ---- leaves

module _ (P : Problem) (sound : IsSound P) (v : Fraction) (depth : ℕ) (prefix : List ℤ) (bx : List Range) (place : Place P [] depth prefix bx) where
  length-prefix : length prefix ≡ P.wholes
  length-prefix = omega (arith, AllZip-long HasValue place.done prefix place.values, place.count, place.total)

  inside : (i : ℕ) → i < P.wholes → HasValue (range_at bx i) (get_or prefix i (pos 0))
  inside i h =
      let below : i < length place.done = omega (arith, place.count, place.total) in
      let same : range_at bx i ≡ range_at place.done i =
      ap (λ b. range_at b i) place.box_is ∙ get_or_append_left place.done (whole_box_of (continuous_vars P)) (single (pos 0)) i below in
      rw same (in_at place.done prefix i place.values below)

  end_reaches : (layer : Layer) → IsRightEnd P v bx layer → ReachesAtEnd P v prefix layer
  end_reaches (node.Leaf point) right =
      let leaf = right.1 in
      let count = AreInBounds-length (continuous_vars P) point leaf.bounds in
      let proper = AreInBounds-dens (continuous_vars P) point leaf.bounds in (
        leaf_meets P sound prefix bx point length-prefix inside count proper v leaf,
        leaf_reaches P sound prefix bx point length-prefix inside count proper v leaf,
      )
  end_reaches (node.Choose value below) right = absurd right
  end_reaches (node.Answer parts) right = absurd right

  end_wins : (layer : Layer) → IsRightEnd P v bx layer → WinsAtEnd P prefix (AtLeast v)
  end_wins (node.Leaf point) leaf =
      let both = end_reaches (node.Leaf point) leaf in
      record { point = point_of point; meets = both.0; reaches = both.1 }
  end_wins (node.Choose value below) right = absurd right
  end_wins (node.Answer parts) right = absurd right

-- ---- moves

module _ (P : Problem) (sound : IsSound P) (x : Var) (xs : List Var) (depth : ℕ) (IsRight : List Range → Policy → Type 0) where
  -- what is right below a range of a play's value is a policy
  policy_below : (prefix rest : List ℤ) (bx : List Range) (layer : BelowLayer) (R : BelowLayer → Type 0) → Place P xs (depth + 1) prefix bx → AreWithin (filter is_universal xs) rest
      → IsPlay P (universal_part (whole_vars P) prefix ++ rest) → IsRightBelow P IsRight bx layer → ((policy : Policy) → IsRight bx policy → R (node.On policy)) → R layer
  policy_below prefix rest bx (node.On policy) R place within play right f = f policy right
  policy_below prefix rest bx (node.Illegal tree) R place within play right f =
      absurd (no_play P bx tree (universal_part (whole_vars P) prefix ++ rest) sound play (place_fits P sound xs (depth + 1) prefix bx rest place within) right)

  -- the variables behind the prefix
  variables_left : (prefix : List ℤ) (bx : List Range) → Place P (x ∷ xs) depth prefix bx → drop (length prefix) (whole_vars P) ≡ x ∷ xs
  variables_left prefix bx place = ap (λ n. drop n (whole_vars P)) (length_at P (x ∷ xs) depth prefix bx place) ∙ place.next

  -- the universal values that follow a legal one
  rest_within : (prefix rest : List ℤ) (bx : List Range) (u : ℤ) → x.player ≡ Universal → Place P (x ∷ xs) depth prefix bx → IsPlay P (universal_part (whole_vars P) (prefix ++ u ∷ []) ++ rest)
      → AreWithin (filter is_universal xs) rest
  rest_within prefix rest bx u universal place play =
      let next = variables_left prefix bx place in
      let us = universal_part (whole_vars P) prefix in
      let same : universal_part (whole_vars P) (prefix ++ u ∷ []) ++ rest ≡ us ++ u ∷ rest =
      ap (λ ws. ws ++ rest) (universal_part-universal P prefix x xs next u universal) ∙ append_assoc us (u ∷ []) rest in
      let all : AreWithin (universal_vars P) (us ++ u ∷ rest) = subst (AreWithin (universal_vars P)) same play.within in
      let later : AreWithin (x ∷ filter is_universal xs) (u ∷ rest) = subst (λ ys. AreWithin ys (u ∷ rest)) (rest-universal P prefix x xs next universal) (parts_within (universal_vars P) us (u ∷ rest) all).1 in
      later.1

  wins_by_move : (G : Goal)
      → ((prefix : List ℤ) (bx : List Range) (policy : Policy) → Place P xs (depth + 1) prefix bx → IsRight bx policy → WinsFrom P G xs prefix)
      → (prefix : List ℤ) (bx : List Range) (layer : Layer) → Place P (x ∷ xs) depth prefix bx → IsRightMove P x depth IsRight bx layer
      → WinsFrom P G (x ∷ xs) prefix
  wins_by_move G below prefix bx (node.Leaf point) place right = absurd right
  wins_by_move G below prefix bx (node.Choose value policy) place right =
      let here = next_range P x xs depth prefix bx place in
      let within : IsWithin x value = subst (λ (r : Range). HasValue r value) here right.1 in
      let has : HasValue (single value) value = (omega (arith, ints), omega (arith, ints)) in
      rw right.0 (value, within, below (prefix ++ value ∷ []) (slice_set bx depth (single value)) policy (next_place P x xs depth prefix bx (single value) value place has) right.2)
  wins_by_move G below prefix bx (node.Answer parts) place right =
      let here = next_range P x xs depth prefix bx place in
      rw right.0 (λ u within legal. answer u legal (cover_finds range_of (range_at bx depth) parts u right.1 (subst (λ (r : Range). HasValue r u) (sym here) within)))
    where
      answer : (u : ℤ) → IsLegal P (prefix ++ u ∷ []) → Finds range_of parts u → WinsFrom P G xs (prefix ++ u ∷ [])
      answer u legal (k, part, h, is, has) =
          let play = play_of_legal P (prefix ++ u ∷ []) legal in
          let bx_here = slice_set bx depth (range_of part) in
          let right_here : IsRightBelow P IsRight bx_here (below_of part) = subst (λ p. IsRightBelow P IsRight (slice_set bx depth (range_of p)) (below_of p)) is (right.2 k part h) in
          let place_here = next_place P x xs depth prefix bx (range_of part) u place has in
          policy_below (prefix ++ u ∷ []) play.rest bx_here (below_of part) (λ layer. WinsFrom P G xs (prefix ++ u ∷ [])) place_here
          (rest_within prefix play.rest bx u right.0 place play.is_play) play.is_play right_here
          (λ policy is_right. below (prefix ++ u ∷ []) bx_here policy place_here is_right)

  -- the universal values that are left, at a universal variable
  first_within : (us : List ℤ) → x.player ≡ Universal → AreWithin (filter is_universal (x ∷ xs)) us → (u : ℤ) × (later : List ℤ) × (us ≡ u ∷ later) × IsWithin x u × AreWithin (filter is_universal xs) later
  first_within us player within = by us (subst (λ (b : Bool). AreWithin (if b then x ∷ filter is_universal xs else filter is_universal xs) us) (is_for_all x player) within)
    where
      by : (vs : List ℤ) → AreWithin (x ∷ filter is_universal xs) vs → (u : ℤ) × (later : List ℤ) × (vs ≡ u ∷ later) × IsWithin x u × AreWithin (filter is_universal xs) later
      by [] h = absurd h
      by (u ∷ later) h = (u, later, refl, h.0, h.1)

  reaches_by_move : (Reaches : List ℤ → List ℤ → Policy → Type 0)
      → ((prefix : List ℤ) (us : List ℤ) (bx : List Range) (policy : Policy) → Place P xs (depth + 1) prefix bx → AreWithin (filter is_universal xs) us
      → IsPlay P (universal_part (whole_vars P) prefix ++ us) → IsRight bx policy → Reaches prefix us policy)
      → (prefix : List ℤ) (us : List ℤ) (bx : List Range) (layer : Layer) → Place P (x ∷ xs) depth prefix bx → AreWithin (filter is_universal (x ∷ xs)) us
      → IsPlay P (universal_part (whole_vars P) prefix ++ us) → IsRightMove P x depth IsRight bx layer → ReachesByMove x Reaches prefix us layer
  reaches_by_move Reaches below prefix us bx (node.Leaf point) place within play right = absurd right
  reaches_by_move Reaches below prefix us bx (node.Choose value policy) place within play right =
      let here = next_range P x xs depth prefix bx place in
      let chosen : IsWithin x value = subst (λ (r : Range). HasValue r value) here right.1 in
      let has : HasValue (single value) value = (omega (arith, ints), omega (arith, ints)) in
      let same = sym (universal_part-existential P prefix x xs (variables_left prefix bx place) value right.0) in
      let later : AreWithin (filter is_universal xs) us = subst (λ (b : Bool). AreWithin (if b then x ∷ filter is_universal xs else filter is_universal xs) us) (not_universal x right.0) within in (
        right.0,
        chosen,
        below (prefix ++ value ∷ []) us (slice_set bx depth (single value)) policy (next_place P x xs depth prefix bx (single value) value place has) later
            (subst (λ vs. IsPlay P (vs ++ us)) same play) right.2,
      )
  reaches_by_move Reaches below prefix us bx (node.Answer parts) place within play right =
      let first = first_within us right.0 within in
      let u = first.0 in
      let here = next_range P x xs depth prefix bx place in
      let covered : HasValue (range_at bx depth) u = subst (λ (r : Range). HasValue r u) (sym here) first.3 in
      let values = universal_part (whole_vars P) prefix in
      let same : values ++ us ≡ universal_part (whole_vars P) (prefix ++ u ∷ []) ++ first.1 =
      ap (λ vs. values ++ vs) first.2 ∙ sym (append_assoc values (u ∷ []) first.1)
      ∙ ap (λ vs. vs ++ first.1) (sym (universal_part-universal P prefix x xs (variables_left prefix bx place) u right.0)) in
      let goes_on : IsPlay P (universal_part (whole_vars P) (prefix ++ u ∷ []) ++ first.1) = subst (IsPlay P) same play in
      subst (λ vs. ReachesByMove x Reaches prefix vs (node.Answer parts)) (sym first.2) (
        right.0,
        cover_finds range_of (range_at bx depth) parts u right.1 covered,
        λ k part h has.
            let bx_here = slice_set bx depth (range_of (get_or parts k part)) in
            let place_here = next_place P x xs depth prefix bx (range_of (get_or parts k part)) u place has in
            policy_below (prefix ++ u ∷ []) first.1 bx_here (below_of (get_or parts k part)) (ReachesBelow (Reaches (prefix ++ u ∷ []) first.1)) place_here first.4 goes_on (right.2 k part h)
            (λ policy is_right. below (prefix ++ u ∷ []) first.1 bx_here policy place_here first.4 goes_on is_right),
      )

-- ---- policies

module _ (P : Problem) (sound : IsSound P) (v : Fraction) where
  wins_from : (xs : List Var) (depth : ℕ) (prefix : List ℤ) (bx : List Range) (policy : Policy) → Place P xs depth prefix bx → IsRightPolicy P v xs depth bx policy
      → WinsFrom P (AtLeast v) xs prefix
  wins_from [] depth prefix bx policy place right = end_wins P sound v depth prefix bx place (out-Policy policy) right
  wins_from (x ∷ xs) depth prefix bx policy place right =
      wins_by_move P sound x xs depth (IsRightPolicy P v xs (depth + 1)) (AtLeast v) (wins_from xs (depth + 1)) prefix bx (out-Policy policy) place right

  reaches_from : (xs : List Var) (depth : ℕ) (prefix : List ℤ) (us : List ℤ) (bx : List Range) (policy : Policy) → Place P xs depth prefix bx → AreWithin (filter is_universal xs) us
      → IsPlay P (universal_part (whole_vars P) prefix ++ us) → IsRightPolicy P v xs depth bx policy → PolicyReaches P v xs prefix us policy
  reaches_from [] depth prefix us bx policy place within play right = end_reaches P sound v depth prefix bx place (out-Policy policy) right
  reaches_from (x ∷ xs) depth prefix us bx policy place within play right =
      reaches_by_move P sound x xs depth (IsRightPolicy P v xs (depth + 1)) (PolicyReaches P v xs) (reaches_from xs (depth + 1)) prefix us bx (out-Policy policy) place within play right

  first_place : Place P (whole_vars P) 0 [] (whole_box_of P.vars)
  first_place = record {
    done = [];
    box_is = sym (ap whole_box_of (take-append-drop P.wholes P.vars));
    count = refl;
    values = tt;
    total = omega (arith, length-take P.wholes P.vars, sound.wholes);
    next = refl;
  }

  pub right_wins : (policy : Policy) → IsRightPolicy P v (whole_vars P) 0 (whole_box_of P.vars) policy → Wins P [] (AtLeast v)
  right_wins policy right = wins_from (whole_vars P) 0 [] (whole_box_of P.vars) policy first_place right

  pub right_reaches : (policy : Policy) (us : List ℤ) → IsRightPolicy P v (whole_vars P) 0 (whole_box_of P.vars) policy → IsPlay P us
      → PolicyReaches P v (whole_vars P) [] us policy
  right_reaches policy us right play =
      reaches_from (whole_vars P) 0 [] us (whole_box_of P.vars) policy first_place play.within (subst (λ vs. IsPlay P (vs ++ us)) (sym (none (whole_vars P))) play) right
    where
      none : (xs : List Var) → universal_part xs [] ≡ []
      none [] = refl
      none (x ∷ xs) = refl
