-- Where a refutation is right over a box, no legal prefix in the box wins the goal.
use Rattle.std.proofs.Common.{◌≡◌, ℕ, ◌+◌, ◌<◌, ◌≤◌, List, [], ◌∷◌, ◌++◌, length, get_or, set, take, drop, refl, sym, ap, subst, ◌∙◌, ℤ, pos, arith}
use Rattle.std.specs.Prelude.{filter, slice_set}
use Rattle.std.proofs.lemmas.List.{length-append, length-drop, take-append-drop, drop-append-le, drop-drop, drop-set-lt, get_or-drop}
use Rattle.qm_model.specs.declared.range.Range.{Range}
use Rattle.qm_model.specs.declared.row.Row.{Row}
use Rattle.qm_model.specs.declared.variable.Player.TheVariants.{All as Universal}
use Rattle.qm_model.specs.declared.variable.Var.{Var}
use Rattle.qm_model.specs.declared.game.Problem.{Problem}
use Rattle.qm_model.specs.Boxes.{bounds_of, whole_box_of}
use Rattle.qm_model.specs.Goals.{Goal, IsProper}
use Rattle.qm_model.specs.Legal.{IsLegal, IsPrefix, universal_part}
use Rattle.qm_model.specs.Plays.{AreWithin, IsPlay, IsWithin, is_universal, universal_vars, whole_vars}
use Rattle.qm_model.specs.Points.{continuous_vars}
use Rattle.qm_model.specs.Sound.{IsSound}
use Rattle.qm_model.specs.Wins.{Wins, WinsFrom}
use Rattle.qm_model.proofs.Legality.{both_within, parts_within, play_of_legal}
use Rattle.qm_model.proofs.LegalMoves.{AreWithin-long, BeginWithin-all, BeginWithin-long, BeginWithin-push, legal_with_play, rest-universal, winning_move, winning_rest, wins_against}
use Rattle.qm_model.proofs.UncertaintyRows.{legal_meets_uncertainty, length-complete}
use Rattle.qm_trees.specs.declared.refutation.Refute.{Refute, out-Refute}
use Rattle.qm_trees.specs.declared.refutation.Refute.TheOpen as node
use Rattle.qm_trees.specs.BoxPoints.{BeginIn}
use Rattle.qm_trees.specs.Cuts.{HoldCuts}
use Rattle.qm_trees.specs.Entries.{Combination}
use Rattle.qm_trees.specs.Picks.{Fit, fixed, picked}
use Rattle.qm_model.specs.Ranges.{range_at, single}
use Rattle.qm_trees.specs.Reaching.{HasValue}
use Rattle.qm_trees.specs.RefuteJudgement.{Head, Layer, range_of, below_of}
use Rattle.qm_trees.proofs.Multipliers.{entries_positive}
use Rattle.qm_trees.specs.RefuteRight.{IsRightClose, IsRightEnd, IsRightMove, IsRightPick, IsRightRefutation}
use Rattle.qm_trees.proofs.ClosedGoals.{closed_out_of_reach}
use Rattle.qm_trees.proofs.PickedPlays.{between_itself, fit_behind, fit_fixed, fit_within, next_fits, rows_hold}
use Rattle.qm_trees.proofs.FoundParts.{Finds, cover_finds}

-- ---- prefixes in a box

-- one more value, in a range that stands in the next one's place
begin_push : (bx : List Range) (vs : List ℤ) (r : Range) (v : ℤ) → BeginIn bx vs → length vs < length bx → HasValue r v → BeginIn (set bx (length vs) r) (vs ++ v ∷ [])
begin_push [] [] r v begin below has = absurd (omega (arith, below))
begin_push [] (w ∷ vs) r v begin below has = absurd begin
begin_push (q ∷ bx) [] r v begin below has = (has, tt)
begin_push (q ∷ bx) (w ∷ vs) r v begin below has = (begin.0, begin_push bx vs r v begin.1 (omega (arith, below)) has)

-- a prefix in the first ranges, behind which the variables' own bounds stand
record BeginsIn (bx : List Range) (prefix : List ℤ) (more : List Var) : Type 0 where
  inside : BeginIn bx prefix
  others : drop (length prefix) bx ≡ whole_box_of more

-- values of more variables, where their ranges are their bounds
begin_whole : (xs more : List Var) (ws : List ℤ) → AreWithin xs ws → BeginsIn (whole_box_of (xs ++ more)) ws more
begin_whole [] more [] h = record { inside = tt; others = refl }
begin_whole [] more (w ∷ ws) h = absurd h
begin_whole (x ∷ xs) more [] h = absurd h
begin_whole (x ∷ xs) more (w ∷ ws) h =
    let later = begin_whole xs more ws h.1 in
    record { inside = (h.0, later.inside); others = later.others }

begin_more : (bx : List Range) (vs : List ℤ) (xs more : List Var) (ws : List ℤ) → BeginIn bx vs → drop (length vs) bx ≡ whole_box_of (xs ++ more) → AreWithin xs ws → BeginsIn bx (vs ++ ws) more
begin_more bx [] xs more ws begin others h = subst (λ b. BeginsIn b ws more) (sym others) (begin_whole xs more ws h)
begin_more [] (v ∷ vs) xs more ws begin others h = absurd begin
begin_more (r ∷ bx) (v ∷ vs) xs more ws begin others h =
    let later = begin_more bx vs xs more ws begin.1 others h in
    record { inside = (begin.0, later.inside); others = later.others }

-- ---- places

-- The prefix sets the variables before the depth, within their bounds and in the box; behind them these variables
-- follow, whose ranges are their bounds.
record Place (P : Problem) (xs : List Var) (depth : ℕ) (prefix : List ℤ) (bx : List Range) : Type 0 where
  count : length prefix ≡ depth
  next : drop depth (whole_vars P) ≡ xs
  within : IsPrefix P prefix
  inside : BeginIn bx prefix
  others : drop depth bx ≡ whole_box_of (xs ++ continuous_vars P)

-- the variables behind the prefix
variables_left : (P : Problem) (xs : List Var) (depth : ℕ) (prefix : List ℤ) (bx : List Range) → Place P xs depth prefix bx → drop (length prefix) (whole_vars P) ≡ xs
variables_left P xs depth prefix bx place = ap (λ n. drop n (whole_vars P)) place.count ∙ place.next

module _ (P : Problem) (x : Var) (xs : List Var) (depth : ℕ) (prefix : List ℤ) (bx : List Range) (place : Place P (x ∷ xs) depth prefix bx) where
  -- the next variable's range is its bounds
  next_range : range_at bx depth ≡ bounds_of x
  next_range =
      let same : depth ≡ depth + 0 = omega arith in
      ap (range_at bx) same ∙ sym (get_or-drop depth bx 0 (single (pos 0))) ∙ ap (λ b. get_or b 0 (single (pos 0))) place.others

  in_next_range : (v : ℤ) → IsWithin x v → HasValue (range_at bx depth) v
  in_next_range v within = subst (λ (r : Range). HasValue r v) (sym next_range) within

  -- the ranges behind the next one
  later_box : drop (depth + 1) bx ≡ whole_box_of (xs ++ continuous_vars P)
  later_box = sym (drop-drop 1 depth bx) ∙ ap (drop 1) place.others

  depth_below : depth < length bx
  depth_below = omega (arith, length-drop depth bx, ap length place.others)

  -- the place after the next variable is set to a value of a range
  next_place : (r : Range) (v : ℤ) → HasValue r v → IsWithin x v → Place P xs (depth + 1) (prefix ++ v ∷ []) (slice_set bx depth r)
  next_place r v has within = record {
    count = length-append prefix (v ∷ []) ∙ ap (λ n. n + 1) place.count;
    next = sym (drop-drop 1 depth (whole_vars P)) ∙ ap (drop 1) place.next;
    within = BeginWithin-push (whole_vars P) prefix x xs v (variables_left P (x ∷ xs) depth prefix bx place) place.within within;
    inside = subst (λ n. BeginIn (set bx n r) (prefix ++ v ∷ [])) place.count (begin_push bx prefix r v place.inside (omega (arith, place.count, depth_below)) has);
    others = drop-set-lt (depth + 1) bx depth r (omega arith) ∙ later_box;
  }

  -- ---- picks

  module _ (sound : IsSound P) (universal : x.player ≡ Universal) (value : ℤ) (completion : List ℤ) (pick : IsRightPick P xs depth bx value completion) where
    abbrev us : List ℤ
    us = universal_part (whole_vars P) prefix

    pick_within : IsWithin x value
    pick_within = subst (λ (r : Range). HasValue r value) next_range pick.value_in_range

    pick_fits : Fit (whole_vars P) (picked depth xs bx value completion) (us ++ value ∷ completion)
    pick_fits =
        let rest = fixed xs (drop (depth + 1) bx) completion in
        let next = variables_left P (x ∷ xs) depth prefix bx place in
        let here : Fit (x ∷ xs) (single value ∷ rest) (value ∷ completion) =
        next_fits x xs (single value) rest (value ∷ completion) universal (between_itself value, fit_fixed xs (drop (depth + 1) bx) completion pick.completion_fits) in
        subst (λ n. Fit (whole_vars P) (take n bx ++ single value ∷ rest) (us ++ value ∷ completion)) place.count
        (fit_behind (whole_vars P) bx (single value ∷ rest) prefix (value ∷ completion) place.inside (BeginWithin-long (whole_vars P) prefix place.within)
        (subst (λ ys. Fit ys (single value ∷ rest) (value ∷ completion)) (sym next) here))

    -- the prefix's universal values, the picked one and its completion are a play
    picked_play : IsLegal P prefix → IsPlay P (us ++ value ∷ completion)
    picked_play legal =
        let play = play_of_legal P prefix legal in
        let later : AreWithin (filter is_universal xs) completion =
        fit_within xs (continuous_vars P) completion (subst (λ b. Fit xs b completion) later_box pick.completion_fits) in
        let rest = rest-universal P prefix x xs (variables_left P (x ∷ xs) depth prefix bx place) universal in
        record {
          within = both_within (universal_vars P) us (value ∷ completion) (parts_within (universal_vars P) us play.rest play.is_play.within).0
              (subst (λ ys. AreWithin ys (value ∷ completion)) (sym rest) (pick_within, later));
          rows = rows_hold P sound (picked depth xs bx value completion) (us ++ value ∷ completion) pick_fits pick.rows;
        }

-- ---- refutations

module _ (P : Problem) (cuts : List Row) (G : Goal) (sound : IsSound P) (proper : IsProper G) (hold : HoldCuts P cuts) where
  -- a combination that closes the goal over the box
  close_refuses : (xs : List Var) (depth : ℕ) (prefix : List ℤ) (bx : List Range) (combo : Combination) → Place P xs depth prefix bx → IsRightClose P cuts G bx combo
      → IsLegal P prefix → WinsFrom P G xs prefix → ⊥
  close_refuses xs depth prefix bx combo place right legal wins =
      let next = variables_left P xs depth prefix bx place in
      let all = winning_rest P G xs prefix next legal wins in
      let full = prefix ++ all.rest in
      let y = all.wins.point in
      let within : AreWithin (whole_vars P) full = both_within (whole_vars P) prefix all.rest place.within (subst (λ ys. AreWithin ys all.rest) (sym next) all.within) in
      let complete = AreWithin-long (whole_vars P) full within in
      let others : drop (length prefix) bx ≡ whole_box_of (xs ++ continuous_vars P) = ap (λ n. drop n bx) place.count ∙ place.others in
      let box = begin_more bx prefix xs (continuous_vars P) all.rest place.inside others all.within in
      let behind_all : drop P.wholes bx ≡ whole_box_of (continuous_vars P) = subst (λ n. drop n bx ≡ whole_box_of (continuous_vars P)) (length-complete P full sound complete) box.others in
      closed_out_of_reach P cuts combo bx G full y sound proper complete box.inside behind_all all.wins.meets
      (legal_meets_uncertainty P full y sound complete all.legal) (hold full y (BeginWithin-all (whole_vars P) full within) complete all.legal all.wins.meets) all.wins.reaches
      (entries_positive combo.entries right.0.0) right.2

  end_refuses : (depth : ℕ) (prefix : List ℤ) (bx : List Range) (layer : Layer) → Place P [] depth prefix bx → IsRightEnd P cuts G bx layer → IsLegal P prefix → WinsFrom P G [] prefix → ⊥
  end_refuses depth prefix bx (node.Close combo) place right legal wins = close_refuses [] depth prefix bx combo place right legal wins
  end_refuses depth prefix bx (node.Over parts) place right legal wins = right
  end_refuses depth prefix bx (node.Pick value completion below) place right legal wins = right

  -- Refuses IsRight xs depth: where a tree is right so over a box, no legal prefix at this place wins
  abbrev Refuses : (List Range → Refute → Type 0) → List Var → ℕ → Type 0
  Refuses IsRight xs depth = (prefix : List ℤ) (bx : List Range) (tree : Refute) → Place P xs depth prefix bx → IsRight bx tree → IsLegal P prefix → WinsFrom P G xs prefix → ⊥

  module _ (x : Var) (xs : List Var) (depth : ℕ) (IsRight : List Range → Refute → Type 0) (later : Refuses IsRight xs (depth + 1)) where
    move_refuses : (prefix : List ℤ) (bx : List Range) (layer : Layer) → Place P (x ∷ xs) depth prefix bx → IsRightMove P cuts G x xs depth IsRight bx layer
        → IsLegal P prefix → WinsFrom P G (x ∷ xs) prefix → ⊥
    move_refuses prefix bx (node.Close combo) place right legal wins = close_refuses (x ∷ xs) depth prefix bx combo place right legal wins
    move_refuses prefix bx (node.Over parts) place right legal wins =
        let move = winning_move P G x xs prefix (variables_left P (x ∷ xs) depth prefix bx place) legal wins in
        let v = move.value in
        let found : Finds range_of parts v = cover_finds range_of (range_at bx depth) parts v right.0 (in_next_range P x xs depth prefix bx place v move.within) in
        let part = found.1 in
        let right_here : IsRight (slice_set bx depth (range_of part)) (below_of part) =
        subst (λ p. IsRight (slice_set bx depth (range_of p)) (below_of p)) found.3 (right.2 found.0 part found.2) in
        later (prefix ++ v ∷ []) (slice_set bx depth (range_of part)) (below_of part) (next_place P x xs depth prefix bx place (range_of part) v found.4 move.within) right_here move.legal move.wins
    move_refuses prefix bx (node.Pick value completion below) place right legal wins =
        let play = picked_play P x xs depth prefix bx place sound right.0 value completion right.1 legal in
        let within = pick_within P x xs depth prefix bx place sound right.0 value completion right.1 in
        let still_legal = legal_with_play P prefix x xs (variables_left P (x ∷ xs) depth prefix bx place) value completion right.0 play in
        later (prefix ++ value ∷ []) (slice_set bx depth (single value)) below (next_place P x xs depth prefix bx place (single value) value (between_itself value) within) right.2 still_legal
        (wins_against P G x xs prefix value right.0 wins within still_legal)

  refuses : (heads : List Head) (xs : List Var) (depth : ℕ) → Refuses (IsRightRefutation P cuts heads G xs depth) xs depth
  refuses heads [] depth prefix bx tree place right legal wins = end_refuses depth prefix bx (out-Refute tree) place right legal wins
  refuses heads (x ∷ xs) depth prefix bx tree place right legal wins =
      move_refuses x xs depth (IsRightRefutation P cuts heads G xs (depth + 1)) (refuses heads xs (depth + 1)) prefix bx (out-Refute tree) place right legal wins

pub right_refuses : (P : Problem) (cuts : List Row) (heads : List Head) (G : Goal) (depth : ℕ) (bx : List Range) (tree : Refute) (prefix : List ℤ)
    → IsSound P → IsProper G → HoldCuts P cuts → IsRightRefutation P cuts heads G (drop depth (whole_vars P)) depth bx tree
    → length prefix ≡ depth → IsPrefix P prefix → BeginIn bx prefix → drop depth bx ≡ whole_box_of (drop depth P.vars) → IsLegal P prefix → Wins P prefix G → ⊥
right_refuses P cuts heads G depth bx tree prefix sound proper hold right count within inside others legal wins =
    let short : depth ≤ length (whole_vars P) = omega (arith, count, BeginWithin-long (whole_vars P) prefix within) in
    let parts : drop depth P.vars ≡ drop depth (whole_vars P) ++ continuous_vars P =
    ap (drop depth) (sym (take-append-drop P.wholes P.vars)) ∙ drop-append-le depth (whole_vars P) (continuous_vars P) short in
    let place : Place P (drop depth (whole_vars P)) depth prefix bx =
    record { count = count; next = refl; within = within; inside = inside; others = others ∙ ap whole_box_of parts } in
    refuses P cuts G sound proper hold heads (drop depth (whole_vars P)) depth prefix bx tree place right legal
    (subst (λ n. WinsFrom P G (drop n (whole_vars P)) prefix) count wins)
