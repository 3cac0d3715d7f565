-- Items that each stand in a list, each once, are no more than the list has.
use Rattle.std.proofs.Common.{◌≡◌, ◌≢◌, ℕ, ◌<◌, ◌≤◌, Bool, true, List, length, get_or, map, eqb, ⊎_elim, refl, sym, ap, ◌∙◌, subst, Decides, arith}
use Rattle.std.specs.Prelude.{All, AllPairs, Contains}
use Rattle.std.specs.List.{list_any, position_or_len}
use Rattle.std.proofs.lemmas.Bool.{cases_lt, false≢true}
use Rattle.std.proofs.lemmas.Bool.Decides.{Decides-by_or, Decides-eqb}
use Rattle.std.proofs.lemmas.List.{get_or-map, get_or_default, length-map}
use Rattle.std.proofs.lemmas.List.Elements.{All-map}
use Rattle.std.proofs.lemmas.List.Sums.{fails_before_first, passes_at_first}
use Rattle.std.proofs.lemmas.Map.Made.{IsDistinct-from_AllPairs}
use Rattle.std.proofs.lemmas.Map.Steps.{length-le_from_distinct_below}

module _ {X : Type 0} (eq : X → X → Bool) (same : (x y : X) → Decides (eq x y) (x ≡ y)) where
  -- the first place of an item that stands in a list
  place_inside : (known : List X) (x : X) → Contains known x → position_or_len (eq x) known < length known
  place_inside known x there =
      ⊎_elim (λ (less : position_or_len (eq x) known < length known). less) (λ (past : length known ≤ position_or_len (eq x) known).
      let differs = fails_before_first (eq x) known there.0 x (omega (arith, there.1)) in
      absurd (false≢true (sym differs ∙ (same x (get_or known there.0 x)).1 (sym there.2)))) (cases_lt (position_or_len (eq x) known) (length known))

  place_is : (known : List X) (x : X) → Contains known x → get_or known (position_or_len (eq x) known) x ≡ x
  place_is known x there =
      sym ((same x (get_or known (position_or_len (eq x) known) x)).0 (passes_at_first (eq x) known x (place_inside known x there)))

  places_apart : (known xs : List X) (default : X) → AllPairs (λ x y. x ≢ y) xs → All (Contains known) xs → AllPairs (λ m n. m ≢ n) (map (λ x. position_or_len (eq x) known) xs)
  places_apart known xs default apart stand i j d less end alike =
      let place = λ (x : X). position_or_len (eq x) known in
      let x = get_or xs i default in
      let y = get_or xs j default in
      let end' : j < length xs = omega (arith, end, length-map xs place) in
      let at_x : get_or (map place xs) i d ≡ place x = get_or-map place xs i default d (omega arith) in
      let at_y : get_or (map place xs) j d ≡ place y = get_or-map place xs j default d end' in
      let one_place : place x ≡ place y = sym at_x ∙ alike ∙ at_y in
      let x_there = stand i default (omega arith) in
      let y_there = stand j default end' in
      let same_there : get_or known (place y) x ≡ get_or known (place y) y = get_or_default known (place y) x y (place_inside known y y_there) in
      apart i j default less end' (sym (place_is known x x_there) ∙ ap (λ n. get_or known n x) one_place ∙ same_there ∙ place_is known y y_there)

  -- items of a list, each once
  pub length-le_among : (known xs : List X) (default : X) → AllPairs (λ x y. x ≢ y) xs → All (Contains known) xs → length xs ≤ length known
  length-le_among known xs default apart stand =
      let place = λ (x : X). position_or_len (eq x) known in
      let distinct = IsDistinct-from_AllPairs Decides-eqb (map place xs) (places_apart known xs default apart stand) in
      let inside : All (λ n. n < length known) (map place xs) = All-map (λ n. n < length known) place xs (λ k d below. place_inside known _ (stand k d below)) in
      let below = λ (q : ℕ) (there : list_any (eqb q) (map place xs) ≡ true).
      let found = (Decides-by_or (eqb q) (λ n. q ≡ n) (list_any (eqb q)) (Decides-eqb q) refl (λ _ _. refl) (map place xs)).0 there in
      let at : q ≡ get_or (map place xs) found.0 0 = found.2 0 in
      let less : get_or (map place xs) found.0 0 < length known = inside found.0 0 found.1 in
      subst (λ n. n < length known) (sym at) less in
      subst (λ n. n ≤ length known) (length-map xs place) (length-le_from_distinct_below (map place xs) (length known) distinct below)
