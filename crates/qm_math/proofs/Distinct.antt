-- Numbers below n with no two equal are at most n.
use Rattle.std.proofs.Common.{ℕ, ◌<◌, ◌≤◌, ◌≢◌, eqb-true, List, length, All, AllPairs}
use Rattle.std.proofs.lemmas.List.Elements.{All-contains}
use Rattle.std.proofs.lemmas.Bool.Decides.{Decides-eqb}
use Rattle.std.proofs.lemmas.Map.Made.{IsDistinct-from_AllPairs}
use Rattle.std.proofs.lemmas.Map.Steps.{length-le_from_distinct_below}
use Rattle.std.proofs.lemmas.Map.Views.{Contains-from_any}

pub length-le_distinct_below : (xs : List ℕ) (n : ℕ) → AllPairs (λ x y. x ≢ y) xs → All (λ x. x < n) xs → length xs ≤ n
length-le_distinct_below xs n apart below =
    length-le_from_distinct_below xs n (IsDistinct-from_AllPairs Decides-eqb xs apart)
    (λ q e. All-contains (λ x. x < n) xs q below (Contains-from_any eqb-true q xs e))
