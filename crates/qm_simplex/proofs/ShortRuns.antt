-- A run from a good tableau has fewer pivots than 2 to the number of quantities: no two of its tableaus have the same
-- quantities in their columns.
use Rattle.std.proofs.Common.{◌≡◌, ap, suc, ◌^◌, ◌<◌, ◌≤◌, ◌≢◌, refl, List, [], ◌∷◌, length, get_or, map, All, AllPairs, arith, ℤ}
use Rattle.std.specs.List.{AllZip}
use Rattle.std.proofs.lemmas.List.{length-map}
use Rattle.std.proofs.lemmas.List.Elements.{All-cons, All-map, All-nil}
use Rattle.std.proofs.lemmas.List.Kept.{AllPairs-cons}
use Rattle.qm_math.specs.Fraction.{IsSame}
use Rattle.qm_math.specs.Lexicographic.{IsLexBelow}
use Rattle.qm_math.specs.Counts.{AreWithin, count_within}
use Rattle.qm_math.proofs.Counts.{length-le_count_within}
use Rattle.qm_math.proofs.Lexicographic.{IsLexBelow-irrefl, IsLexBelow-trans}
use Rattle.qm_math.proofs.SameLists.{IsLexBelow-same, all_same_refl, all_same_sym}
use Rattle.qm_model.specs.declared.range.Range.{Range}
use Rattle.qm_model.specs.declared.row.Row.{Row}
use Rattle.qm_model.specs.declared.game.Problem.{Problem}
use Rattle.qm_tableau.specs.Tables.{Table}
use Rattle.qm_tableau.specs.Columns.{column_at}
use Rattle.qm_tableau.specs.Quantities.{quantities}
use Rattle.qm_tableau.specs.Good.{IsGood}
use Rattle.qm_tableau.proofs.Constants.{same_constants}
use Rattle.qm_tableau.proofs.Lowering.{column_den}
use Rattle.qm_tableau.proofs.PivotGood.{pivot_falls, pivot_good}
use Rattle.qm_simplex.specs.Ends.{most_pivots}
use Rattle.qm_simplex.specs.Runs.{Leads, Pivot}
use Rattle.qm_simplex.proofs.Subsets.{contained_by_digits, count_digits, digit_ranges, digits_below, digits_within}

-- the tableaus of a run behind the first
tables_after : (t : Table) (ps : List Pivot) (last : Table) → Leads t ps last → List Table
tables_after t [] last h = []
tables_after t (p ∷ ps) last h = h.1 ∷ tables_after h.1 ps last h.3

as_many_tables : (t : Table) (ps : List Pivot) (last : Table) (h : Leads t ps last) → length (tables_after t ps last h) ≡ length ps
unfolding tables_after
as_many_tables t [] last h = refl
as_many_tables t (p ∷ ps) last h = ap suc (as_many_tables h.1 ps last h.3)

-- the constants of the first are lexicographically less
abbrev IsLower : Table → Table → Type 0
IsLower u t = IsLexBelow (column_at u.rows 0) (column_at t.rows 0)

module _ (P : Problem) (cuts : List Row) (bx : List Range) where
  lower_trans : (t u v : Table) → IsGood P cuts bx t → IsGood P cuts bx u → IsGood P cuts bx v → IsLower t u → IsLower u v → IsLower t v
  lower_trans t u v gt gu gv less more =
      IsLexBelow-trans (column_at t.rows 0) (column_at u.rows 0) (column_at v.rows 0) (column_den t.rows 0 gt.positive) (column_den u.rows 0 gu.positive) (column_den v.rows 0 gv.positive) less more

  -- which quantities the columns belong to
  abbrev subset : Table → List ℤ
  subset t = digits_below t.columns (length (quantities P cuts bx))

  -- the subset decides the constants
  lower_apart : (t u : Table) → IsGood P cuts bx t → IsGood P cuts bx u → IsLower u t → subset t ≡ subset u → ⊥
  lower_apart t u gt gu less e =
      let td = column_den t.rows 0 gt.positive in
      let ud = column_den u.rows 0 gu.positive in
      let high = gu.height in
      let below : All (λ c. c < length (quantities P cuts bx)) u.columns = λ k d inside. (let named = gu.named k d inside in omega (arith, named, high)) in
      let same : AllZip IsSame (column_at t.rows 0) (column_at u.rows 0) =
      same_constants P cuts bx t u gt gu (contained_by_digits t.columns u.columns (length (quantities P cuts bx)) below e) in
      IsLexBelow-irrefl (column_at t.rows 0)
      (IsLexBelow-same (column_at u.rows 0) (column_at t.rows 0) (column_at t.rows 0) (column_at t.rows 0) ud td td td
      (all_same_sym (column_at t.rows 0) (column_at u.rows 0) same) (all_same_refl (column_at t.rows 0)) less)

  -- the subset of a higher tableau isn't that of any tableau of the run
  lower_after : (high t : Table) (ps : List Pivot) (last : Table) (h : Leads t ps last) → IsGood P cuts bx high → IsGood P cuts bx t → IsLower t high
      → All (λ u. subset high ≢ subset u) (t ∷ tables_after t ps last h)
  unfolding tables_after
  lower_after high t [] last h gh gt less = All-cons (λ u. subset high ≢ subset u) t [] (lower_apart high t gh gt less) (All-nil (λ u. subset high ≢ subset u))
  lower_after high t (p ∷ ps) last h gh gt less =
      let gu = pivot_good P cuts bx t h.1 p.0 p.1 gt h.0 h.2 in
      let falls = pivot_falls P cuts bx t h.1 p.0 p.1 gt h.0 h.2 in
      All-cons (λ u. subset high ≢ subset u) t (h.1 ∷ tables_after h.1 ps last h.3) (lower_apart high t gh gt less)
      (lower_after high h.1 ps last h.3 gh gu (lower_trans h.1 t high gu gt gh falls less))

  -- no two tableaus of the run have the same subset
  all_apart : (t : Table) (ps : List Pivot) (last : Table) (h : Leads t ps last) → IsGood P cuts bx t
      → AllPairs (λ x y. x ≢ y) (map subset (t ∷ tables_after t ps last h))
  unfolding tables_after
  all_apart t [] last h gt = AllPairs-cons (λ x y. x ≢ y) (subset t) [] (All-nil (λ y. subset t ≢ y)) (λ i j d less inside. absurd (omega (arith, less, inside)))
  all_apart t (p ∷ ps) last h gt =
      let gu = pivot_good P cuts bx t h.1 p.0 p.1 gt h.0 h.2 in
      let falls = pivot_falls P cuts bx t h.1 p.0 p.1 gt h.0 h.2 in
      let rest = h.1 ∷ tables_after h.1 ps last h.3 in
      AllPairs-cons (λ x y. x ≢ y) (subset t) (map subset rest) (All-map (λ y. subset t ≢ y) subset rest (lower_after t h.1 ps last h.3 gt gu falls))
      (all_apart h.1 ps last h.3 gu)

  pub few_pivots : (t last : Table) (pivots : List Pivot) → IsGood P cuts bx t → Leads t pivots last → length pivots < most_pivots P cuts bx
  few_pivots t last ps gt h =
      let n = length (quantities P cuts bx) in
      let rest = tables_after t ps last h in
      let within : All (AreWithin (digit_ranges n)) (map subset (t ∷ rest)) =
      All-map (AreWithin (digit_ranges n)) subset (t ∷ rest) (λ k d inside. digits_within (get_or (t ∷ rest) k d).columns n) in
      let least : length (map subset (t ∷ rest)) ≤ count_within (digit_ranges n) = length-le_count_within (digit_ranges n) (map subset (t ∷ rest)) (all_apart t ps last h gt) within in
      let count : length (map subset (t ∷ rest)) ≡ length (t ∷ rest) = length-map (t ∷ rest) subset in
      let long : length rest ≡ length ps = as_many_tables t ps last h in
      let all : count_within (digit_ranges n) ≡ 2 ^ n = count_digits n in
      omega (arith, least, count, long, all)
