-- Runs in checked and in unbounded fractions.
use Rattle.std.proofs.Common.{◌≡◌, refl, subst, suc, List, [], ◌∷◌, length, All, Ok}
use Rattle.qm_math.specs.Fraction.{HasPositiveDen}
use Rattle.qm_math.proofs.Magnitudes.{unsigned_abs-above_zero}
use Rattle.qm_tableau.specs.declared.choice.Choice.{Choice}
use Rattle.qm_tableau.specs.declared.choice.Choice.TheVariants as choice
use Rattle.qm_tableau.specs.Tables.{Table, entry_of, row_at}
use Rattle.qm_tableau.specs.Rule.{chosen}
use Rattle.qm_tableau.specs.Exact.{AreSameTables, exact_table}
use Rattle.qm_tableau.proofs.Exactness.{pivot_exact}
use Rattle.qm_tableau.proofs.Greatest.{chosen_is}
use Rattle.qm_tableau.proofs.PivotGood.{pivoted_positive}
use Rattle.qm_simplex.specs.Exact.{LeadsExactly, exact_choice}
use Rattle.qm_simplex.specs.Runs.{Leads, Pivot}
use Rattle.qm_simplex.proofs.SameChoice.{choice_same}
use Rattle.qm_simplex.proofs.SameTables.{exact_positive, pivoted_width, pivots_same, rows_refl, same_entry_above}

-- a run, and the exact run from a tableau with the same numbers
run_from : (t u last : Table) (pivots : List Pivot) → AreSameTables t u → All (λ row. length row ≡ suc (length t.columns)) t.rows → All (λ row. All HasPositiveDen row) t.rows
    → All (λ row. All HasPositiveDen row) u.rows → Leads t pivots last
    → (v : Table) × LeadsExactly u pivots v × AreSameTables last v × ((named : Choice) → chosen last ≡ Ok named → exact_choice v ≡ named)
run_from t u last [] e w td ud h =
    (u, refl, subst (λ (x : Table). AreSameTables x u) h e, subst (λ (x : Table). (named : Choice) → chosen x ≡ Ok named → exact_choice u ≡ named) h (λ named c. choice_same t u named e td ud c))
run_from t u last (p ∷ ps) e w td ud h =
    let r = p.0 in
    let c = p.1 in
    let is = chosen_is t r c td h.0 in
    let some = unsigned_abs-above_zero (entry_of (row_at t.rows r) c).num is.entry in
    let other = same_entry_above t.rows u.rows r c e.rows td ud is.entry in
    let after = pivots_same t u h.1 r c is.row some w td e h.2 in
    let exact = pivot_exact t h.1 r c is.row some w td h.2 in
    let rest = run_from h.1 (exact_table u r c) last ps after (pivoted_width t h.1 r c is.row w exact) (pivoted_positive t h.1 r c is.row some td h.2) (exact_positive u r c other ud) h.3 in
    (rest.0, (choice_same t u (choice.Pivot r c) e td ud h.0, rest.1), rest.2, rest.3)

pub runs_exact : (t last : Table) (pivots : List Pivot) → All (λ row. length row ≡ suc (length t.columns)) t.rows → All (λ row. All HasPositiveDen row) t.rows → Leads t pivots last
    → (u : Table) × LeadsExactly t pivots u × AreSameTables last u × ((named : Choice) → chosen last ≡ Ok named → exact_choice u ≡ named)
runs_exact t last pivots w d h = run_from t t last pivots (record { columns = refl; rows = rows_refl t.rows }) w d d h
