-- The entries of the first slacks.
use Rattle.std.proofs.Common.{◌≡◌, refl, sym, subst, ℕ, zero, suc, ◌<◌, ◌≤◌, arith, Bool, true, false, eqb-true, List, [], ◌∷◌, ◌++◌}
use Rattle.std.specs.Prelude.{◌==◌}
use Rattle.std.proofs.lemmas.Bool.{eqb-false}
use Rattle.qm_math.specs.Fraction.{Fraction}
use Rattle.qm_model.specs.declared.row_id.RowId.{RowId}
use Rattle.qm_trees.specs.declared.combination.Entry.{Entry}
use Rattle.qm_trees.specs.Entries.{AreEntries}
use Rattle.qm_simplex.specs.Multipliers.{entries_below, entry_for}

-- the first of some entries are entries
first_entries : (es fs : List Entry) → AreEntries (es ++ fs) → AreEntries es
first_entries [] fs h = tt
first_entries (e ∷ []) [] h = h
first_entries (e ∷ []) (f ∷ fs) h = h.0
first_entries (e ∷ g ∷ es) fs h = (h.0, h.1, first_entries (g ∷ es) fs h.2)

pub entries_up_to : (name : ℕ → RowId) (by : ℕ → Fraction) (n m : ℕ) → n ≤ m → AreEntries (entries_below name by m) → AreEntries (entries_below name by n)
entries_up_to name by n zero h all = let none : n ≡ 0 = omega (arith, h) in subst (λ (k : ℕ). AreEntries (entries_below name by k)) (sym none) all
entries_up_to name by n (suc m) h all =
    by_test (n == suc m) refl (λ below. entries_up_to name by n m below (first_entries (entries_below name by m) (entry_for (name m) (by m)) all))
  where
    by_test : (b : Bool) → (n == suc m) ≡ b → (n ≤ m → AreEntries (entries_below name by n)) → AreEntries (entries_below name by n)
    by_test true e earlier = let same : n ≡ suc m = eqb-true n (suc m) e in subst (λ (k : ℕ). AreEntries (entries_below name by k)) (sym same) all
    by_test false e earlier = let other : n ≡ suc m → ⊥ = eqb-false n (suc m) e in earlier (omega (arith, h, other))

-- the entry of the next slack is put behind them
pub entries_so_far : (name : ℕ → RowId) (by : ℕ → Fraction) (n m : ℕ) → n < m → AreEntries (entries_below name by m)
    → AreEntries (entries_below name by n ++ entry_for (name n) (by n))
entries_so_far name by n m h all = entries_up_to name by (suc n) m (omega (arith, h)) all
