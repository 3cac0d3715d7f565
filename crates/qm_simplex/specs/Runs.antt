-- Runs: pivot after pivot by the rule.
use Rattle.std.specs.Prelude.{◌≡◌, ℕ, List, [], ◌∷◌, Ok}
use Rattle.qm_tableau.specs.declared.choice.Choice.TheVariants as choice
use Rattle.qm_tableau.specs.Tables.{Table}
use Rattle.qm_tableau.specs.Rule.{chosen}
use Rattle.qm_tableau.specs.Pivoting.{pivoted}

-- a row and a column
abbrev pub Pivot : Type 0
Pivot = ℕ × ℕ

-- From a tableau the rule names these pivots, one after the other, no operation leaves, and they lead to the last tableau.
abbrev pub Leads : Table → List Pivot → Table → Type 0
Leads t [] last = t ≡ last
Leads t (p ∷ ps) last = (chosen t ≡ Ok (choice.Pivot p.0 p.1)) × (u : Table) × (pivoted t p.0 p.1 ≡ Ok u) × Leads u ps last
