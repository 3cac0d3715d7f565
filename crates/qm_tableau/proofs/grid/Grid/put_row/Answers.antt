use Rattle.std.proofs.Common.{◌≡◌, ◌∙◌, ◌∷◌, ◌++◌, add-one, ap, ap₂, arith, ℕ, suc, sym, List, [], length}
use Rattle.qm_math.specs.Fraction.{Fraction}
use Rattle.qm_tableau.specs.StoredSteps.{FractionRows}
use Rattle.qm_tableau.specs.Tables.{rows_of}
use Rattle.qm_tableau.specs.Wholes.{fractions_of}
use Rattle.qm_tableau.proofs.Cuts.{length_rows_of}
use Rattle.qm_tableau.proofs.RowLists.{rows_behind}
use Rattle.qm_tableau.proofs.WholeEntries.{length_fractions}
use Rattle.qm_tableau.proofs.grid.Grid.put_row.Goals as goal

pub overflow_add-self : goal.overflow_add-self
overflow_add-self c =
    let g = c.self.inside in
    let many = length_rows_of g.width g.height g.entries.items in
    let seen : length (rows_of g.width g.height g.entries.items) ≡ length c.args.self.now.rows = ap (λ (f : FractionRows). length f.rows) c.self.view_is in
    omega (arith, many, seen, c.requires.few)

pub returns-clause-rows : goal.returns-clause-rows
returns-clause-rows c =
    let g = c.self.inside in
    let row = fractions_of c.args.row.now in
    let width : g.width ≡ c.args.self.now.width = ap (λ (f : FractionRows). f.width) c.self.view_is in
    ap₂ (λ (k : ℕ) (xs : List Fraction). rows_of g.width k xs) (add-one g.height) c.put_fractions.ensures.items
    ∙ rows_behind g.width g.height g.entries.items row c.self.invariant (length_fractions c.args.row.now g.width (c.requires.width ∙ ap suc (sym width)))
    ∙ ap (λ (f : FractionRows). f.rows ++ row ∷ []) c.self.view_is
