-- How many rows a good tableau has.
use Rattle.std.proofs.Common.{◌≡◌, ℕ, ◌+◌, ◌*◌, ◌^◌, ◌<◌, arith, List, ◌++◌, length, length-append, Ok}
use Rattle.qm_model.specs.declared.range.Range.{Range}
use Rattle.qm_model.specs.declared.row.Row.{Row}
use Rattle.qm_model.specs.declared.game.Problem.{Problem}
use Rattle.qm_model.specs.Boxes.{IsBox}
use Rattle.qm_model.specs.Sound.{IsSound}
use Rattle.qm_model.proofs.BoxLaws.{IsBox-length}
use Rattle.qm_tableau.specs.declared.choice.Choice.TheVariants as choice
use Rattle.qm_tableau.specs.Good.{IsGood}
use Rattle.qm_tableau.specs.Rule.{chosen}
use Rattle.qm_tableau.specs.Tables.{Table}
use Rattle.qm_tableau.proofs.Rooms.{count_quantities}
use Rattle.qm_simplex.specs.Multipliers.{slack_rows, slacks_start}
use Rattle.qm_simplex.proofs.ClosingEntries.{void_row}

pub objective_row : (P : Problem) (cuts : List Row) (bx : List Range) (t : Table) → IsGood P cuts bx t → 0 < length t.rows
objective_row P cuts bx t good = let height = good.height in let count = count_quantities P cuts bx in omega (arith, height, count)

pub variable_rows : (P : Problem) (cuts : List Row) (bx : List Range) (t : Table) → IsGood P cuts bx t → 2 * length bx < length t.rows
variable_rows P cuts bx t good = let height = good.height in let count = count_quantities P cuts bx in omega (arith, height, count)

pub few_ranges : (P : Problem) (bx : List Range) → IsSound P → IsBox P.vars bx → length bx < 2 ^ 29
few_ranges P bx sound box = let same = IsBox-length P.vars bx box in let few = sound.few_vars in omega (arith, same, few)

pub few_slacks : (P : Problem) (cuts : List Row) (bx : List Range) → IsSound P → length cuts < 2 ^ 29 → IsBox P.vars bx
    → slacks_start bx + length (slack_rows P cuts) < 2 ^ 32
few_slacks P cuts bx sound few box =
    let ranges = few_ranges P bx sound box in
    let rows = sound.few_rows in
    let urows = sound.few_urows in
    let all = length-append P.rows (P.urows ++ cuts) in
    let others = length-append P.urows cuts in
    omega (arith, few, ranges, rows, urows, all, others)

-- a row that can't be raised is there
pub void_row_there : (t : Table) (r : ℕ) → chosen t ≡ Ok (choice.VoidRow r) → r < length t.rows
void_row_there t r named = (void_row t r named).row
