use Rattle.std.proofs.Common.{◌≡◌, ◌<◌, ◌≤◌, ℕ, get_or, length, pos}
use Rattle.std.specs.Prelude.{IfSome}
use Rattle.qm_model.specs.Linear.{coefficient}
use Rattle.qm_trees.specs.declared.cut_combo.CutEntry.{CutEntry}
use Rattle.qm_trees.specs.CutEntries.{row_on}
use Rattle.qm_cuts.proofs.nexts.next_variable.Given as goal

abbrev pub invariant-loop-entry : goal.invariant-loop-entry
invariant-loop-entry l = record {
  later : l.from ≤ l.next;
  within : l.next ≤ length l.problem.vars;
  none : (n : ℕ) → l.from ≤ n → n < l.next → (k : ℕ) (d : CutEntry) → k < l.entry-index → IfSome (row_on l.problem l.earlier (get_or l.entries k d).on) (λ row. coefficient row.terms n ≡ pos 0);
}
