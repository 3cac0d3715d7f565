-- A journal as contracts see it.
use Rattle.std.specs.Prelude.{ℕ, List}
use Rattle.qm_journal.specs.declared.entry.JEntry.{JEntry}

-- how many entries there may be, and the entries in order
pub record Contents : Type 0 where
  pub limit : ℕ
  pub entries : List JEntry
