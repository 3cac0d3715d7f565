-- What the bytes of a text come to: the problem that they state, or the report that says why they state none.
use Rattle.std.specs.Prelude.{ℕ, List}
use Rattle.qm_normal.specs.Stated.{States}
use Rattle.qm_top.specs.declared.stated.Stated.{Stated}
use Rattle.qm_top.specs.declared.stated.Stated.TheVariants.{Game, Refused}
use Rattle.qm_top.specs.Refusals.{Refuses}
use Rattle.qm_top.specs.Report.{status_of, text_of}

abbrev pub IsStated : List ℕ → Stated → Type 0
IsStated bytes (Game P) = States bytes P
IsStated bytes (Refused report) = Refuses bytes (status_of report) (text_of report)
