-- A text on its way to a sink, piece by piece. No public clause cites this.
use Rattle.std.specs.Prelude.{◌≡◌, ℕ, List, ◌++◌}
use Rattle.std.specs.declared.option.Option.{Option}
use Rattle.std.specs.Io.KnownBytes.{Appends}

-- the sink took a front of the text, and what is left is still to come
pub record IsUnderway (before now : Option (List ℕ)) (left text : List ℕ) : Type 0 where
  pub front : List ℕ
  pub taken : Appends before now front
  pub parts : text ≡ front ++ left
