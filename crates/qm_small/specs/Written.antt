-- Words, and what they say.
use Rattle.std.specs.Prelude.{ℕ, ℤ, Bool, List}

-- a word, and whether an LF stands between it and the word before
pub record Word : Type 0 where
  pub bytes : List ℕ
  pub after_line : Bool

-- a signed multiple of a variable, as it is written; a factor that isn't written is 1
pub record WrittenTerm : Type 0 where
  pub negative : Bool
  pub factor : ℕ
  pub name : List ℕ

-- terms, and the right side of their `<=`
pub record WrittenRow : Type 0 where
  pub terms : List WrittenTerm
  pub right : ℤ

-- what a small text says, in the order of the text; a list that isn't written is empty
pub record Written : Type 0 where
  pub objective : List WrittenTerm
  pub rows : List WrittenRow
  pub uncertain : List WrittenRow
  pub binaries : List (List ℕ)
  pub exists : List (List ℕ)
  pub universal : List (List ℕ)
  pub order : List (List ℕ)
