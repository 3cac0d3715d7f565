-- How a certificate names rows and variables: each version of the text has its style.
use Rattle.std.specs.Prelude.{ℕ, ◌+◌, List, [], ◌++◌, codes}
use Rattle.std.specs.Fmt.{decimal}
use Rattle.qm_model.specs.declared.row_id.RowId.{RowId}
use Rattle.qm_model.specs.declared.row_id.RowId.TheVariants as id
use Rattle.qm_certfile.specs.Lines.{Word}

pub record Style : Type 0 where
  -- the version's number
  pub version : Word
  -- the name of a row
  pub row_name : RowId → Word
  -- what names the variable of a place, before what is said of it
  pub variable : ℕ → List Word
  -- the word for the variable of a split
  pub split_variable : ℕ → Word
  -- the words of values of the universal variables from a place on
  pub universal_values : ℕ → List Word → List Word
  -- the words of values of the continuous variables
  pub continuous_values : List Word → List Word

-- rows by their kind and number, counted from 1
abbrev pub numbered : RowId → Word
numbered (id.Row n) = codes "r" ++ decimal (n + 1)
numbered (id.Uncertain n) = codes "u" ++ decimal (n + 1)
numbered (id.Cut n) = codes "c" ++ decimal (n + 1)

-- version 1: rows by number, and variables by their place in the text alone, but for splits, which name the number
abbrev pub first_style : Style
first_style = record {
  version = codes "1";
  row_name = numbered;
  variable = λ place. [];
  split_variable = λ var. decimal (var + 1);
  universal_values = λ place words. words;
  continuous_values = λ words. words;
}
