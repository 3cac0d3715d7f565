-- Reading a text token by token. Of the public clauses `a_text_is_read` cites this, and `IsText` its empty tree.
use Rattle.std.specs.Prelude.{ℕ, Bool, true, false, List, [], ◌∷◌, Some, None, Result, Ok, Err, if◌then◌else◌}
use Rattle.qm_lex.specs.declared.place.Place.{Place}
use Rattle.qm_model.specs.declared.game.Sense.TheVariants.{Max}
use Rattle.qm_parse.specs.declared.ast.Ast.{Ast}
use Rattle.qm_parse.specs.declared.ast.Relation.TheVariants.{Less}
use Rattle.qm_parse.specs.declared.draft.Draft.{Draft}
use Rattle.qm_parse.specs.declared.stage.Stage.{Stage}
use Rattle.qm_parse.specs.declared.stage.Stage.TheVariants.{Start, Ended}
use Rattle.qm_parse.specs.declared.stage.State.{State}
use Rattle.qm_parse.specs.declared.word.Symbol.{Symbol}
use Rattle.qm_parse.specs.declared.word.Word.{Word}
use Rattle.qm_parse.specs.declared.word.Word.TheVariants.{Number}
use Rattle.qm_parse.specs.declared.unread.Unread.{Unread}
use Rattle.qm_parse.specs.declared.unread.Unread.TheVariants as unread
use Rattle.qm_parse.specs.Drafts.{noted, one}
use Rattle.qm_parse.specs.Stages.{expected, next_state, wanted}

-- the number is no fraction of 128 bits
unfoldable pub leaves : Word → Bool
leaves (Number None) = true
leaves word = false

-- nothing was read
unfoldable pub start : State
start = record {
  stage = Start;
  seen = record { uncertainty = false; bounds = false; generals = false; binaries = false; exists = false; all = false; order = false };
}

unfoldable pub empty_ast : List (List ℕ) → Ast
empty_ast names = record {
  sense = Max;
  objective = [];
  rows = [];
  uncertain = [];
  bounds = [];
  generals = [];
  binaries = [];
  existential = [];
  universal = [];
  order = [];
  names = names;
}

unfoldable pub empty_draft : List (List ℕ) → Draft
empty_draft names = record {
  ast = empty_ast names;
  terms = [];
  row_at = record { line = 1; column = 1 };
  negative = false;
  coef = one;
  at = record { line = 1; column = 1 };
  value = None;
  relation = Less;
  name = 0;
}

-- the end of the text is reached at this place
unfoldable pub finished : Stage → Draft → Place → Result Ast Unread
finished Ended draft end = Ok draft.ast
finished stage draft end = Err (unread.Expected end (wanted stage))

-- the symbols from here on, up to the end of the text
unfoldable pub read : State → Draft → List Symbol → Place → Result Ast Unread
read state draft [] end = finished state.stage draft end
read state draft (symbol ∷ symbols) end = elim (next_state state symbol) [
  | None ↦ Err (unread.Expected symbol.place (expected state.stage symbol))
  | Some next ↦
      if leaves symbol.word then Err (unread.Number symbol.place)
      else read next (noted state.stage state.seen.uncertainty symbol.word symbol.place draft) symbols end
]
