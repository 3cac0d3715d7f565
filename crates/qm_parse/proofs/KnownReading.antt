-- The numbers of names in a tree that was read.
use Rattle.std.proofs.Common.{◌≡◌, ℕ, List}
use Rattle.std.specs.Prelude.{Ok}
use Rattle.qm_lex.specs.declared.place.Place.{Place}
use Rattle.qm_parse.specs.declared.ast.Ast.{Ast}
use Rattle.qm_parse.specs.declared.word.Symbol.{Symbol}
use Rattle.qm_parse.specs.Known.{AreKnown, HasNumbersBelow}
use Rattle.qm_parse.specs.Reading.{empty_draft, read, start}
use Rattle.qm_parse.proofs.KnownTexts.{below-IsText}
use Rattle.qm_parse.proofs.WrittenTexts.{text_read}

pub below-read : (n : ℕ) (names : List (List ℕ)) (symbols : List Symbol) (end : Place) (ast : Ast)
    → AreKnown n symbols → read start (empty_draft names) symbols end ≡ Ok ast → HasNumbersBelow n ast
below-read n names symbols end ast known e = below-IsText names n symbols ast known (text_read names symbols end ast e)
