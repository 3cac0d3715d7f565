-- A small text states its problem by the whole grammar.
use Rattle.std.proofs.Common.{ℕ, ◌^◌, ◌≤◌, List, length, sym, subst, arith}
use Rattle.qm_model.specs.declared.game.Problem.{Problem}
use Rattle.qm_normal.specs.Stated.{States}
use Rattle.qm_parse.specs.Symbols.{names_of}
use Rattle.qm_small.specs.Written.{Written}
use Rattle.qm_small.specs.Grammar.{SpellsText}
use Rattle.qm_small.specs.Names.{NamesFit}
use Rattle.qm_small.specs.Problems.{problem_of}
use Rattle.qm_small.specs.Small.{IsSmallText}
use Rattle.qm_small.proofs.SameProblems.{normal_is}
use Rattle.qm_small.proofs.SameReading.{text_few, text_read}

states : (text : List ℕ) (written : Written) → length text ≤ 4194304 → SpellsText text written → NamesFit written → States text (problem_of written)
states text written short spelled right =
    let read = text_read text written spelled right in
    let few = text_few text written (2 ^ 64) (omega arith) spelled in
    record {
      tokens = read.tokens;
      cut = read.cut;
      ast = read.ast;
      parsed = read.parsed;
      normal = normal_is (names_of text read.tokens) written read.ast read.tree right few;
    }

pub small_texts_state : (text : List ℕ) (P : Problem) → IsSmallText text P → States text P
small_texts_state text P small = subst (States text) (sym small.problem) (states text small.written small.short small.spelled small.names_right)
