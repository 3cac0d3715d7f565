-- Why the bytes of a text state no problem, as the status and the text that say so.
use Rattle.std.specs.Prelude.{◌≡◌, ℕ, List, [], ◌∷◌, codes, Ok, Err}
use Rattle.qm_lex.specs.declared.token.Token.{Token}
use Rattle.qm_lex.specs.Places.{place_of}
use Rattle.qm_lex.specs.Texts.{AreTokens, IsFirstBad}
use Rattle.qm_parse.specs.declared.ast.Ast.{Ast}
use Rattle.qm_parse.specs.declared.fault.ParseFault.{ParseFault}
use Rattle.qm_parse.specs.Parsing.{IsParsed}
use Rattle.qm_normal.specs.declared.fault.NormalFault.{NormalFault}
use Rattle.qm_normal.specs.Normal.{normal_form}
use Rattle.qm_top.specs.FaultLines.{TellsNormal, TellsParse, text_line}

pub data Refuses (bytes : List ℕ) (status : ℕ) (text : List ℕ) : Type 0 where
  -- a byte begins no token
  bad_byte : (at : ℕ) → IsFirstBad bytes at → status ≡ 5 → text ≡ text_line (place_of bytes at) (codes "byte" ∷ []) → Refuses bytes status text
  -- the tokens are no text of the format, or use names wrong
  unread : (tokens : List Token) (fault : ParseFault) → AreTokens bytes tokens → IsParsed bytes tokens (Err fault) → status ≡ 5 → TellsParse fault text → Refuses bytes status text
  -- the problem is out of scope, or beyond a limit
  beyond : (tokens : List Token) (ast : Ast) (fault : NormalFault) → AreTokens bytes tokens → IsParsed bytes tokens (Ok ast) → normal_form ast ≡ Err fault → TellsNormal fault status text → Refuses bytes status text
