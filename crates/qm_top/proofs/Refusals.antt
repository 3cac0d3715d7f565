-- Bytes state a problem or are refused, and not both; they are refused with one status and one text.
use Rattle.std.proofs.Common.{◌≡◌, ◌≢◌, ℕ, List, [], ◌∷◌, Result, Ok, Err, ◌⊎◌, inl, inr, refl, sym, ap, subst, ◌∙◌}
use Rattle.std.specs.Prelude.{codes}
use Rattle.qm_lex.specs.declared.token.Token.{Token}
use Rattle.qm_lex.specs.Places.{place_of}
use Rattle.qm_lex.specs.Texts.{AreTokens}
use Rattle.qm_lex.proofs.Every.{one_of_both}
use Rattle.qm_lex.proofs.Reached.{tokens_have_no_bad_byte, one_bad}
use Rattle.qm_model.specs.declared.game.Problem.{Problem}
use Rattle.qm_parse.specs.declared.ast.Ast.{Ast}
use Rattle.qm_parse.specs.declared.fault.ParseFault.{ParseFault}
use Rattle.qm_parse.specs.declared.fault.ParseFault.TheVariants as parse
use Rattle.qm_parse.specs.Parsing.{IsParsed}
use Rattle.qm_parse.proofs.OneSymbols.{OneDecimal}
use Rattle.qm_parse.proofs.SomeAnswer.{some_answer}
use Rattle.qm_normal.specs.declared.fault.NormalFault.{NormalFault}
use Rattle.qm_normal.specs.declared.fault.NormalFault.TheVariants as normal
use Rattle.qm_normal.specs.Normal.{normal_form}
use Rattle.qm_normal.specs.Stated.{States}
use Rattle.qm_normal.proofs.NoFaultOfMemory.{form_told}
use Rattle.qm_normal.proofs.StatedOnce.{one_reading, one_tree, tree_told}
use Rattle.qm_top.specs.FaultLines.{TellsNormal, TellsParse, text_line}
use Rattle.qm_top.specs.Refusals.{Refuses, bad_byte, beyond, unread}

-- memory didn't run out
abbrev IsTold : Result Ast ParseFault → Type 0
IsTold answer = answer ≢ Err parse.Memory

-- a fault that is told isn't want of memory
told_parse : (fault : ParseFault) (text : List ℕ) → TellsParse fault text → IsTold (Err fault)
told_parse (parse.Expected at what) text is same = cc
told_parse (parse.Number at) text is same = cc
told_parse (parse.BothPlayers name at) text is same = cc
told_parse (parse.Twice name at) text is same = cc
told_parse (parse.Unknown name at) text is same = cc
told_parse (parse.Unordered name at) text is same = cc
told_parse (parse.Infinite name at) text is same = cc
told_parse (parse.NoUpper name at) text is same = cc
told_parse parse.Memory text is same = is

parse_once : (fault : ParseFault) (text other : List ℕ) → TellsParse fault text → TellsParse fault other → text ≡ other
parse_once (parse.Expected at what) text other is so = is ∙ sym so
parse_once (parse.Number at) text other is so = is ∙ sym so
parse_once (parse.BothPlayers name at) text other is so = is ∙ sym so
parse_once (parse.Twice name at) text other is so = is ∙ sym so
parse_once (parse.Unknown name at) text other is so = is ∙ sym so
parse_once (parse.Unordered name at) text other is so = is ∙ sym so
parse_once (parse.Infinite name at) text other is so = is ∙ sym so
parse_once (parse.NoUpper name at) text other is so = is ∙ sym so
parse_once parse.Memory text other is so = absurd is

-- the status and the text are the same
abbrev pub AreSame : ℕ → ℕ → List ℕ → List ℕ → Type 0
AreSame status other text another = (status ≡ other) × (text ≡ another)

both_told : (n : ℕ) (words : List ℕ) (status other : ℕ) (text another : List ℕ)
    → (status ≡ n) × (text ≡ words) → (other ≡ n) × (another ≡ words) → AreSame status other text another
both_told n words status other text another is so = (is.0 ∙ sym so.0, is.1 ∙ sym so.1)

normal_once : (fault : NormalFault) (status other : ℕ) (text another : List ℕ) → TellsNormal fault status text → TellsNormal fault other another → AreSame status other text another
normal_once (normal.ContinuousUniversal name at) status other text another is so = both_told _ _ status other text another is so
normal_once (normal.ContinuousEarly name at) status other text another is so = both_told _ _ status other text another is so
normal_once (normal.ExistsInUncertainty name at) status other text another is so = both_told _ _ status other text another is so
normal_once (normal.Many counted n) status other text another is so = both_told _ _ status other text another is so
normal_once (normal.Domain name) status other text another is so = both_told _ _ status other text another is so
normal_once (normal.Wide which) status other text another is so = both_told _ _ status other text another is so
normal_once normal.Memory status other text another is so = absurd is

pub not_refused : OneDecimal → (bytes : List ℕ) (P : Problem) (status : ℕ) (text : List ℕ) → States bytes P → Refuses bytes status text → ⊥
not_refused law bytes P status text stated (bad_byte at bad is line) = tokens_have_no_bad_byte bytes stated.tokens at stated.cut bad
not_refused law bytes P status text stated (unread tokens fault cut parsed is line) =
    let same : Ok stated.ast ≡ Err fault =
    one_reading law bytes stated.tokens tokens (Ok stated.ast) (Err fault) stated.cut cut stated.parsed parsed (tree_told stated.ast) (told_parse fault text line) in
    cc
not_refused law bytes P status text stated (beyond tokens ast fault cut parsed is line) =
    let same : stated.ast ≡ ast = one_tree law bytes tokens ast P stated cut parsed in
    let form = stated.normal in
    cc

-- a tree and a fault of the grammar don't go together
not_both_read : OneDecimal → (bytes : List ℕ) (tokens others : List Token) (fault : ParseFault) (ast : Ast) (text : List ℕ)
    → AreTokens bytes tokens → IsParsed bytes tokens (Err fault) → TellsParse fault text → AreTokens bytes others → IsParsed bytes others (Ok ast) → ⊥
not_both_read law bytes tokens others fault ast text cut parsed line also read =
    let same : Err fault ≡ Ok ast = one_reading law bytes tokens others (Err fault) (Ok ast) cut also parsed read (told_parse fault text line) (tree_told ast) in
    cc

one_fault : OneDecimal → (bytes : List ℕ) (tokens others : List Token) (fault other : ParseFault) (text another : List ℕ)
    → AreTokens bytes tokens → IsParsed bytes tokens (Err fault) → TellsParse fault text
    → AreTokens bytes others → IsParsed bytes others (Err other) → TellsParse other another → fault ≡ other
one_fault law bytes tokens others fault other text another cut parsed line also read told =
    let same : Err fault ≡ Err other =
    one_reading law bytes tokens others (Err fault) (Err other) cut also parsed read (told_parse fault text line) (told_parse other another told) in
    cc

one_form : OneDecimal → (bytes : List ℕ) (tokens others : List Token) (ast tree : Ast) (fault other : NormalFault)
    → AreTokens bytes tokens → IsParsed bytes tokens (Ok ast) → normal_form ast ≡ Err fault
    → AreTokens bytes others → IsParsed bytes others (Ok tree) → normal_form tree ≡ Err other → fault ≡ other
one_form law bytes tokens others ast tree fault other cut parsed is also read so =
    let same : Ok ast ≡ Ok tree = one_reading law bytes tokens others (Ok ast) (Ok tree) cut also parsed read (tree_told ast) (tree_told tree) in
    cc

pub one_refusal : OneDecimal → (bytes : List ℕ) (status other : ℕ) (text another : List ℕ) → Refuses bytes status text → Refuses bytes other another → AreSame status other text another
one_refusal law bytes status other text another (bad_byte at bad is line) (bad_byte place worse so told) =
    (is ∙ sym so, line ∙ ap (λ n. text_line (place_of bytes n) (codes "byte" ∷ [])) (one_bad bytes at place bad worse) ∙ sym told)
one_refusal law bytes status other text another (bad_byte at bad is line) (unread tokens fault cut parsed so told) = absurd (tokens_have_no_bad_byte bytes tokens at cut bad)
one_refusal law bytes status other text another (bad_byte at bad is line) (beyond tokens ast fault cut parsed so told) = absurd (tokens_have_no_bad_byte bytes tokens at cut bad)
one_refusal law bytes status other text another (unread tokens fault cut parsed is line) (bad_byte at bad so told) = absurd (tokens_have_no_bad_byte bytes tokens at cut bad)
one_refusal law bytes status other text another (unread tokens fault cut parsed is line) (unread others worse also read so told) =
    let same : worse ≡ fault = one_fault law bytes others tokens worse fault another text also read told cut parsed line in
    (is ∙ sym so, parse_once fault text another line (subst (λ f. TellsParse f another) same told))
one_refusal law bytes status other text another (unread tokens fault cut parsed is line) (beyond others ast worse also read so told) =
    absurd (not_both_read law bytes tokens others fault ast text cut parsed line also read)
one_refusal law bytes status other text another (beyond tokens ast fault cut parsed is line) (bad_byte at bad so told) = absurd (tokens_have_no_bad_byte bytes tokens at cut bad)
one_refusal law bytes status other text another (beyond tokens ast fault cut parsed is line) (unread others worse also read so told) =
    absurd (not_both_read law bytes others tokens worse ast another also read told cut parsed)
one_refusal law bytes status other text another (beyond tokens ast fault cut parsed is line) (beyond others tree worse also read so told) =
    let same : worse ≡ fault = one_form law bytes others tokens tree ast worse fault also read so cut parsed is in
    normal_once fault status other text another line (subst (λ f. TellsNormal f other another) same told)

-- each fault of the grammar that isn't want of memory has a line
parse_line : (fault : ParseFault) → IsTold (Err fault) → (text : List ℕ) × TellsParse fault text
parse_line (parse.Expected at what) told = (_, refl)
parse_line (parse.Number at) told = (_, refl)
parse_line (parse.BothPlayers name at) told = (_, refl)
parse_line (parse.Twice name at) told = (_, refl)
parse_line (parse.Unknown name at) told = (_, refl)
parse_line (parse.Unordered name at) told = (_, refl)
parse_line (parse.Infinite name at) told = (_, refl)
parse_line (parse.NoUpper name at) told = (_, refl)
parse_line parse.Memory told = absurd (told refl)

-- and so has each fault of scope or of a limit
normal_line : (fault : NormalFault) → fault ≢ normal.Memory → (status : ℕ) × (text : List ℕ) × TellsNormal fault status text
normal_line (normal.ContinuousUniversal name at) told = (5, _, (refl, refl))
normal_line (normal.ContinuousEarly name at) told = (5, _, (refl, refl))
normal_line (normal.ExistsInUncertainty name at) told = (5, _, (refl, refl))
normal_line (normal.Many counted n) told = (6, _, (refl, refl))
normal_line (normal.Domain name) told = (6, _, (refl, refl))
normal_line (normal.Wide which) told = (6, _, (refl, refl))
normal_line normal.Memory told = absurd (told refl)

-- bytes state a problem, or are refused
abbrev IsStatedOrRefused : List ℕ → Type 0
IsStatedOrRefused bytes = ((P : Problem) × States bytes P) ⊎ ((status : ℕ) × (text : List ℕ) × Refuses bytes status text)

form_or_fault : (bytes : List ℕ) (tokens : List Token) (ast : Ast) (form : Result Problem NormalFault)
    → AreTokens bytes tokens → IsParsed bytes tokens (Ok ast) → normal_form ast ≡ form → IsStatedOrRefused bytes
form_or_fault bytes tokens ast (Ok P) cut parsed is = inl (P, record { tokens = tokens; cut = cut; ast = ast; parsed = parsed; normal = is })
form_or_fault bytes tokens ast (Err fault) cut parsed is =
    let told : fault ≢ normal.Memory = λ same. let memory : normal_form ast ≡ Err normal.Memory = is ∙ ap (λ (f : NormalFault). Err f) same in form_told ast memory in
    let line = normal_line fault told in
    inr (line.0, line.1, beyond tokens ast fault cut parsed is line.2)

tree_or_fault : (bytes : List ℕ) (tokens : List Token) (answer : Result Ast ParseFault) → AreTokens bytes tokens → IsTold answer → IsParsed bytes tokens answer → IsStatedOrRefused bytes
tree_or_fault bytes tokens (Ok ast) cut told parsed = form_or_fault bytes tokens ast (normal_form ast) cut parsed refl
tree_or_fault bytes tokens (Err fault) cut told parsed =
    let line = parse_line fault told in
    inr (5, line.0, unread tokens fault cut parsed refl line.1)

pub stated_or_refused : (bytes : List ℕ) → IsStatedOrRefused bytes
stated_or_refused bytes =
    elim (one_of_both bytes) [
      | inl cut ↦ let answer = some_answer bytes cut.0 cut.1 in tree_or_fault bytes cut.0 answer.0 cut.1 answer.1 answer.2
      | inr bad ↦ inr (5, text_line (place_of bytes bad.0) (codes "byte" ∷ []), bad_byte bad.0 bad.1 refl refl)
    ]
