-- A text and its tokens have one answer, unless memory ran out.
use Rattle.std.proofs.Common.{◌≡◌, ◌≢◌, ℕ, ◌⊎◌, inl, inr, List, Some, None, Result, Ok, Err, length, refl, sym, ap, subst, ◌∙◌}
use Rattle.std.specs.Prelude.{slice_get}
use Rattle.qm_lex.specs.declared.place.Place.{Place}
use Rattle.qm_lex.specs.declared.token.Token.{Token}
use Rattle.qm_lex.specs.Places.{place_of}
use Rattle.qm_parse.specs.declared.ast.Ast.{Ast}
use Rattle.qm_parse.specs.declared.fault.ParseFault.{ParseFault}
use Rattle.qm_parse.specs.declared.fault.ParseFault.TheVariants as fault
use Rattle.qm_parse.specs.declared.offence.NameFault.{NameFault}
use Rattle.qm_parse.specs.declared.offence.Offence.{Offence}
use Rattle.qm_parse.specs.declared.offence.Offence.TheVariants as offence
use Rattle.qm_parse.specs.declared.unread.Unread.{Unread}
use Rattle.qm_parse.specs.declared.unread.Unread.TheVariants as unread
use Rattle.qm_parse.specs.declared.word.Symbol.{Symbol}
use Rattle.qm_parse.specs.Checks.{name_fault}
use Rattle.qm_parse.specs.Faults.{IsFirstFault}
use Rattle.qm_parse.specs.Parsing.{HasOffence, IsAnswerOf, IsJudged, IsParsed, IsReadAs, fault_of}
use Rattle.qm_parse.specs.Symbols.{names_of}
use Rattle.qm_parse.specs.Texts.{IsText, KnowColons}
use Rattle.qm_parse.proofs.OneFault.{one_fault, text_without_fault}
use Rattle.qm_parse.proofs.OneSymbols.{OneDecimal, distinct-names_of, symbols-once}
use Rattle.qm_parse.proofs.ReadTexts.{trees_same}
use Rattle.qm_parse.proofs.SymbolColons.{colons-known}

abbrev Answer : Type 0
Answer = Result Ast ParseFault

-- memory didn't run out
abbrev IsTold : Answer → Type 0
IsTold answer = answer ≢ Err fault.Memory

-- how an offence is told
abbrev pub told : Offence → List ℕ → Place → Answer
told offence.BothPlayers name at = Err (fault.BothPlayers name at)
told offence.Twice name at = Err (fault.Twice name at)
told offence.Unknown name at = Err (fault.Unknown name at)
told offence.Unordered name at = Err (fault.Unordered name at)
told offence.Infinite name at = Err (fault.Infinite name at)
told offence.NoUpper name at = Err (fault.NoUpper name at)

some-same : {A : Type 0} (x y : A) → Some x ≡ Some y → x ≡ y
some-same x y same = cc

offence-once : (ast : Ast) (kind other_kind : Offence) (name other_name : List ℕ) (at other_at : Place)
    → HasOffence ast kind name at → HasOffence ast other_kind other_name other_at → told kind name at ≡ told other_kind other_name other_at
offence-once ast kind other_kind name other_name at other_at has had =
    let one : NameFault = record { offence = kind; name = has.0; at = at } in
    let other : NameFault = record { offence = other_kind; name = had.0; at = other_at } in
    let faults : one ≡ other = some-same one other (sym has.1 ∙ had.1) in
    let numbers : has.0 ≡ had.0 = ap (λ (f : NameFault). f.name) faults in
    let names : name ≡ other_name = some-same name other_name (sym has.2 ∙ ap (slice_get ast.names) numbers ∙ had.2) in
    ap (λ k. told k name at) (ap (λ (f : NameFault). f.offence) faults)
    ∙ ap (λ n. told other_kind n at) names
    ∙ ap (λ p. told other_kind other_name p) (ap (λ (f : NameFault). f.at) faults)

-- the tree, or its offence
abbrev IsRight : Ast → Answer → Type 0
IsRight ast answer = (name_fault ast ≡ None) × (answer ≡ Ok ast)

record IsWrong (ast : Ast) (answer : Answer) : Type 0 where
  kind : Offence
  name : List ℕ
  at : Place
  has : HasOffence ast kind name at
  same : answer ≡ told kind name at

judged-as : (ast : Ast) (answer : Answer) → IsTold answer → IsJudged ast answer → IsRight ast answer ⊎ IsWrong ast answer
judged-as ast (Ok right) known is = inl (is.1, ap (λ a. Ok a) is.0)
judged-as ast (Err (fault.Expected at what)) known is = absurd is
judged-as ast (Err (fault.Number at)) known is = absurd is
judged-as ast (Err (fault.BothPlayers name at)) known is = inr (record { kind = offence.BothPlayers; name = name; at = at; has = is; same = refl })
judged-as ast (Err (fault.Twice name at)) known is = inr (record { kind = offence.Twice; name = name; at = at; has = is; same = refl })
judged-as ast (Err (fault.Unknown name at)) known is = inr (record { kind = offence.Unknown; name = name; at = at; has = is; same = refl })
judged-as ast (Err (fault.Unordered name at)) known is = inr (record { kind = offence.Unordered; name = name; at = at; has = is; same = refl })
judged-as ast (Err (fault.Infinite name at)) known is = inr (record { kind = offence.Infinite; name = name; at = at; has = is; same = refl })
judged-as ast (Err (fault.NoUpper name at)) known is = inr (record { kind = offence.NoUpper; name = name; at = at; has = is; same = refl })
judged-as ast (Err fault.Memory) known is = absurd (known refl)

not-both : (ast : Ast) (one other : Answer) → IsRight ast one → ¬ IsWrong ast other
not-both ast one other right wrong =
    let none = right.0 in
    let some = wrong.has.1 in
    cc

judgement-once : (ast : Ast) (one other : Answer) → IsRight ast one ⊎ IsWrong ast one → IsRight ast other ⊎ IsWrong ast other → one ≡ other
judgement-once ast one other (inl right) (inl more) = right.1 ∙ sym more.1
judgement-once ast one other (inl right) (inr wrong) = absurd (not-both ast one other right wrong)
judgement-once ast one other (inr wrong) (inl right) = absurd (not-both ast other one right wrong)
judgement-once ast one other (inr wrong) (inr more) =
    wrong.same ∙ offence-once ast wrong.kind more.kind wrong.name more.name wrong.at more.at wrong.has more.has ∙ sym more.same

-- the first fault, or a tree and its judgement
record IsFaulty (symbols : List Symbol) (end : Place) (answer : Answer) : Type 0 where
  wrong : Unread
  first : IsFirstFault symbols end wrong
  same : answer ≡ Err (fault_of wrong)

record HasTree (names : List (List ℕ)) (symbols : List Symbol) (answer : Answer) : Type 0 where
  ast : Ast
  text : IsText names symbols ast
  judged : IsJudged ast answer

tree-of : (names : List (List ℕ)) (symbols : List Symbol) (answer : Answer) → (ast : Ast) × IsText names symbols ast × IsJudged ast answer → HasTree names symbols answer
tree-of names symbols answer is = record { ast = is.0; text = is.1; judged = is.2 }

answered-as : (names : List (List ℕ)) (symbols : List Symbol) (end : Place) (answer : Answer) → IsTold answer → IsAnswerOf names symbols end answer
    → IsFaulty symbols end answer ⊎ HasTree names symbols answer
unfolding fault_of
answered-as names symbols end (Ok ast) known is = inr (tree-of names symbols (Ok ast) is)
answered-as names symbols end (Err (fault.Expected at what)) known is = inl (record { wrong = unread.Expected at what; first = is.0; same = refl })
answered-as names symbols end (Err (fault.Number at)) known is = inl (record { wrong = unread.Number at; first = is; same = refl })
answered-as names symbols end (Err (fault.BothPlayers name at)) known is = inr (tree-of names symbols (Err (fault.BothPlayers name at)) is)
answered-as names symbols end (Err (fault.Twice name at)) known is = inr (tree-of names symbols (Err (fault.Twice name at)) is)
answered-as names symbols end (Err (fault.Unknown name at)) known is = inr (tree-of names symbols (Err (fault.Unknown name at)) is)
answered-as names symbols end (Err (fault.Unordered name at)) known is = inr (tree-of names symbols (Err (fault.Unordered name at)) is)
answered-as names symbols end (Err (fault.Infinite name at)) known is = inr (tree-of names symbols (Err (fault.Infinite name at)) is)
answered-as names symbols end (Err (fault.NoUpper name at)) known is = inr (tree-of names symbols (Err (fault.NoUpper name at)) is)
answered-as names symbols end (Err fault.Memory) known is = absurd (known refl)

not-faulty : (names : List (List ℕ)) (symbols : List Symbol) (end : Place) (one other : Answer) → KnowColons symbols → IsFaulty symbols end one → ¬ HasTree names symbols other
not-faulty names symbols end one other colons faulty tree = text_without_fault names symbols tree.ast end faulty.wrong colons tree.text faulty.first

answer-once : (names : List (List ℕ)) (symbols : List Symbol) (end : Place) (one other : Answer) → KnowColons symbols → IsTold one → IsTold other
    → IsFaulty symbols end one ⊎ HasTree names symbols one → IsFaulty symbols end other ⊎ HasTree names symbols other → one ≡ other
answer-once names symbols end one other colons known told_too (inl faulty) (inl more) =
    faulty.same ∙ ap (λ w. Err (fault_of w)) (one_fault symbols end faulty.wrong more.wrong faulty.first more.first) ∙ sym more.same
answer-once names symbols end one other colons known told_too (inl faulty) (inr tree) = absurd (not-faulty names symbols end one other colons faulty tree)
answer-once names symbols end one other colons known told_too (inr tree) (inl faulty) = absurd (not-faulty names symbols end other one colons faulty tree)
answer-once names symbols end one other colons known told_too (inr tree) (inr more) =
    let trees : tree.ast ≡ more.ast = trees_same names symbols tree.ast more.ast colons tree.text more.text in
    judgement-once tree.ast one other (judged-as tree.ast one known tree.judged)
    (judged-as tree.ast other told_too (subst (λ ast. IsJudged ast other) (sym trees) more.judged))

read-as : (text : List ℕ) (tokens : List Token) (answer : Answer) → IsTold answer → IsParsed text tokens answer → IsReadAs text tokens answer
read-as text tokens (Ok ast) known is = is
read-as text tokens (Err (fault.Expected at what)) known is = is
read-as text tokens (Err (fault.Number at)) known is = is
read-as text tokens (Err (fault.BothPlayers name at)) known is = is
read-as text tokens (Err (fault.Twice name at)) known is = is
read-as text tokens (Err (fault.Unknown name at)) known is = is
read-as text tokens (Err (fault.Unordered name at)) known is = is
read-as text tokens (Err (fault.Infinite name at)) known is = is
read-as text tokens (Err (fault.NoUpper name at)) known is = is
read-as text tokens (Err fault.Memory) known is = absurd (known refl)

pub answers-same : OneDecimal → (text : List ℕ) (tokens : List Token) (one other : Answer) → IsParsed text tokens one → IsParsed text tokens other
    → one ≢ Err fault.Memory → other ≢ Err fault.Memory → one ≡ other
answers-same law text tokens one other is so known told_too =
    let names = names_of text tokens in
    let end = place_of text (length text) in
    let read = read-as text tokens one known is in
    let more = read-as text tokens other told_too so in
    let same : read.symbols ≡ more.symbols = symbols-once law text names 0 tokens read.symbols more.symbols (distinct-names_of text tokens) read.spelled more.spelled in
    answer-once names read.symbols end one other (colons-known text names 0 tokens read.symbols read.spelled) known told_too
    (answered-as names read.symbols end one known read.answered)
    (answered-as names read.symbols end other told_too (subst (λ xs. IsAnswerOf names xs end other) (sym same) more.answered))
