-- Where a reading ends.
use Rattle.std.proofs.Common.{◌≡◌, ◌≢◌, ℕ, ◌≤◌, ◌<◌, ◌+◌, List, ◌∷◌, drop, length, get_or, Result, Ok, Err, IfOk, IfErr, sym, subst, ap, ◌∙◌}
use Rattle.std.proofs.lemmas.List.{at_drop_all, at_drop_more}
use Rattle.qm_lex.specs.declared.place.Place.{Place}
use Rattle.qm_parse.specs.declared.ast.Ast.{Ast}
use Rattle.qm_parse.specs.declared.draft.Draft.{Draft}
use Rattle.qm_parse.specs.declared.stage.State.{State}
use Rattle.qm_parse.specs.declared.unread.Unread.{Unread}
use Rattle.qm_parse.specs.declared.unread.Unread.TheVariants as unread
use Rattle.qm_parse.specs.declared.word.Symbol.{Symbol}
use Rattle.qm_parse.specs.Reading.{finished, read}

-- behind the last symbol
pub read-drop_all : (state : State) (draft : Draft) (symbols : List Symbol) (i : ℕ) (end : Place) →
    length symbols ≤ i → read state draft (drop i symbols) end ≡ finished state.stage draft end
unfolding read
read-drop_all state draft symbols i end h = at_drop_all (λ rest. read state draft rest end) symbols i h

pub IfOk-same : (whole answer : Result Ast Unread) → whole ≡ answer → IfOk answer (λ ast. whole ≡ Ok ast)
IfOk-same whole (Ok ast) same = same
IfOk-same whole (Err fault) same = tt

pub IfErr-same : (whole answer : Result Ast Unread) → whole ≡ answer → IfErr answer (λ fault. fault ≢ unread.Memory → whole ≡ Err fault)
IfErr-same whole (Ok ast) same = tt
IfErr-same whole (Err fault) same = λ no_memory. same

-- at a symbol
pub read-drop : (state : State) (draft : Draft) (symbols : List Symbol) (i : ℕ) (symbol : Symbol) (end : Place) →
    i < length symbols → symbol ≡ get_or symbols i symbol →
    read state draft (drop i symbols) end ≡ read state draft (symbol ∷ drop (i + 1) symbols) end
read-drop state draft symbols i symbol end h here =
    at_drop_more (λ rest. read state draft rest end) symbols i symbol h
    ∙ ap (λ (s : Symbol). read state draft (s ∷ drop (i + 1) symbols) end) (sym here)

-- where a fault stops it
pub IfErr-stopped : (whole answer : Result Ast Unread) (fault : Unread) → answer ≡ Err fault →
    (fault ≢ unread.Memory → whole ≡ Err fault) → IfErr answer (λ e. e ≢ unread.Memory → whole ≡ Err e)
IfErr-stopped whole answer fault stopped h =
    let P : Result Ast Unread → Type 0 = λ a. IfErr a (λ e. e ≢ unread.Memory → whole ≡ Err e) in
    subst P (sym stopped) h
