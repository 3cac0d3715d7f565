-- One token more is read.
use Rattle.std.proofs.Common.{◌≡◌, Bool, true, false, ◌||◌, List, ◌∷◌, Option, Some, None, Result, Err, if◌then◌else◌, refl, sym, ap, subst, ◌∙◌}
use Rattle.qm_lex.specs.declared.place.Place.{Place}
use Rattle.qm_parse.specs.declared.ast.Ast.{Ast}
use Rattle.qm_parse.specs.declared.draft.Draft.{Draft}
use Rattle.qm_parse.specs.declared.stage.Seen.{Seen}
use Rattle.qm_parse.specs.declared.stage.Stage.{Stage}
use Rattle.qm_parse.specs.declared.stage.State.{State}
use Rattle.qm_parse.specs.declared.unread.Unread.{Unread}
use Rattle.qm_parse.specs.declared.unread.Unread.TheVariants as unread
use Rattle.qm_parse.specs.declared.word.Symbol.{Symbol}
use Rattle.qm_parse.specs.declared.word.Word.{Word}
use Rattle.qm_parse.specs.Drafts.{noted}
use Rattle.qm_parse.specs.Reading.{leaves, read}
use Rattle.qm_parse.specs.Stages.{expected, fits_line, may_share_line, moved, next_state, step}
use Rattle.qm_parse.specs.Texts.{KnowColons}

abbrev pub state_at : Stage → Seen → State
state_at stage seen = record { stage = stage; seen = seen }

-- reading on from here is reading on from there
abbrev pub AreReadAs : State → Draft → List Symbol → State → Draft → List Symbol → Type 0
AreReadAs state draft symbols next behind rest = (end : Place) → read state draft symbols end ≡ read next behind rest end

-- it is, with a draft of which this holds
abbrev pub GoesOn : Seen → Stage → Draft → List Symbol → Stage → (Draft → Type 0) → List Symbol → Type 0
GoesOn seen stage draft symbols next Behind rest =
    (behind : Draft) × Behind behind × KnowColons rest × AreReadAs (state_at stage seen) draft symbols (state_at next seen) behind rest

pub reads_on : (state next last : State) (draft between behind : Draft) (symbols middle rest : List Symbol)
    → AreReadAs state draft symbols next between middle → AreReadAs next between middle last behind rest → AreReadAs state draft symbols last behind rest
reads_on state next last draft between behind symbols middle rest p q = λ end. p end ∙ q end

-- first the one, and then the other
pub goes_then : (seen : Seen) (stage next last : Stage) (draft : Draft) (symbols middle rest : List Symbol) (Between Behind : Draft → Type 0)
    → GoesOn seen stage draft symbols next Between middle
    → ((between : Draft) → Between between → KnowColons middle → GoesOn seen next between middle last Behind rest)
    → GoesOn seen stage draft symbols last Behind rest
goes_then seen stage next last draft symbols middle rest Between Behind (between, holds, colons, reads) go =
    let further = go between holds colons in
    (further.0, further.1, further.2, λ end. reads end ∙ further.3 end)

-- reading is the same from here and from there, and then goes on
pub goes_same : (seen : Seen) (stage same last : Stage) (draft other : Draft) (symbols rest : List Symbol) (Behind : Draft → Type 0)
    → AreReadAs (state_at stage seen) draft symbols (state_at same seen) other symbols → GoesOn seen same other symbols last Behind rest → GoesOn seen stage draft symbols last Behind rest
goes_same seen stage same last draft other symbols rest Behind p (behind, holds, colons, reads) = (behind, holds, colons, λ end. p end ∙ reads end)

-- reading has arrived
pub goes_nowhere : (seen : Seen) (stage : Stage) (draft : Draft) (symbols rest : List Symbol) (Behind : Draft → Type 0)
    → symbols ≡ rest → Behind draft → KnowColons symbols → GoesOn seen stage draft symbols stage Behind rest
goes_nowhere seen stage draft symbols rest Behind same holds colons =
    (draft, holds, subst KnowColons same colons, λ end. ap (λ xs. read (state_at stage seen) draft xs end) same)

or_true : (b : Bool) → (b || true) ≡ true
or_true true = refl
or_true false = refl

pub fits_shared : (stage : Stage) (symbol : Symbol) → may_share_line stage symbol.word ≡ true → fits_line stage symbol ≡ true
unfolding fits_line
fits_shared stage symbol e = rw e (or_true symbol.begins_line)

pub fits_begun : (stage : Stage) (symbol : Symbol) → symbol.begins_line ≡ true → fits_line stage symbol ≡ true
unfolding fits_line
fits_begun stage symbol e = rw e refl

pub step_taken : (stage next : Stage) (seen : Seen) (symbol : Symbol) → fits_line stage symbol ≡ true → step stage symbol.word ≡ Some next
    → next_state (state_at stage seen) symbol ≡ Some (state_at next seen)
unfolding next_state moved
step_taken stage next seen symbol fits e = rw (fits, e) refl

-- what is answered by the state behind the next token
abbrev pub read_moved : State → Draft → Symbol → List Symbol → Place → Option State → Result Ast Unread
read_moved state draft symbol rest end moves = elim moves [
  | None ↦ Err (unread.Expected symbol.place (expected state.stage symbol))
  | Some next ↦
      if leaves symbol.word then Err (unread.Number symbol.place)
      else read next (noted state.stage state.seen.uncertainty symbol.word symbol.place draft) rest end
]

pub reads_symbol : (state next : State) (draft : Draft) (symbol : Symbol) (rest : List Symbol) → next_state state symbol ≡ Some next → leaves symbol.word ≡ false
    → AreReadAs state draft (symbol ∷ rest) next (noted state.stage state.seen.uncertainty symbol.word symbol.place draft) rest
unfolding read
reads_symbol state next draft symbol rest moves stays =
    let behind = noted state.stage state.seen.uncertainty symbol.word symbol.place draft in
    λ end. ap (read_moved state draft symbol rest end) moves ∙ ap (λ b. if b then Err (unread.Number symbol.place) else read next behind rest end) stays

-- a word that may follow
pub reads_word : (stage next : Stage) (seen : Seen) (draft : Draft) (symbol : Symbol) (rest : List Symbol) (word : Word) → symbol.word ≡ word
    → fits_line stage symbol ≡ true → step stage word ≡ Some next → leaves word ≡ false
    → AreReadAs (state_at stage seen) draft (symbol ∷ rest) (state_at next seen) (noted stage seen.uncertainty word symbol.place draft) rest
reads_word stage next seen draft symbol rest word is fits steps stays =
    subst (λ w. step stage w ≡ Some next → leaves w ≡ false → AreReadAs (state_at stage seen) draft (symbol ∷ rest) (state_at next seen) (noted stage seen.uncertainty w symbol.place draft) rest) is
    (λ e k. reads_symbol (state_at stage seen) (state_at next seen) draft symbol rest (step_taken stage next seen symbol fits e) k)
    steps stays

-- the same, where any word may stand on the line
pub reads_within : (stage next : Stage) (seen : Seen) (draft : Draft) (symbol : Symbol) (rest : List Symbol) (word : Word) → symbol.word ≡ word
    → may_share_line stage word ≡ true → step stage word ≡ Some next → leaves word ≡ false
    → AreReadAs (state_at stage seen) draft (symbol ∷ rest) (state_at next seen) (noted stage seen.uncertainty word symbol.place draft) rest
reads_within stage next seen draft symbol rest word is shares steps stays =
    reads_word stage next seen draft symbol rest word is (fits_shared stage symbol (ap (may_share_line stage) is ∙ shares)) steps stays

-- a token that may follow in two stages and leads to one draft
pub reads_same : (stage other next : Stage) (seen : Seen) (draft behind : Draft) (symbol : Symbol) (rest : List Symbol) (word : Word) → symbol.word ≡ word
    → fits_line stage symbol ≡ true → fits_line other symbol ≡ true
    → step stage word ≡ Some next → step other word ≡ Some next → leaves word ≡ false
    → noted stage seen.uncertainty word symbol.place draft ≡ noted other seen.uncertainty word symbol.place behind
    → AreReadAs (state_at stage seen) draft (symbol ∷ rest) (state_at other seen) behind (symbol ∷ rest)
reads_same stage other next seen draft behind symbol rest word is fits fits_other steps steps_other stays notes =
    λ end. reads_word stage next seen draft symbol rest word is fits steps stays end
    ∙ ap (λ d. read (state_at next seen) d rest end) notes
    ∙ sym (reads_word other next seen behind symbol rest word is fits_other steps_other stays end)
