-- What the reader of a text has taken of it. No clause of `read` cites this.
use Rattle.std.specs.Prelude.{◌≡◌, ℕ, ◌+◌, ◌<◌, ◌≤◌, ◌^◌, ◌⊎◌, List, [], ◌∷◌, ◌++◌, length, drop, Bool, true, false, Ok, Err, if◌then◌else◌}
use Rattle.qm_model.specs.declared.game.Problem.{Problem}
use Rattle.qm_trees.specs.declared.rule.Rule.TheVariants as broken
use Rattle.qm_trees.specs.Verdicts.{Verdict, Fine, Broken, ◌then◌}
use Rattle.qm_certread.specs.declared.cursor.Cursor.{Cursor}
use Rattle.qm_certread.specs.declared.fault.CertFault.{CertFault}
use Rattle.qm_certread.specs.declared.fault.CertFault.TheVariants as fault
use Rattle.qm_certread.specs.declared.fault.Misread.{Misread}
use Rattle.qm_certread.specs.declared.fault.Misread.TheVariants as rule
use Rattle.qm_certread.specs.declared.fault.Unread.{Unread}
use Rattle.qm_certread.specs.declared.fault.Unread.TheVariants as unread
use Rattle.qm_certfile.specs.Lines.{Line}
use Rattle.qm_certread.specs.declared.said.Claim.{Claim}
use Rattle.qm_certread.specs.declared.said.Claim.TheVariants as claim
use Rattle.qm_certfile.specs.Styles.{first_style}
use Rattle.qm_certfile.specs.CertificateLines.{version_line}
use Rattle.qm_certread.specs.Pieces.{lines_of, words_of}
use Rattle.qm_certread.specs.Spelling.{Said}
use Rattle.qm_certread.specs.Nodes.{Node, Fixed}
use Rattle.qm_certread.specs.Dues.{Due, Played, Said as DueLine, Policy, Empty, Refute, Ranges, after, end_line, illegal_line, policy_line, ranges, refute_line}
use Rattle.qm_certread.specs.Forms.{form_of, is_line, said_at}

-- a place of a text at which so many lines may have ended
pub record IsIn (text : List ℕ) (cursor : Cursor) : Type 0 where
  pub inside : cursor.at ≤ length text
  pub counted : cursor.line ≤ cursor.at + 1
  pub short : length text < 2 ^ 31

abbrev pub lines_at : List ℕ → Cursor → List (List ℕ)
lines_at text cursor = lines_of (drop cursor.at text)

-- the first line at fault from there on, by its number
abbrev pub form_at : Problem → List ℕ → List Due → Cursor → Verdict
form_at P text dues cursor = Fine cursor.line then form_of first_style P dues (lines_at text cursor)

-- this line stands there, and the next one behind it
pub record IsNext (text : List ℕ) (line : List ℕ) (old new : Cursor) : Type 0 where
  pub bytes : drop old.at text ≡ line ++ 10 ∷ drop new.at text
  pub lines : lines_at text old ≡ line ∷ lines_at text new
  pub number : new.line ≡ old.line + 1

-- the line there is missing, or has no LF
abbrev pub IsMissing : List ℕ → Cursor → Type 0
IsMissing text cursor = (rest : List ℕ) × (lines_at text cursor ≡ rest ∷ [])

-- the next line says this
pub record NextSays {A : Type 0} (text : List ℕ) (said : Line → Said A) (old new : Cursor) (a : A) : Type 0 where
  pub line : List ℕ
  pub next : IsNext text line old new
  pub says : said (words_of line) ≡ Ok a

-- the next line breaks this rule
pub record NextBreaks {A : Type 0} (text : List ℕ) (said : Line → Said A) (old : Cursor) (misread : Misread) : Type 0 where
  pub line : List ℕ
  pub after : Cursor
  pub next : IsNext text line old after
  pub breaks : said (words_of line) ≡ Err misread

abbrev pub NextFails : {A : Type 0} → List ℕ → (Line → Said A) → Cursor → CertFault → Type 0
NextFails text said old (fault.Text n) = (n ≡ old.line) × (IsMissing text old ⊎ NextBreaks text said old rule.Text)
NextFails text said old (fault.Number n) = (n ≡ old.line) × NextBreaks text said old rule.Number
NextFails text said old fault.Memory = Unit {0}

-- ---- several lines

-- from where these are due, the lines say these nodes, up to where those are due
abbrev pub Moves : Problem → List ℕ → List Due → List Node → List Due → Cursor → Cursor → Type 0
Moves P text dues [] end old new = (dues ≡ end) × (old ≡ new)
Moves P text [] (node ∷ nodes) end old new = ⊥
Moves P text (d ∷ dues) (node ∷ nodes) end old new =
    (mid : Cursor) × NextSays text (said_at first_style P d) old mid node × Moves P text (after first_style d node ++ dues) nodes end mid new

-- what is due is met by these nodes, whatever is due behind it
abbrev pub Meets : Problem → List ℕ → List Due → List Node → Cursor → Cursor → Type 0
Meets P text dues nodes old new = (behind : List Due) → Moves P text (dues ++ behind) nodes behind old new

-- the first line at fault is this one, whatever is due behind
abbrev pub IsFault : Problem → List ℕ → List Due → Cursor → CertFault → Type 0
IsFault P text dues cursor (fault.Text n) = form_at P text dues cursor ≡ Broken broken.Text n
IsFault P text dues cursor (fault.Number n) = form_at P text dues cursor ≡ Broken broken.Number n
IsFault P text dues cursor fault.Memory = Unit {0}

abbrev pub Fails : Problem → List ℕ → List Due → Cursor → CertFault → Type 0
Fails P text dues cursor e = (behind : List Due) → IsFault P text (dues ++ behind) cursor e

-- what is due between the first line and the last
abbrev pub body_dues : Claim → List Due
body_dues (claim.Optimal value) = DueLine (version_line first_style) ∷ Played ∷ DueLine policy_line ∷ Policy 0 ∷ DueLine refute_line ∷ Refute 0 ∷ []
body_dues claim.Infeasible = DueLine (version_line first_style) ∷ Played ∷ DueLine refute_line ∷ Refute 0 ∷ []
body_dues claim.NoPlay = DueLine (version_line first_style) ∷ DueLine illegal_line ∷ Empty 0 ∷ []

-- that this line stands there
abbrev pub fixed_said : Line → Line → Said Node
fixed_said line words = if is_line line words then Ok (Fixed line) else Err rule.Text

-- the last line stands there, and the text ends behind it
abbrev pub IsLast : List ℕ → Cursor → Type 0
IsLast text cursor = (end : Cursor) × NextSays text (fixed_said end_line) cursor end (Fixed end_line) × (end.at ≡ length text)

-- the fault of a line
abbrev pub fault_at : Misread → ℕ → CertFault
fault_at rule.Text n = fault.Text n
fault_at rule.Number n = fault.Number n

abbrev pub unread_at : Unread → ℕ → CertFault
unread_at (unread.Misread m) n = fault_at m n
unread_at unread.Memory n = fault.Memory

-- no line `illegal` stands there
abbrev pub IsOther : List ℕ → Cursor → Type 0
IsOther text cursor = IsMissing text cursor ⊎ ((line : List ℕ) × (after : Cursor) × IsNext text line cursor after × (is_line illegal_line (words_of line) ≡ false))

-- the line `illegal` was taken, or it doesn't stand there and nothing was
abbrev pub TakesIllegal : List ℕ → Cursor → Cursor → Bool → Type 0
TakesIllegal text old new true = NextSays text (fixed_said illegal_line) old new (Fixed illegal_line)
TakesIllegal text old new false = (new ≡ old) × IsOther text old

-- a range was read where it and k more are due, each with this under it
abbrev pub MeetsPart : Problem → List ℕ → Due → List Node → Cursor → Cursor → Type 0
MeetsPart P text due nodes old new = (k : ℕ) (behind : List Due) → Moves P text (Ranges k due ∷ behind) nodes (ranges k due ++ behind) old new

abbrev pub FailsPart : Problem → List ℕ → Due → Cursor → CertFault → Type 0
FailsPart P text due cursor e = (k : ℕ) (behind : List Due) → IsFault P text (Ranges k due ∷ behind) cursor e
