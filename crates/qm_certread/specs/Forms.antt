-- The form of a certificate's lines, which needs the game alone: what a line says at its place, or the rule that it
-- breaks, `Text` before `Number`; and the first line at fault so. Rows and variables are named by the style.
use Rattle.std.specs.Prelude.{ℕ, zero, suc, ◌+◌, ℤ, pos, negsuc, Bool, true, false, ◌&&◌, nat_le, List, [], ◌∷◌, ◌++◌, codes, length, drop, Option, None, Some, Ok, Err, slice_get, if◌then◌else◌}
use Rattle.std.specs.Option.{option_map}
use Rattle.std.specs.Str.{bytes_eq}
use Rattle.qm_model.specs.declared.range.Range.{Range}
use Rattle.qm_model.specs.declared.variable.Player.{Player}
use Rattle.qm_model.specs.declared.variable.Player.TheVariants.{Exists, All as Universal}
use Rattle.qm_model.specs.declared.game.Problem.{Problem}
use Rattle.qm_model.specs.Plays.{is_universal, whole_vars}
use Rattle.qm_model.specs.Points.{continuous_vars}
use Rattle.qm_trees.specs.declared.rule.Rule.{Rule}
use Rattle.qm_trees.specs.declared.rule.Rule.TheVariants as broken
use Rattle.qm_trees.specs.Picks.{universal_count}
use Rattle.qm_trees.specs.Verdicts.{Verdict, Fine, Broken, ◌then◌}
use Rattle.qm_certread.specs.declared.fault.Misread.{Misread}
use Rattle.qm_certread.specs.declared.fault.Misread.TheVariants as rule
use Rattle.qm_certfile.specs.Lines.{Word, Line}
use Rattle.qm_certfile.specs.Styles.{Style}
use Rattle.qm_certread.specs.Pieces.{lines_of, words_of}
use Rattle.qm_certread.specs.Spelling.{Said, with_both, each_of, one, whole_of, value_word, count_word, fraction_word, with_entries, combination_said}
use Rattle.qm_certread.specs.Nodes.{Node, Fixed, Infeasible, NoPlay, Optimal, Legal, Choose, Answer, Leaf, Split, Over, Pick, Close, Part}
use Rattle.qm_certread.specs.Dues.{Due, Claimed, Played, Policy, Below, Empty, Refute, Ranges, after, illegal_line, infeasible_line, empty_line}
use Rattle.qm_certread.specs.Dues as due

-- ---- words

-- the words behind these, which begin the line
abbrev pub behind : List Word → Line → Option Line
behind [] words = Some words
behind (w ∷ ws) [] = None
behind (w ∷ ws) (word ∷ words) = if bytes_eq word w then behind ws words else None

abbrev pub is_line : Line → Line → Bool
is_line [] [] = true
is_line [] (word ∷ words) = false
is_line (w ∷ ws) [] = false
is_line (w ∷ ws) (word ∷ words) = bytes_eq word w && is_line ws words

-- what the words behind these say
abbrev pub said_behind : {A : Type 0} → List Word → (Line → Said A) → Line → Said A
said_behind ws f words = elim (behind ws words) [ None ↦ Err rule.Text | Some rest ↦ f rest ]

abbrev pub said_as : {A B : Type 0} → (A → B) → Said A → Said B
said_as f (Ok a) = Ok (f a)
said_as f (Err r) = Err r

-- ---- lines

-- a line of one kind and a count
abbrev pub counted : (ℕ → Node) → Word → List Word → Line → Said Node
counted node kind name words = said_as node (said_behind (kind ∷ name) (one count_word) words)

abbrev pub range_of : ℤ → ℤ → Range
range_of low high = record { low = low; high = high }

abbrev pub range_said : Line → Said Range
range_said [] = Err rule.Text
range_said (low ∷ []) = Err rule.Text
range_said (low ∷ high ∷ []) = with_both range_of (value_word low) (value_word high)
range_said (low ∷ high ∷ next ∷ words) = Err rule.Text

-- a value, and so many others
abbrev pub pick_said : ℕ → Line → Said Node
pick_said count [] = Err rule.Text
pick_said count (value ∷ words) = with_both Pick (value_word value) (each_of value_word count words)

-- a number from 1 that names the position of a universal variable, which is counted from 0 and is this one at least
abbrev pub position_at : Problem → ℕ → Option ℤ → Option ℕ
position_at P least None = None
position_at P least (Some (negsuc n)) = None
position_at P least (Some (pos zero)) = None
position_at P least (Some (pos (suc n))) =
    elim (slice_get (whole_vars P) n) [ None ↦ None | Some x ↦ (if is_universal x && nat_le least n then Some n else None) ]

abbrev pub position_said : Problem → ℕ → Word → Said ℕ
position_said P least word = elim (position_at P least (whole_of word)) [ None ↦ Err rule.Text | Some n ↦ Ok n ]

abbrev pub split_said : Problem → ℕ → Line → Said Node
split_said P least [] = Err rule.Text
split_said P least (var ∷ []) = Err rule.Text
split_said P least (var ∷ count ∷ []) = with_both Split (position_said P least var) (count_word count)
split_said P least (var ∷ count ∷ next ∷ words) = Err rule.Text

-- ---- places

-- who sets the next variable; `None` where all whole ones are set
abbrev pub player_at : Problem → ℕ → Option Player
player_at P depth = option_map (λ x. x.player) (slice_get (whole_vars P) depth)

-- the first that isn't misspelt
abbrev pub claim_said : Line → Said Node
claim_said words =
    if is_line infeasible_line words then Ok Infeasible
    else (if is_line empty_line words then Ok NoPlay
    else said_as Optimal (said_behind (codes "optimal" ∷ []) (one fraction_word) words))

abbrev pub policy_said : Style → Problem → ℕ → Line → Said Node
policy_said style P depth words = elim (player_at P depth) [
  | None ↦ said_as Leaf (said_behind (codes "leaf" ∷ []) (each_of fraction_word (length (continuous_vars P))) words)
  | Some player ↦ elim player [
    | Exists ↦ said_as Choose (said_behind (codes "choose" ∷ style.variable depth) (one value_word) words)
    | Universal ↦ counted Answer (codes "answer") (style.variable depth) words
  ]
]

abbrev pub is_kind : Word → Line → Bool
is_kind kind [] = false
is_kind kind (word ∷ words) = bytes_eq word kind

abbrev pub empty_said : Problem → ℕ → Line → Said Node
empty_said P least words =
    if is_kind (codes "close") words then said_as Close (said_behind (codes "close" ∷ []) (with_entries false) words)
    else said_behind (codes "split" ∷ []) (split_said P least) words

abbrev pub move_said : Style → Problem → ℕ → Player → Line → Said Node
move_said style P depth player words =
    if is_kind (codes "over") words then counted Over (codes "over") (style.variable depth) words
    else elim player [
      | Exists ↦ Err rule.Text
      | Universal ↦ said_behind (codes "pick" ∷ style.variable depth) (pick_said (universal_count (drop (depth + 1) (whole_vars P)))) words
    ]

abbrev pub refute_said : Style → Problem → ℕ → Line → Said Node
refute_said style P depth words =
    if is_kind (codes "close") words then said_as Close (said_behind (codes "close" ∷ []) combination_said words)
    else elim (player_at P depth) [ None ↦ Err rule.Text | Some player ↦ move_said style P depth player words ]

-- what the words say where this is due
abbrev pub said_at : Style → Problem → Due → Line → Said Node
said_at style P Claimed words = claim_said words
said_at style P Played words = said_as Legal (said_behind (codes "legal" ∷ []) (each_of value_word (universal_count (whole_vars P))) words)
said_at style P (due.Said line) words = if is_line line words then Ok (Fixed line) else Err rule.Text
said_at style P (Policy depth) words = policy_said style P depth words
said_at style P (Below depth) words = if is_line illegal_line words then Ok (Fixed illegal_line) else policy_said style P depth words
said_at style P (Empty least) words = empty_said P least words
said_at style P (Refute depth) words = refute_said style P depth words
said_at style P (Ranges n below) words = said_as Part (said_behind (codes "range" ∷ []) range_said words)

-- ---- texts

-- the rule of a certificate's lines that is broken so
abbrev pub rule_of : Misread → Rule
rule_of rule.Text = broken.Text
rule_of rule.Number = broken.Number

abbrev pub is_nothing : List ℕ → Bool
is_nothing [] = true
is_nothing (byte ∷ bytes) = false

-- The lines of a text where this is due, from its first one on. The last piece of a text has no LF, so a line that is due
-- there is missing or cut; and where nothing is due, the text ends.
abbrev pub form_of : Style → Problem → List Due → List (List ℕ) → Verdict
form_of style P dues [] = Broken broken.Text 0
form_of style P [] (rest ∷ []) = if is_nothing rest then Fine 0 else Broken broken.Text 0
form_of style P (d ∷ dues) (rest ∷ []) = Broken broken.Text 0
form_of style P [] (line ∷ next ∷ lines) = Broken broken.Text 0
form_of style P (d ∷ dues) (line ∷ next ∷ lines) =
    elim (said_at style P d (words_of line)) [
      | Ok node ↦ Fine 1 then form_of style P (after style d node ++ dues) (next ∷ lines)
      | Err r ↦ Broken (rule_of r) 0
    ]

-- the first line of a certificate's text that isn't in form, counted from 0
unfoldable pub certificate_form : Style → Problem → List ℕ → Verdict
certificate_form style P text = form_of style P (Claimed ∷ []) (lines_of text)
