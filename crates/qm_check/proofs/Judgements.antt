-- The verdict of a line, from what it says, and of the lines from there on.
use Rattle.std.proofs.Common.{◌≡◌, ℕ, zero, suc, ◌+◌, ◌-◌, ◌<◌, ◌^◌, Bool, true, false, List, [], ◌∷◌, ◌++◌, length, drop, Ok, Err, refl, sym, ap, ap₂, ◌∙◌, subst, arith}
use Rattle.std.specs.Prelude.{Result, codes}
use Rattle.std.specs.List.{slice_split, onto_first}
use Rattle.std.proofs.lemmas.List.{append-nil, length-append, length-drop}
use Rattle.std.proofs.lemmas.List.Splits.{slice_split-cons_yes, slice_split-cons_no}
use Rattle.memchr.specs.Find.{is_byte}
use Rattle.qm_model.specs.declared.range.Range.{Range}
use Rattle.qm_model.specs.declared.game.Problem.{Problem}
use Rattle.qm_model.specs.Plays.{whole_vars}
use Rattle.qm_trees.specs.Picks.{universal_count}
use Rattle.qm_trees.specs.declared.rule.Rule.TheVariants as broken
use Rattle.qm_trees.specs.Verdicts.{Verdict, Fine, Broken, Left, ◌then◌}
use Rattle.qm_certfile.specs.Styles.{first_style}
use Rattle.qm_certread.specs.declared.cursor.Cursor.{Cursor}
use Rattle.qm_certread.specs.declared.fault.Misread.{Misread}
use Rattle.qm_certread.specs.declared.fault.Unread.{Unread}
use Rattle.qm_certread.specs.declared.fault.Unread.TheVariants as unread
use Rattle.qm_certread.specs.Nodes.{Legal, Node}
use Rattle.qm_certread.specs.Pieces.{words_of}
use Rattle.qm_certread.specs.Forms.{claim_said, rule_of, said_as, said_at, said_behind}
use Rattle.qm_certread.specs.Spelling.{Said as Spelled, each_of, value_word}
use Rattle.qm_certread.specs.declared.said.Claim.{Claim}
use Rattle.qm_certread.specs.SaidSteps.{claim_node}
use Rattle.qm_certread.specs.WordSteps.{Fails}
use Rattle.qm_certread.specs.Tasks.{Claimed, Played, Ranges, Said, Task, due_of, follow, ranges}
use Rattle.qm_certread.specs.FirstFault.{first_fault, judge_lines, rule_at}
use Rattle.qm_certread.specs.ReadSteps.{IsIn, IsMissing, IsNext, lines_at}
use Rattle.qm_check.specs.declared.fault.Fault.{Fault}
use Rattle.qm_check.specs.declared.fault.Fault.TheVariants as fault
use Rattle.qm_check.specs.Judging.{IsJudged, fault_of, line_verdict, next_tasks, next_verdict, tasks_behind}
use Rattle.qm_check.specs.LineFaults.{fault_at}
use Rattle.qm_check.specs.declared.text_fault.TextFault.TheVariants as text_fault
use Rattle.qm_check.specs.declared.due.Due.{Due}
use Rattle.qm_check.specs.declared.due.Due.TheVariants as due
use Rattle.qm_check.specs.declared.due.Open.{Open}
use Rattle.qm_check.specs.declared.walk.Walk.{Walk}
use Rattle.qm_check.specs.Texts.{IsClaimed, IsFault, TakesClaim, TakesNext, verdict_at}
use Rattle.qm_check.specs.Walks.{IsNext as Is-next, IsOpen, IsWalk, covering_of, due_tasks, plain_line, tasks_of, tree_task}

-- ---- a line

module _ (P : Problem) (task : Task) (line : List ℕ) where
  abbrev said : Spelled Node
  said = said_at first_style P (due_of task) (words_of line)

  pub verdict_says : (node : Node) → said_at first_style P (due_of task) (words_of line) ≡ Ok node → line_verdict P task line ≡ rule_at P [] [] task node
  verdict_says node e = ap (λ (s : Spelled Node). elim s as (λ _. Verdict) [ Ok n ↦ rule_at P [] [] task n | Err r ↦ Broken (rule_of r) 0 ]) e

  pub verdict_breaks : (r : Misread) → said_at first_style P (due_of task) (words_of line) ≡ Err r → line_verdict P task line ≡ Broken (rule_of r) 0
  verdict_breaks r e = ap (λ (s : Spelled Node). elim s as (λ _. Verdict) [ Ok n ↦ rule_at P [] [] task n | Err m ↦ Broken (rule_of m) 0 ]) e

  pub behind_says : (node : Node) (tasks : List Task) → said_at first_style P (due_of task) (words_of line) ≡ Ok node → tasks_behind P task line tasks ≡ follow first_style P task node ++ tasks
  behind_says node tasks e = ap (λ (s : Spelled Node). elim s as (λ _. List Task) [ Ok n ↦ follow first_style P task n ++ tasks | Err r ↦ tasks ]) e

  pub says_judged : {A : Type 0} (node : Node) (result : Result A Fault) → said_at first_style P (due_of task) (words_of line) ≡ Ok node → IsJudged (rule_at P [] [] task node) result
      → IsJudged (line_verdict P task line) result
  says_judged node result e judged = subst (λ v. IsJudged v result) (sym (verdict_says node e)) judged

-- ---- the lines from one on

judge_next : (P : Problem) (tasks : List Task) (line next : List ℕ) (lines : List (List ℕ))
    → judge_lines first_style P [] [] tasks (line ∷ next ∷ lines) ≡ (next_verdict P tasks line then judge_lines first_style P [] [] (next_tasks P tasks line) (next ∷ lines))
judge_next P [] line next lines = refl
judge_next P (task ∷ tasks) line next lines = by (said_at first_style P (due_of task) (words_of line))
  where
    by : (s : Spelled Node)
        → (let v : Verdict = elim s [ Ok node ↦ rule_at P [] [] task node then judge_lines first_style P [] [] (follow first_style P task node ++ tasks) (next ∷ lines) | Err r ↦ Broken (rule_of r) 0 ] in v)
        ≡ ((let v : Verdict = elim s [ Ok node ↦ rule_at P [] [] task node | Err r ↦ Broken (rule_of r) 0 ] in v)
        then judge_lines first_style P [] [] (let ts : List Task = elim s [ Ok node ↦ follow first_style P task node ++ tasks | Err r ↦ tasks ] in ts) (next ∷ lines))
    by (Ok node) = refl
    by (Err r) = refl

then_one : (m : ℕ) (v : Verdict) → (Fine m) then ((Fine 1) then v) ≡ (Fine (m + 1)) then v
then_one m (Fine n) = ap Fine (omega arith)
then_one m (Broken r n) = ap (Broken r) (omega arith)
then_one m (Left l n) = ap (Left l) (omega arith)

-- there is a piece, and others
some_piece : (test : ℕ → Bool) (bytes : List ℕ) → (x : List ℕ) × (xs : List (List ℕ)) × (slice_split test bytes ≡ x ∷ xs)
some_piece test [] = ([], [], refl)
some_piece test (b ∷ bytes) =
    let rest = some_piece test bytes in
    elim (test b) as (λ t. test b ≡ t → (x : List ℕ) × (xs : List (List ℕ)) × (slice_split test (b ∷ bytes) ≡ x ∷ xs)) [
      | true ↦ λ e. ([], slice_split test bytes, slice_split-cons_yes test b bytes e)
      | false ↦ λ e. (b ∷ rest.0, rest.1, slice_split-cons_no test b bytes e ∙ ap (onto_first b) rest.2)
    ] refl

-- a single piece is all that stands there
single_piece : (test : ℕ → Bool) (bytes rest : List ℕ) → slice_split test bytes ≡ rest ∷ [] → rest ≡ bytes
single_piece test [] rest e = cc
single_piece test (b ∷ bytes) rest e = by (test b) refl (λ (r : List ℕ) p. single_piece test bytes r p)
  where
    by : (t : Bool) → test b ≡ t → ((r : List ℕ) → slice_split test bytes ≡ r ∷ [] → r ≡ bytes) → rest ≡ b ∷ bytes
    by true is single =
        let more = some_piece test bytes in
        let pieces = sym (slice_split-cons_yes test b bytes is) ∙ e in
        let others = more.2 in cc
    by false is single =
        let more = some_piece test bytes in
        let others = more.2 in
        let pieces : (b ∷ more.0) ∷ more.1 ≡ rest ∷ [] = ap (onto_first b) (sym others) ∙ sym (slice_split-cons_no test b bytes is) ∙ e in
        let none : more.1 ≡ [] = cc in
        let below = single more.0 (others ∙ ap (λ xs. more.0 ∷ xs) none) in cc

module _ (P : Problem) (text : List ℕ) (here there : Cursor) (line : List ℕ) (tasks : List Task) (next : IsNext text line here there) where
  opened : verdict_at P tasks text here ≡ (Fine here.line) then (next_verdict P tasks line then judge_lines first_style P [] [] (next_tasks P tasks line) (lines_at text there))
  opened =
      let rest = some_piece (is_byte 10) (drop there.at text) in
      ap (λ ls. (Fine here.line) then judge_lines first_style P [] [] tasks ls) (next.lines ∙ ap (λ ls. line ∷ ls) rest.2)
      ∙ ap (λ v. (Fine here.line) then v) (judge_next P tasks line rest.0 rest.1)
      ∙ ap (λ ls. (Fine here.line) then (next_verdict P tasks line then judge_lines first_style P [] [] (next_tasks P tasks line) ls)) (sym rest.2)

  pub line_taken : (new : List Task) → next_verdict P tasks line ≡ Fine 1 → new ≡ next_tasks P tasks line → verdict_at P tasks text here ≡ verdict_at P new text there
  line_taken new fine is =
      opened
      ∙ ap₂ (λ (v : Verdict) (ts : List Task). (Fine here.line) then (v then judge_lines first_style P [] [] ts (lines_at text there))) fine (sym is)
      ∙ then_one here.line (judge_lines first_style P [] [] new (lines_at text there))
      ∙ ap (λ n. (Fine n) then judge_lines first_style P [] [] new (lines_at text there)) (sym next.number)

  pub line_fault : (f : Fault) → IsJudged {A = Unit {0}} (next_verdict P tasks line) (Err f) → IsFault (verdict_at P tasks text here) (fault_at f here.line)
  line_fault (fault.Broken rule) e =
      opened ∙ ap (λ v. (Fine here.line) then (v then judge_lines first_style P [] [] (next_tasks P tasks line) (lines_at text there))) e ∙ ap (Broken rule) (omega arith)
  line_fault (fault.Leaves leaves) e =
      opened ∙ ap (λ v. (Fine here.line) then (v then judge_lines first_style P [] [] (next_tasks P tasks line) (lines_at text there))) e ∙ ap (Left leaves) (omega arith)
  line_fault fault.Memory e = tt

pub goes_further : (text : List ℕ) (here there : Cursor) (line : List ℕ) → IsIn text here → IsIn text there → IsNext text line here there → here.at < there.at
goes_further text here there line h t next =
    omega (arith, ap length next.bytes, length-append line (10 ∷ drop there.at text), length-drop here.at text, length-drop there.at text, h.inside, t.inside)

-- ---- the end

pub end_fine : (P : Problem) (text : List ℕ) (cursor : Cursor) → IsMissing text cursor → cursor.at ≡ length text → verdict_at P [] text cursor ≡ Fine (cursor.line + 0)
end_fine P text cursor missing ends =
    let all = single_piece (is_byte 10) (drop cursor.at text) missing.0 missing.1 in
    let len = length-drop cursor.at text in
    let none : length missing.0 ≡ 0 = omega (arith, ap length all, len) in
    ap (λ ls. (Fine cursor.line) then judge_lines first_style P [] [] [] ls) missing.1 ∙ by missing.0 none
  where
    by : (rest : List ℕ) → length rest ≡ 0 → (Fine cursor.line) then judge_lines first_style P [] [] [] (rest ∷ []) ≡ Fine (cursor.line + 0)
    by [] e = refl
    by (b ∷ rest) e = absurd (omega (arith, e))

pub end_missed : (P : Problem) (text : List ℕ) (cursor : Cursor) → IsMissing text cursor → cursor.at < length text → verdict_at P [] text cursor ≡ Broken broken.Text cursor.line
end_missed P text cursor missing more =
    let all = single_piece (is_byte 10) (drop cursor.at text) missing.0 missing.1 in
    let len = length-drop cursor.at text in
    let some : 0 < length missing.0 = omega (arith, ap length all, len) in
    ap (λ ls. (Fine cursor.line) then judge_lines first_style P [] [] [] ls) missing.1 ∙ by missing.0 some
  where
    by : (rest : List ℕ) → 0 < length rest → (Fine cursor.line) then judge_lines first_style P [] [] [] (rest ∷ []) ≡ Broken broken.Text cursor.line
    by [] e = absurd (omega (arith, e))
    by (b ∷ rest) e = ap (Broken broken.Text) (omega arith)

pub due_missed : (P : Problem) (text : List ℕ) (cursor : Cursor) (task : Task) (tasks due : List Task) → due ≡ task ∷ tasks → IsMissing text cursor → verdict_at P due text cursor ≡ Broken broken.Text cursor.line
due_missed P text cursor task tasks due is missing =
    ap₂ (λ (ts : List Task) (ls : List (List ℕ)). (Fine cursor.line) then judge_lines first_style P [] [] ts ls) is missing.1 ∙ ap (Broken broken.Text) (omega arith)

-- ---- the first line, and the text from its beginning

pub line_took : (P : Problem) (text : List ℕ) (old new : Walk) (here there : Cursor) (line : List ℕ) → IsIn text here → IsNext text line here there → IsIn text there → IsWalk P new
    → next_verdict P (tasks_of old) line ≡ Fine 1 → tasks_of new ≡ next_tasks P (tasks_of old) line → TakesNext P text old new here there true
line_took P text old new here there line from next to walk fine is =
    (to, goes_further text here there line from to next, walk, line_taken P text here there line (tasks_of old) next (tasks_of new) fine is)

module _ (text : List ℕ) (here there : Cursor) (line : List ℕ) (next : IsNext text line here there) where
  pub claim_took : (c : Claim) → claim_said (words_of line) ≡ Ok (claim_node c) → IsIn text there → TakesClaim text here there c
  claim_took c says to = (
    to,
    (λ P. line_taken P text here there line (Claimed ∷ []) next (follow first_style P Claimed (claim_node c)) (verdict_says P Claimed line (claim_node c) says)
        (sym (behind_says P Claimed line (claim_node c) [] says ∙ append-nil (follow first_style P Claimed (claim_node c))))),
    subst (λ ls. IsClaimed ls c) (sym next.lines) says,
  )

  pub claim_fault : (r : Misread) → claim_said (words_of line) ≡ Err r → (P : Problem) → IsFault (verdict_at P (Claimed ∷ []) text here) (text_fault.Broken here.line (rule_of r))
  claim_fault r breaks P = line_fault P text here there line (Claimed ∷ []) next (fault.Broken (rule_of r)) (verdict_breaks P Claimed line r breaks)

pub claim_missed : (text : List ℕ) (here : Cursor) → IsMissing text here → (P : Problem) → IsFault (verdict_at P (Claimed ∷ []) text here) (text_fault.Broken here.line broken.Text)
claim_missed text here missing P = due_missed P text here Claimed [] (Claimed ∷ []) refl missing

-- something is due
some_task : (d : Due) (bx : List Range) → Is-next d bx → (task : Task) × (due_tasks d bx ≡ task ∷ [])
some_task (due.Line line) bx next = (Said (plain_line line), refl)
some_task due.Played bx next = (Played, refl)
some_task (due.Tree tree) bx next = (tree_task tree bx, refl)
some_task (due.Open node) bx next = by node.left refl
  where
    by : (n : ℕ) → node.left ≡ n → (task : Task) × (ranges (covering_of node bx) node.left node.next ≡ task ∷ [])
    by zero e = absurd (omega (arith, e, next.some))
    by (suc n) e = (Ranges (covering_of node bx) n node.next, ap (λ m. ranges (covering_of node bx) m node.next) e)

pub more_due : (P : Problem) (text : List ℕ) (cursor : Cursor) (d : Due) (bx : List Range) (tasks all : List Task) → all ≡ due_tasks d bx ++ tasks → Is-next d bx → IsMissing text cursor
    → verdict_at P all text cursor ≡ Broken broken.Text cursor.line
more_due P text cursor d bx tasks all is next missing =
    let task = some_task d bx next in
    due_missed P text cursor task.0 tasks all (is ∙ ap (λ ts. ts ++ tasks) task.1) missing

pub first_place : (text : List ℕ) (n : ℕ) → length text < n → n ≡ 2 ^ 31 → IsIn text (record { at = 0; line = 1 })
first_place text n short is = record { inside = omega arith; counted = omega arith; short = omega (arith, short, is) }

-- ---- a range that is due

module _ (P : Problem) (node : Open) (bx : List Range) (tasks : List Task) (line : List ℕ) (next : IsOpen node bx) where
  abbrev part : Task
  part = Ranges (covering_of node bx) (node.left - 1) node.next

  part_due : due_tasks (due.Open node) bx ++ tasks ≡ part ∷ tasks
  part_due = by node.left refl
    where
      by : (n : ℕ) → node.left ≡ n → due_tasks (due.Open node) bx ++ tasks ≡ part ∷ tasks
      by zero e = absurd (omega (arith, e, next.some))
      by (suc n) e =
          let less : n ≡ node.left - 1 = omega (arith, e) in
          ap (λ m. ranges (covering_of node bx) m node.next ++ tasks) e ∙ ap (λ m. Ranges (covering_of node bx) m node.next ∷ tasks) less

  pub part_judged : {A : Type 0} (result : Result A Fault) → IsJudged (line_verdict P part line) result → IsJudged (next_verdict P (due_tasks (due.Open node) bx ++ tasks) line) result
  part_judged {A} result judged = subst (λ ts. IsJudged (next_verdict P ts line) result) (sym part_due) judged

  pub part_behind : tasks_behind P part line tasks ≡ next_tasks P (due_tasks (due.Open node) bx ++ tasks) line
  part_behind = sym (ap (λ ts. next_tasks P ts line) part_due)

-- ---- a universal play

pub play_unread : (P : Problem) (line : List ℕ) (u : Unread) (n : ℕ) → n ≡ universal_count (whole_vars P) → Fails u (said_behind (codes "legal" ∷ []) (each_of value_word n) (words_of line))
    → IsJudged {A = Unit {0}} (line_verdict P Played line) (Err (fault_of u))
play_unread P line (unread.Misread r) n is fails =
    verdict_breaks P Played line r (ap (λ m. said_as Legal (said_behind (codes "legal" ∷ []) (each_of value_word m) (words_of line))) (sym is) ∙ ap (said_as Legal) fails)
play_unread P line unread.Memory n is fails = tt

-- the text from its first line on
pub first_verdict : (P : Problem) (text : List ℕ) → (Fine 1) then first_fault P text ≡ verdict_at P (Claimed ∷ []) text (record { at = 0; line = 1 })
unfolding first_fault
first_verdict P text = refl
