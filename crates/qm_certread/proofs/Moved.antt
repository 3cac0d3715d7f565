-- What is read of a text, line by line.
use Rattle.std.proofs.Common.{◌≡◌, ℕ, ◌+◌, List, [], ◌∷◌, ◌++◌, drop, Ok, Err, inl, inr, sym, ap, ap₂, ◌∙◌, subst, arith}
use Rattle.qm_model.specs.declared.game.Problem.{Problem}
use Rattle.qm_trees.specs.declared.rule.Rule.TheVariants as broken
use Rattle.qm_trees.specs.Verdicts.{Verdict, Fine, Broken, Left, ◌then◌}
use Rattle.memchr.specs.Find.{is_byte}
use Rattle.qm_certread.specs.declared.cursor.Cursor.{Cursor}
use Rattle.qm_certread.specs.declared.fault.CertFault.{CertFault}
use Rattle.qm_certread.specs.declared.fault.CertFault.TheVariants as fault
use Rattle.qm_certread.specs.declared.fault.Misread.{Misread}
use Rattle.qm_certread.specs.declared.fault.Misread.TheVariants as rule
use Rattle.qm_certfile.specs.Lines.{Line}
use Rattle.qm_certfile.specs.Styles.{first_style}
use Rattle.qm_certread.specs.Pieces.{words_of}
use Rattle.qm_certread.specs.Spelling.{Said}
use Rattle.qm_certread.specs.Nodes.{Node}
use Rattle.qm_certread.specs.Dues.{Due, after}
use Rattle.qm_certread.specs.Forms.{form_of, rule_of, said_as, said_at}
use Rattle.qm_certread.specs.ReadSteps.{IsFault, IsMissing, Moves, NextBreaks, NextFails, NextSays, form_at, lines_at}
use Rattle.qm_certread.proofs.WordCuts.{some_piece}

-- ---- verdicts

then_later : (m : ℕ) (v : Verdict) → (Fine m) then ((Fine 1) then v) ≡ (Fine (m + 1)) then v
then_later m (Fine n) = ap Fine (omega arith)
then_later m (Broken r n) = ap (Broken r) (omega arith)
then_later m (Left l n) = ap (Left l) (omega arith)

-- ---- one line

-- what is due where a line says it: the verdict goes on behind it
pub step_of : (P : Problem) (d : Due) (dues : List Due) (line next : List ℕ) (lines : List (List ℕ)) (node : Node) → said_at first_style P d (words_of line) ≡ Ok node
    → form_of first_style P (d ∷ dues) (line ∷ next ∷ lines) ≡ (Fine 1) then form_of first_style P (after first_style d node ++ dues) (next ∷ lines)
step_of P d dues line next lines node says =
    ap (λ (s : Said Node). elim s as (λ _. Verdict) [ Ok node ↦ (Fine 1) then form_of first_style P (after first_style d node ++ dues) (next ∷ lines) | Err r ↦ Broken (rule_of r) 0 ]) says

stop_of : (P : Problem) (d : Due) (dues : List Due) (line next : List ℕ) (lines : List (List ℕ)) (m : Misread) → said_at first_style P d (words_of line) ≡ Err m
    → form_of first_style P (d ∷ dues) (line ∷ next ∷ lines) ≡ Broken (rule_of m) 0
stop_of P d dues line next lines m breaks =
    ap (λ (s : Said Node). elim s as (λ _. Verdict) [ Ok node ↦ (Fine 1) then form_of first_style P (after first_style d node ++ dues) (next ∷ lines) | Err r ↦ Broken (rule_of r) 0 ]) breaks

module _ (P : Problem) (text : List ℕ) where
  line_form : (d : Due) (dues : List Due) (node : Node) (old new : Cursor) → NextSays text (said_at first_style P d) old new node
      → form_at P text (d ∷ dues) old ≡ form_at P text (after first_style d node ++ dues) new
  line_form d dues node old new says =
      let next = says.next in
      let rest = some_piece (is_byte 10) (drop new.at text) in
      let there : lines_at text old ≡ says.line ∷ rest.0 ∷ rest.1 = next.lines ∙ ap (λ ls. says.line ∷ ls) rest.2 in
      ap (λ ls. (Fine old.line) then form_of first_style P (d ∷ dues) ls) there
      ∙ ap (λ v. (Fine old.line) then v) (step_of P d dues says.line rest.0 rest.1 node says.says)
      ∙ then_later old.line (form_of first_style P (after first_style d node ++ dues) (rest.0 ∷ rest.1))
      ∙ ap₂ (λ (n : ℕ) (ls : List (List ℕ)). (Fine n) then form_of first_style P (after first_style d node ++ dues) ls) (sym next.number) (sym rest.2)

  line_broken : {A : Type 0} (said : Line → Said A) (node : A → Node) (d : Due) (dues : List Due) (old : Cursor) (m : Misread)
      → ((words : Line) → said_at first_style P d words ≡ said_as node (said words)) → NextBreaks text said old m
      → form_at P text (d ∷ dues) old ≡ Broken (rule_of m) (old.line + 0)
  line_broken {A} said node d dues old m is breaks =
      let next = breaks.next in
      let rest = some_piece (is_byte 10) (drop breaks.after.at text) in
      let there : lines_at text old ≡ breaks.line ∷ rest.0 ∷ rest.1 = next.lines ∙ ap (λ ls. breaks.line ∷ ls) rest.2 in
      ap (λ ls. (Fine old.line) then form_of first_style P (d ∷ dues) ls) there
      ∙ ap (λ v. (Fine old.line) then v) (stop_of P d dues breaks.line rest.0 rest.1 m (is (words_of breaks.line) ∙ ap (said_as node) breaks.breaks))

  line_missing : (d : Due) (dues : List Due) (old : Cursor) → IsMissing text old → form_at P text (d ∷ dues) old ≡ Broken broken.Text (old.line + 0)
  line_missing d dues old missing = ap (λ ls. (Fine old.line) then form_of first_style P (d ∷ dues) ls) missing.1

  -- a line that isn't what is due is the first at fault
  pub fails_here : {A : Type 0} (said : Line → Said A) (node : A → Node) (d : Due) (old : Cursor) (e : CertFault)
      → ((words : Line) → said_at first_style P d words ≡ said_as node (said words)) → NextFails text said old e → (dues : List Due) → IsFault P text (d ∷ dues) old e
  fails_here {A} said node d old (fault.Text n) is (number, inl missing) dues = line_missing d dues old missing ∙ ap (Broken broken.Text) (omega arith)
  fails_here {A} said node d old (fault.Text n) is (number, inr breaks) dues = line_broken said node d dues old rule.Text is breaks ∙ ap (Broken broken.Text) (omega arith)
  fails_here {A} said node d old (fault.Number n) is (number, breaks) dues = line_broken said node d dues old rule.Number is breaks ∙ ap (Broken broken.Number) (omega arith)
  fails_here {A} said node d old fault.Memory is h dues = tt

  -- and one that is what is due says its node
  pub says_here : {A : Type 0} (said : Line → Said A) (node : A → Node) (d : Due) (old new : Cursor) (a : A)
      → ((words : Line) → said_at first_style P d words ≡ said_as node (said words)) → NextSays text said old new a → NextSays text (said_at first_style P d) old new (node a)
  says_here {A} said node d old new a is says = record {
    line = says.line;
    next = says.next;
    says = is (words_of says.line) ∙ ap (said_as node) says.says;
  }

  -- ---- several lines

  pub moves_then : (dues mids end : List Due) (ns ms : List Node) (old mid new : Cursor) → Moves P text dues ns mids old mid → Moves P text mids ms end mid new
      → Moves P text dues (ns ++ ms) end old new
  moves_then dues mids end [] ms old mid new (same, here) second =
      subst (λ ds. Moves P text ds ms end old new) (sym same) (subst (λ (c : Cursor). Moves P text mids ms end c new) (sym here) second)
  moves_then [] mids end (n ∷ ns) ms old mid new first second = absurd first
  moves_then (d ∷ dues) mids end (n ∷ ns) ms old mid new (c, says, rest) second =
      (c, says, moves_then (after first_style d n ++ dues) mids end ns ms c mid new rest second)

  pub moves_form : (dues end : List Due) (ns : List Node) (old new : Cursor) → Moves P text dues ns end old new → form_at P text dues old ≡ form_at P text end new
  moves_form dues end [] old new (same, here) = ap₂ (λ (ds : List Due) (c : Cursor). form_at P text ds c) same here
  moves_form [] end (n ∷ ns) old new moves = absurd moves
  moves_form (d ∷ dues) end (n ∷ ns) old new (mid, says, rest) =
      line_form d dues n old mid says ∙ moves_form (after first_style d n ++ dues) end ns mid new rest

  fault_along : (dues mids : List Due) (old mid : Cursor) (e : CertFault) → form_at P text dues old ≡ form_at P text mids mid → IsFault P text mids mid e → IsFault P text dues old e
  fault_along dues mids old mid (fault.Text n) same h = same ∙ h
  fault_along dues mids old mid (fault.Number n) same h = same ∙ h
  fault_along dues mids old mid fault.Memory same h = tt

  -- what fails behind lines that were read, fails from there on
  pub fails_behind : (dues mids : List Due) (ns : List Node) (old mid : Cursor) (e : CertFault) → Moves P text dues ns mids old mid → IsFault P text mids mid e → IsFault P text dues old e
  fails_behind dues mids ns old mid e moves h = fault_along dues mids old mid e (moves_form dues mids ns old mid moves) h
