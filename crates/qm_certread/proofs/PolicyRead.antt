-- Policies that are read.
use Rattle.std.proofs.Common.{◌≡◌, ℕ, suc, Bool, true, false, List, [], ◌∷◌, ◌++◌, length, map, ℤ, Option, None, Some, Ok, Err, inl, inr, refl, sym, ap, ◌∙◌, subst, arith}
use Rattle.std.specs.Prelude.{codes, drop, if◌then◌else◌}
use Rattle.std.proofs.lemmas.List.{length-map}
use Rattle.memchr.specs.Find.{is_byte}
use Rattle.qm_math.specs.Fraction.{Fraction}
use Rattle.qm_model.specs.declared.variable.Player.{Player}
use Rattle.qm_model.specs.declared.variable.Player.TheVariants.{Exists, All as Universal}
use Rattle.qm_model.specs.declared.game.Problem.{Problem}
use Rattle.qm_model.specs.Points.{continuous_vars}
use Rattle.qm_trees.specs.Verdicts.{Verdict, Fine, Broken, ◌then◌}
use Rattle.qm_trees.specs.declared.policy.Policy.{Policy as Tree}
use Rattle.qm_trees.specs.declared.policy.Policy.TheVariants.{Answer as AnswerTree, Choose as ChooseTree, rolls-Answer, rolls-Choose}
use Rattle.qm_trees.specs.declared.policy.Below.TheOpen as answer
use Rattle.qm_trees.specs.declared.policy.Below.TheVariants.{On as OnPolicy, rolls-On}
use Rattle.qm_trees.specs.declared.policy.Below.TheFolds.{fold-roll-Below, fold-roll-Policy}
use Rattle.qm_trees.specs.declared.policy.PolicyPart.{PolicyPart}
use Rattle.qm_certread.specs.declared.cursor.Cursor.{Cursor}
use Rattle.qm_certread.specs.declared.fault.CertFault.{CertFault}
use Rattle.qm_certread.specs.declared.fault.CertFault.TheVariants as fault
use Rattle.qm_certread.specs.declared.fault.Misread.TheVariants as rule
use Rattle.qm_certfile.specs.Lines.{Line}
use Rattle.qm_certfile.specs.Styles.{first_style}
use Rattle.qm_certread.specs.Pieces.{words_of}
use Rattle.qm_certread.specs.Spelling.{Said, count_word, each_of, fraction_word, one, value_word}
use Rattle.qm_certread.specs.Nodes.{Node, Answer, Choose, Fixed, Leaf}
use Rattle.qm_certread.specs.Dues.{Due, Below, Policy, after, illegal_line}
use Rattle.qm_certread.specs.Forms.{form_of, is_line, player_at, policy_said, rule_of, said_as, said_at, said_behind}
use Rattle.qm_certread.specs.NodesOf.{below_nodes, below_step, in_turn, policy_nodes, policy_part_nodes, policy_part_step, policy_step}
use Rattle.qm_certread.specs.ReadSteps.{Fails, IsFault, IsMissing, IsOther, Meets, Moves, NextSays, fixed_said, form_at, lines_at}
use Rattle.qm_certread.proofs.WordCuts.{some_piece}

pub choose_nodes : (value : ℤ) (below tree : Tree) → below ≡ tree → policy_nodes (ChooseTree value below) ≡ Choose value ∷ policy_nodes tree
choose_nodes value below tree is =
    ap policy_nodes (sym (rolls-Choose value below))
    ∙ fold-roll-Policy (List Node) (List Node) (List Node) below_step policy_step policy_part_step (answer.Choose value below)
    ∙ ap (λ t. Choose value ∷ policy_nodes t) is

pub answer_nodes : (parts : List PolicyPart) (count : ℕ) → length parts ≡ count → policy_nodes (AnswerTree parts) ≡ Answer count ∷ in_turn (map policy_part_nodes parts)
answer_nodes parts count is =
    ap policy_nodes (sym (rolls-Answer parts))
    ∙ fold-roll-Policy (List Node) (List Node) (List Node) below_step policy_step policy_part_step (answer.Answer parts)
    ∙ ap (λ n. Answer n ∷ in_turn (map policy_part_nodes parts)) (length-map parts policy_part_nodes ∙ is)

-- ---- what a line of a policy says, by who sets the next variable

abbrev pub by_player : Problem → ℕ → Line → Option Player → Said Node
by_player P depth words None = said_as Leaf (said_behind (codes "leaf" ∷ []) (each_of fraction_word (length (continuous_vars P))) words)
by_player P depth words (Some Exists) = said_as Choose (said_behind (codes "choose" ∷ []) (one value_word) words)
by_player P depth words (Some Universal) = said_as Answer (said_behind (codes "answer" ∷ []) (one count_word) words)

by_found : (P : Problem) (depth : ℕ) (words : Line) (found : Option Player) → (elim found as (λ _. Said Node) [
  | None ↦ said_as Leaf (said_behind (codes "leaf" ∷ []) (each_of fraction_word (length (continuous_vars P))) words)
  | Some player ↦ elim player as (λ _. Said Node) [
    | Exists ↦ said_as Choose (said_behind (codes "choose" ∷ []) (one value_word) words)
    | Universal ↦ said_as Answer (said_behind (codes "answer" ∷ []) (one count_word) words)
  ]
]) ≡ by_player P depth words found
by_found P depth words None = refl
by_found P depth words (Some Exists) = refl
by_found P depth words (Some Universal) = refl

pub policy_is : (P : Problem) (depth : ℕ) (found : Option Player) (words : Line) → player_at P depth ≡ found → policy_said first_style P depth words ≡ by_player P depth words found
policy_is P depth found words is = by_found P depth words (player_at P depth) ∙ ap (by_player P depth words) is

pub leaf_is : (P : Problem) (depth : ℕ) → player_at P depth ≡ None → (words : Line) → said_at first_style P (Policy depth) words ≡ said_as Leaf (said_behind (codes "leaf" ∷ []) (each_of fraction_word (length (continuous_vars P))) words)
leaf_is P depth is words = policy_is P depth None words is

pub choose_is : (P : Problem) (depth : ℕ) → player_at P depth ≡ Some Exists → (words : Line) → said_at first_style P (Policy depth) words ≡ said_as Choose (said_behind (codes "choose" ∷ []) (one value_word) words)
choose_is P depth is words = policy_is P depth (Some Exists) words is

pub answer_is : (P : Problem) (depth : ℕ) → player_at P depth ≡ Some Universal → (words : Line) → said_at first_style P (Policy depth) words ≡ said_as Answer (said_behind (codes "answer" ∷ []) (one count_word) words)
answer_is P depth is words = policy_is P depth (Some Universal) words is

-- ---- below a range

pub on_nodes : (policy : Tree) → below_nodes (OnPolicy policy) ≡ policy_nodes policy
on_nodes policy = ap below_nodes (sym (rolls-On policy)) ∙ fold-roll-Below (List Node) (List Node) (List Node) below_step policy_step policy_part_step (answer.On policy)

illegal_by : (t : Bool) (P : Problem) (depth : ℕ) (words : Line) (node : Node) → (if t then Ok (Fixed illegal_line) else Err rule.Text) ≡ Ok node
    → (if t then Ok (Fixed illegal_line) else policy_said first_style P depth words) ≡ Ok node
illegal_by true P depth words node e = e
illegal_by false P depth words node e = absurd cc

pub illegal_says : (P : Problem) (text : List ℕ) (depth : ℕ) (old new : Cursor) (node : Node) → NextSays text (fixed_said illegal_line) old new node → NextSays text (said_at first_style P (Below depth)) old new node
illegal_says P text depth old new node says = record {
  line = says.line;
  next = says.next;
  says = illegal_by (is_line illegal_line (words_of says.line)) P depth (words_of says.line) node says.says;
}

-- where no line `illegal` stands, what stands below a range is a policy
below_same : (P : Problem) (depth : ℕ) (words : Line) → is_line illegal_line words ≡ false → said_at first_style P (Below depth) words ≡ said_at first_style P (Policy depth) words
below_same P depth words is = ap (λ (t : Bool). if t then Ok (Fixed illegal_line) else policy_said first_style P depth words) is

leaf_after : (depth : ℕ) (s : Said (List Fraction)) (node : Node) → said_as Leaf s ≡ Ok node → after first_style (Below depth) node ≡ after first_style (Policy depth) node
leaf_after depth (Ok a) node e = let same : Leaf a ≡ node = cc in subst (λ n. after first_style (Below depth) n ≡ after first_style (Policy depth) n) same refl
leaf_after depth (Err f) node e = absurd cc

choose_after : (depth : ℕ) (s : Said ℤ) (node : Node) → said_as Choose s ≡ Ok node → after first_style (Below depth) node ≡ after first_style (Policy depth) node
choose_after depth (Ok a) node e = let same : Choose a ≡ node = cc in subst (λ n. after first_style (Below depth) n ≡ after first_style (Policy depth) n) same refl
choose_after depth (Err f) node e = absurd cc

answer_after : (depth : ℕ) (s : Said ℕ) (node : Node) → said_as Answer s ≡ Ok node → after first_style (Below depth) node ≡ after first_style (Policy depth) node
answer_after depth (Ok a) node e = let same : Answer a ≡ node = cc in subst (λ n. after first_style (Below depth) n ≡ after first_style (Policy depth) n) same refl
answer_after depth (Err f) node e = absurd cc

after_by : (P : Problem) (depth : ℕ) (words : Line) (found : Option Player) (node : Node) → by_player P depth words found ≡ Ok node → after first_style (Below depth) node ≡ after first_style (Policy depth) node
after_by P depth words None node e = leaf_after depth (said_behind (codes "leaf" ∷ []) (each_of fraction_word (length (continuous_vars P))) words) node e
after_by P depth words (Some Exists) node e = choose_after depth (said_behind (codes "choose" ∷ []) (one value_word) words) node e
after_by P depth words (Some Universal) node e = answer_after depth (said_behind (codes "answer" ∷ []) (one count_word) words) node e

after_same : (P : Problem) (depth : ℕ) (words : Line) (node : Node) → policy_said first_style P depth words ≡ Ok node → after first_style (Below depth) node ≡ after first_style (Policy depth) node
after_same P depth words node e = after_by P depth words (player_at P depth) node (sym (policy_is P depth (player_at P depth) words refl) ∙ e)

abbrev step_to : Problem → Due → List Due → List (List ℕ) → Said Node → Verdict
step_to P d behind lines (Ok node) = (Fine 1) then form_of first_style P (after first_style d node ++ behind) lines
step_to P d behind lines (Err m) = Broken (rule_of m) 0

step_is : (P : Problem) (d : Due) (behind : List Due) (line next : List ℕ) (lines : List (List ℕ)) (s : Said Node) → said_at first_style P d (words_of line) ≡ s
    → form_of first_style P (d ∷ behind) (line ∷ next ∷ lines) ≡ step_to P d behind (next ∷ lines) s
step_is P d behind line next lines s is =
    step_by (said_at first_style P d (words_of line)) ∙ ap (step_to P d behind (next ∷ lines)) is
  where
    step_by : (s : Said Node) → (elim s as (λ _. Verdict) [ Ok node ↦ (Fine 1) then form_of first_style P (after first_style d node ++ behind) (next ∷ lines) | Err m ↦ Broken (rule_of m) 0 ]) ≡ step_to P d behind (next ∷ lines) s
    step_by (Ok node) = refl
    step_by (Err m) = refl

longer : (d : Due) (dues : List Due) → d ∷ dues ≡ dues → ⊥
longer d dues e = let len : suc (length dues) ≡ length dues = ap length e in omega arith

module _ (P : Problem) (text : List ℕ) where
  same_step : (depth : ℕ) (behind : List Due) (words : Line) (lines : List (List ℕ)) (s : Said Node) → policy_said first_style P depth words ≡ s
      → step_to P (Below depth) behind lines s ≡ step_to P (Policy depth) behind lines s
  same_step depth behind words lines (Ok node) is = ap (λ ds. (Fine 1) then form_of first_style P (ds ++ behind) lines) (after_same P depth words node is)
  same_step depth behind words lines (Err m) is = refl

  step_same : (depth : ℕ) (behind : List Due) (line next : List ℕ) (lines : List (List ℕ)) → is_line illegal_line (words_of line) ≡ false
      → form_of first_style P (Below depth ∷ behind) (line ∷ next ∷ lines) ≡ form_of first_style P (Policy depth ∷ behind) (line ∷ next ∷ lines)
  step_same depth behind line next lines not =
      let words = words_of line in
      let s = policy_said first_style P depth words in
      step_is P (Below depth) behind line next lines s (below_same P depth words not)
      ∙ same_step depth behind words (next ∷ lines) s refl
      ∙ sym (step_is P (Policy depth) behind line next lines s refl)

  other_form : (depth : ℕ) (behind : List Due) (old : Cursor) → IsOther text old → form_at P text (Below depth ∷ behind) old ≡ form_at P text (Policy depth ∷ behind) old
  other_form depth behind old (inl missing) =
      ap (λ ls. (Fine old.line) then form_of first_style P (Below depth ∷ behind) ls) missing.1
      ∙ sym (ap (λ ls. (Fine old.line) then form_of first_style P (Policy depth ∷ behind) ls) missing.1)
  other_form depth behind old (inr (line, later, next, not)) =
      let rest = some_piece (is_byte 10) (drop later.at text) in
      let there : lines_at text old ≡ line ∷ rest.0 ∷ rest.1 = next.lines ∙ ap (λ ls. line ∷ ls) rest.2 in
      ap (λ ls. (Fine old.line) then form_of first_style P (Below depth ∷ behind) ls) there
      ∙ ap (λ v. (Fine old.line) then v) (step_same depth behind line rest.0 rest.1 not)
      ∙ sym (ap (λ ls. (Fine old.line) then form_of first_style P (Policy depth ∷ behind) ls) there)

  fault_same : (depth : ℕ) (behind : List Due) (old : Cursor) (e : CertFault) → IsOther text old → IsFault P text (Policy depth ∷ behind) old e → IsFault P text (Below depth ∷ behind) old e
  fault_same depth behind old (fault.Text n) other h = other_form depth behind old other ∙ h
  fault_same depth behind old (fault.Number n) other h = other_form depth behind old other ∙ h
  fault_same depth behind old fault.Memory other h = tt

  pub below_fails_so : (depth : ℕ) (old : Cursor) (e : CertFault) → IsOther text old → Fails P text (Policy depth ∷ []) old e → Fails P text (Below depth ∷ []) old e
  below_fails_so depth old e other h = λ behind. fault_same depth behind old e other (h behind)

  -- two lines that stand at one place are one
  one_line : (old : Cursor) (one other : List ℕ) (rest more : List (List ℕ)) → lines_at text old ≡ one ∷ rest → lines_at text old ≡ other ∷ more → one ≡ other
  one_line old one other rest more p q = let same : one ∷ rest ≡ other ∷ more = sym p ∙ q in cc

  not_missing : (old : Cursor) (line : List ℕ) (more : Cursor) → lines_at text old ≡ line ∷ lines_at text more → IsMissing text old → ⊥
  not_missing old line more p missing =
      let rest = some_piece (is_byte 10) (drop more.at text) in
      let same : line ∷ rest.0 ∷ rest.1 ≡ missing.0 ∷ [] = sym (p ∙ ap (λ ls. line ∷ ls) rest.2) ∙ missing.1 in
      cc

  says_so : (depth : ℕ) (old mid : Cursor) (node : Node) → IsOther text old → NextSays text (said_at first_style P (Policy depth)) old mid node → NextSays text (said_at first_style P (Below depth)) old mid node
  says_so depth old mid node (inl missing) says = absurd (not_missing old says.line mid says.next.lines missing)
  says_so depth old mid node (inr (line, later, next, not)) says =
      let same : line ≡ says.line = one_line old line says.line (lines_at text later) (lines_at text mid) next.lines says.next.lines in
      let other : is_line illegal_line (words_of says.line) ≡ false = ap (λ l. is_line illegal_line (words_of l)) (sym same) ∙ not in
      record { line = says.line; next = says.next; says = below_same P depth (words_of says.line) other ∙ says.says }

  moves_so : (depth : ℕ) (behind : List Due) (nodes : List Node) (old new : Cursor) → IsOther text old → Moves P text (Policy depth ∷ behind) nodes behind old new → Moves P text (Below depth ∷ behind) nodes behind old new
  moves_so depth behind [] old new other (same, here) = absurd (longer (Policy depth) behind same)
  moves_so depth behind (node ∷ nodes) old new other (mid, says, rest) =
      let after : after first_style (Policy depth) node ≡ after first_style (Below depth) node = sym (after_same P depth (words_of says.line) node says.says) in
      (mid, says_so depth old mid node other says, subst (λ ds. Moves P text (ds ++ behind) nodes behind mid new) after rest)

  pub below_meets_so : (depth : ℕ) (nodes all : List Node) (old new : Cursor) → IsOther text old → Meets P text (Policy depth ∷ []) nodes old new → all ≡ nodes → Meets P text (Below depth ∷ []) all old new
  below_meets_so depth nodes all old new other h same = λ behind. subst (λ ns. Moves P text (Below depth ∷ behind) ns behind old new) (sym same) (moves_so depth behind nodes old new other (h behind))
