-- Trees that are read line by line.
use Rattle.std.proofs.Common.{◌≡◌, ℕ, suc, ◌+◌, ◌-◌, ◌<◌, List, [], ◌∷◌, ◌++◌, append_assoc, map, Result, Ok, Err, refl, sym, ap, ◌∙◌, subst, arith}
use Rattle.std.specs.Prelude.{codes, IfErr, IsErrAnd}
use Rattle.std.proofs.lemmas.Result.{err_from_is_err_and}
use Rattle.qm_model.specs.declared.range.Range.{Range}
use Rattle.qm_model.specs.declared.game.Problem.{Problem}
use Rattle.qm_certread.specs.declared.cursor.Cursor.{Cursor}
use Rattle.qm_certread.specs.declared.fault.CertFault.{CertFault}
use Rattle.qm_certfile.specs.Lines.{Line}
use Rattle.qm_certfile.specs.Styles.{first_style}
use Rattle.qm_certread.specs.Spelling.{Said}
use Rattle.qm_certread.specs.Nodes.{Node, Part}
use Rattle.qm_certread.specs.Dues.{Due, Ranges, after, ranges}
use Rattle.qm_certread.specs.Forms.{range_said, said_as, said_at, said_behind}
use Rattle.qm_certread.specs.NodesOf.{in_turn}
use Rattle.qm_certread.specs.ReadSteps.{Fails, FailsPart, IsFault, Meets, MeetsPart, Moves, NextFails, NextSays}
use Rattle.qm_certread.proofs.Moved.{fails_behind, fails_here, moves_then, says_here}

-- what the exit of a `?` returns
pub err_out : {T : Type 0} (Q : CertFault → Type 0) (r : Result T CertFault) (e : CertFault) → IsErrAnd r (λ y. y ≡ e) → Q e → IfErr r Q
err_out {T} Q r e h q =
    let p = err_from_is_err_and r h in
    subst (λ (x : Result T CertFault). IfErr x Q) (sym p.1) (subst Q (sym p.2) q)

said_same : (s : Said Node) → s ≡ said_as (λ n. n) s
said_same (Ok n) = refl
said_same (Err m) = refl

append_nil : (ns : List Node) → ns ++ [] ≡ ns
append_nil [] = refl
append_nil (n ∷ ns) = ap (λ t. n ∷ t) (append_nil ns)

pub in_turn_more : (nss : List (List Node)) (ns : List Node) → in_turn (nss ++ ns ∷ []) ≡ in_turn nss ++ ns
in_turn_more [] ns = append_nil ns
in_turn_more (x ∷ nss) ns = ap (λ t. x ++ t) (in_turn_more nss ns) ∙ sym (append_assoc x (in_turn nss) ns)

map_more : {A : Type 0} (f : A → List Node) (xs : List A) (x : A) → map f (xs ++ x ∷ []) ≡ map f xs ++ f x ∷ []
map_more f [] x = refl
map_more f (y ∷ xs) x = ap (λ t. f y ∷ t) (map_more f xs x)

module _ (P : Problem) (text : List ℕ) where
  -- a line that isn't what is due
  pub node_fails : (said : Line → Said Node) (d : Due) (old : Cursor) (e : CertFault) → ((words : Line) → said_at first_style P d words ≡ said words) → NextFails text said old e → Fails P text (d ∷ []) old e
  node_fails said d old e is h = λ behind. fails_here P text said (λ n. n) d old e (λ words. is words ∙ said_same (said words)) h behind

  pub line_fails : {A : Type 0} (said : Line → Said A) (node : A → Node) (d : Due) (old : Cursor) (e : CertFault) → ((words : Line) → said_at first_style P d words ≡ said_as node (said words))
      → NextFails text said old e → Fails P text (d ∷ []) old e
  line_fails {A} said node d old e is h = λ behind. fails_here P text said node d old e is h behind

  -- what stands below a line that is what is due
  pub below_fails : (d : Due) (node : Node) (rest : List Due) (old mid : Cursor) (e : CertFault) → NextSays text (said_at first_style P d) old mid node → after first_style d node ≡ rest
      → Fails P text rest mid e → Fails P text (d ∷ []) old e
  below_fails d node rest old mid e says is h = λ behind.
      let there : IsFault P text (after first_style d node ++ behind) mid e = subst (λ ds. IsFault P text (ds ++ behind) mid e) (sym is) (h behind) in
      fails_behind P text (d ∷ behind) (after first_style d node ++ behind) (node ∷ []) old mid e (mid, says, (refl, refl)) there

  pub below_meets : (d : Due) (node : Node) (rest : List Due) (nodes all : List Node) (old mid new : Cursor) → NextSays text (said_at first_style P d) old mid node → after first_style d node ≡ rest
      → Meets P text rest nodes mid new → all ≡ node ∷ nodes → Meets P text (d ∷ []) all old new
  below_meets d node rest nodes all old mid new says is h same = λ behind.
      let there : Moves P text (after first_style d node ++ behind) nodes behind mid new = subst (λ ds. Moves P text (ds ++ behind) nodes behind mid new) (sym is) (h behind) in
      subst (λ ns. Moves P text (d ∷ behind) ns behind old new) (sym same) (mid, says, there)

  -- one list of lines after another
  pub meets_then : (ds es : List Due) (ns ms : List Node) (old mid new : Cursor) → Meets P text ds ns old mid → Meets P text es ms mid new → Meets P text (ds ++ es) (ns ++ ms) old new
  meets_then ds es ns ms old mid new first second = λ behind.
      subst (λ due. Moves P text due (ns ++ ms) behind old new) (sym (append_assoc ds es behind))
      (moves_then P text (ds ++ (es ++ behind)) (es ++ behind) behind ns ms old mid new (first (es ++ behind)) (second behind))

  pub fails_then : (ds es : List Due) (ns : List Node) (old mid : Cursor) (e : CertFault) → Meets P text ds ns old mid → Fails P text es mid e → Fails P text (ds ++ es) old e
  fails_then ds es ns old mid e first h = λ behind.
      subst (λ due. IsFault P text due old e) (sym (append_assoc ds es behind))
      (fails_behind P text (ds ++ (es ++ behind)) (es ++ behind) ns old mid e (first (es ++ behind)) (h behind))

  pub fails_first : (ds es : List Due) (old : Cursor) (e : CertFault) → Fails P text ds old e → Fails P text (ds ++ es) old e
  fails_first ds es old e h = λ behind. subst (λ due. IsFault P text due old e) (sym (append_assoc ds es behind)) (h (es ++ behind))

  -- ---- parts

  pub part_fails : (due : Due) (old : Cursor) (e : CertFault) → NextFails text (said_behind (codes "range" ∷ []) range_said) old e → FailsPart P text due old e
  part_fails due old e h = λ k behind. fails_here P text (said_behind (codes "range" ∷ []) range_said) Part (Ranges k due) old e (λ words. refl) h behind

  pub part_below_fails : (due : Due) (range : Range) (old mid : Cursor) (e : CertFault) → NextSays text (said_behind (codes "range" ∷ []) range_said) old mid range
      → Fails P text (due ∷ []) mid e → FailsPart P text due old e
  part_below_fails due range old mid e says h = λ k behind.
      fails_behind P text (Ranges k due ∷ behind) (due ∷ ranges k due ++ behind) (Part range ∷ []) old mid e
      (mid, says_here P text (said_behind (codes "range" ∷ []) range_said) Part (Ranges k due) old mid range (λ words. refl) says, (refl, refl)) (h (ranges k due ++ behind))

  pub part_meets : (due : Due) (range : Range) (nodes all : List Node) (old mid new : Cursor) → NextSays text (said_behind (codes "range" ∷ []) range_said) old mid range
      → Meets P text (due ∷ []) nodes mid new → all ≡ Part range ∷ nodes → MeetsPart P text due all old new
  part_meets due range nodes all old mid new says h same = λ k behind.
      subst (λ ns. Moves P text (Ranges k due ∷ behind) ns (ranges k due ++ behind) old new) (sym same)
      (mid, says_here P text (said_behind (codes "range" ∷ []) range_said) Part (Ranges k due) old mid range (λ words. refl) says, h (ranges k due ++ behind))

  -- so many parts have been read, of so many
  abbrev pub Moved : {A : Type 0} → (A → List Node) → Due → ℕ → ℕ → List A → Cursor → Cursor → Type 0
  Moved nodes due count turn parts start here =
      (behind : List Due) → Moves P text (ranges count due ++ behind) (in_turn (map nodes parts)) (ranges (count - turn) due ++ behind) start here

  pub parts_fail : {A : Type 0} (nodes : A → List Node) (due : Due) (count turn : ℕ) (parts : List A) (start here : Cursor) (e : CertFault) → turn < count
      → Moved nodes due count turn parts start here → FailsPart P text due here e → Fails P text (ranges count due) start e
  parts_fail {A} nodes due count turn parts start here e h moved fails = λ behind.
      let left : suc (count - (turn + 1)) ≡ count - turn = omega arith in
      fails_behind P text (ranges count due ++ behind) (ranges (count - turn) due ++ behind) (in_turn (map nodes parts)) start here e (moved behind)
      (subst (λ n. IsFault P text (ranges n due ++ behind) here e) left (fails (count - (turn + 1)) behind))

  pub parts_more : {A : Type 0} (nodes : A → List Node) (due : Due) (count turn : ℕ) (parts more : List A) (part : A) (start here new : Cursor) → turn < count
      → Moved nodes due count turn parts start here → MeetsPart P text due (nodes part) here new → more ≡ parts ++ part ∷ [] → Moved nodes due count (turn + 1) more start new
  parts_more {A} nodes due count turn parts more part start here new h moved meets is = λ behind.
      let left : suc (count - (turn + 1)) ≡ count - turn = omega arith in
      let end = ranges (count - (turn + 1)) due ++ behind in
      let next : Moves P text (ranges (count - turn) due ++ behind) (nodes part) end here new =
      subst (λ n. Moves P text (ranges n due ++ behind) (nodes part) end here new) left (meets (count - (turn + 1)) behind) in
      let all : in_turn (map nodes more) ≡ in_turn (map nodes parts) ++ nodes part =
      ap (λ ps. in_turn (map nodes ps)) is ∙ ap in_turn (map_more nodes parts part) ∙ in_turn_more (map nodes parts) (nodes part) in
      subst (λ ns. Moves P text (ranges count due ++ behind) ns end start new) (sym all)
      (moves_then P text (ranges count due ++ behind) (ranges (count - turn) due ++ behind) end (in_turn (map nodes parts)) (nodes part) start here new (moved behind) next)
