-- Where something is due, a line says a node just where it is the node's own line and the node may stand there.
use Rattle.std.proofs.Common.{◌≡◌, ℕ, zero, suc, ◌+◌, ◌<◌, ◌^◌, Bool, true, false, ◌&&◌, List, [], ◌∷◌, length, map, ℤ, pos, negsuc, Option, None, Some, Ok, Err, inl, inr, refl, sym, ap, ap₂, ◌∙◌, subst, arith}
use Rattle.std.specs.Prelude.{FitsSigned, codes, drop, nat_le, slice_get, if◌then◌else◌}
use Rattle.std.specs.Fmt.{decimal, signed_decimal}
use Rattle.std.specs.Int.{w64}
use Rattle.std.specs.Option.{option_map}
use Rattle.std.proofs.lemmas.Bool.{and_parts}
use Rattle.std.proofs.lemmas.Bool.Decides.{nat_tests}
use Rattle.std.proofs.lemmas.Option.{slice_get_cases, slice_get_within}
use Rattle.qm_frac.specs.Lowest.{IsFrac}
use Rattle.qm_text.specs.Numbers.{number_word}
use Rattle.qm_text.proofs.Written.{narrow_written}
use Rattle.qm_model.specs.declared.range.Range.{Range}
use Rattle.qm_model.specs.declared.variable.Player.{Player}
use Rattle.qm_model.specs.declared.variable.Player.TheVariants.{Exists, All as Universal}
use Rattle.qm_model.specs.declared.variable.Var.{Var}
use Rattle.qm_model.specs.declared.game.Problem.{Problem}
use Rattle.qm_model.specs.Plays.{is_universal, whole_vars}
use Rattle.qm_model.specs.Points.{continuous_vars}
use Rattle.qm_trees.specs.Picks.{universal_count}
use Rattle.qm_certread.specs.declared.fault.Misread.TheVariants as rule
use Rattle.qm_certfile.specs.Lines.{Word, Line}
use Rattle.qm_certfile.specs.Styles.{first_style}
use Rattle.qm_certfile.specs.WellFormed.{IsWhole}
use Rattle.qm_certread.specs.Spelling.{Said, combination_said, count_word, each_of, fraction_word, one, value_word, whole_of, with_both, with_entries}
use Rattle.qm_certread.specs.Nodes.{Node, Fixed, Infeasible, NoPlay, Optimal, Legal, Choose, Answer, Leaf, Split, Over, Pick, Close, Part}
use Rattle.qm_certread.specs.Dues.{Due, Claimed, Played, Policy, Below, Empty, Refute, Ranges, empty_line, illegal_line, infeasible_line}
use Rattle.qm_certread.specs.Dues as due
use Rattle.qm_certread.specs.Forms.{is_kind, is_line, move_said, pick_said, player_at, policy_said, position_at, position_said, range_of, range_said, refute_said, said_as, said_at, said_behind, split_said}
use Rattle.qm_certread.specs.Fits.{AreValues, FitsAt, FitsMove, IsCount, IsOne, IsPoint, IsSplit, line_of}
use Rattle.qm_certread.proofs.Decoded.{whole_is, whole_some}
use Rattle.qm_certread.proofs.WordForms.{both_ok, count_said, count_told, fraction_said, fraction_told_so, value_said, value_told}
use Rattle.qm_certread.proofs.LineForms.{as_told, behind_said, behind_told, line_same, line_told, one_line_said, one_line_told, point_said, point_told, values_said, values_told}
use Rattle.qm_certread.proofs.CloseForms.{combination_line_said, combination_line_told, plain_line_said, plain_line_told}
use Rattle.qm_certread.proofs.PolicyRead.{by_player, policy_is}
use Rattle.qm_certread.proofs.RefuteRead.{over_told}

-- what is told of a line
abbrev pub IsTold : (Node → Type 0) → Line → Node → Type 0
IsTold Fit words node = (words ≡ line_of node) × Fit node

-- a line of a kind and several words
several_told : {A : Type 0} (kind : Word) (f : Line → Said A) (node : A → Node) (Is : A → Type 0) (spelled : A → Line)
    → ((rest : Line) (a : A) → f rest ≡ Ok a → (rest ≡ spelled a) × Is a) → ((a : A) → kind ∷ spelled a ≡ line_of (node a)) → (words : Line) (n : Node)
    → said_as node (said_behind (kind ∷ []) f words) ≡ Ok n → IsTold (IsOne node Is) words n
several_told {A} kind f node Is spelled told line words n e =
    let inner = as_told node (said_behind (kind ∷ []) f words) n e in
    let behind = behind_told kind f words inner.0 inner.1 in
    let found = told behind.rest inner.0 behind.says in
    (behind.line ∙ ap (λ rest. kind ∷ rest) found.0 ∙ line inner.0 ∙ ap line_of inner.2, (inner.0, inner.2, found.1))

several_said : {A : Type 0} (kind : Word) (f : Line → Said A) (node : A → Node) (a : A) (rest : Line) → f rest ≡ Ok a → said_as node (said_behind (kind ∷ []) f (kind ∷ rest)) ≡ Ok (node a)
several_said {A} kind f node a rest e = ap (said_as node) (behind_said kind f rest ∙ e)

-- ---- ranges

abbrev IsRange : Range → Type 0
IsRange range = IsWhole range.low × IsWhole range.high

abbrev ends : Range → Line
ends range = signed_decimal range.low ∷ signed_decimal range.high ∷ []

range_told : (rest : Line) (range : Range) → range_said rest ≡ Ok range → (rest ≡ ends range) × IsRange range
range_told [] range e = absurd cc
range_told (low ∷ []) range e = absurd cc
range_told (low ∷ high ∷ []) range e =
    let both = both_ok range_of (value_word low) (value_word high) range e in
    let first = value_told low both.0 both.2 in
    let second = value_told high both.1 both.3 in
    subst (λ r. (low ∷ high ∷ [] ≡ ends r) × IsRange r) both.4 (ap₂ (λ (v : Word) (w : Word). v ∷ w ∷ []) first.0 second.0, (first.1, second.1))
range_told (low ∷ high ∷ next ∷ words) range e = absurd cc

range_said_so : (range : Range) → IsRange range → range_said (ends range) ≡ Ok range
range_said_so range h = ap₂ (with_both range_of) (value_said range.low h.0) (value_said range.high h.1)

-- ---- picks

picks_told : (count : ℕ) (rest : Line) (node : Node) → pick_said count rest ≡ Ok node
    → (value : ℤ) × (completion : List ℤ) × (rest ≡ signed_decimal value ∷ map signed_decimal completion) × IsWhole value × AreValues count completion × (Pick value completion ≡ node)
picks_told count [] node e = absurd cc
picks_told count (word ∷ words) node e =
    let both = both_ok Pick (value_word word) (each_of value_word count words) node e in
    let value = value_told word both.0 both.2 in
    let values = values_told count words both.1 both.3 in
    (both.0, both.1, ap₂ (λ (v : Word) (vs : Line). v ∷ vs) value.0 values.0, value.1, values.1, both.4)

picks_said : (count : ℕ) (value : ℤ) (completion : List ℤ) → IsWhole value → AreValues count completion
    → pick_said count (signed_decimal value ∷ map signed_decimal completion) ≡ Ok (Pick value completion)
picks_said count value completion h all = ap₂ (with_both Pick) (value_said value h) (values_said count completion all)

fixed_by : (t : Bool) (line words : Line) (node : Node) → is_line line words ≡ t → (if t then Ok (Fixed line) else Err rule.Text) ≡ Ok node → IsTold (λ n. Fixed line ≡ n) words node
fixed_by true line words node is e = let same : Fixed line ≡ node = cc in (line_told line words is ∙ ap line_of same, same)
fixed_by false line words node is e = absurd cc

module _ (P : Problem) (few : length (whole_vars P) < 2 ^ 32) where
  -- ---- the first line

  claim_by : (infeasible empty : Bool) (words : Line) (node : Node) → is_line infeasible_line words ≡ infeasible → is_line empty_line words ≡ empty
      → (if infeasible then Ok Infeasible else (if empty then Ok NoPlay else said_as Optimal (said_behind (codes "optimal" ∷ []) (one fraction_word) words))) ≡ Ok node
      → IsTold (FitsAt P Claimed) words node
  claim_by true empty words node i e h = let same : Infeasible ≡ node = cc in (line_told infeasible_line words i ∙ ap line_of same, inl same)
  claim_by false true words node i e h = let same : NoPlay ≡ node = cc in (line_told empty_line words e ∙ ap line_of same, inr (inl same))
  claim_by false false words node i e h =
      let told = one_line_told fraction_word number_word IsFrac Optimal (codes "optimal") fraction_told_so (λ a. refl) words node h in
      (told.0, inr (inr told.1))

  -- ---- policies

  move_told : (found : Option Player) (depth : ℕ) (words : Line) (node : Node) → by_player P depth words found ≡ Ok node → IsTold (FitsMove P found) words node
  move_told None depth words node h =
      several_told (codes "leaf") (each_of fraction_word (length (continuous_vars P))) Leaf (IsPoint P) (map number_word)
      (λ rest point e. let told = point_told (length (continuous_vars P)) rest point e in (told.0, (told.1, told.2))) (λ point. refl) words node h
  move_told (Some Exists) depth words node h = one_line_told value_word signed_decimal IsWhole Choose (codes "choose") value_told (λ a. refl) words node h
  move_told (Some Universal) depth words node h = one_line_told count_word decimal IsCount Answer (codes "answer") count_told (λ a. refl) words node h

  policy_told : (depth : ℕ) (words : Line) (node : Node) → policy_said first_style P depth words ≡ Ok node → IsTold (FitsMove P (player_at P depth)) words node
  policy_told depth words node h = move_told (player_at P depth) depth words node (sym (policy_is P depth (player_at P depth) words refl) ∙ h)

  move_said_so : (found : Option Player) (depth : ℕ) (node : Node) → FitsMove P found node → by_player P depth (line_of node) found ≡ Ok node
  move_said_so None depth node (point, is, (len, all)) =
      subst (λ n. by_player P depth (line_of n) None ≡ Ok n) is
      (several_said (codes "leaf") (each_of fraction_word (length (continuous_vars P))) Leaf point (map number_word point) (point_said (length (continuous_vars P)) point len all))
  move_said_so (Some Exists) depth node (value, is, h) =
      subst (λ n. by_player P depth (line_of n) (Some Exists) ≡ Ok n) is (one_line_said value_word signed_decimal IsWhole Choose (codes "choose") value_said value h)
  move_said_so (Some Universal) depth node (count, is, h) =
      subst (λ n. by_player P depth (line_of n) (Some Universal) ≡ Ok n) is (one_line_said count_word decimal IsCount Answer (codes "answer") count_said count h)

  policy_said_so : (depth : ℕ) (node : Node) → FitsMove P (player_at P depth) node → policy_said first_style P depth (line_of node) ≡ Ok node
  policy_said_so depth node h = policy_is P depth (player_at P depth) (line_of node) refl ∙ move_said_so (player_at P depth) depth node h

  -- ---- below a range

  below_by : (t : Bool) (depth : ℕ) (words : Line) (node : Node) → is_line illegal_line words ≡ t → (if t then Ok (Fixed illegal_line) else policy_said first_style P depth words) ≡ Ok node
      → IsTold (FitsAt P (Below depth)) words node
  below_by true depth words node is e = let same : Fixed illegal_line ≡ node = cc in (line_told illegal_line words is ∙ ap line_of same, inl same)
  below_by false depth words node is e = let told = policy_told depth words node e in (told.0, inr told.1)

  -- the line of a move isn't `illegal`
  not_illegal : (found : Option Player) (node : Node) → FitsMove P found node → is_line illegal_line (line_of node) ≡ false
  not_illegal None node (point, is, h) = subst (λ n. is_line illegal_line (line_of n) ≡ false) is refl
  not_illegal (Some Exists) node (value, is, h) = subst (λ n. is_line illegal_line (line_of n) ≡ false) is refl
  not_illegal (Some Universal) node (count, is, h) = subst (λ n. is_line illegal_line (line_of n) ≡ false) is refl

  below_said_so : (depth : ℕ) (node : Node) → FitsAt P (Below depth) node → said_at first_style P (Below depth) (line_of node) ≡ Ok node
  below_said_so depth node (inl same) =
      subst (λ n. said_at first_style P (Below depth) (line_of n) ≡ Ok n) same
      (ap (λ (t : Bool). if t then Ok (Fixed illegal_line) else policy_said first_style P depth illegal_line) (line_same illegal_line))
  below_said_so depth node (inr fit) =
      ap (λ (t : Bool). if t then Ok (Fixed illegal_line) else policy_said first_style P depth (line_of node)) (not_illegal (player_at P depth) node fit) ∙ policy_said_so depth node fit

  -- ---- splits

  var_by : (t : Bool) (x : Var) (least n var : ℕ) → slice_get (whole_vars P) n ≡ Some x → is_universal x && nat_le least n ≡ t → (if t then Some n else None) ≡ Some var
      → (n ≡ var) × IsSplit P least n
  var_by true x least n var at is e =
      let both = and_parts (is_universal x) (nat_le least n) is in
      let low : nat_le least n ≡ true = both.1 in
      (cc, (x, at, both.0, grind (arith, nat_tests)))
  var_by false x least n var at is e = absurd cc

  found_by : (found : Option Var) (least n var : ℕ) → slice_get (whole_vars P) n ≡ found
      → (elim found as (λ _. Option ℕ) [ None ↦ None | Some x ↦ (if is_universal x && nat_le least n then Some n else None) ]) ≡ Some var → (n ≡ var) × IsSplit P least n
  found_by None least n var at e = absurd cc
  found_by (Some x) least n var at e = var_by (is_universal x && nat_le least n) x least n var at refl e

  at_told : (least var : ℕ) (z : ℤ) → position_at P least (Some z) ≡ Some var → (z ≡ pos (suc var)) × IsSplit P least var
  at_told least var (pos zero) e = absurd cc
  at_told least var (pos (suc n)) e =
      let told = found_by (slice_get (whole_vars P) n) least n var refl e in
      (ap (λ m. pos (suc m)) told.0, subst (IsSplit P least) told.0 told.1)
  at_told least var (negsuc n) e = absurd cc

  abbrev position_of : Option ℕ → Said ℕ
  position_of None = Err rule.Text
  position_of (Some n) = Ok n

  position_by : (found : Option ℤ) (least var : ℕ) → position_of (position_at P least found) ≡ Ok var → (z : ℤ) × (found ≡ Some z) × (position_at P least (Some z) ≡ Some var)
  position_by None least var e = absurd cc
  position_by (Some z) least var e = (z, refl, some (position_at P least (Some z)) e)
    where
      some : (o : Option ℕ) → position_of o ≡ Ok var → o ≡ Some var
      some None e = absurd cc
      some (Some n) e = ap Some cc

  within : (least var : ℕ) → IsSplit P least var → var < length (whole_vars P)
  within least var (x, at, universal, low) = slice_get_within (whole_vars P) var x at

  position_told : (least : ℕ) (word : Word) (var : ℕ) → position_said P least word ≡ Ok var → (word ≡ decimal (var + 1)) × IsSplit P least var
  position_told least word var e =
      let found = position_by (whole_of word) least var (position_is (position_at P least (whole_of word)) ∙ e) in
      let told = at_told least var found.0 found.2 in
      let inside = within least var told.1 in
      let fits : FitsSigned w64 (pos (suc var)) = omega arith in
      let next : suc var ≡ var + 1 = omega arith in
      ((narrow_written word (pos (suc var)) fits).0 (whole_some word (pos (suc var)) (found.1 ∙ ap Some told.0)) ∙ ap decimal next, told.1)
    where
      position_is : (o : Option ℕ) → position_of o ≡ (elim o as (λ _. Said ℕ) [ None ↦ Err rule.Text | Some n ↦ Ok n ])
      position_is None = refl
      position_is (Some n) = refl

  position_said_so : (least var : ℕ) → IsSplit P least var → position_said P least (decimal (var + 1)) ≡ Ok var
  position_said_so least var (x, at, universal, low) =
      let inside = slice_get_within (whole_vars P) var x at in
      let next : suc var ≡ var + 1 = omega arith in
      let fits : FitsSigned w64 (pos (suc var)) = omega arith in
      let word : whole_of (decimal (var + 1)) ≡ Some (pos (suc var)) =
      subst (λ m. whole_of (decimal m) ≡ Some (pos (suc var))) next (whole_is (decimal (suc var)) (pos (suc var)) ((narrow_written (decimal (suc var)) (pos (suc var)) fits).1 refl)) in
      let lower : nat_le least var ≡ true = grind (arith, nat_tests) in
      let both : is_universal x && nat_le least var ≡ true = ap₂ ◌&&◌ universal lower in
      ap (λ (o : Option ℤ). elim (position_at P least o) as (λ _. Said ℕ) [ None ↦ Err rule.Text | Some n ↦ Ok n ]) word
      ∙ ap (λ (o : Option Var). elim (elim o as (λ _. Option ℕ) [ None ↦ None | Some y ↦ (if is_universal y && nat_le least var then Some var else None) ]) as (λ _. Said ℕ) [ None ↦ Err rule.Text | Some n ↦ Ok n ]) at
      ∙ ap (λ (t : Bool). elim (if t then Some var else None) as (λ _. Said ℕ) [ None ↦ Err rule.Text | Some n ↦ Ok n ]) both

  splits_told : (least : ℕ) (rest : Line) (node : Node) → split_said P least rest ≡ Ok node
      → (var : ℕ) × (count : ℕ) × (rest ≡ decimal (var + 1) ∷ decimal count ∷ []) × IsSplit P least var × IsCount count × (Split var count ≡ node)
  splits_told least [] node e = absurd cc
  splits_told least (word ∷ []) node e = absurd cc
  splits_told least (word ∷ number ∷ []) node e =
      let both = both_ok Split (position_said P least word) (count_word number) node e in
      let var = position_told least word both.0 both.2 in
      let count = count_told number both.1 both.3 in
      (both.0, both.1, ap₂ (λ (v : Word) (w : Word). v ∷ w ∷ []) var.0 count.0, var.1, count.1, both.4)
  splits_told least (word ∷ number ∷ next ∷ words) node e = absurd cc

  empty_by : (t : Bool) (least : ℕ) (words : Line) (node : Node)
      → (if t then said_as Close (said_behind (codes "close" ∷ []) (with_entries false) words) else said_behind (codes "split" ∷ []) (split_said P least) words) ≡ Ok node
      → IsTold (FitsAt P (Empty least)) words node
  empty_by true least words node e = let told = plain_line_told words node e in (told.0, inr told.1)
  empty_by false least words node e =
      let behind = behind_told (codes "split") (split_said P least) words node e in
      let told = splits_told least behind.rest node behind.says in
      (behind.line ∙ ap (λ rest. codes "split" ∷ rest) told.2 ∙ ap line_of told.5, inl (told.0, told.3, (told.1, told.5, told.4)))

  empty_said_so : (least : ℕ) (node : Node) → FitsAt P (Empty least) node → said_at first_style P (Empty least) (line_of node) ≡ Ok node
  empty_said_so least node (inl (var, split, (count, is, h))) =
      subst (λ n. said_at first_style P (Empty least) (line_of n) ≡ Ok n) is
      (behind_said (codes "split") (split_said P least) (decimal (var + 1) ∷ decimal count ∷ []) ∙ ap₂ (with_both Split) (position_said_so least var split) (count_said count h))
  empty_said_so least node (inr (combo, is, h)) = subst (λ n. said_at first_style P (Empty least) (line_of n) ≡ Ok n) is (plain_line_said combo h)

  -- ---- refutations

  picked : (depth : ℕ) (words : Line) (node : Node) → player_at P depth ≡ Some Universal
      → said_behind (codes "pick" ∷ []) (pick_said (universal_count (drop (depth + 1) (whole_vars P)))) words ≡ Ok node → IsTold (FitsAt P (Refute depth)) words node
  picked depth words node player e =
      let count = universal_count (drop (depth + 1) (whole_vars P)) in
      let behind = behind_told (codes "pick") (pick_said count) words node e in
      let told = picks_told count behind.rest node behind.says in
      (behind.line ∙ ap (λ rest. codes "pick" ∷ rest) told.2 ∙ ap line_of told.5, inr (inl (player, (told.0, told.3, (told.1, told.5, told.4)))))

  opened : (depth : ℕ) (words : Line) (node : Node) → refute_said first_style P depth words ≡ Ok node → IsTold (IsOne Over IsCount) words node → IsTold (FitsAt P (Refute depth)) words node
  opened depth words node all (line, (count, is, h)) =
      (line, inl (over_told P depth words count (all ∙ ap Ok (sym is)), (count, is, h)))

  move_by : (over : Bool) (depth : ℕ) (player : Player) (words : Line) (node : Node) → player_at P depth ≡ Some player → refute_said first_style P depth words ≡ Ok node
      → (if over then said_as Over (said_behind (codes "over" ∷ []) (one count_word) words)
      else (elim player as (λ _. Said Node) [ Exists ↦ Err rule.Text | Universal ↦ said_behind (codes "pick" ∷ []) (pick_said (universal_count (drop (depth + 1) (whole_vars P)))) words ])) ≡ Ok node
      → IsTold (FitsAt P (Refute depth)) words node
  move_by true depth player words node is all e = opened depth words node all (one_line_told count_word decimal IsCount Over (codes "over") count_told (λ a. refl) words node e)
  move_by false depth Exists words node is all e = absurd cc
  move_by false depth Universal words node is all e = picked depth words node is e

  player_by : (found : Option Player) (depth : ℕ) (words : Line) (node : Node) → player_at P depth ≡ found → refute_said first_style P depth words ≡ Ok node
      → (elim found as (λ _. Said Node) [ None ↦ Err rule.Text | Some player ↦ move_said first_style P depth player words ]) ≡ Ok node → IsTold (FitsAt P (Refute depth)) words node
  player_by None depth words node is all e = absurd cc
  player_by (Some player) depth words node is all e = move_by (is_kind (codes "over") words) depth player words node is all e

  refute_by : (t : Bool) (depth : ℕ) (words : Line) (node : Node) → refute_said first_style P depth words ≡ Ok node
      → (if t then said_as Close (said_behind (codes "close" ∷ []) combination_said words)
      else (elim (player_at P depth) as (λ _. Said Node) [ None ↦ Err rule.Text | Some player ↦ move_said first_style P depth player words ])) ≡ Ok node
      → IsTold (FitsAt P (Refute depth)) words node
  refute_by true depth words node all e = let told = combination_line_told words node e in (told.0, inr (inr told.1))
  refute_by false depth words node all e = player_by (player_at P depth) depth words node refl all e

  player_there : (depth : ℕ) → depth < length (whole_vars P) → (player : Player) × (player_at P depth ≡ Some player)
  player_there depth h =
      elim (slice_get_cases (whole_vars P) depth).1 [
        | inl (x, inside, at, same) ↦ (x.player, ap (λ (o : Option Var). option_map (λ y. y.player) o) at)
        | inr (past, none) ↦ absurd (omega arith)
      ]

  refute_said_so : (depth : ℕ) (node : Node) → FitsAt P (Refute depth) node → said_at first_style P (Refute depth) (line_of node) ≡ Ok node
  refute_said_so depth node (inl (inside, (count, is, h))) =
      let player = player_there depth inside in
      subst (λ n. said_at first_style P (Refute depth) (line_of n) ≡ Ok n) is
      (ap (λ (o : Option Player). elim o as (λ _. Said Node) [ None ↦ Err rule.Text | Some p ↦ move_said first_style P depth p (line_of (Over count)) ]) player.1
      ∙ one_line_said count_word decimal IsCount Over (codes "over") count_said count h)
  refute_said_so depth node (inr (inl (player, (value, whole, (completion, is, all))))) =
      let count = universal_count (drop (depth + 1) (whole_vars P)) in
      subst (λ n. said_at first_style P (Refute depth) (line_of n) ≡ Ok n) is
      (ap (λ (o : Option Player). elim o as (λ _. Said Node) [ None ↦ Err rule.Text | Some p ↦ move_said first_style P depth p (line_of (Pick value completion)) ]) player
      ∙ behind_said (codes "pick") (pick_said count) (signed_decimal value ∷ map signed_decimal completion)
      ∙ picks_said count value completion whole all)
  refute_said_so depth node (inr (inr (combo, is, h))) = subst (λ n. said_at first_style P (Refute depth) (line_of n) ≡ Ok n) is (combination_line_said combo h)

  -- ---- the law of one line

  pub node_told : (d : Due) (words : Line) (node : Node) → said_at first_style P d words ≡ Ok node → (words ≡ line_of node) × FitsAt P d node
  node_told Claimed words node e = claim_by (is_line infeasible_line words) (is_line empty_line words) words node refl refl e
  node_told Played words node e =
      several_told (codes "legal") (each_of value_word (universal_count (whole_vars P))) Legal (AreValues (universal_count (whole_vars P))) (map signed_decimal)
      (values_told (universal_count (whole_vars P))) (λ values. refl) words node e
  node_told (due.Said line) words node e = fixed_by (is_line line words) line words node refl e
  node_told (Policy depth) words node e = policy_told depth words node e
  node_told (Below depth) words node e = below_by (is_line illegal_line words) depth words node refl e
  node_told (Empty least) words node e = empty_by (is_kind (codes "close") words) least words node e
  node_told (Refute depth) words node e = refute_by (is_kind (codes "close") words) depth words node e e
  node_told (Ranges n below) words node e = several_told (codes "range") range_said Part IsRange ends range_told (λ range. refl) words node e

  pub node_said : (d : Due) (node : Node) → FitsAt P d node → said_at first_style P d (line_of node) ≡ Ok node
  node_said Claimed node (inl same) = subst (λ n. said_at first_style P Claimed (line_of n) ≡ Ok n) same (ap (λ (t : Bool). if t then Ok Infeasible else Err rule.Text) (line_same infeasible_line))
  node_said Claimed node (inr (inl same)) = subst (λ n. said_at first_style P Claimed (line_of n) ≡ Ok n) same (ap (λ (t : Bool). if t then Ok NoPlay else Err rule.Text) (line_same empty_line))
  node_said Claimed node (inr (inr (value, is, h))) =
      subst (λ n. said_at first_style P Claimed (line_of n) ≡ Ok n) is (one_line_said fraction_word number_word IsFrac Optimal (codes "optimal") fraction_said value h)
  node_said Played node (values, is, h) =
      subst (λ n. said_at first_style P Played (line_of n) ≡ Ok n) is
      (several_said (codes "legal") (each_of value_word (universal_count (whole_vars P))) Legal values (map signed_decimal values) (values_said (universal_count (whole_vars P)) values h))
  node_said (due.Said line) node same =
      subst (λ n. said_at first_style P (due.Said line) (line_of n) ≡ Ok n) same (ap (λ (t : Bool). if t then Ok (Fixed line) else Err rule.Text) (line_same line))
  node_said (Policy depth) node h = policy_said_so depth node h
  node_said (Below depth) node h = below_said_so depth node h
  node_said (Empty least) node h = empty_said_so least node h
  node_said (Refute depth) node h = refute_said_so depth node h
  node_said (Ranges n below) node (range, is, h) =
      subst (λ m. said_at first_style P (Ranges n below) (line_of m) ≡ Ok m) is (several_said (codes "range") range_said Part range (ends range) (range_said_so range h))
