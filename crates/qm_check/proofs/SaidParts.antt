-- What lines say, part by part, and where they can say it.
use Rattle.std.proofs.Common.{◌≡◌, ℕ, zero, suc, ◌<◌, Bool, true, false, List, [], ◌∷◌, length, None, Some, Ok, Err, refl, ap, ◌∙◌, subst, arith, ℤ, pos, negsuc}
use Rattle.std.specs.Prelude.{Option, codes, nat_le, slice_get, ◌==◌, ◌&&◌, if◌then◌else◌}
use Rattle.std.specs.Option.{option_map}
use Rattle.std.proofs.lemmas.Bool.Decides.{nat_tests}
use Rattle.qm_model.specs.declared.game.Problem.{Problem}
use Rattle.qm_model.specs.declared.variable.Player.{Player}
use Rattle.qm_model.specs.declared.variable.Var.{Var}
use Rattle.qm_model.specs.Plays.{is_universal, whole_vars}
use Rattle.qm_trees.specs.Entries.{Combination}
use Rattle.qm_certfile.specs.Lines.{Line, Word}
use Rattle.qm_certfile.specs.Styles.{first_style}
use Rattle.qm_certread.specs.declared.fault.Misread.TheVariants as rule
use Rattle.qm_certread.specs.declared.said.EmptySaid.{EmptySaid}
use Rattle.qm_certread.specs.declared.said.EmptySaid.TheVariants as empty
use Rattle.qm_certread.specs.declared.said.RefuteSaid.{RefuteSaid}
use Rattle.qm_certread.specs.declared.said.RefuteSaid.TheVariants as refute
use Rattle.qm_certread.specs.Nodes.{Node, Close, Split}
use Rattle.qm_certread.specs.Forms.{behind, empty_said, is_kind, move_said, player_at, position_at, position_said, refute_said, said_as, said_behind, split_said}
use Rattle.qm_certread.specs.SaidSteps.{empty_node, refute_node}
use Rattle.qm_certread.specs.Spelling.{Said, combination_said, count_word, each, each_of, entries_said, whole_of, with_both, with_entries}
use Rattle.qm_check.specs.TreeSaid.{CanSayEmpty, CanSayRefute}

-- ---- what was said in parts

both_ok : {A B C : Type 0} (f : A → B → C) (x : Said A) (y : Said B) (c : C) → with_both f x y ≡ Ok c → (a : A) × (b : B) × (x ≡ Ok a) × (y ≡ Ok b) × (c ≡ f a b)
both_ok {A} {B} {C} f (Ok a) (Ok b) c e = (a, b, refl, refl, cc)
both_ok {A} {B} {C} f (Ok a) (Err s) c e = cc
both_ok {A} {B} {C} f (Err r) (Ok b) c e = cc
both_ok {A} {B} {C} f (Err r) (Err s) c e = cc

as_ok : {A B : Type 0} (f : A → B) (x : Said A) (b : B) → said_as f x ≡ Ok b → (a : A) × (x ≡ Ok a) × (b ≡ f a)
as_ok {A} {B} f (Ok a) b e = (a, refl, cc)
as_ok {A} {B} f (Err r) b e = cc

behind_ok : {A : Type 0} (ws : List Word) (f : Line → Said A) (words : Line) (a : A) → said_behind ws f words ≡ Ok a → (rest : Line) × (f rest ≡ Ok a)
behind_ok {A} ws f words a e = by (behind ws words) e
  where
    by : (rest : Option Line) → (let s : Said A = elim rest [ None ↦ Err rule.Text | Some r ↦ f r ] in s) ≡ Ok a → (rest : Line) × (f rest ≡ Ok a)
    by None e = cc
    by (Some r) e = (r, e)

-- ---- so many values

each_long : {A : Type 0} (f : Word → Said A) (words : List Word) (xs : List A) → each f words ≡ Ok xs → length xs ≡ length words
each_long {A} f [] xs e = cc
each_long {A} f (word ∷ words) xs e =
    let parts = both_ok (λ (a : A) (rest : List A). a ∷ rest) (f word) (each f words) xs e in
    ap length parts.4 ∙ ap suc (each_long f words parts.1 parts.3)

each_of_long : {A : Type 0} (f : Word → Said A) (n : ℕ) (words : List Word) (xs : List A) → each_of f n words ≡ Ok xs → length xs ≡ n
each_of_long {A} f n words xs e = by (length words == n) refl e
  where
    by : (b : Bool) → (length words == n) ≡ b → (let s : Said (List A) = if b then each f words else Err rule.Text in s) ≡ Ok xs → length xs ≡ n
    by true is e = let long = each_long f words xs e in grind (arith, nat_tests)
    by false is e = cc

pub values_long : {A : Type 0} (ws : List Word) (f : Word → Said A) (n : ℕ) (words : Line) (xs : List A) → said_behind ws (each_of f n) words ≡ Ok xs → length xs ≡ n
values_long {A} ws f n words xs e = let rest = behind_ok ws (each_of f n) words xs e in each_of_long f n rest.0 xs rest.1

-- ---- variables that are there

slice_inside : {X : Type 0} (xs : List X) (n : ℕ) (x : X) → slice_get xs n ≡ Some x → n < length xs
slice_inside {X} [] n x e = cc
slice_inside {X} (y ∷ xs) zero x e = omega arith
slice_inside {X} (y ∷ xs) (suc n) x e = let below = slice_inside xs n x e in omega (arith, below)

player_inside : (P : Problem) (depth : ℕ) (player : Player) → player_at P depth ≡ Some player → depth < length (whole_vars P)
player_inside P depth player e = by (slice_get (whole_vars P) depth) refl e
  where
    by : (o : Option Var) → slice_get (whole_vars P) depth ≡ o → option_map (λ (x : Var). x.player) o ≡ Some player → depth < length (whole_vars P)
    by None is e = cc
    by (Some x) is e = slice_inside (whole_vars P) depth x is

position_inside : (P : Problem) (least : ℕ) (number : Option ℤ) (var : ℕ) → position_at P least number ≡ Some var → var < length (whole_vars P)
position_inside P least None var e = cc
position_inside P least (Some (negsuc n)) var e = cc
position_inside P least (Some (pos zero)) var e = cc
position_inside P least (Some (pos (suc n))) var e = by (slice_get (whole_vars P) n) refl e
  where
    test : (b : Bool) → (let o : Option ℕ = if b then Some n else None in o) ≡ Some var → n ≡ var
    test true e = cc
    test false e = cc

    by : (o : Option Var) → slice_get (whole_vars P) n ≡ o → (let r : Option ℕ = elim o [ None ↦ None | Some x ↦ (if is_universal x && nat_le least n then Some n else None) ] in r) ≡ Some var
        → var < length (whole_vars P)
    by None is e = cc
    by (Some x) is e = subst (λ k. k < length (whole_vars P)) (test (is_universal x && nat_le least n) e) (slice_inside (whole_vars P) n x is)

said_position : (P : Problem) (least : ℕ) (word : Word) (var : ℕ) → position_said P least word ≡ Ok var → position_at P least (whole_of word) ≡ Some var
said_position P least word var e = by (position_at P least (whole_of word)) refl e
  where
    by : (o : Option ℕ) → position_at P least (whole_of word) ≡ o → (let s : Said ℕ = elim o [ None ↦ Err rule.Text | Some n ↦ Ok n ] in s) ≡ Ok var → position_at P least (whole_of word) ≡ Some var
    by None is e = cc
    by (Some n) is e = is ∙ cc

split_parts : (P : Problem) (least : ℕ) (words : Line) (node : Node) → split_said P least words ≡ Ok node → (var : ℕ) × (count : ℕ) × (node ≡ Split var count) × (var < length (whole_vars P))
split_parts P least [] node e = cc
split_parts P least (var ∷ []) node e = cc
split_parts P least (var ∷ count ∷ []) node e =
    let parts = both_ok Split (position_said P least var) (count_word count) node e in
    (parts.0, parts.1, parts.4, position_inside P least (whole_of var) parts.0 (said_position P least var parts.0 parts.2))
split_parts P least (var ∷ count ∷ next ∷ words) node e = cc

plain_combination : (objective : Bool) (words : Line) (combo : Combination) → with_entries objective words ≡ Ok combo → combo.objective ≡ objective
plain_combination objective words combo e = by (entries_said words) e
  where
    by : (s : Said (List _)) → (let r : Said Combination = elim s [ Ok entries ↦ Ok (record { objective = objective; entries = entries }) | Err r ↦ Err r ] in r) ≡ Ok combo → combo.objective ≡ objective
    by (Ok entries) e = cc
    by (Err r) e = cc

-- ---- trees

pub empty_can_say : (P : Problem) (least : ℕ) (words : Line) (said : EmptySaid) → empty_said P least words ≡ Ok (empty_node said) → CanSayEmpty P said
empty_can_say P least words said e = by (is_kind (codes "close") words) said e
  where
    by : (b : Bool) (said : EmptySaid)
        → (let s : Said Node = if b then said_as Close (said_behind (codes "close" ∷ []) (with_entries false) words) else said_behind (codes "split" ∷ []) (split_said P least) words in s) ≡ Ok (empty_node said)
        → CanSayEmpty P said
    by true (empty.Split var count) e = let parts = as_ok Close (said_behind (codes "close" ∷ []) (with_entries false) words) (Split var count) e in let is = parts.2 in cc
    by true (empty.Close combo) e =
        let parts = as_ok Close (said_behind (codes "close" ∷ []) (with_entries false) words) (Close combo) e in
        let rest = behind_ok (codes "close" ∷ []) (with_entries false) words parts.0 parts.1 in
        let plain = plain_combination false rest.0 parts.0 rest.1 in
        let is = parts.2 in
        let same : combo ≡ parts.0 = cc in ap (λ (c : Combination). c.objective) same ∙ plain
    by false (empty.Split var count) e =
        let rest = behind_ok (codes "split" ∷ []) (split_said P least) words (Split var count) e in
        let parts = split_parts P least rest.0 (Split var count) rest.1 in
        let is = parts.2 in
        let same : parts.0 ≡ var = cc in subst (λ n. n < length (whole_vars P)) same parts.3
    by false (empty.Close combo) e =
        let rest = behind_ok (codes "split" ∷ []) (split_said P least) words (Close combo) e in
        let parts = split_parts P least rest.0 (Close combo) rest.1 in
        let is = parts.2 in cc

pub refute_can_say : (P : Problem) (depth : ℕ) (words : Line) (said : RefuteSaid) → refute_said first_style P depth words ≡ Ok (refute_node said) → CanSayRefute P depth said
refute_can_say P depth words said e = by (is_kind (codes "close") words) said e
  where
    inside : (node : Node) → (o : Option Player) → player_at P depth ≡ o
        → (let s : Said Node = elim o [ None ↦ Err rule.Text | Some player ↦ move_said first_style P depth player words ] in s) ≡ Ok node → depth < length (whole_vars P)
    inside node None is e = cc
    inside node (Some player) is e = player_inside P depth player is

    by : (b : Bool) (said : RefuteSaid)
        → (let s : Said Node = if b then said_as Close (said_behind (codes "close" ∷ []) combination_said words)
        else elim (player_at P depth) [ None ↦ Err rule.Text | Some player ↦ move_said first_style P depth player words ] in s) ≡ Ok (refute_node said)
        → CanSayRefute P depth said
    by true (refute.Over count) e = let parts = as_ok Close (said_behind (codes "close" ∷ []) combination_said words) (refute_node (refute.Over count)) e in let is = parts.2 in cc
    by true (refute.Pick value completion) e = let parts = as_ok Close (said_behind (codes "close" ∷ []) combination_said words) (refute_node (refute.Pick value completion)) e in let is = parts.2 in cc
    by b (refute.Close combo) e = tt
    by false (refute.Over count) e = inside (refute_node (refute.Over count)) (player_at P depth) refl e
    by false (refute.Pick value completion) e = inside (refute_node (refute.Pick value completion)) (player_at P depth) refl e
