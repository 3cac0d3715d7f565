-- Empty trees that are read.
use Rattle.std.proofs.Common.{◌≡◌, ℕ, zero, suc, ◌<◌, ◌≤◌, Bool, true, false, List, [], ◌∷◌, length, map, ℤ, pos, negsuc, Option, None, Some, Ok, Err, refl, sym, ap, ◌∙◌, arith}
use Rattle.std.specs.Prelude.{codes, ◌&&◌, nat_le, slice_get, if◌then◌else◌}
use Rattle.std.proofs.lemmas.Bool.Decides.{nat_tests}
use Rattle.std.proofs.lemmas.List.{length-map}
use Rattle.std.proofs.lemmas.Option.{slice_get_within}
use Rattle.qm_model.specs.declared.variable.Var.{Var}
use Rattle.qm_model.specs.declared.game.Problem.{Problem}
use Rattle.qm_model.specs.Plays.{is_universal, whole_vars}
use Rattle.qm_trees.specs.declared.empty.Empty.TheVariants.{Split as SplitTree, rolls-Split}
use Rattle.qm_trees.specs.declared.empty.Empty.TheOpen as none
use Rattle.qm_trees.specs.declared.empty.Empty.TheFolds.{fold-roll-Empty}
use Rattle.qm_trees.specs.declared.empty.EmptyPart.{EmptyPart}
use Rattle.qm_trees.specs.Entries.{Combination}
use Rattle.qm_certread.specs.declared.fault.Misread.TheVariants as rule
use Rattle.qm_certfile.specs.Lines.{Line}
use Rattle.qm_certread.specs.Spelling.{Said, count_word, whole_of, with_both, with_entries}
use Rattle.qm_certread.specs.Nodes.{Node, Close, Split}
use Rattle.qm_certread.specs.Forms.{behind, empty_said, is_kind, position_at, position_said, said_as, said_behind, split_said}
use Rattle.qm_certread.specs.NodesOf.{empty_nodes, empty_part_nodes, empty_part_step, empty_step, in_turn}

pub split_nodes : (var : ℕ) (parts : List EmptyPart) (count : ℕ) → length parts ≡ count → empty_nodes (SplitTree var parts) ≡ Split var count ∷ in_turn (map empty_part_nodes parts)
split_nodes var parts count is =
    ap empty_nodes (sym (rolls-Split var parts))
    ∙ fold-roll-Empty (List Node) (List Node) empty_step empty_part_step (none.Split var parts)
    ∙ ap (λ n. Split var n ∷ in_turn (map empty_part_nodes parts)) (length-map parts empty_part_nodes ∙ is)

-- ---- where a split's variable stands

least_by : (u t : Bool) (least n : ℕ) → u && t ≡ true → nat_le least n ≡ t → least ≤ n
least_by true true least n e is = grind (arith, nat_tests)
least_by true false least n e is = absurd cc
least_by false t least n e is = absurd cc

position_by : (t : Bool) (P : Problem) (least n k : ℕ) (x : Var) → is_universal x && nat_le least n ≡ t → (if t then Some n else None) ≡ Some k → (least ≤ n) × (n ≡ k)
position_by true P least n k x is e = (least_by (is_universal x) (nat_le least n) least n is refl, cc)
position_by false P least n k x is e = absurd cc

found_by : (P : Problem) (least n k : ℕ) (found : Option Var) → slice_get (whole_vars P) n ≡ found
    → (elim found as (λ _. Option ℕ) [ None ↦ None | Some x ↦ (if is_universal x && nat_le least n then Some n else None) ]) ≡ Some k → (least ≤ k) × (k < length (whole_vars P))
found_by P least n k None is e = absurd cc
found_by P least n k (Some x) is e =
    let told = position_by (is_universal x && nat_le least n) P least n k x refl e in
    let within = slice_get_within (whole_vars P) n x is in
    let same = told.1 in
    let low = told.0 in
    (omega arith, omega arith)

position_told : (P : Problem) (least : ℕ) (found : Option ℤ) (k : ℕ) → position_at P least found ≡ Some k → (least ≤ k) × (k < length (whole_vars P))
position_told P least None k e = absurd cc
position_told P least (Some (negsuc n)) k e = absurd cc
position_told P least (Some (pos zero)) k e = absurd cc
position_told P least (Some (pos (suc n))) k e = found_by P least n k (slice_get (whole_vars P) n) refl e

said_some : (found : Option ℕ) (k : ℕ) → (elim found as (λ _. Said ℕ) [ None ↦ Err rule.Text | Some n ↦ Ok n ]) ≡ Ok k → found ≡ Some k
said_some None k e = absurd cc
said_some (Some n) k e = let same : n ≡ k = cc in ap Some same

split_both : (var count : Said ℕ) (k n : ℕ) → with_both Split var count ≡ Ok (Split k n) → var ≡ Ok k
split_both (Ok v) (Ok c) k n e = let same : Split v c ≡ Split k n = cc in let first : v ≡ k = cc in ap Ok first
split_both (Ok v) (Err f) k n e = absurd cc
split_both (Err f) (Ok c) k n e = absurd cc
split_both (Err f) (Err g) k n e = absurd cc

words_told : (P : Problem) (least : ℕ) (words : Line) (k n : ℕ) → split_said P least words ≡ Ok (Split k n) → (least ≤ k) × (k < length (whole_vars P))
words_told P least [] k n e = absurd cc
words_told P least (v ∷ []) k n e = absurd cc
words_told P least (v ∷ c ∷ []) k n e =
    position_told P least (whole_of v) k (said_some (position_at P least (whole_of v)) k (split_both (position_said P least v) (count_word c) k n e))
words_told P least (v ∷ c ∷ x ∷ words) k n e = absurd cc

behind_told : (P : Problem) (least : ℕ) (found : Option Line) (k n : ℕ) → (elim found as (λ _. Said Node) [ None ↦ Err rule.Text | Some rest ↦ split_said P least rest ]) ≡ Ok (Split k n)
    → (least ≤ k) × (k < length (whole_vars P))
behind_told P least None k n e = absurd cc
behind_told P least (Some rest) k n e = words_told P least rest k n e

close_no_split : (s : Said Combination) (k n : ℕ) → said_as Close s ≡ Ok (Split k n) → ⊥
close_no_split (Ok c) k n e = cc
close_no_split (Err f) k n e = cc

kind_told : (t : Bool) (P : Problem) (least : ℕ) (words : Line) (k n : ℕ)
    → (if t then said_as Close (said_behind (codes "close" ∷ []) (with_entries false) words) else said_behind (codes "split" ∷ []) (split_said P least) words) ≡ Ok (Split k n)
    → (least ≤ k) × (k < length (whole_vars P))
kind_told true P least words k n e = absurd (close_no_split (said_behind (codes "close" ∷ []) (with_entries false) words) k n e)
kind_told false P least words k n e = behind_told P least (behind (codes "split" ∷ []) words) k n e

pub split_told : (P : Problem) (least : ℕ) (words : Line) (k n : ℕ) → empty_said P least words ≡ Ok (Split k n) → (least ≤ k) × (k < length (whole_vars P))
split_told P least words k n e = kind_told (is_kind (codes "close") words) P least words k n e
