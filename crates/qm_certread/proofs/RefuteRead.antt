-- Refutations that are read.
use Rattle.std.proofs.Common.{◌≡◌, ℕ, ◌<◌, Bool, true, false, List, [], ◌∷◌, length, map, ℤ, Option, None, Some, Ok, Err, refl, sym, ap, ◌∙◌}
use Rattle.std.specs.Prelude.{codes, slice_get, if◌then◌else◌}
use Rattle.std.specs.Option.{option_map}
use Rattle.std.proofs.lemmas.List.{length-map}
use Rattle.std.proofs.lemmas.Option.{slice_get_within}
use Rattle.qm_model.specs.declared.variable.Var.{Var}
use Rattle.qm_model.specs.declared.game.Problem.{Problem}
use Rattle.qm_model.specs.Plays.{whole_vars}
use Rattle.qm_trees.specs.declared.refutation.Refute.{Refute}
use Rattle.qm_trees.specs.declared.refutation.Refute.TheVariants.{Over as OverTree, Pick as PickTree, rolls-Over, rolls-Pick}
use Rattle.qm_trees.specs.declared.refutation.Refute.TheOpen as why
use Rattle.qm_trees.specs.declared.refutation.Refute.TheFolds.{fold-roll-Refute}
use Rattle.qm_trees.specs.declared.refutation.RefutePart.{RefutePart}
use Rattle.qm_trees.specs.Entries.{Combination}
use Rattle.qm_certread.specs.declared.fault.Misread.TheVariants as rule
use Rattle.qm_certfile.specs.Lines.{Line}
use Rattle.qm_certfile.specs.Styles.{first_style}
use Rattle.qm_certread.specs.Spelling.{Said, combination_said}
use Rattle.qm_certread.specs.Nodes.{Node, Close, Over, Pick}
use Rattle.qm_certread.specs.Forms.{is_kind, move_said, player_at, refute_said, said_as, said_behind}
use Rattle.qm_certread.specs.NodesOf.{in_turn, refute_nodes, refute_part_nodes, refute_part_step, refute_step}

pub over_nodes : (parts : List RefutePart) (count : ℕ) → length parts ≡ count → refute_nodes (OverTree parts) ≡ Over count ∷ in_turn (map refute_part_nodes parts)
over_nodes parts count is =
    ap refute_nodes (sym (rolls-Over parts))
    ∙ fold-roll-Refute (List Node) (List Node) refute_step refute_part_step (why.Over parts)
    ∙ ap (λ n. Over n ∷ in_turn (map refute_part_nodes parts)) (length-map parts refute_part_nodes ∙ is)

pub pick_nodes : (value : ℤ) (completion : List ℤ) (below tree : Refute) → below ≡ tree → refute_nodes (PickTree value completion below) ≡ Pick value completion ∷ refute_nodes tree
pick_nodes value completion below tree is =
    ap refute_nodes (sym (rolls-Pick value completion below))
    ∙ fold-roll-Refute (List Node) (List Node) refute_step refute_part_step (why.Pick value completion below)
    ∙ ap (λ t. Pick value completion ∷ refute_nodes t) is

-- ---- a line that isn't a combination stands where a variable is still to be set

abbrev IsClose : Node → Type 0
IsClose node = (c : Combination) × (node ≡ Close c)

close_only : (s : Said Combination) (node : Node) → said_as Close s ≡ Ok node → IsClose node
close_only (Ok c) node e = let same : Close c ≡ node = cc in (c, sym same)
close_only (Err f) node e = absurd cc

found_only : (P : Problem) (depth : ℕ) (words : Line) (found : Option Var) (node : Node) → slice_get (whole_vars P) depth ≡ found
    → (elim (option_map (λ x. x.player) found) as (λ _. Said Node) [ None ↦ Err rule.Text | Some player ↦ move_said first_style P depth player words ]) ≡ Ok node → depth < length (whole_vars P)
found_only P depth words None node is e = absurd cc
found_only P depth words (Some x) node is e = slice_get_within (whole_vars P) depth x is

kind_only : (t : Bool) (P : Problem) (depth : ℕ) (words : Line) (node : Node) → (IsClose node → ⊥)
    → (if t then said_as Close (said_behind (codes "close" ∷ []) combination_said words)
    else (elim (player_at P depth) as (λ _. Said Node) [ None ↦ Err rule.Text | Some player ↦ move_said first_style P depth player words ])) ≡ Ok node
    → depth < length (whole_vars P)
kind_only true P depth words node other e = absurd (other (close_only (said_behind (codes "close" ∷ []) combination_said words) node e))
kind_only false P depth words node other e = found_only P depth words (slice_get (whole_vars P) depth) node refl e

pub over_told : (P : Problem) (depth : ℕ) (words : Line) (n : ℕ) → refute_said first_style P depth words ≡ Ok (Over n) → depth < length (whole_vars P)
over_told P depth words n e = kind_only (is_kind (codes "close") words) P depth words (Over n) (λ h. let bad : Over n ≡ Close h.0 = h.1 in cc) e

pub pick_told : (P : Problem) (depth : ℕ) (words : Line) (value : ℤ) (completion : List ℤ) → refute_said first_style P depth words ≡ Ok (Pick value completion) → depth < length (whole_vars P)
pick_told P depth words value completion e = kind_only (is_kind (codes "close") words) P depth words (Pick value completion) (λ h. let bad : Pick value completion ≡ Close h.0 = h.1 in cc) e
