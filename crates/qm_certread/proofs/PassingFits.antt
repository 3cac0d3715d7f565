-- A certificate that passes fits the game, where its text has fewer than 2 ^ 32 bytes.
use Rattle.std.proofs.Common.{◌≡◌, ℕ, ◌<◌, ◌≤◌, ◌^◌, ℤ, List, [], ◌∷◌, ◌++◌, append-nil, append_assoc, length, length-append, map, inl, inr, refl, sym, ◌∙◌, subst, arith}
use Rattle.std.specs.Prelude.{◌↔◌}
use Rattle.std.proofs.lemmas.List.Sums.{length-filter}
use Rattle.qm_math.specs.Fraction.{Fraction}
use Rattle.qm_frac.specs.Lowest.{IsFrac}
use Rattle.qm_model.specs.declared.game.Sense.{Sense}
use Rattle.qm_model.specs.declared.range.Range.{Range}
use Rattle.qm_model.specs.declared.variable.Var.{Var}
use Rattle.qm_model.specs.declared.game.Problem.{Problem}
use Rattle.qm_model.specs.Boxes.{whole_box_of}
use Rattle.qm_model.specs.Goals.{Goal}
use Rattle.qm_model.specs.Goals as goals
use Rattle.qm_model.specs.Plays.{AreWithin, IsPlay, is_universal, universal_vars, whole_vars}
use Rattle.qm_model.specs.Sound.{IsSound}
use Rattle.qm_trees.specs.declared.policy.Policy.{Policy as Moving}
use Rattle.qm_trees.specs.declared.refutation.Refute.{Refute as Refutation}
use Rattle.qm_trees.specs.PolicyRight.{IsRightPolicy}
use Rattle.qm_trees.specs.RefuteRight.{IsRightRefutation}
use Rattle.qm_certfile.specs.declared.certificate.Certificate.{Certificate}
use Rattle.qm_certfile.specs.declared.certificate.Certificate.TheVariants as ending
use Rattle.qm_certfile.specs.CertificateLines.{certificate_text, claimed, version_line}
use Rattle.qm_certfile.specs.Lines.{Line, line_text, text_of}
use Rattle.qm_certfile.specs.Passes.{Passes}
use Rattle.qm_certfile.specs.Styles.{first_style}
use Rattle.qm_certfile.specs.WellFormed.{AreOfType, HasNearBounds, IsWellFormed, Whole, policy_pieces, refute_pieces}
use Rattle.qm_certfile.proofs.PassingForms.{passing_of_type}
use Rattle.qm_certfile.proofs.Pieces.{both_of_type}
use Rattle.qm_certread.specs.Nodes.{Node, Fixed, Infeasible, Legal, NoPlay, Optimal}
use Rattle.qm_certread.specs.Dues.{Due, Claimed, Played, Said as DueLine, Policy, Empty, Refute, end_line, illegal_line, policy_line, refute_line, refuted}
use Rattle.qm_certread.specs.NodesOf.{empty_nodes, nodes_of, policy_nodes, refute_nodes}
use Rattle.qm_certread.specs.Fits.{AreFit, Fits, line_of}
use Rattle.qm_certread.specs.Judgements.{HasNoFault, IsOfPassing}
use Rattle.qm_certread.proofs.BodyRead.{claimed_twice}
use Rattle.qm_certread.proofs.FineTexts.{few_whole}
use Rattle.qm_certread.proofs.NodePieces.{empty_same, frac_claimed, policy_same, refute_same}
use Rattle.qm_certread.proofs.TextLines.{text_same}
use Rattle.qm_certread.proofs.PassingTexts.{no_fault_law}
use Rattle.qm_certread.proofs.Fittings.{AreTyped, Fitting, both_fit, node_fits, none_fit, typed_wholes}
use Rattle.qm_certread.proofs.FittingEmpties.{empty_fits}
use Rattle.qm_certread.proofs.FittingPolicies.{policy_fits}
use Rattle.qm_certread.proofs.FittingRefutations.{refute_fits}

-- ---- a text has a byte for each line at least

line_some : (line : Line) → 1 ≤ length (line_text line)
line_some [] = omega arith
line_some (word ∷ []) = omega (arith, length-append word (10 ∷ []))
line_some (word ∷ next ∷ words) = omega (arith, length-append word (32 ∷ line_text (next ∷ words)))

few_nodes : (nodes : List Node) → length nodes ≤ length (text_of (map line_of nodes))
few_nodes [] = omega arith
few_nodes (node ∷ nodes) = omega (arith, line_some (line_of node), few_nodes nodes, length-append (line_text (line_of node)) (text_of (map line_of nodes)))

-- ---- values

within_count : (xs : List Var) (us : List ℤ) → AreWithin xs us → length us ≡ length xs
within_count [] [] h = refl
within_count [] (u ∷ us) h = absurd h
within_count (x ∷ xs) [] h = absurd h
within_count (x ∷ xs) (u ∷ us) h = omega (arith, within_count xs us h.1)

claimed_frac : (P : Problem) → IsSound P → (sense : Sense) (a : Fraction) → IsFrac a → IsFrac (claimed sense a)
claimed_frac P sound sense a h = frac_claimed P (few_whole P sound) sense (claimed sense a) (subst IsFrac (sym (claimed_twice sense a)) h)

-- ---- certificates

module _ (P : Problem) (sound : IsSound P) where
  abbrev Fit : List Due → List Node → Type 0
  Fit dues nodes = Fitting P dues nodes

  abbrev box : List Range
  box = whole_box_of P.vars

  both : (ds es : List Due) (ns ms : List Node) → Fit ds ns → Fit es ms → Fit (ds ++ es) (ns ++ ms)
  both ds es ns ms first second = both_fit P ds es ns ms first second

  line_fits : (line : Line) → Fit (DueLine line ∷ []) (Fixed line ∷ [])
  line_fits line = node_fits P (DueLine line) (Fixed line) [] refl (none_fit P)

  play_fits : (legal : List ℤ) → IsPlay P legal → AreOfType (map Whole legal) → Fit (Played ∷ []) (Legal legal ∷ [])
  play_fits legal play typed =
      let count = within_count (universal_vars P) legal play.within ∙ length-filter is_universal (whole_vars P) in
      node_fits P Played (Legal legal) [] (legal, refl, (count, typed_wholes legal typed)) (none_fit P)

  -- what stands behind the claim's line
  begin_fits : (legal : List ℤ) (ds : List Due) (ns : List Node) → IsPlay P legal → AreOfType (map Whole legal) → Fit ds ns → Fit (DueLine (version_line first_style) ∷ Played ∷ ds) (Fixed (version_line first_style) ∷ Legal legal ∷ ns)
  begin_fits legal ds ns play typed rest =
      both (DueLine (version_line first_style) ∷ []) (Played ∷ ds) (Fixed (version_line first_style) ∷ []) (Legal legal ∷ ns) (line_fits (version_line first_style))
      (both (Played ∷ []) ds (Legal legal ∷ []) ns (play_fits legal play typed) rest)

  refuted_fits : (G : Goal) (tree : Refutation) → IsRightRefutation P [] [] G (whole_vars P) 0 box tree → length (refute_nodes tree) < 2 ^ 32 → AreTyped (refute_nodes tree)
      → Fit refuted (Fixed refute_line ∷ (refute_nodes tree ++ Fixed end_line ∷ []))
  refuted_fits G tree right small typed =
      both (DueLine refute_line ∷ []) (Refute 0 ∷ DueLine end_line ∷ []) (Fixed refute_line ∷ []) (refute_nodes tree ++ Fixed end_line ∷ []) (line_fits refute_line)
      (both (Refute 0 ∷ []) (DueLine end_line ∷ []) (refute_nodes tree) (Fixed end_line ∷ []) (refute_fits P sound G (whole_vars P) 0 box tree refl right small typed) (line_fits end_line))

  policy_part : (value : Fraction) (policy : Moving) (ds : List Due) (ns : List Node) → IsRightPolicy P value (whole_vars P) 0 box policy → length (policy_nodes policy) < 2 ^ 32 → AreTyped (policy_nodes policy) → Fit ds ns
      → Fit (DueLine policy_line ∷ Policy 0 ∷ ds) (Fixed policy_line ∷ (policy_nodes policy ++ ns))
  policy_part value policy ds ns right small typed rest =
      both (DueLine policy_line ∷ []) (Policy 0 ∷ ds) (Fixed policy_line ∷ []) (policy_nodes policy ++ ns) (line_fits policy_line)
      (both (Policy 0 ∷ []) ds (policy_nodes policy) ns (policy_fits P sound value (whole_vars P) 0 box policy refl right small typed) rest)

  -- what fits and has nothing due behind it
  alone : (nodes : List Node) → Fit (Claimed ∷ []) nodes → AreFit P (Claimed ∷ []) nodes
  alone nodes fits = subst (λ l. AreFit P (Claimed ∷ []) l) (append-nil nodes) (fits [] [] tt)

  passing_by : (c : Certificate) → Passes P c → IsWellFormed c → length (nodes_of first_style P c) < 2 ^ 32 → Fits P c
  passing_by (ending.Optimal value legal policy refute) (frac, play, right, range, refutes) typed small =
      let moves = policy_nodes policy in
      let last = Fixed refute_line ∷ refute_nodes refute in
      let end = Fixed end_line ∷ [] in
      let sizes = length-append moves last in
      let all = length-append (moves ++ last) end in
      let legal_typed = both_of_type (map Whole legal) (policy_pieces policy ++ refute_pieces refute) typed.1 in
      let trees = both_of_type (policy_pieces policy) (refute_pieces refute) legal_typed.1 in
      let tail = refuted_fits (goals.Above value) refute refutes.0 (omega (arith, small, sizes, all)) (subst AreOfType (refute_same refute) trees.1) in
      let part = policy_part value policy refuted (last ++ end) right (omega (arith, small, sizes, all)) (subst AreOfType (policy_same policy) trees.0) tail in
      let body = begin_fits legal (DueLine policy_line ∷ Policy 0 ∷ refuted) (Fixed policy_line ∷ (moves ++ (last ++ end))) play legal_typed.0 part in
      let nodes = Fixed (version_line first_style) ∷ Legal legal ∷ Fixed policy_line ∷ (moves ++ (last ++ end)) in
      let shown = Optimal (claimed P.sense value) in
      let whole = node_fits P Claimed shown nodes (inr (inr (claimed P.sense value, refl, claimed_frac P sound P.sense value frac))) body in
      subst (λ (ns : List Node). AreFit P (Claimed ∷ []) (shown ∷ Fixed (version_line first_style) ∷ Legal legal ∷ Fixed policy_line ∷ ns)) (sym (append_assoc moves last end)) (alone (shown ∷ nodes) whole)
  passing_by (ending.Infeasible legal refute) (play, refutes) typed small =
      let end = Fixed end_line ∷ [] in
      let all = length-append (refute_nodes refute) end in
      let nodes = Fixed (version_line first_style) ∷ Legal legal ∷ Fixed refute_line ∷ (refute_nodes refute ++ end) in
      let parts = both_of_type (map Whole legal) (refute_pieces refute) typed in
      alone (Infeasible ∷ nodes)
      (node_fits P Claimed Infeasible nodes (inl refl)
      (begin_fits legal refuted (Fixed refute_line ∷ (refute_nodes refute ++ end)) play parts.0
      (refuted_fits goals.Any refute refutes.0 (omega (arith, small, all)) (subst AreOfType (refute_same refute) parts.1))))
  passing_by (ending.Empty tree) (right, range) typed small =
      let end = Fixed end_line ∷ [] in
      let all = length-append (empty_nodes tree) end in
      let inner = empty_nodes tree ++ end in
      let fits = empty_fits P sound (whole_vars P) 0 box tree refl right (omega (arith, small, all)) (subst AreOfType (empty_same tree) typed) in
      alone (NoPlay ∷ Fixed (version_line first_style) ∷ Fixed illegal_line ∷ inner)
      (node_fits P Claimed NoPlay (Fixed (version_line first_style) ∷ Fixed illegal_line ∷ inner) (inr (inl refl))
      (both (DueLine (version_line first_style) ∷ []) (DueLine illegal_line ∷ Empty 0 ∷ DueLine end_line ∷ []) (Fixed (version_line first_style) ∷ []) (Fixed illegal_line ∷ inner) (line_fits (version_line first_style))
      (both (DueLine illegal_line ∷ []) (Empty 0 ∷ DueLine end_line ∷ []) (Fixed illegal_line ∷ []) inner (line_fits illegal_line)
      (both (Empty 0 ∷ []) (DueLine end_line ∷ []) (empty_nodes tree) end fits (line_fits end_line)))))

  passing_fits : HasNearBounds P → (c : Certificate) → Passes P c → length (certificate_text P c) < 2 ^ 32 → Fits P c
  passing_fits near c right short =
      let nodes = nodes_of first_style P c in
      let bytes : length (text_of (map line_of nodes)) < 2 ^ 32 = subst (λ (t : List ℕ). length t < 2 ^ 32) (text_same P c) short in
      let few = few_nodes nodes in
      passing_by c right (passing_of_type P sound near c right) (omega (arith, few, bytes))

pub short_law : (P : Problem) (text : List ℕ) → IsSound P → HasNearBounds P → length text < 2 ^ 32 → HasNoFault P text ↔ IsOfPassing P text
short_law P text sound near short = (
  λ none. (let found = (no_fault_law P sound text).0 none in (found.0, found.2, found.3)),
  λ passing. (
      let fits = passing_fits P sound near passing.0 passing.1 (subst (λ (t : List ℕ). length t < 2 ^ 32) (sym passing.2) short) in
      (no_fault_law P sound text).1 (passing.0, fits, passing.1, passing.2)),
)
