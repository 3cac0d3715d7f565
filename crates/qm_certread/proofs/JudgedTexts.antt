-- The text of a tree, and that of a certificate, is judged as the tree and the certificate are.
use Rattle.std.proofs.Common.{◌≡◌, ℕ, ◌<◌, ◌^◌, ℤ, List, [], ◌∷◌, ◌++◌, append-nil, append_assoc, length, map, refl, sym, ap, ◌∙◌, subst, drop}
use Rattle.qm_math.specs.Fraction.{Fraction}
use Rattle.qm_model.specs.declared.row.Row.{Row}
use Rattle.qm_model.specs.declared.range.Range.{Range}
use Rattle.qm_model.specs.declared.game.Problem.{Problem}
use Rattle.qm_model.specs.Boxes.{whole_box_of}
use Rattle.qm_model.specs.Goals.{Goal}
use Rattle.qm_model.specs.Goals as goals
use Rattle.qm_model.specs.Plays.{whole_vars}
use Rattle.qm_model.specs.Sound.{IsSound}
use Rattle.qm_trees.specs.declared.policy.Policy.{Policy as Moving}
use Rattle.qm_trees.specs.declared.refutation.Refute.{Refute as Refutation}
use Rattle.qm_trees.specs.Verdicts.{Verdict, Fine, ◌then◌}
use Rattle.qm_trees.specs.EmptyJudgement.{judge_empty}
use Rattle.qm_trees.specs.PolicyJudgement.{judge_policy}
use Rattle.qm_trees.specs.RefuteJudgement.{Head, judge_refute}
use Rattle.qm_certfile.specs.declared.certificate.Certificate.{Certificate}
use Rattle.qm_certfile.specs.declared.certificate.Certificate.TheVariants as ending
use Rattle.qm_certfile.specs.CertificateLines.{claimed, version_line}
use Rattle.qm_certfile.specs.Lines.{Line, text_of}
use Rattle.qm_certfile.specs.Styles.{first_style}
use Rattle.qm_certread.specs.Pieces.{lines_of}
use Rattle.qm_certread.specs.Nodes.{Node, Fixed, Infeasible, Legal, NoPlay, Optimal}
use Rattle.qm_certread.specs.Dues.{end_line, illegal_line, policy_line, refute_line}
use Rattle.qm_certread.specs.NodesOf.{empty_nodes, nodes_of, policy_nodes, refute_nodes}
use Rattle.qm_certread.specs.Fits.{AreFit, line_of}
use Rattle.qm_certread.specs.Tasks.{Task, Claimed, Played, Said as Fixing, Policy, Empty, Refute, due_of, refuted}
use Rattle.qm_certread.specs.FirstFault.{first_fault, judge_lines}
use Rattle.qm_certread.specs.Judgements.{CertificatesAreJudged, EmptyTreesAreJudged, PoliciesAreJudged, RefutationsAreJudged, judge_certificate, judge_play, judge_refuted}
use Rattle.qm_certread.proofs.BodyRead.{claimed_twice}
use Rattle.qm_certread.proofs.ThenLaws.{then_assoc, then_none}
use Rattle.qm_certread.proofs.TextLines.{text_same}
use Rattle.qm_certread.proofs.TextSplits.{IsShown, end_shown, illegal_shown, policy_shown, refute_shown, version_shown}
use Rattle.qm_certread.proofs.TreeNodes.{empty_same, policy_same, refute_same}
use Rattle.qm_certread.proofs.FineTexts.{few_whole}
use Rattle.qm_certread.proofs.Turns.{IsTurn, both_turn, last_turn, node_turn, nodes_turn}
use Rattle.qm_certread.proofs.JudgedEmpties.{empty_turn}
use Rattle.qm_certread.proofs.JudgedPolicies.{policy_turn}
use Rattle.qm_certread.proofs.JudgedRefutations.{refute_turn}

-- ---- trees

module _ (P : Problem) (cuts : List Row) (heads : List Head) (sound : IsSound P) where
  turn_law : (task : Task) (nodes : List Node) (v : Verdict) (more : List ℕ) → IsTurn P cuts heads (few_whole P sound) more (task ∷ []) nodes v → AreFit P (due_of task ∷ []) nodes → (tasks : List Task)
      → judge_lines first_style P cuts heads (task ∷ tasks) (lines_of (text_of (map line_of nodes) ++ more)) ≡ v then judge_lines first_style P cuts heads tasks (lines_of more)
  turn_law task nodes v more turn fit tasks =
      ap (λ ns. judge_lines first_style P cuts heads (task ∷ tasks) (lines_of (text_of (map line_of ns) ++ more))) (sym (append-nil nodes))
      ∙ (turn [] tasks [] (subst (λ ns. AreFit P (due_of task ∷ []) ns) (sym (append-nil nodes)) fit)).same

  pub policy_law : PoliciesAreJudged P cuts heads
  policy_law value depth bx policy tasks behind fit =
      ap (λ (ls : List Line). judge_lines first_style P cuts heads (Policy value depth bx ∷ tasks) (lines_of (text_of ls ++ behind))) (policy_same policy depth)
      ∙ turn_law (Policy value depth bx) (policy_nodes policy) (judge_policy P value (drop depth (whole_vars P)) depth bx policy) behind
      (policy_turn P cuts heads (few_whole P sound) behind value (drop depth (whole_vars P)) depth bx policy refl) fit tasks

  pub refute_law : RefutationsAreJudged P cuts heads
  refute_law G depth bx tree tasks behind fit =
      ap (λ (ls : List Line). judge_lines first_style P cuts heads (Refute G depth bx ∷ tasks) (lines_of (text_of ls ++ behind))) (refute_same tree depth)
      ∙ turn_law (Refute G depth bx) (refute_nodes tree) (judge_refute P cuts heads G (drop depth (whole_vars P)) depth bx tree) behind
      (refute_turn P cuts heads (few_whole P sound) behind G (drop depth (whole_vars P)) depth bx tree refl) fit tasks

  pub empty_law : EmptyTreesAreJudged P cuts heads
  empty_law position bx tree tasks behind fit =
      ap (λ (ls : List Line). judge_lines first_style P cuts heads (Empty position bx ∷ tasks) (lines_of (text_of ls ++ behind))) (empty_same tree position)
      ∙ turn_law (Empty position bx) (empty_nodes tree) (judge_empty P (drop position (whole_vars P)) position bx tree) behind
      (empty_turn P cuts heads (few_whole P sound) behind (drop position (whole_vars P)) position bx tree refl) fit tasks

-- ---- certificates

module _ (P : Problem) (sound : IsSound P) where
  abbrev few : length (whole_vars P) < 2 ^ 32
  few = few_whole P sound

  abbrev Turn : List Task → List Node → Verdict → Type 0
  Turn tasks nodes v = IsTurn P [] [] few [] tasks nodes v

  abbrev box : List Range
  box = whole_box_of P.vars

  both : (ts us : List Task) (ns ms : List Node) (v w : Verdict) → Turn ts ns v → Turn us ms w → Turn (ts ++ us) (ns ++ ms) (v then w)
  both ts us ns ms v w first second = both_turn P [] [] few [] ts us ns ms v w first second

  line_turn : (line : Line) → IsShown line → Turn (Fixing line ∷ []) (Fixed line ∷ []) (Fine 1)
  line_turn line shown = last_turn P [] [] few [] (Fixing line) (Fixed line) (Fine 1) shown refl refl

  play_turn : (legal : List ℤ) → Turn (Played ∷ []) (Legal legal ∷ []) (judge_play P legal)
  play_turn legal = last_turn P [] [] few [] Played (Legal legal) (judge_play P legal) tt refl refl

  refuted_turn : (G : Goal) (tree : Refutation) → Turn (refuted P G) (Fixed refute_line ∷ (refute_nodes tree ++ Fixed end_line ∷ [])) (judge_refuted P G tree)
  refuted_turn G tree =
      let v = judge_refute P [] [] G (whole_vars P) 0 box tree in
      both (Fixing refute_line ∷ []) (Refute G 0 box ∷ Fixing end_line ∷ []) (Fixed refute_line ∷ []) (refute_nodes tree ++ Fixed end_line ∷ []) (Fine 1) (v then (Fine 1)) (line_turn refute_line refute_shown)
      (both (Refute G 0 box ∷ []) (Fixing end_line ∷ []) (refute_nodes tree) (Fixed end_line ∷ []) v (Fine 1) (refute_turn P [] [] few [] G (whole_vars P) 0 box tree refl) (line_turn end_line end_shown))

  begin_turn : (legal : List ℤ) (ts : List Task) (ns : List Node) (v : Verdict) → Turn ts ns v
      → Turn (Fixing (version_line first_style) ∷ Played ∷ ts) (Fixed (version_line first_style) ∷ Legal legal ∷ ns) ((Fine 1) then (judge_play P legal then v))
  begin_turn legal ts ns v turn =
      both (Fixing (version_line first_style) ∷ []) (Played ∷ ts) (Fixed (version_line first_style) ∷ []) (Legal legal ∷ ns) (Fine 1) (judge_play P legal then v) (line_turn (version_line first_style) version_shown)
      (both (Played ∷ []) ts (Legal legal ∷ []) ns (judge_play P legal) v (play_turn legal) turn)

  policy_part : (value : Fraction) (policy : Moving) (ts : List Task) (ns : List Node) (v : Verdict) → Turn ts ns v
      → Turn (Fixing policy_line ∷ Policy value 0 box ∷ ts) (Fixed policy_line ∷ (policy_nodes policy ++ ns)) ((Fine 1) then (judge_policy P value (whole_vars P) 0 box policy then v))
  policy_part value policy ts ns v turn =
      let w = judge_policy P value (whole_vars P) 0 box policy in
      both (Fixing policy_line ∷ []) (Policy value 0 box ∷ ts) (Fixed policy_line ∷ []) (policy_nodes policy ++ ns) (Fine 1) (w then v) (line_turn policy_line policy_shown)
      (both (Policy value 0 box ∷ []) ts (policy_nodes policy) ns w v (policy_turn P [] [] few [] value (whole_vars P) 0 box policy refl) turn)

  -- two lines, and what stands behind them
  two_lines : (v : Verdict) → (Fine 1) then ((Fine 1) then v) ≡ (Fine 2) then v
  two_lines v = sym (then_assoc (Fine 1) (Fine 1) v)

  certificate_turn : (c : Certificate) → Turn (Claimed ∷ []) (nodes_of first_style P c) (judge_certificate P c)
  certificate_turn (ending.Optimal value legal policy refute) =
      let shown = claimed P.sense value in
      let moves = policy_nodes policy in
      let last = Fixed refute_line ∷ refute_nodes refute in
      let tail = judge_policy P value (whole_vars P) 0 box policy then judge_refuted P (goals.Above value) refute in
      let body = Fixed (version_line first_style) ∷ Legal legal ∷ Fixed policy_line ∷ (moves ++ (last ++ Fixed end_line ∷ [])) in
      let at = λ (w : Fraction). Fixing (version_line first_style) ∷ Played ∷ Fixing policy_line ∷ Policy w 0 box ∷ refuted P (goals.Above w) in
      let v = (Fine 1) then (judge_play P legal then ((Fine 1) then tail)) in
      let turn : Turn (at value) body v =
      begin_turn legal (Fixing policy_line ∷ Policy value 0 box ∷ refuted P (goals.Above value)) (Fixed policy_line ∷ (moves ++ (last ++ Fixed end_line ∷ []))) ((Fine 1) then tail)
      (policy_part value policy (refuted P (goals.Above value)) (last ++ Fixed end_line ∷ []) (judge_refuted P (goals.Above value) refute) (refuted_turn (goals.Above value) refute)) in
      nodes_turn P [] [] few [] (Claimed ∷ []) (Optimal shown ∷ body) (nodes_of first_style P (ending.Optimal value legal policy refute)) (judge_certificate P (ending.Optimal value legal policy refute))
      (ap (λ (ns : List Node). Optimal shown ∷ Fixed (version_line first_style) ∷ Legal legal ∷ Fixed policy_line ∷ ns) (sym (append_assoc moves last (Fixed end_line ∷ []))))
      (subst (λ w. Turn (Claimed ∷ []) (Optimal shown ∷ body) w) (two_lines (judge_play P legal then ((Fine 1) then tail)))
      (node_turn P [] [] few [] Claimed (Optimal shown) body v tt (subst (λ w. Turn (at w) body v) (sym (claimed_twice P.sense value)) turn)))
  certificate_turn (ending.Infeasible legal refute) =
      let body = Fixed (version_line first_style) ∷ Legal legal ∷ Fixed refute_line ∷ (refute_nodes refute ++ Fixed end_line ∷ []) in
      let v = judge_play P legal then judge_refuted P goals.Any refute in
      subst (λ w. Turn (Claimed ∷ []) (Infeasible ∷ body) w) (two_lines v)
      (node_turn P [] [] few [] Claimed Infeasible body ((Fine 1) then v) tt
      (begin_turn legal (refuted P goals.Any) (Fixed refute_line ∷ (refute_nodes refute ++ Fixed end_line ∷ [])) (judge_refuted P goals.Any refute) (refuted_turn goals.Any refute)))
  certificate_turn (ending.Empty tree) =
      let v = judge_empty P (whole_vars P) 0 box tree in
      let body = Fixed (version_line first_style) ∷ Fixed illegal_line ∷ (empty_nodes tree ++ Fixed end_line ∷ []) in
      subst (λ w. Turn (Claimed ∷ []) (NoPlay ∷ body) w) (two_lines ((Fine 1) then (v then (Fine 1))) ∙ sym (then_assoc (Fine 2) (Fine 1) (v then (Fine 1))))
      (node_turn P [] [] few [] Claimed NoPlay body ((Fine 1) then ((Fine 1) then (v then (Fine 1)))) tt
      (both (Fixing (version_line first_style) ∷ []) (Fixing illegal_line ∷ Empty 0 box ∷ Fixing end_line ∷ []) (Fixed (version_line first_style) ∷ []) (Fixed illegal_line ∷ (empty_nodes tree ++ Fixed end_line ∷ []))
      (Fine 1) ((Fine 1) then (v then (Fine 1))) (line_turn (version_line first_style) version_shown)
      (both (Fixing illegal_line ∷ []) (Empty 0 box ∷ Fixing end_line ∷ []) (Fixed illegal_line ∷ []) (empty_nodes tree ++ Fixed end_line ∷ []) (Fine 1) (v then (Fine 1)) (line_turn illegal_line illegal_shown)
      (both (Empty 0 box ∷ []) (Fixing end_line ∷ []) (empty_nodes tree) (Fixed end_line ∷ []) v (Fine 1) (empty_turn P [] [] few [] (whole_vars P) 0 box tree refl) (line_turn end_line end_shown)))))

  pub certificate_law : CertificatesAreJudged P
  unfolding first_fault
  certificate_law c fits =
      let nodes = nodes_of first_style P c in
      ap (λ (text : List ℕ). judge_lines first_style P [] [] (Claimed ∷ []) (lines_of text)) (text_same P c ∙ sym (append-nil (text_of (map line_of nodes))))
      ∙ turn_law P [] [] sound Claimed nodes (judge_certificate P c) [] (certificate_turn c) fits []
      ∙ then_none (judge_certificate P c)
