-- A text has no fault exactly where it is that of a certificate that fits the game and passes.
use Rattle.std.proofs.Common.{◌≡◌, ℕ, ◌+◌, true, ℤ, List, [], ◌∷◌, ◌++◌, get_or, length, map, Ok, Err, refl, sym, ap, ◌∙◌, subst, arith}
use Rattle.std.specs.Prelude.{◌↔◌, ◌&&◌, int_le}
use Rattle.std.specs.List.{list_all}
use Rattle.std.proofs.lemmas.Bool.{and_from, and_parts}
use Rattle.std.proofs.lemmas.List.{map-append}
use Rattle.std.proofs.lemmas.List.Sums.{AllPass-from_list_all, length-filter, list_all-from_AllPass}
use Rattle.qm_math.specs.Fraction.{Fraction}
use Rattle.qm_math.proofs.WholeTests.{le_of_test, test_of_le}
use Rattle.qm_frac.specs.Lowest.{IsFrac}
use Rattle.qm_model.specs.declared.variable.Var.{Var}
use Rattle.qm_model.specs.declared.range.Range.{Range}
use Rattle.qm_model.specs.declared.game.Problem.{Problem}
use Rattle.qm_model.specs.Boxes.{whole_box_of}
use Rattle.qm_model.specs.Goals.{Goal, IsProper}
use Rattle.qm_model.specs.Goals as goals
use Rattle.qm_model.specs.Legal.{begin_within, holds_at}
use Rattle.qm_model.specs.Linear.{form}
use Rattle.qm_model.specs.Plays.{AreWithin, IsPlay, is_universal, spread, universal_vars, whole_vars}
use Rattle.qm_model.specs.Sound.{IsSound}
use Rattle.qm_trees.specs.declared.rule.Rule.TheVariants as broken
use Rattle.qm_trees.specs.declared.policy.Policy.{Policy as Moving}
use Rattle.qm_trees.specs.declared.refutation.Refute.{Refute as Refutation}
use Rattle.qm_trees.specs.Picks.{universal_count}
use Rattle.qm_trees.specs.Verdicts.{Fine, ◌then◌}
use Rattle.qm_trees.specs.Passing.{IsFine}
use Rattle.qm_trees.specs.EmptyJudgement.{judge_empty}
use Rattle.qm_trees.specs.PolicyJudgement.{judge_policy}
use Rattle.qm_trees.specs.RefuteJudgement.{judge_refute}
use Rattle.qm_trees.proofs.Lines.{fine_both, fine_line, fine_parts, line_fine, ok_is}
use Rattle.qm_trees.proofs.EmptyLines as empties
use Rattle.qm_trees.proofs.PolicyLines as policies
use Rattle.qm_trees.proofs.RefutationLines as refutations
use Rattle.qm_certfile.specs.declared.certificate.Certificate.{Certificate}
use Rattle.qm_certfile.specs.declared.certificate.Certificate.TheVariants as ending
use Rattle.qm_certfile.specs.Passes.{Passes, RefutesWhole}
use Rattle.qm_certfile.specs.Styles.{first_style}
use Rattle.qm_certread.specs.Pieces.{lines_of, words_of}
use Rattle.qm_certread.specs.Spelling.{Said}
use Rattle.qm_certread.specs.Nodes.{Node, Legal}
use Rattle.qm_certread.specs.Dues.{Due, after}
use Rattle.qm_certread.specs.Dues as due
use Rattle.qm_certread.specs.Forms.{certificate_form, form_of, said_at}
use Rattle.qm_certread.specs.Reading.{IsInForm, IsOfCertificate}
use Rattle.qm_certread.specs.Fits.{Fits, FitsAt}
use Rattle.qm_certread.specs.Tasks.{Task, Claimed, due_of, follow}
use Rattle.qm_certread.specs.FirstFault.{first_fault, is_play, judge_lines, rule_at}
use Rattle.qm_certread.specs.Judgements.{HasNoFault, IsOfPassingFit, judge_certificate, judge_play, judge_refuted}
use Rattle.qm_certread.proofs.FineTexts.{few_whole, formed}
use Rattle.qm_certread.proofs.Moved.{step_of}
use Rattle.qm_certread.proofs.NodePieces.{fits_formed}
use Rattle.qm_certread.proofs.Turns.{follow_due, next_is, next_judged}
use Rattle.qm_certread.proofs.JudgedTexts.{certificate_law}

-- ---- lines without fault are in form

module _ (P : Problem) where
  abbrev AreFormed : List Task → List (List ℕ) → Type 0
  AreFormed tasks lines = (n : ℕ) × (form_of first_style P (map due_of tasks) lines ≡ Fine n)

  formed_by : (said : Said Node) (task : Task) (tasks : List Task) (line next : List ℕ) (lines : List (List ℕ)) → said_at first_style P (due_of task) (words_of line) ≡ said
      → ((ts : List Task) → IsFine (judge_lines first_style P [] [] ts (next ∷ lines)) → AreFormed ts (next ∷ lines))
      → IsFine (next_judged P [] [] task tasks (next ∷ lines) said) → AreFormed (task ∷ tasks) (line ∷ next ∷ lines)
  formed_by (Ok node) task tasks line next lines says behind fine =
      let later = follow first_style P task node ++ tasks in
      let parts = fine_parts (rule_at P [] [] task node) (judge_lines first_style P [] [] later (next ∷ lines)) fine in
      let rest = behind later parts.1 in
      let dues : map due_of later ≡ after first_style (due_of task) node ++ map due_of tasks =
      map-append due_of (follow first_style P task node) tasks ∙ ap (λ (ds : List Due). ds ++ map due_of tasks) (follow_due P task node) in (
        1 + rest.0,
        step_of P (due_of task) (map due_of tasks) line next lines node says
            ∙ ap (λ (ds : List Due). (Fine 1) then form_of first_style P ds (next ∷ lines)) (sym dues) ∙ ap (λ v. (Fine 1) then v) rest.1,
      )
  formed_by (Err r) task tasks line next lines says behind fine = absurd fine

  fine_formed : (tasks : List Task) (lines : List (List ℕ)) → IsFine (judge_lines first_style P [] [] tasks lines) → AreFormed tasks lines
  fine_formed [] [] fine = absurd fine
  fine_formed (task ∷ tasks) [] fine = absurd fine
  fine_formed [] ([] ∷ []) fine = (0, refl)
  fine_formed [] ((byte ∷ bytes) ∷ []) fine = absurd fine
  fine_formed [] (line ∷ next ∷ lines) fine = absurd fine
  fine_formed (task ∷ tasks) (line ∷ []) fine = absurd fine
  fine_formed (task ∷ tasks) (line ∷ next ∷ lines) fine =
      let said = said_at first_style P (due_of task) (words_of line) in
      formed_by said task tasks line next lines refl (λ ts h. fine_formed ts (next ∷ lines) h) (subst IsFine (next_is P [] [] task tasks line next lines said refl) fine)

  in_form : (text : List ℕ) → HasNoFault P text → IsInForm P text
  unfolding first_fault certificate_form
  in_form text fine = fine_formed (Claimed ∷ []) (lines_of text) fine

-- ---- plays

all_within : (xs : List Var) (us : List ℤ) → length us ≡ length xs → begin_within xs us ≡ true → AreWithin xs us
all_within [] [] same e = tt
all_within [] (u ∷ us) same e = absurd (omega (arith, same))
all_within (x ∷ xs) [] same e = absurd (omega (arith, same))
all_within (x ∷ xs) (u ∷ us) same e =
    let outer = and_parts (int_le x.low u && int_le u x.high) (begin_within xs us) e in
    let inner = and_parts (int_le x.low u) (int_le u x.high) outer.0 in
    ((le_of_test x.low u inner.0, le_of_test u x.high inner.1), all_within xs us (omega (arith, same)) outer.1)

within_all : (xs : List Var) (us : List ℤ) → AreWithin xs us → begin_within xs us ≡ true
within_all [] [] h = refl
within_all [] (u ∷ us) h = absurd h
within_all (x ∷ xs) [] h = absurd h
within_all (x ∷ xs) (u ∷ us) h =
    and_from (int_le x.low u && int_le u x.high) (begin_within xs us)
    (and_from (int_le x.low u) (int_le u x.high) (test_of_le x.low u h.0.0) (test_of_le u x.high h.0.1)) (within_all xs us h.1)

module _ (P : Problem) (us : List ℤ) where
  play_of_test : length us ≡ universal_count (whole_vars P) → is_play P us ≡ true → IsPlay P us
  play_of_test count e =
      let values = spread (whole_vars P) us in
      let parts = and_parts (begin_within (universal_vars P) us) (list_all (holds_at values) P.urows) e in
      record {
        within = all_within (universal_vars P) us (count ∙ sym (length-filter is_universal (whole_vars P))) parts.0;
        rows = λ k d h. le_of_test (form (get_or P.urows k d).terms values) (get_or P.urows k d).right (AllPass-from_list_all (holds_at values) P.urows parts.1 k d h);
      }

  test_of_play : IsPlay P us → is_play P us ≡ true
  test_of_play play =
      let values = spread (whole_vars P) us in
      and_from (begin_within (universal_vars P) us) (list_all (holds_at values) P.urows) (within_all (universal_vars P) us play.within)
      (list_all-from_AllPass (holds_at values) P.urows (λ k d h. test_of_le (form (get_or P.urows k d).terms values) (get_or P.urows k d).right (play.rows k d h)))

  fine_play : length us ≡ universal_count (whole_vars P) → IsFine (judge_play P us) → IsPlay P us
  fine_play count fine = play_of_test count (ok_is (is_play P us) true (fine_line broken.Legal (Ok (is_play P us)) fine))

  play_fine : IsPlay P us → IsFine (judge_play P us)
  play_fine play = line_fine broken.Legal (Ok (is_play P us)) (ap Ok (test_of_play play))

-- ---- certificates

module _ (P : Problem) (sound : IsSound P) where
  abbrev box : List Range
  box = whole_box_of P.vars

  refuted_passes : (G : Goal) (tree : Refutation) → IsProper G → IsFine (judge_refuted P G tree) → RefutesWhole P G tree
  refuted_passes G tree proper fine =
      let v = judge_refute P [] [] G (whole_vars P) 0 box tree in
      let inner = fine_parts (Fine 1) (v then (Fine 1)) fine in
      refutations.right_of_fine P [] G sound.scale_positive proper [] (whole_vars P) 0 box tree (fine_parts v (Fine 1) inner.1).0

  passes_refuted : (G : Goal) (tree : Refutation) → IsProper G → RefutesWhole P G tree → IsFine (judge_refuted P G tree)
  passes_refuted G tree proper right =
      let v = judge_refute P [] [] G (whole_vars P) 0 box tree in
      fine_both (Fine 1) (v then (Fine 1)) tt (fine_both v (Fine 1) (refutations.fine_of_right P [] G sound.scale_positive proper [] (whole_vars P) 0 box tree right.0 right.1) tt)

  values_count : (legal : List ℤ) → FitsAt P due.Played (Legal legal) → length legal ≡ universal_count (whole_vars P)
  values_count legal (values, is, h) = let same : values ≡ legal = cc in subst (λ us. length us ≡ universal_count (whole_vars P)) same h.0

  -- without fault where the value is a fraction of the program and there are as many legal values as universal variables
  optimal_passes : (value : Fraction) (legal : List ℤ) (policy : Moving) (refute : Refutation) → IsFrac value → length legal ≡ universal_count (whole_vars P)
      → IsFine (judge_certificate P (ending.Optimal value legal policy refute)) → Passes P (ending.Optimal value legal policy refute)
  optimal_passes value legal policy refute frac count fine =
      let w = judge_policy P value (whole_vars P) 0 box policy in
      let last = judge_refuted P (goals.Above value) refute in
      let one = fine_parts (Fine 2) (judge_play P legal then ((Fine 1) then (w then last))) fine in
      let two = fine_parts (judge_play P legal) ((Fine 1) then (w then last)) one.1 in
      let three = fine_parts (Fine 1) (w then last) two.1 in
      let four = fine_parts w last three.1 in
      let right = policies.right_of_fine P value sound.scale_positive frac.positive (whole_vars P) 0 box policy four.0 in
      (frac, fine_play P legal count two.0, right.0, right.1, refuted_passes (goals.Above value) refute frac.positive four.1)

  passes : (c : Certificate) → Fits P c → IsFine (judge_certificate P c) → Passes P c
  passes (ending.Optimal value legal policy refute) fits fine =
      optimal_passes value legal policy refute (fits_formed P (few_whole P sound) (ending.Optimal value legal policy refute) fits).0 (values_count legal fits.1.1.0) fine
  passes (ending.Infeasible legal refute) fits fine =
      let last = judge_refuted P goals.Any refute in
      let one = fine_parts (Fine 2) (judge_play P legal then last) fine in
      let two = fine_parts (judge_play P legal) last one.1 in
      (fine_play P legal (values_count legal fits.1.1.0) two.0, refuted_passes goals.Any refute tt two.1)
  passes (ending.Empty tree) fits fine =
      let v = judge_empty P (whole_vars P) 0 box tree in
      let inner = fine_parts (Fine 3) (v then (Fine 1)) fine in
      empties.right_of_fine P (whole_vars P) 0 box tree (fine_parts v (Fine 1) inner.1).0

  fine : (c : Certificate) → Passes P c → IsFine (judge_certificate P c)
  fine (ending.Optimal value legal policy refute) (frac, play, right, range, refutes) =
      let w = judge_policy P value (whole_vars P) 0 box policy in
      let last = judge_refuted P (goals.Above value) refute in
      fine_both (Fine 2) (judge_play P legal then ((Fine 1) then (w then last))) tt
      (fine_both (judge_play P legal) ((Fine 1) then (w then last)) (play_fine P legal play)
      (fine_both (Fine 1) (w then last) tt
      (fine_both w last (policies.fine_of_right P value sound.scale_positive frac.positive (whole_vars P) 0 box policy right range)
      (passes_refuted (goals.Above value) refute frac.positive refutes))))
  fine (ending.Infeasible legal refute) (play, refutes) =
      let last = judge_refuted P goals.Any refute in
      fine_both (Fine 2) (judge_play P legal then last) tt (fine_both (judge_play P legal) last (play_fine P legal play) (passes_refuted goals.Any refute tt refutes))
  fine (ending.Empty tree) (right, range) =
      let v = judge_empty P (whole_vars P) 0 box tree in
      fine_both (Fine 3) (v then (Fine 1)) tt (fine_both v (Fine 1) (empties.fine_of_right P (whole_vars P) 0 box tree right range) tt)

  -- ---- texts

  of_passing : (text : List ℕ) → HasNoFault P text → IsOfPassingFit P text
  of_passing text none =
      let made : IsOfCertificate P text = formed P text sound (in_form P text none) in
      let judged : IsFine (judge_certificate P made.0) = subst IsFine (ap (first_fault P) (sym made.2) ∙ certificate_law P sound made.0 made.1) none in
      (made.0, made.1, passes made.0 made.1 judged, made.2)

  passing_has_none : (text : List ℕ) → IsOfPassingFit P text → HasNoFault P text
  passing_has_none text (c, fits, right, is) = subst IsFine (sym (certificate_law P sound c fits) ∙ ap (first_fault P) is) (fine c right)

  pub no_fault_law : (text : List ℕ) → HasNoFault P text ↔ IsOfPassingFit P text
  no_fault_law text = (of_passing text, passing_has_none text)
