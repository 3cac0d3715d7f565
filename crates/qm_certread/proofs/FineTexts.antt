-- A text in form is a certificate's.
use Rattle.std.proofs.Common.{◌≡◌, ℕ, List, [], ◌∷◌, ◌++◌, append_assoc, ◌+◌, ◌<◌, ◌^◌, length, ℤ, Result, Ok, Err, inl, inr, refl, sym, ap, ◌∙◌, subst, arith}
use Rattle.std.specs.Prelude.{IfOk, IsErrAnd, ◌↔◌}
use Rattle.std.proofs.lemmas.List.{length-take}
use Rattle.std.proofs.lemmas.Result.{IfOk-weaker, err_from_is_err_and}
use Rattle.qm_math.specs.Fraction.{Fraction}
use Rattle.qm_model.specs.declared.game.Problem.{Problem}
use Rattle.qm_model.specs.Plays.{whole_vars}
use Rattle.qm_model.specs.Sound.{IsSound}
use Rattle.qm_trees.specs.declared.rule.Rule.{Rule}
use Rattle.qm_trees.specs.declared.rule.Rule.TheVariants as broken
use Rattle.qm_trees.specs.Verdicts.{Verdict, Fine, Broken, Left, ◌then◌}
use Rattle.qm_trees.specs.declared.refutation.Refute.{Refute as Refutation}
use Rattle.qm_certfile.specs.declared.certificate.Certificate.{Certificate}
use Rattle.qm_certfile.specs.declared.certificate.Certificate.TheVariants as ending
use Rattle.qm_certfile.specs.Styles.{first_style}
use Rattle.qm_certfile.specs.CertificateLines.{certificate_text, claimed, version_line}
use Rattle.qm_certfile.specs.Lines.{Line}
use Rattle.qm_certread.specs.declared.fault.CertFault.{CertFault}
use Rattle.qm_certread.specs.declared.fault.CertFault.TheVariants as fault
use Rattle.qm_certread.specs.Pieces.{lines_of, words_of}
use Rattle.qm_certread.specs.Spelling.{Said}
use Rattle.qm_certread.specs.Nodes.{Node, Fixed, Infeasible, Legal, NoPlay, Optimal}
use Rattle.qm_certread.specs.Dues.{Due, Claimed, Played, Said as DueLine, Policy, Empty, Refute, after, end_line, illegal_line, policy_line, refute_line, refuted}
use Rattle.qm_certread.specs.Forms.{certificate_form, form_of, rule_of, said_at}
use Rattle.qm_certread.specs.NodesOf.{empty_nodes, nodes_of, policy_nodes, refute_nodes}
use Rattle.qm_certread.specs.Reading.{AreSaid, IsFirstFault, IsInForm, IsOfCertificate, IsReadBack}
use Rattle.qm_certread.specs.Fits.{AreFit, Fits}
use Rattle.qm_certread.proofs.BodyRead.{claimed_twice}
use Rattle.qm_certread.proofs.NodePieces.{one_fits}
use Rattle.qm_certread.proofs.TextLines.{said_fit, text_same, whole_fits, whole_text}
use Rattle.qm_certread.proofs.TextSplits.{fit_said}
use Rattle.qm_certread.proofs.WholeRead.{said_form}
use Rattle.qm_certread.proofs.Rebuilt.{empty_from, policy_from, refute_from}

-- ---- lines in form say nodes

fine_behind : (v : Verdict) (n : ℕ) → (Fine 1) then v ≡ Fine n → (m : ℕ) × (v ≡ Fine m)
fine_behind (Fine m) n e = (m, refl)
fine_behind (Broken r k) n e = absurd cc
fine_behind (Left l k) n e = absurd cc

module _ (P : Problem) where
  abbrev Says : List Due → List (List ℕ) → Type 0
  Says dues lines = (nodes : List Node) × AreSaid first_style P dues nodes lines

  fine_by : (s : Said Node) (d : Due) (dues : List Due) (line next : List ℕ) (lines : List (List ℕ)) (n : ℕ) → said_at first_style P d (words_of line) ≡ s
      → ((ds : List Due) (m : ℕ) → form_of first_style P ds (next ∷ lines) ≡ Fine m → Says ds (next ∷ lines))
      → (elim s as (λ _. Verdict) [ Ok node ↦ (Fine 1) then form_of first_style P (after first_style d node ++ dues) (next ∷ lines) | Err r ↦ Broken (rule_of r) 0 ]) ≡ Fine n
      → Says (d ∷ dues) (line ∷ next ∷ lines)
  fine_by (Ok node) d dues line next lines n is behind e =
      let ds = after first_style d node ++ dues in
      let rest = fine_behind (form_of first_style P ds (next ∷ lines)) n e in
      let more = behind ds rest.0 rest.1 in
      (node ∷ more.0, (is, more.1))
  fine_by (Err r) d dues line next lines n is behind e = absurd cc

  pub fine_said : (dues : List Due) (lines : List (List ℕ)) (n : ℕ) → form_of first_style P dues lines ≡ Fine n → Says dues lines
  fine_said [] [] n e = absurd cc
  fine_said (d ∷ dues) [] n e = absurd cc
  fine_said [] ([] ∷ []) n e = ([], refl)
  fine_said [] ((b ∷ bs) ∷ []) n e = absurd cc
  fine_said [] (line ∷ next ∷ lines) n e = absurd cc
  fine_said (d ∷ dues) (line ∷ []) n e = absurd cc
  fine_said (d ∷ dues) (line ∷ next ∷ lines) n e =
      fine_by (said_at first_style P d (words_of line)) d dues line next lines n refl (λ ds m h. fine_said ds (next ∷ lines) m h) e

  -- ---- nodes that fit are a certificate's

  pub record Behind (first : List Node) (ds : List Due) (ns : List Node) : Type 0 where
    pub rest : List Node
    pub all : ns ≡ first ++ rest
    pub fit : AreFit P ds rest

  fixed_first : (line : Line) (ds : List Due) (ns : List Node) → AreFit P (DueLine line ∷ ds) ns → Behind (Fixed line ∷ []) ds ns
  fixed_first line ds [] fit = absurd fit
  fixed_first line ds (node ∷ ns) (same, fit) = record {
    rest = ns;
    all = ap (λ n. n ∷ ns) (sym same);
    fit = subst (λ n. AreFit P (after first_style (DueLine line) n ++ ds) ns) (sym same) fit;
  }

  begin_first : (ds : List Due) (ns : List Node) → AreFit P (DueLine (version_line first_style) ∷ Played ∷ ds) ns → (legal : List ℤ) × Behind (Fixed (version_line first_style) ∷ Legal legal ∷ []) ds ns
  begin_first ds ns fit =
      let version = fixed_first (version_line first_style) (Played ∷ ds) ns fit in
      played version.rest version.fit version.all
    where
      played : (rest : List Node) → AreFit P (Played ∷ ds) rest → ns ≡ Fixed (version_line first_style) ∷ rest → (legal : List ℤ) × Behind (Fixed (version_line first_style) ∷ Legal legal ∷ []) ds ns
      played [] fit all = absurd fit
      played (node ∷ rest) ((legal, is, h), fit) all = (
        legal,
        record {
          rest = rest;
          all = all ∙ ap (λ n. Fixed (version_line first_style) ∷ n ∷ rest) (sym is);
          fit = subst (λ n. AreFit P (after first_style Played n ++ ds) rest) (sym is) fit;
        },
      )

  nothing_more : (rest : List Node) → AreFit P [] rest → rest ≡ []
  nothing_more [] fit = refl
  nothing_more (node ∷ rest) fit = absurd fit

  end_only : (ns : List Node) → AreFit P (DueLine end_line ∷ []) ns → ns ≡ Fixed end_line ∷ []
  end_only ns fit = let end = fixed_first end_line [] ns fit in end.all ∙ ap (λ rest. Fixed end_line ∷ rest) (nothing_more end.rest end.fit)

  refuted_from : (ns : List Node) → AreFit P refuted ns → (t : Refutation) × (ns ≡ (Fixed refute_line ∷ refute_nodes t) ++ Fixed end_line ∷ [])
  refuted_from ns fit =
      let first = fixed_first refute_line (Refute 0 ∷ DueLine end_line ∷ []) ns fit in
      let tree = refute_from P (length first.rest) 0 (DueLine end_line ∷ []) first.rest (omega arith) first.fit in
      (tree.tree, first.all ∙ ap (λ ms. Fixed refute_line ∷ ms) (tree.all ∙ ap (λ ms. refute_nodes tree.tree ++ ms) (end_only tree.rest tree.fit)))

  abbrev IsOf : List Node → Type 0
  IsOf ns = (c : Certificate) × (nodes_of first_style P c ≡ ns)

  infeasible_from : (ns : List Node) → AreFit P (DueLine (version_line first_style) ∷ Played ∷ refuted) ns → IsOf (Infeasible ∷ ns)
  infeasible_from ns fit =
      let begin = begin_first refuted ns fit in
      let last = refuted_from begin.1.rest begin.1.fit in
      (ending.Infeasible begin.0 last.0, sym (ap (λ ms. Infeasible ∷ ms) (begin.1.all ∙ ap (λ ms. Fixed (version_line first_style) ∷ Legal begin.0 ∷ ms) last.1)))

  optimal_from : (value : Fraction) (ns : List Node) → AreFit P (DueLine (version_line first_style) ∷ Played ∷ DueLine policy_line ∷ Policy 0 ∷ refuted) ns → IsOf (Optimal value ∷ ns)
  optimal_from value ns fit =
      let begin = begin_first (DueLine policy_line ∷ Policy 0 ∷ refuted) ns fit in
      let first = fixed_first policy_line (Policy 0 ∷ refuted) begin.1.rest begin.1.fit in
      let policy = policy_from P (length first.rest) 0 refuted first.rest (omega arith) first.fit in
      let last = refuted_from policy.rest policy.fit in
      let moves = policy_nodes policy.tree in
      let tail = Fixed refute_line ∷ refute_nodes last.0 in
      let all : first.rest ≡ (moves ++ tail) ++ Fixed end_line ∷ [] =
      policy.all ∙ ap (λ ms. moves ++ ms) last.1 ∙ sym (append_assoc moves tail (Fixed end_line ∷ [])) in
      let body : begin.1.rest ≡ Fixed policy_line ∷ ((moves ++ tail) ++ Fixed end_line ∷ []) = first.all ∙ ap (λ ms. Fixed policy_line ∷ ms) all in (
        ending.Optimal (claimed P.sense value) begin.0 policy.tree last.0,
        ap (λ a. Optimal a ∷ Fixed (version_line first_style) ∷ Legal begin.0 ∷ Fixed policy_line ∷ ((moves ++ tail) ++ Fixed end_line ∷ [])) (claimed_twice P.sense value)
            ∙ sym (ap (λ ms. Optimal value ∷ ms) (begin.1.all ∙ ap (λ ms. Fixed (version_line first_style) ∷ Legal begin.0 ∷ ms) body)),
      )

  no_play_from : (ns : List Node) → AreFit P (DueLine (version_line first_style) ∷ DueLine illegal_line ∷ Empty 0 ∷ DueLine end_line ∷ []) ns → IsOf (NoPlay ∷ ns)
  no_play_from ns fit =
      let version = fixed_first (version_line first_style) (DueLine illegal_line ∷ Empty 0 ∷ DueLine end_line ∷ []) ns fit in
      let illegal = fixed_first illegal_line (Empty 0 ∷ DueLine end_line ∷ []) version.rest version.fit in
      let tree = empty_from P (length illegal.rest) 0 (DueLine end_line ∷ []) illegal.rest (omega arith) illegal.fit in
      let last = tree.all ∙ ap (λ ms. empty_nodes tree.tree ++ ms) (end_only tree.rest tree.fit) in (
        ending.Empty tree.tree,
        sym (ap (λ ms. NoPlay ∷ ms) (version.all ∙ ap (λ ms. Fixed (version_line first_style) ∷ ms) (illegal.all ∙ ap (λ ms. Fixed illegal_line ∷ ms) last))),
      )

  abbrev Here : List Node → Node → Type 0
  Here ns node = AreFit P (after first_style Claimed node ++ []) ns → IsOf (node ∷ ns)

  pub certificate_from : (ns : List Node) → AreFit P (Claimed ∷ []) ns → (c : Certificate) × (nodes_of first_style P c ≡ ns)
  certificate_from [] fit = absurd fit
  certificate_from (node ∷ ns) (inl same, fit) = subst (Here ns) same (λ f. infeasible_from ns f) fit
  certificate_from (node ∷ ns) (inr (inl same), fit) = subst (Here ns) same (λ f. no_play_from ns f) fit
  certificate_from (node ∷ ns) (inr (inr (value, is, h)), fit) = subst (Here ns) is (λ f. optimal_from value ns f) fit

-- ---- the whole text

pub few_whole : (P : Problem) → IsSound P → length (whole_vars P) < 2 ^ 32
few_whole P sound = omega (arith, sound.few_vars, sound.wholes, length-take P.wholes P.vars)

form_said : (P : Problem) (text : List ℕ) → IsInForm P text → (nodes : List Node) × AreSaid first_style P (Claimed ∷ []) nodes (lines_of text)
unfolding certificate_form
form_said P text (n, e) = fine_said P (Claimed ∷ []) (lines_of text) n e

pub formed : (P : Problem) (text : List ℕ) → IsSound P → IsInForm P text → IsOfCertificate P text
formed P text sound form =
    let few = few_whole P sound in
    let said = form_said P text form in
    let built = certificate_from P said.0 (said_fit P few (Claimed ∷ []) said.0 (lines_of text) said.1) in
    let all = subst (λ ns. AreSaid first_style P (Claimed ∷ []) ns (lines_of text)) (sym built.1) said.1 in
    (built.0, whole_fits P few text built.0 all, whole_text P few text built.0 all)

-- what is said of a text that is read
pub read_text : {E : Type 0} (P : Problem) (text : List ℕ) (r : Result Certificate E) → IsSound P → IfOk r (λ c. AreSaid first_style P (Claimed ∷ []) (nodes_of first_style P c) (lines_of text)) → IfOk r (λ c. certificate_text P c ≡ text)
read_text {E} P text r sound h =
    IfOk-weaker r (λ c. AreSaid first_style P (Claimed ∷ []) (nodes_of first_style P c) (lines_of text)) (λ c. certificate_text P c ≡ text) (λ c s. whole_text P (few_whole P sound) text c s) h

pub read_fits : {E : Type 0} (P : Problem) (text : List ℕ) (r : Result Certificate E) → IsSound P → IfOk r (λ c. AreSaid first_style P (Claimed ∷ []) (nodes_of first_style P c) (lines_of text)) → IfOk r (λ c. Fits P c)
read_fits {E} P text r sound h =
    IfOk-weaker r (λ c. AreSaid first_style P (Claimed ∷ []) (nodes_of first_style P c) (lines_of text)) (λ c. Fits P c) (λ c s. whole_fits P (few_whole P sound) text c s) h

-- ---- the text of a certificate that fits

pub fit_is_said : (P : Problem) (text : List ℕ) (c : Certificate) → length (whole_vars P) < 2 ^ 32 → Fits P c → certificate_text P c ≡ text → AreSaid first_style P (Claimed ∷ []) (nodes_of first_style P c) (lines_of text)
fit_is_said P text c few fits is =
    subst (λ t. AreSaid first_style P (Claimed ∷ []) (nodes_of first_style P c) (lines_of t)) (sym (text_same P c) ∙ is) (fit_said P few (nodes_of first_style P c) fits)

said_in_form : (P : Problem) (text : List ℕ) (nodes : List Node) → AreSaid first_style P (Claimed ∷ []) nodes (lines_of text) → IsInForm P text
unfolding certificate_form
said_in_form P text nodes h = (length nodes, said_form P (Claimed ∷ []) nodes (lines_of text) h)

pub in_form : (P : Problem) (text : List ℕ) → IsSound P → IsOfCertificate P text → IsInForm P text
in_form P text sound (c, fits, is) = said_in_form P text (nodes_of first_style P c) (fit_is_said P text c (few_whole P sound) fits is)

pub form_law : (P : Problem) (text : List ℕ) → IsSound P → IsInForm P text ↔ IsOfCertificate P text
form_law P text sound = (formed P text sound, in_form P text sound)

-- ---- what is read back

no_fault : (v : Verdict) (r : Rule) (m n : ℕ) → v ≡ Fine m → (Fine 1) then v ≡ Broken r n → ⊥
no_fault v r m n fine broken = let bad : Fine (1 + m) ≡ Broken r n = sym (ap (λ w. (Fine 1) then w) fine) ∙ broken in cc

back_by : (P : Problem) (text : List ℕ) (d : Certificate) (r : Result Certificate CertFault) → IsSound P → Fits P d → certificate_text P d ≡ text → IsInForm P text
    → IsFirstFault (certificate_form first_style P text) r → IfOk r (λ c. certificate_text P c ≡ text) → IfOk r (λ c. Fits P c) → IsReadBack d r
back_by P text d (Ok c) sound fits is form first same fit = inl (ap Ok (one_fits P (few_whole P sound) c d fit fits (same ∙ sym is)))
back_by P text d (Err (fault.Text n)) sound fits is form first same fit = absurd (no_fault (certificate_form first_style P text) broken.Text form.0 n form.1 first)
back_by P text d (Err (fault.Number n)) sound fits is form first same fit = absurd (no_fault (certificate_form first_style P text) broken.Number form.0 n form.1 first)
back_by P text d (Err fault.Memory) sound fits is form first same fit = inr refl

pub read_back : (P : Problem) (text : List ℕ) (r : Result Certificate CertFault) → IsSound P → IsFirstFault (certificate_form first_style P text) r
    → IfOk r (λ c. AreSaid first_style P (Claimed ∷ []) (nodes_of first_style P c) (lines_of text))
    → (d : Certificate) → Fits P d → certificate_text P d ≡ text → IsReadBack d r
read_back P text r sound first said d fits is =
    back_by P text d r sound fits is (in_form P text sound (d, fits, is)) first (read_text P text r sound said) (read_fits P text r sound said)

-- where a line isn't in form
pub fault_back : (P : Problem) (text : List ℕ) (r : Result Certificate CertFault) (e : CertFault) → IsErrAnd r (λ y. y ≡ e) → IsSound P → IsFirstFault (certificate_form first_style P text) r
    → (d : Certificate) → Fits P d → certificate_text P d ≡ text → IsReadBack d r
fault_back P text r e out sound first =
    let err = err_from_is_err_and r out in
    read_back P text r sound first (subst (λ (s : Result Certificate CertFault). IfOk s (λ c. AreSaid first_style P (Claimed ∷ []) (nodes_of first_style P c) (lines_of text))) (sym err.1) tt)
