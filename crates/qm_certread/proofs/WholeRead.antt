-- A whole text that is read.
use Rattle.std.proofs.Common.{◌≡◌, ℕ, ◌<◌, true, false, List, [], ◌∷◌, ◌++◌, length, drop, Result, Ok, Err, refl, sym, ap, ◌∙◌, subst, arith}
use Rattle.std.specs.Prelude.{IfErr, IfOk, IsErrAnd, if◌then◌else◌}
use Rattle.std.specs.List.{onto_first}
use Rattle.std.proofs.lemmas.List.{drop_all, length-drop}
use Rattle.std.proofs.lemmas.List.Splits.{slice_split-cons_yes, slice_split-cons_no}
use Rattle.std.proofs.lemmas.Result.{IfErr-weaker, err_from_is_err_and}
use Rattle.memchr.specs.Find.{is_byte}
use Rattle.qm_model.specs.declared.game.Problem.{Problem}
use Rattle.qm_trees.specs.declared.rule.Rule.TheVariants as broken
use Rattle.qm_trees.specs.Verdicts.{Fine, Broken, ◌then◌}
use Rattle.qm_certfile.specs.declared.certificate.Certificate.{Certificate}
use Rattle.qm_certfile.specs.Styles.{first_style}
use Rattle.qm_certread.specs.declared.cursor.Cursor.{Cursor}
use Rattle.qm_certread.specs.declared.fault.CertFault.{CertFault}
use Rattle.qm_certread.specs.declared.fault.CertFault.TheVariants as fault
use Rattle.qm_certread.specs.declared.said.Claim.{Claim}
use Rattle.qm_certread.specs.declared.said.Claim.TheVariants as claim
use Rattle.qm_certread.specs.Pieces.{lines_of}
use Rattle.qm_certread.specs.Nodes.{Node, Fixed}
use Rattle.qm_certread.specs.Dues.{Due, Claimed, Said as DueLine, after, end_line}
use Rattle.qm_certread.specs.Forms.{certificate_form, claim_said, form_of, is_nothing}
use Rattle.qm_certread.specs.NodesOf.{body_nodes, claim_of, nodes_of}
use Rattle.qm_certread.specs.Reading.{AreSaid, IsFirstFault}
use Rattle.qm_certread.specs.ReadSteps.{Fails, IsFault, IsLast, Meets, Moves, NextFails, NextSays, body_dues, fixed_said, form_at, lines_at}
use Rattle.qm_certread.specs.SaidSteps.{claim_node}
use Rattle.qm_certread.proofs.WordCuts.{some_piece}
use Rattle.qm_certread.proofs.Moved.{fails_behind, moves_then, step_of}
use Rattle.qm_certread.proofs.TreesRead.{below_fails, node_fails}

-- ---- what is said is in form

pub said_form : (P : Problem) (dues : List Due) (nodes : List Node) (lines : List (List ℕ)) → AreSaid first_style P dues nodes lines → form_of first_style P dues lines ≡ Fine (length nodes)
said_form P dues nodes [] h = absurd h
said_form P [] [] (rest ∷ []) h = ap (λ r. if is_nothing r then Fine 0 else Broken broken.Text 0) h
said_form P [] [] (line ∷ next ∷ lines) h = absurd h
said_form P [] (node ∷ nodes) (line ∷ lines) h = absurd h
said_form P (d ∷ dues) [] (line ∷ lines) h = absurd h
said_form P (d ∷ dues) (node ∷ nodes) (line ∷ []) h = absurd h
said_form P (d ∷ dues) (node ∷ nodes) (line ∷ next ∷ lines) (says, rest) =
    step_of P d dues line next lines node says ∙ ap (λ v. (Fine 1) then v) (said_form P (after first_style d node ++ dues) nodes (next ∷ lines) rest)
    ∙ ap Fine (omega arith)

-- ---- where nothing is due and the text goes on

two_pieces : (P : Problem) (line : List ℕ) (more : List (List ℕ)) (next : List ℕ) (lines : List (List ℕ)) → more ≡ next ∷ lines → form_of first_style P [] (line ∷ more) ≡ Broken broken.Text 0
two_pieces P line more next lines is = ap (λ ls. form_of first_style P [] (line ∷ ls)) is

rest_by : (P : Problem) (byte : ℕ) (rest : List ℕ) (x : List ℕ) (xs : List (List ℕ)) → form_of first_style P [] ((byte ∷ x) ∷ xs) ≡ Broken broken.Text 0
rest_by P byte rest x [] = refl
rest_by P byte rest x (y ∷ ys) = refl

rest_broken : (P : Problem) (rest : List ℕ) → 0 < length rest → form_of first_style P [] (lines_of rest) ≡ Broken broken.Text 0
rest_broken P [] h = absurd (omega arith)
rest_broken P (byte ∷ rest) h =
    let more = some_piece (is_byte 10) rest in
    elim (is_byte 10 byte) as (λ t. is_byte 10 byte ≡ t → form_of first_style P [] (lines_of (byte ∷ rest)) ≡ Broken broken.Text 0) [
      | true ↦ λ e. ap (form_of first_style P []) (slice_split-cons_yes (is_byte 10) byte rest e) ∙ two_pieces P [] (lines_of rest) more.0 more.1 more.2
      | false ↦ λ e. ap (form_of first_style P []) (slice_split-cons_no (is_byte 10) byte rest e ∙ ap (onto_first byte) more.2) ∙ rest_by P byte rest more.0 more.1
    ] refl

abbrev start : Cursor
start = record { at = 0; line = 1 }

module _ (P : Problem) (text : List ℕ) where
  goes_on : (end : Cursor) → end.at < length text → form_at P text [] end ≡ Broken broken.Text end.line
  goes_on end h =
      let len = length-drop end.at text in
      ap (λ v. (Fine end.line) then v) (rest_broken P (drop end.at text) (omega arith)) ∙ ap (Broken broken.Text) (omega arith)

  -- ---- what is read up to the end

  moves_said : (dues : List Due) (nodes : List Node) (old new : Cursor) → Moves P text dues nodes [] old new → new.at ≡ length text → AreSaid first_style P dues nodes (lines_at text old)
  moves_said dues [] old new (same, here) end =
      let at : old.at ≡ length text = ap (λ (c : Cursor). c.at) here ∙ end in
      let last : lines_at text old ≡ [] ∷ [] = ap lines_of (drop_all old.at text (omega (arith, at))) in
      subst (λ ls. AreSaid first_style P dues [] ls) (sym last) (subst (λ ds. AreSaid first_style P ds [] ([] ∷ [])) (sym same) refl)
  moves_said [] (n ∷ ns) old new moves end = absurd moves
  moves_said (d ∷ dues) (n ∷ ns) old new (mid, says, rest) end =
      let more = some_piece (is_byte 10) (drop mid.at text) in
      let there : lines_at text old ≡ says.line ∷ more.0 ∷ more.1 = says.next.lines ∙ ap (λ ls. says.line ∷ ls) more.2 in
      subst (λ ls. AreSaid first_style P (d ∷ dues) (n ∷ ns) ls) (sym there)
      (says.says, subst (λ ls. AreSaid first_style P (after first_style d n ++ dues) ns ls) more.2 (moves_said (after first_style d n ++ dues) ns mid new rest end))

  claim_dues : (said : Claim) → after first_style Claimed (claim_node said) ++ [] ≡ body_dues said ++ DueLine end_line ∷ []
  claim_dues (claim.Optimal value) = refl
  claim_dues claim.Infeasible = refl
  claim_dues claim.NoPlay = refl

  abbrev Begins : Claim → Cursor → Type 0
  Begins said mid = NextSays text claim_said start mid (claim_node said)

  body_moves : (said : Claim) (nodes : List Node) (mid body : Cursor) → Begins said mid → Meets P text (body_dues said) nodes mid body
      → Moves P text (Claimed ∷ []) (claim_node said ∷ nodes) (DueLine end_line ∷ []) start body
  body_moves said nodes mid body says meets =
      (mid, says, subst (λ ds. Moves P text ds nodes (DueLine end_line ∷ []) mid body) (sym (claim_dues said)) (meets (DueLine end_line ∷ [])))

  whole_moves : (said : Claim) (nodes : List Node) (mid body end : Cursor) → Begins said mid → Meets P text (body_dues said) nodes mid body → NextSays text (fixed_said end_line) body end (Fixed end_line)
      → Moves P text (Claimed ∷ []) (claim_node said ∷ nodes ++ Fixed end_line ∷ []) [] start end
  whole_moves said nodes mid body end says meets last =
      moves_then P text (Claimed ∷ []) (DueLine end_line ∷ []) [] (claim_node said ∷ nodes) (Fixed end_line ∷ []) start body end (body_moves said nodes mid body says meets) (end, last, (refl, refl))

  abbrev WholeSaid : Certificate → Type 0
  WholeSaid certificate = AreSaid first_style P (Claimed ∷ []) (nodes_of first_style P certificate) (lines_of text)

  whole_said : (said : Claim) (certificate : Certificate) (mid body : Cursor) → Begins said mid → claim_of P certificate ≡ claim_node said
      → Meets P text (body_dues said) (body_nodes first_style certificate) mid body → IsLast text body → WholeSaid certificate
  whole_said said certificate mid body says same meets (end, last, at) =
      subst (λ n. AreSaid first_style P (Claimed ∷ []) (n ∷ body_nodes first_style certificate ++ Fixed end_line ∷ []) (lines_of text)) (sym same)
      (moves_said (Claimed ∷ []) (claim_node said ∷ body_nodes first_style certificate ++ Fixed end_line ∷ []) start end (whole_moves said (body_nodes first_style certificate) mid body end says meets last) at)

  said_whole : (certificate : Certificate) → WholeSaid certificate → IsFirstFault (certificate_form first_style P text) (Ok certificate)
  unfolding certificate_form
  said_whole certificate h = (length (nodes_of first_style P certificate), said_form P (Claimed ∷ []) (nodes_of first_style P certificate) (lines_of text) h)

  -- ---- what fails

  first_fault : (e : CertFault) → IsFault P text (Claimed ∷ []) start e → IsFirstFault (certificate_form first_style P text) (Err e)
  unfolding certificate_form
  first_fault (fault.Text n) h = h
  first_fault (fault.Number n) h = h
  first_fault fault.Memory h = tt

  -- what the exit of a `?` returns
  first_out : (r : Result Certificate CertFault) (e : CertFault) → IsErrAnd r (λ y. y ≡ e) → IsFault P text (Claimed ∷ []) start e → IsFirstFault (certificate_form first_style P text) r
  first_out r e h fault =
      let p = err_from_is_err_and r h in
      subst (IsFirstFault (certificate_form first_style P text)) (sym p.1) (first_fault p.0 (subst (IsFault P text (Claimed ∷ []) start) (sym p.2) fault))

  pub claim_fails : (r : Result Certificate CertFault) (e : CertFault) → IsErrAnd r (λ y. y ≡ e) → NextFails text claim_said start e → IsFirstFault (certificate_form first_style P text) r
  claim_fails r e out h = first_out r e out (node_fails P text claim_said Claimed start e (λ words. refl) h [])

  more_fails : (said : Claim) (mid : Cursor) (e : CertFault) → Fails P text (body_dues said) mid e → Fails P text (after first_style Claimed (claim_node said)) mid e
  more_fails (claim.Optimal value) mid e h = λ behind. h (DueLine end_line ∷ behind)
  more_fails claim.Infeasible mid e h = λ behind. h (DueLine end_line ∷ behind)
  more_fails claim.NoPlay mid e h = λ behind. h (DueLine end_line ∷ behind)

  pub body_fails : (said : Claim) (mid : Cursor) (r : Result Certificate CertFault) (e : CertFault) → IsErrAnd r (λ y. y ≡ e) → Begins said mid → Fails P text (body_dues said) mid e
      → IsFirstFault (certificate_form first_style P text) r
  body_fails said mid r e out says h =
      first_out r e out (below_fails P text Claimed (claim_node said) (after first_style Claimed (claim_node said)) start mid e says refl (more_fails said mid e h) [])

  -- ---- the end

  -- what is answered behind the body
  pub end_result : (said : Claim) (certificate : Certificate) (mid body : Cursor) (r : Result Certificate CertFault) → Begins said mid → claim_of P certificate ≡ claim_node said
      → Meets P text (body_dues said) (body_nodes first_style certificate) mid body
      → IfOk r (λ whole. (whole ≡ certificate) × IsLast text body) → IfErr r (λ e. (P : Problem) → IsFault P text (DueLine end_line ∷ []) body e)
      → IsFirstFault (certificate_form first_style P text) r × IfOk r WholeSaid
  end_result said certificate mid body (Ok whole) says same meets (is, last) fails =
      let all = subst WholeSaid (sym is) (whole_said said certificate mid body says same meets last) in
      (said_whole whole all, all)
  end_result said certificate mid body (Err e) says same meets ok fails =
      let nodes = body_nodes first_style certificate in
      (first_fault e (fails_behind P text (Claimed ∷ []) (DueLine end_line ∷ []) (claim_node said ∷ nodes) start body e (body_moves said nodes mid body says meets) (fails P)), tt)

-- a last line that isn't there
pub last_fails : (text : List ℕ) (old : Cursor) (e : CertFault) → NextFails text (fixed_said end_line) old e → (P : Problem) → IsFault P text (DueLine end_line ∷ []) old e
last_fails text old e h = λ P. node_fails P text (fixed_said end_line) (DueLine end_line) old e (λ words. refl) h []

more_text : (P : Problem) (text : List ℕ) (end : Cursor) (e : CertFault) → e ≡ fault.Text end.line → end.at < length text → IsFault P text [] end e
more_text P text end e is h = subst (IsFault P text [] end) (sym is) (goes_on P text end h)

-- and more text behind it
pub text_fails : (text : List ℕ) (old end : Cursor) (r : Result (Unit {0}) CertFault) → NextSays text (fixed_said end_line) old end (Fixed end_line)
    → IfErr r (λ e. (e ≡ fault.Text end.line) × (end.at < length text)) → IfErr r (λ e. (P : Problem) → IsFault P text (DueLine end_line ∷ []) old e)
text_fails text old end r says h =
    IfErr-weaker r (λ e. (e ≡ fault.Text end.line) × (end.at < length text)) (λ e. (P : Problem) → IsFault P text (DueLine end_line ∷ []) old e)
    (λ e f P. fails_behind P text (DueLine end_line ∷ []) [] (Fixed end_line ∷ []) old end e (end, says, (refl, refl)) (more_text P text end e f.0 f.1)) h
