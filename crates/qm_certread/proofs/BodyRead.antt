-- What is read between the first line and the last.
use Rattle.std.proofs.Common.{◌≡◌, ℕ, List, [], ◌∷◌, ◌++◌, ℤ, Result, refl, subst}
use Rattle.std.specs.Prelude.{IfErr, codes}
use Rattle.std.proofs.Math.IntN.{neg_ℤ-neg_ℤ}
use Rattle.std.proofs.lemmas.Result.{IfErr-weaker}
use Rattle.qm_math.specs.Fraction.{Fraction}
use Rattle.qm_math.specs.Arithmetic.{negated}
use Rattle.qm_model.specs.declared.game.Sense.{Sense}
use Rattle.qm_model.specs.declared.game.Sense.TheVariants.{Max, Min}
use Rattle.qm_model.specs.declared.game.Problem.{Problem}
use Rattle.qm_model.specs.Plays.{whole_vars}
use Rattle.qm_trees.specs.declared.empty.Empty.{Empty as EmptyTree}
use Rattle.qm_trees.specs.declared.policy.Policy.{Policy as Moving}
use Rattle.qm_trees.specs.declared.refutation.Refute.{Refute as Refutation}
use Rattle.qm_trees.specs.Picks.{universal_count}
use Rattle.qm_certfile.specs.Lines.{Line}
use Rattle.qm_certfile.specs.Styles.{first_style}
use Rattle.qm_certfile.specs.CertificateLines.{claimed, version_line}
use Rattle.qm_certfile.specs.declared.certificate.Certificate.TheVariants as ending
use Rattle.qm_certread.specs.declared.cursor.Cursor.{Cursor}
use Rattle.qm_certread.specs.declared.fault.CertFault.{CertFault}
use Rattle.qm_certread.specs.declared.said.Claim.TheVariants as claim
use Rattle.qm_certread.specs.Spelling.{each_of, value_word}
use Rattle.qm_certread.specs.Nodes.{Node, Fixed, Legal}
use Rattle.qm_certread.specs.Dues.{Due, Played, Said as DueLine, Policy, Empty, Refute, illegal_line, policy_line, refute_line}
use Rattle.qm_certread.specs.Forms.{said_behind}
use Rattle.qm_certread.specs.NodesOf.{body_nodes, empty_nodes, policy_nodes, refute_nodes}
use Rattle.qm_certread.specs.ReadSteps.{Fails, Meets, NextFails, NextSays, body_dues, fixed_said}
use Rattle.qm_certread.proofs.TreesRead.{fails_first, fails_then, line_fails, meets_then, node_fails}

-- a value that is turned twice
negated_twice : (a : Fraction) → negated (negated a) ≡ a
unfolding negated
negated_twice a = let num = neg_ℤ-neg_ℤ a.num in λ i. record { num = num i; den = a.den }

pub claimed_twice : (sense : Sense) (a : Fraction) → claimed sense (claimed sense a) ≡ a
claimed_twice Max a = refl
claimed_twice Min a = negated_twice a

abbrev pub begin_dues : List Due
begin_dues = DueLine (version_line first_style) ∷ Played ∷ []

abbrev pub begin_nodes : List ℤ → List Node
begin_nodes legal = Fixed (version_line first_style) ∷ Legal legal ∷ []

abbrev pub moves_dues : List Due
moves_dues = DueLine policy_line ∷ Policy 0 ∷ []

abbrev pub refute_dues : List Due
refute_dues = DueLine refute_line ∷ Refute 0 ∷ []

module _ (P : Problem) (text : List ℕ) where
  -- ---- lines of one kind

  pub fixed_meets : (line : Line) (old mid : Cursor) → NextSays text (fixed_said line) old mid (Fixed line) → Meets P text (DueLine line ∷ []) (Fixed line ∷ []) old mid
  fixed_meets line old mid says = λ behind. (mid, says, (refl, refl))

  pub fixed_fails : (line : Line) (old : Cursor) (e : CertFault) → NextFails text (fixed_said line) old e → Fails P text (DueLine line ∷ []) old e
  fixed_fails line old e h = node_fails P text (fixed_said line) (DueLine line) old e (λ words. refl) h

  played_fails : (count : ℕ) (old : Cursor) (e : CertFault) → count ≡ universal_count (whole_vars P) → NextFails text (said_behind (codes "legal" ∷ []) (each_of value_word count)) old e
      → Fails P text (Played ∷ []) old e
  played_fails count old e is h =
      line_fails P text (said_behind (codes "legal" ∷ []) (each_of value_word (universal_count (whole_vars P)))) Legal Played old e (λ words. refl)
      (subst (λ n. NextFails text (said_behind (codes "legal" ∷ []) (each_of value_word n)) old e) is h)

  pub begin_fails : {T : Type 0} (r : Result T CertFault) (count : ℕ) (old mid : Cursor) → count ≡ universal_count (whole_vars P)
      → NextSays text (fixed_said (version_line first_style)) old mid (Fixed (version_line first_style))
      → IfErr r (λ e. NextFails text (said_behind (codes "legal" ∷ []) (each_of value_word count)) mid e) → IfErr r (λ e. Fails P text begin_dues old e)
  begin_fails {T} r count old mid is says h =
      IfErr-weaker r (λ e. NextFails text (said_behind (codes "legal" ∷ []) (each_of value_word count)) mid e) (λ e. Fails P text begin_dues old e)
      (λ e f. fails_then P text (DueLine (version_line first_style) ∷ []) (Played ∷ []) (Fixed (version_line first_style) ∷ []) old mid e
      (fixed_meets (version_line first_style) old mid says) (played_fails count mid e is f)) h

  -- a tree behind a line
  pub tree_fails : {T : Type 0} (r : Result T CertFault) (line : Line) (d : Due) (old mid : Cursor) → NextSays text (fixed_said line) old mid (Fixed line)
      → IfErr r (λ e. Fails P text (d ∷ []) mid e) → IfErr r (λ e. Fails P text (DueLine line ∷ d ∷ []) old e)
  tree_fails {T} r line d old mid says h =
      IfErr-weaker r (λ e. Fails P text (d ∷ []) mid e) (λ e. Fails P text (DueLine line ∷ d ∷ []) old e)
      (λ e f. fails_then P text (DueLine line ∷ []) (d ∷ []) (Fixed line ∷ []) old mid e (fixed_meets line old mid says) f) h

  -- ---- all of it

  abbrev Begun : List ℤ → Cursor → Cursor → Type 0
  Begun legal old new = Meets P text begin_dues (begin_nodes legal) old new

  abbrev Moved : Moving → Cursor → Cursor → Type 0
  Moved policy old new = Meets P text moves_dues (Fixed policy_line ∷ policy_nodes policy) old new

  abbrev Refuted : Refutation → Cursor → Cursor → Type 0
  Refuted refute old new = Meets P text refute_dues (Fixed refute_line ∷ refute_nodes refute) old new

  pub optimal_meets : (said value : Fraction) (legal : List ℤ) (policy : Moving) (refute : Refutation) (old begun moved new : Cursor) → Begun legal old begun → Moved policy begun moved → Refuted refute moved new
      → Meets P text (body_dues (claim.Optimal said)) (body_nodes first_style (ending.Optimal value legal policy refute)) old new
  optimal_meets said value legal policy refute old begun moved new begin moves last =
      meets_then P text begin_dues (moves_dues ++ refute_dues) (begin_nodes legal) ((Fixed policy_line ∷ policy_nodes policy) ++ Fixed refute_line ∷ refute_nodes refute) old begun new begin
      (meets_then P text moves_dues refute_dues (Fixed policy_line ∷ policy_nodes policy) (Fixed refute_line ∷ refute_nodes refute) begun moved new moves last)

  pub moves_fail : (said : Fraction) (legal : List ℤ) (old begun : Cursor) (e : CertFault) → Begun legal old begun → Fails P text moves_dues begun e → Fails P text (body_dues (claim.Optimal said)) old e
  moves_fail said legal old begun e begin h =
      fails_then P text begin_dues (moves_dues ++ refute_dues) (begin_nodes legal) old begun e begin (fails_first P text moves_dues refute_dues begun e h)

  pub optimal_refute_fails : (said : Fraction) (legal : List ℤ) (policy : Moving) (old begun moved : Cursor) (e : CertFault) → Begun legal old begun → Moved policy begun moved → Fails P text refute_dues moved e
      → Fails P text (body_dues (claim.Optimal said)) old e
  optimal_refute_fails said legal policy old begun moved e begin moves h =
      fails_then P text begin_dues (moves_dues ++ refute_dues) (begin_nodes legal) old begun e begin
      (fails_then P text moves_dues refute_dues (Fixed policy_line ∷ policy_nodes policy) begun moved e moves h)

  pub infeasible_meets : (legal : List ℤ) (refute : Refutation) (old begun new : Cursor) → Begun legal old begun → Refuted refute begun new
      → Meets P text (body_dues claim.Infeasible) (body_nodes first_style (ending.Infeasible legal refute)) old new
  infeasible_meets legal refute old begun new begin last =
      meets_then P text begin_dues refute_dues (begin_nodes legal) (Fixed refute_line ∷ refute_nodes refute) old begun new begin last

  pub infeasible_refute_fails : (legal : List ℤ) (old begun : Cursor) (e : CertFault) → Begun legal old begun → Fails P text refute_dues begun e → Fails P text (body_dues claim.Infeasible) old e
  infeasible_refute_fails legal old begun e begin h = fails_then P text begin_dues refute_dues (begin_nodes legal) old begun e begin h

  abbrev Named : Line → Cursor → Cursor → Type 0
  Named line old new = NextSays text (fixed_said line) old new (Fixed line)

  pub no_play_meets : (tree : EmptyTree) (old version illegal new : Cursor) → Named (version_line first_style) old version → Named illegal_line version illegal
      → Meets P text (Empty 0 ∷ []) (empty_nodes tree) illegal new → Meets P text (body_dues claim.NoPlay) (body_nodes first_style (ending.Empty tree)) old new
  no_play_meets tree old version illegal new first second last =
      meets_then P text (DueLine (version_line first_style) ∷ []) (DueLine illegal_line ∷ Empty 0 ∷ []) (Fixed (version_line first_style) ∷ []) (Fixed illegal_line ∷ empty_nodes tree) old version new
      (fixed_meets (version_line first_style) old version first)
      (meets_then P text (DueLine illegal_line ∷ []) (Empty 0 ∷ []) (Fixed illegal_line ∷ []) (empty_nodes tree) version illegal new (fixed_meets illegal_line version illegal second) last)

  pub version_fails : (old : Cursor) (e : CertFault) → NextFails text (fixed_said (version_line first_style)) old e → Fails P text (body_dues claim.NoPlay) old e
  version_fails old e h =
      fails_first P text (DueLine (version_line first_style) ∷ []) (DueLine illegal_line ∷ Empty 0 ∷ []) old e (fixed_fails (version_line first_style) old e h)

  pub illegal_fails : (old version : Cursor) (e : CertFault) → Named (version_line first_style) old version → NextFails text (fixed_said illegal_line) version e → Fails P text (body_dues claim.NoPlay) old e
  illegal_fails old version e first h =
      fails_then P text (DueLine (version_line first_style) ∷ []) (DueLine illegal_line ∷ Empty 0 ∷ []) (Fixed (version_line first_style) ∷ []) old version e
      (fixed_meets (version_line first_style) old version first)
      (fails_first P text (DueLine illegal_line ∷ []) (Empty 0 ∷ []) version e (fixed_fails illegal_line version e h))

  pub no_play_fails : (old version illegal : Cursor) (e : CertFault) → Named (version_line first_style) old version → Named illegal_line version illegal
      → Fails P text (Empty 0 ∷ []) illegal e → Fails P text (body_dues claim.NoPlay) old e
  no_play_fails old version illegal e first second h =
      fails_then P text (DueLine (version_line first_style) ∷ []) (DueLine illegal_line ∷ Empty 0 ∷ []) (Fixed (version_line first_style) ∷ []) old version e
      (fixed_meets (version_line first_style) old version first)
      (fails_then P text (DueLine illegal_line ∷ []) (Empty 0 ∷ []) (Fixed illegal_line ∷ []) version illegal e (fixed_meets illegal_line version illegal second) h)
