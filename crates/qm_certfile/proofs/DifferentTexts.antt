-- The text of a certificate tells the certificate.
use Rattle.std.proofs.Common.{◌≡◌, ℕ, ◌<◌, ℤ, List, [], ◌∷◌, ◌++◌, append_assoc, map, refl, sym, ap, ◌∙◌, arith}
use Rattle.std.specs.Prelude.{◌^◌, codes, neg_ℤ, unsigned_abs}
use Rattle.std.specs.Fmt.{signed_decimal}
use Rattle.std.proofs.Math.IntN.{neg_ℤ-neg_ℤ}
use Rattle.qm_math.specs.Fraction.{Fraction}
use Rattle.qm_math.specs.Arithmetic.{negated}
use Rattle.qm_frac.proofs.SignLaws.{unsigned_abs-neg}
use Rattle.qm_model.specs.declared.game.Sense.{Sense}
use Rattle.qm_model.specs.declared.game.Sense.TheVariants.{Max, Min}
use Rattle.qm_model.specs.declared.game.Problem.{Problem}
use Rattle.qm_trees.specs.declared.empty.Empty.{Empty as Tree}
use Rattle.qm_trees.specs.declared.policy.Policy.{Policy}
use Rattle.qm_trees.specs.declared.refutation.Refute.{Refute}
use Rattle.qm_certfile.specs.declared.certificate.Certificate.{Certificate}
use Rattle.qm_certfile.specs.declared.certificate.Certificate.TheVariants.{Optimal, Infeasible, Empty}
use Rattle.qm_text.specs.Numbers.{number_word}
use Rattle.qm_certfile.specs.Lines.{line_text, text_of}
use Rattle.qm_certfile.specs.Numbers.{greatest, greatest_of_fraction, greatest_in_empty, greatest_in_refute, greatest_number}
use Rattle.qm_certfile.specs.Styles.{first_style}
use Rattle.qm_certfile.specs.TreeLines.{illegal_lines, policy_lines, refute_lines}
use Rattle.qm_certfile.specs.CertificateLines.{alone, certificate_text, claimed, legal_line, version_line}
use Rattle.qm_certfile.proofs.LineTexts.{text_of_append}
use Rattle.qm_certfile.proofs.CertificateTexts.{text_is, last_lines, no_play_lines}
use Rattle.qm_certfile.proofs.NumberWords.{apart, number_same, visible_number, visible_word}
use Rattle.qm_certfile.proofs.LineSplits.{AreWords, line_split, same_words, visible_words, word_same, words_behind}
use Rattle.qm_certfile.proofs.RowWords.{wholes_spell}
use Rattle.qm_certfile.proofs.EmptyTold.{illegal_told}
use Rattle.qm_certfile.proofs.PolicyTold.{policy_told}
use Rattle.qm_certfile.proofs.RefuteTold.{refute_told}

-- ---- the value

negated_num : (a : Fraction) → (negated a).num ≡ neg_ℤ a.num
unfolding negated
negated_num a = refl

negated_den : (a : Fraction) → (negated a).den ≡ a.den
unfolding negated
negated_den a = refl

claimed_size : (sense : Sense) (a : Fraction) → greatest_of_fraction a < 10 ^ 64 → greatest_of_fraction (claimed sense a) < 10 ^ 64
claimed_size Max a h = h
claimed_size Min a h = omega (arith, h, ap unsigned_abs (negated_num a), unsigned_abs-neg a.num, negated_den a)

claimed_same : (sense : Sense) (a b : Fraction) → claimed sense a ≡ claimed sense b → a ≡ b
claimed_same Max a b e = e
claimed_same Min a b e =
    let turned : neg_ℤ a.num ≡ neg_ℤ b.num = sym (negated_num a) ∙ ap (λ (c : Fraction). c.num) e ∙ negated_num b in
    let num = sym (neg_ℤ-neg_ℤ a.num) ∙ ap neg_ℤ turned ∙ neg_ℤ-neg_ℤ b.num in
    let den = sym (negated_den a) ∙ ap (λ (c : Fraction). c.den) e ∙ negated_den b in
    λ i. record { num = num i; den = den i }

-- ---- the lines of every certificate

-- what follows the line of the universal play
legal_told : (xs ys : List ℤ) (a b : List ℕ) → greatest (map unsigned_abs xs) < 10 ^ 64 → greatest (map unsigned_abs ys) < 10 ^ 64
    → line_text (version_line first_style) ++ (line_text (legal_line first_style xs) ++ a) ≡ line_text (version_line first_style) ++ (line_text (legal_line first_style ys) ++ b)
    → (xs ≡ ys) × (a ≡ b)
legal_told xs ys a b h k e =
    let version : AreWords (version_line first_style) = (visible_word (codes "certificate") tt, (visible_word (codes "1") tt, tt)) in
    let first = line_split (codes "certificate") (codes "certificate") (codes "1" ∷ []) (codes "1" ∷ []) (line_text (legal_line first_style xs) ++ a) (line_text (legal_line first_style ys) ++ b) version version e in
    let second = line_split (codes "legal") (codes "legal") (map signed_decimal xs) (map signed_decimal ys) a b
    (visible_word (codes "legal") tt, visible_words signed_decimal unsigned_abs wholes_spell xs h) (visible_word (codes "legal") tt, visible_words signed_decimal unsigned_abs wholes_spell ys k) first.1 in
    (same_words signed_decimal unsigned_abs wholes_spell xs ys h k (words_behind 1 second.0), second.1)

-- the refutation, and the last line
last_told : (s t : Refute) → greatest_in_refute s < 10 ^ 64 → greatest_in_refute t < 10 ^ 64 → text_of (last_lines s) ≡ text_of (last_lines t) → s ≡ t
last_told s t h k e =
    let end = alone (codes "end") ∷ [] in
    let word : AreWords (codes "refute" ∷ []) = (visible_word (codes "refute") tt, tt) in
    let first = line_split (codes "refute") (codes "refute") [] [] (text_of (refute_lines first_style s 0 ++ end)) (text_of (refute_lines first_style t 0 ++ end)) word word e in
    (refute_told s 0 t (text_of end) (text_of end) h k (sym (text_of_append (refute_lines first_style s 0) end) ∙ first.1 ∙ text_of_append (refute_lines first_style t 0) end)).0

-- ---- certificates

optimal_is : (P : Problem) (value : Fraction) (legal : List ℤ) (policy : Policy) (refute : Refute)
    → certificate_text P (Optimal value legal policy refute)
    ≡ line_text (codes "optimal" ∷ number_word (claimed P.sense value) ∷ []) ++ (line_text (version_line first_style) ++ (line_text (legal_line first_style legal)
    ++ (line_text (alone (codes "policy")) ++ (text_of (policy_lines first_style policy 0) ++ text_of (last_lines refute)))))
optimal_is P value legal policy refute =
    let lines = policy_lines first_style policy 0 in
    text_is P (Optimal value legal policy refute)
    ∙ ap (λ ls. line_text (codes "optimal" ∷ number_word (claimed P.sense value) ∷ []) ++ (line_text (version_line first_style) ++ (line_text (legal_line first_style legal)
    ++ (line_text (alone (codes "policy")) ++ text_of ls))))
    (append_assoc lines (alone (codes "refute") ∷ refute_lines first_style refute 0) (alone (codes "end") ∷ []))
    ∙ ap (λ t. line_text (codes "optimal" ∷ number_word (claimed P.sense value) ∷ []) ++ (line_text (version_line first_style) ++ (line_text (legal_line first_style legal)
    ++ (line_text (alone (codes "policy")) ++ t))))
    (text_of_append lines (last_lines refute))

infeasible_is : (P : Problem) (legal : List ℤ) (refute : Refute)
    → certificate_text P (Infeasible legal refute)
    ≡ line_text (alone (codes "infeasible")) ++ (line_text (version_line first_style) ++ (line_text (legal_line first_style legal) ++ text_of (last_lines refute)))
infeasible_is P legal refute = text_is P (Infeasible legal refute)

-- the certificate that there is no universal play
empty_is : (P : Problem) (tree : Tree) → certificate_text P (Empty tree) ≡ text_of (no_play_lines tree)
empty_is P tree = text_is P (Empty tree)

empty_told : (s t : Tree) → greatest_in_empty s < 10 ^ 64 → greatest_in_empty t < 10 ^ 64 → text_of (no_play_lines s) ≡ text_of (no_play_lines t) → s ≡ t
empty_told s t h k e =
    let end = alone (codes "end") ∷ [] in
    let word : AreWords (codes "empty" ∷ []) = (visible_word (codes "empty") tt, tt) in
    let version : AreWords (version_line first_style) = (visible_word (codes "certificate") tt, (visible_word (codes "1") tt, tt)) in
    let a = text_of (illegal_lines first_style s 0 ++ end) in
    let b = text_of (illegal_lines first_style t 0 ++ end) in
    let first = line_split (codes "empty") (codes "empty") [] [] (line_text (version_line first_style) ++ a) (line_text (version_line first_style) ++ b) word word e in
    let second = line_split (codes "certificate") (codes "certificate") (codes "1" ∷ []) (codes "1" ∷ []) a b version version first.1 in
    (illegal_told s 0 t (text_of end) (text_of end) h k (sym (text_of_append (illegal_lines first_style s 0) end) ∙ second.1 ∙ text_of_append (illegal_lines first_style t 0) end)).0

optimal_words : (P : Problem) (value : Fraction) → greatest_of_fraction value < 10 ^ 64 → AreWords (codes "optimal" ∷ number_word (claimed P.sense value) ∷ [])
optimal_words P value h = (visible_word (codes "optimal") tt, (visible_number (claimed P.sense value) (claimed_size P.sense value h), tt))

pub certificate_told : (P : Problem) (c d : Certificate) → greatest_number c < 10 ^ 64 → greatest_number d < 10 ^ 64 → certificate_text P c ≡ certificate_text P d → c ≡ d
certificate_told P (Optimal v xs p s) (Optimal w ys q t) h k e =
    let a = text_of (policy_lines first_style p 0) ++ text_of (last_lines s) in
    let b = text_of (policy_lines first_style q 0) ++ text_of (last_lines t) in
    let policy = line_text (alone (codes "policy")) in
    let version = line_text (version_line first_style) in
    let claim = line_split (codes "optimal") (codes "optimal") (number_word (claimed P.sense v) ∷ []) (number_word (claimed P.sense w) ∷ [])
    (version ++ (line_text (legal_line first_style xs) ++ (policy ++ a))) (version ++ (line_text (legal_line first_style ys) ++ (policy ++ b)))
    (optimal_words P v (omega arith)) (optimal_words P w (omega arith)) (sym (optimal_is P v xs p s) ∙ e ∙ optimal_is P w ys q t) in
    let value = claimed_same P.sense v w (number_same (claimed P.sense v) (claimed P.sense w) (claimed_size P.sense v (omega arith)) (claimed_size P.sense w (omega arith)) (word_same 1 claim.0)) in
    let legal = legal_told xs ys (policy ++ a) (policy ++ b) (omega arith) (omega arith) claim.1 in
    let word : AreWords (codes "policy" ∷ []) = (visible_word (codes "policy") tt, tt) in
    let trees = line_split (codes "policy") (codes "policy") [] [] a b word word legal.1 in
    let tree = policy_told p 0 q (text_of (last_lines s)) (text_of (last_lines t)) (omega arith) (omega arith) trees.1 in
    let last = last_told s t (omega arith) (omega arith) tree.1 in
    λ i. Optimal (value i) (legal.0 i) (tree.0 i) (last i)
certificate_told P (Optimal v xs p s) (Infeasible ys t) h k e = absurd (apart 111 105 tt (sym (optimal_is P v xs p s) ∙ e ∙ infeasible_is P ys t))
certificate_told P (Optimal v xs p s) (Empty u) h k e = absurd (apart 111 101 tt (sym (optimal_is P v xs p s) ∙ e ∙ empty_is P u))
certificate_told P (Infeasible xs s) (Empty u) h k e = absurd (apart 105 101 tt (sym (infeasible_is P xs s) ∙ e ∙ empty_is P u))
certificate_told P (Empty r) (Optimal w ys q t) h k e = absurd (apart 101 111 tt (sym (empty_is P r) ∙ e ∙ optimal_is P w ys q t))
certificate_told P (Empty r) (Infeasible ys t) h k e = absurd (apart 101 105 tt (sym (empty_is P r) ∙ e ∙ infeasible_is P ys t))
certificate_told P (Empty r) (Empty u) h k e = ap Empty (empty_told r u h k (sym (empty_is P r) ∙ e ∙ empty_is P u))
certificate_told P (Infeasible xs s) (Optimal w ys q t) h k e = absurd (apart 105 111 tt (sym (infeasible_is P xs s) ∙ e ∙ optimal_is P w ys q t))
certificate_told P (Infeasible xs s) (Infeasible ys t) h k e =
    let word : AreWords (codes "infeasible" ∷ []) = (visible_word (codes "infeasible") tt, tt) in
    let version = line_text (version_line first_style) in
    let claim = line_split (codes "infeasible") (codes "infeasible") [] [] (version ++ (line_text (legal_line first_style xs) ++ text_of (last_lines s)))
    (version ++ (line_text (legal_line first_style ys) ++ text_of (last_lines t))) word word (sym (infeasible_is P xs s) ∙ e ∙ infeasible_is P ys t) in
    let legal = legal_told xs ys (text_of (last_lines s)) (text_of (last_lines t)) (omega arith) (omega arith) claim.1 in
    let last = last_told s t (omega arith) (omega arith) legal.1 in
    λ i. Infeasible (legal.0 i) (last i)
