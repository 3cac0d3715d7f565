-- The text of a policy tells the policy, and where it ends.
use Rattle.std.proofs.Common.{◌≡◌, ℕ, ◌+◌, ◌<◌, ℤ, List, [], ◌∷◌, ◌++◌, get_or, map, sym, ap, ◌∙◌, subst, arith}
use Rattle.std.specs.Prelude.{◌^◌, codes, unsigned_abs}
use Rattle.std.specs.Fmt.{signed_decimal}
use Rattle.qm_math.specs.Fraction.{Fraction}
use Rattle.qm_trees.specs.declared.policy.Policy.{Policy, out-Policy}
use Rattle.qm_trees.specs.declared.policy.Below.{Below, out-Below}
use Rattle.qm_trees.specs.declared.policy.PolicyPart.{PolicyPart, out-PolicyPart}
use Rattle.qm_trees.specs.declared.policy.Below.TheOpen as answer
use Rattle.qm_trees.specs.declared.policy.Below.TheViews.{roll-Policy, roll-Below, roll-PolicyPart, roll-out-Policy, roll-out-Below, roll-out-PolicyPart}
use Rattle.qm_trees.specs.declared.policy.Below.TheFolds.{fold-roll-Below, fold-roll-Policy, fold-roll-PolicyPart, fold_out-Policy, map-Below, map-Policy, map-PolicyPart, ind-Policy}
use Rattle.qm_text.specs.Numbers.{number_word}
use Rattle.qm_certfile.specs.Lines.{text_of}
use Rattle.qm_certfile.specs.Numbers.{greatest, greatest_of_fraction, below_number_step, policy_number_step, policy_part_number_step, greatest_in_below, greatest_in_policy, greatest_in_policy_part}
use Rattle.qm_certfile.specs.Styles.{first_style}
use Rattle.qm_certfile.specs.TreeLines.{Lines, below_lines, below_step, policy_step, policy_part_step, policy_lines, policy_part_lines}
use Rattle.qm_certfile.proofs.NumberWords.{apart, differ, signed_same, visible_signed, visible_word}
use Rattle.qm_certfile.proofs.LineSplits.{AreWords, IsTold, told_by_layer, first_line, first_of_line, same_words, visible_words, word_same, words_behind}
use Rattle.qm_certfile.proofs.EmptyTold.{illegal_told}
use Rattle.qm_certfile.proofs.RowWords.{count_told, fractions_spell, range_told}

abbrev lines_below : Below → Lines
lines_below = below_lines first_style

abbrev ToldBelow : Below → Type 0
ToldBelow b = IsTold Below lines_below greatest_in_below b

abbrev ToldPolicy : Policy → Type 0
ToldPolicy p = IsTold Policy (policy_lines first_style) greatest_in_policy p

abbrev ToldPart : PolicyPart → Type 0
ToldPart r = IsTold PolicyPart (policy_part_lines first_style) greatest_in_policy_part r

-- ---- a node, with what is known of the nodes below it

abbrev Known : Type 0
Known = answer.Policy-F ((b : Below) × ToldBelow b) ((p : Policy) × ToldPolicy p) ((r : PolicyPart) × ToldPart r)

abbrev Layer : Type 0
Layer = answer.Policy-F Below Policy PolicyPart

abbrev plain : Known → Layer
plain y = map-Policy ((b : Below) × ToldBelow b) ((p : Policy) × ToldPolicy p) ((r : PolicyPart) × ToldPart r) Below Policy PolicyPart (λ e. e.0) (λ e. e.0) (λ e. e.0) y

abbrev layer_lines : Layer → Lines
layer_lines z = policy_step first_style (map-Policy Below Policy PolicyPart Lines Lines Lines lines_below (policy_lines first_style) (policy_part_lines first_style) z)

abbrev layer_number : Layer → ℕ
layer_number z = policy_number_step (map-Policy Below Policy PolicyPart ℕ ℕ ℕ greatest_in_below greatest_in_policy greatest_in_policy_part z)

choose_words : (v : ℤ) → unsigned_abs v < 10 ^ 64 → AreWords (codes "choose" ∷ signed_decimal v ∷ [])
choose_words v h = (visible_word (codes "choose") tt, (visible_signed v h, tt))

leaf_words : (point : List Fraction) → greatest (map greatest_of_fraction point) < 10 ^ 64 → AreWords (codes "leaf" ∷ map number_word point)
leaf_words point h = (visible_word (codes "leaf") tt, visible_words number_word greatest_of_fraction fractions_spell point h)

abbrev first : List ℕ → ℕ
first l = get_or l 0 0

leaf_first : (point : List Fraction) (x : List ℕ) → first (text_of ((codes "leaf" ∷ map number_word point) ∷ []) ++ x) ≡ 108
leaf_first point x = first_of_line 108 (codes "eaf") (map number_word point) [] x

layers_told : (y : Known) (z : Layer) (place : ℕ) (a b : List ℕ) → layer_number (plain y) < 10 ^ 64 → layer_number z < 10 ^ 64
    → text_of (layer_lines (plain y) place) ++ a ≡ text_of (layer_lines z place) ++ b → (plain y ≡ z) × (a ≡ b)
layers_told (answer.Choose v p) (answer.Choose w q) place a b h k e =
    let line = first_line (codes "choose") (codes "choose") (signed_decimal v ∷ []) (signed_decimal w ∷ []) (text_of (policy_lines first_style p.0 (place + 1))) (text_of (policy_lines first_style q (place + 1))) a b
    (choose_words v (omega arith)) (choose_words w (omega arith)) e in
    let value = signed_same v w (omega arith) (omega arith) (word_same 1 line.0) in
    let below = p.1 (place + 1) q a b (omega arith) (omega arith) line.1 in
    (λ i. answer.Choose (value i) (below.0 i), below.1)
layers_told (answer.Choose v p) (answer.Answer qs) place a b h k e = absurd (apart 99 97 tt e)
layers_told (answer.Choose v p) (answer.Leaf ys) place a b h k e = absurd (differ 99 108 tt (ap first e ∙ leaf_first ys b))
layers_told (answer.Answer ps) (answer.Choose w q) place a b h k e = absurd (apart 97 99 tt e)
layers_told (answer.Answer ps) (answer.Answer qs) place a b h k e =
    let told = count_told PolicyPart (policy_part_lines first_style) greatest_in_policy_part (codes "answer") ps qs (place + 1) a b (visible_word (codes "answer") tt) h k e in
    (ap answer.Answer told.0, told.1)
layers_told (answer.Answer ps) (answer.Leaf ys) place a b h k e = absurd (differ 97 108 tt (ap first e ∙ leaf_first ys b))
layers_told (answer.Leaf xs) (answer.Choose w q) place a b h k e = absurd (differ 108 99 tt (sym (leaf_first xs a) ∙ ap first e))
layers_told (answer.Leaf xs) (answer.Answer qs) place a b h k e = absurd (differ 108 97 tt (sym (leaf_first xs a) ∙ ap first e))
layers_told (answer.Leaf xs) (answer.Leaf ys) place a b h k e =
    let line = first_line (codes "leaf") (codes "leaf") (map number_word xs) (map number_word ys) [] [] a b (leaf_words xs h) (leaf_words ys k) e in
    (ap answer.Leaf (same_words number_word greatest_of_fraction fractions_spell xs ys h k (words_behind 1 line.0)), line.1)

policy_told_step : (x : Layer) (y : Known) → plain y ≡ x → ToldPolicy (roll-Policy x)
policy_told_step x y is = subst (λ z. ToldPolicy (roll-Policy z)) is
    (told_by_layer Policy Layer (policy_lines first_style) greatest_in_policy roll-Policy out-Policy layer_lines layer_number roll-out-Policy
    (fold-roll-Policy Lines Lines Lines (below_step first_style) (policy_step first_style) policy_part_step) (fold-roll-Policy ℕ ℕ ℕ below_number_step policy_number_step policy_part_number_step) (plain y) (layers_told y))

-- ---- what stands below a range

abbrev KnownBelow : Type 0
KnownBelow = answer.Below-F ((b : Below) × ToldBelow b) ((p : Policy) × ToldPolicy p) ((r : PolicyPart) × ToldPart r)

abbrev plain_below : KnownBelow → answer.Below-F Below Policy PolicyPart
plain_below y = map-Below ((b : Below) × ToldBelow b) ((p : Policy) × ToldPolicy p) ((r : PolicyPart) × ToldPart r) Below Policy PolicyPart (λ e. e.0) (λ e. e.0) (λ e. e.0) y

abbrev below_layer_lines : answer.Below-F Below Policy PolicyPart → Lines
below_layer_lines z = below_step first_style (map-Below Below Policy PolicyPart Lines Lines Lines lines_below (policy_lines first_style) (policy_part_lines first_style) z)

abbrev below_layer_number : answer.Below-F Below Policy PolicyPart → ℕ
below_layer_number z = below_number_step (map-Below Below Policy PolicyPart ℕ ℕ ℕ greatest_in_below greatest_in_policy greatest_in_policy_part z)

-- no policy's text begins as one does that calls something illegal
layer_not_illegal : (z : Layer) (place : ℕ) (x : List ℕ) → first (text_of (layer_lines z place) ++ x) ≡ 105 → ⊥
layer_not_illegal (answer.Choose v p) place x e = differ 99 105 tt e
layer_not_illegal (answer.Answer ps) place x e = differ 97 105 tt e
layer_not_illegal (answer.Leaf ys) place x e = differ 108 105 tt (sym (leaf_first ys x) ∙ e)

not_illegal : (p : Policy) (place : ℕ) (x : List ℕ) → first (text_of (policy_lines first_style p place) ++ x) ≡ 105 → ⊥
not_illegal p place x e =
    layer_not_illegal (out-Policy p) place x
    (sym (ap (λ (f : Lines). first (text_of (f place) ++ x)) (fold_out-Policy Lines Lines Lines (below_step first_style) (policy_step first_style) policy_part_step p)) ∙ e)

belows_told : (y : KnownBelow) (z : answer.Below-F Below Policy PolicyPart) (place : ℕ) (a b : List ℕ) → below_layer_number (plain_below y) < 10 ^ 64 → below_layer_number z < 10 ^ 64
    → text_of (below_layer_lines (plain_below y) place) ++ a ≡ text_of (below_layer_lines z place) ++ b → (plain_below y ≡ z) × (a ≡ b)
belows_told (answer.On p) (answer.On q) place a b h k e =
    let told = p.1 place q a b h k e in
    (ap answer.On told.0, told.1)
belows_told (answer.On p) (answer.Illegal t) place a b h k e = absurd (not_illegal p.0 place a (ap first e))
belows_told (answer.Illegal s) (answer.On q) place a b h k e = absurd (not_illegal q place b (sym (ap first e)))
belows_told (answer.Illegal s) (answer.Illegal t) place a b h k e =
    let told = illegal_told s place t a b h k e in
    (ap answer.Illegal told.0, told.1)

below_told_step : (x : answer.Below-F Below Policy PolicyPart) (y : KnownBelow) → plain_below y ≡ x → ToldBelow (roll-Below x)
below_told_step x y is = subst (λ z. ToldBelow (roll-Below z)) is
    (told_by_layer Below (answer.Below-F Below Policy PolicyPart) lines_below greatest_in_below roll-Below out-Below below_layer_lines below_layer_number roll-out-Below
    (fold-roll-Below Lines Lines Lines (below_step first_style) (policy_step first_style) policy_part_step) (fold-roll-Below ℕ ℕ ℕ below_number_step policy_number_step policy_part_number_step) (plain_below y) (belows_told y))

-- ---- parts

abbrev KnownPart : Type 0
KnownPart = answer.PolicyPart-F ((b : Below) × ToldBelow b) ((p : Policy) × ToldPolicy p) ((r : PolicyPart) × ToldPart r)

abbrev plain_part : KnownPart → answer.PolicyPart-F Below Policy PolicyPart
plain_part y = map-PolicyPart ((b : Below) × ToldBelow b) ((p : Policy) × ToldPolicy p) ((r : PolicyPart) × ToldPart r) Below Policy PolicyPart (λ e. e.0) (λ e. e.0) (λ e. e.0) y

abbrev part_layer_lines : answer.PolicyPart-F Below Policy PolicyPart → Lines
part_layer_lines z = policy_part_step (map-PolicyPart Below Policy PolicyPart Lines Lines Lines lines_below (policy_lines first_style) (policy_part_lines first_style) z)

abbrev part_layer_number : answer.PolicyPart-F Below Policy PolicyPart → ℕ
part_layer_number z = policy_part_number_step (map-PolicyPart Below Policy PolicyPart ℕ ℕ ℕ greatest_in_below greatest_in_policy greatest_in_policy_part z)

parts_told_each : (y : KnownPart) (z : answer.PolicyPart-F Below Policy PolicyPart) (place : ℕ) (a b : List ℕ) → part_layer_number (plain_part y) < 10 ^ 64 → part_layer_number z < 10 ^ 64
    → text_of (part_layer_lines (plain_part y) place) ++ a ≡ text_of (part_layer_lines z place) ++ b → (plain_part y ≡ z) × (a ≡ b)
parts_told_each y z place a b h k e =
    let line = range_told y.range z.range (text_of (lines_below y.below.0 place)) (text_of (lines_below z.below place)) a b (omega arith) (omega arith) (omega arith) (omega arith) e in
    let below = y.below.1 place z.below a b (omega arith) (omega arith) line.1 in
    let range = line.0 in
    let tree = below.0 in
    (λ i. record { range = range i; below = tree i }, below.1)

part_told_step : (x : answer.PolicyPart-F Below Policy PolicyPart) (y : KnownPart) → plain_part y ≡ x → ToldPart (roll-PolicyPart x)
part_told_step x y is = subst (λ z. ToldPart (roll-PolicyPart z)) is
    (told_by_layer PolicyPart (answer.PolicyPart-F Below Policy PolicyPart) (policy_part_lines first_style) greatest_in_policy_part roll-PolicyPart out-PolicyPart part_layer_lines part_layer_number roll-out-PolicyPart
    (fold-roll-PolicyPart Lines Lines Lines (below_step first_style) (policy_step first_style) policy_part_step) (fold-roll-PolicyPart ℕ ℕ ℕ below_number_step policy_number_step policy_part_number_step) (plain_part y) (parts_told_each y))

pub policy_told : (p : Policy) → IsTold Policy (policy_lines first_style) greatest_in_policy p
policy_told = ind-Policy ToldBelow ToldPolicy ToldPart below_told_step policy_told_step part_told_step
