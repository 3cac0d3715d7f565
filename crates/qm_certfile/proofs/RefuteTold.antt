-- The text of a refutation tells the refutation, and where it ends.
use Rattle.std.proofs.Common.{◌≡◌, ℕ, ◌+◌, ◌<◌, ℤ, List, ◌∷◌, ◌++◌, get_or, map, sym, ap, ◌∙◌, subst, arith}
use Rattle.std.specs.Prelude.{◌^◌, codes, unsigned_abs}
use Rattle.std.specs.Fmt.{signed_decimal}
use Rattle.qm_trees.specs.declared.refutation.Refute.{Refute, out-Refute}
use Rattle.qm_trees.specs.declared.refutation.RefutePart.{RefutePart, out-RefutePart}
use Rattle.qm_trees.specs.declared.refutation.Refute.TheOpen as why
use Rattle.qm_trees.specs.declared.refutation.Refute.TheViews.{roll-Refute, roll-RefutePart, roll-out-Refute, roll-out-RefutePart}
use Rattle.qm_trees.specs.declared.refutation.Refute.TheFolds.{fold-roll-Refute, fold-roll-RefutePart, map-Refute, map-RefutePart, ind-Refute}
use Rattle.qm_certfile.specs.Lines.{text_of}
use Rattle.qm_certfile.specs.Numbers.{greatest, refute_number_step, refute_part_number_step, greatest_in_refute, greatest_in_refute_part}
use Rattle.qm_certfile.specs.Styles.{first_style}
use Rattle.qm_certfile.specs.TreeLines.{Lines, refute_step, refute_part_step, refute_lines, refute_part_lines}
use Rattle.qm_certfile.proofs.NumberWords.{apart, differ, signed_same, visible_signed, visible_word}
use Rattle.qm_certfile.proofs.LineSplits.{AreWords, IsTold, told_by_layer, first_line, same_words, visible_words, word_same, words_behind}
use Rattle.qm_certfile.proofs.RowWords.{close_first, close_told, count_told, range_told, wholes_spell}

abbrev ToldRefute : Refute → Type 0
ToldRefute t = IsTold Refute (refute_lines first_style) greatest_in_refute t

abbrev ToldPart : RefutePart → Type 0
ToldPart r = IsTold RefutePart (refute_part_lines first_style) greatest_in_refute_part r

-- ---- a node, with what is known of the nodes below it

abbrev Known : Type 0
Known = why.Refute-F ((t : Refute) × ToldRefute t) ((r : RefutePart) × ToldPart r)

abbrev Layer : Type 0
Layer = why.Refute-F Refute RefutePart

abbrev plain : Known → Layer
plain y = map-Refute ((t : Refute) × ToldRefute t) ((r : RefutePart) × ToldPart r) Refute RefutePart (λ e. e.0) (λ e. e.0) y

abbrev layer_lines : Layer → Lines
layer_lines z = refute_step first_style (map-Refute Refute RefutePart Lines Lines (refute_lines first_style) (refute_part_lines first_style) z)

abbrev layer_number : Layer → ℕ
layer_number z = refute_number_step (map-Refute Refute RefutePart ℕ ℕ greatest_in_refute greatest_in_refute_part z)

pick_words : (v : ℤ) (values : List ℤ) → unsigned_abs v < 10 ^ 64 → greatest (map unsigned_abs values) < 10 ^ 64 → AreWords (codes "pick" ∷ signed_decimal v ∷ map signed_decimal values)
pick_words v values h k = (visible_word (codes "pick") tt, (visible_signed v h, visible_words signed_decimal unsigned_abs wholes_spell values k))

abbrev first : List ℕ → ℕ
first l = get_or l 0 0

layers_told : (y : Known) (z : Layer) (place : ℕ) (a b : List ℕ) → layer_number (plain y) < 10 ^ 64 → layer_number z < 10 ^ 64
    → text_of (layer_lines (plain y) place) ++ a ≡ text_of (layer_lines z place) ++ b → (plain y ≡ z) × (a ≡ b)
layers_told (why.Over ps) (why.Over qs) place a b h k e =
    let told = count_told RefutePart (refute_part_lines first_style) greatest_in_refute_part (codes "over") ps qs (place + 1) a b (visible_word (codes "over") tt) h k e in
    (ap why.Over told.0, told.1)
layers_told (why.Over ps) (why.Pick w others q) place a b h k e = absurd (apart 111 112 tt e)
layers_told (why.Over ps) (why.Close d) place a b h k e = absurd (differ 111 99 tt (ap first e ∙ close_first d b))
layers_told (why.Pick v values p) (why.Over qs) place a b h k e = absurd (apart 112 111 tt e)
layers_told (why.Pick v values p) (why.Pick w others q) place a b h k e =
    let line = first_line (codes "pick") (codes "pick") (signed_decimal v ∷ map signed_decimal values) (signed_decimal w ∷ map signed_decimal others)
    (text_of (refute_lines first_style p.0 (place + 1))) (text_of (refute_lines first_style q (place + 1))) a b
    (pick_words v values (omega arith) (omega arith)) (pick_words w others (omega arith) (omega arith)) e in
    let value = signed_same v w (omega arith) (omega arith) (word_same 1 line.0) in
    let completion = same_words signed_decimal unsigned_abs wholes_spell values others (omega arith) (omega arith) (words_behind 2 line.0) in
    let below = p.1 (place + 1) q a b (omega arith) (omega arith) line.1 in
    (λ i. why.Pick (value i) (completion i) (below.0 i), below.1)
layers_told (why.Pick v values p) (why.Close d) place a b h k e = absurd (differ 112 99 tt (ap first e ∙ close_first d b))
layers_told (why.Close c) (why.Over qs) place a b h k e = absurd (differ 99 111 tt (sym (close_first c a) ∙ ap first e))
layers_told (why.Close c) (why.Pick w others q) place a b h k e = absurd (differ 99 112 tt (sym (close_first c a) ∙ ap first e))
layers_told (why.Close c) (why.Close d) place a b h k e =
    let told = close_told c d a b h k e in
    (ap why.Close told.0, told.1)

refute_told_step : (x : Layer) (y : Known) → plain y ≡ x → ToldRefute (roll-Refute x)
refute_told_step x y is = subst (λ z. ToldRefute (roll-Refute z)) is
    (told_by_layer Refute Layer (refute_lines first_style) greatest_in_refute roll-Refute out-Refute layer_lines layer_number roll-out-Refute
    (fold-roll-Refute Lines Lines (refute_step first_style) refute_part_step) (fold-roll-Refute ℕ ℕ refute_number_step refute_part_number_step) (plain y) (layers_told y))

-- ---- parts

abbrev KnownPart : Type 0
KnownPart = why.RefutePart-F ((t : Refute) × ToldRefute t) ((r : RefutePart) × ToldPart r)

abbrev plain_part : KnownPart → why.RefutePart-F Refute RefutePart
plain_part y = map-RefutePart ((t : Refute) × ToldRefute t) ((r : RefutePart) × ToldPart r) Refute RefutePart (λ e. e.0) (λ e. e.0) y

abbrev part_layer_lines : why.RefutePart-F Refute RefutePart → Lines
part_layer_lines z = refute_part_step (map-RefutePart Refute RefutePart Lines Lines (refute_lines first_style) (refute_part_lines first_style) z)

abbrev part_layer_number : why.RefutePart-F Refute RefutePart → ℕ
part_layer_number z = refute_part_number_step (map-RefutePart Refute RefutePart ℕ ℕ greatest_in_refute greatest_in_refute_part z)

part_layers_told : (y : KnownPart) (z : why.RefutePart-F Refute RefutePart) (place : ℕ) (a b : List ℕ) → part_layer_number (plain_part y) < 10 ^ 64 → part_layer_number z < 10 ^ 64
    → text_of (part_layer_lines (plain_part y) place) ++ a ≡ text_of (part_layer_lines z place) ++ b → (plain_part y ≡ z) × (a ≡ b)
part_layers_told y z place a b h k e =
    let line = range_told y.range z.range (text_of (refute_lines first_style y.below.0 place)) (text_of (refute_lines first_style z.below place)) a b (omega arith) (omega arith) (omega arith) (omega arith) e in
    let below = y.below.1 place z.below a b (omega arith) (omega arith) line.1 in
    let range = line.0 in
    let tree = below.0 in
    (λ i. record { range = range i; below = tree i }, below.1)

part_told_step : (x : why.RefutePart-F Refute RefutePart) (y : KnownPart) → plain_part y ≡ x → ToldPart (roll-RefutePart x)
part_told_step x y is = subst (λ z. ToldPart (roll-RefutePart z)) is
    (told_by_layer RefutePart (why.RefutePart-F Refute RefutePart) (refute_part_lines first_style) greatest_in_refute_part roll-RefutePart out-RefutePart part_layer_lines part_layer_number roll-out-RefutePart
    (fold-roll-RefutePart Lines Lines (refute_step first_style) refute_part_step) (fold-roll-RefutePart ℕ ℕ refute_number_step refute_part_number_step) (plain_part y) (part_layers_told y))

pub refute_told : (t : Refute) → IsTold Refute (refute_lines first_style) greatest_in_refute t
refute_told = ind-Refute ToldRefute ToldPart refute_told_step part_told_step
