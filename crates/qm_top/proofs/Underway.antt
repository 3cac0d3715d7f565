-- A text on its way to a sink, piece by piece.
use Rattle.std.proofs.Common.{◌≡◌, ℕ, ◌+◌, ◌<◌, List, [], ◌∷◌, ◌++◌, Option, Result, Ok, Err, length, take, drop, drop-cons, get_or, map, add-one, append_assoc, append-nil, length-append, refl, sym, ap, subst, ◌∙◌, arith}
use Rattle.std.specs.Prelude.{OnErr, codes}
use Rattle.std.specs.Fmt.{decimal}
use Rattle.std.proofs.Math.Seq.{take-append-add}
use Rattle.std.proofs.lemmas.List.{take-append-le}
use Rattle.std.specs.Io.KnownBytes.{Appends}
use Rattle.std.proofs.KnownBytes.{Appends-nil, Appends-trans}
use Rattle.qm_io.specs.Bytes.{AppendsFront}
use Rattle.qm_journal.specs.declared.entry.JEntry.{JEntry}
use Rattle.qm_certfile.specs.CertificateLines.{alone}
use Rattle.qm_certfile.specs.Lines.{line_text, text_of}
use Rattle.qm_certfile.proofs.LineTexts.{text_of_append}
use Rattle.qm_top.specs.PieceSteps.{IsUnderway}
use Rattle.qm_top.specs.SpentLines.{entry_line, spent_text}

-- nothing is passed on
pub still_here : (a : Option (List ℕ)) (text : List ℕ) → IsUnderway a a text text
still_here a text = record { front = []; taken = Appends-nil a; parts = refl }

-- all is passed on
pub passed_on : (a b : Option (List ℕ)) (text : List ℕ) → Appends a b text → IsUnderway a b [] text
passed_on a b text taken = record { front = text; taken = taken; parts = sym (append-nil text) }

-- of the piece in front a part is passed on
pub further : (a b c : Option (List ℕ)) (piece left behind text : List ℕ) → IsUnderway a b (piece ++ behind) text → IsUnderway b c left piece → IsUnderway a c (left ++ behind) text
further a b c piece left behind text before step = record {
  front = before.front ++ step.front;
  taken = Appends-trans a b c before.front step.front before.taken step.taken;
  parts = before.parts ∙ ap (λ p. before.front ++ (p ++ behind)) step.parts ∙ ap (λ t. before.front ++ t) (append_assoc step.front left behind)
      ∙ sym (append_assoc before.front step.front (left ++ behind));
}

-- the same of all that is left
pub ended : (a b c : Option (List ℕ)) (left text : List ℕ) → IsUnderway a b left text → Appends b c left → Appends a c text
ended a b c left text before taken =
    subst (λ t. Appends a c t) (sym before.parts) (Appends-trans a b c before.front left before.taken taken)

-- the sink fails at the piece in front
pub broken_off : (a b c : Option (List ℕ)) (piece behind text : List ℕ) → IsUnderway a b (piece ++ behind) text → AppendsFront b c piece → AppendsFront a c text
broken_off a b c piece behind text before part =
    let front = before.front in
    let n = part.0 in
    let few : n < length piece = part.1 in
    let long : length text ≡ length front + (length piece + length behind) = ap length before.parts ∙ length-append front (piece ++ behind) ∙ ap (λ k. length front + k) (length-append piece behind) in
    let cut : take (length front + n) text ≡ front ++ take n piece =
    ap (λ t. take (length front + n) t) before.parts ∙ take-append-add front (piece ++ behind) n ∙ ap (λ t. front ++ t) (take-append-le n piece behind (omega (arith, few))) in
    (length front + n, omega (arith, few, long), subst (λ t. Appends a c t) (sym cut) (Appends-trans a b c front (take n piece) before.taken part.2))

-- the same, where nothing is behind it
pub ended_off : (a b c : Option (List ℕ)) (left text : List ℕ) → IsUnderway a b left text → AppendsFront b c left → AppendsFront a c text
ended_off a b c left text before part =
    broken_off a b c left [] text (subst (λ l. IsUnderway a b l text) (sym (append-nil left)) before) part

-- more of the text is put behind what is left
pub with_more : (a b : Option (List ℕ)) (left more text : List ℕ) → IsUnderway a b left text → IsUnderway a b (left ++ more) (text ++ more)
with_more a b left more text before = record {
  front = before.front;
  taken = before.taken;
  parts = ap (λ t. t ++ more) before.parts ∙ append_assoc before.front left more;
}

-- what holds on Err, as far as it has what follows from it
pub on_err : {T E P Q : Type 0} (r : Result T E) → (P → Q) → OnErr r P → OnErr r Q
on_err (Ok x) f p = p
on_err (Err e) f p = f p

-- what holds holds on Err
pub holds_on_err : {T E P : Type 0} (r : Result T E) → P → OnErr r P
holds_on_err (Ok x) p = tt
holds_on_err (Err e) p = p

-- the line of the next entry is put behind the piece
pub next_line : (entries : List JEntry) (i : ℕ) (e : JEntry) (piece next : List ℕ) → i < length entries → next ≡ piece ++ line_text (entry_line (get_or entries i e))
    → piece ++ text_of (map entry_line (drop i entries)) ≡ next ++ text_of (map entry_line (drop (i + 1) entries))
next_line entries i e piece next here is =
    let split : drop i entries ≡ get_or entries i e ∷ drop (i + 1) entries = rw add-one (drop-cons entries i e here) in
    let line = line_text (entry_line (get_or entries i e)) in
    let behind = text_of (map entry_line (drop (i + 1) entries)) in
    ap (λ (es : List JEntry). piece ++ text_of (map entry_line es)) split ∙ sym (append_assoc piece line behind) ∙ ap (λ t. t ++ behind) (sym is)

-- a front of a text is one of a longer text
pub front_of_more : (a b : Option (List ℕ)) (text more : List ℕ) → AppendsFront a b text → AppendsFront a b (text ++ more)
front_of_more a b text more part = broken_off a a b text more (text ++ more) (still_here a (text ++ more)) part

-- the report, by its parts
pub spent_parts : (entries : List JEntry) (piece : List ℕ) → piece ≡ line_text (codes "spent" ∷ decimal (length entries) ∷ [])
    → (piece ++ text_of (map entry_line entries)) ++ codes "end\n" ≡ spent_text entries
spent_parts entries piece is =
    let end = alone (codes "end") ∷ [] in
    append_assoc piece (text_of (map entry_line entries)) (codes "end\n") ∙ ap (λ t. piece ++ t) (sym (text_of_append (map entry_line entries) end))
    ∙ ap (λ p. p ++ text_of (map entry_line entries ++ end)) is
