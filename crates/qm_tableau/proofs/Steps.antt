-- One step of a loop over entries or rows, where each operation may leave.
use Rattle.std.proofs.Common.{◌≡◌, ◌∙◌, refl, sym, ap, ℕ, ◌+◌, ◌<◌, ◌≤◌, add-one, List, [], ◌∷◌, ◌++◌, length, get_or, set, take, drop, Ok, Err}
use Rattle.std.proofs.lemmas.List.{append_assoc, append-nil, at_drop_more, take_more_set, take_all, get_or-set_same, set-set, length-set, drop_all}
use Rattle.qm_math.specs.Fraction.{Fraction}
use Rattle.qm_tableau.specs.Leaving.{Placed, next}
use Rattle.qm_tableau.specs.Pivoting.{new_entries, new_entry, new_row, new_rows}

module _ {A : Type 0} where
  -- one more item in front of the others, behind those that are done
  glue : (r : Placed (List A)) (p : List A) (x : A)
      → next (next r (λ xs. Ok (x ∷ xs))) (λ ys. Ok (p ++ ys)) ≡ next r (λ xs. Ok ((p ++ x ∷ []) ++ xs))
  glue (Ok xs) p x = ap (λ (ys : List A). Ok ys) (sym (append_assoc p (x ∷ []) xs))
  glue (Err e) p x = refl

  -- what is done, once item k is written
  pub written : (r whole : Placed (List A)) (now : List A) (k : ℕ) (x : A) → k < length now
      → next (next r (λ xs. Ok (x ∷ xs))) (λ ys. Ok (take k now ++ ys)) ≡ whole
      → next r (λ xs. Ok (take (k + 1) (set now k x) ++ xs)) ≡ whole
  written r all now k x h before =
      ap (λ (p : List A). next r (λ xs. Ok (p ++ xs))) (take_more_set now k x h) ∙ sym (glue r (take k now) x) ∙ before

  -- all is done
  pub finished : (all : Placed (List A)) (now : List A) (k : ℕ) → length now ≤ k
      → next (Ok []) (λ (xs : List A). Ok (take k now ++ xs)) ≡ all → Ok now ≡ all
  finished all now k h e = ap (λ (ys : List A). Ok ys) (sym (append-nil (take k now) ∙ take_all k now h)) ∙ e

pub entries_at : (i c : ℕ) (f : Fraction) (k : ℕ) (d e : Fraction) (row others : List Fraction) → k < length row → k < length others
    → new_entries i c f k (drop k row) (drop k others)
    ≡ next (new_entry i c f k (get_or row k d) (get_or others k e)) (λ x. next (new_entries i c f (k + 1) (drop (k + 1) row) (drop (k + 1) others)) (λ xs. Ok (x ∷ xs)))
entries_at i c f k d e row others h g =
    at_drop_more (λ (ts : List Fraction). new_entries i c f k ts (drop k others)) row k d h
    ∙ at_drop_more (λ (os : List Fraction). new_entries i c f k (get_or row k d ∷ drop (k + 1) row) os) others k e g
    ∙ rw add-one refl

-- all entries are written
pub row_finished : (i c : ℕ) (f : Fraction) (k : ℕ) (row others now : List Fraction) (all : Placed (List Fraction)) → length row ≤ k → length now ≤ k
    → next (new_entries i c f k (drop k row) (drop k others)) (λ xs. Ok (take k now ++ xs)) ≡ all → Ok now ≡ all
row_finished i c f k row others now all h g before =
    finished all now k g (sym (ap (λ (ts : List Fraction). next (new_entries i c f k ts (drop k others)) (λ xs. Ok (take k now ++ xs))) (drop_all k row h)) ∙ before)

pub rows_at : (c : ℕ) (leaving : List Fraction) (i : ℕ) (d : List Fraction) (rows : List (List Fraction)) → i < length rows
    → new_rows c leaving i (drop i rows)
    ≡ next (new_row c leaving i (get_or rows i d)) (λ x. next (new_rows c leaving (i + 1) (drop (i + 1) rows)) (λ xs. Ok (x ∷ xs)))
rows_at c leaving i d rows h = at_drop_more (new_rows c leaving i) rows i d h ∙ rw add-one refl

-- entry k of row `at` is written
pub entry_done : (i c : ℕ) (f : Fraction) (k : ℕ) (d e : Fraction) (row others : List Fraction) (all : Placed (List Fraction)) (rows now : List (List Fraction)) (at : ℕ) (x : Fraction)
    → k < length row → k < length others → at < length rows → k < length (get_or rows at [])
    → new_entry i c f k (get_or row k d) (get_or others k e) ≡ Ok x → now ≡ set rows at (set (get_or rows at []) k x)
    → next (new_entries i c f k (drop k row) (drop k others)) (λ xs. Ok (take k (get_or rows at []) ++ xs)) ≡ all
    → next (new_entries i c f (k + 1) (drop (k + 1) row) (drop (k + 1) others)) (λ xs. Ok (take (k + 1) (get_or now at []) ++ xs)) ≡ all
entry_done i c f k d e row others all rows now at x h g inside room is set_is before =
    let rest = new_entries i c f (k + 1) (drop (k + 1) row) (drop (k + 1) others) in
    let here : get_or now at [] ≡ set (get_or rows at []) k x = ap (λ (m : List (List Fraction)). get_or m at []) set_is ∙ get_or-set_same rows at _ [] inside in
    let one : new_entries i c f k (drop k row) (drop k others) ≡ next rest (λ xs. Ok (x ∷ xs)) =
    entries_at i c f k d e row others h g ∙ ap (λ (y : Placed Fraction). next y (λ z. next rest (λ xs. Ok (z ∷ xs)))) is in
    ap (λ (r : List Fraction). next rest (λ xs. Ok (take (k + 1) r ++ xs))) here
    ∙ written rest all (get_or rows at []) k x room (sym (ap (λ (y : Placed (List Fraction)). next y (λ xs. Ok (take k (get_or rows at []) ++ xs))) one) ∙ before)

-- its length stays
pub width_stays : (rows now : List (List Fraction)) (at k w : ℕ) (x : Fraction) → at < length rows → length (get_or rows at []) ≡ w
    → now ≡ set rows at (set (get_or rows at []) k x) → length (get_or now at []) ≡ w
width_stays rows now at k w x inside before is =
    ap (λ (m : List (List Fraction)). length (get_or m at [])) is ∙ ap (λ (r : List Fraction). length r) (get_or-set_same rows at _ [] inside)
    ∙ length-set (get_or rows at []) k x ∙ before

-- row `at` is the only one that changed
pub others_stay : (first rows now : List (List Fraction)) (at : ℕ) (y : List Fraction) → at < length first
    → rows ≡ set first at (get_or rows at []) → now ≡ set rows at y → now ≡ set first at (get_or now at [])
others_stay first rows now at y inside before is =
    let all : now ≡ set first at y = is ∙ ap (λ (m : List (List Fraction)). set m at y) before ∙ set-set first at _ y in
    let here : get_or now at [] ≡ y = ap (λ (m : List (List Fraction)). get_or m at []) all ∙ get_or-set_same first at y [] inside in
    all ∙ ap (set first at) (sym here)
