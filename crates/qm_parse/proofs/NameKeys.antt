-- Names by the keys that hold their bytes.
use Rattle.std.proofs.Common.{◌≡◌, ℕ, Bool, true, false, cond, ◌||◌, List, [], ◌∷◌, ◌++◌, map, Some, get_or, refl, sym, ap, ◌∙◌}
use Rattle.std.specs.Prelude.{position, slice_get}
use Rattle.std.specs.List.{list_any}
use Rattle.std.specs.Option.{option_map}
use Rattle.std.specs.Str.{bytes_eq}
use Rattle.std.proofs.lemmas.List.{map-append}
use Rattle.std.proofs.lemmas.List.Quantifiers.{position-Some}
use Rattle.std.proofs.lemmas.Option.{slice_get-get_or, slice_get-map}
use Rattle.std.proofs.lemmas.Slice.Eq.{bytes_eq-Decides}
use Rattle.qm_parse.specs.NameTables.{stands_in}
use Rattle.qm_parse.specs.Symbols.{with_name}

module _ {Key : Type 0} (bytes : Key → List ℕ) where
  -- a name stands among the names where a key has its bytes
  any-bytes : (name : List ℕ) (keys : List Key) → list_any (λ key. bytes_eq name (bytes key)) keys ≡ stands_in (map bytes keys) name
  any-bytes name [] = refl
  any-bytes name (key ∷ keys) = ap (λ b. bytes_eq name (bytes key) || b) (any-bytes name keys)

  -- and then the key has the name's number
  pub number-at : (keys : List Key) (n : ℕ) (key : Key) (name : List ℕ) → slice_get keys n ≡ Some key → bytes_eq name (bytes key) ≡ true → slice_get (map bytes keys) n ≡ Some name
  number-at keys n key name at is =
      slice_get-map bytes keys n ∙ ap (option_map bytes) at ∙ ap (λ (x : List ℕ). Some x) (sym ((bytes_eq-Decides name (bytes key)).0 is))

  pub number-found : (keys : List Key) (name : List ℕ) (n : ℕ) → position (λ key. bytes_eq name (bytes key)) keys ≡ Some n → slice_get (map bytes keys) n ≡ Some name
  number-found [] name n is = absurd (cc)
  number-found (key ∷ keys) name n is =
      let at = position-Some (λ (k : Key). bytes_eq name (bytes k)) (key ∷ keys) n key is in
      number-at (key ∷ keys) n (get_or (key ∷ keys) n key) name (slice_get-get_or (key ∷ keys) n key at.0) at.1

  pub names-found : (keys : List Key) (name : List ℕ) → list_any (λ key. bytes_eq name (bytes key)) keys ≡ true → map bytes keys ≡ with_name (map bytes keys) name
  names-found keys name found = ap (λ (b : Bool). cond b (map bytes keys) (map bytes keys ++ name ∷ [])) (sym found ∙ any-bytes name keys)

  names-pushed : (b : Bool) (keys : List Key) (key : Key) → map bytes (cond b keys (keys ++ key ∷ [])) ≡ cond b (map bytes keys) (map bytes keys ++ bytes key ∷ [])
  names-pushed true keys key = refl
  names-pushed false keys key = map-append bytes keys (key ∷ [])

  pub names-inserted : (keys new : List Key) (key : Key) (name : List ℕ) → new ≡ cond (list_any (λ other. bytes_eq (bytes key) (bytes other)) keys) keys (keys ++ key ∷ []) → bytes key ≡ name → map bytes new ≡ with_name (map bytes keys) name
  names-inserted keys new key name put is =
      ap (map bytes) put ∙ names-pushed (list_any (λ other. bytes_eq (bytes key) (bytes other)) keys) keys key
      ∙ ap (λ (b : Bool). cond b (map bytes keys) (map bytes keys ++ bytes key ∷ [])) (any-bytes (bytes key) keys)
      ∙ ap (with_name (map bytes keys)) is
