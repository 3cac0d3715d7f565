-- A small text, judged by the definitions.
use Rattle.std.proofs.Common.{◌≢◌, ℕ, true, false, List, [], ◌∷◌, ◌++◌, inl, inr, pos, neg_ℤ, refl, ap, sym, arith}
use Rattle.std.specs.Prelude.{Contains, codes}
use Rattle.std.specs.Str.{bytes_eq}
use Rattle.std.proofs.lemmas.Bool.{false≢true}
use Rattle.std.proofs.lemmas.List.Elements.{All-cons, All-nil}
use Rattle.std.proofs.lemmas.List.Kept.{AllPairs-cons}
use Rattle.qm_model.specs.declared.game.Problem.{Problem}
use Rattle.qm_model.specs.declared.game.Sense.TheVariants.{Max}
use Rattle.qm_model.specs.declared.variable.Player.TheVariants.{Exists, All as Universal}
use Rattle.qm_parse.proofs.OnceOnly.{AllPairs-nil}
use Rattle.qm_small.specs.Grammar.{SpellsText}
use Rattle.qm_small.specs.Names.{AreDistinct, AreKnown, AreOver, ListsFit, NamesFit}
use Rattle.qm_small.specs.Small.{IsSmallText}
use Rattle.qm_small.specs.Spelling.{is_identifier, is_name, is_number, is_reserved, reserved, value_of}
use Rattle.qm_small.specs.Written.{Written, WrittenRow, WrittenTerm}

-- MAXIMIZE x - 2 y; SUBJECT TO; x + y <= 1; UNCERTAINTY SUBJECT TO; y <= 1; BINARIES x y; ALL y; ORDER y x END
abbrev uncertain_text : List ℕ
uncertain_text =
    codes "UNCERTAINTY SUBJECT TO" ++ (10 ∷ (codes "y <= 1" ++ (10 ∷ (codes "BINARIES x y" ++ (10 ∷ (codes "ALL y" ++ (10 ∷ codes "ORDER y x END")))))))

abbrev text : List ℕ
text =
    codes "MAXIMIZE x - 2 y" ++ (10 ∷ (codes "SUBJECT TO" ++ (10 ∷ (codes "x + y <= 1" ++ (10 ∷ uncertain_text)))))

abbrev term : List ℕ → WrittenTerm
term name = record { negative = false; factor = 1; name = name }

abbrev row : WrittenRow
row = record { terms = term (codes "x") ∷ term (codes "y") ∷ []; right = pos 1 }

abbrev uncertain_row : WrittenRow
uncertain_row = record { terms = term (codes "y") ∷ []; right = pos 1 }

abbrev written : Written
written = record {
  objective = term (codes "x") ∷ record { negative = true; factor = 2; name = codes "y" } ∷ [];
  rows = row ∷ [];
  uncertain = uncertain_row ∷ [];
  binaries = codes "x" ∷ codes "y" ∷ [];
  exists = [];
  universal = codes "y" ∷ [];
  order = codes "y" ∷ codes "x" ∷ [];
}

some_terms : row.terms ≢ []
some_terms e = absurd cc

some_uncertain : uncertain_row.terms ≢ []
some_uncertain e = absurd cc

spelled : SpellsText text written
unfolding SpellsText is_name is_identifier is_reserved reserved is_number value_of
spelled = (
  _,
  (_, (refl, refl), (_, (_, inr refl, (_, inr (refl, refl), (refl, refl, refl))), (_, (_, (refl, refl), (_, inl ((refl, refl), refl), (refl, refl, refl))), refl))),
  (
    _,
    (
      _,
      (refl, refl),
      (
        _,
        (refl, refl),
        (
          _,
          (
            some_terms,
            (
              _,
              (_, (_, inr refl, (_, inr (refl, refl), (refl, refl, refl))), (_, (_, (refl, refl), (_, inr (refl, refl), (refl, refl, refl))), refl)),
              (_, (refl, refl), (_, (1, inl (refl, ((refl, refl), refl))), (refl, refl))),
            ),
          ),
          refl,
        ),
      ),
    ),
    (
      _,
      inl (
        _,
        (refl, refl),
        (
          _,
          (refl, refl),
          (
            _,
            (refl, refl),
            (_, (some_uncertain, (_, (_, (_, inr refl, (_, inr (refl, refl), (refl, refl, refl))), refl), (_, (refl, refl), (_, (1, inl (refl, ((refl, refl), refl))), (refl, refl))))), refl),
          ),
        ),
      ),
      (
        _,
        (_, (refl, refl), (_, (refl, refl, refl), (_, (refl, refl, refl), refl))),
        (
          _,
          inr (refl, refl),
          (_, inl (_, (refl, refl), (_, (refl, refl, refl), refl)), (_, (_, (refl, refl), (_, (refl, refl, refl), (_, (refl, refl, refl), refl))), (refl, refl))),
        ),
      ),
    ),
  ),
)

two_apart : (a b : List ℕ) → a ≢ b → AreDistinct (a ∷ b ∷ [])
two_apart a b apart =
    let R : List ℕ → List ℕ → Type 0 = λ one other. one ≢ other in
    AllPairs-cons R a (b ∷ []) (All-cons (R a) b [] apart (All-nil (R a))) (AllPairs-cons R b [] (All-nil (R b)) (AllPairs-nil R))

both_known : (a b : List ℕ) (names : List (List ℕ)) → Contains names a → Contains names b → AreKnown names (a ∷ b ∷ [])
both_known a b names p q = All-cons (Contains names) a (b ∷ []) p (All-cons (Contains names) b [] q (All-nil (Contains names)))

x_not_y : codes "x" ≢ codes "y"
x_not_y e = false≢true (sym (ap (bytes_eq (codes "x")) e))

y_not_x : codes "y" ≢ codes "x"
y_not_x e = false≢true (sym (ap (bytes_eq (codes "y")) e))

first_of_two : (a b : List ℕ) → Contains (a ∷ b ∷ []) a
first_of_two a b = (0, omega arith, refl)

second_of_two : (a b : List ℕ) → Contains (a ∷ b ∷ []) b
second_of_two a b = (1, omega arith, refl)

-- both terms name a variable
terms_known : (one other : WrittenTerm) → Contains written.binaries one.name → Contains written.binaries other.name → AreOver written.binaries (one ∷ other ∷ [])
terms_known one other p q =
    let P : WrittenTerm → Type 0 = λ term. Contains written.binaries term.name in
    All-cons P one (other ∷ []) p (All-cons P other [] q (All-nil P))

lists_fit : ListsFit written
lists_fit =
    let x = codes "x" in
    let y = codes "y" in
    record {
      few = omega arith;
      binaries_once = two_apart x y x_not_y;
      order_once = two_apart y x y_not_x;
      binaries_ordered = both_known x y written.order (second_of_two y x) (first_of_two y x);
      order_known = both_known y x written.binaries (second_of_two x y) (first_of_two x y);
      exists_known = All-nil (Contains written.binaries);
      universal_known = All-cons (Contains written.binaries) y [] (second_of_two x y) (All-nil (Contains written.binaries));
      apart = All-nil (λ name. ¬ Contains written.universal name);
    }

names_right : NamesFit written
names_right =
    let x = first_of_two (codes "x") (codes "y") in
    let y = second_of_two (codes "x") (codes "y") in
    let P : WrittenRow → Type 0 = λ row. AreOver written.binaries row.terms in
    let Q : WrittenRow → Type 0 = λ row. AreOver written.universal row.terms in
    record {
      lists = lists_fit;
      objective_known = terms_known _ _ x y;
      rows_known = All-cons P row [] (terms_known _ _ x y) (All-nil P);
      uncertain_known = All-cons Q uncertain_row [] (All-cons (λ (t : WrittenTerm). Contains written.universal t.name) (term (codes "y")) [] (0, omega arith, refl) (All-nil (λ (t : WrittenTerm). Contains written.universal t.name))) (All-nil Q);
      few_rows = omega arith;
    }

-- y is the first variable, and the universal player's: maximise -2 y + x with y + x <= 1, where y <= 1
abbrev problem : Problem
problem = record {
  sense = Max;
  vars =
      record { name = codes "y"; player = Universal; whole = true; low = pos 0; high = pos 1 }
      ∷ record { name = codes "x"; player = Exists; whole = true; low = pos 0; high = pos 1 } ∷ [];
  wholes = 2;
  rows = record { terms = record { var = 0; coef = pos 1 } ∷ record { var = 1; coef = pos 1 } ∷ []; right = pos 1 } ∷ [];
  urows = record { terms = record { var = 0; coef = pos 1 } ∷ []; right = pos 1 } ∷ [];
  terms = record { var = 0; coef = neg_ℤ (pos 2) } ∷ record { var = 1; coef = pos 1 } ∷ [];
  constant = pos 0;
  scale = pos 1;
}

pub stated : IsSmallText text problem
stated = record { short = omega arith; written = written; spelled = spelled; names_right = names_right; problem = refl }
