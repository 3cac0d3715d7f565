-- The example of docs/CERTIFICATE.md: a certificate, and one change each that gives its text a first fault.
use Rattle.std.specs.Prelude.{◌≡◌, ℕ, ◌-◌, ℤ, pos, negsuc, true, List, [], ◌∷◌, ◌++◌, codes, flat_map, slice_set}
use Rattle.qm_model.specs.declared.row.Term.{Term}
use Rattle.qm_model.specs.declared.row.Row.{Row}
use Rattle.qm_model.specs.declared.variable.Player.{Player}
use Rattle.qm_model.specs.declared.variable.Player.TheVariants.{Exists, All as Universal}
use Rattle.qm_model.specs.declared.variable.Var.{Var}
use Rattle.qm_model.specs.declared.game.Sense.TheVariants.{Max}
use Rattle.qm_model.specs.declared.game.Problem.{Problem}
use Rattle.qm_trees.specs.declared.rule.Rule.TheVariants as broken
use Rattle.qm_trees.specs.Verdicts.{Verdict, Fine, Broken}
use Rattle.qm_certread.specs.FirstFault.{first_fault}

abbrev pub variable : List ℕ → Player → ℤ → Var
variable name player high = record { name = name; player = player; whole = true; low = pos 0; high = high }

abbrev pub term : ℕ → ℤ → Term
term var coef = record { var = var; coef = coef }

-- x - u <= 2 and x + u <= 3
abbrev pub rows : List Row
rows = record { terms = term 0 (negsuc 0) ∷ term 1 (pos 1) ∷ []; right = pos 2 } ∷ record { terms = term 0 (pos 1) ∷ term 1 (pos 1) ∷ []; right = pos 3 } ∷ []

-- a universal u from 0 to 1, and then an x from 0 to 3, which is maximised
abbrev pub game : Problem
game = record {
  sense = Max;
  vars = variable (codes "u") Universal (pos 1) ∷ variable (codes "x") Exists (pos 3) ∷ [];
  wholes = 2;
  rows = rows;
  urows = [];
  terms = term 1 (pos 1) ∷ [];
  constant = pos 0;
  scale = pos 1;
}

abbrev pub certificate : List (List ℕ)
certificate =
    codes "optimal 2" ∷ codes "certificate 1" ∷ codes "legal 0" ∷ codes "policy" ∷ codes "answer 1" ∷ codes "range 0 1" ∷ codes "choose 2" ∷ codes "leaf"
    ∷ codes "refute" ∷ codes "pick 0" ∷ codes "close o r1=1" ∷ codes "end" ∷ []

abbrev pub text : List (List ℕ) → List ℕ
text lines = flat_map (λ line. line ++ 10 ∷ []) lines

-- the certificate with another line of this number, from 1
abbrev pub changed : ℕ → List ℕ → List ℕ
changed n line = text (slice_set certificate (n - 1) line)

-- this line is the first at fault, by its number from 1
abbrev pub HasFault : List ℕ → Verdict → Type 0
HasFault bytes verdict = first_fault game bytes ≡ verdict

pub record AreJudgedSo : Type 0 where
  pub right : HasFault (text certificate) (Fine 12)
  pub value : HasFault (changed 1 (codes "optimal 3")) (Broken broken.Leaf 7)
  pub play : HasFault (changed 3 (codes "legal 2")) (Broken broken.Legal 2)
  pub count : HasFault (changed 5 (codes "answer 2")) (Broken broken.Cover 5)
  pub range : HasFault (changed 6 (codes "range 0 0")) (Broken broken.Cover 5)
  pub choice : HasFault (changed 7 (codes "choose 4")) (Broken broken.Choose 6)
  pub leaf : HasFault (changed 7 (codes "choose 3")) (Broken broken.Leaf 7)
  pub pick : HasFault (changed 10 (codes "pick 2")) (Broken broken.Pick 9)
  pub bound : HasFault (changed 11 (codes "close o r1=1/2")) (Broken broken.Close 10)
  pub row : HasFault (changed 11 (codes "close o r3=1")) (Broken broken.Close 10)
  pub number : HasFault (changed 7 (codes "choose 9223372036854775808")) (Broken broken.Number 6)
  pub word : HasFault (changed 12 (codes "end x")) (Broken broken.Text 11)
  pub line : HasFault (text certificate ++ codes "end" ++ 10 ∷ []) (Broken broken.Text 12)
