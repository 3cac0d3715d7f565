-- Which words are tokens, and of which kind.
use Rattle.std.specs.Prelude.{◌≡◌, ℕ, List, ◌⊎◌, codes, IsTrue}
use Rattle.qm_lex.specs.declared.token.Kind.{Kind}
use Rattle.qm_lex.specs.declared.token.Kind.TheVariants.{Name, Number, Plus, Minus, Less, Greater, Equal, Colon, Keyword, Infinite}
use Rattle.qm_lex.specs.Names.{is_name, kind_of_name}
use Rattle.qm_lex.specs.Numbers.{IsNumber}

-- a name of this kind
abbrev pub IsNameOf : Kind → List ℕ → Type 0
IsNameOf kind word = IsTrue (is_name word) × (kind_of_name word ≡ kind)

-- the word is a token of this kind
abbrev pub Spells : Kind → List ℕ → Type 0
Spells Name word = IsNameOf Name word
Spells Number word = IsNumber word
Spells Plus word = word ≡ codes "+"
Spells Minus word = word ≡ codes "-"
Spells Less word = (word ≡ codes "<") ⊎ (word ≡ codes "<=") ⊎ (word ≡ codes "=<")
Spells Greater word = (word ≡ codes ">") ⊎ (word ≡ codes ">=") ⊎ (word ≡ codes "=>")
Spells Equal word = word ≡ codes "="
Spells Colon word = word ≡ codes ":"
Spells (Keyword keyword) word = IsNameOf (Keyword keyword) word
Spells Infinite word = IsNameOf Infinite word
