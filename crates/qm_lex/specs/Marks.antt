-- Relations, signs and colons, as the code finds them. No public clause cites this.
use Rattle.std.specs.Prelude.{ℕ, List, [], ◌∷◌, ◌==◌, slice_index, Option, Some, None, if◌then◌else◌}
use Rattle.qm_lex.specs.declared.token.Found.{Found}
use Rattle.qm_lex.specs.declared.token.Kind.{Kind}
use Rattle.qm_lex.specs.declared.token.Kind.TheVariants.{Plus, Minus, Less, Greater, Equal, Colon}

abbrev pub found : Kind → ℕ → Found
found kind len = record { kind = kind; len = len }

-- a relation that an equals sign may follow, by the byte behind its first
abbrev pub relation_mark : Kind → ℕ → Found
relation_mark kind next = found kind (if next == 61 then 2 else 1)

-- the relation that begins with an equals sign, by the byte behind that
abbrev pub equal_mark : ℕ → Found
equal_mark next = if next == 60 then found Less 2 else if next == 62 then found Greater 2 else found Equal 1

-- what begins with this byte, by the byte behind it
unfoldable pub mark_of : ℕ → ℕ → Option Found
mark_of byte next =
    if byte == 43 then Some (found Plus 1)
    else if byte == 45 then Some (found Minus 1)
    else if byte == 58 then Some (found Colon 1)
    else if byte == 60 then Some (relation_mark Less next)
    else if byte == 62 then Some (relation_mark Greater next)
    else if byte == 61 then Some (equal_mark next)
    else None

-- what stands at the front
abbrev pub mark_at : List ℕ → Option Found
mark_at [] = None
mark_at (byte ∷ text) = mark_of byte (slice_index text 0)
