-- What was read of the sources, and what is told by it.
use Rattle.std.specs.Prelude.{◌≡◌, ℕ, ◌+◌, ◌≤◌, List, ◌++◌, length, codes}
use Rattle.std.specs.declared.option.Option.{Option}
use Rattle.std.specs.Io.KnownBytes.{Consumes, IsAtEnd}
use Rattle.qm_io.specs.Causes.{Rose}
use Rattle.qm_io.specs.Bytes.{TookSome}
use Rattle.qm_top.specs.Lines.{line}

-- what became of a source: the bytes that it had left and has left, where it tells them, and its faults
pub record Reading : Type 0 where
  pub before : Option (List ℕ)
  pub after : Option (List ℕ)
  pub faults_before : ℕ
  pub faults_after : ℕ

abbrev pub reading : Option (List ℕ) → Option (List ℕ) → ℕ → ℕ → Reading
reading before after faults_before faults_after = record { before = before; after = after; faults_before = faults_before; faults_after = faults_after }

-- nothing was read
pub record IsUnread (read : Reading) : Type 0 where
  pub bytes : read.after ≡ read.before
  pub faults : read.faults_after ≡ read.faults_before

-- what became of the three sources
pub record Readings : Type 0 where
  pub problem : Reading
  pub certificate : Reading
  pub moves : Reading

abbrev pub readings : Reading → Reading → Reading → Readings
readings problem certificate moves = record { problem = problem; certificate = certificate; moves = moves }

-- the problem alone may have been read
pub record ReadsProblemAlone (read : Readings) : Type 0 where
  pub certificate : IsUnread read.certificate
  pub moves : IsUnread read.moves

-- none of them was read
pub record AreUnread (read : Readings) : Type 0 where
  pub problem : IsUnread read.problem
  pub certificate : IsUnread read.certificate
  pub moves : IsUnread read.moves

-- What is told by what was read of a source of this name, which may have so many bytes: what is told of its bytes where it
-- was read to its end; else why it wasn't. `Behind` is what then became of the sources that are read behind it.
pub data Tells (name : List ℕ) (most : ℕ) (Behind : Type 0) (OfBytes : List ℕ → ℕ → List ℕ → Type 0) (read : Reading) (status : ℕ) (text : List ℕ) : Type 0 where
  -- it was read to its end
  whole_text : (bytes : List ℕ) → Consumes read.before read.after bytes → IsAtEnd read.after → length bytes ≤ most → OfBytes bytes status text
      → Tells name most Behind OfBytes read status text
  -- it is longer than the limit
  longer : (bytes : List ℕ) → Consumes read.before read.after bytes → length bytes ≡ most + 1 → Behind → status ≡ 6 → text ≡ line (codes "limit " ++ name)
      → Tells name most Behind OfBytes read status text
  -- it failed
  failed : TookSome read.before read.after (most + 1) → Rose read.faults_before read.faults_after → Behind → status ≡ 3 → text ≡ line (codes "read " ++ name)
      → Tells name most Behind OfBytes read status text
  -- there was no memory for the bytes
  no_room : TookSome read.before read.after (most + 1) → Behind → status ≡ 10 → text ≡ line (codes "memory") → Tells name most Behind OfBytes read status text
