-- A text as bytes, a text put into a buffer, and one written by a writer. Not here: what the texts say (Cells.antt), and the laws (proofs/Putting).
use Prim.Native.Char.{code}
use Rattle.std.specs.Prelude.{◌+◌, ◌-◌, min, ℕ, length, List, [], ◌∷◌, ◌≡◌}
use Prim.Native.String.{String}
use Prim.Native.String.{[] as none, ◌∷◌ as ◌then◌}
use Rattle.std.proofs.lemmas.List.Edits.{sets}
use Rattle.texts.specs.declared.Writer.{Writer}

-- the bytes of a quoted text, whose characters are all below 128
abbrev pub bytes : String → List ℕ
bytes none = []
bytes (c then s) = code c ∷ bytes s

-- the buffer with a text written into it from place `at` on: byte by byte, those past the buffer's end left out
unfoldable pub put : List ℕ → ℕ → List ℕ → List ℕ
put out at text = sets out at text

-- a text put into a buffer: the place behind it, which stays at the end of a buffer without room; and the buffer after, in which no other
-- byte changed
pub record Put (before : List ℕ) (at : ℕ) (text : List ℕ) (end : ℕ) (now : List ℕ) : Type 0 where
  pub place : end ≡ at + min (length text) (length before - at)
  pub bytes : now ≡ put before at text

-- a text written: put at the writer's place, and the buffer is the one that it was
pub record Wrote (before : Writer) (text : List ℕ) (now : Writer) : Type 0 where
  pub put : Put before.out.now before.end text now.end now.out.now
  pub same_buffer : now.out.ghost_name ≡ before.out.ghost_name
