-- A chunk answered in several blocks of output. In order: what stays the same while blocks are written out; its start; a block
-- that is full; the chunk's end; then what a loop over chunks keeps.
use Prim.Native.Nat.{◌+◌, ◌≤◌, ℕ}
use Rattle.drill.specs.Turns.{Behind}
use Rattle.lines.specs.Lines.{print_room}
use Rattle.lines.specs.Scan.{after, ended}
use Rattle.lines.specs.declared.Scan.{Scan}
use Rattle.runner.proofs.Runs.{table_append}
use Rattle.runner.specs.Runner.{AllOf, ChunkAnswered, UpTo, table_through}
use Rattle.runner.specs.declared.Answered.TheVariants.{Drained, Full}
use Rattle.runner.specs.declared.Answered.{Answered}
use lib.ListN.{drop, length}
use mathlib.Core.List.{List}
use mathlib.Core.Path.{◌∙◌, ◌≡◌, ap, refl, sym}

-- what is left from place i on leads to the table and the state behind the whole chunk, and a line has room
pub record Going (chunk : List ℕ) (s₀ : Scan) (t₀ out₀ t out : List ℕ) (s : Scan) (end i : ℕ) : Type 0 where
  pub table : table_through t (ended s (drop i chunk)) ≡ table_through t₀ (ended s₀ chunk)
  pub state : after s (drop i chunk) ≡ after s₀ chunk
  pub room : end + print_room ≤ length out
  pub bytes : length out ≡ length out₀
  pub words : length t ≡ length t₀

module _ (chunk : List ℕ) (s₀ : Scan) (t₀ out₀ : List ℕ) where
  pub going : (at : ℕ) → at + print_room ≤ length out₀ → Going chunk s₀ t₀ out₀ t₀ out₀ s₀ at 0
  going at h = record { table = refl; state = refl; room = h; bytes = refl; words = refl }

  module _ (t out : List ℕ) (s : Scan) (end i : ℕ) (g : Going chunk s₀ t₀ out₀ t out s end i) (r : Answered) (t' out' : List ℕ)
      (a : ChunkAnswered chunk i s t out end r t' out') where
    pub full : (s' : Scan) (end' j : ℕ) → r ≡ Full s' end' j → UpTo chunk i s t out end s' end' j t' out'
    full s' end' j e = rw e at a

    -- a full block is written out, and the next begins at the buffer's start
    pub next_block : (s' : Scan) (end' j : ℕ) → r ≡ Full s' end' j → print_room ≤ length out' → length out' ≡ length out → length t' ≡ length t
        → Going chunk s₀ t₀ out₀ t' out' s' 0 j
    next_block s' end' j e h b w =
        let u : UpTo chunk i s t out end s' end' j t' out' = full s' end' j e in
        record {
          table =
              ap (λ (x : List ℕ). table_through x (ended s' (drop j chunk))) u.answered.table
              ∙ sym (table_append t u.ls (ended s' (drop j chunk)))
              ∙ ap (table_through t) (sym u.split.lines)
              ∙ g.table;
          state = sym u.split.state ∙ g.state;
          room = h;
          bytes = b ∙ g.bytes;
          words = w ∙ g.words;
        }

    pub behind : (s' : Scan) (end' : ℕ) → r ≡ Drained s' end' → Behind s₀ chunk t₀ s' end' t' out'
    behind s' end' e =
        let d : AllOf s (drop i chunk) t out end s' end' t' out' = rw e at a in
        record { table = d.answered.table ∙ g.table; state = d.state ∙ g.state; room = d.room }

-- ---- a loop over chunks: the slices keep their lengths, and a line has room

pub record Reading (t₀ input₀ out₀ t input out : List ℕ) (at : ℕ) : Type 0 where
  pub room : at + print_room ≤ length out
  pub words : length t ≡ length t₀
  pub read : length input ≡ length input₀
  pub bytes : length out ≡ length out₀
