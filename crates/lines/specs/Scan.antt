-- The reader as a state over the bytes of a line so far: what each function of this crate that reads does, definitions alone.
-- In order: the state and its steps; a line's end; a chunk, and an input in chunks. That this reads a line and an input as
-- Lines.antt has it is proved in proofs/Reading.antt (`read-line`) and proofs/Chunks.antt (`read_chunks`).
use Rattle.std.specs.Prelude.{◌*◌, ◌+◌, ◌-◌, ℕ, eqb, leb, ltb, Bool, ◌&&◌, cond, false, not, true, List, [], ◌++◌, ◌∷◌, Err, None, Ok, Some, is_none}
use Rattle.lines.specs.Lines.{Line, field_count, newline, number_limit, space, zero_digit}
use Rattle.lines.specs.declared.Progress.TheVariants.{Ended, More}
use Rattle.lines.specs.declared.Progress.{Progress}
use Rattle.lines.specs.declared.Scan.{Scan}
use Rattle.rules.specs.declared.Call.{Call}

-- ---- the state, and a byte of a line

abbrev pub no_numbers : Call
no_numbers = record { service = 0; caller = 0; target = 0; side = 0; mode = 0; ticks = 0; word = 0; high = 0 }

-- the numbers move one field up, and v comes last: after as many as there are fields, each is in its own
abbrev pub push : Call → ℕ → Call
push x v =
    record {
      service = x.caller;
      caller = x.target;
      target = x.side;
      side = x.mode;
      mode = x.ticks;
      ticks = x.word;
      word = x.high;
      high = v;
    }

-- line n, no byte of it read
abbrev pub start_of : ℕ → Scan
start_of n = record { line = n; bad = false; fields = 0; call = no_numbers; number = None }

-- the line is bad, whatever follows
abbrev pub spoilt : Scan → Scan
spoilt s = record s { bad = true }

-- the digit d: the first of a number; or one behind those that say v, which is no leading 0
unfoldable pub digit_step : Scan → ℕ → Scan
digit_step s d =
    elim s.number [
      | None ↦ record s { number = Some d }
      | Some v ↦ cond (not (eqb v 0) && leb (v * 10 + d) number_limit) (record s { number = Some (v * 10 + d) }) (spoilt s)
    ]

-- a space ends a number, and another has to follow
unfoldable pub space_step : Scan → Scan
space_step s =
    elim s.number [
      | None ↦ spoilt s
      | Some v ↦
          cond (ltb s.fields (field_count - 1))
          (record s { fields = s.fields + 1; call = push s.call v; number = None })
          (spoilt s)
    ]

-- any byte but a newline
unfoldable pub byte_step : Scan → ℕ → Scan
byte_step s b =
    cond s.bad s
    (cond (ltb b zero_digit)
    (cond (eqb b space) (space_step s) (spoilt s))
    (cond (ltb (zero_digit + 9) b) (spoilt s) (digit_step s (b - zero_digit))))

-- the bytes of a line, or some of them
unfoldable pub scanned : Scan → List ℕ → Scan
scanned s [] = s
scanned s (b ∷ bs) = scanned (byte_step s b) bs

-- ---- a line's end

-- the line that ends here: good where it stands in the last number
unfoldable pub line_of_scan : Scan → Line
line_of_scan s =
    elim s.number [
      | None ↦ Err (record { line = s.line })
      | Some v ↦ cond (not s.bad && eqb s.fields (field_count - 1)) (Ok (push s.call v)) (Err (record { line = s.line }))
    ]

-- the highest number that a line is given, that of a u64
abbrev pub last_number : ℕ
last_number = 18_446_744_073_709_551_615

-- the state at the start of the next line, which bears the next number; the highest one stays
unfoldable pub next_of : Scan → Scan
next_of s = start_of (cond (ltb s.line last_number) (s.line + 1) s.line)

-- no byte of the line is read
unfoldable pub is_fresh : Scan → Bool
is_fresh s = not s.bad && eqb s.fields 0 && is_none s.number

-- ---- a chunk, and an input in chunks

-- the bytes of a chunk from its place i on, up to the first newline
unfoldable pub progress_of : ℕ → Scan → List ℕ → Progress
progress_of i s [] = More s
progress_of i s (b ∷ bs) =
    elim (eqb b newline) [ true ↦ Ended (line_of_scan s) (next_of s) (i + 1) | false ↦ progress_of (i + 1) (byte_step s b) bs ]

-- the state after a chunk
unfoldable pub after : Scan → List ℕ → Scan
after s [] = s
after s (b ∷ bs) = after (cond (eqb b newline) (next_of s) (byte_step s b)) bs

-- the lines that end in a chunk
unfoldable pub ended : Scan → List ℕ → List Line
ended s [] = []
ended s (b ∷ bs) = elim (eqb b newline) [ true ↦ line_of_scan s ∷ ended (next_of s) bs | false ↦ ended (byte_step s b) bs ]

-- the line that ends with the input
unfoldable pub last_of : Scan → List Line
last_of s = cond (is_fresh s) [] (line_of_scan s ∷ [])

-- the input that chunks make up
unfoldable pub whole : List (List ℕ) → List ℕ
whole [] = []
whole (c ∷ cs) = c ++ whole cs

-- the lines of an input that comes in chunks
unfoldable pub fed : Scan → List (List ℕ) → List Line
fed s [] = last_of s
fed s (c ∷ cs) = ended s c ++ fed (after s c) cs
