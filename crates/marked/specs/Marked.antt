-- Document 01's "marked set" as one table: eleven calls with what is printed, and the line that is no call. In order: the
-- rows; the input that they are; what is printed for it.
use Rattle.std.specs.Prelude.{ℕ, List, [], ◌++◌, ◌∷◌}
use Rattle.lines.specs.Lines.{bad_text, newline, printed, spaced}

-- a line's eight numbers; refusal, answer, next and ahead
pub record Row : Type 0 where
  pub line : List ℕ
  pub shown : List ℕ

abbrev pub row : ℕ → ℕ → ℕ → ℕ → ℕ → ℕ → ℕ → ℕ → ℕ → ℕ → ℕ → ℕ → Row
row service caller target side mode ticks word high refusal answer next ahead =
    record {
      line = service ∷ caller ∷ target ∷ side ∷ mode ∷ ticks ∷ word ∷ high ∷ [];
      shown = refusal ∷ answer ∷ next ∷ ahead ∷ [];
    }

-- | line | printed |, with M-105's eighth number on the line, which is 0 here, and M-104's fourth of those printed: two callers have
-- to wait, each alone at the hub
unfoldable pub rows : List Row
rows =
    row 0 0 0 0 0 0 0 0 0 0 0 0
    ∷ row 9 0 5 1 0 0 0 0 0 0 1 0
    ∷ row 9 0 3 1 0 0 0 0 0 0 2 0
    ∷ row 10 0 4 0 0 1 0 0 0 0 2 0
    ∷ row 1 1 0 2 3 2 0 0 0 0 1 0
    ∷ row 1 0 0 1 1 0 77 0 0 1 2 0
    ∷ row 1 0 0 1 1 0 5 0 4 0 0 0
    ∷ row 1 1 0 1 2 0 9 0 0 1 2 0
    ∷ row 1 1 0 1 2 0 10 0 0 2 2 0
    ∷ row 1 1 0 1 3 1 10 0 0 0 1 0
    ∷ row 8 0 0 0 0 0 0 0 0 0 2 0
    ∷ []

-- "`x`", whose byte is 120
abbrev pub x : List ℕ
x = 120 ∷ []

unfoldable pub input_of : List Row → List ℕ
input_of [] = x ++ newline ∷ []
input_of (r ∷ rs) = spaced r.line ++ newline ∷ input_of rs

-- "`line 12 bad`"
unfoldable pub output_of : List Row → List ℕ
output_of [] = bad_text 12
output_of (r ∷ rs) = printed r.shown ++ output_of rs
