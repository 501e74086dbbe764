-- The lines of M-106's entries: place, old word and new word of each, in decimal, one space between.
use Rattle.std.specs.Prelude.{◌+◌, suc, zero, ℕ, get_or, List, [], ◌++◌, ◌∷◌}
use Rattle.lines.specs.Lines.{printed}

-- of n entries whose words stand one behind the other, the first at word p
unfoldable pub entry_lines : List ℕ → ℕ → ℕ → List ℕ
entry_lines ws p zero = []
entry_lines ws p (suc n) = printed (get_or ws p 0 ∷ get_or ws (p + 1) 0 ∷ get_or ws (p + 2) 0 ∷ []) ++ entry_lines ws (p + 3) n
