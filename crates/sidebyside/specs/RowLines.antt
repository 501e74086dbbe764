-- The line of a row, and the text of all. `ts` is how many words a task record has, `runs` the running task plus 1, or 0.
-- Not here: which rows there are, and which are marked (crate rows); what a row says (crate rowtexts).
use Rattle.std.specs.Prelude.{ℕ, cond, List, [], ◌++◌, ◌∷◌}
use Rattle.rows.specs.Rows.{marked, shown}
use Rattle.rows.specs.declared.Pair.{Pair}
use Rattle.rows.specs.declared.Row.{Row}
use Rattle.rowtexts.specs.RowTexts.{cell, mark_text, title}
use Rattle.texts.specs.Texts.{bytes}

-- ---- a line: mark, subject, what, the first table's cell, the second's, with a tab between

unfoldable pub line_text : ℕ → List ℕ → List ℕ → ℕ → ℕ → Row → List ℕ
line_text ts a b runs runs' r =
    mark_text (marked ts a b runs runs' r) ++ title r ++ cell ts a runs r ++ bytes "\t" ++ cell ts b runs' r ++ bytes "\n"

-- nothing of a row that isn't shown
unfoldable pub row_text : ℕ → List ℕ → List ℕ → ℕ → ℕ → Row → List ℕ
row_text ts a b runs runs' r = cond (shown ts a b runs runs' r) (line_text ts a b runs runs' r) []

-- ---- the text of rows

unfoldable pub rows_text : ℕ → List ℕ → List ℕ → ℕ → ℕ → List Row → List ℕ
rows_text ts a b runs runs' [] = []
rows_text ts a b runs runs' (r ∷ rs) = row_text ts a b runs runs' r ++ rows_text ts a b runs runs' rs

-- ---- the same of two tables as the code is handed them

abbrev pub line_of : Pair → Row → List ℕ
line_of v r = line_text v.left.ts.words v.left.words.now v.right.words.now v.left.runs v.right.runs r

abbrev pub row_of : Pair → Row → List ℕ
row_of v r = row_text v.left.ts.words v.left.words.now v.right.words.now v.left.runs v.right.runs r

abbrev pub rows_of : Pair → List Row → List ℕ
rows_of v rs = rows_text v.left.ts.words v.left.words.now v.right.words.now v.left.runs v.right.runs rs
