-- Two tables as the code is handed them: what Rows.antt says of their words, said of a pair of views.
use Rattle.std.specs.Prelude.{ℕ, Bool, List}
use Rattle.rows.specs.Rows.{apart, differ, marked, marked_in, shown}
use Rattle.rows.specs.declared.Pair.{Pair}
use Rattle.rows.specs.declared.Row.{Row}

-- some of n words from place p on differs
abbrev pub differ_from : Pair → ℕ → ℕ → Bool
differ_from v p n = differ v.left.words.now v.right.words.now p n

abbrev pub is_apart : Pair → Row → Bool
is_apart v r = apart v.left.ts.words v.left.words.now v.right.words.now v.left.runs v.right.runs r

abbrev pub is_marked : Pair → Row → Bool
is_marked v r = marked v.left.ts.words v.left.words.now v.right.words.now v.left.runs v.right.runs r

abbrev pub is_shown : Pair → Row → Bool
is_shown v r = shown v.left.ts.words v.left.words.now v.right.words.now v.left.runs v.right.runs r

abbrev pub how_many_marked : Pair → List Row → ℕ
how_many_marked v rs = marked_in v.left.ts.words v.left.words.now v.right.words.now v.left.runs v.right.runs rs
