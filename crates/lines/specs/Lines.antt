-- What the drill runner reads and prints, byte by byte: definitions alone, in the words of document 01, "Panel edges".
-- In order: the paper's numbers; a text in pieces; the lines of an input; a number and its text; a good line and its
-- call; what is printed. Not here: the reader's state (Scan.antt) and the laws (proofs/).
use Rattle.std.specs.Prelude.{◌%◌, ◌*◌, ◌+◌, ◌-◌, ◌/◌, suc, zero, ℕ, eqb, leb, ltb, drop, get_or, length, take, Bool, ◌&&◌, cond, false, not, true, List, [], ◌++◌, ◌∷◌, map, ◌≡◌, Err, Ok, Result}
use Rattle.lines.specs.declared.BadLine.{BadLine}
use Rattle.rules.specs.declared.Call.{Call}

-- ---- the paper's numbers, and the bytes it names

-- "seven decimal numbers", and M-105: "Calls and lines get an eighth number"
abbrev pub field_count : ℕ
field_count = 8

-- "up to 4,294,967,295"
abbrev pub number_limit : ℕ
number_limit = 4_294_967_295

-- "at most 80 bytes without the newline", since M-105 "at most 90 bytes"
abbrev pub line_limit : ℕ
line_limit = 90

abbrev pub newline : ℕ
newline = 10

abbrev pub space : ℕ
space = 32

-- the byte of the digit 0; the others follow it
abbrev pub zero_digit : ℕ
zero_digit = 48

-- the room that a caller leaves for one printed line
abbrev pub print_room : ℕ
print_room = 64

-- ---- a text in pieces

-- the pieces of a text that a separating byte parts, of which p has been read already
unfoldable pub pieces_from : ℕ → List ℕ → List ℕ → List (List ℕ)
pieces_from sep p [] = p ∷ []
pieces_from sep p (b ∷ bs) = elim (eqb b sep) [ true ↦ p ∷ pieces_from sep [] bs | false ↦ pieces_from sep (p ++ b ∷ []) bs ]

abbrev pub pieces : ℕ → List ℕ → List (List ℕ)
pieces sep bs = pieces_from sep [] bs

-- the other way: pieces joined by a separating byte
unfoldable pub joined : ℕ → List (List ℕ) → List ℕ
joined sep [] = []
joined sep (p ∷ []) = p
joined sep (p ∷ q ∷ ps) = p ++ sep ∷ joined sep (q ∷ ps)

-- ---- the lines of an input

-- "the last newline may be missing, and where it stands no further line follows it": an empty last piece is no line
unfoldable pub without_empty_last : List (List ℕ) → List (List ℕ)
without_empty_last [] = []
without_empty_last ([] ∷ []) = []
without_empty_last ((b ∷ bs) ∷ []) = (b ∷ bs) ∷ []
without_empty_last (p ∷ q ∷ ps) = p ∷ without_empty_last (q ∷ ps)

-- the lines of an input, each without its newline; "empty input has no lines"
unfoldable pub lines_of : List ℕ → List (List ℕ)
lines_of input = without_empty_last (pieces newline input)

-- ---- a number and its text

-- the digits of n, the most significant first, where n has at most f + 1 of them
unfoldable pub digits : ℕ → ℕ → List ℕ
digits zero n = (zero_digit + n) ∷ []
digits (suc f) n = elim (ltb n 10) [ true ↦ (zero_digit + n) ∷ [] | false ↦ digits f (n / 10) ++ (zero_digit + n % 10) ∷ [] ]

-- n in decimal
unfoldable pub decimal : ℕ → List ℕ
decimal n = digits n n

abbrev pub is_digit : ℕ → Bool
is_digit b = leb zero_digit b && leb b (zero_digit + 9)

-- each passes the test
unfoldable pub all {ℓ} : {A : Type ℓ} → (A → Bool) → List A → Bool
all p [] = true
all p (x ∷ xs) = p x && all p xs

-- digits, at least one, with "no leading zeros": 0 is such a text, 00 and 07 are not
unfoldable pub is_decimal : List ℕ → Bool
is_decimal [] = false
is_decimal (d ∷ []) = is_digit d
is_decimal (d ∷ e ∷ ds) = is_digit d && not (eqb d zero_digit) && all is_digit (e ∷ ds)

-- the number that digits say, where v is what the digits before them say
unfoldable pub value_from : ℕ → List ℕ → ℕ
value_from v [] = v
value_from v (d ∷ ds) = value_from (v * 10 + (d - zero_digit)) ds

abbrev pub value : List ℕ → ℕ
value ds = value_from 0 ds

-- "decimal numbers up to 4,294,967,295 .. no leading zeros"
unfoldable pub is_number : List ℕ → Bool
is_number w = is_decimal w && leb (value w) number_limit

-- ---- a good line and its call

-- "service, caller, target, side, mode, ticks, word", and M-105's "eighth number, the high word"
unfoldable pub call_of : List ℕ → Call
call_of ns =
    record {
      service = get_or ns 0 0;
      caller = get_or ns 1 0;
      target = get_or ns 2 0;
      side = get_or ns 3 0;
      mode = get_or ns 4 0;
      ticks = get_or ns 5 0;
      word = get_or ns 6 0;
      high = get_or ns 7 0;
    }

abbrev pub list_of : Call → List ℕ
list_of x = x.service ∷ x.caller ∷ x.target ∷ x.side ∷ x.mode ∷ x.ticks ∷ x.word ∷ x.high ∷ []

-- the words that single spaces part are eight numbers
unfoldable pub are_numbers : List (List ℕ) → Bool
are_numbers ws = eqb (length ws) field_count && all is_number ws

-- "seven decimal numbers up to 4,294,967,295, one space between, no leading zeros, at most 80 bytes without the newline";
-- with M-105 eight of them, and 90 bytes
unfoldable pub is_good : List ℕ → Bool
is_good line = leb (length line) line_limit && are_numbers (pieces space line)

-- a line that is read: "A call is seven numbers", with M-105 eight; or the number of one that is no call
abbrev pub Line : Type 0
Line = Result Call BadLine

-- line n of an input: its call, "or for any other line `line N bad`"
unfoldable pub line_of : ℕ → List ℕ → Line
line_of n line = cond (is_good line) (Ok (call_of (map value (pieces space line)))) (Err (record { line = n }))

-- lines, the first of which is line n
unfoldable pub numbered : ℕ → List (List ℕ) → List Line
numbered n [] = []
numbered n (l ∷ ls) = line_of n l ∷ numbered (suc n) ls

-- what an input says, line by line, "lines counted from 1"
unfoldable pub read_lines : List ℕ → List Line
read_lines input = numbered 1 (lines_of input)

-- ---- what is printed

-- numbers in decimal, one space between
unfoldable pub spaced : List ℕ → List ℕ
spaced ns = joined space (map decimal ns)

-- the text of a good line with this call, the only one (proofs/Texts.antt, `good_line`)
unfoldable pub text_of : Call → List ℕ
text_of x = spaced (list_of x)

-- "It prints refusal, answer and next", with M-104 "four numbers per call": numbers on a line of their own
unfoldable pub printed : List ℕ → List ℕ
printed ns = spaced ns ++ newline ∷ []

-- "or for any other line `line N bad`": l i n e and a space, the number, a space and b a d
unfoldable pub bad_text : ℕ → List ℕ
bad_text n = (108 ∷ 105 ∷ 110 ∷ 101 ∷ 32 ∷ []) ++ decimal n ++ (32 ∷ 98 ∷ 97 ∷ 100 ∷ newline ∷ [])

-- a text put into a buffer at a place: where it ends, and the buffer after, in which no other byte changed
pub record Put (before : List ℕ) (at : ℕ) (text : List ℕ) (end : ℕ) (now : List ℕ) : Type 0 where
  pub place : end ≡ at + length text
  pub bytes : now ≡ take at before ++ text ++ drop (at + length text) before
