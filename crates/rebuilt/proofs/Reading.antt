-- A text of lines of eight numbers, read by the drill runner: each line is its numbers. In order: no newline stands in a line;
-- the lines of the text; the numbers of each. Not here: what the calls do (Building.antt). Assumes nothing.
use Prim.Native.Nat.{suc, ℕ}
use Rattle.lines.proofs.Bools.{and_both, and_l, and_r}
use Rattle.lines.proofs.Pieces.{keeps_first, lacks, pieces_lacking, pieces_sep}
use Rattle.lines.proofs.Texts.{decimal_lacks, list_of-call_of, read-text, within}
use Rattle.lines.specs.Lines.{Line, all, call_of, decimal, field_count, joined, line_of, lines_of, newline, numbered, pieces_from, printed, read_lines, space, spaced, text_of, without_empty_last}
use Rattle.listing.specs.Listing.{text_of_lines}
use Rattle.rebuilt.specs.Rebuilt.{Every}
use borrow.Author.Tests.{eq-eqb}
use lib.Dec.{eqb}
use Rattle.std.specs.Prelude.{Ok}
use lib.ListN.{length}
use mathlib.Core.Bool.{not, true}
use mathlib.Core.List.{List, [], ◌++◌, ◌∷◌, append_assoc, map}
use mathlib.Core.Path.{◌∙◌, ◌≡◌, ap, ap₂, refl, sym}
use native.Mathlib.Omega.{arith}

-- ---- no newline stands in a line

lacks_join : (sep : ℕ) (a b : List ℕ) → lacks sep a ≡ true → lacks sep b ≡ true → lacks sep (a ++ b) ≡ true
unfolding all
lacks_join sep [] b p q = q
lacks_join sep (x ∷ a) b p q =
    and_both (not (eqb x sep)) (lacks sep (a ++ b)) (and_l (not (eqb x sep)) (lacks sep a) p) (lacks_join sep a b (and_r (not (eqb x sep)) (lacks sep a) p) q)

spaced_lacks : (ns : List ℕ) → lacks newline (spaced ns) ≡ true
unfolding all joined spaced
spaced_lacks [] = refl
spaced_lacks (n ∷ []) = decimal_lacks newline (omega arith) n
spaced_lacks (n ∷ m ∷ ns) = lacks_join newline (decimal n) (space ∷ joined space (map decimal (m ∷ ns))) (decimal_lacks newline (omega arith) n) (spaced_lacks (m ∷ ns))

-- ---- the lines of the text

lines-text : (ls : List (List ℕ)) → lines_of (text_of_lines ls) ≡ map spaced ls
unfolding lines_of pieces_from printed text_of_lines without_empty_last
lines-text [] = refl
lines-text (l ∷ ls) =
    ap (λ (b : List ℕ). without_empty_last (pieces_from newline [] b)) (append_assoc (spaced l) (newline ∷ []) (text_of_lines ls))
    ∙ ap without_empty_last (pieces_lacking newline [] (spaced l) (newline ∷ text_of_lines ls) (spaced_lacks l) ∙ pieces_sep newline (spaced l) (text_of_lines ls) newline (eq-eqb newline newline refl))
    ∙ keeps_first newline (spaced l) [] (text_of_lines ls)
    ∙ ap {B = List (List ℕ)} (λ r. spaced l ∷ r) (lines-text ls)

-- ---- the numbers of each

-- eight numbers within the limit
abbrev pub Eight : List ℕ → Type 0
Eight l = (length l ≡ field_count) × (within l ≡ true)

abbrev pub good : List ℕ → Line
good l = Ok (call_of l)

line_read : (n : ℕ) (l : List ℕ) → Eight l → line_of n (spaced l) ≡ good l
unfolding text_of
line_read n l (e, w) =
    let same = list_of-call_of l e in
    ap (λ (x : List ℕ). line_of n (spaced x)) (sym same) ∙ read-text n (call_of l) (rw same w)

numbered-read : (n : ℕ) (ls : List (List ℕ)) → Every Eight ls → numbered n (map spaced ls) ≡ map good ls
unfolding Every numbered
numbered-read n [] e = refl
numbered-read n (l ∷ ls) e = ap₂ {C = List Line} (λ x r. x ∷ r) (line_read n l e.0) (numbered-read (suc n) ls e.1)

pub text-read : (ls : List (List ℕ)) → Every Eight ls → read_lines (text_of_lines ls) ≡ map good ls
unfolding read_lines
text-read ls e = ap (numbered 1) (lines-text ls) ∙ numbered-read 1 ls e
