-- Lines answered one after the other. In order: their texts and tables over ++; an input in any chunks (`fed-text`); lines
-- answered into a buffer: one, none, the last, and further ones; a loop over a chunk: its start, a turn, and its two ends.
use Prim.Native.Nat.{◌+◌, ◌<◌, ◌≤◌, ℕ}
use Rattle.kernel.specs.Promise.{Called}
use Rattle.lines.proofs.Chunks.{Rest, Turn, read_chunks, rest, turn}
use Rattle.lines.proofs.Putting.{put_append}
use Rattle.lines.specs.Lines.{Line, Put, bad_text, lines_of, print_room, printed}
use Rattle.lines.specs.Scan.{after, ended, fed, is_fresh, last_number, last_of, progress_of, start_of, whole}
use Rattle.lines.specs.declared.BadLine.{BadLine}
use Rattle.lines.specs.declared.Progress.TheVariants.{Ended, More}
use Rattle.lines.specs.declared.Scan.{Scan}
use Rattle.rules.specs.Reply.{answer_number, refusal_number, reply_to}
use Rattle.rules.specs.declared.Call.{Call}
use Rattle.rules.specs.declared.Reply.{Reply}
use Rattle.runner.specs.Runner.{AllOf, Lines, Split, UpTo, drill_text, fed_text, reply_text, table_on, table_through, text_on, text_through, zeros}
use Rattle.std.specs.Prelude.{Err, Ok}
use lib.ListN.{drop, length, take, take-append-drop}
use mathlib.Core.Bool.{true}
use mathlib.Core.List.{List, [], ◌++◌, ◌∷◌, append_assoc, append-nil}
use mathlib.Core.Path.{◌∙◌, ◌≡◌, ap, refl, sym}
use native.Mathlib.Nat.{add-zero}
use native.Mathlib.Omega.{arith}

-- ---- texts and tables

pub table_append : (t : List ℕ) (a b : List Line) → table_through t (a ++ b) ≡ table_through (table_through t a) b
unfolding table_through
table_append t [] b = refl
table_append t (l ∷ a) b = table_append (table_on t l) a b

text_append : (t : List ℕ) (a b : List Line) → text_through t (a ++ b) ≡ text_through t a ++ text_through (table_through t a) b
unfolding table_through text_through
text_append t [] b = refl
text_append t (l ∷ a) b =
    ap (λ (x : List ℕ). text_on t l ++ x) (text_append (table_on t l) a b)
    ∙ sym (append_assoc (text_on t l) (text_through (table_on t l) a) (text_through (table_through (table_on t l) a) b))

-- ---- an input in chunks

fed-through : (t : List ℕ) (s : Scan) (cs : List (List ℕ)) → fed_text t s cs ≡ text_through t (fed s cs)
unfolding fed fed_text
fed-through t s [] = refl
fed-through t s (c ∷ cs) =
    ap (λ (x : List ℕ). text_through t (ended s c) ++ x) (fed-through (table_through t (ended s c)) (after s c) cs)
    ∙ sym (text_append t (ended s c) (fed (after s c) cs))

-- a runner that is fed any input in any chunks prints the drill's text; the input has fewer lines than the highest number
pub fed-text : (cs : List (List ℕ)) → length (lines_of (whole cs)) < last_number → fed_text zeros (start_of 1) cs ≡ drill_text (whole cs)
unfolding drill_text
fed-text cs h = fed-through zeros (start_of 1) cs ∙ ap (text_through zeros) (read_chunks cs h)

-- ---- lines answered into a buffer

-- a good line's call, and its reply written out
pub answered-call : (t out : List ℕ) (at : ℕ) (call : Call) (r : Reply) (a b end : ℕ) (t' out' : List ℕ) → Called t call r t'
    → a ≡ refusal_number r.answer → b ≡ answer_number r.answer → Put out at (printed (a ∷ b ∷ r.next ∷ r.ahead ∷ [])) end out' → end ≤ length out'
    → Lines t (Ok call ∷ []) out at end t' out'
unfolding reply_text table_through text_through
answered-call t out at call r a b end t' out' k ea eb p f =
    let text : printed (a ∷ b ∷ r.next ∷ r.ahead ∷ []) ≡ reply_text (reply_to t call) = rw (ea, eb) (ap reply_text k.reply) in
    record {
      table = k.table;
      text = rw (append-nil (reply_text (reply_to t call)), ← text) p;
      fits = f;
    }

pub answered_bad : (t out : List ℕ) (at : ℕ) (bad : BadLine) (end : ℕ) (out' : List ℕ) → Put out at (bad_text bad.line) end out' → end ≤ length out'
    → Lines t (Err bad ∷ []) out at end t out'
unfolding table_through text_through
answered_bad t out at bad end out' p f = record { table = refl; text = rw (append-nil (bad_text bad.line)) p; fits = f }

lines_none : (t out : List ℕ) (at : ℕ) → at ≤ length out → Lines t [] out at at t out
unfolding table_through text_through
lines_none t out at h =
    record {
      table = refl;
      text = record {
        place = sym (add-zero at);
        bytes = sym (rw (add-zero at, append-nil (take at out)) (take-append-drop at out));
      };
      fits = h;
    }

-- the last line of an input, none where no byte of it is read
pub last_none : (t out : List ℕ) (at : ℕ) (s : Scan) → at ≤ length out → is_fresh s ≡ true → Lines t (last_of s) out at at t out
unfolding last_of
last_none t out at s h e = rw e (lines_none t out at h)

-- lines, and further lines on the table and behind the text of those before
module _ (t out : List ℕ) (at : ℕ) (a : List Line) (end : ℕ) (t₁ out₁ : List ℕ) (p : Lines t a out at end t₁ out₁) (h : end ≤ length out) where
  lines_more : (b : List Line) (last : ℕ) (t₂ out₂ : List ℕ) → Lines t₁ b out₁ end last t₂ out₂ → Lines t (a ++ b) out at last t₂ out₂
  lines_more b last t₂ out₂ q =
      let e : t₁ ≡ table_through t a = p.table in
      let y : Put out₁ end (text_through (table_through t a) b) last out₂ = rw e at q.text in
      record {
        table = q.table ∙ ap (λ (x : List ℕ). table_through x b) e ∙ sym (table_append t a b);
        text =
            rw (text_append t a b)
            (put_append out at (text_through t a) end out₁ p.text (omega (arith, p.text.place)) (text_through (table_through t a) b) last out₂ y);
        fits = q.fits;
      }

-- ---- a loop over a chunk

-- from place i₀ on, lines are answered up to place i, and another has room
pub record Going (chunk : List ℕ) (i₀ : ℕ) (s₀ : Scan) (t₀ out₀ : List ℕ) (at : ℕ) (t out : List ℕ) (s : Scan) (end i : ℕ) : Type 0 where
  pub ls : List Line
  pub split : Split s₀ (drop i₀ chunk) ls s (drop i chunk)
  pub answered : Lines t₀ ls out₀ at end t out
  pub start : i₀ ≤ i
  pub room : end + print_room ≤ length out
  pub bytes : length out ≡ length out₀
  pub words : length t ≡ length t₀

module _ (chunk : List ℕ) (i₀ : ℕ) (s₀ : Scan) (t₀ out₀ : List ℕ) (at : ℕ) where
  pub going : at + print_room ≤ length out₀ → Going chunk i₀ s₀ t₀ out₀ at t₀ out₀ s₀ at i₀
  going h =
      record {
        ls = [];
        split = record { lines = refl; state = refl };
        answered = lines_none t₀ out₀ at (omega arith);
        start = omega arith;
        room = h;
        bytes = refl;
        words = refl;
      }

  module _ (t out : List ℕ) (s : Scan) (end i : ℕ) (g : Going chunk i₀ s₀ t₀ out₀ at t out s end i) where
    -- one more line, which ends before place j
    pub one_more : (x : Line) (s' : Scan) (j : ℕ) → progress_of i s (drop i chunk) ≡ Ended x s' j
        → (end' : ℕ) (t' out' : List ℕ) → Lines t (x ∷ []) out end end' t' out'
        → UpTo chunk i₀ s₀ t₀ out₀ at s' end' j t' out'
    one_more x s' j e end' t' out' l =
        let k : Turn chunk i s x s' j = turn chunk i s x s' j e in
        let p : Split s₀ (drop i₀ chunk) g.ls s (drop i chunk) = g.split in
        record {
          ls = g.ls ++ x ∷ [];
          split = record {
            lines =
                p.lines
                ∙ ap (λ (m : List Line). g.ls ++ m) k.lines
                ∙ sym (append_assoc g.ls (x ∷ []) (ended s' (drop j chunk)));
            state = p.state ∙ k.state;
          };
          answered = lines_more t₀ out₀ at g.ls end t out g.answered (omega (arith, g.room, g.bytes)) (x ∷ []) end' t' out' l;
          forward = omega (arith, g.start, k.forward);
          inside = k.inside;
        }

    -- no further line ends in the chunk
    pub drained : (s' : Scan) → progress_of i s (drop i chunk) ≡ More s' → AllOf s₀ (drop i₀ chunk) t₀ out₀ at s' end t out
    drained s' e =
        let k : Rest (drop i chunk) s s' = rest (drop i chunk) i s s' e in
        let p : Split s₀ (drop i₀ chunk) g.ls s (drop i chunk) = g.split in
        let all : ended s₀ (drop i₀ chunk) ≡ g.ls = p.lines ∙ ap (λ (m : List Line). g.ls ++ m) k.lines ∙ append-nil g.ls in
        record {
          answered = rw all g.answered;
          state = sym (p.state ∙ k.state);
          room = g.room;
        }

  -- a turn that leaves room goes on
  pub goes_on : (t out : List ℕ) (s : Scan) (end i : ℕ) → UpTo chunk i₀ s₀ t₀ out₀ at s end i t out → end + print_room ≤ length out
      → length out ≡ length out₀ → length t ≡ length t₀ → Going chunk i₀ s₀ t₀ out₀ at t out s end i
  goes_on t out s end i u r b w =
      record {
        ls = u.ls;
        split = u.split;
        answered = u.answered;
        start = omega (arith, u.forward);
        room = r;
        bytes = b;
        words = w;
      }
