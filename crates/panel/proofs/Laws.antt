-- Laws of the definitions of specs/Edge.antt, one for each way out of the exported functions: the bytes of a table of either edition, and
-- of what is done over its words; another length. And what a refused call leaves (`refused_keeps`).
-- Not here: words from bytes and back (crate bytes4). Assumes nothing.
use Prim.Native.Nat.{suc, zero, ℕ}
use Rattle.bytes4.specs.Bytes.{Packed, Unpacked, bytes_of, words_from}
use Rattle.differences.specs.Differences.{Compares}
use Rattle.listing.specs.Listing.{ListedFrom}
use Rattle.panel.specs.Edge.{Called, ComparedBytes, ListedBytes, compare_numbers_of, edge_after, edge_listing, edge_move, edge_reply, edge_summary, edge_text, listing_numbers_of, numbers_of, summary_numbers_of}
use Rattle.panel.specs.declared.HubKernelCompareReply.{HubKernelCompareReply}
use Rattle.panel.specs.declared.HubKernelListingReply.{HubKernelListingReply}
use Rattle.panel.specs.declared.HubKernelReply.{HubKernelReply}
use Rattle.panel.specs.declared.HubKernelSummaryReply.{HubKernelSummaryReply}
use Rattle.rules.specs.Editions.{Moved}
use Rattle.rules.specs.Reply.{reply_by, reply_in, reply_to, summary_of, table_after, table_by, table_in}
use Rattle.rules.specs.Table.{Layout, State, one, two}
use Rattle.rules.specs.declared.Call.{Call}
use Rattle.rules.specs.declared.Refusal.{Refusal}
use Rattle.rules.specs.declared.Reply.{Reply}
use Rattle.rules.specs.declared.Summary.{Summary}
use Rattle.tablebytes.proofs.Laws.{fits-none}
use Rattle.tablebytes.specs.TableBytes.{InFront, bytes_in, fits}
use Rattle.std.specs.Prelude.{Result, is_err}
use borrow.Author.Tests.{eq-eqb, ne_eqb}
use lib.Dec.{eqb}
use lib.ListN.{length, take}
use mathlib.Core.Bool.{and-false, false≢true, true}
use mathlib.Core.List.{List}
use mathlib.Core.Path.{◌∙◌, ◌≡◌, ap, refl, sym}

-- ---- "no word of the table changes" where the reply bears a refusal

refused_keeps_by : (L : Layout) (n : ℕ) (t : List ℕ) (s : State) (c : Call) → is_err (reply_by n s c).answer ≡ true → table_by L n t s ≡ t
unfolding reply_by table_by
refused_keeps_by L zero t s c r = absurd (false≢true r)
refused_keeps_by L (suc n) t s c r = refl

refused_keeps : (t : List ℕ) (c : Call) → is_err (reply_to t c).answer ≡ true → table_after t c ≡ t
unfolding reply_in table_in
refused_keeps t c r = refused_keeps_by _ _ t _ c r

-- ---- the ways out of a call

module _ (b : List ℕ) (c : Call) where
  pub called-length : (length b ≡ bytes_in one → ⊥) → (length b ≡ bytes_in two → ⊥) → Called b c (record { refusal = 1; answer = 0; next = 0; ahead = 0 }) b
  unfolding edge_after edge_reply
  called-length h k =
      let none = fits-none b h k in
      record { reply = rw none; bytes = rw none; words = λ e. absurd (false≢true (sym none ∙ e)) }

  module _ (h : fits b ≡ true) {t : List ℕ} (u : Unpacked b t) {r : Reply} (p : r ≡ reply_to t c) {n : HubKernelReply} (e : n ≡ numbers_of r) where
    pub called-accepted : {t' b' : List ℕ} → t' ≡ table_after t c → Packed t' b' → Called b c n b'
    unfolding edge_after edge_reply
    called-accepted q w = record {
      reply = rw (h, ← u.words, ← p) e;
      bytes = rw (h, ← u.words, ← q) w.bytes;
      words = λ _. rw (← u.words, ← q) w.back;
    }

    pub called_refused : is_err r.answer ≡ true → Called b c n b
    unfolding edge_after edge_reply
    called_refused w =
        let k : table_after t c ≡ t = refused_keeps t c (rw p at w) in
        record {
          reply = rw (h, ← u.words, ← p) e;
          bytes = rw (h, ← u.words, k) (sym u.back);
          words = λ _. rw (← u.words, k);
        }

-- ---- the ways out of the summary

module _ (b : List ℕ) (i : ℕ) where
  pub summed_length : (length b ≡ bytes_in one → ⊥) → (length b ≡ bytes_in two → ⊥)
      → ◌≡◌ {A = HubKernelSummaryReply} (record { refusal = 1; mask = 0; count = 0 }) (edge_summary b i)
  unfolding edge_summary
  summed_length h k = rw (fits-none b h k)

  pub summed : fits b ≡ true → {t : List ℕ} → Unpacked b t → {s : Result Summary Refusal} → s ≡ summary_of t i → {r : HubKernelSummaryReply} → r ≡ summary_numbers_of s → r ≡ edge_summary b i
  unfolding edge_summary
  summed h u e n = rw (h, ← u.words, ← e) n

-- ---- the ways out of the listing

module _ (b text : List ℕ) where
  pub listed-length : (length b ≡ bytes_in one → ⊥) → (length b ≡ bytes_in two → ⊥) → ListedBytes b text (record { refusal = 1; length = 0 }) text
  unfolding edge_listing edge_text
  listed-length h k = let none = fits-none b h k in record { reply = rw none; bytes = rw none }

  pub listed : fits b ≡ true → {t : List ℕ} → Unpacked b t → {r : Result ℕ Refusal} {text' : List ℕ} → ListedFrom t text r text'
      → {n : HubKernelListingReply} → n ≡ listing_numbers_of r → ListedBytes b text n text'
  unfolding edge_listing edge_text
  listed h u e n = record { reply = rw (h, ← u.words, ← e.reply) n; bytes = rw (h, ← u.words) e.bytes }

-- ---- the ways out of a move, from L to M: `refusal` and `done` are what the move over words says of a source

module _ (L M : Layout) (refusal : List ℕ → ℕ) (done : List ℕ → List ℕ) (from to : List ℕ) where
  abbrev Over : ℕ → List ℕ → Type 0
  Over r to' = Moved (edge_move L M (length from) (length to) (refusal (words_from from))) (bytes_of (done (words_from from))) to r to'

  pub moved_source : (length from ≡ bytes_in L → ⊥) → Over 1 to
  unfolding edge_move
  moved_source h = record { number = rw (ne_eqb (length from) (bytes_in L) h) refl; table = rw (ne_eqb (length from) (bytes_in L) h) refl }

  pub moved-room : (length to ≡ bytes_in M → ⊥) → Over 1 to
  unfolding edge_move
  moved-room h = record {
    number = rw (ne_eqb (length to) (bytes_in M) h, and-false (eqb (length from) (bytes_in L))) refl;
    table = rw (ne_eqb (length to) (bytes_in M) h, and-false (eqb (length from) (bytes_in L))) refl;
  }

  -- both lengths fit: t is the source's words, d' what the move over words left in as many words as the destination has
  module _ (h : length from ≡ bytes_in L) (k : length to ≡ bytes_in M) {t : List ℕ} (u : Unpacked from t) {d d' : List ℕ} {r : ℕ}
      (m : Moved (refusal t) (done t) d r d') where
    pub moved_refused : (r ≡ 0 → ⊥) → Over r to
    unfolding edge_move
    moved_refused n = record {
      number = rw (eq-eqb (length from) (bytes_in L) h, eq-eqb (length to) (bytes_in M) k, ← u.words) m.number;
      table = rw (eq-eqb (length from) (bytes_in L) h, eq-eqb (length to) (bytes_in M) k, ← u.words, ← m.number, ne_eqb r 0 n) refl;
    }

    pub moved_done : r ≡ 0 → {to' : List ℕ} → Packed d' to' → Over r to'
    unfolding edge_move
    moved_done z w =
        let e : refusal t ≡ 0 = sym m.number ∙ z in
        record {
          number = rw (eq-eqb (length from) (bytes_in L) h, eq-eqb (length to) (bytes_in M) k, ← u.words) m.number;
          table = rw (eq-eqb (length from) (bytes_in L) h, eq-eqb (length to) (bytes_in M) k, ← u.words, e) (w.bytes ∙ ap bytes_of (rw e at m.table));
        }

-- ---- the way out of a comparison

pub compared : (first second places : List ℕ) {a b : List ℕ} {n m : ℕ} → InFront first a n → InFront second b m
    → {r : Result ℕ Refusal} {places' : List ℕ} → Compares (take n a) (take m b) places r places' → {n' : HubKernelCompareReply} → n' ≡ compare_numbers_of r
    → ComparedBytes first second places n' places'
compared first second places f g c e = record {
  reply = rw (← f.front, ← g.front, ← c.reply) e;
  words = rw (← f.front, ← g.front) c.words;
}
