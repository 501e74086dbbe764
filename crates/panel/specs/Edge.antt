-- "Panel edges": the calls over bytes, for every byte length and every content, by the calls over words.
-- `edge_reply`, `edge_after`, `edge_summary`, `edge_listing`, `edge_text`, `edge_up`, `edge_down` and `ComparedBytes` are what the exported functions promise.
-- Not here: words from bytes and back (crate bytes4), a table's bytes (`bytes_in`, `fits`, `table_words`: crate tablebytes), the rules
-- (crate rules).
use Rattle.std.specs.Prelude.{ℕ, eqb, length, ◌&&◌, cond, true, List, Result, ◌≡◌}
use Rattle.bytes4.specs.Bytes.{bytes_of, words_from}
use Rattle.differences.specs.Differences.{buffer_after, compare_reply}
use Rattle.listing.specs.Listing.{listing_reply, text_after}
use Rattle.panel.specs.declared.HubKernelCompareReply.{HubKernelCompareReply}
use Rattle.panel.specs.declared.HubKernelListingReply.{HubKernelListingReply}
use Rattle.panel.specs.declared.HubKernelReply.{HubKernelReply}
use Rattle.panel.specs.declared.HubKernelSummaryReply.{HubKernelSummaryReply}
use Rattle.rules.specs.Editions.{down_refusal, up_refusal}
use Rattle.rules.specs.Reply.{answer_number, count_given, mask_given, number_given, refusal_number, reply_to, summary_of, table_after}
use Rattle.rules.specs.Table.{Layout, one, size, two}
use Rattle.rules.specs.declared.Call.{Call}
use Rattle.rules.specs.declared.Refusal.{Refusal}
use Rattle.rules.specs.declared.Reply.{Reply}
use Rattle.rules.specs.declared.Summary.{Summary}
use Rattle.tablebytes.specs.TableBytes.{bytes_in, fits, table_words}

-- "and the call's numbers", in the order of the arguments; the eighth is the high word (M-105)
abbrev pub call_of : ℕ → ℕ → ℕ → ℕ → ℕ → ℕ → ℕ → ℕ → Call
call_of service caller target side mode ticks word high =
    record { service = service; caller = caller; target = target; side = side; mode = mode; ticks = ticks; word = word; high = high }

-- the paper's numbers of a reply, with M-104 four
abbrev pub numbers_of : Reply → HubKernelReply
numbers_of r = record { refusal = refusal_number r.answer; answer = answer_number r.answer; next = r.next; ahead = r.ahead }

-- "Refused .. then both are 0"
abbrev pub summary_numbers_of : Result Summary Refusal → HubKernelSummaryReply
summary_numbers_of s = record { refusal = refusal_number s; mask = mask_given s; count = count_given s }

-- ---- "hands the table as 2,400 bytes, words little-endian", with M-105 or as 2,976; "another byte length is refusal 1"

unfoldable pub edge_reply : List ℕ → Call → HubKernelReply
edge_reply b c = cond (fits b) (numbers_of (reply_to (words_from b) c)) (record { refusal = 1; answer = 0; next = 0; ahead = 0 })

-- "the bytes afterwards are the words after the call"
unfoldable pub edge_after : List ℕ → Call → List ℕ
edge_after b c = cond (fits b) (bytes_of (table_after (words_from b) c)) b

unfoldable pub edge_summary : List ℕ → ℕ → HubKernelSummaryReply
edge_summary b hub = cond (fits b) (summary_numbers_of (summary_of (words_from b) hub)) (record { refusal = 1; mask = 0; count = 0 })

-- what one call over bytes gives back and leaves; and the words of what it leaves, for the next call
pub record Called (before : List ℕ) (c : Call) (r : HubKernelReply) (after : List ℕ) : Type 0 where
  pub reply : r ≡ edge_reply before c
  pub bytes : after ≡ edge_after before c
  pub words : fits before ≡ true → words_from after ≡ table_after (words_from before) c

-- ---- M-100: the listing, over bytes

abbrev pub listing_numbers_of : Result ℕ Refusal → HubKernelListingReply
listing_numbers_of r = record { refusal = refusal_number r; length = number_given r }

unfoldable pub edge_listing : List ℕ → ℕ → HubKernelListingReply
edge_listing b room = cond (fits b) (listing_numbers_of (listing_reply (words_from b) room)) (record { refusal = 1; length = 0 })

unfoldable pub edge_text : List ℕ → List ℕ → List ℕ
edge_text b text = cond (fits b) (text_after (words_from b) text) text

pub record ListedBytes (b text : List ℕ) (r : HubKernelListingReply) (text' : List ℕ) : Type 0 where
  pub reply : r ≡ edge_listing b (length text)
  pub bytes : text' ≡ edge_text b text

-- ---- M-105: the moves, over bytes: "A source or destination of the wrong size is 1"; what is written is `Moved` (rules, Editions)

-- from L to M, by how many bytes the source and the destination have, and the refusal over words
unfoldable pub edge_move : Layout → Layout → ℕ → ℕ → ℕ → ℕ
edge_move L M source room refusal = cond (eqb source (bytes_in L) && eqb room (bytes_in M)) refusal 1

abbrev pub edge_up : List ℕ → ℕ → ℕ
edge_up from room = edge_move one two (length from) room (up_refusal (words_from from) (size two))

abbrev pub edge_down : List ℕ → ℕ → ℕ
edge_down from room = edge_move two one (length from) room (down_refusal (words_from from) (size one))

-- ---- M-106: two tables compared, over bytes; the places are words

abbrev pub compare_numbers_of : Result ℕ Refusal → HubKernelCompareReply
compare_numbers_of r = record { refusal = refusal_number r; count = number_given r }

pub record ComparedBytes (first second places : List ℕ) (r : HubKernelCompareReply) (places' : List ℕ) : Type 0 where
  pub reply : r ≡ compare_numbers_of (compare_reply (table_words first) (table_words second) (length places))
  pub words : places' ≡ buffer_after (table_words first) (table_words second) places
