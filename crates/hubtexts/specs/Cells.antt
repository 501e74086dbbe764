-- The words that people read about a hub, cell by cell: its kind, and what it holds. The record is the table's (records/specs, `hub_at`);
-- the texts are for every number that may stand there, also those of no well-formed table.
-- Not here: which cells there are, and where their words stand (crate sidebyside).
use Rattle.std.specs.Prelude.{◌+◌, pred, suc, zero, ℕ, eqb, cond, List, [], ◌++◌, ◌∷◌}
use Rattle.lines.specs.Lines.{decimal}
use Rattle.messages.specs.Messages.{message_at}
use Rattle.records.specs.declared.HubRecord.{HubRecord}
use Rattle.texts.specs.Cells.{message_text}
use Rattle.texts.specs.Texts.{bytes}

-- ---- the kind of a hub

-- 1 Event, 2 Semaphore, 3 Port, 4 FIFO, 5 Resource, 6 Board, else Memory
unfoldable pub kind_text : HubRecord → List ℕ
kind_text x =
    cond (eqb x.kind 1) (bytes "Event")
    (cond (eqb x.kind 2) (bytes "Semaphore, limit " ++ decimal x.limit ++ bytes ", start " ++ decimal x.start)
    (cond (eqb x.kind 3) (bytes "Port")
    (cond (eqb x.kind 4) (bytes "FIFO, limit " ++ decimal x.limit)
    (cond (eqb x.kind 5) (bytes "Resource")
    (cond (eqb x.kind 6) (bytes "Board")
    (bytes "Memory, limit " ++ decimal x.limit))))))

-- ---- what a hub holds

-- n messages of w words each, the first at word p
unfoldable pub held_from : ℕ → List ℕ → ℕ → ℕ → List ℕ
held_from w t p zero = []
held_from w t p (suc n) = message_at w t p ∷ held_from w t (p + w) n

-- word k of a FIFO, from 0, and those from k on
unfoldable pub word_text : ℕ → ℕ → List ℕ
word_text k m = cond (eqb k 0) (message_text m) (bytes ", " ++ message_text m)

unfoldable pub words_from : ℕ → List ℕ → List ℕ
words_from k [] = []
words_from k (m ∷ ms) = word_text k m ++ words_from (suc k) ms

unfoldable pub words_text : List ℕ → List ℕ
words_text [] = bytes "empty"
words_text (m ∷ ms) = words_from 0 (m ∷ ms)

-- a Board's word stands in its store's first place when it is written
unfoldable pub board_text : ℕ → List ℕ → ℕ → ℕ → List ℕ
board_text w t from count =
    cond (eqb count 0) (bytes "not written") (bytes "written: " ++ message_text (message_at w t from))

-- M-107: the blocks of a Memory hub that are out, from block b on, by their marks; k were named before
unfoldable pub block_text : ℕ → ℕ → List ℕ
block_text k b = cond (eqb k 0) (bytes "blocks out: " ++ decimal b) (bytes ", " ++ decimal b)

unfoldable pub none_text : ℕ → List ℕ
none_text k = cond (eqb k 0) (bytes "no block out") []

unfoldable pub blocks_from : ℕ → ℕ → List ℕ → List ℕ
blocks_from k b [] = none_text k
blocks_from k b (m ∷ ms) = cond (eqb m 0) (blocks_from k (suc b) ms) (block_text k b ++ blocks_from (suc k) (suc b) ms)

-- a store has eight marks, those behind the limit are 0
abbrev pub blocks_text : ℕ → List ℕ → ℕ → List ℕ
blocks_text w t from = blocks_from 0 0 (held_from w t from 8)

-- of the other kinds the count says all: an Event's, a Semaphore's, a Resource's (its owner plus 1); a Port holds nothing
unfoldable pub count_text : HubRecord → List ℕ
count_text x =
    cond (eqb x.kind 1) (cond (eqb x.count 0) (bytes "not set") (bytes "set"))
    (cond (eqb x.kind 2) (bytes "count " ++ decimal x.count)
    (cond (eqb x.kind 5) (cond (eqb x.count 0) (bytes "free") (bytes "owner: task " ++ decimal (pred x.count)))
    (bytes "nothing")))

-- in a table whose messages have w words; the store starts at word `from`
unfoldable pub holds_text : ℕ → List ℕ → ℕ → HubRecord → List ℕ
holds_text w t from x =
    cond (eqb x.kind 4) (words_text (held_from w t from x.count))
    (cond (eqb x.kind 6) (board_text w t from x.count)
    (cond (eqb x.kind 7) (blocks_text w t from)
    (count_text x)))
