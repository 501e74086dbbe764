-- What the functions below the two moves write into the destination, body by body, and the messages of a state that they carry over.
-- Not here: the moves and their refusals, document 02's words (rules, Editions.antt).
use Rattle.std.specs.Prelude.{◌*◌, ◌+◌, ◌<◌, suc, zero, ℕ, get_or, List, [], ◌++◌, ◌∷◌}
use Rattle.lists.specs.Lists.{padded}
use Rattle.messages.specs.Messages.{message_at, message_words}
use Rattle.records.specs.Records.{hubs_at, ready_at, stores_at, task_at, task_words, waits_at, width}
use Rattle.rules.specs.Table.{State, rows, task}

-- ---- the bodies of the destination, from the words of the source: fs and ts are how many words their task records have

-- n parts, one behind the other
unfoldable pub joined : ℕ → (ℕ → List ℕ) → List ℕ
joined zero f = []
joined (suc n) f = joined n f ++ f n

-- the contents: the edition is how many words a message has
unfoldable pub contents_from : ℕ → List ℕ → List ℕ
contents_from ts from =
    width ts ∷ get_or from 1 0 ∷ get_or from 2 0 ∷ 8 ∷ hubs_at ts ∷ ready_at ts ∷ waits_at ts ∷ stores_at ts ∷ []

-- all 16 task records: those that are not in use are 0 in both
abbrev pub tasks_from : ℕ → ℕ → List ℕ → List ℕ
tasks_from fs ts from = joined 16 (λ i. task_words ts (task_at fs from i))

-- the 128 messages of the stores
abbrev pub stores_from : ℕ → ℕ → List ℕ → List ℕ
stores_from fs ts from =
    joined 128 (λ k. message_words (width ts) (message_at (width fs) from (stores_at fs + k * width fs)))

-- ---- the messages of a state

-- those of the 16 stores, 8 each, and 0 where none is held
unfoldable pub stored : State → List ℕ
stored s = rows 8 (λ h. padded 8 h.held) 16 s.hubs

-- each is below n
pub record Below (n : ℕ) (s : State) : Type 0 where
  pub tasks : (i : ℕ) → i < 16 → (task s i).word < n
  pub stores : (k : ℕ) → k < 128 → get_or (stored s) k 0 < n
