-- Who is asked, hub by hub: the owner of a Resource with a waiter. A task that is none has its own priority for its key; where
-- no hub is such a Resource, as mostly, all have.
-- Not here: what asking finds (rules, Effective.antt), the words in which a table's are kept (Linked.antt).
use Rattle.std.specs.Prelude.{suc, ℕ, eqb, length, Bool, ◌&&◌, cond, not, List, [], ◌∷◌}
use Rattle.rules.specs.Table.{Hub, State, hub, is_resource, kind_of}
use Rattle.rules.specs.WellFormed.{for_all}

-- a Resource with a waiter
unfoldable pub is_asked : Hub → Bool
is_asked x = is_resource (kind_of x.kind) && not (eqb (length x.waiters) 0)

-- no hub is one
unfoldable pub nobody_asked : State → Bool
nobody_asked s = for_all (length s.hubs) (λ h. not (is_asked (hub s h)))

-- the owner, plus 1, of a Resource with a waiter; of any other hub 0
unfoldable pub asked_owner : Hub → ℕ
asked_owner x = cond (is_asked x) x.count 0

-- of these hubs, numbered from h on, the first that task i is asked at; 16 if there is none
unfoldable pub asked_from : ℕ → List Hub → ℕ → ℕ
asked_from i [] h = 16
asked_from i (x ∷ xs) h = cond (eqb (asked_owner x) (suc i)) h (asked_from i xs (suc h))
