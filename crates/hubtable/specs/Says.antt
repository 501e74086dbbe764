-- What this crate's answers say, in the terms of the rules: definitions alone. In order: a hub record as the rules' hub, the
-- waiters met, the words held afterwards, a verdict; the bound of its messages.
-- Not here: the hub table itself (crate rules, specs/HubTable.antt).
use Rattle.std.specs.Prelude.{◌<◌, ℕ, drop, set, List, [], ◌++◌, ◌∷◌, ◌≡◌}
use Rattle.hubtable.specs.declared.Store.TheVariants.{Append, Back, Keep, Out, Take, TakeAppend}
use Rattle.hubtable.specs.declared.Store.{Store}
use Rattle.hubtable.specs.declared.Verdict.TheVariants.{Fail, Met, NotNow}
use Rattle.hubtable.specs.declared.Verdict.{Verdict}
use Rattle.records.specs.Entries.{numbered}
use Rattle.records.specs.declared.HubRecord.{HubRecord}
use Rattle.rules.specs.HubTable.{Meeting, Verdict as Row, fail, met, not_now}
use Rattle.rules.specs.Table.{Hub}
use Rattle.std.proofs.Math.Option.{Option, none, some}

-- h has the four words of hub x
pub record RecordOf (h : HubRecord) (x : Hub) : Type 0 where
  pub kind : h.kind ≡ x.kind
  pub count : h.count ≡ x.count
  pub limit : h.limit ≡ x.limit
  pub start : h.start ≡ x.start

-- the waiters met, who have word y afterwards: one or none
unfoldable pub met_with : Option ℕ → ℕ → List Meeting
met_with none y = []
met_with (some w) y = record { waiter = w; word = y } ∷ []

-- the words held afterwards; a Memory hub's marks, block b out or back
unfoldable pub store_after : Store → List ℕ → List ℕ
store_after Keep held = held
store_after (Append x) held = held ++ x ∷ []
store_after Take held = drop 1 held
store_after (TakeAppend x) held = drop 1 held ++ x ∷ []
store_after (Out b) held = set held b 1
store_after (Back b) held = set held b 0

-- of a hub that holds these words
unfoldable pub says : List ℕ → Verdict → Row
says held (Met m) = met m.count (store_after m.store held) m.word (met_with (numbered m.waiter) m.its)
says held NotNow = not_now
says held Fail = fail

-- every message that a verdict names is below b
unfoldable pub StoreBelow : ℕ → Store → Type 0
StoreBelow b Keep = Unit {0}
StoreBelow b (Append x) = x < b
StoreBelow b Take = Unit {0}
StoreBelow b (TakeAppend x) = x < b
StoreBelow b (Out k) = Unit {0}
StoreBelow b (Back k) = Unit {0}

unfoldable pub Below : ℕ → Verdict → Type 0
Below b (Met m) = StoreBelow b m.store × (m.word < b) × (m.its < b)
Below b NotNow = Unit {0}
Below b Fail = Unit {0}
