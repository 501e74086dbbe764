-- What the tests of a call look up in the words of a table: definitions alone.
use Rattle.std.specs.Prelude.{◌*◌, ◌+◌, suc, ℕ, ltb, get_or, cond, List, None, Option, Some}
use Rattle.records.specs.Records.{hubs_at}
use Rattle.records.specs.declared.HubNo.{HubNo}
use Rattle.records.specs.declared.TaskNo.{TaskNo}

-- "tasks T, hubs H"
abbrev pub tasks_in : List ℕ → ℕ
tasks_in t = get_or t 1 0

abbrev pub hubs_in : List ℕ → ℕ
hubs_in t = get_or t 2 0

-- the kind of hub h, where task records have ts words
abbrev pub kind_in : ℕ → List ℕ → ℕ → ℕ
kind_in ts t h = get_or t (hubs_at ts + h * 4) 0

-- "Records 0 to T-1 and 0 to H-1 are in use"
unfoldable pub found_hub : List ℕ → ℕ → Option HubNo
found_hub t n = cond (ltb n (hubs_in t)) (Some (record { 0 = n })) None

-- "Next is the running task plus 1, or 0"
abbrev pub next_number : Option TaskNo → ℕ
next_number None = 0
next_number (Some i) = suc i.0
