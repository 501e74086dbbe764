-- Six runs worked out over the tables themselves, by computation: the marked calls of document 01, one with a Stop of a task
-- that waits, one with a Stop of a task that owns a Resource (M-101), one of a Board (M-103), one of a Memory hub (M-107), one that
-- moves its table while requests wait (M-105).
-- A line for each step behind the Blank, a line for each request that the calls opened; refused calls open none.
use Rattle.std.specs.Prelude.{ℕ, replicate, List, [], ◌∷◌, ◌≡◌, refl}
use Rattle.history.specs.History.{Class, History, Request, Step, again, asked, begun, called, calls, class_by, class_of, down, failed, gone_on, history, made, met, met_count, next, next_by, opened, part_of, removed_at, removed_by, reread, shown, since_blank, step, those, timed_out, turned, turned_by, turned_to, up, waiting, withdrawn, words_of}
use Rattle.lists.specs.Lists.{all_zero, entries, index_of, insert, numbers, occ, only, packed, without}
use Rattle.rules.specs.Calls.{add_hub, add_started, add_task, blank, carry_out, deactivate, flag, grant, hold, kept, meet_all, new_hub, pass_all, pass_one, serve, served, service_of, settle, slept, start, stop, tick_all, tick_by, tick_one, wait, yielded}
use Rattle.rules.specs.Editions.{down_refusal, high_zero, move_refusal, up_refusal, zeros_at}
use Rattle.rules.specs.Effective.{effective, over_owned, over_task, over_waiters}
use Rattle.rules.specs.HubTable.{get_board, get_event, get_fifo, get_memory, get_port, get_resource, get_semaphore, give_back, is_out, on_get, on_put, on_side, on_wipe, pass, put_board, put_event, put_fifo, put_memory, put_port, put_resource, put_semaphore, readers, verdict}
use Rattle.rules.specs.Lists.{answer, answered, asleep, counted, first_free, first_waiting, flagged, holding, join_hub, join_ready, leave, queued, readied, unqueue, waits, wake}
use Rattle.rules.specs.Lists.{next as running}
use Rattle.rules.specs.Refusals.{behind, by_running, good_hub, good_wait, last_side, mode_of, need, on_task, refusal, refusal_at, refusal_for, refusal_in}
use Rattle.rules.specs.Reorder.{put_back, rejoin, rejoin_hub, reordered, taken_out, thinned}
use Rattle.rules.specs.Reply.{table_after, table_by, table_in}
use Rattle.rules.specs.Table.{contents, edition_of, held_in, hub, hub_at, inactive, is_resource, kind_of, no_hub, one, owns, read, rows, set_hub, set_ready, set_task, side_of, size, stage_of, stored, tab, task_at, two, words}
use Rattle.rules.specs.WellFormed.{bears_word, contents_right, every, exactly, fields_right, for_all, hubs_right, in_order_by, kind_right, lists_exact, lists_packed, may_wait, one_side, owner_right, owners_right, rising, stage_right, store_right, stores_right, tasks_right, unused_zero, valid, waiters_right, well_formed_in, written}
use Rattle.rules.specs.declared.Call.{Call}

-- a call's eight numbers
abbrev pub numbered : ℕ → ℕ → ℕ → ℕ → ℕ → ℕ → ℕ → ℕ → Call
numbered sv ca ta si mo ti wo hi = record { service = sv; caller = ca; target = ta; side = si; mode = mo; ticks = ti; word = wo; high = hi }

abbrev pub call : ℕ → ℕ → ℕ → ℕ → ℕ → ℕ → ℕ → ℕ → Step
call sv ca ta si mo ti wo hi = calls (numbered sv ca ta si mo ti wo hi)

abbrev pub row : ℕ → ℕ → ℕ → ℕ → Class → ℕ → Request
row i h d w k x = record { task = i; hub = h; side = d; word = w; class = k; received = x }

-- a Blank on a table of zeros, of edition 1, and then the steps
unfoldable pub run : List Step → History
run ds = history (begun (table_after (replicate (size one) 0) (numbered 0 0 0 0 0 0 0 0))) ds

-- what is seen of it: its requests; the words of met puts and of met gets at hub 0, how many owners of it a Stop removed, its
-- count and the words it holds
pub record Seen : Type 0 where
  pub requests : List Request
  pub puts : List ℕ
  pub gets : List ℕ
  pub removed : ℕ
  pub count : ℕ
  pub held : List ℕ

unfoldable pub seen : History → Seen
seen x = record {
  requests = x.requests;
  puts = words_of 0 1 x.met;
  gets = words_of 0 2 x.met;
  removed = removed_at 0 x.removed;
  count = (hub (shown x.table) 0).count;
  held = (hub (shown x.table) 0).held;
}

-- what is seen of a run; to unfold it is to unfold all that it computes with
unfoldable pub shows : List Step → Seen
unfolding add_hub add_started add_task again all_zero answer answered asked asleep bears_word begun behind blank by_running called carry_out class_by class_of contents contents_right counted deactivate down_refusal edition_of effective entries every exactly fields_right first_free first_waiting flag flagged for_all get_board get_event get_fifo get_memory get_port get_resource get_semaphore give_back gone_on good_hub good_wait grant held_in high_zero history hold holding hub_at hubs_right in_order_by inactive index_of insert is_out is_resource join_hub join_ready kept kind_of kind_right last_side leave lists_exact lists_packed made may_wait meet_all met_count mode_of move_refusal need new_hub next next_by no_hub numbers occ on_get on_put on_side on_task on_wipe one_side only opened over_owned over_task over_waiters owner_right owners_right owns packed part_of pass pass_all pass_one put_back put_board put_event put_fifo put_memory put_port put_resource put_semaphore queued read readers readied refusal refusal_at refusal_for refusal_in rejoin rejoin_hub removed_by reordered reread rising rows run running seen serve served service_of set_hub set_ready set_task settle side_of since_blank slept stage_of stage_right start step stop store_right stored stores_right tab table_by table_in taken_out task_at tasks_right thinned those tick_all tick_by tick_one turned turned_by turned_to unqueue unused_zero up_refusal valid verdict wait waiters_right waits wake well_formed_in without words words_of written yielded zeros_at
shows ds = seen (run ds)

-- the marked calls behind the Blank
unfoldable pub marked : List Step
marked =
    call 9 0 5 1 0 0 0 0  -- task 0, priority 5, started
    ∷ call 9 0 3 1 0 0 0 0  -- task 1, priority 3, started: it runs
    ∷ call 10 0 4 0 0 1 0 0  -- hub 0, a FIFO of one word
    ∷ call 1 1 0 2 3 2 0 0  -- task 1 gets under WT, two ticks: it waits
    ∷ call 1 0 0 1 1 0 77 0  -- task 0 puts 77: both are met
    ∷ call 1 0 0 1 1 0 5 0  -- refused with 4: task 1 runs
    ∷ call 1 1 0 1 2 0 9 0  -- task 1 puts 9: met by the store
    ∷ call 1 1 0 1 2 0 10 0  -- puts 10 under NW, the FIFO is full: failed
    ∷ call 1 1 0 1 3 1 10 0  -- puts 10 under WT, one tick: it waits
    ∷ call 8 0 0 0 0 0 0 0  -- and times out
    ∷ []

-- a Semaphore of start 1, a task stopped while it waits, another left waiting
unfoldable pub stopped : List Step
stopped =
    call 9 0 1 1 0 0 0 0  -- task 0, priority 1, started
    ∷ call 9 0 2 1 0 0 0 0  -- task 1, priority 2, started
    ∷ call 10 0 2 0 0 2 1 0  -- hub 0, a Semaphore of limit 2, start 1
    ∷ call 1 0 0 2 1 0 0 0  -- task 0 gets: met by the count
    ∷ call 1 0 0 2 1 0 0 0  -- gets again: it waits
    ∷ call 3 1 0 0 0 0 0 0  -- task 1 stops task 0: withdrawn
    ∷ call 1 1 0 1 1 0 8 0  -- task 1 puts: met by the count; the word 8 is not kept
    ∷ call 1 1 0 2 1 0 0 0  -- gets: met by the count
    ∷ call 1 1 0 2 1 0 0 0  -- gets again: it waits
    ∷ []

-- a Resource whose owner is stopped: it passes to the task that waits, which unlocks it
unfoldable pub passes : List Step
passes =
    call 9 0 1 1 0 0 0 0  -- task 0, priority 1, started
    ∷ call 9 0 2 1 0 0 0 0  -- task 1, priority 2, started
    ∷ call 9 0 3 1 0 0 0 0  -- task 2, priority 3, started
    ∷ call 10 0 5 0 0 1 0 0  -- hub 0, a Resource
    ∷ call 1 0 0 2 1 0 0 0  -- task 0 locks it: met
    ∷ call 7 0 0 0 0 9 0 0  -- and sleeps
    ∷ call 1 1 0 2 3 5 0 0  -- task 1 locks under WT: it waits
    ∷ call 3 2 0 0 0 0 0 0  -- task 2 stops task 0: task 1 is met and owns it
    ∷ call 1 1 0 1 1 0 0 0  -- task 1 unlocks: met, and it is free
    ∷ []

-- a Board: two readers wait, the more urgent one behind the other in time and before it in the list; an update meets both
unfoldable pub boarded : List Step
boarded =
    call 9 0 2 1 0 0 0 0  -- task 0, priority 2, started
    ∷ call 10 0 6 0 0 1 0 0  -- hub 0, a Board
    ∷ call 1 0 0 2 1 0 0 0  -- task 0 reads: nothing is written, it waits
    ∷ call 9 0 1 1 0 0 0 0  -- task 1, priority 1, started
    ∷ call 1 1 0 2 3 5 0 0  -- task 1 reads under WT: it waits
    ∷ call 9 0 3 1 0 0 0 0  -- task 2, priority 3, started
    ∷ call 1 2 0 1 1 0 41 0  -- task 2 writes 41: both readers are met with it
    ∷ call 1 1 0 2 2 0 0 0  -- task 1 reads 41 again: it isn't taken
    ∷ call 1 1 0 1 2 0 42 0  -- and writes 42 over it
    ∷ call 1 1 0 3 1 0 9 0  -- wipes
    ∷ call 1 1 0 2 2 0 0 0  -- reads under NW: failed
    ∷ call 1 1 0 1 1 0 0 0  -- writes 0, a word as any other
    ∷ []

-- a Memory hub of two blocks: both go out, a wrong number and a free block come back in vain, a returned block is used again, by the
-- next get and by the getter that waits
unfoldable pub lent : List Step
lent =
    call 9 0 2 1 0 0 0 0  -- task 0, priority 2, started
    ∷ call 10 0 7 0 0 2 2 0  -- hub 0, a Memory hub of 2 blocks
    ∷ call 1 0 0 2 2 0 0 0  -- task 0 gets block 0
    ∷ call 1 0 0 2 1 0 0 0  -- and block 1
    ∷ call 1 0 0 2 2 0 0 0  -- and another under NW: none is free, failed
    ∷ call 1 0 0 1 1 0 2 0  -- gives back 2, which is no block: failed
    ∷ call 1 0 0 1 1 0 0 0  -- gives back block 0
    ∷ call 1 0 0 1 1 0 0 0  -- and once more: it isn't out, failed
    ∷ call 1 0 0 2 1 0 0 0  -- gets block 0 again
    ∷ call 9 0 1 1 0 0 0 0  -- task 1, priority 1, started
    ∷ call 1 1 0 2 1 0 0 0  -- task 1 gets: none is free, it waits
    ∷ call 1 0 0 1 3 4 1 0  -- task 0 gives back block 1: it goes to task 1
    ∷ []

-- a table that moves to edition 2 while a request waits, and back while another does
unfoldable pub moved : List Step
moved =
    call 9 0 1 1 0 0 0 0  -- task 0, priority 1, started
    ∷ call 9 0 2 1 0 0 0 0  -- task 1, priority 2, started
    ∷ call 10 0 3 0 0 0 0 0  -- hub 0, a Port
    ∷ call 10 0 1 0 0 1 0 0  -- hub 1, an Event
    ∷ call 1 0 0 2 1 0 0 0  -- task 0 gets from the Port: it waits
    ∷ call 1 1 0 1 1 0 7 1  -- refused with 6: a high word on edition 1
    ∷ up (size one)  -- refused with 1: the destination is too short
    ∷ up (size two)  -- the table moves, and task 0 goes on waiting
    ∷ call 1 1 0 1 1 0 7 1  -- task 1 puts a message of two words: both are met
    ∷ down (size one)  -- refused with 9: task 0 has received a high word
    ∷ call 1 0 1 2 3 2 0 0  -- task 0 gets from the Event under WT, two ticks: it waits
    ∷ call 8 0 0 0 0 0 0 0  -- one tick
    ∷ down (size one)  -- the table moves back, and task 0 goes on waiting
    ∷ call 8 0 0 0 0 0 0 0  -- times out by the second
    ∷ []

--       task hub side word class received
pub worked : (
    shows marked ≡ record {
      requests =
          row 1 0 2 0 met 77
          ∷ row 0 0 1 77 met 0
          ∷ row 1 0 1 9 met 0
          ∷ row 1 0 1 10 failed 0
          ∷ row 1 0 1 10 timed_out 0
          ∷ [];
      puts = 77 ∷ 9 ∷ [];
      gets = 77 ∷ [];
      removed = 0;
      count = 1;
      held = 9 ∷ [];
    }
    ) × (
    shows stopped ≡ record {
      requests =
          row 0 0 2 0 met 0
          ∷ row 0 0 2 0 withdrawn 0
          ∷ row 1 0 1 0 met 0
          ∷ row 1 0 2 0 met 0
          ∷ row 1 0 2 0 waiting 0
          ∷ [];
      puts = 0 ∷ [];
      gets = 0 ∷ 0 ∷ [];
      removed = 0;
      count = 0;
      held = [];
    }
    ) × (
    shows passes ≡ record {
      requests = row 0 0 2 0 met 0 ∷ row 1 0 2 0 met 0 ∷ row 1 0 1 0 met 0 ∷ [];
      puts = 0 ∷ [];
      gets = 0 ∷ 0 ∷ [];
      removed = 1;
      count = 0;
      held = [];
    }
    ) × (
    shows boarded ≡ record {
      requests =
          row 0 0 2 0 met 41
          ∷ row 1 0 2 0 met 41
          ∷ row 2 0 1 41 met 0
          ∷ row 1 0 2 0 met 41
          ∷ row 1 0 1 42 met 0
          ∷ row 1 0 3 0 met 0
          ∷ row 1 0 2 0 failed 0
          ∷ row 1 0 1 0 met 0
          ∷ [];
      puts = 41 ∷ 42 ∷ 0 ∷ [];
      gets = 41 ∷ 41 ∷ 41 ∷ [];
      removed = 0;
      count = 1;
      held = 0 ∷ [];
    }
    ) × (
    shows lent ≡ record {
      requests =
          row 0 0 2 0 met 0
          ∷ row 0 0 2 0 met 1
          ∷ row 0 0 2 0 failed 0
          ∷ row 0 0 1 2 failed 0
          ∷ row 0 0 1 0 met 0
          ∷ row 0 0 1 0 failed 0
          ∷ row 0 0 2 0 met 0
          ∷ row 1 0 2 0 met 1
          ∷ row 0 0 1 1 met 0
          ∷ [];
      puts = 0 ∷ 1 ∷ [];
      gets = 0 ∷ 1 ∷ 0 ∷ 1 ∷ [];
      removed = 0;
      count = 0;
      held = 1 ∷ 1 ∷ [];
    }
    ) × (
    shows moved ≡ record {
      requests = row 0 0 2 0 met 4294967303 ∷ row 1 0 1 4294967303 met 0 ∷ row 0 1 2 0 timed_out 0 ∷ [];
      puts = 4294967303 ∷ [];
      gets = 4294967303 ∷ [];
      removed = 0;
      count = 0;
      held = [];
    }
    )
unfolding boarded lent marked moved passes shows stopped
worked = (refl, refl, refl, refl, refl, refl)
