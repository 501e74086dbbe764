-- The twelve marked cases, proved by computation: the whole input, as bytes, is read and answered from a table of zeros, and
-- what is printed is the table's right column. In order: the lines read; the lines answered, Blank first; the statement.
use Prim.Native.Nat.{ℕ}
use Rattle.lines.specs.Lines.{Line, all, are_numbers, bad_text, call_of, decimal, digits, is_decimal, is_good, is_number, joined, line_of, lines_of, numbered, pieces_from, printed, read_lines, spaced, value_from, without_empty_last}
use Rattle.lists.specs.Lists.{index_of, insert, only, without}
use Rattle.marked.proofs.States.{on_words, text_from}
use Rattle.marked.specs.Marked.{Row, input_of, output_of, rows}
use Rattle.rules.proofs.Kept.{valid-blank}
use Rattle.rules.proofs.Layouts.{edition-two}
use Rattle.rules.proofs.Promise.{blank-accepted}
use Rattle.rules.proofs.States.{state_after, state_by}
use Rattle.rules.proofs.Still.{served-blank}
use Rattle.rules.specs.Calls.{add_hub, add_started, add_task, blank, hold, kept, meet_all, new_hub, serve, served, service_of, settle, start, tick_all, tick_by, tick_one, wait}
use Rattle.rules.specs.Effective.{effective, over_owned, over_task, over_waiters}
use Rattle.rules.specs.HubTable.{get_fifo, on_get, on_put, on_side, put_fifo, verdict}
use Rattle.rules.specs.Lists.{answer, answered, counted, first_free, first_waiting, holding, join_hub, join_ready, leave, next, queued, readied, unqueue, waits, wake}
use Rattle.rules.specs.Refusals.{behind, by_running, good_hub, good_wait, last_side, mode_of, need, refusal, refusal_at, refusal_for}
use Rattle.rules.specs.Reorder.{put_back, rejoin, rejoin_hub, reordered, taken_out, thinned}
use Rattle.rules.specs.Reply.{ahead, ahead_for, bears_answer, outcome, outcome_of, refusal_with, reply_by, reply_in, table_by, table_in}
use Rattle.rules.specs.Table.{edition_of, inactive, is_resource, kind_of, no_hub, owns, read as read_state, set_hub, set_ready, set_task, side_of, size, stored, two, words}
use Rattle.rules.specs.WellFormed.{bears_word}
use Rattle.runner.specs.Runner.{drill_text, reply_text, text_through, zeros}
use Rattle.std.specs.Prelude.{Err, Ok}
use lib.ListN.{length, length-replicate}
use mathlib.Core.List.{List, [], ◌++◌, ◌∷◌}
use mathlib.Core.Path.{◌∙◌, ◌≡◌, ap, refl}

unfoldable lines_from : List Row → List Line
lines_from [] = Err (record { line = 12 }) ∷ []
lines_from (r ∷ rs) = Ok (call_of r.line) ∷ lines_from rs

read : read_lines (input_of rows) ≡ lines_from rows
unfolding all are_numbers call_of decimal digits input_of is_decimal is_good is_number joined line_of lines_from lines_of numbered pieces_from read_lines rows spaced value_from without_empty_last
read = refl

zeros-long : length zeros ≡ size two
unfolding zeros
zeros-long = length-replicate {A = ℕ} (size two) 0

zeros-edition : edition_of zeros ≡ two
zeros-edition = edition-two zeros zeros-long

-- a first call that is a Blank
blanked : (ls : List Line) → text_through zeros (Ok (call_of (0 ∷ 0 ∷ 0 ∷ 0 ∷ 0 ∷ 0 ∷ 0 ∷ 0 ∷ [])) ∷ ls) ≡ printed (0 ∷ 0 ∷ 0 ∷ 0 ∷ []) ++ text_through (words two blank) ls
unfolding ahead ahead_for bears_answer blank call_of first_free next outcome reply_by reply_in reply_text service_of table_by table_in text_through
blanked ls =
    let c = call_of (0 ∷ 0 ∷ 0 ∷ 0 ∷ 0 ∷ 0 ∷ 0 ∷ 0 ∷ []) in
    rw (blank-accepted zeros c (rw zeros-edition zeros-long) refl, zeros-edition, served-blank (read_state two zeros) c refl)

answered-all : text_through zeros (lines_from rows) ≡ output_of rows
unfolding add_hub add_started add_task ahead ahead_for answer answered bad_text bears_answer bears_word behind blank by_running call_of counted decimal digits effective first_free first_waiting get_fifo good_hub good_wait hold holding inactive index_of insert is_resource join_hub join_ready joined kept kind_of last_side leave lines_from meet_all mode_of need new_hub next no_hub on_get on_put on_side only outcome outcome_of output_of over_owned over_task over_waiters owns printed put_back put_fifo queued readied refusal refusal_at refusal_for refusal_with rejoin rejoin_hub reordered reply_by reply_text rows serve served service_of set_hub set_ready set_task settle side_of spaced start state_after state_by stored taken_out text_from thinned tick_all tick_by tick_one unqueue verdict wait waits wake without
answered-all = blanked _ ∙ ap (λ (t : List ℕ). printed (0 ∷ 0 ∷ 0 ∷ 0 ∷ []) ++ t) (on_words blank valid-blank _)

-- the twelve, as one input and one output
pub marked : drill_text (input_of rows) ≡ output_of rows
unfolding drill_text
marked = ap (text_through zeros) read ∙ answered-all
