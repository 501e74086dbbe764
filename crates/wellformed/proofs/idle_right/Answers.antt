-- `wellformed::idle_right` meets its contract: the ranges, then an arm for each state. Assumes nothing.
use Prim.Native.Nat.{◌-◌, ℕ}
use Rattle.messages.specs.Messages.{message_at}
use Rattle.rules.proofs.Layouts.{Laid, wide}
use Rattle.rules.specs.Table.{Layout, stage_of}
use Rattle.rules.specs.WellFormed.{fields_right, stage_right}
use Rattle.wellformed.proofs.Turns.{answer_last, record_neither, record_range, record_stage}
use Rattle.wellformed.specs.Walks.{record_of}
use lib.Dec.{leb}
use lib.ListN.{get_or}
use mathlib.Core.Bool.{◌&&◌}
use mathlib.Core.List.{List}
use mathlib.Core.Path.{◌∙◌, ◌≡◌, ap, sym}
use native.Mathlib.Omega.{arith}
use Rattle.wellformed.proofs.idle_right.Goals as goal

-- its ranges are those of every layout
ranges-are : (ts : ℕ) (x : List ℕ) (L : Layout) → Laid ts L
    → (leb (get_or x 1 0) 1 && (leb (get_or x 2 0) 255 && (leb (get_or x 4 0) 1000000 && leb (get_or x (ts - 1) 0) 3)))
    ≡ fields_right (record_of L x)
unfolding fields_right
ranges-are ts x L y = rw (answer_last L y x)

-- and so is its message
word-is : (ts : ℕ) (x : List ℕ) (L : Layout) → Laid ts L → (v w : ℕ) → v ≡ ts - 7 → w ≡ message_at v x 6 → w ≡ (record_of L x).word
word-is ts x L y v w wide_as is = is ∙ ap (λ (k : ℕ). message_at k x 6) (wide_as ∙ wide y) ∙ sym (y.reads x 6)

pub returns-then-not-suspended-x : goal.returns-then-not-suspended-x
returns-then-not-suspended-x c L s y = sym (record_range s (record_of L c.args.x.now) c.args.mark (sym (ranges-are c.args.ts.words c.args.x.now L y) ∙ c.if-not-suspended-x.true))

pub returns-in-1 : goal.returns-in-1
unfolding stage_of stage_right
returns-in-1 c L s y =
    rw
    (word-is c.args.ts.words c.args.x.now L y _ _ c.width_of.ensures c.message-word.ensures.value, answer_last L y c.args.x.now)
    (sym (record_stage s (record_of L c.args.x.now) c.args.mark (sym (ranges-are c.args.ts.words c.args.x.now L y) ∙ c.if-not-suspended-x.false) 1 c.in-1.is))

pub returns-in-4 : goal.returns-in-4
unfolding stage_of stage_right
returns-in-4 c L s y =
    rw
    (word-is c.args.ts.words c.args.x.now L y _ _ c.width_of.ensures c.message-word.ensures.value, answer_last L y c.args.x.now)
    (sym (record_stage s (record_of L c.args.x.now) c.args.mark (sym (ranges-are c.args.ts.words c.args.x.now L y) ∙ c.if-not-suspended-x.false) 4 c.in-4.is))

pub returns-in_default : goal.returns-in_default
returns-in_default c L s y =
    sym (record_neither s (record_of L c.args.x.now) c.args.mark (sym (ranges-are c.args.ts.words c.args.x.now L y) ∙ c.if-not-suspended-x.false) c.requires.fact (λ e. omega arith) (λ e. omega arith))
