-- `inherit::list_rising` meets its contract. The loop has `Walking` for its invariant: the whole is rising if what is left is, from
-- the last key on. Assumes nothing.
use Rattle.inherit.proofs.Rising.{walking_begin, walking_end, walking_full, walking_miss, walking_step}
use Rattle.inherit.proofs.list_rising.Goals as goal

pub loop-e-init : goal.loop-e-init
loop-e-init c = walking_begin _ _

pub returns-then-e-eq0 : goal.returns-then-e-eq0
returns-then-e-eq0 c =
    let l = c.loop-e in
    walking_end _ _ l.last l.e-index l.invariant c.loop-e-test.true c.if-e-eq0.true

pub returns-then-q-last : goal.returns-then-q-last
returns-then-q-last c =
    let l = c.loop-e in
    walking_miss _ _ l.last l.e-index l.invariant c.loop-e-test.true c.if-e-eq0.false c.word-q.result c.word-q.ensures c.if-q-last.true

pub loop-e-preserved : goal.loop-e-preserved
loop-e-preserved c =
    let l = c.loop-e in
    walking_step _ _ l.last l.e-index l.invariant c.loop-e-test.true c.if-e-eq0.false c.word-q.result c.word-q.ensures c.if-q-last.false

pub returns : goal.returns
returns c = walking_full _ _ c.loop-e.last c.loop-e.e-index c.loop-e.invariant c.loop-e-test.false
