-- `inherit::asked_owner` meets its contract: 0, or the count of a hub that is asked at. Assumes nothing.
use Rattle.inherit.proofs.Linking.{owner-asked, owner-none}
use Rattle.inherit.proofs.asked_owner.Goals as goal

pub returns-then-not-is_asked : goal.returns-then-not-is_asked
returns-then-not-is_asked c L s y x w u =
    let a = c.args in
    let r = c.is_asked in
    owner-none L s y x a.h u a.t.now.words.now w r.result (r.ensures L s y x w u) c.if-not-is_asked.true

pub returns : goal.returns
returns c L s y x w u =
    let a = c.args in
    let r = c.is_asked in
    let p = c.hubs_at in
    owner-asked L s y x a.h u a.t.now.words.now w r.result (r.ensures L s y x w u) c.if-not-is_asked.false p.result p.ensures
