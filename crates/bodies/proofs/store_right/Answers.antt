-- `bodies::store_right` meets its contract: the store from behind the messages that it holds on. Assumes nothing.
use Prim.Native.Nat.{◌*◌, ◌+◌, ◌-◌, ◌<◌, ◌≤◌, ℕ}
use Rattle.bodies.proofs.Hubs.{held_fits, store_as}
use Rattle.bodies.specs.Bodies.{Used, kind_test}
use Rattle.bodies.proofs.Parts.{lent-long, to_end}
use Rattle.lists.specs.Lists.{all_zero}
use Rattle.rules.proofs.Layouts.{Laid, in_some, store_place, wide}
use Rattle.rules.specs.Table.{Layout, hubs_at, kind_of, stored}
use lib.ListN.{drop, get_or, take}
use mathlib.Core.Bool.{true}
use mathlib.Core.List.{List}
use mathlib.Core.Path.{◌∙◌, ◌≡◌, ap, sym}
use native.Mathlib.Nat.{mul-le-mul_right}
use native.Mathlib.Omega.{arith}
use Rattle.bodies.proofs.store_right.Goals as goal

-- it holds n messages, 8 at most, of v words
eight : (ts : ℕ) (t : List ℕ) (h b n v : ℕ) → Used ts t → h < get_or t 2 0
    → ((L : Layout) → Laid ts L → kind_test L t h ≡ true)
    → ((L : Layout) → Laid ts L → b ≡ hubs_at L + h * 4)
    → n ≡ stored (kind_of (get_or t b 0)) (get_or t (b + 1) 0) (get_or t (b + 2) 0)
    → n * v ≤ 8 * v
eight ts t h b n v used u kind at is =
    mul-le-mul_right v (in_some ts used.low used.high (λ L y. rw is (held_fits L t h u b (at L y) (kind L y))))

pub overflow_mul-n : goal.overflow_mul-n
overflow_mul-n c = omega (arith, eight c.args.t.now.ts.words c.args.t.now.words.now c.args.h (c.hubs_at.result + c.args.h * 4) c.stored-n.result c.width_of.result c.args.t.now.used c.requires.h_bound c.requires.h_value (λ L y. omega arith) c.stored-n.ensures)

pub offset_bounds-store-n : goal.offset_bounds-store-n
offset_bounds-store-n c = omega (arith, eight c.args.t.now.ts.words c.args.t.now.words.now c.args.h (c.hubs_at.result + c.args.h * 4) c.stored-n.result c.width_of.result c.args.t.now.used c.requires.h_bound c.requires.h_value (λ L y. omega arith) c.stored-n.ensures)

pub slice_bounds-zeros-count : goal.slice_bounds-zeros-count
slice_bounds-zeros-count c = omega (arith, eight c.args.t.now.ts.words c.args.t.now.words.now c.args.h (c.hubs_at.result + c.args.h * 4) c.stored-n.result c.width_of.result c.args.t.now.used c.requires.h_bound c.requires.h_value (λ L y. omega arith) c.stored-n.ensures, lent-long c.args.t.now.words.now c.store_at-at.result c.store_size.result (omega arith))

pub slice_bounds-zeros-start : goal.slice_bounds-zeros-start
slice_bounds-zeros-start c = omega (arith, eight c.args.t.now.ts.words c.args.t.now.words.now c.args.h (c.hubs_at.result + c.args.h * 4) c.stored-n.result c.width_of.result c.args.t.now.used c.requires.h_bound c.requires.h_value (λ L y. omega arith) c.stored-n.ensures, lent-long c.args.t.now.words.now c.store_at-at.result c.store_size.result (omega arith))

pub returns : goal.returns
returns c L y =
    let p = c.hubs_at in
    let s = c.store_at-at in
    let n = c.store_size in
    c.zeros.ensures ∙ ap all_zero (to_end (c.stored-n.result * c.width_of.result) (take (s.result + n.result - s.result) (drop s.result c.args.t.now.words.now)))
    ∙ rw (c.stored-n.ensures, c.width_of.ensures ∙ wide y)
    (sym (store_as L c.args.t.now.words.now c.args.h c.requires.h_bound (p.result + c.args.h * 4) (omega arith) s.result n.result (s.ensures.place ∙ store_place y c.args.h) (omega arith)))
