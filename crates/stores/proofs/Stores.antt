-- A hub's store in the words of a table: where it stands; a message is read, the oldest goes, a message comes behind, a message is
-- another; what a verdict does to it; the hub once its oldest message is taken.
-- Not here: which messages a verdict takes and appends (crate hubtable). Assumes nothing.
use Prim.Native.Nat.{◌*◌, ◌+◌, ◌<◌, ◌≤◌, pred, suc, ℕ}
use Rattle.hubtable.specs.Says.{StoreBelow, store_after}
use Rattle.hubtable.specs.declared.Store.{Store}
use Rattle.lists.specs.Lists.{remove_first}
use Rattle.messages.specs.Messages.{message_at, message_words, messages}
use Rattle.records.specs.Records.{store_size as store_wide, stores_at as stores_from, width}
use Rattle.stores.specs.Fits.{StoreFits}
use Rattle.rules.proofs.Changes.{length-set_hub}
use Rattle.rules.proofs.Cut.{Cut, cut_part, cut_paste, cut_sets, cut_within}
use Rattle.rules.proofs.Layouts.{Laid, message-at, message-written, message-zero, sized, store_place, wide}
use Rattle.rules.proofs.Places.{cut_store, same_hub, store_word}
use Rattle.rules.proofs.Rows.{cut_next, cut_row, more, row_any, row_of, rows_shift}
use Rattle.rules.specs.Calls.{hold}
use Rattle.rules.specs.Lists.{holding}
use Rattle.rules.specs.Table.{Hub, Layout, State, hub, no_hub, set_hub, store_size, store_words, stores_at, words}
use borrow.Rule.Slice.PartMut.{mid_of, put_mid}
use lib.ListN.{drop, get_or, length, length-drop, length-replicate, set}
use lib.Seq.{get_or-set_same, set-get_or, set-set, sets}
use mathlib.Core.List.{List, [], ◌++◌, ◌∷◌}
use mathlib.Core.Option.{Option, none, some}
use mathlib.Core.Path.{◌∙◌, ◌≡◌, ap, refl, subst, sym}
use native.Mathlib.Nat.{mul-le-mul_right, suc-mul}
use native.Mathlib.Omega.{arith}

-- the table of s, but for hub h's store, which holds ws
abbrev pub After : Layout → State → ℕ → List ℕ → List ℕ
After L s h ws = words L (hold h (hub s h).count ws s)

pub as_held : (L : Layout) (s : State) (h : ℕ) → words L s ≡ After L s h (hub s h).held
unfolding hold holding
as_held L s h = ap (words L) (sym (same_hub s h))

-- ---- the store's words

module _ {ts : ℕ} {L : Layout} (y : Laid ts L) (some_words : 8 ≤ ts) (few : ts ≤ 9) (s : State) (h : ℕ) (low : h < 16) (used : h < length s.hubs) (t : List ℕ) (e : t ≡ words L s) (a : ℕ) (at : a ≡ stores_from ts + h * store_wide ts) where
  pub held-read : (i : ℕ) → i < 8 → message_at (width ts) t (a + i * width ts) ≡ get_or (hub s h).held i 0
  held-read i lt =
      message-at L y t (a + i * width ts) (get_or (hub s h).held i 0)
      (λ k hk.
      let eighth : suc i ≤ 8 = lt in
      let place : a + i * width ts + k ≡ stores_at L + h * store_size L + (i * L.width + k) = rw (at, store_place y h, wide y) (omega arith) in
      rw (e, place)
      (store_word L (sized y) s h low used (i * L.width + k) (omega (arith, suc-mul i L.width, mul-le-mul_right L.width eighth))
      ∙ row_any L.width L.message y.long 0 (message-zero L y) 8 (hub s h).held i k lt hk))

  cut : Cut (λ (ws : List ℕ). After L s h ws) (store_words L) (stores_at L + h * store_size L)
  unfolding hold
  cut = cut_store L (sized y) s h low used (hub s h).count (hub s h)

  held_now : t ≡ After L s h (hub s h).held
  held_now = e ∙ as_held L s h

  -- the oldest message goes
  pub store_taken : (ys : List ℕ) (n : ℕ) → n ≡ store_wide ts → length (hub s h).held ≤ 8 → ys ≡ remove_first (width ts) (mid_of a n t) → put_mid a n t ys ≡ After L s h (drop 1 (hub s h).held)
  store_taken ys n many room q =
      let place : a ≡ stores_at L + h * store_size L = at ∙ store_place y h in
      let size : n ≡ store_size L = many ∙ rw (wide y) in
      let here = (sized y).store (hub s h).held in
      let new : ys ≡ store_words L (drop 1 (hub s h).held) = q ∙ rw (size, place, held_now, cut_part cut (hub s h).held (store_size L) here, wide y) (rows_shift L.width L.message y.long 7 (hub s h).held room) in
      rw (size, place, held_now, new) (cut_paste cut (hub s h).held (drop 1 (hub s h).held) (store_size L) here)

  -- a message comes behind those held
  pub store_grown : (n m : ℕ) → n ≡ length (hub s h).held → n < 8 → m < messages (width ts) → sets t (a + n * width ts) (message_words (width ts) m) ≡ After L s h ((hub s h).held ++ m ∷ [])
  store_grown n m many room fits =
      let place : a ≡ stores_at L + h * store_size L = at ∙ store_place y h in
      let wrote : message_words (width ts) m ≡ L.message m = message-written y some_words few m fits in
      rw
      (wrote, many, wide y, place, held_now)
      (cut_sets next none (some m) (length-replicate {A = ℕ} L.width 0 ∙ sym (y.long m)))
    where
      next : Cut (λ (o : Option ℕ). After L s h (more (hub s h).held o)) (row_of L.width L.message) (stores_at L + h * store_size L + length (hub s h).held * L.width)
      next =
          cut_within cut.front cut.back (stores_at L + h * store_size L) (length (hub s h).held * L.width) cut.front_length
          (λ o. cut.each (more (hub s h).held o))
          (cut_next L.width L.message y.long 8 (hub s h).held (omega (arith, many)))

  -- message b is another
  pub store_marked : (n b m : ℕ) → n ≡ length (hub s h).held → n ≤ 8 → b < n → m < messages (width ts) → sets t (a + b * width ts) (message_words (width ts) m) ≡ After L s h (set (hub s h).held b m)
  store_marked n b m many room lt fits =
      let place : a ≡ stores_at L + h * store_size L = at ∙ store_place y h in
      let wrote : message_words (width ts) m ≡ L.message m = message-written y some_words few m fits in
      let here : t ≡ After L s h (set (hub s h).held b (get_or (hub s h).held b 0)) = held_now ∙ ap (After L s h) (sym (set-get_or (hub s h).held b 0)) in
      rw (wrote, wide y, place, here) (cut_sets row (get_or (hub s h).held b 0) m (y.long (get_or (hub s h).held b 0) ∙ sym (y.long m)))
    where
      row : Cut (λ (x : ℕ). After L s h (set (hub s h).held b x)) L.message (stores_at L + h * store_size L + b * L.width)
      row =
          cut_within cut.front cut.back (stores_at L + h * store_size L) (b * L.width) cut.front_length
          (λ x. cut.each (set (hub s h).held b x))
          (cut_row L.width L.message y.long 8 (hub s h).held b (omega arith) (omega (arith, many)))

module _ (s : State) (h : ℕ) (low : h < 16) (used : h < length s.hubs) where
  -- a hub that is told to hold twice holds what it was told last
  held-hub : (n : ℕ) (ws : List ℕ) → hub (hold h n ws s) h ≡ holding n ws (hub s h)
  unfolding hold set_hub
  held-hub n ws = get_or-set_same s.hubs h (holding n ws (hub s h)) no_hub used

  hold-hold : (n m : ℕ) (ws vs : List ℕ) → hold h m vs (hold h n ws s) ≡ hold h m vs s
  hold-hold n m ws vs =
      unfold hold set_hub holding in
      rw (get_or-set_same s.hubs h (holding n ws (hub s h)) no_hub used, set-set s.hubs h (holding n ws (hub s h)) _) refl

-- ---- what a verdict does to a store, once it is told which it is

module _ {st to : Store} (told : st ≡ to) where
  pub fits_told : (held : List ℕ) → StoreFits st held → StoreFits to held
  fits_told held f = subst (λ (z : Store). StoreFits z held) told f

  pub below_told : (b : ℕ) → StoreBelow b st → StoreBelow b to
  below_told b f = subst (StoreBelow b) told f

  pub after_told : (L : Layout) (s : State) (h : ℕ) → After L s h (store_after to (hub s h).held) ≡ After L s h (store_after st (hub s h).held)
  after_told L s h = ap (λ (z : Store). After L s h (store_after z (hub s h).held)) (sym told)

-- the hub once its oldest word is taken: what the word that comes behind rests on, and what it leaves
module _ (s : State) (h : ℕ) (low : h < 16) (used : h < length s.hubs) where
  abbrev pub taken : State
  taken = hold h (hub s h).count (drop 1 (hub s h).held) s

  pub taken-used : h < length taken.hubs
  unfolding hold
  taken-used = rw (length-set_hub s h (holding (hub s h).count (drop 1 (hub s h).held) (hub s h))) used

  hub-taken : hub taken h ≡ holding (hub s h).count (drop 1 (hub s h).held) (hub s h)
  hub-taken = held-hub s h low used (hub s h).count (drop 1 (hub s h).held)

  pub taken_many : (n : ℕ) → n ≡ length (hub s h).held → pred n ≡ length (hub taken h).held
  unfolding holding
  taken_many n e = rw hub-taken (omega (arith, e, length-drop 1 (hub s h).held))

  pub taken_grown : (L : Layout) (w : ℕ) → After L taken h ((hub taken h).held ++ w ∷ []) ≡ After L s h (drop 1 (hub s h).held ++ w ∷ [])
  unfolding holding
  taken_grown L w =
      ap (λ (x : Hub). words L (hold h x.count (x.held ++ w ∷ []) taken)) hub-taken
      ∙ ap (words L) (hold-hold s h low used (hub s h).count (hub s h).count (drop 1 (hub s h).held) (drop 1 (hub s h).held ++ w ∷ []))
