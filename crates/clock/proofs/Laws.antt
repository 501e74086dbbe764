-- A task's tick by its record: the cases of `tick_one`, and a state that some tasks have ticked in. Assumes nothing.
use Prim.Native.Nat.{◌≤◌, suc, ℕ}
use Rattle.rules.proofs.Hubs.{hubs_tick}
use Rattle.rules.proofs.Lengths.{length_tick}
use Rattle.rules.proofs.Listed.{listed_tick}
use Rattle.rules.proofs.Valid.{Sound}
use Rattle.rules.specs.Calls.{tick_all, tick_by, tick_one}
use Rattle.rules.specs.Lists.{counted, wake}
use Rattle.rules.specs.Table.{State, set_task, task}
use Rattle.rules.specs.WellFormed.{within}
use lib.ListN.{length}
use mathlib.Core.Bool.{false, true}
use mathlib.Core.Path.{◌≡◌, ap, refl, sym}

module _ (key : ℕ → ℕ) (i : ℕ) (s : State) where
  pub tick_idle : within 3 4 (task s i).state ≡ false → s ≡ tick_one key i s
  unfolding tick_by tick_one
  tick_idle e = rw e refl

  module _ (counts : within 3 4 (task s i).state ≡ true) where
    by_ticks : (n : ℕ) → (task s i).ticks ≡ n → tick_by key n i s ≡ tick_one key i s
    unfolding tick_one
    by_ticks n e = rw counts (ap (λ (m : ℕ). tick_by key m i s) (sym e))

    pub tick_none : (task s i).ticks ≡ 0 → s ≡ tick_one key i s
    unfolding tick_by
    tick_none e = by_ticks 0 e

    pub tick_last : (task s i).ticks ≡ 1 → wake key i 3 0 s ≡ tick_one key i s
    unfolding tick_by
    tick_last e = by_ticks 1 e

    pub tick_down : (n : ℕ) → (task s i).ticks ≡ suc (suc n) → set_task i (counted (suc n) (task s i)) s ≡ tick_one key i s
    unfolding tick_by
    tick_down n e = by_ticks (suc (suc n)) e

-- the first n tasks have ticked, and every task still stands in the list that its record says
pub sound_tick : (key : ℕ → ℕ) (n : ℕ) (s : State) → Sound s → n ≤ length s.tasks → Sound (tick_all key n s)
sound_tick key n s sound h = record {
  tasks = rw (length_tick key n s) sound.tasks;
  hubs = rw (hubs_tick key n s).many sound.hubs;
  listed = listed_tick key n s sound.listed h;
}
