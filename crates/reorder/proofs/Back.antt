-- One task put back: the list that it joins by its record is the one that the rules say.
-- Not here: taking out (moves), the loops over all tasks (Loops.antt). Assumes nothing.
use Prim.Native.Nat.{◌-◌, ◌<◌, suc, ℕ}
use Rattle.lists.proofs.Laws.{bool_case}
use Rattle.moves.specs.Moves.{ListedBy, task_of}
use Rattle.records.specs.declared.TaskRecord.{TaskRecord}
use Rattle.reorder.specs.Changed.{HubsUsed}
use Rattle.rules.specs.Lists.{join_hub, join_ready}
use Rattle.rules.specs.Reorder.{rejoin, rejoin_hub}
use Rattle.rules.specs.Table.{State, Task, task}
use Rattle.std.proofs.Common.{None, inl, inr}
use borrow.Author.Tests.{eq-eqb, eqb-false, eqb-true, ne_eqb}
use lib.Dec.{eqb}
use lib.ListN.{length}
use mathlib.Core.Bool.{false}
use mathlib.Core.Logic.{◌⊎◌}
use mathlib.Core.Path.{◌∙◌, ◌≡◌, ap, refl, sym}
use native.Mathlib.Omega.{arith}

module _ (key : ℕ → ℕ) (i : ℕ) (s : State) (x : TaskRecord) (e : task_of x ≡ task s i) where
  state_of_lem : (task s i).state ≡ x.state
  state_of_lem = sym (ap (λ (r : Task). r.state) e)

  hub_of : (task s i).hub ≡ x.hub
  hub_of = sym (ap (λ (r : Task). r.hub) e)

  pub rejoin-ready : x.state ≡ 2 → join_ready key i s ≡ rejoin key i s
  unfolding rejoin
  rejoin-ready q = rw (eq-eqb (task s i).state 2 (state_of_lem ∙ q))

  module _ (n : x.state ≡ 2 → ⊥) where
    not_2 : eqb (task s i).state 2 ≡ false
    not_2 = ne_eqb (task s i).state 2 (λ q. n (sym state_of_lem ∙ q))

    pub rejoin-none : (x.state ≡ 3 → ⊥) → s ≡ rejoin key i s
    unfolding rejoin
    rejoin-none m = rw (not_2, ne_eqb (task s i).state 3 (λ q. m (sym state_of_lem ∙ q)))

    module _ (q : x.state ≡ 3) where
      pub rejoin_nowhere : x.hub ≡ 0 → s ≡ rejoin key i s
      unfolding rejoin rejoin_hub
      rejoin_nowhere z = rw (not_2, eq-eqb (task s i).state 3 (state_of_lem ∙ q), hub_of ∙ z)

      pub rejoin-hub : (h : ℕ) → x.hub ≡ suc h → join_hub key h i s ≡ rejoin key i s
      unfolding rejoin rejoin_hub
      rejoin-hub h at = rw (not_2, eq-eqb (task s i).state 3 (state_of_lem ∙ q), hub_of ∙ at)

      pub rejoin-used : HubsUsed s → (h : ℕ) → x.hub ≡ suc h → h < length s.hubs
      rejoin-used u h at = u.used h i (rw (eq-eqb (task s i).state 3 (state_of_lem ∙ q), eq-eqb (task s i).hub (suc h) (hub_of ∙ at)) refl)

  -- no list: neither ready, nor waiting at a hub that there may be
  pub rejoin-unlisted : ListedBy x None → HubsUsed s → s ≡ rejoin key i s
  rejoin-unlisted h u =
      bool_case (eqb x.state 3)
      (λ b. at (eqb-true x.state 3 b) (h.1 (eqb-true x.state 3 b)))
      (λ b. rejoin-none h.0 (eqb-false x.state 3 b))
    where
      at : x.state ≡ 3 → ((x.hub ≡ 0) ⊎ (16 < x.hub)) → s ≡ rejoin key i s
      at q (inl z) = rejoin_nowhere h.0 q z
      at q (inr z) = absurd (omega (arith, z, u.hubs, rejoin-used h.0 q u (x.hub - 1) (omega arith)))
