-- A task's record and a hub read after each elementary change: a record or a hub replaced, all lists left by one task, a
-- task or a hub added; and how many there are. Not here: what a whole call does.
use Prim.Native.Nat.{◌+◌, ◌<◌, suc, zero, ℕ}
use Rattle.lists.proofs.Laws.{bool_case}
use Rattle.lists.specs.Lists.{without}
use Rattle.rules.proofs.Cases.{same_or}
use Rattle.rules.specs.Calls.{add_hub, add_task}
use Rattle.rules.specs.Lists.{leave, queued, unqueue}
use Rattle.rules.specs.Table.{Hub, State, Task, hub, inactive, no_hub, set_hub, set_task, task}
use borrow.Author.Tests.{ltb-false, ltb-true}
use lib.Dec.{ltb}
use lib.ListN.{get_or-eq_default, get_or-map, get_or, length, length-append, length-set, set}
use lib.Seq.{get_or-append_seam, get_or-set_other, get_or-set_same, set_out}
use mathlib.Core.List.{List, [], ◌++◌, ◌∷◌}
use mathlib.Core.Logic.{◌≢◌}
use mathlib.Core.Path.{◌∙◌, ◌≡◌, ap, refl, sym}
use native.Mathlib.Omega.{arith}

-- ---- a list with one entry replaced, or one added

-- a part that the new entry shares with the old one is as it was everywhere
get_or-set_keeps : {A B : Type 0} (f : A → B) (l : List A) (i : ℕ) (a d : A) → f a ≡ f (get_or l i d)
    → (j : ℕ) → f (get_or (set l i a) j d) ≡ f (get_or l j d)
get_or-set_keeps f l i a d e j =
    same_or j i
    (λ q. bool_case (ltb i (length l))
    (λ b. rw q (ap f (get_or-set_same l i a d (ltb-true _ _ b)) ∙ e))
    (λ b. ap (λ (m : List _). f (get_or m j d)) (set_out l i a (ltb-false _ _ b))))
    (λ n. ap f (get_or-set_other l i j a d n))

get_or_snoc_other : {A : Type 0} (l : List A) (a d : A) (j : ℕ) → j ≢ length l → get_or (l ++ a ∷ []) j d ≡ get_or l j d
get_or_snoc_other [] a d zero n = absurd (n refl)
get_or_snoc_other [] a d (suc j) n = refl
get_or_snoc_other (x ∷ xs) a d zero n = refl
get_or_snoc_other (x ∷ xs) a d (suc j) n = get_or_snoc_other xs a d j (λ e. n (ap suc e))

-- ---- tasks

-- a task that is not inactive is in use
pub in_use : (s : State) (i n : ℕ) → (task s i).state ≡ suc (suc n) → i < length s.tasks
unfolding inactive
in_use s i n e =
    bool_case (ltb i (length s.tasks))
    (ltb-true i _)
    (λ b. absurd (omega (arith, e, ap (λ (t : Task). t.state) (get_or-eq_default s.tasks (inactive 0) (ltb-false i _ b)))))

module _ (s : State) (i : ℕ) (t : Task) where
  pub set_same : i < length s.tasks → task (set_task i t s) i ≡ t
  unfolding set_task
  set_same h = get_or-set_same s.tasks i t (inactive 0) h

  pub set_other : (j : ℕ) → j ≢ i → task (set_task i t s) j ≡ task s j
  unfolding set_task
  set_other j n = get_or-set_other s.tasks i j t (inactive 0) n

  pub set_keeps : {B : Type 0} (f : Task → B) → f t ≡ f (task s i) → (j : ℕ) → f (task (set_task i t s) j) ≡ f (task s j)
  unfolding set_task
  set_keeps f e j = get_or-set_keeps f s.tasks i t (inactive 0) e j

  -- what is true of the new record and was true of the old one
  pub set_case : (P : Task → Type 0) (j : ℕ) → (j ≡ i → P t) → P (task s j) → P (task (set_task i t s) j)
  set_case P j f h =
      same_or j i
      (λ q. bool_case (ltb i (length s.tasks))
      (λ b. rw (q, set_same (ltb-true _ _ b)) (f q))
      (λ b. unfold set_task in rw (set_out s.tasks i t (ltb-false _ _ b)) h))
      (λ n. rw (set_other j n) h)

  pub length-set_task : length (set_task i t s).tasks ≡ length s.tasks
  unfolding set_task
  length-set_task = length-set s.tasks i t

pub past_end : (s : State) → task s (length s.tasks) ≡ inactive 0
past_end s = get_or-eq_default s.tasks (inactive 0) (omega arith)

module _ (p : ℕ) (s : State) where
  pub added_other : (j : ℕ) → j ≢ length s.tasks → task (add_task p s) j ≡ task s j
  unfolding add_task
  added_other j n = get_or_snoc_other s.tasks (inactive p) (inactive 0) j n

  pub added_same : task (add_task p s) (length s.tasks) ≡ inactive p
  unfolding add_task
  added_same = get_or-append_seam s.tasks (inactive p) [] (inactive 0)

  -- a part that an inactive record has whatever its priority
  pub added_keeps : {B : Type 0} (f : Task → B) → f (inactive p) ≡ f (inactive 0) → (j : ℕ) → f (task (add_task p s) j) ≡ f (task s j)
  added_keeps f e j =
      same_or j (length s.tasks)
      (λ q. rw q (ap f added_same ∙ (e ∙ sym (ap f (past_end s)))))
      (λ n. ap f (added_other j n))

  pub length-add_task : length (add_task p s).tasks ≡ length s.tasks + 1
  unfolding add_task
  length-add_task = length-append s.tasks (inactive p ∷ [])

-- ---- hubs

module _ (s : State) (h : ℕ) (x : Hub) where
  pub hub-set_same : h < length s.hubs → hub (set_hub h x s) h ≡ x
  unfolding set_hub
  hub-set_same l = get_or-set_same s.hubs h x no_hub l

  pub hub-set_other : (g : ℕ) → g ≢ h → hub (set_hub h x s) g ≡ hub s g
  unfolding set_hub
  hub-set_other g n = get_or-set_other s.hubs h g x no_hub n

  pub hub-set_keeps : {B : Type 0} (f : Hub → B) → f x ≡ f (hub s h) → (g : ℕ) → f (hub (set_hub h x s) g) ≡ f (hub s g)
  unfolding set_hub
  hub-set_keeps f e g = get_or-set_keeps f s.hubs h x no_hub e g

  pub length-set_hub : length (set_hub h x s).hubs ≡ length s.hubs
  unfolding set_hub
  length-set_hub = length-set s.hubs h x

pub hub-leave : (i : ℕ) (s : State) (h : ℕ) → hub (leave i s) h ≡ unqueue i (hub s h)
unfolding leave no_hub queued unqueue without
hub-leave i s h = get_or-map (unqueue i) s.hubs h no_hub

pub hub_past_end : (s : State) → hub s (length s.hubs) ≡ no_hub
hub_past_end s = get_or-eq_default s.hubs no_hub (omega arith)

module _ (x : Hub) (s : State) where
  pub hub-added_other : (h : ℕ) → h ≢ length s.hubs → hub (add_hub x s) h ≡ hub s h
  unfolding add_hub
  hub-added_other h n = get_or_snoc_other s.hubs x no_hub h n

  pub hub-added_same : hub (add_hub x s) (length s.hubs) ≡ x
  unfolding add_hub
  hub-added_same = get_or-append_seam s.hubs x [] no_hub

  pub length-add_hub : length (add_hub x s).hubs ≡ length s.hubs + 1
  unfolding add_hub
  length-add_hub = length-append s.hubs (x ∷ [])
