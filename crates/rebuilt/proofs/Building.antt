-- What the lines of a set-up do to a state in the drill runner's table, which is of edition 2: each is accepted, adds its task or
-- its hub, and prints 0 0 0 0. Nobody waits at any hub, so no effective priority changes (M-108). In order: one call; calls in a
-- row; the tasks; the hubs. Not here: how the lines are read (Reading.antt). Assumes nothing.
use Prim.Native.Nat.{◌+◌, ◌<◌, ◌≤◌, suc, zero, ℕ}
use Rattle.lines.specs.Lines.{call_of, printed}
use Rattle.listing.specs.Listing.{HubSetUp, hub_line, new_hub as hub_from, task_line, text_of_lines}
use Rattle.rebuilt.proofs.Reading.{good}
use Rattle.rebuilt.specs.Rebuilt.{Every, GoodHub, all_accepted}
use Rattle.rules.proofs.After.{zero-at}
use Rattle.rules.proofs.Cases.{same_or}
use Rattle.rules.proofs.Changes.{added_other, hub-added_other, hub-added_same}
use Rattle.rules.proofs.States.{reply-words, state_after, state_by, table-words, two_fitting, valid-after}
use Rattle.rules.proofs.Still.{idle_still}
use Rattle.rules.proofs.Valid.{Valid}
use Rattle.rules.specs.Calls.{add_hub, add_task, blank, new_hub, serve, served, service_of}
use Rattle.rules.specs.Lists.{first_free, next}
use Rattle.rules.specs.Refusals.{need, refusal, refusal_at, refusal_for}
use Rattle.rules.specs.Reply.{ahead, ahead_for, bears_answer, outcome, reply_by, reply_to, table_after}
use Rattle.rules.specs.Table.{Hub, State, Task, hub, inactive, no_hub, two, words}
use Rattle.rules.specs.declared.Call.{Call}
use Rattle.runner.proofs.Runs.{table_append}
use Rattle.runner.specs.Runner.{reply_text, table_through, text_through}
use borrow.Author.Tests.{le-leb, lt-ltb}
use lib.Dec.{eqb}
use lib.ListN.{length, length-append}
use mathlib.Core.Bool.{false, not, or-true}
use mathlib.Core.List.{List, [], ◌++◌, ◌∷◌, append_assoc, append-nil, map}
use mathlib.Core.Path.{◌∙◌, ◌≡◌, ap, ap₂, refl, subst, sym}
use native.Mathlib.Nat.{zero-add}
use native.Mathlib.Omega.{arith}

abbrev accepted : List ℕ
accepted = 0 ∷ 0 ∷ 0 ∷ 0 ∷ []

-- nobody is ready, and nobody waits
pub record Idle (s : State) : Type 0 where
  pub ready : s.ready ≡ []
  pub waiters : (h : ℕ) → (hub s h).waiters ≡ []

pub idle_blank : Idle blank
unfolding blank no_hub
idle_blank = record { ready = refl; waiters = λ h. refl }

-- ---- calls in a row, from a state to another

pub record Steps (s : State) (ls : List (List ℕ)) (s' : State) : Type 0 where
  pub table : table_through (words two s) (map good ls) ≡ words two s'
  pub text : text_through (words two s) (map good ls) ≡ all_accepted (length ls)
  pub valid : Valid s'
  pub idle : Idle s'

pub steps_none : (s : State) → Valid s → Idle s → Steps s [] s
unfolding table_through text_of_lines text_through
steps_none s v e = record { table = refl; text = refl; valid = v; idle = e }

module _ (s : State) (v : Valid s) (l : List ℕ) (s₁ : State)
    (accept : refusal s (call_of l) ≡ 0) (served-is : served s (call_of l) ≡ s₁)
    (silent : bears_answer (service_of (call_of l).service) ≡ false) (alone : ahead s₁ (call_of l) ≡ 0)
    (none : s₁.ready ≡ []) where
  abbrev c : Call
  c = call_of l

  -- edition 2 takes any message
  accept_all : refusal_at two s c ≡ 0
  accept_all = zero-at two s c accept (or-true (not (eqb c.service 1)))

  after : state_after two s c ≡ s₁
  unfolding state_after state_by
  after = rw accept_all served-is

  step-table : table_after (words two s) c ≡ words two s₁
  step-table = table-words two_fitting s v c ∙ ap (words two) after

  step-text : reply_text (reply_to (words two s) c) ≡ printed accepted
  unfolding first_free next outcome reply_by reply_text
  step-text = rw (reply-words two_fitting s v c, accept_all, served-is, silent, alone, none)

  pub step-valid : Valid s₁
  step-valid = subst Valid after (valid-after two_fitting s v c)

  pub steps_cons : (ls : List (List ℕ)) (s' : State) → Steps s₁ ls s' → Steps s (l ∷ ls) s'
  unfolding table_through text_of_lines text_through
  steps_cons ls s' w = record {
    table = ap (λ (t : List ℕ). table_through t (map good ls)) step-table ∙ w.table;
    text = ap₂ {C = List ℕ} ◌++◌ step-text (ap (λ (t : List ℕ). text_through t (map good ls)) step-table ∙ w.text);
    valid = w.valid;
    idle = w.idle;
  }

text_append : (t : List ℕ) (a b : List (List ℕ)) → text_through t (map good (a ++ b)) ≡ text_through t (map good a) ++ text_through (table_through t (map good a)) (map good b)
unfolding table_through text_through
text_append t [] b = refl
text_append t (l ∷ a) b = ap (λ (r : List ℕ). reply_text (reply_to t (call_of l)) ++ r) (text_append (table_after t (call_of l)) a b) ∙ sym (append_assoc (reply_text (reply_to t (call_of l))) _ _)

accepted_append : (m n : ℕ) → all_accepted (m + n) ≡ all_accepted m ++ all_accepted n
unfolding text_of_lines
accepted_append zero n = rw zero-add
accepted_append (suc m) n = let e : suc m + n ≡ suc (m + n) = omega arith in rw e (ap (λ (r : List ℕ). printed accepted ++ r) (accepted_append m n) ∙ sym (append_assoc (printed accepted) _ _))

map-append : (a b : List (List ℕ)) → map good (a ++ b) ≡ map good a ++ map good b
map-append [] b = refl
map-append (x ∷ a) b = rw (map-append a b)

pub steps_append : (s s₁ s' : State) (a b : List (List ℕ)) → Steps s a s₁ → Steps s₁ b s' → Steps s (a ++ b) s'
steps_append s s₁ s' a b p q = record {
  table = rw (map-append a b, table_append (words two s) (map good a) (map good b), p.table) q.table;
  text = text_append (words two s) a b ∙ rw (p.table, p.text, q.text, length-append a b) (sym (accepted_append (length a) (length b)));
  valid = q.valid;
  idle = q.idle;
}

-- ---- the tasks

abbrev pub more_tasks : List ℕ → State → State
more_tasks ps s = record { tasks = s.tasks ++ map inactive ps; hubs = s.hubs; ready = s.ready }

module _ (s : State) (room : length s.tasks < 16) (p : ℕ) (low : p ≤ 255) where
  task-accepted : refusal s (call_of (task_line p)) ≡ 0
  unfolding call_of need refusal refusal_for service_of
  task-accepted = rw (le-leb p 255 low, lt-ltb (length s.tasks) 16 room)

  module _ (e : Idle s) where
    task_idle : Idle (add_task p s)
    unfolding add_task
    task_idle = record { ready = e.ready; waiters = e.waiters }

    task-served : served s (call_of (task_line p)) ≡ add_task p s
    unfolding call_of serve served service_of
    task-served =
        idle_still s (add_task p s) e.waiters task_idle.waiters
        (λ j h. ap (λ (t : Task). t.priority) (added_other p s j (λ z. omega arith)))

pub add_tasks : (ps : List ℕ) (s : State) → Valid s → Idle s → length s.tasks + length ps ≤ 16 → Every (λ p. p ≤ 255) ps → Steps s (map task_line ps) (more_tasks ps s)
unfolding Every add_task ahead ahead_for bears_answer call_of service_of
add_tasks [] s v e room low = subst (Steps s []) (rw (append-nil s.tasks)) (steps_none s v e)
add_tasks (p ∷ ps) s v e room low =
    let here : length s.tasks < 16 = omega arith in
    let s₁ = add_task p s in
    let a = task-accepted s here p low.0 in
    let d = task-served s here p low.0 e in
    let i = task_idle s here p low.0 e in
    let w = step-valid s v (task_line p) s₁ a d refl refl i.ready in
    let rest = add_tasks ps s₁ w i (omega (arith, length-append s.tasks (inactive p ∷ []))) low.1 in
    subst (Steps s (map task_line (p ∷ ps))) (rw (append_assoc s.tasks (inactive p ∷ []) (map inactive ps)))
    (steps_cons s v (task_line p) s₁ a d refl refl i.ready (map task_line ps) (more_tasks ps s₁) rest)

-- ---- the hubs

abbrev pub more_hubs : List HubSetUp → State → State
more_hubs hs s = record { tasks = s.tasks; hubs = s.hubs ++ map hub_from hs; ready = s.ready }

module _ (s : State) (room : length s.hubs < 16) (h : HubSetUp) (fine : GoodHub h) where
  hub-accepted : refusal s (call_of (hub_line h)) ≡ 0
  unfolding call_of need refusal refusal_for service_of
  hub-accepted = rw (fine, lt-ltb (length s.hubs) 16 room)

  module _ (e : Idle s) where
    hub_idle : Idle (add_hub (hub_from h) s)
    hub_idle = record {
      ready = unfold add_hub in e.ready;
      waiters = λ k. same_or k (length s.hubs)
          (λ z. ap (λ (n : ℕ). (hub (add_hub (hub_from h) s) n).waiters) z ∙ ap (λ (x : Hub). x.waiters) (hub-added_same (hub_from h) s))
          (λ n. ap (λ (x : Hub). x.waiters) (hub-added_other (hub_from h) s k n) ∙ e.waiters k);
    }

    hub-served : served s (call_of (hub_line h)) ≡ add_hub (hub_from h) s
    unfolding call_of new_hub serve served service_of
    hub-served = idle_still s (add_hub (hub_from h) s) e.waiters hub_idle.waiters (λ j u. unfold add_hub in refl)

pub add_hubs : (hs : List HubSetUp) (s : State) → Valid s → Idle s → length s.hubs + length hs ≤ 16 → Every GoodHub hs → Steps s (map hub_line hs) (more_hubs hs s)
unfolding Every add_hub ahead ahead_for bears_answer call_of service_of
add_hubs [] s v e room fine = subst (Steps s []) (rw (append-nil s.hubs)) (steps_none s v e)
add_hubs (h ∷ hs) s v e room fine =
    let here : length s.hubs < 16 = omega arith in
    let s₁ = add_hub (hub_from h) s in
    let a = hub-accepted s here h fine.0 in
    let d = hub-served s here h fine.0 e in
    let i = hub_idle s here h fine.0 e in
    let w = step-valid s v (hub_line h) s₁ a d refl refl i.ready in
    let rest = add_hubs hs s₁ w i (omega (arith, length-append s.hubs (hub_from h ∷ []))) fine.1 in
    subst (Steps s (map hub_line (h ∷ hs))) (rw (append_assoc s.hubs (hub_from h ∷ []) (map hub_from hs)))
    (steps_cons s v (hub_line h) s₁ a d refl refl i.ready (map hub_line hs) (more_hubs hs s₁) rest)
