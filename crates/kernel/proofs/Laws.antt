-- What an accepted call rests on, and how its parts make the whole. In order: services; keys; the refusal of
-- a table, test by test; what an accepted call knows of the table and of its numbers; the reply.
-- Not here: what each service does (the crates below). Assumes nothing.
use Prim.Native.Nat.{◌<◌, ◌≤◌, suc, zero, ℕ}
use Rattle.kernel.specs.Promise.{CalledIn, Judged, ServedIn}
use Rattle.lists.proofs.Laws.{bool_case}
use Rattle.messages.specs.Messages.{messages}
use Rattle.moves.specs.Moves.{key_of}
use Rattle.records.specs.Records.{Table, width}
use Rattle.rules.proofs.Accepted.{caller-ready, on_task_lem}
use Rattle.rules.proofs.After.{accepted, accepted-formed, accepted-long, valid_in, words_in}
use Rattle.rules.proofs.Ahead.{ahead_other, ahead-reordered, ahead_request}
use Rattle.rules.proofs.Calm.{Calm, calm_still}
use Rattle.rules.proofs.Cases.{same_or}
use Rattle.rules.proofs.Changes.{in_use}
use Rattle.rules.proofs.Coded.{code-some, with-code}
use Rattle.rules.proofs.Inherited.{kept-reordered}
use Rattle.rules.proofs.Kept.{unsorted_serve, unsorted_sound, valid_unsorted}
use Rattle.rules.proofs.Layouts.{Laid, store_place}
use Rattle.rules.proofs.Lengths.{length-serve, tasks_after}
use Rattle.rules.proofs.Lockless.{lockless_still}
use Rattle.rules.proofs.Numbers.{resource-number}
use Rattle.rules.proofs.Valid.{Sound, Valid}
use Rattle.rules.specs.Calls.{AddHub, AddTask, Blank, HubRequest, Resume, Service, Sleep, Start, Stop, Suspend, Tick, Unknown, Yield, key_added, serve, served, service_of}
use Rattle.rules.specs.Effective.{effective}
use Rattle.rules.specs.HubTable.{message}
use Rattle.rules.specs.Lists.{next}
use Rattle.rules.specs.Refusals.{behind, good_message, need, on_task, refusal, refusal_at, refusal_for, refusal_in}
use Rattle.rules.specs.Reorder.{reordered}
use Rattle.rules.specs.Reply.{ahead, ahead_for, bears_answer, code, outcome, outcome_of, refusal_with, reply_by, reply_in, table_by, table_in}
use Rattle.rules.specs.Services.{service_named}
use Rattle.rules.specs.Table.{Layout, State, hub, is_resource, read, size, task, words}
use Rattle.rules.specs.WellFormed.{well_formed_in}
use Rattle.rules.specs.declared.Call.{Call}
use Rattle.rules.specs.declared.Outcome.TheVariants.{NothingYet}
use Rattle.rules.specs.declared.Outcome.{Outcome}
use Rattle.rules.specs.declared.Refusal.TheVariants.{UnknownService}
use Rattle.rules.specs.declared.Refusal.{Refusal}
use Rattle.rules.specs.declared.Served.{Served}
use Rattle.rules.specs.declared.services.Service.{Service as ServiceByName}
use Rattle.std.specs.Option.{ok_or}
use Rattle.std.specs.Prelude.{Err, None, Ok, Option, Some}
use borrow.Author.Tests.{eq-eqb, eqb-true, leb-false, leb-true, ne_eqb}
use lib.Dec.{leb}
use lib.ListN.{get_or, length, set}
use lib.Seq.{get_or-set_other, get_or-set_same}
use mathlib.Core.Bool.{false, false≢true, true}
use mathlib.Core.List.{List}
use mathlib.Core.Logic.{◌≢◌}
use mathlib.Core.Path.{◌∙◌, ◌≡◌, ap, refl, subst, sym}
use mir.Syntax.{w32}
use mir.Val.{Fits}
use native.Mathlib.Omega.{arith}

-- ---- services

-- the service that the code has by name is the one that the call names
pub named_is : (c : Call) (j k : ServiceByName) → service_named (Some j) ≡ service_of c.service → j ≡ k → service_of c.service ≡ service_named (Some k)
named_is c j k e i = sym e ∙ ap (λ (u : ServiceByName). service_named (Some u)) i

-- but for Blank a service's number is not 0
pub not_blank : (c : Call) (v : Service) → service_of c.service ≡ v → (v ≡ Blank → ⊥) → c.service ≡ 0 → ⊥
unfolding service_of
not_blank c v e n z = n (sym e ∙ ap service_of z)

pub by_service : (s : State) (c : Call) (v : Service) → service_of c.service ≡ v → refusal s c ≡ 0 → refusal_for v s c ≡ 0
unfolding refusal
by_service s c v e a = subst (λ (u : Service). refusal_for u s c ≡ 0) e a

-- ---- keys

-- two keys that agree at every task are one
pub key_is : (ks : List ℕ) (key : ℕ → ℕ) → ((j : ℕ) → get_or ks j 0 ≡ key j) → key_of ks ≡ key
key_is ks key e = λ i j. e j i

-- a service by keys that are the effective priorities; Blank asks for none
pub by_keys : (ks : List ℕ) (s : State) (c : Call) → (c.service ≢ 0 → (j : ℕ) → get_or ks j 0 ≡ effective s j)
    → serve (key_of ks) (service_of c.service) s c ≡ serve (effective s) (service_of c.service) s c
unfolding serve service_of
by_keys ks s c h =
    same_or c.service 0 (λ z. rw z refl)
    (λ n. ap (λ (f : ℕ → ℕ). serve f (service_of c.service) s c) (key_is ks (effective s) (h n)))

-- the keys with the added task's: its own priority (M-108)
pub key-added : (ks : List ℕ) (n p : ℕ) (s : State) → n ≡ length s.tasks → n < length ks → key_of (set ks n p) ≡ key_added (key_of ks) p s
key-added ks n p s e h = λ i j. at j i
  where
    at : (j : ℕ) → get_or (set ks n p) j 0 ≡ key_added (key_of ks) p s j
    at j =
        same_or j (length s.tasks)
        (λ q. rw (eq-eqb j (length s.tasks) q) (ap (λ (m : ℕ). get_or (set ks n p) m 0) (q ∙ sym e) ∙ get_or-set_same ks n p 0 h))
        (λ q. rw (ne_eqb j (length s.tasks) q) (get_or-set_other ks n j p 0 (λ z. q (z ∙ e))))

-- ---- the refusal of a table, test by test

module _ (L : Layout) (t : List ℕ) (c : Call) where
  pub refused_1 : (length t ≡ size L → ⊥) → 1 ≡ refusal_in L t c
  unfolding need refusal_in
  refused_1 n = rw (ne_eqb (length t) (size L) n) refl

  module _ (long : length t ≡ size L) where
    pub blank_0 : c.service ≡ 0 → 0 ≡ refusal_in L t c
    unfolding behind need refusal refusal_at refusal_for refusal_in service_of
    blank_0 e = rw (eq-eqb (length t) (size L) long, e) refl

    module _ (n : c.service ≡ 0 → ⊥) where
      pub refused_2 : well_formed_in L t ≡ false → 2 ≡ refusal_in L t c
      unfolding need refusal_in
      refused_2 e = rw (eq-eqb (length t) (size L) long, ne_eqb c.service 0 n, e) refl

      pub refused_3 : well_formed_in L t ≡ true → service_of c.service ≡ Unknown → 3 ≡ refusal_in L t c
      unfolding behind need refusal refusal_at refusal_for refusal_in
      refused_3 w e = rw (eq-eqb (length t) (size L) long, ne_eqb c.service 0 n, w, e) refl

      pub refused_by_service : well_formed_in L t ≡ true → refusal_at L (read L t) c ≡ refusal_in L t c
      unfolding need refusal_in
      refused_by_service e = rw (eq-eqb (length t) (size L) long, ne_eqb c.service 0 n, e) refl

-- a number that names no service is refused with 3
pub unnamed : (o : Option ServiceByName) (e : Refusal) → Err e ≡ ok_or o UnknownService → (service_named o ≡ Unknown) × (code e ≡ 3)
unnamed None e h = let same : e ≡ UnknownService = cc in (refl, ap code same)
unnamed (Some j) e h = cc

-- a refused call has no keys to tell
pub judged_no : (L : Layout) (t : List ℕ) (c : Call) {ks : List ℕ} (r : ℕ) → r ≡ refusal_in L t c → (r ≡ 0 → ⊥) → Judged L t c r ks
judged_no L t c r e n = record { refusal = e; long = λ z. absurd (n z); keys = λ z m j. absurd (n z) }

-- ---- what an accepted call knows: the table's size; of any but Blank, that the table holds a valid state

pub record Known (ts : ℕ) (L : Layout) (t : List ℕ) (c : Call) : Type 0 where
  pub fits : Table ts t
  pub valid : Valid (read L t)
  pub accepted : refusal (read L t) c ≡ 0
  pub table : t ≡ words L (read L t)

module _ {ts : ℕ} {L : Layout} (y : Laid ts L) (low : 8 ≤ ts) (high : ts ≤ 9) (t : List ℕ) (c : Call) (a : refusal_in L t c ≡ 0) where
  pub fits-table : Table ts t
  fits-table = record { low = low; high = high; long = accepted-long L t c a ∙ sym (store_place y 16) }

  pub known : ((k : ℕ) → Fits w32 (get_or t k 0)) → (c.service ≡ 0 → ⊥) → Known ts L t c
  known words n =
      let formed = accepted-formed L t c a (ne_eqb c.service 0 n) in
      record {
        fits = fits-table;
        valid = valid_in L t formed;
        accepted = (accepted L t c a).1;
        table = words_in L t formed y (λ k. omega (arith, words k));
      }

-- of the service, by name
pub known_as : {ts : ℕ} {L : Layout} → Laid ts L → 8 ≤ ts → ts ≤ 9 → (t : List ℕ) (c : Call) → refusal_in L t c ≡ 0 → ((k : ℕ) → Fits w32 (get_or t k 0))
    → (v : Service) → service_of c.service ≡ v → (v ≡ Blank → ⊥) → Known ts L t c
known_as y low high t c a words v e n = known y low high t c a words (not_blank c v e n)

module _ {ts : ℕ} {L : Layout} {t : List ℕ} {c : Call} (q : Known ts L t c) where
  pub asks : (v : Service) → service_of c.service ≡ v → refusal_for v (read L t) c ≡ 0
  asks v e = by_service (read L t) c v e q.accepted

  -- services 1 to 7
  pub runs : bears_answer (service_of c.service) ≡ true → c.caller < length (read L t).tasks
  unfolding refusal
  runs b = in_use (read L t) c.caller 0 (caller-ready (read L t) q.valid.listed c (service_of c.service) q.accepted b)

  -- services 2 to 5
  pub on_a_task : refusal_for (service_of c.service) (read L t) c ≡ on_task (read L t) c → c.target < length (read L t).tasks
  unfolding refusal
  on_a_task e = (on_task_lem (read L t) q.valid.listed c (sym e ∙ q.accepted)).1

-- the message of a hub request that is accepted is one of the edition's
pub message-fits : (ts : ℕ) (L : Layout) → Laid ts L → 8 ≤ ts → ts ≤ 9 → (c : Call) → good_message L c ≡ true → c.service ≡ 1
    → c.word < 4294967296 → c.high < 4294967296 → message c < messages (width ts)
message-fits ts L y low high c m one w h =
    bool_case (leb 2 L.width)
    (λ b. let nine : ts ≡ 9 = omega (arith, leb-true 2 L.width b, y.size) in rw nine (omega (arith, w, h)))
    (λ b. let none : c.high ≡ 0 = eqb-true c.high 0 (rw (one, b) at m) in
    let eight : ts ≡ 8 = omega (arith, leb-false 2 L.width b, y.size) in
    rw (none, eight) (omega (arith, w)))

-- services 1 to 7 keep the tasks in use
keeps_tasks : (v : Service) (n : ℕ) → bears_answer v ≡ true → tasks_after v n ≡ n
unfolding bears_answer tasks_after
keeps_tasks Blank n b = absurd (false≢true b)
keeps_tasks HubRequest n b = refl
keeps_tasks Start n b = refl
keeps_tasks Stop n b = refl
keeps_tasks Suspend n b = refl
keeps_tasks Resume n b = refl
keeps_tasks Yield n b = refl
keeps_tasks Sleep n b = refl
keeps_tasks Tick n b = refl
keeps_tasks AddTask n b = absurd (false≢true b)
keeps_tasks AddHub n b = refl
keeps_tasks Unknown n b = refl

pub caller-after : (L : Layout) (t : List ℕ) (c : Call) → refusal_in L t c ≡ 0 → bears_answer (service_of c.service) ≡ true → c.caller < length (served (read L t) c).tasks
unfolding bears_answer refusal served service_of
caller-after L t c a b =
    let s = read L t in
    let v = service_of c.service in
    let named : c.service ≡ 0 → ⊥ = λ z. false≢true (rw z at b) in
    let g = valid_in L t (accepted-formed L t c a (ne_eqb c.service 0 named)) in
    let used = in_use s c.caller 0 (caller-ready s g.listed c v (accepted L t c a).1 b) in
    rw ((kept-reordered s (serve (effective s) v s c)).tasks, length-serve (effective s) v s c, keeps_tasks v (length s.tasks) b) used

-- ---- a service that is done, before the reordering (M-108)

-- none but Blank has fewer tasks afterwards
more_tasks : (v : Service) (n : ℕ) → (v ≡ Blank → ⊥) → n ≤ tasks_after v n
unfolding tasks_after
more_tasks Blank n d = absurd (d refl)
more_tasks HubRequest n d = omega arith
more_tasks Start n d = omega arith
more_tasks Stop n d = omega arith
more_tasks Suspend n d = omega arith
more_tasks Resume n d = omega arith
more_tasks Yield n d = omega arith
more_tasks Sleep n d = omega arith
more_tasks Tick n d = omega arith
more_tasks AddTask n d = omega arith
more_tasks AddHub n d = omega arith
more_tasks Unknown n d = omega arith

pub tasks_stay : (key : ℕ → ℕ) (s : State) (c : Call) → (service_of c.service ≡ Blank → ⊥) → length s.tasks ≤ length (serve key (service_of c.service) s c).tasks
tasks_stay key s c d = rw (length-serve key (service_of c.service) s c) (more_tasks (service_of c.service) (length s.tasks) d)

module _ (s : State) (g : Valid s) (c : Call) (a : refusal s c ≡ 0) where
  abbrev done : State
  done = serve (effective s) (service_of c.service) s c

  pub sound_after : Sound done
  unfolding refusal
  sound_after = unsorted_sound done (unsorted_serve (effective s) (service_of c.service) s c (valid_unsorted s g) a)

  -- after these five nobody is put in another order
  pub calm_served : Calm (service_of c.service) → served s c ≡ done
  unfolding refusal served
  calm_served e = calm_still (effective s) (service_of c.service) e s g c a

  -- nor is anybody after a hub request at any hub but a Resource, by the number of its kind
  pub lockless_served : service_of c.service ≡ HubRequest → ((hub s c.target).kind ≡ 5 → ⊥) → served s c ≡ done
  unfolding is_resource refusal served
  lockless_served v n =
      let kind = (hub s c.target).kind in
      ap (λ (u : Service). reordered s (serve (effective s) u s c)) v
      ∙ lockless_still s g c (by_service s c HubRequest v a) (λ r. n (eqb-true kind 5 (sym (resource-number kind) ∙ ap is_resource r)))
      ∙ ap (λ (u : Service). serve (effective s) u s c) (sym v)

  -- the number ahead is the same before the reordering and after
  pub ahead_stays : ahead (served s c) c ≡ ahead done c
  unfolding refusal served service_of
  ahead_stays =
      same_or c.service 1
      (λ e. let v : service_of c.service ≡ HubRequest = ap service_of e in
      ahead_request (reordered s done) c e
      ∙ ap (λ (u : Service). ahead_for HubRequest (reordered s (serve (effective s) u s c)) c) v
      ∙ ahead-reordered s g c (by_service s c HubRequest v a)
      ∙ ap (λ (u : Service). ahead_for HubRequest (serve (effective s) u s c) c) (sym v)
      ∙ sym (ahead_request done c e))
      (λ n. ahead_other (reordered s done) c n ∙ sym (ahead_other done c n))

-- ---- the reply

module _ (s : State) (c : Call) where
  pub outcome-none : bears_answer (service_of c.service) ≡ false → NothingYet ≡ outcome s c
  unfolding outcome
  outcome-none b = rw b refl

  pub outcome-word : bears_answer (service_of c.service) ≡ true → outcome_of (task s c.caller).answer ≡ outcome s c
  unfolding outcome
  outcome-word b = rw b refl

-- any word but 1 and 2 shows nothing yet
pub outcome_other : (a : ℕ) → (a ≡ 1 → ⊥) → (a ≡ 2 → ⊥) → NothingYet ≡ outcome_of a
unfolding outcome_of
outcome_other zero p q = refl
outcome_other (suc zero) p q = absurd (p refl)
outcome_other (suc (suc zero)) p q = absurd (q refl)
outcome_other (suc (suc (suc a))) p q = refl

module _ (L : Layout) (t : List ℕ) (c : Call) where
  pub called_refused : (e : Refusal) → code e ≡ refusal_in L t c → CalledIn L t c (record { answer = Err e; next = 0; ahead = 0 }) t
  called_refused e h = go (code e) refl
    where
      go : (m : ℕ) → m ≡ code e → CalledIn L t c (record { answer = Err e; next = 0; ahead = 0 }) t
      go zero z = absurd (code-some e (sym z))
      go (suc m) z = record {
        reply = unfold reply_in reply_by in rw (← h, ← z) (ap (λ (x : Refusal). record { answer = Err x; next = 0; ahead = 0 }) (sym (with-code e) ∙ ap refusal_with (sym z)));
        table = unfold table_in table_by in rw (← h, ← z) refl;
      }

  pub called-accepted : refusal_in L t c ≡ 0 → (o : Outcome) (n : ℕ) (r : Served) (t' : List ℕ) → o ≡ outcome (served (read L t) c) c → n ≡ next (served (read L t) c) → ServedIn L (served (read L t) c) c r t' → CalledIn L t c (record { answer = Ok o; next = n; ahead = r.ahead }) t'
  called-accepted a o n r t' eo en e = record {
    reply = unfold reply_in reply_by in rw (a, eo, en, e.ahead) refl;
    table = unfold table_in table_by in rw a e.table;
  }
