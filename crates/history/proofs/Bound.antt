-- A request under WT with t ticks is out of waiting by the t-th Tick after it: while it waits, its task's ticks and the Ticks
-- gone by add up to t, and some are left.
use Prim.Native.Nat.{◌+◌, ◌<◌, ◌≤◌, suc, zero, ℕ}
use Rattle.history.proofs.Asked.{Outcome, is_failed, is_met, is_open, outcome-settle}
use Rattle.history.proofs.Classes.{is_class_lem}
use Rattle.history.proofs.Fates.{Fate, Older, fate_serve, meets, rests, stops, ticks_of, times}
use Rattle.history.proofs.Following.{continues_at, continues_history, continues_length, continues_step, down_same, own-place, own-there, table-next, up_same}
use Rattle.history.proofs.Run.{Sound, accepted-service, refusal_other, shown-task, sound_next, sound_step}
use Rattle.history.proofs.Those.{each_at, how_many_cons}
use Rattle.history.specs.History.{History, Request, Step, asked, calls, down, history, is_class, is_waiting, next, reread, shown, step, those, up, waiting}
use Rattle.history.specs.Statements.{Each, NoBlank, NotBlank, Stands, is_tick, no_request, request_at, ticks_in}
use Rattle.lists.proofs.Laws.{bool_case}
use Rattle.lists.specs.Lists.{bit}
use Rattle.rules.proofs.Accepted.{Asked, by_running_lem, need-zero, request_tests, within-true}
use Rattle.rules.proofs.Cases.{and_r}
use Rattle.rules.proofs.Promise.{refused_leaves}
use Rattle.rules.proofs.Settled.{partners}
use Rattle.rules.proofs.Valid.{Listed}
use Rattle.rules.specs.Calls.{AddHub, AddTask, Blank, HubRequest, Resume, Service, Sleep, Start, Stop, Suspend, Tick, Unknown, Yield, serve, service_of}
use Rattle.rules.specs.Effective.{effective}
use Rattle.rules.specs.HubTable.{verdict}
use Rattle.rules.specs.Lists.{answered, waits}
use Rattle.rules.specs.Refusals.{WT, good_request, good_wait, last_side, mode_of, refusal_for, refusal_of}
use Rattle.rules.specs.Reply.{table_after}
use Rattle.rules.specs.Table.{State, Task, hub, kind_of, task}
use Rattle.rules.specs.WellFormed.{within}
use Rattle.rules.specs.declared.Call.{Call}
use borrow.Author.Tests.{eqb-false, eqb-true, ne_eqb}
use lib.Dec.{eqb, ltb}
use lib.ListN.{length}
use mathlib.Core.Bool.{false, false≢true, true}
use mathlib.Core.List.{List, [], ◌∷◌}
use mathlib.Core.Logic.{◌≢◌}
use mathlib.Core.Path.{◌∙◌, ◌≡◌, ap, refl, sym}
use native.Mathlib.Omega.{arith}

-- ---- Ticks by their number, 8

tick_number : (n : ℕ) → bit (eqb n 8) ≡ ticks_of (service_of n)
unfolding service_of
tick_number zero = refl
tick_number (suc zero) = refl
tick_number (suc (suc zero)) = refl
tick_number (suc (suc (suc zero))) = refl
tick_number (suc (suc (suc (suc zero)))) = refl
tick_number (suc (suc (suc (suc (suc zero))))) = refl
tick_number (suc (suc (suc (suc (suc (suc zero)))))) = refl
tick_number (suc (suc (suc (suc (suc (suc (suc zero))))))) = refl
tick_number (suc (suc (suc (suc (suc (suc (suc (suc zero)))))))) = refl
tick_number (suc (suc (suc (suc (suc (suc (suc (suc (suc zero))))))))) = refl
tick_number (suc (suc (suc (suc (suc (suc (suc (suc (suc (suc zero)))))))))) = refl
tick_number (suc (suc (suc (suc (suc (suc (suc (suc (suc (suc (suc n))))))))))) = rw (ne_eqb (suc (suc (suc (suc (suc (suc (suc (suc (suc (suc (suc n))))))))))) 8 (λ e. omega (arith, e)))

-- a Tick is never refused
refused_ticks : (w : Service) (s : State) (c : Call) (n : ℕ) → refusal_for w s c ≡ suc n → ticks_of w ≡ 0
unfolding refusal_for
refused_ticks Blank s c n e = refl
refused_ticks HubRequest s c n e = refl
refused_ticks Start s c n e = refl
refused_ticks Stop s c n e = refl
refused_ticks Suspend s c n e = refl
refused_ticks Resume s c n e = refl
refused_ticks Yield s c n e = refl
refused_ticks Sleep s c n e = refl
refused_ticks Tick s c n e = absurd (omega (arith, e))
refused_ticks AddTask s c n e = refl
refused_ticks AddHub s c n e = refl
refused_ticks Unknown s c n e = refl

-- ---- one call: a task that waits before and after it

fate_older : (w : Service) (c : Call) (j : ℕ) (t t' : Task) → Fate w c j t t' → t'.state ≡ 3 → Older (ticks_of w) t t'
fate_older w c j t t' (rests a o) e = o
fate_older w c j t t' (meets q m) e = absurd (omega (arith, e, m.0))
fate_older w c j t t' (stops q p a) e = absurd (omega (arith, e, a))
fate_older w c j t t' (times q a b) e = absurd (omega (arith, e, a))

module _ (x : History) (g : Sound x) (c : Call) (b : service_of c.service ≢ Blank) (j : ℕ) (st : (task (shown x.table) j).state ≡ 3) where
  older_by : (n : ℕ) → refusal_of x.table c ≡ n → (task (shown (table_after x.table c)) j).state ≡ 3
      → Older (ticks_of (service_of c.service)) (task (shown x.table) j) (task (shown (table_after x.table c)) j)
  unfolding service_of
  older_by zero e =
      rw (shown-task x c e j)
      (λ k. fate_older (service_of c.service) c j _ _ (fate_serve _ (service_of c.service) b (shown x.table) c g.valid (accepted-service x c e) j st) k)
  older_by (suc n) e =
      rw ((refused_leaves x.table c n e).0, no_tick)
      (λ k l. (omega arith, l))
    where
      no_tick : ticks_of (service_of c.service) ≡ 0
      no_tick =
          bool_case (eqb c.service 1)
          (λ b. ap (λ (m : ℕ). ticks_of (service_of m)) (eqb-true c.service 1 b))
          (λ b. refused_ticks (service_of c.service) (shown x.table) c n (sym (refusal_other x g c (eqb-false c.service 1 b)) ∙ e))

-- one step: a move leaves the task's record as it shows it
older_step : (x : History) → Sound x → (d : Step) → NotBlank d → (j : ℕ) → (task (shown x.table) j).state ≡ 3
    → (task (shown (step x d).table) j).state ≡ 3 → Older (bit (is_tick d)) (task (shown x.table) j) (task (shown (step x d).table) j)
unfolding NotBlank is_tick
older_step x g (calls c) b j st =
    unfold step in rw (table-next x c, tick_number c.service) (older_by x g c b j st (refusal_of x.table c) refl)
older_step x g (up room) b j st = rw (up_same x room).state (λ k l. (omega arith, l))
older_step x g (down room) b j st = rw (down_same x room).state (λ k l. (omega arith, l))

-- ---- the request at place p, while it waits

stands_at : (x : History) → Sound x → (p : ℕ) → p < length x.requests → (request_at x p).class ≡ waiting → Stands (shown x.table) (request_at x p)
stands_at x g p h e = (each_at _ x.requests g.account.agree.entries p h no_request).stands e

-- out of waiting it stays so
settled_at : (x : History) (ds : List Step) → NoBlank ds → (p : ℕ) → p < length x.requests → is_waiting (request_at x p) ≡ false → (request_at (history x ds) p).class ≢ waiting
settled_at x ds b p h y z =
    false≢true (sym y ∙ ap (λ (r : Request). is_waiting r) (sym same) ∙ ap (is_class waiting) z)
  where
    same : request_at (history x ds) p ≡ request_at x p
    same = (continues_at x.requests (history x ds).requests (continues_history x ds b) p h no_request).settled (λ z. false≢true (sym y ∙ ap (is_class waiting) z))

bound-from : (ds : List Step) (x : History) → Sound x → (p : ℕ) → p < length x.requests → (request_at x p).class ≡ waiting
    → 1 ≤ (task (shown x.table) (request_at x p).task).ticks → NoBlank ds → (task (shown x.table) (request_at x p).task).ticks ≤ ticks_in ds
    → (request_at (history x ds) p).class ≢ waiting
unfolding Each history those
bound-from [] x g p h e one b l = absurd (omega arith)
bound-from (d ∷ ds) x g p h e one b l =
    bool_case (is_waiting (request_at x' p))
    (λ y. let e' = is_class_lem waiting (request_at x' p).class y in
    let q = older e' in
    bound-from ds x' g' p h' e' q.1 b.1 (omega (arith, q.0, how_many_cons is_tick d ds)))
    (settled_at x' ds b.1 p h')
  where
    x' : History
    x' = step x d

    g' : Sound x'
    g' = sound_step x d g

    h' : p < length x'.requests
    h' = omega (arith, continues_length x.requests x'.requests (continues_step x d b.0))

    same : (request_at x' p).task ≡ (request_at x p).task
    same = (continues_at x.requests x'.requests (continues_step x d b.0) p h no_request).task

    older : (request_at x' p).class ≡ waiting
        → ((task (shown x'.table) (request_at x' p).task).ticks + bit (is_tick d) ≡ (task (shown x.table) (request_at x p).task).ticks)
        × (1 ≤ (task (shown x'.table) (request_at x' p).task).ticks)
    older e' =
        let k : (task (shown x'.table) (request_at x p).task).state ≡ 3 = rw same at (stands_at x' g' p h' e').state in
        rw same (older_step x g d b.0 (request_at x p).task (stands_at x g p h e).state k one)

-- ---- the request that call c opens, under WT

open_ticks : (s : State) (c : Call) → (task s c.caller).state ≡ 2 → (s' : State) → Outcome s c s' → (task s' c.caller).state ≡ 3 → (task s' c.caller).ticks ≡ c.ticks
unfolding answered waits
open_ticks s c run s' (is_met x r) k = absurd (omega (arith, run, k, ap (λ (t : Task). t.state) r))
open_ticks s c run s' (is_failed r) k = absurd (omega (arith, run, k, ap (λ (t : Task). t.state) r))
open_ticks s c run s' (is_open r) k = ap (λ (t : Task). t.ticks) r

wt_ticks : (s : State) → Listed s → (c : Call) → refusal_for HubRequest s c ≡ 0 → mode_of c.mode ≡ WT → 1 ≤ c.ticks
unfolding good_wait refusal_for
wt_ticks s l c e m =
    let p = by_running_lem s l c _ e in
    let q = need-zero (ltb c.target (length s.hubs)) 4 _ p.1 in
    let r = need-zero (good_request (kind_of (hub s c.target).kind) c) 5 0 q.1 in
    let w : within 1 1000000 c.ticks ≡ true = rw m at (and_r (within 1 (last_side (kind_of (hub s c.target).kind)) c.side) _ r.0) in
    (within-true 1 1000000 c.ticks w).0

module _ (x : History) (g : Sound x) (c : Call) (sv : service_of c.service ≡ HubRequest) (e : refusal_of x.table c ≡ 0) where
  own-ticks : (task (shown (table_after x.table c)) c.caller).state ≡ 3 → (task (shown (table_after x.table c)) c.caller).ticks ≡ c.ticks
  own-ticks =
      rw (shown-task x c e c.caller, sv)
      (unfold serve in open_ticks s c t.run _ (outcome-settle (effective s) s c t.run (verdict s c) (partners s g.valid.listed c)))
    where
      s : State
      s = shown x.table

      t : Asked (shown x.table) c
      t = request_tests (shown x.table) g.valid.listed c (rw sv at (accepted-service x c e))

  -- while it waits its task has the ticks of the call
  own_left : (request_at (next x c) (length x.requests)).class ≡ waiting → (task (shown (next x c).table) (request_at (next x c) (length x.requests)).task).ticks ≡ c.ticks
  unfolding asked reread
  own_left k = rw (own-place x c sv e, table-next x c) (own-ticks (rw (own-place x c sv e, table-next x c) at (stands_at (next x c) (sound_next x c g) (length x.requests) (own-there x c sv e) k).state))

  pub bound : mode_of c.mode ≡ WT → (ds : List Step) → NoBlank ds → c.ticks ≤ ticks_in ds → (request_at (history x (calls c ∷ ds)) (length x.requests)).class ≢ waiting
  unfolding history step
  bound m ds b l =
      bool_case (is_waiting (request_at x' p))
      (λ y. let k = is_class_lem waiting (request_at x' p).class y in
      bound-from ds x' (sound_next x c g) p (own-there x c sv e) k (rw (own_left k) (wt_ticks (shown x.table) g.valid.listed c (rw sv at (accepted-service x c e)) m)) b (rw (own_left k) l))
      (settled_at x' ds b p (own-there x c sv e))
    where
      x' : History
      x' = next x c

      p : ℕ
      p = length x.requests
