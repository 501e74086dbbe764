-- Once out of waiting a request never changes: `Continues` from step to step, and through any steps without a Blank. A move keeps
-- the run as it is (`moves_same`).
use Prim.Native.Nat.{◌<◌, ◌≤◌, suc, zero, ℕ}
use Rattle.history.proofs.Again.{again-waiting}
use Rattle.history.proofs.Classes.{is_class_lem}
use Rattle.history.proofs.Opened.{opened_case}
use Rattle.history.specs.History.{History, Request, Step, again, asked, calls, down, gone_on, history, is_waiting, next, next_by, opened, part_of, reread, shown, step, up, waiting}
use Rattle.history.specs.Statements.{Continues, Each, Follows, IsMove, NoBlank, NotBlank, SameRun, no_request, request_at}
use Rattle.lists.proofs.Laws.{bool_case}
use Rattle.rules.proofs.Editions.{down_shows, up_shows}
use Rattle.rules.specs.Calls.{Blank, HubRequest, service_of}
use Rattle.rules.specs.Refusals.{refusal_of}
use Rattle.rules.specs.Reply.{table_after}
use Rattle.rules.specs.Table.{State}
use Rattle.rules.specs.declared.Call.{Call}
use lib.ListN.{get_or, length, length-append, length-map}
use mathlib.Core.List.{List, [], ◌++◌, ◌∷◌, append-nil, map}
use mathlib.Core.Logic.{◌≢◌}
use mathlib.Core.Path.{◌∙◌, ◌≡◌, ap, refl, sym}
use native.Mathlib.Omega.{arith}

-- ---- one request

follows_refl : (r : Request) → Follows r r
follows_refl r = record { task = refl; hub = refl; side = refl; word = refl; settled = λ n. refl }

follows_trans : (r₁ r₂ r₃ : Request) → Follows r₁ r₂ → Follows r₂ r₃ → Follows r₁ r₃
follows_trans r₁ r₂ r₃ a b = record {
  task = b.task ∙ a.task;
  hub = b.hub ∙ a.hub;
  side = b.side ∙ a.side;
  word = b.word ∙ a.word;
  settled = λ n. b.settled (λ e. n (sym (ap (λ (r : Request). r.class) (a.settled n)) ∙ e)) ∙ a.settled n;
}

follows_again : (s : State) (r : Request) → Follows r (again s r)
unfolding again reread
follows_again s r =
    bool_case (is_waiting r)
    (λ b. rw b (record { task = refl; hub = refl; side = refl; word = refl; settled = λ n. absurd (n (is_class_lem waiting r.class b)) }))
    (λ b. rw b (follows_refl r))

-- ---- the requests of a run

continues_refl : (rs : List Request) → Continues rs rs
unfolding Continues
continues_refl [] = tt
continues_refl (r ∷ rs) = (follows_refl r, continues_refl rs)

continues_trans : (xs ys zs : List Request) → Continues xs ys → Continues ys zs → Continues xs zs
unfolding Continues
continues_trans [] ys zs a b = tt
continues_trans (x ∷ xs) [] zs a b = absurd a
continues_trans (x ∷ xs) (y ∷ ys) [] a b = absurd b
continues_trans (x ∷ xs) (y ∷ ys) (z ∷ zs) a b = (follows_trans x y z a.0 b.0, continues_trans xs ys zs a.1 b.1)

continues_again : (s : State) (rs qs : List Request) → Continues rs (map (again s) (rs ++ qs))
unfolding Continues
continues_again s [] qs = tt
continues_again s (r ∷ rs) qs = (follows_again s r, continues_again s rs qs)

-- the request at a place, later
pub continues_at : (rs all : List Request) → Continues rs all → (n : ℕ) → n < length rs → (d : Request) → Follows (get_or rs n d) (get_or all n d)
unfolding Continues
continues_at [] all k n h d = absurd (omega arith)
continues_at (r ∷ rs) [] k n h d = absurd k
continues_at (r ∷ rs) (r' ∷ all) k zero h d = k.0
continues_at (r ∷ rs) (r' ∷ all) k (suc n) h d = continues_at rs all k.1 n (omega arith) d

pub continues_length : (rs all : List Request) → Continues rs all → length rs ≤ length all
unfolding Continues
continues_length [] all k = omega arith
continues_length (r ∷ rs) [] k = absurd k
continues_length (r ∷ rs) (r' ∷ all) k = omega (arith, continues_length rs all k.1)

-- ---- a move

same_gone : (n : ℕ) (t : List ℕ) (x : History) → (n ≡ 0 → shown t ≡ shown x.table) → SameRun x (gone_on n t x)
unfolding gone_on
same_gone zero t x same = record { state = same refl; requests = refl; met = refl; added = refl; removed = refl; calls = refl }
same_gone (suc n) t x same = record { state = refl; requests = refl; met = refl; added = refl; removed = refl; calls = refl }

pub up_same : (x : History) (room : ℕ) → SameRun x (step x (up room))
unfolding step
up_same x room = same_gone _ _ x (up_shows x.table room)

pub down_same : (x : History) (room : ℕ) → SameRun x (step x (down room))
unfolding step
down_same x room = same_gone _ _ x (down_shows x.table room)

pub moves_same : (x : History) (d : Step) → IsMove d → SameRun x (step x d)
unfolding IsMove
moves_same x (calls c) m = absurd m
moves_same x (up room) m = up_same x room
moves_same x (down room) m = down_same x room

-- ---- a call, and any steps

next_by_lem : (n : ℕ) (x : History) (c : Call) → service_of c.service ≢ Blank → Continues x.requests (next_by n x c).requests
unfolding next_by
next_by_lem zero x c b =
    opened_case (λ (l : List Request). Continues x.requests (map (again (shown (table_after x.table c))) l)) (shown x.table) c x.requests (service_of c.service)
    (λ e. absurd (b e))
    (λ e. continues_again (shown (table_after x.table c)) x.requests (asked (shown x.table) c ∷ []))
    (λ e. rw append-nil at (continues_again (shown (table_after x.table c)) x.requests []))
next_by_lem (suc n) x c b = continues_refl x.requests

pub continues_next : (x : History) (c : Call) → service_of c.service ≢ Blank → Continues x.requests (next x c).requests
unfolding next
continues_next x c b = next_by_lem (refusal_of x.table c) x c b

pub continues_step : (x : History) (d : Step) → NotBlank d → Continues x.requests (step x d).requests
unfolding NotBlank
continues_step x (calls c) b = unfold step in continues_next x c b
continues_step x (up room) b = rw (up_same x room).requests (continues_refl x.requests)
continues_step x (down room) b = rw (down_same x room).requests (continues_refl x.requests)

pub continues_history : (x : History) (ds : List Step) → NoBlank ds → Continues x.requests (history x ds).requests
unfolding Each history
continues_history x [] b = continues_refl x.requests
continues_history x (d ∷ ds) b = continues_trans x.requests (step x d).requests _ (continues_step x d b.0) (continues_history (step x d) ds b.1)

-- after any call the next table is table_after of the one before
pub table-next : (x : History) (c : Call) → (next x c).table ≡ table_after x.table c
unfolding next
table-next x c = by (refusal_of x.table c)
  where
    by : (n : ℕ) → (next_by n x c).table ≡ table_after x.table c
    by zero = unfold next_by in refl
    by (suc n) = unfold next_by in refl

-- ---- the request that a call opens: it takes the next place

last_mapped : {A B : Type 0} (f : A → B) (xs : List A) (x : A) (d : B) → get_or (map f (xs ++ x ∷ [])) (length xs) d ≡ f x
last_mapped f [] x d = refl
last_mapped f (y ∷ xs) x d = last_mapped f xs x d

module _ (x : History) (c : Call) (sv : service_of c.service ≡ HubRequest) (e : refusal_of x.table c ≡ 0) where
  opened-requests : (next x c).requests ≡ map (again (shown (table_after x.table c))) (x.requests ++ asked (shown x.table) c ∷ [])
  unfolding next next_by opened part_of
  opened-requests = rw (e, sv)

  pub own-place : request_at (next x c) (length x.requests) ≡ reread (shown (table_after x.table c)) (asked (shown x.table) c)
  own-place =
      rw (opened-requests, last_mapped (again (shown (table_after x.table c))) x.requests (asked (shown x.table) c) no_request)
      (again-waiting (shown (table_after x.table c)) (asked (shown x.table) c) (unfold asked in refl))

  pub own-there : length x.requests < length (next x c).requests
  own-there =
      rw opened-requests
      (omega (
        arith,
        length-map (x.requests ++ asked (shown x.table) c ∷ []) (again (shown (table_after x.table c))),
        length-append x.requests (asked (shown x.table) c ∷ []),
      ))
