-- M-107's sentences about blocks (`Blocks`, specs/Statements.antt). In order: from the balance of each block, how many are out; the
-- marks of a Memory hub, and when none is free; a get and a put at it; the whole.
-- Not here: the balance itself (Balance.antt, Account.antt), and that it holds in every run (Promise.antt).
use Prim.Native.Nat.{◌+◌, ◌<◌, ◌≤◌, pred, suc, zero, ℕ}
use Rattle.history.proofs.Classes.{class-met}
use Rattle.history.specs.History.{Class, failed, row_class, waiting}
use Rattle.history.specs.Statements.{GoesTo, Lowest, NoneFree}
use Rattle.lists.proofs.Counting.{before_first, occ_append, occ-at, occ-replicate, same_length}
use Rattle.lists.proofs.Laws.{bool_case}
use Rattle.lists.specs.Lists.{occ}
use Rattle.rules.proofs.Accepted.{Asked}
use Rattle.rules.proofs.Blocks.{lowest_in, lowest_mark, out_in, out_mark}
use Rattle.rules.proofs.Cases.{same_or}
use Rattle.rules.proofs.Hubs.{core, hub-target}
use Rattle.rules.proofs.Reordered.{Kept, kept-task}
use Rattle.rules.proofs.Settled.{Waiter, met-caller, met-first, partners}
use Rattle.rules.proofs.Valid.{Held, Range, Valid}
use Rattle.rules.proofs.Verdicts.{Each as EachMeeting, hub_after, waiters_met}
use Rattle.rules.specs.Calls.{settle}
use Rattle.rules.specs.HubTable.{Verdict, fail, get_memory, give_back, is_out, lowest_free, message, not_now, on_get, on_put, on_side, put_memory, verdict}
use Rattle.rules.specs.Lists.{answered, first_waiting, holding, queued, readied}
use Rattle.rules.specs.Table.{Hub, Memory, State, Task, hub, kind_of, side_of, stored, task}
use Rattle.rules.specs.declared.Call.{Call}
use borrow.Author.Tests.{eq-eqb, eqb-false, lt-ltb, ltb-false, ltb-true, ne_eqb}
use lib.Dec.{eqb, ltb}
use lib.ListN.{get_or-eq_default, get_or, length, length-append, length-map, length-replicate, replicate, set}
use lib.Seq.{get_or-set_same}
use mathlib.Core.Bool.{false, false≢true, true}
use mathlib.Core.List.{List, [], ◌++◌, ◌∷◌, map}
use mathlib.Core.Logic.{◌↔◌, ◌≢◌, ◌⊎◌, inl, inr}
use mathlib.Core.Option.{Option, none, some}
use mathlib.Core.Path.{◌∙◌, ◌≡◌, ap, refl, subst, sym}
use native.Mathlib.Omega.{arith}

-- ---- from the balance of each block: how many are out

-- the numbers of the marks, each as often as its mark says
outs : List ℕ → List ℕ
outs [] = []
outs (m ∷ ms) = replicate m 0 ++ map suc (outs ms)

occ_later : (b : ℕ) (l : List ℕ) → occ (suc b) (map suc l) ≡ occ b l
unfolding occ
occ_later b [] = refl
occ_later b (x ∷ xs) = same_or x b (λ e. rw (e, eq-eqb b b refl, eq-eqb (suc b) (suc b) refl) (omega (arith, occ_later b xs))) (λ n. rw (ne_eqb x b n, ne_eqb (suc x) (suc b) (λ e. n (omega (arith, e)))) (omega (arith, occ_later b xs)))

occ-first : (l : List ℕ) → occ 0 (map suc l) ≡ 0
unfolding occ
occ-first [] = refl
occ-first (x ∷ xs) = rw (ne_eqb (suc x) 0 (λ e. omega (arith, e))) (omega (arith, occ-first xs))

occ-zeros : (b n : ℕ) → occ (suc b) (replicate n 0) ≡ 0
unfolding occ
occ-zeros b zero = refl
occ-zeros b (suc n) = rw (ne_eqb 0 (suc b) (λ e. omega (arith, e))) (omega (arith, occ-zeros b n))

occ_outs : (b : ℕ) (ms : List ℕ) → occ b (outs ms) ≡ get_or ms b 0
unfolding outs
occ_outs b [] = unfold occ in refl
occ_outs zero (m ∷ ms) = omega (arith, occ_append 0 (replicate m 0) (map suc (outs ms)), occ-replicate 0 m, occ-first (outs ms))
occ_outs (suc b) (m ∷ ms) =
    occ_append (suc b) (replicate m 0) (map suc (outs ms)) ∙ rw (occ-zeros b m, occ_later b (outs ms)) (omega (arith, occ_outs b ms))

length_outs : (ms : List ℕ) → ((b : ℕ) → get_or ms b 0 ≤ 1) → length (outs ms) ≡ occ 1 ms
unfolding occ outs
length_outs [] low = refl
length_outs (m ∷ ms) low =
    omega (arith, length-append (replicate m 0) (map suc (outs ms)), length-replicate {A = ℕ} m 0, length-map (outs ms) suc, length_outs ms (λ b. low (suc b)), by m (low 0))
  where
    by : (m : ℕ) → m ≤ 1 → m ≡ occ 1 (m ∷ [])
    by zero h = refl
    by (suc zero) h = refl
    by (suc (suc m)) h = absurd (omega arith)

pub so_many_out : (gets puts ms : List ℕ) → ((b : ℕ) → occ b gets ≡ occ b puts + get_or ms b 0) → ((b : ℕ) → get_or ms b 0 ≤ 1) → length gets ≡ length puts + occ 1 ms
so_many_out gets puts ms e low =
    let same = same_length gets (puts ++ outs ms) (λ b. omega (arith, e b, occ_append b puts (outs ms), occ_outs b ms)) in
    omega (arith, same, length-append puts (outs ms), length_outs ms low)

-- ---- the marks of a Memory hub

module _ (s : State) (g : Valid s) (h : ℕ) (used : h < length s.hubs) (k : kind_of (hub s h).kind ≡ Memory) where
  abbrev x : Hub
  x = hub s h

  range : Range Memory (length s.tasks) x
  range = rw k at (g.ranges.range h used)

  many : x.limit ≡ length x.held
  many = let e : Held Memory x = rw k at (g.ranges.held h used) in unfold Held stored in e

  free-count : x.count ≡ occ 0 x.held
  free-count = let r = range in unfold Range in r.4

  pub mark_low : (b : ℕ) → get_or x.held b 0 ≤ 1
  mark_low b =
      bool_case (ltb b x.limit)
      (λ q. let r = range in unfold Range in r.3 b (ltb-true b _ q))
      (λ q. omega (arith, get_or-eq_default x.held 0 (past (ltb-false b x.limit q))))
    where
      past : x.limit ≤ b → length x.held ≤ b
      past l = omega (arith, many)

  -- a block that is not out is free: its mark is 0
  free_mark : (b : ℕ) → is_out b x ≡ false → get_or x.held b 0 ≡ 0
  unfolding is_out
  free_mark b e = let n : get_or x.held b 0 ≢ 1 = eqb-false _ 1 e in omega (arith, mark_low b)

  none_free : x.count ≡ 0 → NoneFree s h
  none_free z b lt =
      bool_case (is_out b x) (λ o. o)
      (λ o. absurd (omega (arith, z, free-count, occ-at 0 x.held b (omega (arith, many)) (free_mark b o))))

  not-out : (b : ℕ) → get_or x.held b 0 ≡ 0 → is_out b x ≡ true → ⊥
  not-out b e o = omega (arith, e, out_mark b x o)

  some-free : NoneFree s h → 0 < x.count → ⊥
  some-free f some-count =
      not-out (lowest_free x) (lowest_mark x free-count some-count) (f (lowest_free x) (omega (arith, many, lowest_in x free-count some-count)))

  lowest_count : (b : ℕ) → Lowest s h b → 0 < x.count
  lowest_count b l = omega (arith, free-count, occ-at 0 x.held b (omega (arith, many, l.inside)) (free_mark b l.free))

  lowest_is : (b : ℕ) → Lowest s h b → lowest_free x ≡ b
  lowest_is b l =
      let z = lowest_count b l in
      bool_case (ltb b (lowest_free x))
      (λ q. absurd (before_first 0 x.held b (ltb-true b _ q) (free_mark b l.free)))
      (λ q. bool_case (ltb (lowest_free x) b)
      (λ p. absurd (not-out (lowest_free x) (lowest_mark x free-count z) (l.lower (lowest_free x) (ltb-true _ b p))))
      (λ p. omega (arith, ltb-false b (lowest_free x) q, ltb-false (lowest_free x) b p)))

  is_lowest : 0 < x.count → Lowest s h (lowest_free x)
  is_lowest lt = record {
    inside = omega (arith, many, lowest_in x free-count lt);
    free = unfold is_out in rw (lowest_mark x free-count lt) refl;
    lower = λ j l. bool_case (is_out j x) (λ o. o) (λ o. absurd (before_first 0 x.held j l (free_mark j o)));
  }

  -- ---- a get and a put at it

  module _ (c : Call) (at : c.target ≡ h) where
    get_row : c.side ≡ 2 → verdict s c ≡ get_memory x
    unfolding on_get on_side side_of verdict
    get_row e = rw (at, e, k) refl

    put-row : c.side ≡ 1 → verdict s c ≡ put_memory (first_waiting s 2 x.waiters) x (message c)
    unfolding on_put on_side side_of verdict
    put-row e = rw (at, e, k) refl

    get_none : x.count ≡ 0 → get_memory x ≡ not_now
    unfolding get_memory
    get_none z = rw z

    get_some : 0 < x.count → get_memory x ≡ Verdict.met (pred x.count) (set x.held (lowest_free x) 1) (lowest_free x) []
    unfolding get_memory
    get_some lt = rw (lt-ltb 0 x.count lt)

    pub held_back : c.side ≡ 2 → (verdict s c ≡ not_now) ↔ NoneFree s h
    held_back e = (
      λ q. bool_case (ltb 0 x.count)
          (λ b. absurd (let later = sym (get_some (ltb-true 0 _ b)) ∙ (sym (get_row e) ∙ q) in false≢true cc))
          (λ b. none_free (omega (arith, ltb-false 0 x.count b))),
      λ f. get_row e ∙ bool_case (ltb 0 x.count) (λ b. absurd (some-free f (ltb-true 0 _ b))) (λ b. get_none (omega (arith, ltb-false 0 x.count b))),
    )

    pub else_met : c.side ≡ 2 → verdict s c ≢ not_now → row_class (verdict s c) c ≡ Class.met
    unfolding row_class
    else_met e n =
        bool_case (ltb 0 x.count)
        (λ b. rw (get_row e ∙ get_some (ltb-true 0 _ b)) refl)
        (λ b. absurd (n (get_row e ∙ get_none (omega (arith, ltb-false 0 x.count b)))))

    pub lowest_next : c.side ≡ 2 → (b : ℕ) → Lowest s h b → verdict s c ≡ Verdict.met (pred x.count) (set x.held b 1) b []
    lowest_next e b l = get_row e ∙ get_some (lowest_count b l) ∙ rw (lowest_is b l) refl

    -- a request that its row meets is not told "not now"
    not_later : (v : Verdict) → row_class v c ≡ Class.met → v ≢ not_now
    unfolding row_class
    not_later v e q =
        let m : row_class not_now c ≡ Class.met = rw q at e in
        bool_case (eqb c.mode 2)
        (λ b. let z : failed ≡ Class.met = rw b at m in false≢true cc)
        (λ b. let z : waiting ≡ Class.met = rw b at m in false≢true cc)

    -- a get that is met receives the lowest free block
    pub lowest_taken : (key : ℕ → ℕ) → Asked s c → c.side ≡ 2 → row_class (verdict s c) c ≡ Class.met
        → Lowest s h (task (settle key (verdict s c) s c) c.caller).word
    unfolding EachMeeting answered
    lowest_taken key t e m =
        bool_case (ltb 0 x.count)
        (λ b.
        let lt = ltb-true 0 x.count b in
        let v = get_row e ∙ get_some lt in
        let w : (task (settle key (verdict s c) s c) c.caller).word ≡ lowest_free x =
        ap (λ (v : Verdict). (task (settle key v s c) c.caller).word) v ∙ ap (λ (t : Task). t.word) (met-caller key s c t.run _ _ _ [] tt) in
        rw w (is_lowest lt))
        (λ b. absurd (not_later (verdict s c) m (get_row e ∙ get_none (omega (arith, ltb-false 0 x.count b)))))

    module _ (key : ℕ → ℕ) (t : Asked s c) (put : c.side ≡ 1) where
      abbrev s₁ : State
      s₁ = settle key (verdict s c) s c

      -- what the hub holds afterwards, by its row
      held_after : (v : Verdict) → verdict s c ≡ v → (hub s₁ h).held ≡ (hub_after x v).held
      unfolding core queued
      held_after v q = rw (← at, ← q) (ap (λ (y : Hub). y.held) (hub-target key s c (verdict s c) t.named))

      back-row : is_out (message c) x ≡ true → verdict s c ≡ give_back (first_waiting s 2 x.waiters) x (message c)
      unfolding put_memory
      back-row o = put-row put ∙ rw o refl

      fail-row : is_out (message c) x ≡ false → verdict s c ≡ fail
      unfolding put_memory
      fail-row o = put-row put ∙ rw o refl

      abbrev Goes : Type 0
      Goes = (is_out (message c) (hub s₁ h) ≡ false) ⊎ ((i : ℕ) × GoesTo s s₁ h (message c) i)

      -- nobody waits: the block is free
      goes_free : is_out (message c) x ≡ true → first_waiting s 2 x.waiters ≡ none → Goes
      unfolding give_back holding hub_after is_out
      goes_free o f =
          let v : verdict s c ≡ Verdict.met (suc x.count) (set x.held (message c) 0) 0 [] = back-row o ∙ rw f refl in
          inl (rw (held_after _ v, get_or-set_same x.held (message c) 0 0 (out_in (message c) x o)) refl)

      -- the marks are as they were, so it is out as before
      still : is_out (message c) x ≡ true → (v : Verdict) → verdict s c ≡ v → (hub_after x v).held ≡ x.held → is_out (message c) (hub s₁ h) ≡ true
      unfolding is_out
      still o v q same = ap (λ (l : List ℕ). eqb (get_or l (message c) 0) 1) (held_after v q ∙ same) ∙ o

      -- the first that waits is met with it
      goes_first : is_out (message c) x ≡ true → (i : ℕ) → first_waiting s 2 x.waiters ≡ some i → Goes
      unfolding EachMeeting give_back holding hub_after readied waiters_met
      goes_first o i f =
          let v : verdict s c ≡ Verdict.met x.count x.held 0 (record { waiter = i; word = message c } ∷ []) = back-row o ∙ rw f refl in
          let p = subst (λ (v : Verdict). EachMeeting (λ m. Waiter s c m.waiter) (waiters_met v)) v (partners s g.listed c) in
          let r : task s₁ i ≡ readied 1 (message c) (task s i) = ap (λ (v : Verdict). task (settle key v s c) i) v ∙ met-first key s c t.run _ _ _ _ [] p tt in
          inr (
            i,
            record {
              first = f;
              met = class-met (task s₁ i) (ap (λ (t : Task). t.state) r) (ap (λ (t : Task). t.answer) r);
              word = ap (λ (t : Task). t.word) r;
              out = still o _ v refl;
            },
          )

      pub goes_back : row_class (verdict s c) c ≡ Class.met → Goes
      unfolding row_class
      goes_back e =
          bool_case (is_out (message c) x) (λ o. by o (first_waiting s 2 x.waiters) refl)
          (λ o. absurd (let never : failed ≡ Class.met = sym (ap (λ (v : Verdict). row_class v c) (fail-row o)) ∙ e in false≢true cc))
        where
          by : is_out (message c) x ≡ true → (f : Option ℕ) → first_waiting s 2 x.waiters ≡ f → Goes
          by o none q = goes_free o q
          by o (some i) q = goes_first o i q

-- and behind the service, where no record, mark or count changes: z is the state after the service, z' the one after the call
out-kept : (z z' : State) → Kept z z' → (h b : ℕ) → is_out b (hub z' h) ≡ is_out b (hub z h)
unfolding core is_out queued
out-kept z z' k h b = ap (is_out b) (k.hubs.each h)

pub goes_kept : (s z z' : State) → Kept z z' → (h b : ℕ) → (is_out b (hub z h) ≡ false) ⊎ ((i : ℕ) × GoesTo s z h b i)
    → (is_out b (hub z' h) ≡ false) ⊎ ((i : ℕ) × GoesTo s z' h b i)
goes_kept s z z' k h b (inl o) = inl (out-kept z z' k h b ∙ o)
goes_kept s z z' k h b (inr (i, g)) = inr (
  i,
  record {
    first = g.first;
    met = rw (kept-task z z' k i) g.met;
    word = rw (kept-task z z' k i) g.word;
    out = out-kept z z' k h b ∙ g.out;
  },
)
