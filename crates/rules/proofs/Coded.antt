-- Refusal numbers and the refusals that bear them. In order: the refusal with a number bears it, and is the only one that does; a test that holds of
-- the numbers of a service's row holds of its refusal; each refusal number of a call and of a summary is that of a refusal.
-- Not here: when a call is refused (Accepted.antt, After.antt). Assumes nothing.
use Prim.Native.Nat.{suc, zero, ℕ}
use Rattle.lists.proofs.Laws.{bool_case}
use Rattle.rules.specs.Calls.{AddHub, AddTask, Blank, HubRequest, Resume, Service, Sleep, Start, Stop, Suspend, Tick, Unknown, Yield, service_of}
use Rattle.rules.specs.Refusals.{behind, by_running, good_message, need, on_table, on_task, refusal, refusal_at, refusal_for, refusal_in}
use Rattle.rules.specs.Reply.{code, given, number_given, refusal_number, refusal_with, summary_in, summary_refusal}
use Rattle.rules.specs.Table.{Layout, State, size}
use Rattle.rules.specs.WellFormed.{well_formed_in}
use Rattle.rules.specs.declared.Call.{Call}
use Rattle.rules.specs.declared.Refusal.TheVariants.{BadArgument, Full, HighWord, NotInUse, NotRunning, NotWellFormed, OtherEdition, ShortBuffer, UnknownService, WrongLength}
use Rattle.rules.specs.declared.Refusal.{Refusal}
use Rattle.std.specs.Prelude.{Err, IsErrAnd, Ok, Result}
use borrow.Author.Tests.{eqb-true}
use lib.Dec.{eqb}
use lib.ListN.{length}
use mathlib.Core.Bool.{Bool, false, true}
use mathlib.Core.List.{List}
use mathlib.Core.Logic.{◌≢◌}
use mathlib.Core.Path.{◌≡◌, ap, refl, sym}
use native.Mathlib.Omega.{arith}

-- ---- the refusal with a number

-- 0, or a refusal's number
abbrev pub coded : ℕ → Bool
coded zero = true
coded (suc r) = eqb (code (refusal_with (suc r))) (suc r)

pub given-number : {A : Type 0} (n : ℕ) (x : A) → coded n ≡ true → refusal_number (given n x) ≡ n
unfolding given
given-number zero x e = refl
given-number (suc r) x e = eqb-true _ (suc r) e

-- what is given where nothing is refused, and where something is
pub given_0 : {A : Type 0} (n : ℕ) (x : A) → n ≡ 0 → given n x ≡ Ok x
unfolding given
given_0 n x z = rw z refl

pub number_given-0 : (n x : ℕ) → (n ≡ 0 → ⊥) → number_given (given n x) ≡ 0
unfolding given
number_given-0 zero x d = absurd (d refl)
number_given-0 (suc r) x d = refl

-- a refusal is the one with its number
pub with-code : (e : Refusal) → refusal_with (code e) ≡ e
unfolding refusal_with
with-code WrongLength = refl
with-code NotWellFormed = refl
with-code UnknownService = refl
with-code NotRunning = refl
with-code NotInUse = refl
with-code BadArgument = refl
with-code Full = refl
with-code ShortBuffer = refl
with-code HighWord = refl
with-code OtherEdition = refl

pub given-code : {A : Type 0} (e : Refusal) (x : A) → given (code e) x ≡ Err e
unfolding given refusal_with
given-code WrongLength x = refl
given-code NotWellFormed x = refl
given-code UnknownService x = refl
given-code NotRunning x = refl
given-code NotInUse x = refl
given-code BadArgument x = refl
given-code Full x = refl
given-code ShortBuffer x = refl
given-code HighWord x = refl
given-code OtherEdition x = refl

-- ---- a test, and the next ones behind it: where the first test refused, and where it passed

pub code-some : (e : Refusal) → code e ≢ 0
code-some WrongLength z = absurd (omega arith)
code-some NotWellFormed z = absurd (omega arith)
code-some UnknownService z = absurd (omega arith)
code-some NotRunning z = absurd (omega arith)
code-some NotInUse z = absurd (omega arith)
code-some BadArgument z = absurd (omega arith)
code-some Full z = absurd (omega arith)
code-some ShortBuffer z = absurd (omega arith)
code-some HighWord z = absurd (omega arith)
code-some OtherEdition z = absurd (omega arith)

-- what `?` hands on bears the number of the refusal that it found
pub handed_on : {A : Type 0} (r : Result A Refusal) (e : Refusal) → IsErrAnd r (λ y. y ≡ e) → refusal_number r ≡ code e
handed_on (Ok x) e h = absurd h
handed_on (Err y) e h = ap code h

pub given_err : {A : Type 0} (r : Result A Refusal) (e : Refusal) (n : ℕ) (x : A) → IsErrAnd r (λ y. y ≡ e) → code e ≡ n → r ≡ given n x
given_err (Ok y) e n x h k = absurd h
given_err (Err y) e n x h k = rw (h, ← k) (sym (given-code e x))

pub given_ok : {A : Type 0} (n : ℕ) (x : A) → 0 ≡ n → Ok x ≡ given n x
unfolding given
given_ok n x h = rw (← h) refl

pub need_err : (e : Refusal) (b : Bool) (r rest : ℕ) → code e ≡ need b r 0 → code e ≡ need b r rest
unfolding need
need_err e true r rest h = absurd (code-some e h)
need_err e false r rest h = h

pub need_ok : (n : ℕ) (b : Bool) (r rest : ℕ) → 0 ≡ need b (suc r) 0 → n ≡ rest → n ≡ need b (suc r) rest
unfolding need
need_ok n true r rest h e = e
need_ok n false r rest h e = absurd (omega (arith, h))

pub passes : (b : Bool) (r : ℕ) → 0 ≡ need b (suc r) 0 → b ≡ true
unfolding need
passes true r h = refl
passes false r h = absurd (omega (arith, h))

pub fails : (e : Refusal) (b : Bool) (r : ℕ) → code e ≡ need b r 0 → (b ≡ false) × (code e ≡ r)
unfolding need
fails e true r h = absurd (code-some e h)
fails e false r h = (refl, h)

module _ (L : Layout) (t : List ℕ) where
  pub on_table_err : (e : Refusal) (rest : ℕ) → code e ≡ on_table L t 0 → code e ≡ on_table L t rest
  unfolding need
  on_table_err e rest h =
      bool_case (eqb (length t) (size L))
      (λ b. rw b (need_err e (well_formed_in L t) 2 rest (rw b at h)))
      (λ b. rw b (rw b at h))

  pub on_table_ok : 0 ≡ on_table L t 0 → (eqb (length t) (size L) ≡ true) × (well_formed_in L t ≡ true)
  unfolding need
  on_table_ok h =
      bool_case (eqb (length t) (size L))
      (λ b. (b, passes (well_formed_in L t) 1 (rw b at h)))
      (λ b. absurd (omega (arith, rw b at h)))

  pub on_table_then : (n rest : ℕ) → 0 ≡ on_table L t 0 → n ≡ rest → n ≡ on_table L t rest
  unfolding need
  on_table_then n rest h e = rw ((on_table_ok h).0, (on_table_ok h).1) e

pub behind_err : (e : Refusal) (n rest : ℕ) → code e ≡ n → code e ≡ behind n rest
unfolding behind
behind_err e zero rest h = absurd (code-some e h)
behind_err e (suc r) rest h = h

pub behind_ok : (m n rest : ℕ) → 0 ≡ n → m ≡ rest → m ≡ behind n rest
unfolding behind
behind_ok m zero rest h e = e
behind_ok m (suc r) rest h e = absurd (omega (arith, h))

-- ---- a test of the numbers that are given on the state

pub need-all : (p : ℕ → Bool) (b : Bool) (r rest : ℕ) → p r ≡ true → p rest ≡ true → p (need b r rest) ≡ true
unfolding need
need-all p true r rest f g = g
need-all p false r rest f g = f

-- 0, and 3 to 7
module _ (p : ℕ → Bool) (p0 : p 0 ≡ true) (p3 : p 3 ≡ true) (p4 : p 4 ≡ true) (p5 : p 5 ≡ true) (p6 : p 6 ≡ true) (p7 : p 7 ≡ true) where
  refusal_all : (s : State) (c : Call) → p (refusal s c) ≡ true
  unfolding by_running on_task refusal refusal_for
  refusal_all s c = go (service_of c.service)
    where
      all-on_task : p (on_task s c) ≡ true
      all-on_task = need-all p _ 4 _ p4 (need-all p _ 5 0 p5 p0)

      go : (v : Service) → p (refusal_for v s c) ≡ true
      go Blank = p0
      go HubRequest = need-all p _ 4 _ p4 (need-all p _ 5 _ p5 (need-all p _ 6 0 p6 p0))
      go Start = all-on_task
      go Stop = all-on_task
      go Suspend = all-on_task
      go Resume = all-on_task
      go Yield = need-all p _ 4 0 p4 p0
      go Sleep = need-all p _ 4 _ p4 (need-all p _ 6 0 p6 p0)
      go Tick = p0
      go AddTask = need-all p _ 6 _ p6 (need-all p _ 7 0 p7 p0)
      go AddHub = need-all p _ 6 _ p6 (need-all p _ 7 0 p7 p0)
      go Unknown = p3

  pub at_all : (L : Layout) (s : State) (c : Call) → p (refusal_at L s c) ≡ true
  unfolding behind refusal_at
  at_all L s c = by (refusal s c) (refusal_all s c)
    where
      by : (n : ℕ) → p n ≡ true → p (behind n (need (good_message L c) 6 0)) ≡ true
      by zero l = need-all p (good_message L c) 6 0 p6 p0
      by (suc r) l = l

-- ---- every refusal number of a call and of a summary is a refusal's

pub refusal-coded : (L : Layout) (t : List ℕ) (c : Call) → coded (refusal_in L t c) ≡ true
unfolding refusal_in refusal_with
refusal-coded L t c = need-all coded _ 1 _ refl (need-all coded _ 2 _ refl (at_all coded refl refl refl refl refl refl L _ c))

pub summary-number : (L : Layout) (t : List ℕ) (h : ℕ) → refusal_number (summary_in L t h) ≡ summary_refusal L t h
unfolding refusal_with summary_in summary_refusal
summary-number L t h = given-number _ _ (need-all coded _ 1 _ refl (need-all coded _ 2 _ refl (need-all coded _ 5 0 refl refl)))
