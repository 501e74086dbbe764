-- What holds of a run's history after every step: its table is well formed, and its requests and hubs are in account with
-- the state shown (`Sound`). From words to states by the rules' own promises (rules' Promise.antt); all else is of states.
use Prim.Native.Nat.{suc, zero, ℕ}
use Rattle.history.proofs.Account.{Account, account_blank, account_kept, account_serve}
use Rattle.history.proofs.Boards.{Boards, boards_blank, boards_same, boards_serve}
use Rattle.history.proofs.Made.{Makes, makes_blank, makes_same, makes_serve}
use Rattle.history.specs.History.{History, Step, begun, calls, down, gone_on, history, next, next_by, opened, part_of, shown, since_blank, step, turned_by, up}
use Rattle.history.specs.Statements.{Begins}
use Rattle.rules.proofs.After.{accepted, at_other, read-valid, well_formed-long}
use Rattle.rules.proofs.Editions.{down_shows, down_well_formed, up_shows, up_well_formed}
use Rattle.rules.proofs.Inherited.{kept-reordered}
use Rattle.rules.proofs.Promise.{read-after, refused_leaves, well_formed-after}
use Rattle.rules.proofs.Reordered.{Kept, kept-task}
use Rattle.rules.proofs.Still.{served-blank}
use Rattle.rules.proofs.Valid.{Valid}
use Rattle.rules.specs.Calls.{Service, blank, serve, served, service_of}
use Rattle.rules.specs.Effective.{effective}
use Rattle.rules.specs.Refusals.{is_blank, need, refusal, refusal_at, refusal_for, refusal_in, refusal_of}
use Rattle.rules.specs.Reply.{table_after}
use Rattle.rules.specs.Table.{State, edition_of, size, task}
use Rattle.rules.specs.WellFormed.{well_formed}
use Rattle.rules.specs.declared.Call.{Call}
use borrow.Author.Tests.{eq-eqb}
use lib.ListN.{length}
use mathlib.Core.Bool.{or-true, true}
use mathlib.Core.List.{List, [], ◌∷◌}
use mathlib.Core.Logic.{◌≢◌}
use mathlib.Core.Path.{◌∙◌, ◌≡◌, refl}

pub record Sound (x : History) : Type 0 where
  pub formed : well_formed x.table ≡ true
  pub valid : Valid (shown x.table)
  pub account : Account (shown x.table) x.requests x.met x.removed
  pub makes : Makes (shown x.table) x.added
  pub boards : Boards (shown x.table) x.calls

-- ---- a call, by its service on the state shown

-- what the service leaves, by the effective priorities before the call
abbrev pub done : State → Call → State
done s c = serve (effective s) (service_of c.service) s c

module _ (x : History) (g : Sound x) (c : Call) where
  pub refusal-shown : refusal_of x.table c ≡ refusal_at (edition_of x.table) (shown x.table) c
  unfolding need refusal_in
  refusal-shown = rw (eq-eqb (length x.table) (size (edition_of x.table)) (well_formed-long x.table g.formed), g.formed, or-true (is_blank c)) refl

  -- of any service but a hub request
  pub refusal_other : c.service ≢ 1 → refusal_of x.table c ≡ refusal_for (service_of c.service) (shown x.table) c
  unfolding refusal
  refusal_other n = refusal-shown ∙ at_other (edition_of x.table) (shown x.table) c n

module _ (x : History) (c : Call) (e : refusal_of x.table c ≡ 0) where
  pub accepted-service : refusal_for (service_of c.service) (shown x.table) c ≡ 0
  accepted-service = unfold refusal in (accepted (edition_of x.table) x.table c e).1

  -- the state shown after the call is as its service leaves it (`done`), but for the order of lists (M-108)
  pub shown-kept : Kept (done (shown x.table) c) (shown (table_after x.table c))
  unfolding served
  shown-kept = rw (read-after x.table c e) (kept-reordered (shown x.table) (done (shown x.table) c))

  pub shown-task : (j : ℕ) → task (shown (table_after x.table c)) j ≡ task (done (shown x.table) c) j
  shown-task = kept-task (done (shown x.table) c) (shown (table_after x.table c)) shown-kept

-- ---- from call to call

sound_by : (n : ℕ) (x : History) (c : Call) → Sound x → refusal_of x.table c ≡ n → Sound (next_by n x c)
unfolding next_by turned_by
sound_by zero x c g e = record {
  formed = well_formed-after x.table c e;
  valid = read-valid (table_after x.table c) (well_formed-after x.table c e);
  account = account_kept w s (done s c) _ (opened (part_of w) s c x.requests) (since_blank (part_of w) x.met) (since_blank (part_of w) x.removed) c (shown-kept x c e)
      (account_serve _ w s x.requests x.met x.removed c g.account g.valid (accepted-service x c e));
  makes = makes_same (done s c) _ _ (shown-kept x c e).hubs (makes_serve _ w s c x.added g.valid.listed (accepted-service x c e) g.makes);
  boards = boards_same (done s c) _ _ (shown-kept x c e).hubs (boards_serve _ w s c x.calls g.valid.listed (accepted-service x c e) g.boards);
}
  where
    s : State
    s = shown x.table

    w : Service
    w = service_of c.service
sound_by (suc n) x c g e = record {
  formed = rw (refused_leaves x.table c n e).0 g.formed;
  valid = rw (refused_leaves x.table c n e).0 g.valid;
  account = rw (refused_leaves x.table c n e).0 g.account;
  makes = rw (refused_leaves x.table c n e).0 g.makes;
  boards = rw (refused_leaves x.table c n e).0 g.boards;
}

pub sound_next : (x : History) (c : Call) → Sound x → Sound (next x c)
unfolding next
sound_next x c g = sound_by (refusal_of x.table c) x c g refl

-- ---- through a move: what the new table shows is what the old one showed

sound_gone : (n : ℕ) (t : List ℕ) (x : History) → Sound x → (n ≡ 0 → (well_formed t ≡ true) × (shown t ≡ shown x.table)) → Sound (gone_on n t x)
unfolding gone_on
sound_gone zero t x g same = record {
  formed = (same refl).0;
  valid = rw (same refl).1 g.valid;
  account = rw (same refl).1 g.account;
  makes = rw (same refl).1 g.makes;
  boards = rw (same refl).1 g.boards;
}
sound_gone (suc n) t x g same = g

pub sound_step : (x : History) (d : Step) → Sound x → Sound (step x d)
unfolding step
sound_step x (calls c) g = sound_next x c g
sound_step x (up room) g = sound_gone _ _ x g (λ e. (up_well_formed x.table room e, up_shows x.table room e))
sound_step x (down room) g = sound_gone _ _ x g (λ e. (down_well_formed x.table room e, down_shows x.table room e))

sound_history : (x : History) (ds : List Step) → Sound x → Sound (history x ds)
unfolding history
sound_history x [] g = g
sound_history x (d ∷ ds) g = sound_history (step x d) ds (sound_step x d g)

-- ---- a run

first-shown : (w : List ℕ) (b : Call) → Begins w b → shown (table_after w b) ≡ blank
first-shown w b g = read-after w b g.accepted ∙ served-blank (shown w) b g.blank

pub sound_run : (w : List ℕ) (b : Call) → Begins w b → (ds : List Step) → Sound (history (begun (table_after w b)) ds)
sound_run w b g ds = sound_history _ ds first
  where
    first : Sound (begun (table_after w b))
    first = unfold begun in record {
      formed = well_formed-after w b g.accepted;
      valid = read-valid (table_after w b) (well_formed-after w b g.accepted);
      account = rw (first-shown w b g) account_blank;
      makes = rw (first-shown w b g) makes_blank;
      boards = rw (first-shown w b g) boards_blank;
    }
