-- What `call` promises of every table of words and every eight numbers: an equation for the reply and one for the table; the
-- same over any layout; and what an accepted call rests on.
use Rattle.std.specs.Prelude.{ℕ, get_or, length, List, ◌≢◌, ◌≡◌}
use Rattle.rules.proofs.Layouts.{Edition}
use Rattle.rules.specs.Effective.{effective}
use Rattle.rules.specs.Refusals.{refusal_in}
use Rattle.rules.specs.Reply.{ahead, reply_in, reply_to, table_after, table_in}
use Rattle.rules.specs.Table.{Layout, State, read, words}
use Rattle.rules.specs.declared.Call.{Call}
use Rattle.rules.specs.declared.Reply.{Reply}
use Rattle.rules.specs.declared.Served.{Served}

pub record Called (before : List ℕ) (c : Call) (r : Reply) (after : List ℕ) : Type 0 where
  pub reply : r ≡ reply_to before c
  pub table : after ≡ table_after before c

pub record CalledIn (L : Layout) (before : List ℕ) (c : Call) (r : Reply) (after : List ℕ) : Type 0 where
  pub reply : r ≡ reply_in L before c
  pub table : after ≡ table_in L before c

-- the refusal number of a call, and where it is 0 and the call no Blank, the key of each task: its effective priority (M-108)
pub record Judged (L : Layout) (t : List ℕ) (c : Call) (r : ℕ) (ks : List ℕ) : Type 0 where
  pub refusal : r ≡ refusal_in L t c
  pub long : r ≡ 0 → length ks ≡ 16
  pub keys : r ≡ 0 → c.service ≢ 0 → (j : ℕ) → get_or ks j 0 ≡ effective (read L t) j

-- an accepted call has left this state in the table, and hands up how many are ahead of the caller in it
pub record ServedIn (L : Layout) (s' : State) (c : Call) (r : Served) (after : List ℕ) : Type 0 where
  pub table : after ≡ words L s'
  pub ahead : r.ahead ≡ ahead s' c

-- a table whose task records have ts words takes the call, in the edition of that size
pub record Accepts (ts : ℕ) (t : List ℕ) (c : Call) : Type 0 where
  pub edition : Edition ts
  pub none : refusal_in edition.layout t c ≡ 0
