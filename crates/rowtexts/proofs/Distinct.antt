-- Texts that differ. In order: the first byte of a number's text; no cell of a row in use says `not in use`; a priority says the
-- effective one; what a hub holds says its kind; the ready list says which task runs.
-- Each by looking at a few bytes of the text. Not here: texts that are equal (Cells.antt). Assumes nothing.
use Prim.Native.Nat.{◌%◌, ◌/◌, ◌≤◌, suc, ℕ}
use Rattle.hubtexts.specs.Cells.{block_text, blocks_from, board_text, count_text, held_from, holds_text, kind_text, none_text, word_text, words_from, words_text}
use Rattle.lines.proofs.Decimal.{digit_high, digit_low, is_decimal-decimal, value-decimal}
use Rattle.lines.specs.Lines.{decimal, is_decimal, is_digit, value}
use Rattle.lists.proofs.Laws.{bool_case}
use Rattle.records.specs.declared.HubRecord.{HubRecord}
use Rattle.records.specs.declared.TaskRecord.{TaskRecord}
use Rattle.rows.specs.declared.Row.TheVariants.{Answer, Contents, Holds, Kind, Priority, ReadyList, State as StateRow, Waiting}
use Rattle.rows.specs.declared.Row.{Row}
use Rattle.rowtexts.specs.RowTexts.{used_text}
use Rattle.rules.specs.Lists.{first_free}
use Rattle.rules.specs.Table.{State, is_suspended, task}
use Rattle.texts.specs.Cells.{answer_text, contents_text, entries_from, entry_text, message_text, outcome_text, priority_text, stage_text, state_text, task_text, tasks_text, waits_text}
use Rattle.texts.specs.Texts.{bytes}
use borrow.Author.Tests.{eq-eqb, eqb-false, eqb-true, ne_eqb}
use lib.Dec.{eqb}
use lib.ListN.{get_or}
use mathlib.Core.Bool.{Bool, cond, false, false≢true, true}
use mathlib.Core.List.{List, [], ◌++◌, ◌∷◌, append_assoc, append_cancel_left, append-nil}
use mathlib.Core.Logic.{◌⊎◌, inl, inr, ⊎_elim}
use mathlib.Core.Path.{◌∙◌, ◌≡◌, ap, refl, sym}
use native.Mathlib.Omega.{arith}

-- ---- the first byte of a number's text is a digit

pub record Digit (d : ℕ) : Type 0 where
  pub low : 48 ≤ d
  pub high : d ≤ 57

digit_head : (l rest : List ℕ) → is_decimal l ≡ true → Digit (get_or (l ++ rest) 0 0)
unfolding is_decimal
digit_head [] rest e = absurd (false≢true e)
digit_head (d ∷ []) rest e = record { low = digit_low d e; high = digit_high d e }
digit_head (d ∷ c ∷ ds) rest e =
    bool_case (is_digit d)
    (λ q. record { low = digit_low d q; high = digit_high d q })
    (λ q. absurd (false≢true (rw q at e)))

number_head : (n : ℕ) (rest : List ℕ) → Digit (get_or (decimal n ++ rest) 0 0)
number_head n rest = digit_head (decimal n) rest (is_decimal-decimal n)

message_head : (m : ℕ) (rest : List ℕ) → Digit (get_or (message_text m ++ rest) 0 0)
unfolding message_text
message_head m rest =
    bool_case (eqb (m / 4294967296) 0)
    (λ q. rw q (number_head (m % 4294967296) rest))
    (λ q. rw (q, append_assoc (decimal (m % 4294967296) ++ bytes " high ") (decimal (m / 4294967296)) rest, append_assoc (decimal (m % 4294967296)) (bytes " high ") (decimal (m / 4294967296) ++ rest)) (number_head (m % 4294967296) _))

-- ---- no cell of a row in use says `not in use`

abbrev unused : List ℕ
unused = bytes "not in use"

-- by the first byte, and the third to fifth
byte : {l : List ℕ} (k : ℕ) → l ≡ unused → get_or l k 0 ≡ get_or unused k 0
byte k e = ap (λ (l : List ℕ). get_or l k 0) e

not_digit : {l : List ℕ} → l ≡ unused → Digit (get_or l 0 0) → ⊥
not_digit {l} e d = omega (arith, byte 0 e, d.low, d.high)

tasks_say : (runs : ℕ) (l : List ℕ) → tasks_text runs l ≡ unused → ⊥
unfolding entries_from entry_text task_text tasks_text
tasks_say runs [] e = let z : ◌≡◌ {A = ℕ} 111 32 = byte 3 e in omega arith
tasks_say runs (i ∷ is) e = let z : ◌≡◌ {A = ℕ} 116 110 = byte 0 e in omega arith

state-says : (x : TaskRecord) → state_text x ≡ unused → ⊥
unfolding stage_text state_text waits_text
state-says x e =
    bool_case (eqb x.state 1)
    (λ p. let z : ◌≡◌ {A = ℕ} 105 110 = byte 0 (rw p at e) in omega arith)
    (λ p.
    bool_case (eqb x.state 2)
    (λ q. let z : ◌≡◌ {A = ℕ} 114 110 = byte 0 (rw (p, q) at e) in omega arith)
    (λ q.
    bool_case (eqb x.state 3)
    (λ r.
    bool_case (eqb x.side 1)
    (λ s. let z : ◌≡◌ {A = ℕ} 119 110 = byte 0 (rw (p, q, r, s) at e) in omega arith)
    (λ s. let z : ◌≡◌ {A = ℕ} 119 110 = byte 0 (rw (p, q, r, s) at e) in omega arith))
    (λ r. let z : ◌≡◌ {A = ℕ} 115 110 = byte 0 (rw (p, q, r) at e) in omega arith)))

answer-says : (x : TaskRecord) → answer_text x ≡ unused → ⊥
unfolding answer_text outcome_text
answer-says x e =
    bool_case (eqb x.answer 0)
    (λ p. let z : ◌≡◌ {A = ℕ} 101 32 = byte 3 (rw p at e) in omega arith)
    (λ p.
    bool_case (eqb x.answer 2)
    (λ q. let z : ◌≡◌ {A = ℕ} 102 110 = byte 0 (rw (p, q) at e) in omega arith)
    (λ q.
    bool_case (eqb x.answer 3)
    (λ r. let z : ◌≡◌ {A = ℕ} 116 110 = byte 0 (rw (p, q, r) at e) in omega arith)
    (λ r.
    bool_case (eqb x.word 0)
    (λ s. let z : ◌≡◌ {A = ℕ} 79 110 = byte 0 (rw (p, q, r, s) at e) in omega arith)
    (λ s. let z : ◌≡◌ {A = ℕ} 109 110 = byte 0 (rw (p, q, r, s) at e) in omega arith))))

kind-says : (x : HubRecord) → kind_text x ≡ unused → ⊥
unfolding kind_text
kind-says x e =
    bool_case (eqb x.kind 1)
    (λ p. let z : ◌≡◌ {A = ℕ} 69 110 = byte 0 (rw p at e) in omega arith)
    (λ p.
    bool_case (eqb x.kind 2)
    (λ q. let z : ◌≡◌ {A = ℕ} 83 110 = byte 0 (rw (p, q) at e) in omega arith)
    (λ q.
    bool_case (eqb x.kind 3)
    (λ r. let z : ◌≡◌ {A = ℕ} 80 110 = byte 0 (rw (p, q, r) at e) in omega arith)
    (λ r.
    bool_case (eqb x.kind 4)
    (λ s. let z : ◌≡◌ {A = ℕ} 70 110 = byte 0 (rw (p, q, r, s) at e) in omega arith)
    (λ s.
    bool_case (eqb x.kind 5)
    (λ t. let z : ◌≡◌ {A = ℕ} 82 110 = byte 0 (rw (p, q, r, s, t) at e) in omega arith)
    (λ t.
    bool_case (eqb x.kind 6)
    (λ u. let z : ◌≡◌ {A = ℕ} 66 110 = byte 0 (rw (p, q, r, s, t, u) at e) in omega arith)
    (λ u. let z : ◌≡◌ {A = ℕ} 77 110 = byte 0 (rw (p, q, r, s, t, u) at e) in omega arith))))))

words_say : (ms : List ℕ) → words_text ms ≡ unused → ⊥
unfolding word_text words_from words_text
words_say [] e = let z : ◌≡◌ {A = ℕ} 101 110 = byte 0 e in omega arith
words_say (m ∷ ms) e = not_digit e (message_head m _)

blocks_say : (b : ℕ) (ms : List ℕ) → blocks_from 0 b ms ≡ unused → ⊥
unfolding block_text blocks_from none_text
blocks_say b [] e = let z : ◌≡◌ {A = ℕ} 32 116 = byte 2 e in omega arith
blocks_say b (m ∷ ms) e =
    bool_case (eqb m 0)
    (λ p. blocks_say (suc b) ms (rw p at e))
    (λ p. let z : ◌≡◌ {A = ℕ} 98 110 = byte 0 (rw p at e) in omega arith)

count-says : (x : HubRecord) → count_text x ≡ unused → ⊥
unfolding count_text
count-says x e =
    bool_case (eqb x.kind 1)
    (λ p.
    bool_case (eqb x.count 0)
    (λ q. let z : ◌≡◌ {A = ℕ} 115 105 = byte 4 (rw (p, q) at e) in omega arith)
    (λ q. let z : ◌≡◌ {A = ℕ} 115 110 = byte 0 (rw (p, q) at e) in omega arith))
    (λ p.
    bool_case (eqb x.kind 2)
    (λ q. let z : ◌≡◌ {A = ℕ} 99 110 = byte 0 (rw (p, q) at e) in omega arith)
    (λ q.
    bool_case (eqb x.kind 5)
    (λ r.
    bool_case (eqb x.count 0)
    (λ s. let z : ◌≡◌ {A = ℕ} 102 110 = byte 0 (rw (p, q, r, s) at e) in omega arith)
    (λ s. let z : ◌≡◌ {A = ℕ} 111 110 = byte 0 (rw (p, q, r, s) at e) in omega arith))
    (λ r. let z : ◌≡◌ {A = ℕ} 104 32 = byte 3 (rw (p, q, r) at e) in omega arith)))

holds_say : (w : ℕ) (t : List ℕ) (from : ℕ) (x : HubRecord) → holds_text w t from x ≡ unused → ⊥
unfolding board_text holds_text
holds_say w t from x e =
    bool_case (eqb x.kind 4)
    (λ p. words_say (held_from w t from x.count) (rw p at e))
    (λ p.
    bool_case (eqb x.kind 6)
    (λ q.
    bool_case (eqb x.count 0)
    (λ r. let z : ◌≡◌ {A = ℕ} 119 105 = byte 4 (rw (p, q, r) at e) in omega arith)
    (λ r. let z : ◌≡◌ {A = ℕ} 119 110 = byte 0 (rw (p, q, r) at e) in omega arith))
    (λ q.
    bool_case (eqb x.kind 7)
    (λ r. blocks_say 0 (held_from w t from 8) (rw (p, q, r) at e))
    (λ r. count-says x (rw (p, q, r) at e))))

pub never_unused : (ts : ℕ) (t : List ℕ) (runs : ℕ) (r : Row) → used_text ts t runs r ≡ bytes "not in use" → ⊥
unfolding contents_text priority_text used_text
never_unused ts t runs Contents e = let z : ◌≡◌ {A = ℕ} 101 110 = byte 0 e in omega arith
never_unused ts t runs ReadyList e = tasks_say runs _ e
never_unused ts t runs (StateRow i) e = state-says _ e
never_unused ts t runs (Priority i) e = not_digit e (number_head _ _)
never_unused ts t runs (Answer i) e = answer-says _ e
never_unused ts t runs (Kind h) e = kind-says _ e
never_unused ts t runs (Holds h) e = holds_say _ _ _ _ e
never_unused ts t runs (Waiting h) e = tasks_say 0 _ e

-- ---- a priority says the effective one

-- two tasks of one own priority whose texts are equal have one effective priority
pub priority_said : (own own' x y : ℕ) → own ≡ own' → priority_text own x ≡ priority_text own' y → x ≡ y
unfolding priority_text
priority_said own own' x y o e =
    let tail : cond (eqb own x) [] (bytes ", effective " ++ decimal x) ≡ cond (eqb own y) [] (bytes ", effective " ++ decimal y) = append_cancel_left (decimal own) _ _ (rw (← o) at e) in
    bool_case (eqb own x)
    (λ p.
    bool_case (eqb own y)
    (λ q. sym (eqb-true own x p) ∙ eqb-true own y q)
    (λ q. absurd (let z : ◌≡◌ {A = ℕ} 0 44 = ap (λ (l : List ℕ). get_or l 0 0) (rw (p, q) at tail) in omega arith)))
    (λ p.
    bool_case (eqb own y)
    (λ q. absurd (let z : ◌≡◌ {A = ℕ} 44 0 = ap (λ (l : List ℕ). get_or l 0 0) (rw (p, q) at tail) in omega arith))
    (λ q. sym (value-decimal x) ∙ ap value (append_cancel_left (bytes ", effective ") _ _ (rw (p, q) at tail)) ∙ value-decimal y))

-- ---- what a hub holds says its kind

-- the kind, read from a few bytes of the text: s(et), not s(et); c(ount); noth(ing); e(mpty), or a number; f(ree), o(wner); w(ritten),
-- not w(ritten); b(locks out), no (block out)
unfoldable pub kind_said : List ℕ → ℕ
kind_said l =
    cond (eqb (get_or l 0 0) 115) 1
    (cond (eqb (get_or l 0 0) 99) 2
    (cond (eqb (get_or l 0 0) 102) 5
    (cond (eqb (get_or l 0 0) 111) 5
    (cond (eqb (get_or l 0 0) 119) 6
    (cond (eqb (get_or l 0 0) 98) 7
    (cond (eqb (get_or l 0 0) 110) (cond (eqb (get_or l 2 0) 32) 7 (cond (eqb (get_or l 3 0) 104) 3 (cond (eqb (get_or l 4 0) 115) 1 6)))
    4))))))

digit_said : (l : List ℕ) → Digit (get_or l 0 0) → kind_said l ≡ 4
unfolding kind_said
digit_said l d =
    let c = get_or l 0 0 in
    rw (
      ne_eqb c 115 (λ z. omega (arith, d.high, z)),
      ne_eqb c 99 (λ z. omega (arith, d.high, z)),
      ne_eqb c 102 (λ z. omega (arith, d.high, z)),
      ne_eqb c 111 (λ z. omega (arith, d.high, z)),
      ne_eqb c 119 (λ z. omega (arith, d.high, z)),
      ne_eqb c 98 (λ z. omega (arith, d.high, z)),
      ne_eqb c 110 (λ z. omega (arith, d.high, z)),
    ) refl

words_said : (ms : List ℕ) → kind_said (words_text ms) ≡ 4
unfolding kind_said word_text words_from words_text
words_said [] = refl
words_said (m ∷ ms) = digit_said (message_text m ++ words_from 1 ms) (message_head m (words_from 1 ms))

blocks_said : (b : ℕ) (ms : List ℕ) → kind_said (blocks_from 0 b ms) ≡ 7
unfolding block_text blocks_from kind_said none_text
blocks_said b [] = refl
blocks_said b (m ∷ ms) = bool_case (eqb m 0) (λ p. rw p (blocks_said (suc b) ms)) (λ p. rw p refl)

-- of the kinds 1 to 7
pub kind_said_lem : (w : ℕ) (t : List ℕ) (from : ℕ) (x : HubRecord) → 1 ≤ x.kind → x.kind ≤ 7 → kind_said (holds_text w t from x) ≡ x.kind
unfolding board_text count_text holds_text kind_said
kind_said_lem w t from x lo hi =
    bool_case (eqb x.kind 4)
    (λ p. rw p (words_said (held_from w t from x.count) ∙ sym (eqb-true x.kind 4 p)))
    (λ p.
    bool_case (eqb x.kind 6)
    (λ q. bool_case (eqb x.count 0) (λ c. rw (p, q, c) (sym (eqb-true x.kind 6 q))) (λ c. rw (p, q, c) (sym (eqb-true x.kind 6 q))))
    (λ q.
    bool_case (eqb x.kind 7)
    (λ m. rw (p, q, m) (blocks_said 0 (held_from w t from 8) ∙ sym (eqb-true x.kind 7 m)))
    (λ m.
    bool_case (eqb x.kind 1)
    (λ r. bool_case (eqb x.count 0) (λ c. rw (p, q, m, r, c) (sym (eqb-true x.kind 1 r))) (λ c. rw (p, q, m, r, c) (sym (eqb-true x.kind 1 r))))
    (λ r.
    bool_case (eqb x.kind 2)
    (λ s. rw (p, q, m, r, s) (sym (eqb-true x.kind 2 s)))
    (λ s.
    bool_case (eqb x.kind 5)
    (λ u. bool_case (eqb x.count 0) (λ c. rw (p, q, m, r, s, u, c) (sym (eqb-true x.kind 5 u))) (λ c. rw (p, q, m, r, s, u, c) (sym (eqb-true x.kind 5 u))))
    (λ u.
    let three : 3 ≡ x.kind = omega (arith, eqb-false x.kind 4 p, eqb-false x.kind 6 q, eqb-false x.kind 7 m, eqb-false x.kind 1 r, eqb-false x.kind 2 s, eqb-false x.kind 5 u) in
    rw (p, q, m, r, s, u) three))))))

-- ---- the ready list says which task runs

-- whether the list has the task that `runs` names
unfoldable pub among : ℕ → List ℕ → Bool
among runs [] = false
among runs (i ∷ is) = cond (eqb (suc i) runs) true (among runs is)

-- behind an entry stands nothing, or a comma, and no space
no_space : (k runs : ℕ) (is rest : List ℕ) → bytes " (runs)" ++ rest ≡ entries_from (suc k) runs is → ⊥
unfolding entries_from entry_text task_text
no_space k runs [] rest e = let z : ◌≡◌ {A = ℕ} 32 0 = ap (λ (l : List ℕ). get_or l 0 0) e in omega arith
no_space k runs (i ∷ is) rest e =
    let z : ◌≡◌ {A = ℕ} 32 44 = ap (λ (l : List ℕ). get_or l 0 0) (rw (ne_eqb (suc k) 0 (λ n. omega (arith, n))) at e) in omega arith

-- lists of the same tasks that say the same name the same one, or none of them
entries_say : (x y k : ℕ) (l : List ℕ) → entries_from k x l ≡ entries_from k y l → (x ≡ y) ⊎ ((among x l ≡ false) × (among y l ≡ false))
unfolding among entries_from entry_text
entries_say x y k [] e = inr (refl, refl)
entries_say x y k (i ∷ is) e =
    bool_case (eqb (suc i) x)
    (λ p.
    bool_case (eqb (suc i) y)
    (λ q. inl (sym (eqb-true (suc i) x p) ∙ eqb-true (suc i) y q))
    (λ q. absurd (no_space k y is (entries_from (suc k) x is) (cancel (rw (p, q, append-nil) at e)))))
    (λ p.
    bool_case (eqb (suc i) y)
    (λ q. absurd (no_space k x is (entries_from (suc k) y is) (cancel (sym (rw (p, q, append-nil) at e)))))
    (λ q.
    ⊎_elim (λ s. inl s) (λ s. inr (rw p s.0, rw q s.1))
    (entries_say x y (suc k) is (append_cancel_left (task_text k i) _ _ (rw (p, q, append-nil) at e)))))
  where
    cancel : {u v : List ℕ} → task_text k i ++ bytes " (runs)" ++ u ≡ task_text k i ++ v → bytes " (runs)" ++ u ≡ v
    cancel {u} {v} h = append_cancel_left (task_text k i) (bytes " (runs)" ++ u) v (sym (append_assoc (task_text k i) (bytes " (runs)") u) ∙ h)

-- the running task is among the tasks of the list, or there is none
runs_among : (s : State) (l : List ℕ) → among (first_free s l) l ≡ false → first_free s l ≡ 0
unfolding among first_free
runs_among s [] e = refl
runs_among s (i ∷ is) e =
    bool_case (is_suspended (task s i))
    (λ q.
    let f : first_free s (i ∷ is) ≡ first_free s is = rw q refl in
    f ∙ runs_among s is (behind (first_free s is) (ap (λ (x : ℕ). among x (i ∷ is)) (sym f) ∙ e)))
    (λ q. absurd (false≢true (sym (rw (q, eq-eqb (suc i) (suc i) refl) at e))))
  where
    behind : (x : ℕ) → cond (eqb (suc i) x) true (among x is) ≡ false → among x is ≡ false
    behind x h = bool_case (eqb (suc i) x) (λ p. absurd (false≢true (sym (rw p at h)))) (λ p. rw p at h)

-- two states with one ready list whose texts are equal have one running task
pub runs_said : (s s' : State) (l : List ℕ) → tasks_text (first_free s l) l ≡ tasks_text (first_free s' l) l → first_free s l ≡ first_free s' l
unfolding first_free tasks_text
runs_said s s' [] e = refl
runs_said s s' (i ∷ is) e =
    ⊎_elim (λ same. same) (λ none. runs_among s (i ∷ is) none.0 ∙ sym (runs_among s' (i ∷ is) none.1)) (entries_say (first_free s (i ∷ is)) (first_free s' (i ∷ is)) 0 (i ∷ is) e)
