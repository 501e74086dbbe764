-- A drill over states: what is printed for lines on the words of a valid state, in edition 2 as the runner's table is, can be worked
-- out on the state (`text_from`), which comes to the same as on the words (`on_words`). Not here: one call on the words of a state
-- (rules, States). Assumes nothing.
use Prim.Native.Nat.{ℕ}
use Rattle.lines.specs.Lines.{Line, bad_text}
use Rattle.rules.proofs.States.{reply-words, state_after, table-words, two_fitting, valid-after}
use Rattle.rules.proofs.Valid.{Valid}
use Rattle.rules.specs.Calls.{served}
use Rattle.rules.specs.Refusals.{refusal_at}
use Rattle.rules.specs.Reply.{reply_by}
use Rattle.rules.specs.Table.{State, two, words}
use Rattle.runner.specs.Runner.{reply_text, text_through}
use Rattle.std.specs.Prelude.{Err, Ok}
use mathlib.Core.List.{List, [], ◌++◌, ◌∷◌}
use mathlib.Core.Path.{◌≡◌, ap, refl}

unfoldable pub text_from : State → List Line → List ℕ
text_from s [] = []
text_from s (Ok call ∷ ls) = reply_text (reply_by (refusal_at two s call) (served s call) call) ++ text_from (state_after two s call) ls
text_from s (Err bad ∷ ls) = bad_text bad.line ++ text_from s ls

pub on_words : (s : State) → Valid s → (ls : List Line) → text_through (words two s) ls ≡ text_from s ls
unfolding text_from text_through
on_words s v [] = refl
on_words s v (Ok call ∷ ls) =
    rw (reply-words two_fitting s v call, table-words two_fitting s v call)
    (ap (λ (t : List ℕ). reply_text (reply_by (refusal_at two s call) (served s call) call) ++ t)
    (on_words (state_after two s call) (valid-after two_fitting s v call) ls))
on_words s v (Err bad ∷ ls) = ap (λ (t : List ℕ). bad_text bad.line ++ t) (on_words s v ls)
