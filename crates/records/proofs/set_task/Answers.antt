-- `records::set_task` meets its contract: the record's place by `record_at`, its words by three runs of stores, one behind the other. Assumes nothing.
use Prim.Native.Nat.{◌*◌, ◌+◌, ℕ}
use Rattle.messages.proofs.Laws.{length-message}
use Rattle.messages.specs.Messages.{message_words}
use Rattle.records.proofs.Laws.{sets_append}
use Rattle.records.specs.Records.{task_words, width}
use lib.ListN.{length}
use lib.Seq.{sets}
use mathlib.Core.List.{List, [], ◌++◌, ◌∷◌}
use mathlib.Core.Path.{◌∙◌, ◌≡◌, ap, sym}
use native.Mathlib.Omega.{arith}
use Rattle.records.proofs.set_task.Goals as goal

pub returns : goal.returns
unfolding task_words
returns c =
    let a = c.args in
    let x = a.x in
    let t = a.t.now in
    let p : ℕ = 8 + a.i.0 * a.ts.words in
    let head : List ℕ = x.state ∷ x.suspended ∷ x.priority ∷ x.hub ∷ x.ticks ∷ x.side ∷ [] in
    let said : List ℕ = message_words (width a.ts.words) x.word in
    let long : length said ≡ width a.ts.words = length-message (width a.ts.words) x.word (omega arith) (omega arith) in
    rw (
      c.set_word.ensures,
      c.set_message.ensures,
      c.set_words.ensures,
      c.record_at-p.ensures.place,
      c.width_of-w.ensures,
    )
    (ap (λ (k : ℕ). sets (sets (sets t p head) (p + 6) said) (p + 6 + k) (x.answer ∷ [])) (sym long)
    ∙ sets_append (sets t p head) (p + 6) said (x.answer ∷ [])
    ∙ sets_append t p head (said ++ x.answer ∷ []))
