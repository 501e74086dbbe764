-- `requests::kept_word` meets its contract. Assumes nothing.
use Rattle.rules.specs.Calls.{kept}
use mathlib.Core.Path.{refl}
use Rattle.requests.proofs.kept_word.Goals as goal

pub returns-then-side-bears_word-clause-value : goal.returns-then-side-bears_word-clause-value
unfolding kept
returns-then-side-bears_word-clause-value c h k e d w = rw (← e, ← d, ← c.bears_word.ensures, c.if-side-bears_word.true) w

pub returns-else-side-bears_word-clause-value : goal.returns-else-side-bears_word-clause-value
unfolding kept
returns-else-side-bears_word-clause-value c h k e d w = rw (← e, ← d, ← c.bears_word.ensures, c.if-side-bears_word.false) refl
