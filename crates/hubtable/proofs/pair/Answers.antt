-- `hubtable::pair` meets its contract: what it makes says just that. Assumes nothing.
use Rattle.hubtable.specs.Says.{Below, StoreBelow, says}
use mathlib.Core.Path.{refl}
use Rattle.hubtable.proofs.pair.Goals as goal

pub returns : goal.returns
unfolding Below StoreBelow says
returns c = record { by_index = (λ held. refl); by_index_2 = λ b st w its. (st, w, its) }
