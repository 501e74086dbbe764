-- `hubtable::alone` meets its contract: what it makes says just that. Assumes nothing.
use Rattle.hubtable.specs.Says.{Below, StoreBelow, met_with, says}
use Rattle.records.specs.Records.{first}
use mathlib.Core.Path.{refl}
use native.Mathlib.Omega.{arith}
use Rattle.hubtable.proofs.alone.Goals as goal

pub returns : goal.returns
unfolding Below StoreBelow first met_with says
returns c = record { by_index = (λ held. refl); by_index_2 = λ b st w. (st, w, omega arith) }
