-- `inherit::find_keys` meets its contract: own priorities where nobody is asked, else who is asked finds its own. Assumes nothing.
use Rattle.inherit.proofs.Sixteen.{keyed_own}
use mathlib.Core.Path.{◌∙◌, sym}
use Rattle.inherit.proofs.find_keys.Goals as goal

pub returns-then-nobody_asked : goal.returns-then-nobody_asked
returns-then-nobody_asked c =
    let nobody = c.nobody_asked in
    keyed_own _ _ _ c.own_keys.ensures (λ L s y x w. sym (nobody.ensures L s y x w) ∙ c.if-nobody_asked.true)
