-- `inherit::is_asked` meets its contract: the kind and the list's first word. Assumes nothing.
use Rattle.inherit.proofs.Linking.{asked-words}
use Rattle.rules.proofs.KindNumbers.{same_kind}
use Rattle.rules.specs.declared.kinds.Kind.TheVariants.{Resource}
use mathlib.Core.Path.{◌∙◌, sym}
use Rattle.inherit.proofs.is_asked.Goals as goal

pub returns : goal.returns
returns c L s y x w u =
    let a = c.args in
    let kind = c.eq.ensures ∙ same_kind c.of.result Resource _ c.of.ensures in
    rw (kind, c.hubs_at.ensures, c.waits_at.ensures) (sym (asked-words L s y x a.h u a.t.now.words.now w))
