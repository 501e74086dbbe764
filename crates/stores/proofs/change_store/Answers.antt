-- `stores::change_store` meets its contract. Assumes nothing.
use Rattle.hubtable.specs.Says.{StoreBelow, store_after}
use Rattle.stores.proofs.Stores.{after_told, as_held, below_told, fits_told, taken, taken_grown, taken_many, taken-used}
use Rattle.rules.specs.Table.{hub}
use Rattle.stores.specs.Fits.{StoreFits}
use borrow.Author.Rules.{rules}
use lib.ListN.{length}
use mathlib.Core.Path.{◌∙◌, ◌≡◌}
use native.Mathlib.Omega.{arith}
use Rattle.stores.proofs.change_store.Goals as goal

pub append_word-requires : goal.append_word-requires
unfolding StoreBelow
append_word-requires c = record { table = search rules; h_bound = search rules; w_bound = below_told c.in-Append.is _ c.requires.store_below }

pub append_word-requires-in-TakeAppend : goal.append_word-requires-in-TakeAppend
unfolding StoreBelow
append_word-requires-in-TakeAppend c = record { table = search rules; h_bound = search rules; w_bound = below_told c.in-TakeAppend.is _ c.requires.store_below }

pub returns-in-Keep : goal.returns-in-Keep
unfolding store_after
returns-in-Keep c = λ L s y used many fits e. e ∙ as_held L s _ ∙ after_told c.in-Keep.is L s _

pub returns-in-Append : goal.returns-in-Append
unfolding StoreFits store_after
returns-in-Append c =
    λ L s y used many fits e.
    let told = c.in-Append.is in
    let f = fits_told told _ fits in
    c.append_word.ensures L s y used many (omega (arith, many, f)) e ∙ after_told told L s _

pub returns-in-Take : goal.returns-in-Take
unfolding StoreFits store_after
returns-in-Take c =
    λ L s y used many fits e.
    let told = c.in-Take.is in
    c.take_oldest.ensures L s y used (fits_told told _ fits) e ∙ after_told told L s _

pub returns-in-TakeAppend : goal.returns-in-TakeAppend
unfolding StoreFits store_after
returns-in-TakeAppend c =
    λ L s y used many fits e.
    let told = c.in-TakeAppend.is in
    let h = c.args.h.0 in
    let low = c.requires.h_bound in
    let f = fits_told told _ fits in
    let gone = c.take_oldest-in-TakeAppend.ensures L s y used f e in
    let left : c.saturating_sub.result ≡ length (hub (taken s h low used) h).held = omega (arith, c.saturating_sub.ensures, taken_many s h low used _ many) in
    c.append_word-in-TakeAppend.ensures L (taken s h low used) y (taken-used s h low used) left (omega (arith, many, f, c.saturating_sub.ensures)) gone
    ∙ taken_grown s h low used L _ ∙ after_told told L s h

pub returns-in-Out : goal.returns-in-Out
unfolding StoreFits store_after
returns-in-Out c =
    λ L s y used many fits e.
    let told = c.in-Out.is in
    c.set_mark.ensures L s y used many (omega (arith, many, fits_told told _ fits)) e ∙ after_told told L s _

pub returns-in-Back : goal.returns-in-Back
unfolding StoreFits store_after
returns-in-Back c =
    λ L s y used many fits e.
    let told = c.in-Back.is in
    c.set_mark-in-Back.ensures L s y used many (omega (arith, many, fits_told told _ fits)) e ∙ after_told told L s _
