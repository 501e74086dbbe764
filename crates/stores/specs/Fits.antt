-- When a store of 8 messages can take what a verdict does to what it holds.
use Rattle.std.specs.Prelude.{◌<◌, ◌≤◌, ℕ, length, List}
use Rattle.hubtable.specs.declared.Store.TheVariants.{Append, Back, Keep, Out, Take, TakeAppend}
use Rattle.hubtable.specs.declared.Store.{Store}

unfoldable pub StoreFits : Store → List ℕ → Type 0
StoreFits Keep held = Unit {0}
StoreFits (Append w) held = length held < 8
StoreFits Take held = length held ≤ 8
StoreFits (TakeAppend w) held = length held ≤ 8
StoreFits (Out b) held = length held ≤ 8
StoreFits (Back b) held = length held ≤ 8
