-- The mode of a hub request as the code has it, by name: one of the three, or that a number names none.
-- Not here: the modes and their numbers (Refusals.antt).
use Rattle.std.specs.Prelude.{None, Option, Some}
use Rattle.rules.specs.Refusals.{Mode, NW, NoMode, W, WT}
use Rattle.rules.specs.declared.modes.Mode.TheVariants.{Nw as ByNW, W as ByW, Wt as ByWT}
use Rattle.rules.specs.declared.modes.Mode.{Mode as ModeByName}

abbrev pub mode_named : Option ModeByName → Mode
mode_named None = NoMode
mode_named (Some ByW) = W
mode_named (Some ByNW) = NW
mode_named (Some ByWT) = WT
