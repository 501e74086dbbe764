-- A mode's number: a comparison of modes by name is one of their numbers.
-- Not here: a number that names none (Numbers.antt). Assumes nothing.
use Prim.Native.Nat.{suc, zero, ℕ}
use Rattle.rules.specs.Modes.{mode_named}
use Rattle.rules.specs.Refusals.{mode_of}
use Rattle.rules.specs.contracts.modes.Mode.{the_type}
use Rattle.rules.specs.declared.modes.Mode.TheVariants.{Nw as ByNW, W as ByW, Wt as ByWT}
use Rattle.rules.specs.declared.modes.Mode.{Mode as ModeByName}
use Rattle.std.specs.Option.{option_eq}
use Rattle.std.specs.Prelude.{None, Option, Some}
use borrow.Author.Tests.{ne_eqb}
use denote.Enum.Bare.{sameb}
use lib.Dec.{eqb}
use mathlib.Core.Path.{◌≡◌, refl, sym}
use native.Mathlib.Omega.{arith}

-- what `Mode::of(n) == Some(Mode::Nw)` tests
pub same_nw : (o : Option ModeByName) (n : ℕ) → mode_named o ≡ mode_of n → option_eq (sameb the_type) o (Some ByNW) ≡ eqb n 2
unfolding mode_of
same_nw None zero e = refl
same_nw None (suc zero) e = cc
same_nw None (suc (suc zero)) e = cc
same_nw None (suc (suc (suc zero))) e = cc
same_nw None (suc (suc (suc (suc n)))) e = sym (ne_eqb (suc (suc (suc (suc n)))) 2 (λ z. omega arith))
same_nw (Some ByW) zero e = cc
same_nw (Some ByW) (suc zero) e = refl
same_nw (Some ByW) (suc (suc zero)) e = cc
same_nw (Some ByW) (suc (suc (suc zero))) e = cc
same_nw (Some ByW) (suc (suc (suc (suc n)))) e = cc
same_nw (Some ByNW) zero e = cc
same_nw (Some ByNW) (suc zero) e = cc
same_nw (Some ByNW) (suc (suc zero)) e = refl
same_nw (Some ByNW) (suc (suc (suc zero))) e = cc
same_nw (Some ByNW) (suc (suc (suc (suc n)))) e = cc
same_nw (Some ByWT) zero e = cc
same_nw (Some ByWT) (suc zero) e = cc
same_nw (Some ByWT) (suc (suc zero)) e = cc
same_nw (Some ByWT) (suc (suc (suc zero))) e = refl
same_nw (Some ByWT) (suc (suc (suc (suc n)))) e = cc
