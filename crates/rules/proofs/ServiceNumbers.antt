-- A service's number: of a number that names a service the service tells the number, and a comparison of names is one of numbers.
-- Not here: a number that names none (Numbers.antt). Assumes nothing.
use Prim.Native.Nat.{suc, zero, ℕ}
use Rattle.rules.specs.Calls.{AddHub, AddTask, Blank, HubRequest, Resume, Service, Sleep, Start, Stop, Suspend, Tick, Unknown, Yield, service_of}
use Rattle.rules.specs.Services.{service_named}
use Rattle.rules.specs.contracts.services.Service.{the_type}
use Rattle.rules.specs.declared.services.Service.TheVariants.{AddHub as AnAddHub, AddTask as AnAddTask, Blank as ABlank, HubRequest as AHubRequest, Resume as AResume, Sleep as ASleep, Start as AStart, Stop as AStop, Suspend as ASuspend, Tick as ATick, Yield as AYield}
use Rattle.rules.specs.declared.services.Service.{Service as ServiceByName}
use Rattle.std.specs.Option.{option_eq}
use Rattle.std.specs.Prelude.{None, Option, Some}
use borrow.Author.Tests.{ne_eqb}
use denote.Enum.Bare.{sameb}
use denote.Enum.Declared.{tag_of}
use lib.Dec.{eqb}
use mathlib.Core.Path.{◌∙◌, ◌≡◌, ap, refl, sym}

-- of no service the first number past them
abbrev pub service_number : Service → ℕ
service_number Blank = 0
service_number HubRequest = 1
service_number Start = 2
service_number Stop = 3
service_number Suspend = 4
service_number Resume = 5
service_number Yield = 6
service_number Sleep = 7
service_number Tick = 8
service_number AddTask = 9
service_number AddHub = 10
service_number Unknown = 11

numbered : (n : ℕ) → (service_of n ≡ Unknown → ⊥) → n ≡ service_number (service_of n)
unfolding service_of
numbered zero some = refl
numbered (suc zero) some = refl
numbered (suc (suc zero)) some = refl
numbered (suc (suc (suc zero))) some = refl
numbered (suc (suc (suc (suc zero)))) some = refl
numbered (suc (suc (suc (suc (suc zero))))) some = refl
numbered (suc (suc (suc (suc (suc (suc zero)))))) some = refl
numbered (suc (suc (suc (suc (suc (suc (suc zero))))))) some = refl
numbered (suc (suc (suc (suc (suc (suc (suc (suc zero)))))))) some = refl
numbered (suc (suc (suc (suc (suc (suc (suc (suc (suc zero))))))))) some = refl
numbered (suc (suc (suc (suc (suc (suc (suc (suc (suc (suc zero)))))))))) some = refl
numbered (suc (suc (suc (suc (suc (suc (suc (suc (suc (suc (suc n))))))))))) some = absurd (some refl)

-- the number n names service v
pub service_number_of : (v : Service) (n : ℕ) → v ≡ service_of n → (v ≡ Unknown → ⊥) → n ≡ service_number v
service_number_of v n e some = rw e (numbered n (λ z. some (e ∙ z)))

-- ---- the names in the code, in the order of the numbers

tag_number : (j : ServiceByName) → service_number (service_named (Some j)) ≡ tag_of the_type j
tag_number ABlank = refl
tag_number AHubRequest = refl
tag_number AStart = refl
tag_number AStop = refl
tag_number ASuspend = refl
tag_number AResume = refl
tag_number AYield = refl
tag_number ASleep = refl
tag_number ATick = refl
tag_number AnAddTask = refl
tag_number AnAddHub = refl

names_itself : (j : ServiceByName) → service_of (service_number (service_named (Some j))) ≡ service_named (Some j)
unfolding service_of
names_itself ABlank = refl
names_itself AHubRequest = refl
names_itself AStart = refl
names_itself AStop = refl
names_itself ASuspend = refl
names_itself AResume = refl
names_itself AYield = refl
names_itself ASleep = refl
names_itself ATick = refl
names_itself AnAddTask = refl
names_itself AnAddHub = refl

pub some_service : (j : ServiceByName) → service_named (Some j) ≡ Unknown → ⊥
some_service ABlank e = cc
some_service AHubRequest e = cc
some_service AStart e = cc
some_service AStop e = cc
some_service ASuspend e = cc
some_service AResume e = cc
some_service AYield e = cc
some_service ASleep e = cc
some_service ATick e = cc
some_service AnAddTask e = cc
some_service AnAddHub e = cc

-- what `Service::of(n) == Some(k)` tests
pub same_service : (o : Option ServiceByName) (k : ServiceByName) (n : ℕ) → service_named o ≡ service_of n → option_eq (sameb the_type) o (Some k) ≡ eqb n (service_number (service_named (Some k)))
same_service None k n e = sym (ne_eqb n _ (λ z. some_service k (sym (names_itself k) ∙ ap service_of (sym z) ∙ sym e)))
same_service (Some j) k n e =
    let is : n ≡ service_number (service_named (Some j)) = service_number_of (service_named (Some j)) n e (some_service j) in
    rw (is, tag_number j, tag_number k)
