-- The service of a call as the code has it, by name: one of the eleven, or that a number names none.
-- Not here: the services and their numbers (Calls.antt).
use Rattle.std.specs.Prelude.{None, Option, Some}
use Rattle.rules.specs.Calls.{AddHub, AddTask, Blank, HubRequest, Resume, Service, Sleep, Start, Stop, Suspend, Tick, Unknown, Yield}
use Rattle.rules.specs.declared.services.Service.TheVariants.{AddHub as AnAddHub, AddTask as AnAddTask, Blank as ABlank, HubRequest as AHubRequest, Resume as AResume, Sleep as ASleep, Start as AStart, Stop as AStop, Suspend as ASuspend, Tick as ATick, Yield as AYield}
use Rattle.rules.specs.declared.services.Service.{Service as ServiceByName}

abbrev pub service_named : Option ServiceByName → Service
service_named None = Unknown
service_named (Some ABlank) = Blank
service_named (Some AHubRequest) = HubRequest
service_named (Some AStart) = Start
service_named (Some AStop) = Stop
service_named (Some ASuspend) = Suspend
service_named (Some AResume) = Resume
service_named (Some AYield) = Yield
service_named (Some ASleep) = Sleep
service_named (Some ATick) = Tick
service_named (Some AnAddTask) = AddTask
service_named (Some AnAddHub) = AddHub
