-- The kind of a hub as the code has it, by name: one of the seven, or that a word names none.
-- Not here: the kinds and their numbers (Table.antt).
use Rattle.std.specs.Prelude.{None, Option, Some}
use Rattle.rules.specs.Table.{Board, Event, Fifo, Kind, Memory, NoKind, Port, Resource, Semaphore}
use Rattle.rules.specs.declared.kinds.Kind.TheVariants.{Board as ABoard, Event as AnEvent, Fifo as AFifo, Memory as AMemory, Port as APort, Resource as AResource, Semaphore as ASemaphore}
use Rattle.rules.specs.declared.kinds.Kind.{Kind as KindByName}

abbrev pub named : Option KindByName → Kind
named None = NoKind
named (Some AnEvent) = Event
named (Some ASemaphore) = Semaphore
named (Some APort) = Port
named (Some AFifo) = Fifo
named (Some AResource) = Resource
named (Some ABoard) = Board
named (Some AMemory) = Memory
