-- The numbers of the refusals: document 01, "Starting" and "Refusals of a running card"; requests [1], [3] and [4] of document 02; 60 is the
-- C interface's. Assumes nothing.
use Rattle.std.specs.Prelude.{ℕ, Result, Ok, Err}
use Rattle.model.specs.declared.refusal.Refusal.{Refusal}
use Rattle.model.specs.declared.refusal.Refusal.TheVariants.{NotSound, Event, ConfigAccess, BarAccess, MemorySpace, Room, PinInForce}
use Rattle.model.specs.declared.refusal.Refusal.TheVariants.{Header, List, Twice, Structure, Region, Events, Requester, Buffers, Mark, Version, Image, Log, PortPacket, Lengths}

abbrev pub number_of : Refusal → ℕ
number_of NotSound = 1
number_of Event = 2
number_of ConfigAccess = 3
number_of BarAccess = 4
number_of MemorySpace = 5
number_of Room = 6
number_of PinInForce = 7
number_of Header = 10
number_of List = 11
number_of Twice = 12
number_of Structure = 13
number_of Region = 14
number_of Events = 15
number_of Requester = 16
number_of Buffers = 17
number_of Mark = 20
number_of Version = 21
number_of Image = 22
number_of Log = 30
number_of PortPacket = 50
number_of Lengths = 60

-- the number of what may be refused, 0 where it is not
abbrev pub refusal_in : {T : Type 0} → Result T Refusal → ℕ
refusal_in (Ok x) = 0
refusal_in (Err why) = number_of why
