-- Refusals by number. Assumes nothing.
use mathlib.Core.Path.{◌≡◌}
use native.Mathlib.Omega.{arith}
use Rattle.model.specs.declared.refusal.Refusal.{Refusal}
use Rattle.model.specs.declared.refusal.Refusal.TheVariants.{NotSound, Event, ConfigAccess, BarAccess, MemorySpace, Room, PinInForce}
use Rattle.model.specs.declared.refusal.Refusal.TheVariants.{Header, List, Twice, Structure, Region, Events, Requester, Buffers, Mark, Version, Image, Log, PortPacket, Lengths}
use Rattle.model.specs.Refusals.{number_of}

-- no refusal has the number of an accepted call
pub not_zero : (why : Refusal) → number_of why ≡ 0 → ⊥
not_zero NotSound e = omega (arith, e)
not_zero Event e = omega (arith, e)
not_zero ConfigAccess e = omega (arith, e)
not_zero BarAccess e = omega (arith, e)
not_zero MemorySpace e = omega (arith, e)
not_zero Room e = omega (arith, e)
not_zero PinInForce e = omega (arith, e)
not_zero Header e = omega (arith, e)
not_zero List e = omega (arith, e)
not_zero Twice e = omega (arith, e)
not_zero Structure e = omega (arith, e)
not_zero Region e = omega (arith, e)
not_zero Events e = omega (arith, e)
not_zero Requester e = omega (arith, e)
not_zero Buffers e = omega (arith, e)
not_zero Mark e = omega (arith, e)
not_zero Version e = omega (arith, e)
not_zero Image e = omega (arith, e)
not_zero Log e = omega (arith, e)
not_zero PortPacket e = omega (arith, e)
not_zero Lengths e = omega (arith, e)
