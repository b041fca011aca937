-- Document 02, request [4]: the wires of a switch. Port k, 0 to 7, keeps the wires of its card's pins 1 to 4. Assumes nothing.
use Rattle.std.specs.Prelude.{Bool, false, ◌&&◌, List, ℕ, ◌+◌, ◌-◌, ◌%◌, eqb, set, replicate, get_or}
use Rattle.words.specs.Lists.{count, any}
use Rattle.switch.specs.declared.Port.{Port}
use Rattle.switch.specs.declared.Switch.{Switch}

abbrev pub port_of : List Bool → Port
port_of wires = record { wires = wires }

abbrev pub switch_of : ℕ → List Port → Switch
switch_of requester ports = record { requester = requester; ports = ports }

-- no wire of the port is active
abbrev pub idle : Port
idle = port_of (replicate 4 false)

-- a fresh switch: no wire of any port is active
unfoldable pub fresh : (requester : ℕ) → Switch
fresh requester = switch_of requester (replicate 8 idle)

-- the wires of port k
abbrev pub wires_of : Switch → ℕ → List Bool
wires_of s k = (get_or s.ports k idle).wires

-- the wire of card pin p among a port's
abbrev pub wire_of : List Bool → ℕ → Bool
wire_of wires p = get_or wires (p - 1) false

-- the wire of card pin p at port k
unfoldable pub level : Switch → (k p : ℕ) → Bool
level s k p = wire_of (wires_of s k) p

-- the same switch with that wire at another level
unfoldable pub with_level : Switch → (k p : ℕ) → Bool → Switch
with_level s k p active = switch_of s.requester (set s.ports k (port_of (set (wires_of s k) (p - 1) active)))

-- a port going down drops its wires
unfoldable pub without_port : Switch → (k : ℕ) → Switch
without_port s k = switch_of s.requester (set s.ports k idle)

-- "card pin p (1 to 4) becomes upstream pin ((k + p - 1) mod 4) + 1"
unfoldable pub upstream_pin : (k p : ℕ) → ℕ
upstream_pin k p = (k + p - 1) % 4 + 1

-- port k with these wires drives upstream pin q
unfoldable pub drives : (k : ℕ) → List Bool → (q : ℕ) → Bool
drives k wires q = any (λ p. eqb (upstream_pin k p) q && wire_of wires p) (count 1 4)

-- "The upstream wire is active while any port's mapped wire is"
unfoldable pub upstream : Switch → (q : ℕ) → Bool
upstream s q = any (λ k. drives k (wires_of s k) q) (count 0 8)
