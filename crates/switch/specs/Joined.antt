-- The eight by four levels of the ports' wires, mapped and joined into four upstream wires. Assumes nothing.
use Rattle.std.specs.Prelude.{Bool, List, [], map, ℕ, get_or}
use Rattle.words.specs.Lists.{count, any}
use Rattle.switch.specs.declared.Switch.{Switch}
use Rattle.switch.specs.Switches.{wires_of, wire_of, drives, upstream}

-- the wires of each port, by card pins
unfoldable pub levels_of : Switch → List (List Bool)
levels_of s = map (wires_of s) (count 0 8)

-- the wires of port k by upstream pins
unfoldable pub turned_by : (k : ℕ) → List Bool → List Bool
turned_by k wires = map (drives k wires) (count 1 4)

-- the wires of each port, by upstream pins
unfoldable pub mapped_of : List (List Bool) → List (List Bool)
mapped_of l = map (λ k. turned_by k (get_or l k [])) (count 0 8)

-- upstream pin q is active in some row
unfoldable pub active_in : List (List Bool) → (q : ℕ) → Bool
active_in m q = any (λ k. wire_of (get_or m k []) q) (count 0 8)

unfoldable pub joined_of : List (List Bool) → List Bool
joined_of m = map (active_in m) (count 1 4)

-- the four upstream wires of a switch
unfoldable pub upstream_of : Switch → List Bool
upstream_of s = map (upstream s) (count 1 4)
