-- Request [4]: what a switch with requester ID 0107h sends upstream, call by call from a fresh switch. Assumes nothing.
use Rattle.std.specs.Prelude.{List, [], ◌∷◌, ◌++◌, replicate}
use Rattle.switch.specs.Calls.{pass, down}
use Rattle.switch.specs.Examples.Trials.{Step, wire_packet, short_message, long_message, wire_from, goes_down, sent}

-- two cards with pin 1 on ports 0 and 4 share INTA: it stays active while one of them drives it
abbrev pub shared_wire : List Step
shared_wire = wire_from 0 0x20 (sent 0x20) ∷ wire_from 4 0x20 [] ∷ wire_from 0 0x24 [] ∷ wire_from 4 0x24 (sent 0x24) ∷ []

-- on ports 0 and 1 they do not, and of pin 4 at port 1 the card's INTD is the host's INTA
abbrev pub turned_wires : List Step
turned_wires =
    wire_from 0 0x20 (sent 0x20) ∷ wire_from 1 0x20 (sent 0x21) ∷ wire_from 1 0x23 [] ∷ wire_from 0 0x24 [] ∷ wire_from 1 0x27 (sent 0x24)
    ∷ wire_from 1 0x24 (sent 0x25) ∷ wire_from 7 0x20 (sent 0x23) ∷ wire_from 7 0x21 (sent 0x20) ∷ []

-- a repeated Assert or Deassert changes nothing, also the first Deassert of a fresh switch
abbrev pub repeated : List Step
repeated =
    wire_from 2 0x24 [] ∷ wire_from 2 0x20 (sent 0x22) ∷ wire_from 2 0x20 [] ∷ wire_from 2 0x24 (sent 0x26) ∷ wire_from 2 0x24 [] ∷ []

-- a port going down drops its wires, changes sent in upstream pin order: all four of port 1; then nothing; it takes packets again at once
abbrev pub down_order : List Step
down_order =
    wire_from 1 0x20 (sent 0x21) ∷ wire_from 1 0x21 (sent 0x22) ∷ wire_from 1 0x22 (sent 0x23) ∷ wire_from 1 0x23 (sent 0x20)
    ∷ goes_down 1 (sent 0x24 ++ sent 0x25 ++ sent 0x26 ++ sent 0x27) ∷ goes_down 1 [] ∷ wire_from 1 0x20 (sent 0x21) ∷ []

-- a port going down leaves what another port drives, and another port's wires
abbrev pub down_shared : List Step
down_shared =
    wire_from 0 0x20 (sent 0x20) ∷ wire_from 0 0x21 (sent 0x21) ∷ wire_from 4 0x20 [] ∷ goes_down 0 (sent 0x25) ∷ wire_from 4 0x24 (sent 0x24) ∷ []

-- 64 bytes are the most that a going down sends; with 63 it is refused, and nothing changes
abbrev pub down_room : List Step
down_room =
    wire_from 0 0x20 (sent 0x20) ∷ wire_from 0 0x21 (sent 0x21) ∷ wire_from 0 0x22 (sent 0x22) ∷ wire_from 0 0x23 (sent 0x23)
    ∷ (down 0 (replicate 63 0), 6, []) ∷ (down 8 (replicate 64 0), 50, []) ∷ wire_from 0 0x20 []
    ∷ (down 0 (replicate 64 0), 0, sent 0x24 ++ sent 0x25 ++ sent 0x26 ++ sent 0x27) ∷ []

-- message writes pass unchanged
abbrev pub messages_pass : List Step
messages_pass =
    (pass 3 (short_message 2 0 0) (replicate 16 0), 0, short_message 2 0 0) ∷ (pass 3 (long_message 2 8 1 4) (replicate 20 0), 0, long_message 2 8 1 4) ∷ []

-- a refused packet changes nothing: the wire of a refused Assert is not active
abbrev pub refused_packets : List Step
refused_packets =
    (pass 0 (wire_packet 2 0 0x20) (replicate 15 0), 6, []) ∷ (pass 0 (wire_packet 2 8 0x20) (replicate 64 0), 50, [])
    ∷ (pass 8 (wire_packet 2 0 0x20) (replicate 64 0), 50, []) ∷ wire_from 0 0x24 [] ∷ wire_from 0 0x20 (sent 0x20) ∷ []

abbrev pub upstream : List (List Step)
upstream = shared_wire ∷ turned_wires ∷ repeated ∷ down_order ∷ down_shared ∷ down_room ∷ messages_pass ∷ refused_packets ∷ []
