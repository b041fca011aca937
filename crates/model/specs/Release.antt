-- The wire as it should be, an event, and what is sent after every accepted write, line call or event. Assumes nothing.
use Rattle.std.specs.Prelude.{Bool, true, false, not, cond, ◌&&◌, List, [], ◌∷◌, ◌++◌, ℕ, eqb}
use Rattle.std.specs.Bool.{beq}
use Rattle.std.proofs.Math.Option.{Option, none, some}
use Rattle.words.specs.Lists.{join}
use Rattle.words.specs.Bits.{clear_bit, set_bit}
use Rattle.words.specs.Bytes.{byte}
use Rattle.model.specs.declared.Shape.{Shape}
use Rattle.model.specs.declared.Mode.{Mode}
use Rattle.model.specs.declared.Mode.TheVariants.{Pin, Msi, Msix}
use Rattle.model.specs.declared.Answer.{Answer}
use Rattle.model.specs.declared.Answer.TheVariants.{Sent, Held, Merged, Lost}
use Rattle.model.specs.World.{World, Endpoint, Registers, registers}
use Rattle.model.specs.Vectors.{command_bit, mode_of, owed, is_open, waits, change_waiting, vector_of}
use Rattle.model.specs.Packets.{message_of, wire_message}

-- ---- the wire

-- byte 3Dh: 0 for none
unfoldable pub pin_number : Registers → ℕ
pin_number r = byte r.config 0x3d

unfoldable pub is_pin : Mode → Bool
is_pin Pin = true
is_pin Msi = false
is_pin Msix = false

-- the line is high, the pin is in force, pin number is not 0 and Command bit 10 is 0
unfoldable pub level_due : (line : Bool) → Mode → (pin : ℕ) (disabled : Bool) → Bool
level_due line m pin disabled = line && is_pin m && not (eqb pin 0) && not disabled

-- by the registers
unfoldable pub wire_due : Shape → (line : Bool) → Registers → Bool
wire_due s line r = level_due line (mode_of s r) (pin_number r) (command_bit r 10)

-- the packet of a change of level
unfoldable pub wire_change : (requester : ℕ) → Registers → (before after : Bool) → List ℕ
wire_change requester r before after = cond (beq before after) [] (wire_message requester (pin_number r) after)

-- ---- each open waiting vector sends one packet and clears its bit

unfoldable pub clear_all : Mode → Endpoint → List ℕ → Endpoint
clear_all m u [] = u
clear_all m u (v ∷ l) = clear_all m (change_waiting clear_bit m u v) l

-- of the mechanism m: the function with the waiting bits of its owed vectors cleared, and their messages, the lowest-numbered vector first
unfoldable pub swept_for : Mode → Shape → Endpoint → Endpoint
swept_for m s u = clear_all m u (owed m s u)

unfoldable pub bytes_for : Mode → Shape → Endpoint → List ℕ
bytes_for m s u = join (message_of m s u.function.requester (registers u)) (owed m s u)

-- of the mechanism in force
unfoldable pub owed_now : Shape → Endpoint → List ℕ
owed_now s u = owed (mode_of s (registers u)) s u

unfoldable pub swept : Shape → Endpoint → Endpoint
swept s u = swept_for (mode_of s (registers u)) s u

unfoldable pub sweep_bytes : Shape → Endpoint → List ℕ
sweep_bytes s u = bytes_for (mode_of s (registers u)) s u

-- ---- after an accepted write, line call or event: first the wire, then the vectors

abbrev pub wire_due_of : Shape → Endpoint → Bool
wire_due_of s u = wire_due s u.function.line (registers u)

abbrev pub settled : Shape → Endpoint → World
settled s u = record { endpoint = swept s u; wire = wire_due_of s u }

unfoldable pub settle_bytes : Shape → (wire : Bool) → Endpoint → List ℕ
settle_bytes s wire u = wire_change u.function.requester (registers u) wire (wire_due_of s u) ++ sweep_bytes s u

-- ---- an event, before what follows every event: the function, the event's own packet, and the answer

pub record Raised : Type 0 where
  pub endpoint : Endpoint
  pub bytes : List ℕ
  pub answer : Answer

-- for vector v of the mechanism in force. Open, one packet: sent; shut and already waiting: merged; shut, the waiting bit goes from 0 to 1: held
unfoldable pub raise_vector : Mode → Shape → Endpoint → ℕ → Raised
raise_vector m s u v =
    cond (is_open m s (registers u) v)
    (record { endpoint = u; bytes = message_of m s u.function.requester (registers u) v; answer = Sent })
    (cond (waits m u v)
    (record { endpoint = u; bytes = []; answer = Merged })
    (record { endpoint = change_waiting set_bit m u v; bytes = []; answer = Held }))

-- for the vector that it means. None, with the pin in force: lost, nothing kept
unfoldable pub raise : Mode → Shape → Endpoint → Option ℕ → Raised
raise m s u none = record { endpoint = u; bytes = []; answer = Lost }
raise m s u (some v) = raise_vector m s u v

unfoldable pub raised_by : Shape → Endpoint → ℕ → Raised
raised_by s u e =
    let m : Mode = mode_of s (registers u) in
    raise m s u (vector_of m s (registers u) e)
