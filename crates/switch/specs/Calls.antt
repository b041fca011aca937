-- Document 02, request [4]: the calls of a switch, a packet from a port and a port going down, each as one total function. Assumes nothing.
use Rattle.std.specs.Prelude.{Bool, true, not, cond, ◌||◌, List, [], ◌∷◌, ◌++◌, ℕ, ◌*◌, ◌/◌, ◌%◌, ltb, eqb, length, Option, Some, None}
use Rattle.std.specs.Bool.{beq}
use Rattle.words.specs.Lists.{join, count, first_of}
use Rattle.words.specs.Writers.{over}
use Rattle.model.specs.declared.Answer.{Answer}
use Rattle.model.specs.declared.Answer.TheVariants.{Refused, Done}
use Rattle.model.specs.Packets.{wire_message}
use Rattle.tlp.specs.declared.decode.Packet.{Packet}
use Rattle.tlp.specs.declared.decode.Packet.TheVariants.{Message, Wire}
use Rattle.tlp.specs.Decoded.{decoded}
use Rattle.switch.specs.declared.Switch.{Switch}
use Rattle.switch.specs.Switches.{with_level, without_port, upstream}

-- a call with its arguments; `out` is the output lent to it
pub data SwitchCall : Type 0 where
  pass : (port : ℕ) (bytes out : List ℕ) → SwitchCall
  down : (port : ℕ) (out : List ℕ) → SwitchCall

-- what a call gives: `count` bytes of the output are new
pub record Switched : Type 0 where
  pub switch : Switch
  pub answer : Answer
  pub count : ℕ
  pub output : List ℕ

-- everything unchanged, nothing sent
abbrev pub refused : Switch → ℕ → List ℕ → Switched
refused s n out = record { switch = s; answer = Refused n; count = 0; output = out }

-- the bytes stand at the start of the output, and those behind them keep their contents
abbrev pub accepted : Switch → (bytes out : List ℕ) → Switched
accepted s bytes out = record { switch = s; answer = Done; count = length bytes; output = over bytes out }

-- ---- 50

-- the device number of a requester ID: bits 7:3
unfoldable pub device_of : (requester : ℕ) → ℕ
device_of requester = requester / 8 % 32

-- no single packet in document 01's layouts with address bits 1:0 zero, or a wire packet with a device number other than 0
unfoldable pub bad_packet : Option Packet → Bool
bad_packet (Some (Message m)) = not (eqb (m.address % 4) 0)
bad_packet (Some (Wire w)) = not (eqb (device_of w.requester) 0)
bad_packet None = true

-- or a port above 7
unfoldable pub bad_call : SwitchCall → Bool
bad_call (pass k bytes out) = ltb 7 k || bad_packet (decoded bytes)
bad_call (down k out) = ltb 7 k

-- ---- the switch after an accepted call

-- a message leaves the wires; Assert and Deassert give the wire its level
unfoldable pub taking : Switch → (k : ℕ) → Option Packet → Switch
taking s k (Some (Message m)) = s
taking s k (Some (Wire w)) = with_level s k w.pin w.active
taking s k None = s

unfoldable pub next_switch : Switch → SwitchCall → Switch
next_switch s (pass k bytes out) = taking s k (decoded bytes)
next_switch s (down k out) = without_port s k

-- ---- the bytes of an accepted call

-- the requester ID of the switch with function part 0
unfoldable pub own_requester : (requester : ℕ) → ℕ
own_requester requester = requester / 8 * 8

-- a wire of upstream pin q that was at one level and is at another sends a packet, and else nothing
unfoldable pub change_of : (requester : ℕ) → (before after : ℕ → Bool) → (q : ℕ) → List ℕ
change_of requester before after q = cond (beq (before q) (after q)) [] (wire_message (own_requester requester) q (after q))

-- in upstream pin order
unfoldable pub changes : (requester : ℕ) → (before after : ℕ → Bool) → List ℕ
changes requester before after = join (change_of requester before after) (count 1 4)

-- message writes pass unchanged
unfoldable pub forwarded : Option Packet → List ℕ → List ℕ
forwarded (Some (Message m)) bytes = bytes
forwarded (Some (Wire w)) bytes = []
forwarded None bytes = []

unfoldable pub forwarded_by : SwitchCall → List ℕ
forwarded_by (pass k bytes out) = forwarded (decoded bytes) bytes
forwarded_by (down k out) = []

unfoldable pub sends : Switch → SwitchCall → List ℕ
sends s c = forwarded_by c ++ changes s.requester (upstream s) (upstream (next_switch s c))

-- ---- every call

abbrev pub output_of : SwitchCall → List ℕ
output_of (pass k bytes out) = out
output_of (down k out) = out

-- "Refusal 50 is for ..; then 6"
unfoldable pub refusal : Switch → SwitchCall → ℕ
refusal s c = first_of ((50, bad_call c) ∷ (6, ltb (length (output_of c)) (length (sends s c))) ∷ [])

unfoldable pub switch_step : Switch → SwitchCall → Switched
switch_step s c = cond (eqb (refusal s c) 0) (accepted (next_switch s c) (sends s c) (output_of c)) (refused s (refusal s c) (output_of c))
