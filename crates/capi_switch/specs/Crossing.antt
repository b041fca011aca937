-- Each call of a switch as it crosses the C interface: a switch is 10 bytes. Assumes nothing.
use Rattle.std.specs.Prelude.{Bool, cond, ◌&&◌, List, [], ◌++◌, map, ℕ, ◌+◌, ◌*◌, ltb, eqb, length}
use Rattle.words.specs.Lists.{count, all}
use Rattle.words.specs.Bits.{bit, of_bool}
use Rattle.words.specs.Bytes.{byte, word16, bytes_of}
use Rattle.model.specs.Answers.{refusal_of}
use Rattle.switch.specs.declared.Switch.{Switch}
use Rattle.switch.specs.Switches.{port_of, switch_of, fresh, wires_of, wire_of}
use Rattle.switch.specs.Calls.{SwitchCall, output_of, Switched, switch_step}

-- ---- a switch as bytes: the requester ID, low byte first, then a byte for each port

-- bit p - 1 is the wire of card pin p
unfoldable pub port_byte : List Bool → ℕ
port_byte wires = of_bool (wire_of wires 1) + 2 * of_bool (wire_of wires 2) + 4 * of_bool (wire_of wires 3) + 8 * of_bool (wire_of wires 4)

unfoldable pub switch_bytes : Switch → List ℕ
switch_bytes s = bytes_of 2 s.requester ++ map (λ k. port_byte (wires_of s k)) (count 0 8)

unfoldable pub wires_in : ℕ → List Bool
wires_in b = map (bit b) (count 0 4)

unfoldable pub switch_in : List ℕ → Switch
switch_in bytes = switch_of (word16 bytes 0) (map (λ k. port_of (wires_in (byte bytes (2 + k)))) (count 0 8))

-- no port has more than four wires
unfoldable pub ports_clean : List ℕ → Bool
ports_clean bytes = all (λ k. ltb (byte bytes (2 + k)) 16) (count 0 8)

-- 10 bytes that a switch has
unfoldable pub is_switch : List ℕ → Bool
is_switch bytes = eqb (length bytes) 10 && ports_clean bytes

-- ---- what crosses

-- what a function hands back: the number that it returns, the later contents of switch and output, and the count that it sets
pub record Crossed : Type 0 where
  pub refusal : ℕ
  pub switch : List ℕ
  pub output : List ℕ
  pub count : ℕ

-- a function with no output or count has [] and 0 there
abbrev pub handed : (refusal : ℕ) (switch output : List ℕ) (count : ℕ) → Crossed
handed refusal switch output count = record { refusal = refusal; switch = switch; output = output; count = count }

-- the bytes of a switch over those of the switch before it, which stay beside a refusal
abbrev pub switch_over : (refusal : ℕ) → List ℕ → Switch → List ℕ
switch_over refusal bytes s = cond (eqb refusal 0) (switch_bytes s) bytes

-- an outcome with its switch as bytes and its answer as a number
abbrev pub back : List ℕ → Switched → Crossed
back bytes r = handed (refusal_of r.answer) (switch_over (refusal_of r.answer) bytes r.switch) r.output r.count

-- a packet or a going down: 60 where the bytes are no switch's, and nothing changes; else the call on the switch that they hold
unfoldable pub crossed : (bytes : List ℕ) → SwitchCall → Crossed
crossed bytes c = cond (is_switch bytes) (back bytes (switch_step (switch_in bytes) c)) (handed 60 bytes (output_of c) 0)

-- a start: 60 where there are not 10 bytes, or the requester ID has more than 16 bits; of what the bytes were it asks nothing
unfoldable pub started : (bytes : List ℕ) → (requester : ℕ) → Crossed
started bytes requester =
    cond (eqb (length bytes) 10 && ltb requester 65536) (handed 0 (switch_bytes (fresh requester)) [] 0) (handed 60 bytes [] 0)
