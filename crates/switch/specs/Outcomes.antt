-- The code's outcome of a call, the definitions' outcome that it stands for, and the parts of a call. Assumes nothing.
use Rattle.std.specs.Prelude.{cond, List, ℕ, ◌%◌, ltb, eqb, length}
use Rattle.model.specs.declared.Answer.TheVariants.{Refused, Done}
use Rattle.tlp.specs.declared.decode.Level.{Level}
use Rattle.switch.specs.declared.Switch.{Switch}
use Rattle.switch.specs.declared.outcome.Outcome.{Outcome}
use Rattle.switch.specs.Switches.{with_level, upstream}
use Rattle.switch.specs.Calls.{Switched, refused, accepted, device_of, changes}

abbrev pub refused_with : Switch → ℕ → Outcome
refused_with s n = record { switch = s; answer = Refused n; count = 0 }

abbrev pub accepted_with : Switch → ℕ → Outcome
accepted_with s count = record { switch = s; answer = Done; count = count }

-- a result with the later contents of the output
abbrev pub after : Outcome → (output : List ℕ) → Switched
after r output = record { switch = r.switch; answer = r.answer; count = r.count; output = output }

-- 6 where the bytes are longer than the output; else accepted
unfoldable pub if_room : Switch → (next : Switch) → (bytes out : List ℕ) → Switched
if_room s next bytes out = cond (ltb (length out) (length bytes)) (refused s 6 out) (accepted next bytes out)

-- the wires become those of another switch
abbrev pub changed_to : Switch → (next : Switch) → (out : List ℕ) → Switched
changed_to s next out = if_room s next (changes s.requester (upstream s) (upstream next)) out

-- a message write from a port
unfoldable pub message_passed : Switch → (address : ℕ) → (bytes out : List ℕ) → Switched
message_passed s address bytes out = cond (eqb (address % 4) 0) (if_room s s bytes out) (refused s 50 out)

-- a wire packet from port k
unfoldable pub wire_taken : Switch → (k : ℕ) → Level → (out : List ℕ) → Switched
wire_taken s k w out = cond (eqb (device_of w.requester) 0) (changed_to s (with_level s k w.pin w.active) out) (refused s 50 out)
