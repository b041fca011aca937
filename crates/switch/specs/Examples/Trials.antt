-- What the worked examples of a switch are made of: packets byte by byte, and calls with what they give. Assumes nothing.
use Rattle.std.specs.Prelude.{Bool, true, ◌&&◌, List, [], ◌∷◌, ℕ, eqb, take, replicate}
use Rattle.words.specs.Lists.{same}
use Rattle.model.specs.Answers.{refusal_of}
use Rattle.switch.specs.declared.Switch.{Switch}
use Rattle.switch.specs.Switches.{fresh}
use Rattle.switch.specs.Calls.{SwitchCall, pass, down, Switched, switch_step}

-- ---- packets: the requester ID is two bytes, the high one first

-- Assert_INTA to Assert_INTD have codes 20h to 23h, Deassert_INTA to Deassert_INTD 24h to 27h
abbrev pub wire_packet : (high low code : ℕ) → List ℕ
wire_packet high low code = 0x34 ∷ 0 ∷ 0 ∷ 0 ∷ high ∷ low ∷ 0 ∷ code ∷ replicate 8 0

-- data 31h to address FEE01000h, whose lowest byte is given
abbrev pub short_message : (high low lowest : ℕ) → List ℕ
short_message high low lowest = 0x40 ∷ 0 ∷ 0 ∷ 1 ∷ high ∷ low ∷ 0 ∷ 0x0f ∷ 0xfe ∷ 0xe0 ∷ 0x10 ∷ lowest ∷ 0x31 ∷ 0 ∷ 0 ∷ 0 ∷ []

-- the same with an upper address
abbrev pub long_message : (high low upper lowest : ℕ) → List ℕ
long_message high low upper lowest = 0x60 ∷ 0 ∷ 0 ∷ 1 ∷ high ∷ low ∷ 0 ∷ 0x0f ∷ 0 ∷ 0 ∷ 0 ∷ upper ∷ 0xfe ∷ 0xe0 ∷ 0x10 ∷ lowest ∷ 0x31 ∷ 0 ∷ 0 ∷ 0 ∷ []

-- ---- calls

-- what is called, the number of its refusal (0: accepted) and the bytes that it sends
abbrev pub Step : Type 0
Step = SwitchCall × ℕ × List ℕ

-- a wire packet of a card, device 0 on bus 2, from a port, with an output of 64 bytes
abbrev pub wire_from : (port code : ℕ) → (sent : List ℕ) → Step
wire_from port code sent = (pass port (wire_packet 2 0 code) (replicate 64 0xee), 0, sent)

abbrev pub goes_down : (port : ℕ) → (sent : List ℕ) → Step
goes_down port sent = (down port (replicate 64 0xee), 0, sent)

-- a wire packet of the switch, which has requester ID 0107h: its function part is 0
abbrev pub sent : (code : ℕ) → List ℕ
sent code = wire_packet 1 0 code

abbrev gives_from : Switch → List Step → Bool
gives_from s [] = true
gives_from s (x ∷ l) =
    let o : Switched = switch_step s x.0 in
    eqb (refusal_of o.answer) x.1 && same (take o.count o.output) x.2 && gives_from o.switch l

-- the calls give this from a fresh switch on
abbrev pub gives : List Step → Bool
gives l = gives_from (fresh 0x0107) l

abbrev pub all_give : List (List Step) → Bool
all_give [] = true
all_give (x ∷ l) = gives x && all_give l
