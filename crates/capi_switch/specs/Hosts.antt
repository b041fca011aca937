-- What a host holds of a switch between its calls, and lists of calls through the interface. Assumes nothing.
use Rattle.std.specs.Prelude.{Bool, cond, ℕ, ◌+◌, ◌-◌, eqb, take, drop}
use mathlib.Core.List.{List, [], ◌∷◌, ◌++◌, foldl}
use Rattle.words.specs.Bits.{bit}
use Rattle.words.specs.Bytes.{byte}
use Rattle.model.specs.declared.Answer.{Answer}
use Rattle.model.specs.declared.Answer.TheVariants.{Refused, Done}
use Rattle.switch.specs.Calls.{SwitchCall}
use Rattle.switch.specs.History.{SwitchPast}
use Rattle.capi_switch.specs.Crossing.{Crossed, crossed}

-- a call of a host: what is called, and how many of the bytes that it holds it lends as the switch. A host that lends another length gets its refusal
pub record Lent : Type 0 where
  pub switch : ℕ
  pub called : SwitchCall

abbrev pub made : List ℕ → Lent → Crossed
made held x = crossed (take x.switch held) x.called

-- the bytes after it; those that were not lent stay
abbrev pub left : List ℕ → Lent → Crossed → List ℕ
left held x r = r.switch ++ drop x.switch held

-- all that the history asks of an answer: whether it is a refusal
abbrev pub answer_of : Crossed → Answer
answer_of r = cond (eqb r.refusal 0) Done (Refused r.refusal)

-- the bytes that a host holds, the switch's first, and the past of its calls: what was called, what was returned, the bytes sent
pub record HostRun : Type 0 where
  pub held : List ℕ
  pub past : SwitchPast

unfoldable pub host_called : HostRun → Lent → HostRun
host_called h x =
    let r : Crossed = made h.held x in
    record {
      held = left h.held x r;
      past = record { call = x.called; answer = answer_of r; bytes = take r.count r.output } ∷ h.past;
    }

unfoldable pub host_run : List ℕ → List Lent → HostRun
host_run held l = foldl host_called (record { held = held; past = [] }) l

-- what the bytes say of the wire of card pin p at port k
unfoldable pub wire_bit : List ℕ → (k p : ℕ) → Bool
wire_bit held k p = bit (byte held (2 + k)) (p - 1)
