-- What a host holds between its calls, and lists of calls through the interface. Assumes nothing.
use Rattle.std.specs.Prelude.{◌≡◌, Bool, false, cond, ℕ, eqb, length, take, drop}
use mathlib.Core.List.{List, [], ◌∷◌, ◌++◌, foldl}
use Rattle.words.specs.Bits.{bit}
use Rattle.words.specs.Bytes.{word32, part}
use Rattle.model.specs.declared.Answer.{Answer}
use Rattle.model.specs.declared.Answer.TheVariants.{Refused, Done}
use Rattle.model.specs.declared.Mode.{Mode}
use Rattle.model.specs.declared.Mode.TheVariants.{Pin, Msi, Msix}
use Rattle.model.specs.World.{Registers}
use Rattle.model.specs.Vectors.{pending_bit}
use Rattle.model.specs.Calls.{Call, Operation, call, start, restore}
use Rattle.model.specs.History.{Past, entry_of}
use Rattle.capi.specs.Crossing.{Crossed, crossed}

-- the lengths that the interface asks for
abbrev pub RightLengths : List ℕ → Operation → Type 0
RightLengths card (call c) = length card ≡ 289
RightLengths card (start config sizes events requester) = (length card ≡ 289) × (length config ≡ 256) × (length sizes ≡ 6)
RightLengths card (restore image) = length card ≡ 289

-- the bytes that a host holds: of the card, of the table and of the pending array
pub record Held : Type 0 where
  pub card : List ℕ
  pub table : List ℕ
  pub pending : List ℕ

abbrev pub held_of : (card table pending : List ℕ) → Held
held_of card table pending = record { card = card; table = table; pending = pending }

-- a call of a host: what is called, and how many bytes of each of the three it lends. A host that lends another length gets its refusal
pub record Lent (A : Type 0) : Type 0 where
  pub card : ℕ
  pub table : ℕ
  pub pending : ℕ
  pub calls : A

abbrev pub made : Held → Lent Operation → Crossed
made h x = crossed (take x.card h.card) (take x.table h.table) (take x.pending h.pending) x.calls

-- the bytes after it; those that were not lent stay
abbrev pub left : Held → Lent Operation → Crossed → Held
left h x r = held_of (r.card ++ drop x.card h.card) (r.table ++ drop x.table h.table) (r.pending ++ drop x.pending h.pending)

-- ---- lists of calls, starts and restores among them

unfoldable pub held_after : Held → List (Lent Operation) → Held
held_after h [] = h
held_after h (x ∷ l) = held_after (left h x (made h x)) l

-- what each of them hands back
unfoldable pub crossings : Held → List (Lent Operation) → List Crossed
crossings h [] = []
crossings h (x ∷ l) = made h x ∷ crossings (left h x (made h x)) l

-- ---- lists of calls of a running card, with their past

pub record HostRun : Type 0 where
  pub held : Held
  pub past : Past

-- all that the history asks of an answer: whether it is a refusal
abbrev pub answer_of : Crossed → Answer
answer_of r = cond (eqb r.refusal 0) Done (Refused r.refusal)

abbrev pub running : Lent Call → Lent Operation
running x = record { card = x.card; table = x.table; pending = x.pending; calls = call x.calls }

unfoldable pub host_called : HostRun → Lent Call → HostRun
host_called h x =
    let r : Crossed = made h.held (running x) in
    record { held = left h.held (running x) r; past = entry_of x.calls (answer_of r) (take r.count r.output) ∷ h.past }

unfoldable pub host_run : Held → List (Lent Call) → HostRun
host_run h l = foldl host_called (record { held = h; past = [] }) l

-- the calls of a list without their lengths
unfoldable pub lent_calls : List (Lent Call) → List Call
lent_calls [] = []
lent_calls (x ∷ l) = x.calls ∷ lent_calls l

-- ---- what the bytes say

-- the waiting bit of a vector: MSI's in bytes 5 to 8 of the card, MSI-X's in the pending array
unfoldable pub waiting_bit : Mode → Held → ℕ → Bool
waiting_bit Pin h v = false
waiting_bit Msi h v = bit (word32 h.card 5) v
waiting_bit Msix h v = pending_bit h.pending v

-- the registers: the configuration from byte 33 of the card on, and the table
unfoldable pub registers_in : Held → Registers
registers_in h = record { config = part 33 256 h.card; table = h.table }
