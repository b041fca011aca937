-- Document 02, request [4], last sentence: a port's wire, and what the host has heard, by the calls with their answers and the bytes sent.
-- No switch is read here. Assumes nothing.
use Rattle.std.specs.Prelude.{◌≡◌, Bool, true, false, cond, ◌&&◌, ℕ, zero, suc, ◌≤◌, ◌<◌, eqb, length, take, drop, Option, Some, None}
use mathlib.Core.List.{List, [], ◌∷◌, foldl}
use Rattle.model.specs.declared.Answer.{Answer}
use Rattle.model.specs.Answers.{is_accepted}
use Rattle.model.specs.Since.{Since}
use Rattle.tlp.specs.declared.decode.Packet.{Packet}
use Rattle.tlp.specs.declared.decode.Packet.TheVariants.{Message, Wire}
use Rattle.tlp.specs.Decoded.{decoded, first_length}
use Rattle.switch.specs.declared.Switch.{Switch}
use Rattle.switch.specs.Switches.{upstream_pin}
use Rattle.switch.specs.Calls.{SwitchCall, pass, down, Switched, switch_step}

-- ---- a past: the calls with their answers and the bytes that they sent, the latest first

pub record SwitchEntry : Type 0 where
  pub call : SwitchCall
  pub answer : Answer
  pub bytes : List ℕ

abbrev pub entry_of : SwitchCall → Switched → SwitchEntry
entry_of c r = record { call = c; answer = r.answer; bytes = take r.count r.output }

abbrev pub SwitchPast : Type 0
SwitchPast = List SwitchEntry

-- the switch and the past after some calls
pub record SwitchRun : Type 0 where
  pub switch : Switch
  pub past : SwitchPast

-- and after one more, which gets the switch as the last one left it
unfoldable pub switch_called : SwitchRun → SwitchCall → SwitchRun
switch_called r c = let o : Switched = switch_step r.switch c in record { switch = o.switch; past = entry_of c o ∷ r.past }

-- a list of calls on a switch with no past
unfoldable pub switch_run : Switch → List SwitchCall → SwitchRun
switch_run s calls = foldl switch_called (record { switch = s; past = [] }) calls

-- ---- packets

-- Assert or Deassert of pin p
unfoldable pub is_for : (p : ℕ) → Option Packet → Bool
is_for p (Some (Message m)) = false
is_for p (Some (Wire w)) = eqb w.pin p
is_for p None = false

unfoldable pub is_assert : Option Packet → Bool
is_assert (Some (Message m)) = false
is_assert (Some (Wire w)) = w.active
is_assert None = false

-- ---- the wire of card pin p at port k

-- a call is a packet for it
unfoldable pub gives_packet : (k p : ℕ) → SwitchCall → Bool
gives_packet k p (pass port bytes out) = eqb port k && is_for p (decoded bytes)
gives_packet k p (down port out) = false

unfoldable pub gives_assert : SwitchCall → Bool
gives_assert (pass port bytes out) = is_assert (decoded bytes)
gives_assert (down port out) = false

unfoldable pub takes_down : (k : ℕ) → SwitchCall → Bool
takes_down k (pass port bytes out) = false
takes_down k (down port out) = eqb port k

-- an accepted packet for it
unfoldable pub packet_for : (k p : ℕ) → SwitchEntry → Bool
packet_for k p x = is_accepted x.answer && gives_packet k p x.call

-- one that is an Assert
unfoldable pub assert_for : (k p : ℕ) → SwitchEntry → Bool
assert_for k p x = packet_for k p x && gives_assert x.call

-- port k went down
unfoldable pub went_down : (k : ℕ) → SwitchEntry → Bool
went_down k x = is_accepted x.answer && takes_down k x.call

-- "the last accepted packet for it was an Assert and the port has not gone down since"
abbrev pub ActiveBy : (k p : ℕ) → SwitchPast → Type 0
ActiveBy k p = Since (λ x before. assert_for k p x ≡ true) (λ x before. (packet_for k p x ≡ false) × (went_down k x ≡ false))

-- some port's wire that becomes upstream pin q is active so
pub record DrivenBy (q : ℕ) (past : SwitchPast) : Type 0 where
  pub port : ℕ
  pub pin : ℕ
  pub is_port : port < 8
  pub first : 1 ≤ pin
  pub last : pin ≤ 4
  pub mapped : upstream_pin port pin ≡ q
  pub active : ActiveBy port pin past

-- ---- what the host has heard

-- the packets that stand one after another in some bytes, at most n of them
unfoldable pub packets_in : (n : ℕ) → List ℕ → List (Option Packet)
packets_in zero l = []
packets_in (suc n) l = cond (eqb (length l) 0) [] (decoded (take (first_length l) l) ∷ packets_in n (drop (first_length l) l))

-- the level of pin q by the last of some packets that is for it, or else as before them
unfoldable pub level_after : (q : ℕ) → List (Option Packet) → (before : Bool) → Bool
level_after q [] before = before
level_after q (x ∷ l) before = level_after q l (cond (is_for q x) (is_assert x) before)

-- the level of upstream pin q by the last packet for it in all bytes sent; inactive if there was none
unfoldable pub heard : (q : ℕ) → SwitchPast → Bool
heard q [] = false
heard q (x ∷ past) = level_after q (packets_in (length x.bytes) x.bytes) (heard q past)
