-- An entry of the MSI-X table by its 16 bytes: where they are, and what they say. Assumes nothing.
use mathlib.Core.Path.{◌≡◌, ◌∙◌}
use mathlib.Core.List.{List}
use Prim.Native.Nat.{ℕ, ◌+◌, ◌*◌, ◌≤◌}
use native.Mathlib.Omega.{arith}
use lib.ListN.{length, take, drop, length-drop}
use lib.Seq.{length-take-le, get_or-take, get_or-drop}
use Rattle.model.specs.declared.Mode.TheVariants.{Msix}
use Rattle.model.specs.declared.Shape.{Shape}
use Rattle.model.specs.Vectors.{masked}
use Rattle.model.specs.Packets.{message, message_of, entry_message}
use Rattle.model.proofs.Registers.EntryLaws as EntryLaws
use Rattle.vectors.specs.declared.message.Message.{Message}
use Rattle.vectors.specs.Given.{regs}
use Rattle.vectors.specs.Entries.{IsEntry, mask_in, message_in}

-- the part of a table that is entry v
module _ (t : List ℕ) (v : ℕ) (h : 16 * v + 16 ≤ length t) where
  pub part_length : length (take 16 (drop (16 * v) t)) ≡ 16
  part_length = length-take-le 16 (drop (16 * v) t) (omega (arith, length-drop (16 * v) t))

  pub part-entry : IsEntry (take 16 (drop (16 * v) t)) t v
  part-entry i l = get_or-take 16 (drop (16 * v) t) i 0 l ∙ get_or-drop (16 * v) t i 0

-- e holds entry v of table t
module _ (e t : List ℕ) (v : ℕ) (same : IsEntry e t v) where
  pub entry-mask : (s : Shape) (c : List ℕ) → mask_in e ≡ masked Msix s (regs c t) v
  unfolding mask_in
  entry-mask s c = EntryLaws.entry_masked_lem e t v same s c

  -- m is what they say
  module _ (m : Message) (em : m ≡ message_in e) (requester : ℕ) where
    pub entry-packet : message requester m.upper m.address m.value ≡ entry_message requester t v
    unfolding message_in
    entry-packet = rw em (EntryLaws.entry-message e t v same requester)

    pub vector-packet : (s : Shape) (c : List ℕ) → message requester m.upper m.address m.value ≡ message_of Msix s requester (regs c t) v
    unfolding message_of
    vector-packet s c = entry-packet
