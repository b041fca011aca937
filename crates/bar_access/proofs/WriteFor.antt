-- A write of one table entry of a sound card: what it asks, and its three ways out. Assumes nothing.
use mathlib.Core.Path.{◌≡◌, refl, sym, ap, ap₂, ◌∙◌}
use mathlib.Core.Bool.{Bool, true, false, cond, ◌&&◌}
use mathlib.Core.List.{List, []}
use Prim.Native.Nat.{ℕ, ◌+◌, ◌*◌, ◌/◌, ◌%◌, ◌≤◌, ◌<◌}
use native.Mathlib.Omega.{arith}
use lib.ListN.{length, set}
use Rattle.words.specs.Bits.{clear_bit}
use Rattle.words.specs.Bytes.{byte, bytes_of}
use Rattle.words.specs.Writers.{over, Wrote}
use Rattle.words.proofs.ByteLaws.{length-bytes_of}
use Rattle.model.specs.declared.Answer.TheVariants.{Done}
use Rattle.model.specs.declared.Card.{Card}
use Rattle.model.specs.declared.Mode.TheVariants.{Msix}
use Rattle.model.specs.declared.Profile.{Profile}
use Rattle.model.specs.Shape.{shape_of}
use Rattle.model.specs.World.{World, Endpoint, registers, world_of, with_waiting}
use Rattle.model.specs.Registers.{entry_writable, written}
use Rattle.model.specs.Vectors.{is_open, waits, change_waiting}
use Rattle.model.specs.Packets.{message, message_size, message_of}
use Rattle.model.specs.Release.{settled, settle_bytes, wire_due_of}
use Rattle.model.specs.Calls.{accepted, settle_of}
use Rattle.model.proofs.Registers.BarLaws.{bar_swept, bar-bytes, bar_wire}
use Rattle.model.proofs.Calls.CallLaws.{room-short, room_fits}
use Rattle.model.proofs.Shapes.FitLaws.{table-room, pending-room}
use Rattle.model.proofs.Vectors.PacketLaws.{message-length}
use Rattle.model.proofs.Calls.SettleCalls.{vectors_only}
use Rattle.model.proofs.Sound.SoundLaws.{is-sound}
use Rattle.model.proofs.Vectors.WaitingLaws.{waits-pending, change_msix}
use Rattle.vectors.specs.declared.message.Message.{Message}
use Rattle.vectors.specs.Given.{regs}
use Rattle.vectors.specs.Entries.{IsEntry, message_in}
use Rattle.vectors.proofs.EntryLaws.{vector-packet}
use Rattle.card.specs.declared.outcome.Outcome.{Outcome}
use Rattle.card.specs.Outcomes.{refused_with, accepted_with, after}
use Rattle.card.specs.Running.{Running}
use Rattle.card.proofs.SoundFor.{running-endpoint, running_fit}
use Rattle.bar_access.specs.Entries.{table_written}

-- what the code finds: the vector of the entry at place `at` is open after a write of n bytes of x there, and waits
abbrev pub owed_after : Card → (t p : List ℕ) → Profile → (at n x : ℕ) → Bool
owed_after card t p k at n x =
    is_open Msix k.shape (regs card.function.config (written entry_writable t at (bytes_of n x))) (at / 16)
    && waits Msix (with_waiting (world_of card t p).endpoint 0 p) (at / 16)

-- by a copy e of the entry, for its vector v
pub owed-found : (card : Card) (t p : List ℕ) (k : Profile) (at n x : ℕ) (b : Bool) (v : ℕ) → v ≡ at / 16
    → let t' : List ℕ = written entry_writable t at (bytes_of n x) in
    (e : List ℕ) → IsEntry e t' (at / 16)
    → (IsEntry e t' v → b ≡ (is_open Msix k.shape (regs card.function.config t') v && waits Msix (with_waiting (world_of card t p).endpoint 0 p) v))
    → b ≡ owed_after card t p k at n x
owed-found card t p k at n x b v ev e same f = rw ev at f same

-- ---- n bytes at place `at` of the table

module _ (card : Card) (t p : List ℕ) (k : Profile) (r : Running card t p k) (at n : ℕ) (a : at % 8 + n ≤ 8) (h : at < length t) where
  table_is : length t ≡ 16 * k.shape.msix.vectors
  table_is = table-room k.shape (length t) (length p) (running_fit r)

  pub write_vector : at / 16 < k.shape.msix.vectors
  write_vector = omega (arith, table_is)

  pub write-entry : (at % 16 + n ≤ 16) × (16 * (at / 16) + 16 ≤ length t)
  write-entry = (omega arith, omega (arith, table_is))

  pub write_room : at + n ≤ length t
  write_room = omega (arith, table_is)

  pub write_pending : at / 16 / 8 < length p
  write_pending = omega (arith, pending-room k.shape (length t) (length p) (running_fit r), write_vector)

  pub write_small : at < 32768
  write_small = omega (arith, table_is, (running_fit r).shape.few)

  -- ---- a value x, and the function after the write

  module _ (x : ℕ) where
    abbrev w : World
    w = world_of card t p

    abbrev t' : List ℕ
    t' = written entry_writable t at (bytes_of n x)

    abbrev u' : Endpoint
    u' = table_written w at (bytes_of n x)

    -- the vector of the entry is open and waits
    abbrev owed : Bool
    owed = is_open Msix k.shape (regs card.function.config t') (at / 16) && waits Msix w.endpoint (at / 16)

    last : at + length (bytes_of n x) ≤ 16 * (at / 16) + 16
    last = rw (length-bytes_of n x) (omega arith)

    counted : at / 16 < (shape_of card.function.config).msix.vectors
    counted = rw r.shaped at write_vector

    due : wire_due_of k.shape u' ≡ card.wire
    due = rw r.shaped (bar_wire w t' (is-sound w r.is_sound))

    abbrev worldFor : Bool → World
    worldFor y = record { endpoint = cond y (change_waiting clear_bit Msix u' (at / 16)) u'; wire = card.wire }

    abbrev bytes_for : Bool → List ℕ
    bytes_for y = cond y (message_of Msix k.shape card.function.requester (registers u') (at / 16)) []

    world_is : settled k.shape u' ≡ worldFor owed
    world_is =
        ap (λ (b : Bool). record { endpoint = (settled k.shape u').endpoint; wire = b }) due
        ∙ ap (λ (v : Endpoint). record { endpoint = v; wire = card.wire })
        (rw r.shaped (bar_swept w.endpoint (running-endpoint r) at (bytes_of n x) (at / 16) (omega arith) last counted))

    bytes_are : settle_bytes k.shape card.wire u' ≡ bytes_for owed
    bytes_are =
        vectors_only k.shape card.wire u' due
        ∙ rw r.shaped (bar-bytes w.endpoint (running-endpoint r) at (bytes_of n x) (at / 16) (omega arith) last counted)

    -- ---- what the code finds of that

    abbrev found : Bool
    found = owed_after card t p k at n x

    same_test : owed ≡ found
    same_test =
        ap (λ (y : Bool). is_open Msix k.shape (regs card.function.config t') (at / 16) && y)
        (sym (waits-pending w.endpoint (with_waiting w.endpoint 0 p) (at / 16) refl))

    module _ (out : List ℕ) (y : Outcome) where
      -- nothing is sent
      pub write-quiet : found ≡ false → (t₁ : List ℕ) → t₁ ≡ t' → y ≡ accepted_with card Done 0 → after y t₁ p out ≡ settle_of w k.shape u' out
      write-quiet f t₁ et ey =
          let none : settle_bytes k.shape card.wire u' ≡ [] = bytes_are ∙ ap bytes_for (same_test ∙ f) in
          (λ i. after (ey i) (et i) p out)
          ∙ sym (room_fits w (settled k.shape u') Done (settle_bytes k.shape card.wire u') out (rw none (omega arith))
          ∙ ap₂ (λ (w : World) (l : List ℕ). accepted w Done l out) (world_is ∙ ap worldFor (same_test ∙ f)) none)

      -- its message m, from a copy e of the entry after the write
      module _ (f : found ≡ true) (e : List ℕ) (same : IsEntry e t' (at / 16)) (m : Message)
          (em : m ≡ message_in e) (size : ℕ) (es : size ≡ message_size m.upper) where
        abbrev packet : List ℕ
        packet = message card.function.requester m.upper m.address m.value

        sent : settle_bytes k.shape card.wire u' ≡ packet
        sent =
            bytes_are ∙ ap bytes_for (same_test ∙ f)
            ∙ sym (vector-packet e t' (at / 16) same m em card.function.requester k.shape card.function.config)

        room : length (settle_bytes k.shape card.wire u') ≡ size
        room = ap length sent ∙ message-length card.function.requester m.upper m.address m.value ∙ sym es

        -- 6
        pub write-short : length out < size → y ≡ refused_with card 6 → after y t p out ≡ settle_of w k.shape u' out
        write-short l ey =
            (λ i. after (ey i) t p out)
            ∙ sym (room-short w (settled k.shape u') Done (settle_bytes k.shape card.wire u') out (omega (arith, room)))

        -- the pending bit of the vector v of the entry is cleared
        pub write-sent : (t₁ p₁ o₁ : List ℕ) (count : ℕ) → size ≤ length out → t₁ ≡ t'
            → (v : ℕ) → v ≡ at / 16 → p₁ ≡ set p (v / 8) (clear_bit (byte p (v / 8)) (v % 8)) → Wrote packet out count o₁ → y ≡ accepted_with card Done count
            → after y t₁ p₁ o₁ ≡ settle_of w k.shape u' out
        write-sent t₁ p₁ o₁ count l et v ev ep wrote ey =
            (λ i. after (ey i) (et i) (ep i) (wrote.bytes i))
            ∙ (λ i. after (accepted_with card Done (wrote.count i)) t' (set p (ev i / 8) (clear_bit (byte p (ev i / 8)) (ev i % 8))) (over packet out))
            ∙ sym (room_fits w (settled k.shape u') Done (settle_bytes k.shape card.wire u') out (omega (arith, room))
            ∙ ap₂ (λ (w : World) (l : List ℕ). accepted w Done l out)
            (world_is ∙ ap worldFor (same_test ∙ f) ∙ ap (λ (v : Endpoint). record { endpoint = v; wire = card.wire }) (change_msix clear_bit u' (at / 16)))
            sent)
