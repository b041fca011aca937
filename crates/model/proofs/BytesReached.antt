-- The bounds of BytesBound are reached: a call makes 40,976 bytes of packets, and an image has 33,318. Assumes nothing.
use mathlib.Core.Path.{◌≡◌, refl, sym, ap, ap₂, ◌∙◌}
use mathlib.Core.Bool.{Bool, true, false, ◌&&◌}
use mathlib.Core.List.{List}
use Prim.Native.Nat.{ℕ, ◌+◌, ◌*◌, ◌/◌, ◌%◌, ◌<◌}
use native.Mathlib.Nat.{mod-lt}
use native.Mathlib.Omega.{arith}
use lib.Bits.{bit_and}
use lib.Dec.{eqb}
use lib.ListN.{length, length-append, length-replicate, get_or-replicate}
use borrow.Author.Tests.{lt-ltb, eqb-true, eq-eqb}
use Rattle.words.specs.Lists.{count, member, all, first_of}
use Rattle.words.specs.Bits.{bit}
use Rattle.words.specs.Bytes.{byte, bytes_of}
use Rattle.words.proofs.BoolLaws.{and_intro}
use Rattle.words.proofs.BitLaws.{bit-ones}
use Rattle.words.proofs.ListLaws.{keep_all, join_parts, join_each, join-byte, at_all, all-below, length-count, member-count}
use Rattle.model.specs.declared.Mode.TheVariants.{Msix}
use Rattle.model.specs.declared.Shape.{Shape}
use Rattle.model.specs.World.{Endpoint, registers, with_registers}
use Rattle.model.specs.Registers.{config_written, entry_zero}
use Rattle.model.specs.Vectors.{command_bit, msix_control_bit, mode_of, same_mode, in_force, enabled, masked, is_open, pending_bit, waits, vector_count, owed}
use Rattle.model.specs.Packets.{message, message_of}
use Rattle.model.specs.Release.{wire_change, wire_due_of, bytes_for, sweep_bytes, settle_bytes}
use Rattle.model.specs.Start.{given, start_refusal}
use Rattle.model.specs.Sound.{shape, sound, zero_bits}
use Rattle.model.specs.Image.{mark, card_bytes, image_of}
use Rattle.model.specs.Calls.{Call, Outcome, config_write, bad_config, rows, sends, step}
use Rattle.model.specs.Play.{fresh}
use Rattle.model.specs.Cases.{sizes_of}
use Rattle.model.specs.Examples.Longest.{longest_config, longest_entry, longest_table, longest_card, longest_call}
use Rattle.model.proofs.Definitions.{definitions}
use Rattle.model.proofs.Registers.EntryLaws.{entry_masked_lem, entry-message}
use Rattle.model.proofs.Vectors.PacketLaws.{wire-length}
use Rattle.model.proofs.Sound.SoundLaws.{sound_is}
use Rattle.model.proofs.Calls.SettleCalls.{config_settles}
use Rattle.model.proofs.Calls.CallLaws.{step-sound, performed-accepted}

-- what is computed of the card: all but its table
computed : Bool
unfolding definitions longest_config longest_card
computed = true

-- ---- the table

table-length : (n : ℕ) → length (longest_table n) ≡ 16 * n
unfolding longest_table longest_entry bytes_of
table-length n = join_each (λ v. longest_entry) 16 (count 0 n) (λ v. refl) ∙ ap (λ (k : ℕ). 16 * k) (length-count 0 n)

-- each of its entries
entry-byte : (n v : ℕ) → v < n → (i : ℕ) → i < 16 → byte longest_entry i ≡ byte (longest_table n) (16 * v + i)
unfolding longest_table longest_entry bytes_of
entry-byte n v h i l = sym (join-byte (λ v. longest_entry) 16 (λ v. refl) 0 n v i h l)

-- bits stored as 0 are 0
entry_zero_lem : (i : ℕ) → i < 16 → bit_and (entry_zero i) (byte longest_entry i) ≡ 0
unfolding longest_entry bytes_of entry_zero first_of all count
entry_zero_lem i h =
    eqb-true (bit_and (entry_zero i) (byte longest_entry i)) 0 (all-below (λ i. eqb (bit_and (entry_zero i) (byte longest_entry i)) 0) 16 i refl h)

same-zero : (i : ℕ) → entry_zero i ≡ entry_zero (i % 16)
unfolding entry_zero
same-zero i = let e : i % 16 % 16 ≡ i % 16 = omega arith in rw e

table-zero : (n : ℕ) → zero_bits entry_zero (longest_table n) ≡ true
unfolding zero_bits
table-zero n =
    at_all (λ i b. eqb (bit_and (entry_zero i) b) 0) (longest_table n)
    λ i h.
    let l : i < 16 * n = omega (arith, table-length n) in
    let e : 16 * (i / 16) + i % 16 ≡ i = omega arith in
    let b : byte longest_entry (i % 16) ≡ byte (longest_table n) i =
    entry-byte n (i / 16) (omega arith) (i % 16) (omega arith) ∙ ap (byte (longest_table n)) e in
    eq-eqb (bit_and (entry_zero i) (byte (longest_table n) i)) 0 (ap₂ bit_and (same-zero i) (sym b) ∙ entry_zero_lem (i % 16) (omega arith))

-- ---- the card

-- it is sound
pub card-sound : sound longest_card ≡ true
unfolding computed
card-sound =
    sound_is longest_card
    (record {
      endpoint = record {
        start = ap (λ (n : ℕ). start_refusal (given longest_config (sizes_of 0x8000 0x100) 2048 0x100 n 256)) (table-length 2048);
        config = refl;
        table = table-zero 2048;
        below = refl;
        quiet = refl;
      };
      wire = refl;
    })

-- its image has 33,318 bytes
pub image_reached : length (image_of longest_card) ≡ 33318
unfolding computed image_of mark card_bytes
image_reached = rw (length-append, table-length 2048)

-- ---- a function of shape s with MSI-X in force

module _ (s : Shape) (u : Endpoint) (m : mode_of s (registers u) ≡ Msix) where
  -- with Function Mask 0 and Command bit 2 set, a vector whose mask is 0 is open
  open-vector : msix_control_bit s (registers u) 14 ≡ false → command_bit (registers u) 2 ≡ true
      → (v : ℕ) → v < s.msix.vectors → masked Msix s (registers u) v ≡ false → is_open Msix s (registers u) v ≡ true
  unfolding is_open in_force same_mode enabled
  open-vector f b v h k = rw (m, lt-ltb v s.msix.vectors h, f, b, k)

  -- with each vector open and waiting, and each message of 20 bytes
  sweep_length : ((v : ℕ) → v < s.msix.vectors → (is_open Msix s (registers u) v && waits Msix u v) ≡ true)
      → ((v : ℕ) → v < s.msix.vectors → length (message_of Msix s u.function.requester (registers u) v) ≡ 20)
      → length (sweep_bytes s u) ≡ 20 * s.msix.vectors
  unfolding sweep_bytes bytes_for owed vector_count
  sweep_length o k =
      rw (m, keep_all (λ v. is_open Msix s (registers u) v && waits Msix u v) (count 0 s.msix.vectors) (λ v i. o v (below v i)))
      (join_parts (message_of Msix s u.function.requester (registers u)) 20 (count 0 s.msix.vectors) (λ v i. k v (below v i))
      ∙ ap (λ (n : ℕ). 20 * n) (length-count 0 s.msix.vectors))
    where
      below : (v : ℕ) → member v (count 0 s.msix.vectors) ≡ true → v < s.msix.vectors
      below v i = let b = member-count 0 s.msix.vectors v i in omega arith

-- ---- the card's shape, and its function after the write

abbrev s : Shape
s = shape longest_card.endpoint

abbrev u : Endpoint
u = with_registers longest_card.endpoint (config_written s (registers longest_card.endpoint) 0x42 (bytes_of 2 0x8000))

vectors : s.msix.vectors ≡ 2048
unfolding computed
vectors = refl

in-force : mode_of s (registers u) ≡ Msix
unfolding computed
in-force = refl

function_unmasked : msix_control_bit s (registers u) 14 ≡ false
unfolding computed
function_unmasked = refl

bus_master : command_bit (registers u) 2 ≡ true
unfolding computed
bus_master = refl

module _ (v : ℕ) (h : v < 2048) where
  unmasked : masked Msix s (registers u) v ≡ false
  unfolding computed longest_entry
  unmasked = sym (entry_masked_lem longest_entry (longest_table 2048) v (entry-byte 2048 v h) s u.function.config)

  waiting : waits Msix u v ≡ true
  unfolding computed pending_bit
  waiting =
      ap (λ (b : ℕ). bit b (v % 8)) (get_or-replicate 256 (v / 8) 0xff 0 (omega arith)) ∙ bit-ones 8 (v % 8)
      ∙ lt-ltb (v % 8) 8 (mod-lt v (omega arith))

  message-size : length (message_of Msix s u.function.requester (registers u) v) ≡ 20
  unfolding computed message_of message longest_entry
  message-size = ap length (sym (entry-message longest_entry (longest_table 2048) v (entry-byte 2048 v h) 0x100))

-- ---- what it sends

sweep_size : length (sweep_bytes s u) ≡ 40960
sweep_size =
    sweep_length s u in-force
    (λ v h.
    let l : v < 2048 = omega (arith, vectors) in
    and_intro (is_open Msix s (registers u) v) (waits Msix u v) (open-vector s u in-force function_unmasked bus_master v h (unmasked v l)) (waiting v l))
    (λ v h. message-size v (omega (arith, vectors)))
    ∙ ap (λ (n : ℕ). 20 * n) vectors

wire-size : length (wire_change u.function.requester (registers u) longest_card.wire (wire_due_of s u)) ≡ 16
unfolding computed
wire-size = wire-length 0x100 1 false

-- over an output of that length
module _ (out : List ℕ) (h : length out ≡ 40976) where
  abbrev c : Call
  c = config_write 0x42 2 0x8000 out

  sends-size : length (sends longest_card c) ≡ 40976
  unfolding settle_bytes
  sends-size = rw ((config_settles longest_card 0x42 2 0x8000 out).sends, length-append) (ap₂ ◌+◌ wire-size sweep_size)

  no_row : first_of (rows longest_card.endpoint c) ≡ 0
  unfolding computed rows bad_config
  no_row = refl

  step-size : (step longest_card c).count ≡ 40976
  step-size =
      ap (λ (r : Outcome). r.count) (step-sound longest_card c card-sound ∙ performed-accepted longest_card c no_row (omega (arith, sends-size))) ∙ sends-size

-- the call makes 40,976 bytes of packets
pub bytes_reached : (step longest_card longest_call).count ≡ 40976
unfolding longest_call
bytes_reached = step-size (fresh 40976) (length-replicate {A = ℕ} 40976 0xee)
