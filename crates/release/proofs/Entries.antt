-- The messages of table entries. Assumes nothing.
use mathlib.Core.List.{List}
use Prim.Native.Nat.{ℕ, ◌+◌, ◌*◌, ◌≤◌}
use native.Mathlib.Omega.{arith}
use lib.ListN.{length}
use Rattle.words.specs.Lists.{count}
use Rattle.words.specs.Bits.{bit}
use Rattle.words.specs.Bytes.{word32}
use Rattle.words.proofs.ListLaws.{join-length, keep-length, length-count}
use Rattle.model.specs.Packets.{entry_message}
use Rattle.model.proofs.Vectors.PacketLaws.{size-le}
use Rattle.vectors.proofs.MessageLaws.{entry_length}
use Rattle.release.specs.Owed.{set_bits, owes, owed_entries, entry_packets, word_packets}

pub entry-le : (requester : ℕ) (table : List ℕ) (v : ℕ) → length (entry_message requester table v) ≤ 20
entry-le requester table v = omega (arith, entry_length requester table v, size-le (word32 table (16 * v + 4)))

-- of a word of 64 vectors
pub word_le : (requester : ℕ) (table : List ℕ) (base w : ℕ) → length (word_packets requester table base w) ≤ 1280
word_le requester table base w =
    omega (arith, join-length (λ j. entry_message requester table (base + j)) 20 (set_bits 64 w) (λ j. entry-le requester table (base + j)), keep-length (bit w) (count 0 64), length-count 0 64)

-- of all entries
pub owed-le : (requester : ℕ) (table p : List ℕ) (n : ℕ) → length (entry_packets requester table (owed_entries table p n)) ≤ 20 * n
unfolding owed_entries
owed-le requester table p n =
    omega (arith, join-length (entry_message requester table) 20 (owed_entries table p n) (entry-le requester table), keep-length (owes table p) (count 0 n), length-count 0 n)
