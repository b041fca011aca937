-- The pending array by words of 64 vectors. Assumes nothing.
use mathlib.Core.Path.{◌≡◌, sym, ap, ap₂, ◌∙◌}
use mathlib.Core.Bool.{Bool, false, not, ◌&&◌, and_comm, and-false, false≢true}
use mathlib.Core.List.{List, [], ◌++◌, map}
use Prim.Native.Nat.{ℕ, ◌+◌, ◌-◌, ◌*◌, ◌/◌, ◌%◌, ◌^◌, ◌≤◌, ◌<◌}
use native.Mathlib.Nat.{add-zero}
use native.Mathlib.Omega.{arith}
use lib.Dec.{ltb, leb}
use lib.Count.{count_trailing_zeros}
use lib.ListN.{length, get_or-eq_default}
use borrow.Author.Tests.{ltb-true, ltb-false, leb-true, leb-false}
use Rattle.words.specs.Lists.{count, keep, join}
use Rattle.words.specs.Bits.{bit}
use Rattle.words.specs.Bytes.{byte, word64, Bytes}
use Rattle.words.proofs.BoolLaws.{both, by_test}
use Rattle.words.proofs.BitLaws.{bit_of_zero, bit_above}
use Rattle.words.proofs.ByteLaws.{word64-lt}
use Rattle.words.proofs.NumberBits.{bit-number}
use Rattle.words.proofs.ListLaws.{keep_same, keep-same_end, keep_append, count-append, member-count, join-append, join-map}
use Rattle.words.proofs.ShiftLaws.{keep_shift}
use Rattle.words.proofs.LowestLaws.{lowest_trailing}
use Rattle.words.proofs.OnesLaws.{no_set_bits}
use Rattle.model.specs.Sound.{is_empty}
use Rattle.model.specs.Vectors.{entry_masked, pending_bit}
use Rattle.model.specs.Packets.{entry_message}
use Rattle.words.proofs.SetBits.{turn}
use Rattle.release.specs.Owed.{set_bits, entries, owes, owed_entries, entry_packets, word_packets, Lent, Backed, Unmasked, owed_word}

-- ---- a word's bits are the waiting bits of its vectors

pub word-bit : (p : List ℕ) (k j : ℕ) → Bytes p → j < 64 → bit (word64 p k) j ≡ pending_bit p (8 * k + j)
unfolding word64 pending_bit
word-bit p k j b h =
    let e : k + j / 8 ≡ (8 * k + j) / 8 = omega arith in
    let d : j % 8 ≡ (8 * k + j) % 8 = omega arith in
    bit-number (byte p) b k 8 j h ∙ ap₂ (λ (i m : ℕ). bit (byte p i) m) e d

-- no bit waits past the end
pub waits-past : (p : List ℕ) (v : ℕ) → 8 * length p ≤ v → pending_bit p v ≡ false
unfolding pending_bit
waits-past p v h = ap (λ (b : ℕ). bit b (v % 8)) (get_or-eq_default p 0 (omega arith)) ∙ bit_of_zero (v % 8)

-- ---- each waiting vector has an entry

pub word_backed : (table p : List ℕ) (k : ℕ) → Bytes p → Lent table p → Backed table (8 * k) (word64 p k)
word_backed table p k b l j e =
    by_test (ltb j 64)
    (λ t.
    by_test (leb (entries table) (8 * k + j))
    (λ q. absurd (false≢true (sym (l.beyond (8 * k + j) (leb-true (entries table) (8 * k + j) q)) ∙ sym (word-bit p k j b (ltb-true j 64 t)) ∙ e)))
    (λ q. leb-false (entries table) (8 * k + j) q))
    (λ t. absurd (false≢true (sym (bit_above 64 (word64 p k) j (word64-lt p k b) (ltb-false j 64 t)) ∙ e)))

pub open_backed : (table p : List ℕ) (k r : ℕ) → Bytes p → Lent table p → Unmasked table (8 * k) (word64 p k) r → Backed table (8 * k) r
open_backed table p k r b l u j e =
    word_backed table p k b l j (both (bit (word64 p k) j) (not (entry_masked table (8 * k + j))) (sym (u j) ∙ e)).0

-- ---- what a word owes

module _ (table p : List ℕ) (k r : ℕ) (b : Bytes p) (u : Unmasked table (8 * k) (word64 p k) r) where
  pub word_owes : (j : ℕ) → j < 64 → bit r j ≡ owes table p (8 * k + j)
  unfolding owes
  word_owes j h =
      u j ∙ ap (λ (x : Bool). x && not (entry_masked table (8 * k + j))) (word-bit p k j b h)
      ∙ and_comm (pending_bit p (8 * k + j)) (not (entry_masked table (8 * k + j)))

  pub owed_bits : owed_word table p k ≡ map (λ j. 8 * k + j) (set_bits 64 r)
  owed_bits =
      ap (λ (i : ℕ). keep (owes table p) (count i 64)) (sym (add-zero (8 * k)))
      ∙ keep_shift (owes table p) (8 * k) 0 64
      ∙ ap (map (λ j. 8 * k + j))
      (keep_same (λ j. owes table p (8 * k + j)) (bit r) (count 0 64)
      (λ j m. sym (word_owes j (let q = member-count 0 64 j m in omega arith))))

  pub word-packets : (requester : ℕ) → entry_packets requester table (owed_word table p k) ≡ word_packets requester table (8 * k) r
  word-packets requester =
      ap (join (entry_message requester table)) owed_bits ∙ join-map (entry_message requester table) (λ j. 8 * k + j) (set_bits 64 r)

  -- it owes nothing exactly if no bit is left
  pub word_empty : r ≡ 0 → owed_word table p k ≡ []
  word_empty e = owed_bits ∙ ap (λ (x : ℕ). map (λ j. 8 * k + j) (set_bits 64 x)) e ∙ ap (map (λ j. 8 * k + j)) (no_set_bits 64)

  pub word_nonempty : (rest : List ℕ) → 0 < r → r < 2 ^ 64 → is_empty (owed_word table p k ++ rest) ≡ false
  unfolding is_empty
  word_nonempty rest g h =
      ap (λ (l : List ℕ). is_empty (l ++ rest)) (owed_bits ∙ ap (map (λ j. 8 * k + j)) (turn 64 r (count_trailing_zeros 64 r) h (lowest_trailing 64 r g h)).rest)

-- ---- the words from byte k on

abbrev pub owed_from : List ℕ → List ℕ → ℕ → List ℕ
owed_from table p k = keep (owes table p) (count (8 * k) (8 * (length p - k)))

pub owed_split : (table p : List ℕ) (k : ℕ) → k + 8 ≤ length p → owed_from table p k ≡ owed_word table p k ++ owed_from table p (k + 8)
owed_split table p k h =
    let e : 8 * (length p - k) ≡ 64 + 8 * (length p - (k + 8)) = omega arith in
    let d : 8 * k + 64 ≡ 8 * (k + 8) = omega arith in
    ap (λ (n : ℕ). keep (owes table p) (count (8 * k) n)) e
    ∙ ap (keep (owes table p)) (count-append (8 * k) 64 (8 * (length p - (k + 8))))
    ∙ keep_append (owes table p) (count (8 * k) 64) (count (8 * k + 64) (8 * (length p - (k + 8))))
    ∙ ap (λ (i : ℕ). owed_word table p k ++ keep (owes table p) (count i (8 * (length p - (k + 8))))) d

-- their packets
pub packets_split : (requester : ℕ) (table p : List ℕ) (k : ℕ) → k + 8 ≤ length p
    → entry_packets requester table (owed_from table p k) ≡ entry_packets requester table (owed_word table p k) ++ entry_packets requester table (owed_from table p (k + 8))
packets_split requester table p k h =
    ap (join (entry_message requester table)) (owed_split table p k h) ∙ join-append (entry_message requester table) (owed_word table p k) (owed_from table p (k + 8))

pub owed_end : (table p : List ℕ) (k : ℕ) → length p ≤ k → owed_from table p k ≡ []
unfolding count keep
owed_end table p k h = let e : 8 * (length p - k) ≡ 0 = omega arith in rw e

pub owed_all_lem : (table p : List ℕ) → Lent table p → owed_from table p 0 ≡ owed_entries table p (entries table)
unfolding owed_entries owes
owed_all_lem table p l =
    keep-same_end (owes table p) (8 * (length p - 0)) (entries table)
    (λ v h. rw (waits-past p v (omega arith)) (and-false (not (entry_masked table v))))
    (λ v h. rw (l.beyond v h) (and-false (not (entry_masked table v))))
