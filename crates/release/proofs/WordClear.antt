-- A word of the pending array written back without the bits that it owes. Assumes nothing.
use mathlib.Core.Path.{◌≡◌, sym, ap, ap₂, ◌∙◌}
use mathlib.Core.Bool.{Bool, true, false, not, ◌&&◌, and-true, and-false, false≢true}
use mathlib.Core.List.{List}
use Prim.Native.Nat.{ℕ, ◌+◌, ◌-◌, ◌*◌, ◌/◌, ◌%◌, ◌^◌, ◌≤◌, ◌<◌}
use native.Mathlib.Nat.{zero-add}
use native.Mathlib.Omega.{arith}
use lib.ListN.{length}
use Rattle.words.specs.Lists.{count, keep, member, within}
use Rattle.words.specs.Bits.{bit, clear}
use Rattle.words.specs.Bytes.{byte, bit_at, word64, bytes_of, Bytes}
use Rattle.words.specs.Writers.{put_at}
use Rattle.words.proofs.BoolLaws.{both, by_test}
use Rattle.words.proofs.BitLaws.{bit-clear, clear-le}
use Rattle.words.proofs.ByteLaws.{length-bytes_of, bytes_of_lt, word64-lt}
use Rattle.words.proofs.PutBytes.{length-put, byte_here, byte_other, bytes-put}
use Rattle.words.proofs.NumberBits.{bit-bytes_of}
use Rattle.words.proofs.ListLaws.{member-keep, member-count, member-within, keep_same, within-true, true-within, not_within}
use Rattle.release.specs.Owed.{owes, clear_pending, Lent, Unmasked, owed_word}
use Rattle.release.proofs.PendingWords.{word-bit, word_owes, owed_from}
use Rattle.release.proofs.Clearing.{waits-cleared, length-cleared, bytes-cleared, same_bits}
use Rattle.model.specs.Vectors.{entry_masked, pending_bit}

-- ---- a number x of 64 bits put at byte k

module _ (k x : ℕ) (p : List ℕ) (h : k + 8 ≤ length p) (u : x < 2 ^ 64) where
  fits : k + length (bytes_of 8 x) ≤ length p
  fits = rw (length-bytes_of 8 x) h

  bits_here : (j : ℕ) → j < 64 → pending_bit (put_at k (bytes_of 8 x) p) (8 * k + j) ≡ bit x j
  unfolding pending_bit bit_at
  bits_here j l =
      let e : (8 * k + j) / 8 ≡ k + j / 8 = omega arith in
      let d : (8 * k + j) % 8 ≡ j % 8 = omega arith in
      ap₂ (λ (i m : ℕ). bit (byte (put_at k (bytes_of 8 x) p) i) m) e d
      ∙ ap (λ (y : ℕ). bit y (j % 8)) (byte_here k (bytes_of 8 x) p fits (j / 8) (rw (length-bytes_of 8 x) (omega arith)))
      ∙ ap (λ (i : ℕ). bit (byte (bytes_of 8 x) i) (j % 8)) (sym (zero-add (j / 8)))
      ∙ bit-bytes_of 8 x j u l

  bits_other : (v : ℕ) → within (8 * k) 64 v ≡ false → pending_bit (put_at k (bytes_of 8 x) p) v ≡ pending_bit p v
  unfolding pending_bit
  bits_other v t = ap (λ (y : ℕ). bit y (v % 8)) (byte_other k (bytes_of 8 x) p fits (v / 8) (rw (length-bytes_of 8 x) outside))
    where
      outside : within k 8 (v / 8) ≡ false
      outside =
          by_test (within k 8 (v / 8))
          (λ s. let m = within-true k 8 (v / 8) s in absurd (false≢true (sym t ∙ true-within (8 * k) 64 v (omega (arith, m)) (omega (arith, m))))) (λ s. s)

-- ---- the word at byte k without the bits that it owes

module _ (table p : List ℕ) (k : ℕ) (h : k + 8 ≤ length p) where
  pub member_word : (v : ℕ) → member v (owed_word table p k) ≡ (owes table p v && within (8 * k) 64 v)
  member_word v = member-keep (owes table p) (count (8 * k) 64) v ∙ ap (λ (b : Bool). owes table p v && b) (member-within (8 * k) 64 v)

  waits_word : (v : ℕ) → pending_bit (clear_pending p (owed_word table p k)) v ≡ (pending_bit p v && not (owes table p v && within (8 * k) 64 v))
  waits_word v =
      waits-cleared p (owed_word table p k) v
      (λ x m.
      let i = within-true (8 * k) 64 x (both (owes table p x) (within (8 * k) 64 x) (sym (member_word x) ∙ m)).1 in
      omega (arith, i))
      ∙ ap (λ (b : Bool). pending_bit p v && not b) (member_word v)

  waits-outside : (v : ℕ) → within (8 * k) 64 v ≡ false → pending_bit (clear_pending p (owed_word table p k)) v ≡ pending_bit p v
  waits-outside v t =
      waits_word v ∙ ap (λ (b : Bool). pending_bit p v && not (owes table p v && b)) t
      ∙ ap (λ (b : Bool). pending_bit p v && not b) (and-false (owes table p v)) ∙ and-true (pending_bit p v)

  pub word_cleared : (r : ℕ) → Bytes p → Unmasked table (8 * k) (word64 p k) r
      → put_at k (bytes_of 8 (clear r (word64 p k))) p ≡ clear_pending p (owed_word table p k)
  word_cleared r b u =
      same_bits (put_at k (bytes_of 8 x) p) (clear_pending p (owed_word table p k))
      (length-put k (bytes_of 8 x) p (fits k x p h l) ∙ sym (length-cleared p (owed_word table p k)))
      (bytes-put k (bytes_of 8 x) p (fits k x p h l) (bytes_of_lt 8 x) b) (bytes-cleared p (owed_word table p k) b)
      (λ v _. by_test (within (8 * k) 64 v) (λ t. inside v t) (λ t. bits_other k x p h l v t ∙ sym (waits-outside v t)))
    where
      x : ℕ
      x = clear r (word64 p k)

      l : x < 2 ^ 64
      l = omega (arith, word64-lt p k b, clear-le r (word64 p k))

      at : (j : ℕ) → j < 64 → pending_bit (put_at k (bytes_of 8 x) p) (8 * k + j) ≡ (pending_bit p (8 * k + j) && not (owes table p (8 * k + j) && true))
      at j q =
          bits_here k x p h l j q ∙ bit-clear r (word64 p k) j
          ∙ ap₂ (λ (a c : Bool). a && not c) (word-bit p k j b q) (word_owes table p k r b u j q ∙ sym (and-true (owes table p (8 * k + j))))

      inside : (v : ℕ) → within (8 * k) 64 v ≡ true → pending_bit (put_at k (bytes_of 8 x) p) v ≡ pending_bit (clear_pending p (owed_word table p k)) v
      inside v t =
          let m = within-true (8 * k) 64 v t in
          let e : 8 * k + (v - 8 * k) ≡ v = omega (arith, m) in
          let d : pending_bit (put_at k (bytes_of 8 x) p) v ≡ (pending_bit p v && not (owes table p v && true)) = rw e at (at (v - 8 * k) (omega (arith, m))) in
          d ∙ sym (waits_word v ∙ ap (λ (c : Bool). pending_bit p v && not (owes table p v && c)) t)

  -- the words behind it owe what they did
  pub owed-after : owed_from table (clear_pending p (owed_word table p k)) (k + 8) ≡ owed_from table p (k + 8)
  unfolding owes
  owed-after =
      ap (λ (n : ℕ). keep (owes table (clear_pending p (owed_word table p k))) (count (8 * (k + 8)) (8 * (n - (k + 8))))) (length-cleared p (owed_word table p k))
      ∙ keep_same (owes table (clear_pending p (owed_word table p k))) (owes table p) (count (8 * (k + 8)) (8 * (length p - (k + 8))))
      (λ v m. ap (λ (c : Bool). not (entry_masked table v) && c) (waits-outside v (not_within (8 * k) 64 v (omega (arith, (member-count (8 * (k + 8)) (8 * (length p - (k + 8))) v m).0)))))

  pub lent_after : Lent table p → Lent table (clear_pending p (owed_word table p k))
  lent_after l = record {
    words = length-cleared p (owed_word table p k) ∙ l.words;
    beyond = λ v g. waits_word v ∙ ap (λ (c : Bool). c && not (owes table p v && within (8 * k) 64 v)) (l.beyond v g);
  }
