-- The library's numbers of bytes, and bytes of a number. Assumes nothing.
use mathlib.Core.Path.{◌≡◌, refl, sym, ap, ◌∙◌}
use mathlib.Core.List.{List, [], ◌∷◌}
use Prim.Native.Nat.{ℕ, ◌+◌, ◌*◌, ◌<◌}
use native.Mathlib.Nat.{zero-add, add-zero}
use native.Mathlib.Omega.{arith}
use Rattle.std.specs.Int.{w16, w32, w64, from_le_bytes, from_be_bytes, to_le_bytes, to_be_bytes}
use Rattle.words.specs.Bytes.{byte, number, word16, word32, word64, high16, high32, bytes_of, bytes_high, part}
use Rattle.words.proofs.ByteLaws.{number_shift, byte-part, bytes_of-four, bytes_high-four, bytes_high-two}

-- ---- bytes of a number

pub le_bytes-four : (x : ℕ) → to_le_bytes w32 x ≡ bytes_of 4 x
le_bytes-four x = sym (bytes_of-four x)

pub be_bytes-four : (x : ℕ) → to_be_bytes w32 x ≡ bytes_high 4 x
be_bytes-four x = sym (bytes_high-four x)

pub be_bytes-two : (x : ℕ) → to_be_bytes w16 x ≡ bytes_high 2 x
be_bytes-two x = sym (bytes_high-two x)

-- ---- numbers of bytes

module _ (s : List ℕ) (at : ℕ) where
  number-part : (n : ℕ) → number (byte (part at n s)) 0 n ≡ number (byte s) at n
  number-part n = number_shift (byte (part at n s)) (byte s) 0 at n (λ k h. rw zero-add (byte-part s at n k h))

  pub le-word16 : from_le_bytes w16 (part at 2 s) ≡ word16 s at
  unfolding word16 number
  le-word16 = let l = part at 2 s in let e : from_le_bytes w16 l ≡ number (byte l) 0 2 = omega arith in e ∙ number-part 2

  pub le-word32 : from_le_bytes w32 (part at 4 s) ≡ word32 s at
  unfolding word32 number
  le-word32 = let l = part at 4 s in let e : from_le_bytes w32 l ≡ number (byte l) 0 4 = omega arith in e ∙ number-part 4

  pub le-word64 : from_le_bytes w64 (part at 8 s) ≡ word64 s at
  unfolding word64 number
  le-word64 = let l = part at 8 s in let e : from_le_bytes w64 l ≡ number (byte l) 0 8 = omega arith in e ∙ number-part 8

  first-part : (n : ℕ) → 0 < n → byte (part at n s) 0 ≡ byte s at
  first-part n h = byte-part s at n 0 h ∙ ap (byte s) (add-zero at)

  pub be-high16 : from_be_bytes w16 (part at 2 s) ≡ high16 s at
  be-high16 =
      let l = part at 2 s in
      let e : from_be_bytes w16 l ≡ byte l 0 * 256 + byte l 1 = refl in
      e ∙ omega (arith, first-part 2 (omega arith), byte-part s at 2 1 (omega arith))

  -- eight bytes that are read one by one
  abbrev eight : List ℕ
  eight =
      byte s at ∷ byte s (at + 1) ∷ byte s (at + 2) ∷ byte s (at + 3) ∷ byte s (at + 4) ∷ byte s (at + 5) ∷ byte s (at + 6) ∷ byte s (at + 7) ∷ []

  pub each-word64 : from_le_bytes w64 eight ≡ word64 s at
  each-word64 =
      let p : (k : ℕ) → k < 8 → byte (part at 8 s) k ≡ byte s (at + k) = byte-part s at 8 in
      let e : from_le_bytes w64 eight ≡ from_le_bytes w64 (part at 8 s) =
      omega
      (arith, first-part 8 (omega arith), p 1 (omega arith), p 2 (omega arith), p 3 (omega arith), p 4 (omega arith), p 5 (omega arith), p 6 (omega arith), p 7 (omega arith)) in
      e ∙ le-word64

  pub be-high32 : from_be_bytes w32 (part at 4 s) ≡ high32 s at
  be-high32 =
      let l = part at 4 s in
      let e : from_be_bytes w32 l ≡ byte l 0 * 16777216 + byte l 1 * 65536 + byte l 2 * 256 + byte l 3 = refl in
      let third : byte l 3 ≡ byte s (at + 2 + 1) = byte-part s at 4 3 (omega arith) ∙ ap (byte s) (omega arith) in
      e ∙ omega (arith, first-part 4 (omega arith), byte-part s at 4 1 (omega arith), byte-part s at 4 2 (omega arith), third)
