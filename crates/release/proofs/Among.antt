-- A loop over the set bits of a word: what is known of those that are left. Assumes nothing.
use mathlib.Core.Path.{◌≡◌, sym, subst, ◌∙◌}
use mathlib.Core.Bool.{true}
use mathlib.Core.List.{List, ◌∷◌}
use Prim.Native.Nat.{ℕ, ◌+◌, ◌^◌, ◌<◌}
use native.Mathlib.Omega.{arith}
use Rattle.words.specs.Lists.{count, member}
use Rattle.words.specs.Bits.{bit}
use Rattle.words.proofs.BoolLaws.{both}
use Rattle.words.proofs.ListLaws.{Holds, holds_head, holds_tail, member-keep, member-count}
use Rattle.words.proofs.BitLaws.{bit_above}
use Rattle.words.proofs.ListLaws.{keep-below}
use Rattle.release.specs.Owed.{set_bits, entries, Backed}

-- each is a set bit of the word w of k bits
abbrev pub Among : (k w : ℕ) → List ℕ → Type 0
Among k w l = Holds (λ j. (j < k) × (bit w j ≡ true)) l

pub among_all : (k w : ℕ) → Among k w (set_bits k w)
among_all k w j m =
    let e = both (bit w j) (member j (count 0 k)) (sym (member-keep (bit w) (count 0 k) j) ∙ m) in
    let q = member-count 0 k j e.1 in
    (omega arith, e.0)

-- of the first of them, and of the others
pub among_first : (k w v : ℕ) (l m : List ℕ) → l ≡ v ∷ m → Among k w l → (v < k) × (bit w v ≡ true)
among_first k w v l m e a = holds_head (λ j. (j < k) × (bit w j ≡ true)) v m (subst (Among k w) e a)

pub among_others : (k w v : ℕ) (l m : List ℕ) → l ≡ v ∷ m → Among k w l → Among k w m
among_others k w v l m e a = holds_tail (λ j. (j < k) × (bit w j ≡ true)) v m (subst (Among k w) e a)

-- each has its entry
pub among_backed : (table : List ℕ) (base w v : ℕ) (l m : List ℕ) → Backed table base w → l ≡ v ∷ m → Among 64 w l → base + v < entries table
among_backed table base w v l m b e a = b v (among_first 64 w v l m e a).1

-- a word of 32 bits as one of 64
pub widened : (w : ℕ) → w < 2 ^ 32 → set_bits 32 w ≡ set_bits 64 w
widened w h = keep-below (bit w) 32 64 (omega arith) (λ v l. bit_above 32 w v h l)
