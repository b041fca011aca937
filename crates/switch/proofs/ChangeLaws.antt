-- The packets that changes of the upstream wires send, of one pin and of all four.
-- Assumes nothing.
use mathlib.Core.Path.{◌≡◌, refl}
use mathlib.Core.Bool.{Bool, true, false, cond, not, ◌&&◌, beq, false≢true}
use mathlib.Core.List.{List, []}
use Prim.Native.Nat.{ℕ, ◌≤◌}
use native.Mathlib.Omega.{arith}
use lib.ListN.{length}
use Rattle.words.specs.Lists.{count}
use Rattle.words.proofs.BoolLaws.{beq_refl, cond_elim}
use Rattle.words.proofs.ListLaws.{member-count, join-length, join_members, join-empty, join_one, length-count}
use Rattle.model.specs.Packets.{wire_message}
use Rattle.model.proofs.Vectors.PacketLaws.{wire-length}
use Rattle.switch.specs.Calls.{own_requester, change_of, changes}

-- ---- one pin

module _ (requester : ℕ) (before after : ℕ → Bool) (x : ℕ) where
  -- a pin at the level that it had sends nothing
  pub no_change : beq (before x) (after x) ≡ true → change_of requester before after x ≡ []
  unfolding change_of
  no_change e = rw e

  -- and else a packet with its new level
  pub change_packet : beq (before x) (after x) ≡ false → change_of requester before after x ≡ wire_message (own_requester requester) x (after x)
  unfolding change_of
  change_packet e = rw e

  pub change_length : length (change_of requester before after x) ≤ 16
  unfolding change_of
  change_length =
      cond_elim (λ (l : List ℕ). length l ≤ 16) (beq (before x) (after x)) (λ _. omega arith)
      (λ _. omega (arith, wire-length (own_requester requester) x (after x)))

-- ---- every upstream pin

-- levels that agree at the upstream pins change alike
pub changes-agree : (requester : ℕ) (before after before' after' : ℕ → Bool) → ((q : ℕ) → 1 ≤ q → q ≤ 4 → (before q ≡ before' q) × (after q ≡ after' q))
    → changes requester before after ≡ changes requester before' after'
unfolding changes change_of
changes-agree requester before after before' after' h =
    join_members (change_of requester before after) (change_of requester before' after') (count 1 4)
    (λ q m. let p = member-count 1 4 q m in let e = h q p.0 (omega (arith, p.1)) in rw (e.0, e.1))

-- a switch that stays sends no change
pub no_changes : (requester : ℕ) (f : ℕ → Bool) → changes requester f f ≡ []
unfolding changes
no_changes requester f = join-empty (change_of requester f f) (count 1 4) (λ x _. no_change requester f f x (beq_refl (f x)))

pub changes-length : (requester : ℕ) (before after : ℕ → Bool) → length (changes requester before after) ≤ 64
unfolding changes
changes-length requester before after =
    let n : length (count 1 4) ≡ 4 = length-count 1 4 in
    omega (arith, join-length (change_of requester before after) 16 (count 1 4) (change_length requester before after))

-- changes of one upstream pin at most
pub changes-one : (requester : ℕ) (before after : ℕ → Bool) (v : ℕ) → 1 ≤ v → v ≤ 4 → ((q : ℕ) → (q ≡ v → ⊥) → after q ≡ before q)
    → changes requester before after ≡ change_of requester before after v
unfolding changes
changes-one requester before after v first last h =
    join_one (change_of requester before after) v 1 4 (λ x n. no_change requester before after x (rw (h x n) (beq_refl (before x)))) first (omega arith)

-- a wire that is active after only if it was before: a Deassert, if it is no more
pub change_deasserts : (requester : ℕ) (before after : ℕ → Bool) (q : ℕ) → (after q ≡ true → before q ≡ true)
    → change_of requester before after q ≡ cond (before q && not (after q)) (wire_message (own_requester requester) q false) []
unfolding change_of
change_deasserts requester before after q = go (before q) (after q)
  where
    go : (a b : Bool) → (b ≡ true → a ≡ true)
        → cond (beq a b) [] (wire_message (own_requester requester) q b) ≡ cond (a && not b) (wire_message (own_requester requester) q false) []
    go true true f = refl
    go true false f = refl
    go false true f = absurd (false≢true (f refl))
    go false false f = refl
