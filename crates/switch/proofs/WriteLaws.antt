-- The packets of changed upstream wires as they are written: one wire, and the four in their order. Assumes nothing.
use mathlib.Core.Path.{◌≡◌, refl, sym, ap, ◌∙◌}
use mathlib.Core.Bool.{Bool, true, false, beq}
use mathlib.Core.List.{List, ◌++◌, append-nil}
use Prim.Native.Nat.{ℕ, ◌+◌, ◌-◌, ◌≤◌, ◌<◌}
use native.Mathlib.Omega.{arith}
use lib.ListN.{length, get_or, length-append}
use Rattle.words.specs.Lists.{join, count}
use Rattle.words.specs.Writers.{Wrote}
use Rattle.words.proofs.ListLaws.{count-append, join-append}
use Rattle.model.specs.Packets.{wire_message}
use Rattle.model.proofs.Vectors.PacketLaws.{wire-length}
use Rattle.switch.specs.Switches.{wire_of}
use Rattle.switch.specs.Calls.{own_requester, change_of, changes}
use Rattle.switch.proofs.ChangeLaws.{no_change, change_packet}

-- ---- one wire

module _ (requester pin : ℕ) (b a : Bool) where
  pub none-sent : beq b a ≡ true → 0 ≡ length (change_of requester (λ q. b) (λ q. a) pin)
  none-sent e = sym (ap length (no_change requester (λ q. b) (λ q. a) pin e))

  pub one-sent : beq b a ≡ false → 16 ≡ length (change_of requester (λ q. b) (λ q. a) pin)
  one-sent e = sym (ap length (change_packet requester (λ q. b) (λ q. a) pin e) ∙ wire-length (own_requester requester) pin a)

  pub none_written : beq b a ≡ true → (out : List ℕ) → Wrote (change_of requester (λ q. b) (λ q. a) pin) out 0 out
  none_written e out = rw (no_change requester (λ q. b) (λ q. a) pin e) (record { count = refl; bytes = refl })

  pub one_written : beq b a ≡ false → (out out' : List ℕ) (n : ℕ) → Wrote (wire_message (own_requester requester) pin a) out n out'
      → Wrote (change_of requester (λ q. b) (λ q. a) pin) out n out'
  one_written e out out' n w = rw (change_packet requester (λ q. b) (λ q. a) pin e) w

-- ---- four wires before and after, at places 0 to 3

module _ (requester : ℕ) (b a : List Bool) where
  -- the packet of the wire at place i
  abbrev pub packet_at : ℕ → List ℕ
  packet_at i = change_of requester (λ q. get_or b i false) (λ q. get_or a i false) (i + 1)

  -- the packets of the first n wires
  abbrev pub packets_to : ℕ → List ℕ
  packets_to n = join (change_of requester (wire_of b) (wire_of a)) (count 1 n)

  at_place : (n : ℕ) → change_of requester (wire_of b) (wire_of a) (1 + n) ≡ packet_at n
  unfolding change_of
  at_place n =
      let place : 1 + n - 1 ≡ n = omega arith in
      let pin : 1 + n ≡ n + 1 = omega arith in
      rw (place, pin)

  pub next_packet : (n : ℕ) → packets_to (n + 1) ≡ packets_to n ++ packet_at n
  unfolding join count
  next_packet n =
      let f = change_of requester (wire_of b) (wire_of a) in
      ap (join f) (count-append 1 n 1) ∙ join-append f (count 1 n) (count (1 + n) 1)
      ∙ ap (λ (l : List ℕ). packets_to n ++ l) (append-nil (f (1 + n)) ∙ at_place n)

  next-length : (n : ℕ) → length (packets_to (n + 1)) ≡ length (packets_to n) + length (packet_at n)
  next-length n = ap length (next_packet n) ∙ length-append (packets_to n) (packet_at n)

  pub all-packets : packets_to 4 ≡ changes requester (wire_of b) (wire_of a)
  unfolding changes
  all-packets = refl

  pub all-lengths : length (packet_at 0) + length (packet_at 1) + length (packet_at 2) + length (packet_at 3) ≡ length (changes requester (wire_of b) (wire_of a))
  unfolding join count
  all-lengths =
      let whole = ap length all-packets in
      omega (arith, whole, next-length 0, next-length 1, next-length 2, next-length 3)

  -- the packet at a place fits where all do
  pub packet_fits : (n : ℕ) → n < 4 → length (packets_to n) + length (packet_at n) ≤ length (changes requester (wire_of b) (wire_of a))
  unfolding join count
  packet_fits n h =
      let f = change_of requester (wire_of b) (wire_of a) in
      let rest : 4 ≡ n + 1 + (3 - n) = omega (arith, h) in
      let whole : length (changes requester (wire_of b) (wire_of a)) ≡ length (packets_to (n + 1)) + length (join f (count (1 + (n + 1)) (3 - n))) =
      ap length (sym all-packets ∙ ap packets_to rest ∙ ap (join f) (count-append 1 (n + 1) (3 - n)) ∙ join-append f (count 1 (n + 1)) (count (1 + (n + 1)) (3 - n)))
      ∙ length-append (packets_to (n + 1)) (join f (count (1 + (n + 1)) (3 - n))) in
      omega (arith, whole, next-length n)

  -- the packets of the first n wires stand in the output
  pub record Sending (out₀ out : List ℕ) (at n : ℕ) : Type 0 where
    pub most : n ≤ 4
    pub same : length out ≡ length out₀
    pub wrote : Wrote (packets_to n) out₀ at out
