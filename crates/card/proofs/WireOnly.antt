-- A call that sends the wire's packet at most. Assumes nothing.
use mathlib.Core.Path.{◌≡◌, sym, ap, ◌∙◌}
use mathlib.Core.Bool.{Bool}
use mathlib.Core.List.{List}
use Prim.Native.Nat.{ℕ, ◌≤◌, ◌<◌}
use native.Mathlib.Omega.{arith}
use lib.ListN.{length}
use Rattle.words.specs.Writers.{over, Wrote}
use Rattle.model.specs.declared.Answer.TheVariants.{Done}
use Rattle.model.specs.declared.Card.{Card}
use Rattle.model.specs.World.{World, Endpoint, registers, world_of}
use Rattle.model.specs.Release.{pin_number}
use Rattle.model.specs.Calls.{Call, next, answer_of, sends, output_of, performed}
use Rattle.model.proofs.Calls.CallLaws.{performed-room, performed-accepted, room-short}
use Rattle.model.proofs.Calls.WireCalls.{WireOnly}
use Rattle.wire.specs.Wires.{Owed, owed_of, bytes_owed, size_of}
use Rattle.wire.proofs.WireLaws.{owed_is, owed-length}
use Rattle.card.specs.declared.outcome.Outcome.{Outcome}
use Rattle.card.specs.Outcomes.{refused_with, accepted_with, after}

-- the function becomes u, and the wire goes to a level: o is the packet that it owes
module _ (card : Card) (t p : List ℕ) (c : Call) (u : Endpoint) (level : Bool) (z : WireOnly (world_of card t p) c u level) (o : Owed)
    (eo : o ≡ owed_of card.wire level) where
  abbrev w : World
  w = world_of card t p

  bytes_are : bytes_owed o card.function.requester (pin_number (registers w.endpoint)) ≡ sends w c
  bytes_are = rw eo (owed_is card.function.requester (registers w.endpoint) card.wire level ∙ sym z.sends)

  size_is : size_of o ≡ length (sends w c)
  size_is = sym (owed-length o card.function.requester (pin_number (registers w.endpoint))) ∙ ap length bytes_are

  -- 6
  pub wire-short : (n : ℕ) (r : Outcome) → n ≡ size_of o → length (output_of c) < n → r ≡ refused_with card 6 → after r t p (output_of c) ≡ performed w c
  wire-short n r en h er =
      ap (λ (x : Outcome). after x t p (output_of c)) er
      ∙ sym (performed-room w c z.passed ∙ room-short w (next w c) (answer_of w.endpoint c) (sends w c) (output_of c) (omega (arith, size_is, en)))

  -- the packet is written, and the code's next card and buffers are those of the definition
  pub wire-done : (n pin at : ℕ) (t' p' o₁ : List ℕ) (card' : Card) (r : Outcome) → n ≡ size_of o → n ≤ length (output_of c) → pin ≡ pin_number (registers w.endpoint)
      → Wrote (bytes_owed o card.function.requester pin) (output_of c) at o₁ → world_of card' t' p' ≡ record { endpoint = u; wire = level }
      → r ≡ accepted_with card' Done at → after r t' p' o₁ ≡ performed w c
  wire-done n pin at t' p' o₁ card' r en h ep a world er =
      let bytes : bytes_owed o card.function.requester pin ≡ sends w c = rw ep bytes_are in
      ap (λ (x : Outcome). after x t' p' o₁) er
      ∙ (λ i.
      record {
        world = (world ∙ sym z.next) i;
        answer = sym z.answer i;
        count = (a.count ∙ ap length bytes) i;
        output = (a.bytes ∙ ap (λ (l : List ℕ). over l (output_of c)) bytes) i;
      })
      ∙ sym (performed-accepted w c z.passed (omega (arith, size_is, en)))
