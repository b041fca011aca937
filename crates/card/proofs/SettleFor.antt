-- The ways out of what follows a change: 6, or the wire's packet and then the open waiting vectors'. Assumes nothing.
use mathlib.Core.Path.{◌≡◌, sym, ap, ap₂, ◌∙◌}
use mathlib.Core.Bool.{Bool}
use mathlib.Core.List.{List, ◌++◌}
use Prim.Native.Nat.{ℕ, ◌+◌, ◌-◌, ◌≤◌, ◌<◌}
use native.Mathlib.Omega.{arith}
use lib.ListN.{length, length-append}
use borrow.Rule.Slice.PartMut.{put_mid, mid_of}
use Rattle.words.specs.Writers.{over, Wrote}
use Rattle.words.proofs.Writers.{behind}
use Rattle.model.specs.declared.Answer.TheVariants.{Done}
use Rattle.model.specs.declared.Card.{Card}
use Rattle.model.specs.declared.Function.{Function}
use Rattle.model.specs.declared.Shape.{Shape}
use Rattle.model.specs.declared.Profile.{Profile}
use Rattle.model.specs.World.{Endpoint, registers, world_of, function_of, endpoint_of}
use Rattle.model.specs.Vectors.{command_bit}
use Rattle.model.proofs.BytesBound.{sweep_le}
use Rattle.vectors.specs.Given.{regs}
use Rattle.model.specs.Release.{pin_number, wire_due_of, wire_change, sweep_bytes, swept, settled, settle_bytes}
use Rattle.model.specs.Calls.{settle_of}
use Rattle.model.proofs.Calls.CallLaws.{room-short, room_fits}
use Rattle.model.proofs.Calls.SettleCalls.{wire-first}
use Rattle.endpoint.specs.declared.sweep.Sent.{Sent}
use Rattle.endpoint.specs.Sweeps.{Swept}
use Rattle.wire.specs.declared.Wiring.{Wiring}
use Rattle.wire.specs.declared.Wired.{Wired}
use Rattle.wire.specs.Wires.{Owed, owed_of, bytes_owed, size_of, with_mode}
use Rattle.wire.proofs.WireLaws.{owed_is, owed-length, at_level, settled-mode, size_small}
use Rattle.card.specs.declared.outcome.Outcome.{Outcome}
use Rattle.card.specs.Outcomes.{refused_with, accepted_with, after}
use Rattle.card.specs.Running.{Unsettled}

-- a changed function u of shape s on a card with buffers t and p, and the packet o that the wire owes
module _ (card : Card) (t p : List ℕ) (s : Shape) (u : Endpoint) (o : Owed) (eo : o ≡ owed_of card.wire (wire_due_of s u)) where
  wire-bytes : bytes_owed o u.function.requester (pin_number (registers u)) ≡ wire_change u.function.requester (registers u) card.wire (wire_due_of s u)
  wire-bytes = rw eo (owed_is u.function.requester (registers u) card.wire (wire_due_of s u))

  all-bytes : bytes_owed o u.function.requester (pin_number (registers u)) ++ sweep_bytes s u ≡ settle_bytes s card.wire u
  all-bytes = wire-first s card.wire u (bytes_owed o u.function.requester (pin_number (registers u))) wire-bytes

  module _ (first rest : ℕ) (e₁ : first ≡ size_of o) (e₂ : rest ≡ length (sweep_bytes s u)) where
    size_is : first + rest ≡ length (settle_bytes s card.wire u)
    size_is =
        ap₂ ◌+◌ (e₁ ∙ sym (owed-length o u.function.requester (pin_number (registers u)))) e₂
        ∙ sym (length-append (bytes_owed o u.function.requester (pin_number (registers u))) (sweep_bytes s u)) ∙ ap length all-bytes

    -- 6
    pub settle-short : (out : List ℕ) (r : Outcome) → length out < first + rest → r ≡ refused_with card 6 → after r t p out ≡ settle_of (world_of card t p) s u out
    settle-short out r h er =
        ap (λ (x : Outcome). after x t p out) er
        ∙ sym (room-short (world_of card t p) (settled s u) Done (settle_bytes s card.wire u) out (omega (arith, size_is)))

    pub settle-done : (out o₁ ys p' : List ℕ) (at pin : ℕ) (sent : Sent) (level : Bool) (g : Function) (r : Outcome)
        → first + rest ≤ length out → pin ≡ pin_number (registers u) → Wrote (bytes_owed o u.function.requester pin) out at o₁
        → Swept (sweep_bytes s u) u (swept s u) (mid_of at (length o₁ - at) o₁) sent p' ys → level ≡ wire_due_of s u
        → g ≡ function_of u.function.config u.function.sizes u.function.events u.function.requester u.function.line sent.waiting
        → r ≡ accepted_with (record { function = g; wire = level }) Done (at + sent.count)
        → after r u.table p' (put_mid at (length o₁ - at) o₁ ys) ≡ settle_of (world_of card t p) s u out
    settle-done out o₁ ys p' at pin sent level g r h ep a b el eg er =
        let both = behind (bytes_owed o u.function.requester pin) (sweep_bytes s u) out o₁ ys at sent.count a b.sent in
        let bytes : bytes_owed o u.function.requester pin ++ sweep_bytes s u ≡ settle_bytes s card.wire u = rw ep all-bytes in
        let world : world_of (record { function = g; wire = level }) u.table p' ≡ settled s u =
        ap₂ (λ (f : Function) (l : Bool). world_of (record { function = f; wire = l }) u.table p') eg el
        ∙ ap (λ (v : Endpoint). record { endpoint = v; wire = wire_due_of s u }) b.left in
        ap (λ (x : Outcome). after x u.table p' (put_mid at (length o₁ - at) o₁ ys)) er
        ∙ (λ i.
        record {
          world = world i;
          answer = Done;
          count = (both.count ∙ ap length bytes) i;
          output = (both.bytes ∙ ap (λ (l : List ℕ). over l out) bytes) i;
        })
        ∙ sym (room_fits (world_of card t p) (settled s u) Done (settle_bytes s card.wire u) out (omega (arith, size_is)))

-- the level that the wire goes to, and the packet of that, of a function f with lent buffers t and p after a change
pub settle-wire : (card : Card) (f : Function) (t p : List ℕ) (w : Wiring) (k : Profile) → Unsettled card f t p w k
    → (d : Bool) → ((t : List ℕ) → d ≡ command_bit (regs f.config t) 10) → (r : Wired) → r ≡ with_mode w k.mode d
    → (r.wiring.wire ≡ wire_due_of k.shape (endpoint_of f t p)) × (r.owed ≡ owed_of card.wire (wire_due_of k.shape (endpoint_of f t p)))
settle-wire card f t p w k un d ed r er =
    at_level _ _ _
    (er
    ∙ settled-mode w k.shape f.line card.wire (registers (endpoint_of f t p)) k.mode d un.line un.wire (un.pin t)
    (sym (un.profiled.mode t)) (ed t))

-- both parts are few bytes, and fit if the output is long enough
pub settle_few : (card : Card) (f : Function) (t p : List ℕ) (w : Wiring) (k : Profile) → Unsettled card f t p w k
    → (o : Owed) (first rest : ℕ) → first ≡ size_of o → rest ≡ length (sweep_bytes k.shape (endpoint_of f t p)) → first + rest ≤ 40976
settle_few card f t p w k un o first rest ef er = omega (arith, size_small o, ef, sweep_le _ _ un.ready, er)
