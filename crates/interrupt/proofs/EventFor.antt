-- An event by the code and by the definition. Assumes nothing.
use mathlib.Core.Path.{◌≡◌, refl, sym, ap, ◌∙◌}
use mathlib.Core.Bool.{Bool, true, false}
use mathlib.Core.List.{List, []}
use mathlib.Core.Option.{Option, none, some}
use Prim.Native.Nat.{ℕ, ◌≤◌, ◌<◌}
use native.Mathlib.Omega.{arith}
use lib.ListN.{length}
use Rattle.words.specs.Bits.{set_bit}
use Rattle.words.specs.Writers.{over, Wrote}
use Rattle.model.specs.declared.Answer.{Answer}
use Rattle.model.specs.declared.Answer.TheVariants.{Sent, Held, Merged, Lost}
use Rattle.model.specs.declared.Card.{Card}
use Rattle.model.specs.declared.Function.{Function}
use Rattle.model.specs.declared.Mode.{Mode}
use Rattle.model.specs.declared.Profile.{Profile}
use Rattle.model.specs.declared.Shape.{Shape}
use Rattle.model.specs.declared.Vector.{Vector}
use Rattle.model.specs.World.{World, Endpoint, registers, world_of, function_of, endpoint_of}
use Rattle.model.specs.Vectors.{mode_of, is_open, waits, vector_count, vector_of, change_waiting}
use Rattle.model.specs.Packets.{message, message_size, message_of}
use Rattle.model.specs.Release.{Raised, raise_vector, raised_by}
use Rattle.model.specs.Sound.{shape}
use Rattle.model.specs.Calls.{event, accepted, raise_of, performed}
use Rattle.model.proofs.Calls.CallLaws.{room-short, room_fits}
use Rattle.model.proofs.Vectors.PacketLaws.{message-length}
use Rattle.model.proofs.Vectors.EventLaws.{vector_counted}
use Rattle.model.proofs.Calls.EventCalls as EventCalls
use Rattle.model.proofs.Calls.EventCalls.{event-room, raised_lost, raised_vector}
use Rattle.std.specs.Prelude as Prelude
use Rattle.vectors.specs.Mapping.{vector_in}
use Rattle.card.specs.declared.outcome.Outcome.{Outcome}
use Rattle.card.specs.Outcomes.{refused_with, accepted_with, after}
use Rattle.card.specs.Running.{Running}
use Rattle.card.proofs.SoundFor.{running-endpoint}
use Rattle.interrupt.specs.Raises.{sent_by, fated}
use Rattle.interrupt.specs.declared.event.Fate.{Fate}

-- ---- the outcome of an event

-- an open vector's message, of n bytes
module _ (card : Card) (t p out : List ℕ) (m : Mode) (s : Shape) (v : ℕ) (upper address value n : ℕ)
    (em : message card.function.requester upper address value ≡ message_of m s card.function.requester (registers (world_of card t p).endpoint) v)
    (en : n ≡ message_size upper) where
  message-size : n ≡ length (message_of m s card.function.requester (registers (world_of card t p).endpoint) v)
  message-size = en ∙ sym (message-length card.function.requester upper address value) ∙ ap length em

  abbrev sending : Raised
  sending = sent_by m s (world_of card t p).endpoint v

  -- 6
  pub send_short : (r : Outcome) → length out < n → r ≡ refused_with card 6 → after r t p out ≡ raise_of (world_of card t p) sending out
  send_short r h er =
      ap (λ (x : Outcome). after x t p out) er
      ∙ sym (room-short (world_of card t p) (world_of card t p) Sent sending.bytes out (omega (arith, message-size)))

  pub send_done : (at : ℕ) (o₁ : List ℕ) (r : Outcome) → n ≤ length out → Wrote (message card.function.requester upper address value) out at o₁
      → r ≡ accepted_with card Sent at → after r t p o₁ ≡ raise_of (world_of card t p) sending out
  send_done at o₁ r h a er =
      ap (λ (x : Outcome). after x t p o₁) er
      ∙ (λ i.
      record {
        world = world_of card t p;
        answer = Sent;
        count = (a.count ∙ ap length em) i;
        output = (a.bytes ∙ ap (λ (l : List ℕ). over l out) em) i;
      })
      ∙ sym (room_fits (world_of card t p) (world_of card t p) Sent sending.bytes out (omega (arith, message-size)))

-- nothing is sent
quiet : (w : World) (u : Endpoint) (a : Answer) (out : List ℕ)
    → accepted (record { endpoint = u; wire = w.wire }) a [] out ≡ raise_of w (record { endpoint = u; bytes = []; answer = a }) out
quiet w u a out = sym (room_fits w (record { endpoint = u; wire = w.wire }) a [] out (omega arith))

module _ (card : Card) (t p out : List ℕ) (m : Mode) (s : Shape) (v : ℕ) (b : Bool) (eb : b ≡ is_open m s (registers (world_of card t p).endpoint) v) where
  abbrev w : World
  w = world_of card t p

  pub raised_open : b ≡ true → raise_of w (sent_by m s w.endpoint v) out ≡ raise_of w (raise_vector m s w.endpoint v) out
  raised_open e = ap (λ (x : Raised). raise_of w x out) (sym (EventCalls.raised_open m s w.endpoint v (sym eb ∙ e)))

  module _ (k : Bool) (ek : k ≡ waits m w.endpoint v) where
    pub raised-merged : (r : Outcome) → b ≡ false → k ≡ true → r ≡ accepted_with card Merged 0 → after r t p out ≡ raise_of w (raise_vector m s w.endpoint v) out
    raised-merged r e h er =
        ap (λ (x : Outcome). after x t p out) er ∙ quiet w w.endpoint Merged out
        ∙ ap (λ (x : Raised). raise_of w x out) (sym (EventCalls.raised-merged m s w.endpoint v (sym eb ∙ e) (sym ek ∙ h)))

    pub raised-held : (p' : List ℕ) (g : Function) (r : Outcome) → b ≡ false → k ≡ false → endpoint_of g t p' ≡ change_waiting set_bit m w.endpoint v
        → r ≡ accepted_with (record { function = g; wire = card.wire }) Held 0 → after r t p' out ≡ raise_of w (raise_vector m s w.endpoint v) out
    raised-held p' g r e h q er =
        ap (λ (x : Outcome). after x t p' out) er
        ∙ ap (λ (u : Endpoint). accepted (record { endpoint = u; wire = card.wire }) Held [] out) q
        ∙ quiet w (change_waiting set_bit m w.endpoint v) Held out
        ∙ ap (λ (x : Raised). raise_of w x out) (sym (EventCalls.raised-held m s w.endpoint v (sym eb ∙ e) (sym ek ∙ h)))

-- the outcome that the code builds from what became of an event or a withdrawal
pub fate_outcome : (card : Card) (x : Fate) (g : Function) (r : Outcome) (t p out : List ℕ)
    → g ≡ function_of card.function.config card.function.sizes card.function.events card.function.requester card.function.line x.waiting
    → r ≡ accepted_with (record { function = g; wire = card.wire }) x.answer x.count → after r t p out ≡ after (fated card x) t p out
fate_outcome card x g r t p out eg er = rw (er, eg)

-- no vector is meant
pub none_of : (m : Prelude.Option Vector) → ((v : Vector) → m ≡ Prelude.Some v → ⊥) → m ≡ Prelude.None
none_of Prelude.None f = refl
none_of (Prelude.Some v) f = absurd (f v refl)

-- ---- the call on a sound card

module _ (card : Card) (t p out : List ℕ) (k : Profile) (r : Running card t p k) (e : ℕ) (h : e < card.function.events) where
  abbrev on : World
  on = world_of card t p

  mode-now : mode_of (shape on.endpoint) (registers on.endpoint) ≡ k.mode
  mode-now = rw (← r.shaped) (r.profiled.mode t)

  event_is : (x : Raised) → raised_by (shape on.endpoint) on.endpoint e ≡ x → raise_of on x out ≡ performed on (event e out)
  event_is x q = ap (λ (y : Raised). raise_of on y out) (sym q) ∙ sym (event-room on e out r.is_sound h)

  -- what the code finds that the event means
  module _ (m : Prelude.Option Vector) (em : vector_in m ≡ vector_of k.mode k.shape (registers on.endpoint) e) where
    meant : (x : Option ℕ) → vector_in m ≡ x → vector_of k.mode (shape on.endpoint) (registers on.endpoint) e ≡ x
    meant x q = rw (← r.shaped) (sym em ∙ q)

    pub event-lost : m ≡ Prelude.None → (a : Outcome) → a ≡ accepted_with card Lost 0 → after a t p out ≡ performed on (event e out)
    unfolding vector_in
    event-lost q a ea =
        ap (λ (x : Outcome). after x t p out) ea ∙ quiet on on.endpoint Lost out
        ∙ event_is _ (raised_lost k.mode (shape on.endpoint) on.endpoint e mode-now (meant none (ap vector_in q)))

    module _ (v : Vector) (q : m ≡ Prelude.Some v) where
      this : vector_of k.mode (shape on.endpoint) (registers on.endpoint) e ≡ some v.0
      unfolding vector_in
      this = meant (some v.0) (ap vector_in q)

      pub event-vector-counted : v.0 < vector_count k.mode k.shape
      event-vector-counted = rw r.shaped (vector_counted k.mode on.endpoint e v.0 (running-endpoint r) h mode-now this)

      pub event-raised : raise_of on (raise_vector k.mode k.shape on.endpoint v.0) out ≡ performed on (event e out)
      event-raised = rw r.shaped (event_is _ (raised_vector k.mode (shape on.endpoint) on.endpoint e mode-now v.0 this))
