-- An event: its refusal, what it raises, and that nothing follows its own packet. Assumes nothing.
use mathlib.Core.Path.{◌≡◌, ap, ◌∙◌}
use mathlib.Core.Bool.{true, false}
use mathlib.Core.List.{List, [], ◌++◌, append-nil}
use mathlib.Core.Option.{Option, none, some}
use Prim.Native.Nat.{ℕ, ◌≤◌, ◌<◌}
use borrow.Author.Tests.{le-leb, lt-leb}
use Rattle.words.specs.Lists.{first_of}
use Rattle.words.specs.Bits.{set_bit}
use Rattle.model.specs.declared.Answer.TheVariants.{Sent, Held, Merged, Lost}
use Rattle.model.specs.declared.Mode.{Mode}
use Rattle.model.specs.declared.Shape.{Shape}
use Rattle.model.specs.World.{World, Endpoint, registers}
use Rattle.model.specs.Vectors.{mode_of, is_open, waits, vector_of, change_waiting}
use Rattle.model.specs.Packets.{message_of}
use Rattle.model.specs.Release.{Raised, raise, raise_vector, raised_by}
use Rattle.model.specs.Sound.{shape, sound}
use Rattle.model.specs.Calls.{event, rows, changed, next, sends, answer_of, if_room, raise_of, performed}
use Rattle.model.proofs.Sound.SoundLaws.{is-sound}
use Rattle.model.proofs.Vectors.EventLaws.{event-settled, event-bytes}
use Rattle.model.proofs.Calls.CallLaws.{performed-room}

-- ---- the call

-- 2
pub event-refused : (u : Endpoint) (e : ℕ) (out : List ℕ) → u.function.events ≤ e → first_of (rows u (event e out)) ≡ 2
unfolding rows first_of
event-refused u e out h = rw (le-leb u.function.events e h)

event_passed : (u : Endpoint) (e : ℕ) (out : List ℕ) → e < u.function.events → first_of (rows u (event e out)) ≡ 0
unfolding rows first_of
event_passed u e out h = rw (lt-leb u.function.events e h)

module _ (w : World) (e : ℕ) (out : List ℕ) (k : sound w ≡ true) (h : e < w.endpoint.function.events) where
  abbrev raised : Raised
  raised = raised_by (shape w.endpoint) w.endpoint e

  bytes : sends w (event e out) ≡ raised.bytes
  unfolding sends changed
  bytes = ap (λ (l : List ℕ). raised.bytes ++ l) (event-bytes w (is-sound w k) e h) ∙ append-nil raised.bytes

  -- 6, or accepted
  pub event-room : performed w (event e out) ≡ raise_of w raised out
  unfolding next changed answer_of
  event-room =
      performed-room w (event e out) (event_passed w.endpoint e out h)
      ∙ (λ i. if_room w (event-settled w (is-sound w k) e h i) raised.answer (bytes i) out)

-- ---- what an event raises

-- for vector v of the mechanism m
module _ (m : Mode) (s : Shape) (u : Endpoint) (v : ℕ) where
  pub raised_open : is_open m s (registers u) v ≡ true
      → raise_vector m s u v ≡ record { endpoint = u; bytes = message_of m s u.function.requester (registers u) v; answer = Sent }
  unfolding raise_vector
  raised_open e = rw e

  module _ (shut : is_open m s (registers u) v ≡ false) where
    pub raised-merged : waits m u v ≡ true → raise_vector m s u v ≡ record { endpoint = u; bytes = []; answer = Merged }
    unfolding raise_vector
    raised-merged e = rw (shut, e)

    pub raised-held : waits m u v ≡ false → raise_vector m s u v ≡ record { endpoint = change_waiting set_bit m u v; bytes = []; answer = Held }
    unfolding raise_vector
    raised-held e = rw (shut, e)

-- with the mechanism m in force
module _ (m : Mode) (s : Shape) (u : Endpoint) (e : ℕ) (f : mode_of s (registers u) ≡ m) where
  raised_meant : (x : Option ℕ) → vector_of m s (registers u) e ≡ x → raised_by s u e ≡ raise m s u x
  unfolding raised_by
  raised_meant x q = ap (λ (n : Mode). raise n s u (vector_of n s (registers u) e)) f ∙ ap (raise m s u) q

  pub raised_lost : vector_of m s (registers u) e ≡ none → raised_by s u e ≡ record { endpoint = u; bytes = []; answer = Lost }
  unfolding raise
  raised_lost q = raised_meant none q

  pub raised_vector : (v : ℕ) → vector_of m s (registers u) e ≡ some v → raised_by s u e ≡ raise_vector m s u v
  unfolding raise
  raised_vector v q = raised_meant (some v) q
