-- No call makes more than 40,976 bytes of packets, and an image has 294 + 16N + 8 x (N/64 rounded up), at most 33,318. Assumes nothing.
use mathlib.Core.Path.{◌≡◌, ap₂, ◌∙◌, subst}
use mathlib.Core.Bool.{Bool, true, false, ◌&&◌}
use mathlib.Core.List.{List}
use mathlib.Core.Option.{Option, none, some}
use Prim.Native.Nat.{ℕ, ◌+◌, ◌*◌, ◌/◌, ◌≤◌}
use native.Mathlib.Omega.{arith}
use lib.ListN.{length, length-append}
use Rattle.words.specs.Lists.{join, count}
use Rattle.words.proofs.BoolLaws.{cond_elim}
use Rattle.words.proofs.ListLaws.{join-length, keep-length, length-count}
use Rattle.model.specs.declared.Mode.{Mode}
use Rattle.model.specs.declared.Mode.TheVariants.{Pin, Msi, Msix}
use Rattle.model.specs.declared.Shape.{Shape}
use Rattle.model.specs.Shape.{shape_of, table_bytes, pending_bytes}
use Rattle.model.specs.Start.{Given}
use Rattle.model.specs.World.{World, Endpoint, registers}
use Rattle.model.specs.Vectors.{mode_of, owed, vector_count, is_open, waits, vector_of}
use Rattle.model.specs.Packets.{message_of}
use Rattle.model.specs.Release.{Raised, raise, raise_vector, raised_by, owed_now, sweep_bytes, settle_bytes, wire_due_of, bytes_for}
use Rattle.model.specs.Sound.{sound, shape, given_of}
use Rattle.model.specs.Image.{image_of}
use Rattle.model.specs.Claims.{Typed}
use Rattle.model.specs.Calls.{Call, Outcome, is_save, next, sends, step}
use Rattle.model.proofs.Vectors.PacketLaws.{vector_le, change_le}
use Rattle.model.proofs.Sound.SoundLaws.{Accepts, accepts, buffers_fit, is-sound}
use Rattle.model.proofs.Sound.StartLaws.{few-vectors, few-msi}
use Rattle.model.specs.Ready.{Ready}
use Rattle.model.proofs.Vectors.EventLaws.{event-bytes}
use Rattle.model.proofs.Calls.CallLaws.{step_elim}
use Rattle.model.proofs.Calls.Effects.{Effect, reads, settles, raises, withdraws, restarts, effect}
use Rattle.model.proofs.Image.ImageLaws.{image-length}

-- ---- a sweep

vectors-le : (m : Mode) (g : Given) → Accepts g → vector_count m (shape_of g.config) ≤ 2048
unfolding vector_count
vectors-le Pin g k = omega arith
vectors-le Msi g k = omega (arith, few-msi g k)
vectors-le Msix g k = few-vectors g k

owed-length : (m : Mode) (s : Shape) (u : Endpoint) → length (owed m s u) ≤ vector_count m s
unfolding owed
owed-length m s u =
    omega (arith, keep-length (λ v. is_open m s (registers u) v && waits m u v) (count 0 (vector_count m s)), length-count 0 (vector_count m s))

pub sweep_le : (u : Endpoint) (s : Shape) → Ready s u → length (sweep_bytes s u) ≤ 40960
unfolding sweep_bytes bytes_for owed_now
sweep_le u s k =
    let m : Mode = mode_of s (registers u) in
    let a : length (join (message_of m s u.function.requester (registers u)) (owed m s u)) ≤ 20 * length (owed m s u) =
    join-length (message_of m s u.function.requester (registers u)) 20 (owed m s u) (vector_le m s u.function.requester (registers u)) in
    let b : vector_count m s ≤ 2048 = rw k.shaped at (vectors-le m (given_of u) (accepts (given_of u) k.start)) in
    omega (arith, owed-length m s u)

settle_le : (s : Shape) (wire : Bool) (u : Endpoint) → Ready s u → length (settle_bytes s wire u) ≤ 40976
unfolding settle_bytes
settle_le s wire u k = rw length-append (omega (arith, sweep_le u s k, change_le u.function.requester (registers u) wire (wire_due_of s u)))

-- ---- an event's own packet

vector_raised : (m : Mode) (u : Endpoint) (v : ℕ) → length (raise_vector m (shape u) u v).bytes ≤ 20
unfolding raise_vector
vector_raised m u v =
    cond_elim (λ (r : Raised). length r.bytes ≤ 20) (is_open m (shape u) (registers u) v) (λ _. vector_le m (shape u) u.function.requester (registers u) v)
    (λ _. cond_elim (λ (r : Raised). length r.bytes ≤ 20) (waits m u v) (λ _. omega arith) (λ _. omega arith))

raised_le : (m : Mode) (u : Endpoint) (x : Option ℕ) → length (raise m (shape u) u x).bytes ≤ 20
unfolding raise
raised_le m u none = omega arith
raised_le m u (some v) = vector_raised m u v

event-le : (u : Endpoint) (e : ℕ) → length (raised_by (shape u) u e).bytes ≤ 20
unfolding raised_by
event-le u e = raised_le (mode_of (shape u) (registers u)) u (vector_of (mode_of (shape u) (registers u)) (shape u) (registers u) e)

-- ---- every call

sends-le : (w : World) → sound w ≡ true → {v : World} {bytes : List ℕ} → Effect w false v bytes → length bytes ≤ 40976
sends-le w k reads = omega arith
sends-le w k (settles u h) = settle_le (shape w.endpoint) w.wire u h.ready
sends-le w k (raises e h) = rw (length-append, event-bytes w (is-sound w k) e h) (omega (arith, event-le w.endpoint e))
sends-le w k (withdraws v h) = omega arith
sends-le w k restarts = omega (arith, change_le w.endpoint.function.requester (registers w.endpoint) w.wire false)

-- no call makes more than 40,976 bytes of packets
pub bytes_bound : (w : World) (c : Call) → is_save c ≡ false → (step w c).count ≤ 40976
bytes_bound w c s =
    step_elim w c (λ (r : Outcome). r.count ≤ 40976) (λ p. sends-le w p.is_sound (subst (λ (b : Bool). Effect w b (next w c) (sends w c)) s (effect w c p))) (λ _ _. omega arith)

-- a sound card's image has 294 + 16N + 8 x (N/64 rounded up) bytes, at most 33,318
pub image-size : (w : World) → Typed w → sound w ≡ true
    → let n : ℕ = (shape w.endpoint).msix.vectors in
    (length (image_of w) ≡ 294 + 16 * n + 8 * ((n + 63) / 64)) × (length (image_of w) ≤ 33318)
unfolding table_bytes pending_bytes
image-size w t s =
    let ok = accepts (given_of w.endpoint) (is-sound w s).endpoint.start in
    let b = buffers_fit (shape w.endpoint) (length w.endpoint.table) (length w.endpoint.pending) ok.buffers in
    let few = few-vectors (given_of w.endpoint) ok in
    let l = image-length w t b.0 in
    (l ∙ ap₂ (λ (x y : ℕ). 294 + x + y) b.0 b.1, omega arith)
