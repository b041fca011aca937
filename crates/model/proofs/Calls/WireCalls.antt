-- Line calls and resets: they send the wire's packet at most. Assumes nothing.
use mathlib.Core.Path.{◌≡◌, refl, ap, ◌∙◌}
use mathlib.Core.Bool.{Bool, true, false}
use mathlib.Core.List.{List, []}
use Prim.Native.Nat.{ℕ}
use Rattle.words.specs.Lists.{first_of}
use Rattle.model.specs.declared.Answer.TheVariants.{Done}
use Rattle.model.specs.declared.Mode.{Mode}
use Rattle.model.specs.declared.Mode.TheVariants.{Pin, Msi, Msix}
use Rattle.model.specs.declared.Shape.{Shape}
use Rattle.model.specs.World.{World, Endpoint, registers, with_line}
use Rattle.model.specs.Vectors.{mode_of, owed, waits, pending_bit}
use Rattle.model.specs.Release.{wire_due, wire_change, owed_now}
use Rattle.model.specs.Sound.{shape, sound}
use Rattle.model.specs.Calls.{Call, line, reset, rows, changed, next, sends, answer_of, reset_endpoint}
use Rattle.model.proofs.Sound.SoundLaws.{SoundEndpoint, is-sound}
use Rattle.model.proofs.Vectors.EventLaws.{swept_none}
use Rattle.model.proofs.Calls.SettleCalls.{line_settles, wire_alone}

-- no row refuses; the function becomes u, and the wire goes to a level
pub record WireOnly (w : World) (c : Call) (u : Endpoint) (level : Bool) : Type 0 where
  pub passed : first_of (rows w.endpoint c) ≡ 0
  pub next : next w c ≡ record { endpoint = u; wire = level }
  pub sends : sends w c ≡ wire_change w.endpoint.function.requester (registers w.endpoint) w.wire level
  pub answer : answer_of w.endpoint c ≡ Done

-- ---- a line call: no vector opens

line-owed : (m : Mode) (s : Shape) (u : Endpoint) (level : Bool) → owed m s (with_line u level) ≡ owed m s u
unfolding owed waits pending_bit
line-owed Pin s u level = refl
line-owed Msi s u level = refl
line-owed Msix s u level = refl

line_quiet : (u : Endpoint) (level : Bool) → SoundEndpoint u → owed_now (shape u) (with_line u level) ≡ []
unfolding owed_now
line_quiet u level k = line-owed (mode_of (shape u) (registers u)) (shape u) u level ∙ k.quiet

pub line-wire : (w : World) (level : Bool) (out : List ℕ) → sound w ≡ true
    → WireOnly w (line level out) (with_line w.endpoint level) (wire_due (shape w.endpoint) level (registers w.endpoint))
unfolding rows first_of
line-wire w level out k =
    let u : Endpoint = w.endpoint in
    let z = line_settles w level out in
    let q = line_quiet u level (is-sound w k).endpoint in
    record {
      passed = refl;
      next = z.next ∙ ap (λ (v : Endpoint). record { endpoint = v; wire = wire_due (shape u) level (registers u) }) (swept_none (shape u) (with_line u level) q);
      sends = z.sends ∙ wire_alone (shape u) w.wire (with_line u level) q;
      answer = z.answer;
    }

-- ---- a reset

pub reset-wire : (w : World) (out : List ℕ) → WireOnly w (reset out) (reset_endpoint w.endpoint) false
unfolding rows first_of next changed sends answer_of
reset-wire w out = record { passed = refl; next = refl; sends = refl; answer = refl }
