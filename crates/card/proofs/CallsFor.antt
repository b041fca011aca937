-- The frame of a call: refused with 1, or what the call does to a sound card; and the ways out that cores share. Assumes nothing.
use Rattle.std.specs.Prelude.{Some}
use mathlib.Core.Path.{◌≡◌, sym, ap, ap₂, ◌∙◌}
use mathlib.Core.Bool.{false}
use mathlib.Core.List.{List}
use Prim.Native.Nat.{ℕ}
use lib.Dec.{eqb}
use Rattle.words.specs.Lists.{first_of}
use Rattle.model.specs.declared.Card.{Card}
use Rattle.model.specs.declared.Profile.{Profile}
use Rattle.model.specs.declared.Shape.{Shape}
use Rattle.model.specs.World.{World, Endpoint, world_of}
use Rattle.model.specs.Release.{settled, settle_bytes}
use Rattle.model.specs.Sound.{shape, sound}
use Rattle.model.specs.Calls as Calls
use Rattle.model.specs.Calls.{Call, rows, output_of, if_room, settle_of, performed, step}
use Rattle.model.proofs.Calls.CallLaws.{step_unsound, step-sound, performed-row, performed-room}
use Rattle.model.proofs.Calls.SettleCalls.{Settles}
use Rattle.card.specs.declared.outcome.Outcome.{Outcome}
use Rattle.card.specs.Outcomes.{refused_with, after}
use Rattle.card.specs.declared.sound.Found.{Found}
use Rattle.card.specs.Running.{Running, Wires, Checks}

-- ---- frames: a call c of a card with lent buffers t and p

-- 1
pub frame_refused : (card : Card) (t p : List ℕ) (c : Call) (r : Outcome) → sound (world_of card t p) ≡ false → r ≡ refused_with card 1
    → after r t p (output_of c) ≡ step (world_of card t p) c
frame_refused card t p c r n er = ap (λ (x : Outcome). after x t p (output_of c)) er ∙ sym (step_unsound (world_of card t p) c n)

-- what the core does
pub frame_core : {card : Card} {t p : List ℕ} {k : Profile} → Running card t p k → (c : Call) (o : Calls.Outcome) → o ≡ performed (world_of card t p) c
    → o ≡ step (world_of card t p) c
frame_core {card = card} {t = t} {p = p} r c o e = e ∙ sym (step-sound (world_of card t p) c r.is_sound)

-- what the core is given
pub frame_runs : {card : Card} {t p : List ℕ} {k : Found} → Checks card t p (Some k) → Running card t p k.profile
frame_runs h = h.0

pub frame_wires : {card : Card} {t p : List ℕ} {k : Found} → Checks card t p (Some k) → Wires card k.profile k.wiring
frame_wires h = h.1

-- ---- cores

-- refused by a row of the call's own
pub core_row : (card : Card) (t p : List ℕ) (c : Call) (n : ℕ) (r : Outcome) → first_of (rows (world_of card t p).endpoint c) ≡ n → eqb n 0 ≡ false
    → r ≡ refused_with card n → after r t p (output_of c) ≡ performed (world_of card t p) c
core_row card t p c n r f z er = ap (λ (x : Outcome). after x t p (output_of c)) er ∙ sym (performed-row (world_of card t p) c n f z)

-- a call after which the wire and the open waiting vectors send: the code settled the function u of shape s
pub core_settles : (w : World) (c : Call) (u v : Endpoint) → Settles w c v → (s : Shape) → s ≡ shape w.endpoint → u ≡ v
    → first_of (rows w.endpoint c) ≡ 0 → settle_of w s u (output_of c) ≡ performed w c
core_settles w c u v z s es eu f =
    (λ i.
    if_room w ((ap₂ settled es eu ∙ sym z.next) i) (sym z.answer i)
    ((ap₂ (λ (s : Shape) (u : Endpoint). settle_bytes s w.wire u) es eu ∙ sym z.sends) i) (output_of c))
    ∙ sym (performed-room w c f)
