-- Request [6], "Only cards with bit 9 change": over every list of calls, starts and restores among them, a card without bit 9 gives what it gave before.
-- Assumes nothing.
use mathlib.Core.Path.{◌≡◌, refl, ap, ◌∙◌}
use mathlib.Core.Bool.{Bool, true, false, not, cond, ◌&&◌, and-false}
use mathlib.Core.List.{List, [], ◌∷◌, ◌++◌}
use mathlib.Core.Option.{Option, none, some}
use Prim.Native.Nat.{ℕ, ◌+◌, ◌-◌, ◌*◌, ◌/◌}
use native.Mathlib.Omega.{arith}
use lib.Dec.{ltb, eqb}
use lib.ListN.{length, replicate}
use borrow.Author.Tests.{not-true}
use Rattle.words.specs.Lists.{first_of, each_at, keep, join}
use Rattle.words.specs.Bits.{bit, clear, of_bool}
use Rattle.words.specs.Bytes.{byte, bytes_of, number}
use Rattle.words.proofs.BoolLaws.{both}
use Rattle.model.specs.declared.Form.{Form}
use Rattle.model.specs.declared.Shape.{Shape}
use Rattle.model.specs.declared.Mode.{Mode}
use Rattle.model.specs.declared.Mode.TheVariants.{Pin, Msi, Msix}
use Rattle.model.specs.declared.Answer.TheVariants.{Done, Value}
use Rattle.model.specs.Shape.{row, form_of, forms, shape_in, shape_of, msi_of, no_msi, pending_bytes}
use Rattle.model.specs.Capabilities.{capabilities, listed, with_id}
use Rattle.model.specs.Registers.{header_writable, data_bytes, msi_writable, in_msi, in_msix, msix_writable, writable, fixed_byte, shown, in_pending_register}
use Rattle.model.specs.Registers.{started_config, started_table, written}
use Rattle.model.specs.World.{World, Endpoint, Registers, registers, function_of, endpoint_of, with_registers}
use Rattle.model.specs.Vectors.{granted, mode_of, owed, vector_of}
use Rattle.model.specs.Packets.{data_extended, msi_address, msi_upper, msi_data, message, message_of}
use Rattle.model.specs.Release.{bytes_for, sweep_bytes, settled, settle_bytes, raise_vector, raise, raised_by}
use Rattle.model.specs.Start.{Given, started}
use Rattle.model.specs.Sound.{given_of, shape, sound}
use Rattle.model.specs.Image.{world_in}
use Rattle.model.specs.Calls.{Call, config_read, config_write, bar_read, bar_write, event, line, reset, save, withdraw, rows, changed, next, sends, answer_of, output_of}
use Rattle.model.specs.Calls.{Outcome, refused, accepted, answered, if_room, zero_world}
use Rattle.model.specs.Calls.{performed, step, start_given, start_of, restore_of, Operation, call, start, restore, operate}
use Rattle.model.specs.Trials.{outcomes}
use Rattle.model.specs.Extended.{extended, brings_extended, none_extended}
use Rattle.model.specs.Data16.{form_of16, msi_writable16, in_msi16, writable16, fixed_byte16, shown16, started16, started_config16, msi_data16, message_of16}
use Rattle.model.specs.Data16.{bytes_for16, sweep_bytes16, settle_bytes16, raise_vector16, raise16, raised_by16, changed16, next16, sends16, answer_of16}
use Rattle.model.specs.Data16.{performed16, step16, start_of16, restore_of16, operate16, outcomes16}
use Rattle.model.proofs.SameVerdicts.{same-zero, start_as_before, sound_as_before, restore_as_before}
use Rattle.model.proofs.Sound.SoundLaws.{is-sound}
use Rattle.model.proofs.Sound.StartLaws.{started-shape}
use Rattle.model.proofs.Vectors.SweepLaws.{swept_only}
use Rattle.model.proofs.Vectors.RaisedLaws.{raised_only}
use Rattle.model.proofs.Calls.CallLaws.{answered_elim, step_elim}
use Rattle.model.proofs.Vectors.WithdrawLaws.{withdrawn_only}
use Rattle.model.proofs.Calls.Effects.{Effect, reads, saves, settles, raises, withdraws, restarts, effect}

-- ---- a shape without bit 9: each definition is as it was

module _ (s : Shape) (no9 : s.msi.extended ≡ false) where
  form-same : form_of s ≡ form_of16 s
  unfolding form_of form_of16
  form-same =
      let f : Form = forms s.msi.masks s.msi.wide in
      let e : f.size + cond (s.msi.extended && not s.msi.masks) 2 0 ≡ f.size = rw no9 (omega arith) in
      λ i. row f.message f.mask f.pending (e i)

  in_msi-same : (i : ℕ) → in_msi s i ≡ in_msi16 s i
  unfolding in_msi in_msi16
  in_msi-same i = rw form-same

  msi-writable-same : (k : ℕ) → msi_writable s k ≡ msi_writable16 s k
  unfolding msi_writable msi_writable16 data_bytes first_of form_of form_of16
  msi-writable-same k = rw (no9, and-false (eqb k 3))

  writable-same : writable s ≡ writable16 s
  unfolding writable writable16
  writable-same =
      λ i k.
      cond (ltb k 64) (header_writable k)
      (cond (in_msi-same k i) (msi-writable-same (k - s.msi.at) i) (cond (in_msix s k) (msix_writable (k - s.msix.at)) 0))

  fixed_same : fixed_byte s ≡ fixed_byte16 s
  unfolding fixed_byte fixed_byte16
  fixed_same = λ i k b. clear (writable-same i k) (clear (same-zero s k i) b)

  started-same : (c : List ℕ) → started_config s c ≡ started_config16 s c
  unfolding started_config started_config16
  started-same c = ap (λ (f : ℕ → ℕ → ℕ). each_at f 0 c) fixed_same

  shown-same : (u : Endpoint) → shown s u ≡ shown16 s u
  unfolding shown shown16
  shown-same u =
      λ i k.
      cond (eqb k 6) (byte u.function.config 6 + 8 * of_bool u.function.line)
      (cond (in_msi-same k i && in_pending_register s (k - s.msi.at)) (byte (bytes_of 4 u.function.waiting) (k - s.msi.at - (form-same i).pending))
      (byte u.function.config k))

  data_same : (r : Registers) → msi_data s r ≡ msi_data16 s r
  unfolding msi_data msi_data16 data_extended form_of form_of16
  data_same r = rw no9

  message-same : (m : Mode) (requester : ℕ) (r : Registers) → message_of m s requester r ≡ message_of16 m s requester r
  unfolding message_of message_of16
  message-same Pin requester r = refl
  message-same Msi requester r = λ i v. message requester (msi_upper s r) (msi_address s r) (data_same r i / granted s r * granted s r + v)
  message-same Msix requester r = refl

  sweep_same : (u : Endpoint) → sweep_bytes s u ≡ sweep_bytes16 s u
  unfolding sweep_bytes sweep_bytes16 bytes_for bytes_for16
  sweep_same u =
      let m : Mode = mode_of s (registers u) in
      ap (λ (f : ℕ → List ℕ). join f (owed m s u)) (message-same m u.function.requester (registers u))

  settle_same : (wire : Bool) (u : Endpoint) → settle_bytes s wire u ≡ settle_bytes16 s wire u
  unfolding settle_bytes settle_bytes16
  settle_same wire u = rw (sweep_same u)

  raise-same : (m : Mode) (u : Endpoint) (x : Option ℕ) → raise m s u x ≡ raise16 m s u x
  unfolding raise raise16 raise_vector raise_vector16
  raise-same m u none = refl
  raise-same m u (some v) = rw (message-same m u.function.requester (registers u))

  raised_same : (u : Endpoint) (e : ℕ) → raised_by s u e ≡ raised_by16 s u e
  unfolding raised_by raised_by16
  raised_same u e = let m : Mode = mode_of s (registers u) in raise-same m u (vector_of m s (registers u) e)

-- a start with a configuration without bit 9
restarted_same : (config sizes : List ℕ) (events requester : ℕ) → (shape_of config).msi.extended ≡ false
    → started config sizes events requester ≡ started16 config sizes events requester
restarted_same config sizes events requester no9 =
    let s : Shape = shape_of config in
    λ i.
    endpoint_of (function_of (started-same s no9 config i) sizes events requester false 0) (started_table s.msix.vectors) (replicate (pending_bytes s) 0)

-- ---- a call of a running card without bit 9

module _ (w : World) (no9 : extended w ≡ false) where
  abbrev u : Endpoint
  u = w.endpoint

  abbrev s : Shape
  s = shape w.endpoint

  changed-same : (c : Call) → changed w.endpoint c ≡ changed16 w.endpoint c
  unfolding changed changed16
  changed-same (config_read o n) = refl
  changed-same (config_write o n x out) = λ i. with_registers u (record { config = written (writable-same s no9 i) u.function.config o (bytes_of n x); table = u.table })
  changed-same (bar_read b o n) = refl
  changed-same (bar_write b o n x out) = refl
  changed-same (event e out) = λ i. (raised_same s no9 u e i).endpoint
  changed-same (line level out) = refl
  changed-same (reset out) = restarted_same u.function.config u.function.sizes u.function.events u.function.requester no9
  changed-same (save out) = refl
  changed-same (withdraw v) = refl

  next-same : (c : Call) → next w c ≡ next16 w c
  unfolding next next16
  next-same (config_read o n) = refl
  next-same (config_write o n x out) = ap (settled s) (changed-same (config_write o n x out))
  next-same (bar_read b o n) = refl
  next-same (bar_write b o n x out) = ap (settled s) (changed-same (bar_write b o n x out))
  next-same (event e out) = ap (settled s) (changed-same (event e out))
  next-same (line level out) = ap (settled s) (changed-same (line level out))
  next-same (reset out) = λ i. record { endpoint = changed-same (reset out) i; wire = false }
  next-same (save out) = refl
  next-same (withdraw v) = λ i. record { endpoint = changed-same (withdraw v) i; wire = w.wire }

  -- what follows a change
  settled_same : (c : Call) → settle_bytes s w.wire (changed u c) ≡ settle_bytes16 s w.wire (changed16 u c)
  settled_same c = ap (settle_bytes s w.wire) (changed-same c) ∙ settle_same s no9 w.wire (changed16 u c)

  sends-same : (c : Call) → sends w c ≡ sends16 w c
  unfolding sends sends16
  sends-same (config_read o n) = refl
  sends-same (config_write o n x out) = settled_same (config_write o n x out)
  sends-same (bar_read b o n) = refl
  sends-same (bar_write b o n x out) = settled_same (bar_write b o n x out)
  sends-same (event e out) = λ i. (raised_same s no9 u e i).bytes ++ settled_same (event e out) i
  sends-same (line level out) = settled_same (line level out)
  sends-same (reset out) = refl
  sends-same (save out) = refl
  sends-same (withdraw v) = refl

  answer-same : (c : Call) → answer_of w.endpoint c ≡ answer_of16 w.endpoint c
  unfolding answer_of answer_of16
  answer-same (config_read o n) = λ i. Value (number (shown-same s no9 u i) o n)
  answer-same (config_write o n x out) = refl
  answer-same (bar_read b o n) = refl
  answer-same (bar_write b o n x out) = refl
  answer-same (event e out) = λ i. (raised_same s no9 u e i).answer
  answer-same (line level out) = refl
  answer-same (reset out) = refl
  answer-same (save out) = refl
  answer-same (withdraw v) = refl

  performed-same : (c : Call) → performed w c ≡ performed16 w c
  unfolding performed performed16
  performed-same c =
      λ i.
      answered (first_of (rows u c)) (if_room w (next-same c i) (answer-same c i) (sends-same c i) (output_of c)) (refused w (first_of (rows u c)) (output_of c))

  step_same : (c : Call) → step w c ≡ step16 w c
  unfolding step step16
  step_same c = λ i. cond (sound_as_before w i) (performed-same c i) (refused w 1 (output_of c))

-- ---- every call

start-same : (u : Endpoint) (g : Given) → (shape_of g.config).msi.extended ≡ false → start_of u g ≡ start_of16 u g
unfolding start_of start_of16
start-same u g no9 =
    λ i.
    answered (start_as_before g i)
    (accepted (record { endpoint = restarted_same g.config g.sizes g.events g.requester no9 i; wire = false }) Done [] [])
    (refused (zero_world u) (start_as_before g i) [])

restore_same : (w : World) (image : List ℕ) → restore_of w image ≡ restore_of16 w image
unfolding restore_of restore_of16
restore_same w image = rw (restore_as_before image (length w.endpoint.table) (length w.endpoint.pending))

operate-same : (w : World) (o : Operation) → extended w ≡ false → brings_extended o ≡ false → operate w o ≡ operate16 w o
operate-same w (call c) no9 b = step_same w no9 c
operate-same w (start config sizes events requester) no9 b = start-same w.endpoint (start_given w.endpoint config sizes events requester) b
operate-same w (restore image) no9 b = restore_same w image

-- ---- a card without bit 9 stays one

-- an accepted call leaves the shape
shape_effect : (w : World) → sound w ≡ true → {b : Bool} {v : World} {bytes : List ℕ} → Effect w b v bytes → shape v.endpoint ≡ shape w.endpoint
shape_effect w k reads = refl
shape_effect w k saves = refl
shape_effect w k (settles u h) = ap shape_of (swept_only (shape w.endpoint) u).config ∙ h.ready.shaped
shape_effect w k (raises e h) =
    ap shape_of (swept_only (shape w.endpoint) _).config ∙ ap shape_of (raised_only (shape w.endpoint) w.endpoint e).config
shape_effect w k (withdraws v h) = ap shape_of (withdrawn_only w.endpoint v).config
shape_effect w k restarts = started-shape (given_of w.endpoint) (is-sound w k).endpoint.start

shape-step : (w : World) (c : Call) → shape (step w c).world.endpoint ≡ shape w.endpoint
shape-step w c =
    step_elim w c (λ (r : Outcome). shape r.world.endpoint ≡ shape w.endpoint) (λ p. shape_effect w p.is_sound (effect w c p)) (λ _ _. refl)

-- no call of a running card changes bit 9
pub bit_9_kept : (w : World) (c : Call) → extended (step w c).world ≡ extended w
bit_9_kept w c = ap (λ (s : Shape). s.msi.extended) (shape-step w c)

-- the card that a refused start hands out has no capability
zero-plain : (u : Endpoint) → extended (zero_world u) ≡ false
unfolding shape_of shape_in capabilities listed with_id msi_of no_msi bit keep
zero-plain u = refl

-- the card of an image has its configuration
held_plain : (image : List ℕ) → extended (world_in image) ≡ brings_extended (restore image)
unfolding world_in
held_plain image = refl

plain-kept : (w : World) (o : Operation) → extended w ≡ false → brings_extended o ≡ false → extended (operate w o).world ≡ false
unfolding start_of restore_of
plain-kept w (call c) no9 b = bit_9_kept w c ∙ no9
plain-kept w (start config sizes events requester) no9 b =
    answered_elim _ _ _ (λ (r : Outcome). extended r.world ≡ false)
    (λ e. ap (λ (s : Shape). s.msi.extended) (started-shape (start_given w.endpoint config sizes events requester) e) ∙ b)
    (λ _. zero-plain w.endpoint)
plain-kept w (restore image) no9 b = answered_elim _ _ _ (λ (r : Outcome). extended r.world ≡ false) (λ _. held_plain image ∙ b) (λ _. no9)

-- ---- the theorem

-- of a card without bit 9, and calls none of which brings a card with bit 9
pub only_bit_9 : (w : World) (os : List Operation) → extended w ≡ false → none_extended os ≡ true → outcomes w os ≡ outcomes16 w os
unfolding outcomes outcomes16 none_extended
only_bit_9 w [] no9 n = refl
only_bit_9 w (o ∷ os) no9 n =
    let p = both (not (brings_extended o)) (none_extended os) n in
    let b : brings_extended o ≡ false = not-true (brings_extended o) p.0 in
    let e : operate w o ≡ operate16 w o = operate-same w o no9 b in
    ap (λ (l : List Outcome). operate w o ∷ l) (only_bit_9 (operate w o).world os (plain-kept w o no9 b) p.1)
    ∙ ap (λ (r : Outcome). r ∷ outcomes16 r.world os) e
