-- The law of one call, for each call: each is refused, changes nothing, withdraws a vector, is followed by a sweep, or is a reset. Assumes nothing.
use mathlib.Core.Path.{◌≡◌, refl, sym, ap, ap₂, ◌∙◌}
use mathlib.Core.Bool.{Bool, true, false, not, ◌&&◌, ◌||◌, false≢true, or-false}
use mathlib.Core.List.{List, ◌∷◌}
use mathlib.Core.Option.{none}
use Prim.Native.Nat.{ℕ, ◌<◌}
use lib.Dec.{eqb}
use lib.ListN.{length}
use borrow.Author.Tests.{not-true}
use Rattle.words.proofs.BoolLaws.{both}
use Rattle.words.specs.Bytes.{bytes_of}
use Rattle.model.specs.declared.Mode.{Mode}
use Rattle.model.specs.declared.Shape.{Shape}
use Rattle.model.specs.declared.Answer.{Answer}
use Rattle.model.specs.Answers.{is_accepted}
use Rattle.model.specs.Shape.{shape_of}
use Rattle.model.specs.Registers.{config_written, bar_written}
use Rattle.model.specs.World.{World, Endpoint, Registers, registers}
use Rattle.model.specs.Vectors.{in_force, is_open, waits, means, vector_count}
use Rattle.model.specs.Release.{raised_by, settled}
use Rattle.model.specs.Start.{Given, start_refusal}
use Rattle.model.specs.Sound.{sound, shape}
use Rattle.model.specs.Withdrawals.{mode_now, withdrawn}
use Rattle.model.specs.Calls.{Call, config_read, config_write, bar_read, bar_write, event, line, reset, save, withdraw, Outcome, changed, next, step}
use Rattle.model.specs.Trials.{wrote_bytes}
use Rattle.model.specs.History.{Entry, entry_of, Location, Run, called, is_reset, resets, puts, registers_by, open_by, means_by, is_event_for, held_by, is_withdrawal_of, withdrawn_by}
use Rattle.model.proofs.Vectors.WaitingLaws.{OnlyWaiting, only_registers, waits-same}
use Rattle.model.proofs.Calls.CallLaws.{Passed, step_elim}
use Rattle.model.proofs.Calls.AnswerLaws.{answer-accepted}
use Rattle.model.proofs.Calls.Effects.{event-below, vector_below, effect}
use Rattle.model.proofs.SoundKept.{effect_sound}
use Rattle.model.proofs.Vectors.RunningLaws.{event_range}
use Rattle.model.proofs.Vectors.RaisedLaws.{raised_only, raised_waits}
use Rattle.model.proofs.Vectors.WithdrawLaws.{withdrawn_only, withdrawn-waits}
use Rattle.model.proofs.History.HistoryRegisters.{registers_other, registers-config_write, registers-bar_write, refused-resets, refused-wrote, idle-resets, idle-wrote}
use Rattle.model.proofs.History.HistoryCalls.{Good, entered, LawOf, open_same, refused-held, idle-held, refused-withdrawn, idle-withdrawn, soundness, shape_now, clears, still, sweeps}
use Rattle.model.proofs.History.HistoryReset.{resetting}

-- ---- each call

reset-resets : (out bytes : List ℕ) (a : Answer) → is_accepted a ≡ true → resets (entry_of (reset out) a bytes) ≡ true
unfolding resets is_reset
reset-resets out bytes a t = rw t

module _ (g : Given) (ok : start_refusal g ≡ 0) (m : Mode) (v : ℕ) (r : Run) (i : Good g r) (bytes : List ℕ) where
  abbrev w : World
  w = r.world

  abbrev u : Endpoint
  u = r.world.endpoint

  -- a refused call
  pub refuses : (c : Call) (a : Answer) → is_accepted a ≡ false → LawOf g m v r (entered r (entry_of c a bytes) r.world)
  refuses c a e =
      still g ok m v r i (entry_of c a bytes) (refused-resets (entry_of c a bytes) e) (λ l. refused-wrote (shape_of g.config) (entry_of c a bytes) l e)
      (refused-held g m v (entry_of c a bytes) r.past e) (refused-withdrawn g m v (entry_of c a bytes) r.past e)

  -- a read or a save
  idles : (c : Call) (a : Answer) → is_reset c ≡ false → ((l : Location) → puts (shape_of g.config) c l ≡ none) → is_event_for g r.past m v c ≡ false
      → is_withdrawal_of g r.past m v c ≡ false
      → LawOf g m v r (entered r (entry_of c a bytes) r.world)
  idles c a e p h d =
      still g ok m v r i (entry_of c a bytes) (idle-resets (entry_of c a bytes) e) (λ l. idle-wrote (shape_of g.config) (entry_of c a bytes) l (p l))
      (idle-held g m v (entry_of c a bytes) r.past h) (idle-withdrawn g m v (entry_of c a bytes) r.past d)

  -- a write or a line call: no event
  writes : (c : Call) (a : Answer) (u' : Endpoint) → sound (settled (shape r.world.endpoint) u') ≡ true → is_reset c ≡ false
      → is_event_for g r.past m v c ≡ false → is_withdrawal_of g r.past m v c ≡ false
      → registers u' ≡ registers_by g (entry_of c a bytes ∷ r.past) → length u'.pending ≡ length r.world.endpoint.pending
      → waits m u' v ≡ waits m r.world.endpoint v
      → LawOf g m v r (entered r (entry_of c a bytes) (settled (shape r.world.endpoint) u'))
  writes c a u' k e h d regs n q =
      let none : held_by g m v (entry_of c a bytes) r.past ≡ false = idle-held g m v (entry_of c a bytes) r.past h in
      sweeps g ok m v r i (entry_of c a bytes) u' k (idle-resets (entry_of c a bytes) e) (idle-withdrawn g m v (entry_of c a bytes) r.past d) regs n
      (q ∙ sym (or-false (waits m u v)) ∙ ap (λ (b : Bool). waits m u v || b) (sym none))
      (λ t. absurd (false≢true (sym none ∙ t)))

  -- an event: held exactly if it is for the vector and the vector is shut
  held_now : (e : ℕ) (out : List ℕ) (a : Answer) → is_accepted a ≡ true
      → (in_force m (shape u) (registers u) && means m (shape u) (registers u) e v && not (is_open m (shape u) (registers u) v))
      ≡ held_by g m v (entry_of (event e out) a bytes) r.past
  unfolding held_by is_event_for means_by open_by
  held_now e out a t =
      ap₂ (λ (s : Shape) (q : Registers). in_force m s q && means m s q e v && not (is_open m s q v)) (shape_now g r i ok) i.same
      ∙ ap (λ (b : Bool). b && means_by g r.past m v e && not (open_by g r.past m v)) (sym t)

  held_shut : (x : Entry) → held_by g m v x r.past ≡ true → open_by g r.past m v ≡ false
  unfolding held_by
  held_shut x h =
      not-true (open_by g r.past m v)
      (both (is_accepted x.answer && is_event_for g r.past m v x.call) (not (open_by g r.past m v)) h).1

  events : (e : ℕ) (out : List ℕ) (a : Answer) → is_accepted a ≡ true → e < r.world.endpoint.function.events
      → sound (settled (shape r.world.endpoint) (raised_by (shape r.world.endpoint) r.world.endpoint e).endpoint) ≡ true
      → LawOf g m v r (entered r (entry_of (event e out) a bytes)
      (settled (shape r.world.endpoint) (raised_by (shape r.world.endpoint) r.world.endpoint e).endpoint))
  unfolding is_reset puts is_withdrawal_of
  events e out a t h k =
      sweeps g ok m v r i x (raised_by (shape u) u e).endpoint k quiet (idle-withdrawn g m v x r.past refl) (only_registers only ∙ i.same ∙ sym kept) only.pending_length
      (raised_waits m (shape u) u e v (event_range u e (soundness g r i) h) ∙ ap (λ (b : Bool). waits m u v || b) (held_now e out a t))
      (λ t. open_same g m v (x ∷ r.past) r.past kept ∙ held_shut x t)
    where
      x : Entry
      x = entry_of (event e out) a bytes

      only : OnlyWaiting u (raised_by (shape u) u e).endpoint
      only = raised_only (shape u) u e

      quiet : resets x ≡ false
      quiet = idle-resets x refl

      kept : registers_by g (x ∷ r.past) ≡ registers_by g r.past
      kept = registers_other g x r.past quiet (λ l. idle-wrote (shape_of g.config) x l refl)

  -- a withdrawal: of this vector exactly if it names its number and its mechanism is in force
  withdrawn_now : (y : ℕ) (a : Answer) → is_accepted a ≡ true → (in_force m (shape u) (registers u) && eqb y v) ≡ withdrawn_by g m v (entry_of (withdraw y) a bytes) r.past
  unfolding withdrawn_by is_withdrawal_of
  withdrawn_now y a t =
      ap₂ (λ (s : Shape) (q : Registers). in_force m s q && eqb y v) (shape_now g r i ok) i.same
      ∙ ap (λ (b : Bool). b && (in_force m (shape_of g.config) (registers_by g r.past) && eqb y v)) (sym t)

  withdraws : (y : ℕ) (a : Answer) → is_accepted a ≡ true → y < vector_count (mode_now r.world.endpoint) (shape r.world.endpoint)
      → sound (record { endpoint = withdrawn r.world.endpoint y; wire = r.world.wire }) ≡ true
      → LawOf g m v r (entered r (entry_of (withdraw y) a bytes) (record { endpoint = withdrawn r.world.endpoint y; wire = r.world.wire }))
  unfolding is_reset puts is_event_for
  withdraws y a t h k =
      clears g ok m v r i x (withdrawn u y) w.wire k (withdrawn_only u y) (idle-resets x refl) (λ l. idle-wrote (shape_of g.config) x l refl)
      (idle-held g m v x r.past refl)
      (withdrawn-waits u (soundness g r i) y h m v ∙ ap (λ (b : Bool). waits m u v && not b) (withdrawn_now y a t))
    where
      x : Entry
      x = entry_of (withdraw y) a bytes

  -- every accepted call, with any answer that is no refusal
  accepts_call : (c : Call) (a : Answer) → is_accepted a ≡ true → Passed r.world c → sound (next r.world c) ≡ true
      → LawOf g m v r (entered r (entry_of c a bytes) (next r.world c))
  unfolding next changed is_reset puts is_event_for is_withdrawal_of
  accepts_call (config_read o n) a t z k = idles (config_read o n) a refl (λ l. refl) refl refl
  accepts_call (config_write o n x out) a t z k =
      writes (config_write o n x out) a (changed u (config_write o n x out)) k refl refl refl
      (ap₂ (λ (s : Shape) (q : Registers). config_written s q o (bytes_of n x)) (shape_now g r i ok) i.same
      ∙ registers-config_write g r.past a t out bytes o n x)
      refl (waits-same m u (changed u (config_write o n x out)) v refl refl)
  accepts_call (bar_read b o n) a t z k = idles (bar_read b o n) a refl (λ l. refl) refl refl
  accepts_call (bar_write b o n x out) a t z k =
      writes (bar_write b o n x out) a (changed u (bar_write b o n x out)) k refl refl refl
      (ap₂ (λ (s : Shape) (q : Registers). bar_written s q b o (bytes_of n x)) (shape_now g r i ok) i.same
      ∙ registers-bar_write g r.past a t out bytes b o n x)
      refl (waits-same m u (changed u (bar_write b o n x out)) v refl refl)
  accepts_call (event e out) a t z k = events e out a t (event-below u e out z.own) k
  accepts_call (line level out) a t z k =
      writes (line level out) a (changed u (line level out)) k refl refl refl
      (i.same ∙ sym (registers_other g x r.past (idle-resets x refl) (λ l. idle-wrote (shape_of g.config) x l refl)))
      refl (waits-same m u (changed u (line level out)) v refl refl)
    where
      x : Entry
      x = entry_of (line level out) a bytes
  accepts_call (reset out) a t z k = resetting g ok m v r i x false k (reset-resets out bytes a t) (idle-held g m v x r.past refl)
    where
      x : Entry
      x = entry_of (reset out) a bytes
  accepts_call (save out) a t z k = idles (save out) a refl (λ l. refl) refl refl
  accepts_call (withdraw y) a t z k = withdraws y a t (vector_below u y z.own) k

  -- a call entered with an answer that is a refusal exactly if the card's own is
  pub entry_law : (c : Call) (a : Answer) → is_accepted a ≡ is_accepted (step r.world c).answer
      → LawOf g m v r (entered r (entry_of c a bytes) (step r.world c).world)
  unfolding is_accepted
  entry_law c a =
      step_elim r.world c (λ (o : Outcome). is_accepted a ≡ is_accepted o.answer → LawOf g m v r (entered r (entry_of c a bytes) o.world))
      (λ z t.
      accepts_call c a (t ∙ answer-accepted u c) z (effect_sound w i.is_sound (effect w c z)))
      (λ n _ t. refuses c a t)

-- every call
pub call_law : (g : Given) → start_refusal g ≡ 0 → (m : Mode) (v : ℕ) (r : Run) → Good g r → (c : Call) → LawOf g m v r (called r c)
unfolding called
call_law g ok m v r i c = entry_law g ok m v r i (wrote_bytes (step r.world c)) c (step r.world c).answer refl
