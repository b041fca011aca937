-- The law of one call: the registers stay those of the past, and a vector waits if an event for it was held now, or if it waited, the call was no reset
-- and no withdrawal of it, and the vector is shut. Assumes nothing.
use mathlib.Core.Path.{◌≡◌, refl, sym, ap, ap₂, ◌∙◌}
use mathlib.Core.Bool.{Bool, true, false, not, ◌&&◌, ◌||◌, and-false, and-true}
use mathlib.Core.List.{◌∷◌}
use mathlib.Core.Option.{none}
use Prim.Native.Nat.{ℕ}
use lib.ListN.{length}
use Rattle.model.specs.declared.Mode.{Mode}
use Rattle.model.specs.declared.Shape.{Shape}
use Rattle.model.specs.Answers.{is_accepted}
use Rattle.model.specs.Shape.{shape_of}
use Rattle.model.specs.World.{World, Endpoint, Registers, registers}
use Rattle.model.specs.Vectors.{is_open, waits}
use Rattle.model.specs.Release.{settled}
use Rattle.model.specs.Start.{Given, start_refusal}
use Rattle.model.specs.Sound.{sound, shape}
use Rattle.model.specs.History.{Entry, Past, Location, Run, called, resets, wrote, registers_by, open_by, is_event_for, held_by, is_withdrawal_of, withdrawn_by, ended_by}
use Rattle.model.proofs.History.Machine.{Law, bit_after, bit-withdrawn}
use Rattle.model.proofs.Vectors.WaitingLaws.{OnlyWaiting, only_refl, only_registers}
use Rattle.model.proofs.Vectors.SweepLaws.{swept_only, swept-waits}
use Rattle.model.proofs.Sound.SoundLaws.{SoundEndpoint, is-sound, accepts}
use Rattle.model.proofs.Vectors.SettleLaws.{buffered}
use Rattle.model.proofs.Vectors.RunningLaws.{buffered_same, none-owed}
use Rattle.model.proofs.History.HistoryShape.{shape_by}
use Rattle.model.proofs.History.HistoryRegisters.{registers_other}

-- what every call keeps: the card is sound, and its registers are those of the past
pub record Good (g : Given) (r : Run) : Type 0 where
  pub is_sound : sound r.world ≡ true
  pub same : registers r.world.endpoint ≡ registers_by g r.past

-- the run after an entry that left the world w
abbrev pub entered : Run → Entry → World → Run
entered r x w = record { world = w; past = x ∷ r.past }

-- the law of one call, for vector v of the mechanism m
abbrev pub LawOf : Given → Mode → ℕ → Run → Run → Type 0
LawOf g m v = Law called (λ r. r.past) (λ r. waits m r.world.endpoint v) (Good g) (held_by g m v) (ended_by g m v)

pub open_same : (g : Given) (m : Mode) (v : ℕ) (p q : Past) → registers_by g p ≡ registers_by g q → open_by g p m v ≡ open_by g q m v
unfolding open_by
open_same g m v p q e = ap (λ (r : Registers). is_open m (shape_of g.config) r v) e

-- an entry that is no reset clears what it withdraws and what it leaves open
no_reset : (g : Given) (m : Mode) (v : ℕ) (x : Entry) (past : Past) → resets x ≡ false
    → ended_by g m v x past ≡ (withdrawn_by g m v x past || open_by g (x ∷ past) m v)
unfolding ended_by
no_reset g m v x past e = rw e

-- held needs an accepted event
pub refused-held : (g : Given) (m : Mode) (v : ℕ) (x : Entry) (past : Past) → is_accepted x.answer ≡ false → held_by g m v x past ≡ false
unfolding held_by
refused-held g m v x past e = rw e

pub idle-held : (g : Given) (m : Mode) (v : ℕ) (x : Entry) (past : Past) → is_event_for g past m v x.call ≡ false → held_by g m v x past ≡ false
unfolding held_by
idle-held g m v x past e = rw (e, and-false)

-- and so does withdrawn an accepted withdrawal
pub refused-withdrawn : (g : Given) (m : Mode) (v : ℕ) (x : Entry) (past : Past) → is_accepted x.answer ≡ false → withdrawn_by g m v x past ≡ false
unfolding withdrawn_by
refused-withdrawn g m v x past e = rw e

pub idle-withdrawn : (g : Given) (m : Mode) (v : ℕ) (x : Entry) (past : Past) → is_withdrawal_of g past m v x.call ≡ false → withdrawn_by g m v x past ≡ false
unfolding withdrawn_by
idle-withdrawn g m v x past e = rw (e, and-false)

module _ (g : Given) (r : Run) (i : Good g r) where
  pub soundness : SoundEndpoint r.world.endpoint
  soundness = (is-sound r.world i.is_sound).endpoint

  -- the card's shape is that of the start's input
  pub shape_now : start_refusal g ≡ 0 → shape r.world.endpoint ≡ shape_of g.config
  unfolding shape
  shape_now ok =
      ap (λ (q : Registers). shape_of q.config) i.same ∙ shape_by g r.past (accepts g ok).whole (accepts g ok).structures

module _ (g : Given) (ok : start_refusal g ≡ 0) (m : Mode) (v : ℕ) (r : Run) (i : Good g r) where
  abbrev u : Endpoint
  u = r.world.endpoint

  -- open by the past is open by the registers that the past gives
  pub open_now : (u' : Endpoint) (past : Past) → registers u' ≡ registers_by g past → is_open m (shape r.world.endpoint) (registers u') v ≡ open_by g past m v
  unfolding open_by
  open_now u' past e = ap₂ (λ (s : Shape) (q : Registers). is_open m s q v) (shape_now g r i ok) e

  -- a call that leaves the registers and at most withdraws the vector; u' is the function after it
  pub clears : (x : Entry) (u' : Endpoint) (wire : Bool) → sound (record { endpoint = u'; wire = wire }) ≡ true → OnlyWaiting r.world.endpoint u'
      → resets x ≡ false → ((a : Location) → wrote (shape_of g.config) x a ≡ none) → held_by g m v x r.past ≡ false
      → waits m u' v ≡ (waits m r.world.endpoint v && not (withdrawn_by g m v x r.past))
      → LawOf g m v r (entered r x (record { endpoint = u'; wire = wire }))
  clears x u' wire k o e n h w = record {
    entry = x;
    longer = refl;
    good = record { is_sound = k; same = only_registers o ∙ i.same ∙ sym kept };
    wait =
        w
        ∙ bit-withdrawn (waits m u v) (withdrawn_by g m v x r.past) (open_by g r.past m v)
        (ap (λ (b : Bool). b && waits m u v) (sym (open_now u r.past i.same)) ∙ none-owed m u v (soundness g r i))
        ∙ sym (ap₂ (λ (a b : Bool). bit_after a (waits m u v) b) h
        (no_reset g m v x r.past e ∙ ap (λ (b : Bool). withdrawn_by g m v x r.past || b) (open_same g m v (x ∷ r.past) r.past kept)));
  }
    where
      kept : registers_by g (x ∷ r.past) ≡ registers_by g r.past
      kept = registers_other g x r.past e n

  -- a call that changes nothing: refused, a read or a save
  pub still : (x : Entry) → resets x ≡ false → ((a : Location) → wrote (shape_of g.config) x a ≡ none) → held_by g m v x r.past ≡ false
      → withdrawn_by g m v x r.past ≡ false
      → LawOf g m v r (entered r x r.world)
  still x e n h d =
      clears x u r.world.wire i.is_sound (only_refl u) e n h (sym (and-true (waits m u v)) ∙ ap (λ (b : Bool). waits m u v && not b) (sym d))

  -- a call that is followed by a sweep: an accepted write, line call or event. u' is the function before the sweep
  pub sweeps : (x : Entry) (u' : Endpoint) → sound (settled (shape r.world.endpoint) u') ≡ true → resets x ≡ false → withdrawn_by g m v x r.past ≡ false
      → registers u' ≡ registers_by g (x ∷ r.past) → length u'.pending ≡ length r.world.endpoint.pending
      → waits m u' v ≡ (waits m r.world.endpoint v || held_by g m v x r.past)
      → (held_by g m v x r.past ≡ true → open_by g (x ∷ r.past) m v ≡ false)
      → LawOf g m v r (entered r x (settled (shape r.world.endpoint) u'))
  unfolding settled
  sweeps x u' k e d regs n w shut = record {
    entry = x;
    longer = refl;
    good = record { is_sound = k; same = only_registers (swept_only (shape u) u') ∙ regs };
    wait =
        swept-waits m (shape u) u' v (buffered_same (shape u) u u' n (buffered u (soundness g r i).start))
        ∙ ap₂ (λ (a b : Bool). a && not b) w (open_now u' (x ∷ r.past) regs)
        ∙ after (waits m u v) (held_by g m v x r.past) (open_by g (x ∷ r.past) m v) shut
        ∙ sym (ap (bit_after (held_by g m v x r.past) (waits m u v)) (no_reset g m v x r.past e ∙ ap (λ (b : Bool). b || open_by g (x ∷ r.past) m v) d));
  }
    where
      after : (a h o : Bool) → (h ≡ true → o ≡ false) → ((a || h) && not o) ≡ bit_after h a o
      after true true o f = rw (f refl)
      after false true o f = rw (f refl)
      after true false o f = refl
      after false false o f = refl
