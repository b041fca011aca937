-- Demand 3, second part: whatever was called in between, a restore of a saved image resumes as if at once after the save. Assumes nothing.
use mathlib.Core.Path.{◌≡◌, refl, sym, ap, ◌∙◌}
use mathlib.Core.Bool.{Bool, true, not, false≢true}
use mathlib.Core.List.{List, [], ◌∷◌}
use Prim.Native.Nat.{ℕ}
use lib.Dec.{eqb}
use lib.ListN.{length, length-replicate}
use lib.Seq.{take-append_seam}
use borrow.Author.Tests.{eqb-true, not-false}
use Rattle.words.proofs.BoolLaws.{neither, passed}
use Rattle.model.specs.declared.Answer.TheVariants.{Done}
use Rattle.model.specs.Answers.{is_accepted}
use Rattle.model.specs.Shape.{shape_of, table_bytes, pending_bytes}
use Rattle.model.specs.World.{World, Endpoint}
use Rattle.model.specs.Release.{settled}
use Rattle.model.specs.Start.{Given, start_refusal}
use Rattle.model.specs.Sound.{sound, shape, given_of}
use Rattle.model.specs.Image.{image_of, world_in, restore_refusal}
use Rattle.model.specs.Claims.{Typed, SameRoom, Resumes}
use Rattle.model.specs.Calls.{Call, Outcome, save, next, sends, accepted, step, start_of, start_given, started_world, restore_of, Operation, call, start, restore, operate}
use Rattle.model.specs.Trials.{world_after, outcomes, wrote_bytes}
use Rattle.model.proofs.Registers.TableLaws.{length-table}
use Rattle.model.proofs.Vectors.SweepLaws.{swept_only}
use Rattle.model.proofs.Sound.SoundLaws.{accepts, buffers_fit, is-sound}
use Rattle.model.proofs.Vectors.RaisedLaws.{raised_only}
use Rattle.model.proofs.Calls.CallLaws.{answered_elim, step_elim}
use Rattle.model.proofs.Vectors.WithdrawLaws.{withdrawn_only}
use Rattle.model.proofs.Calls.Effects.{Effect, reads, saves, settles, raises, withdraws, restarts, effect}
use Rattle.model.proofs.ImageExact.{restored}

-- ---- no call changes the lengths of the lent buffers

room_refl : (w : World) → SameRoom w w
room_refl w = record { table = refl; pending = refl }

room_trans : {u v w : World} → SameRoom u v → SameRoom v w → SameRoom u w
room_trans p q = record { table = p.table ∙ q.table; pending = p.pending ∙ q.pending }

-- two sound cards with one configuration have buffers of the same lengths
pub room-sound : (w v : World) → sound w ≡ true → sound v ≡ true → w.endpoint.function.config ≡ v.endpoint.function.config → SameRoom w v
room-sound w v s k e =
    let a = buffers_fit (shape w.endpoint) (length w.endpoint.table) (length w.endpoint.pending) (accepts (given_of w.endpoint) (is-sound w s).endpoint.start).buffers in
    let b = buffers_fit (shape v.endpoint) (length v.endpoint.table) (length v.endpoint.pending) (accepts (given_of v.endpoint) (is-sound v k).endpoint.start).buffers in
    record {
      table = a.0 ∙ ap (λ (c : List ℕ). table_bytes (shape_of c)) e ∙ sym b.0;
      pending = a.1 ∙ ap (λ (c : List ℕ). pending_bytes (shape_of c)) e ∙ sym b.1;
    }

-- of a function that is then swept
room_settled : (w : World) (u : Endpoint) → length u.table ≡ length w.endpoint.table → length u.pending ≡ length w.endpoint.pending
    → SameRoom (settled (shape w.endpoint) u) w
room_settled w u t p = record {
  table = ap length (swept_only (shape w.endpoint) u).table ∙ t;
  pending = (swept_only (shape w.endpoint) u).pending_length ∙ p;
}

-- of a start with the shape of u
room-started : (u : Endpoint) (g : Given) → start_refusal g ≡ 0 → g.table_length ≡ length u.table → g.pending_length ≡ length u.pending → (wire : Bool)
    → SameRoom (started_world g) (record { endpoint = u; wire = wire })
unfolding table_bytes
room-started u g ok t p wire =
    let b = buffers_fit (shape_of g.config) g.table_length g.pending_length (accepts g ok).buffers in
    record {
      table = length-table (shape_of g.config).msix.vectors ∙ sym b.0 ∙ t;
      pending = length-replicate {A = ℕ} (pending_bytes (shape_of g.config)) 0 ∙ sym b.1 ∙ p;
    }

room_effect : (w : World) → sound w ≡ true → {b : Bool} {v : World} {bytes : List ℕ} → Effect w b v bytes → SameRoom v w
room_effect w k reads = room_refl w
room_effect w k saves = room_refl w
room_effect w k (settles u h) = room_settled w u h.table h.pending
room_effect w k (raises e h) =
    let only = raised_only (shape w.endpoint) w.endpoint e in room_settled w _ (ap length only.table) only.pending_length
room_effect w k (withdraws v h) =
    let only = withdrawn_only w.endpoint v in record { table = ap length only.table; pending = only.pending_length }
room_effect w k restarts = room-started w.endpoint (given_of w.endpoint) (is-sound w k).endpoint.start refl refl w.wire

room-step : (w : World) (c : Call) → SameRoom (step w c).world w
room-step w c = step_elim w c (λ (r : Outcome). SameRoom r.world w) (λ p. room_effect w p.is_sound (effect w c p)) (λ _ _. room_refl w)

-- of a restore that row 17 lets pass
room_restored : (w : World) (image : List ℕ) → restore_refusal image (length w.endpoint.table) (length w.endpoint.pending) ≡ 0 → SameRoom (world_in image) w
unfolding restore_refusal
room_restored w image e =
    let r17 = (passed 17 _ refl (passed 22 _ refl (passed 21 _ refl (passed 20 _ refl e).1).1).1).0 in
    let t : ℕ = length w.endpoint.table in
    let p : ℕ = length w.endpoint.pending in
    let n = neither (not (eqb t (length (world_in image).endpoint.table))) (not (eqb p (length (world_in image).endpoint.pending))) r17 in
    record {
      table = sym (eqb-true t (length (world_in image).endpoint.table) (not-false (eqb t (length (world_in image).endpoint.table)) n.0));
      pending = sym (eqb-true p (length (world_in image).endpoint.pending) (not-false (eqb p (length (world_in image).endpoint.pending)) n.1));
    }

pub room-operate : (w : World) (o : Operation) → SameRoom (operate w o).world w
unfolding start_of restore_of
room-operate w (call c) = room-step w c
room-operate w (start config sizes events requester) =
    answered_elim _ _ _ (λ (r : Outcome). SameRoom r.world w)
    (λ e. room-started w.endpoint (start_given w.endpoint config sizes events requester) e refl refl w.wire)
    (λ _. record { table = refl; pending = refl })
room-operate w (restore image) = answered_elim _ _ _ (λ (r : Outcome). SameRoom r.world w) (room_restored w image) (λ _. room_refl w)

pub room_after : (w : World) (os : List Operation) → SameRoom (world_after w os) w
unfolding world_after
room_after w [] = room_refl w
room_after w (o ∷ os) = room_trans (room_after (operate w o).world os) (room-operate w o)

-- ---- an accepted save

pub record Saved (w : World) (r : Outcome) : Type 0 where
  pub is_sound : sound w ≡ true
  pub kept : r.world ≡ w
  pub image : wrote_bytes r ≡ image_of w

pub save_saved : (w : World) (out : List ℕ) → is_accepted (step w (save out)).answer ≡ true → Saved w (step w (save out))
unfolding next sends is_accepted
save_saved w out =
    step_elim w (save out) (λ (r : Outcome). is_accepted r.answer ≡ true → Saved w r)
    (λ p _. record { is_sound = p.is_sound; kept = refl; image = take-append_seam (image_of w) _ })
    (λ _ _ e. absurd (false≢true e))

-- ---- the theorem

-- of every card that the declared types can hold
pub restore-resumes : (w : World) → Typed w → Resumes w
unfolding is_accepted
restore-resumes w t out a between = (
  ap (λ (r : Outcome). is_accepted r.answer) is,
  ap (λ (r : Outcome). r.world) is ∙ sym k.kept,
  λ rest. ap (λ (r : Outcome). outcomes r.world rest) is ∙ ap (λ (v : World). outcomes v rest) (sym k.kept),
)
  where
    k : Saved w (step w (save out))
    k = save_saved w out a

    is : restore_of (world_after (step w (save out)).world between) (wrote_bytes (step w (save out))) ≡ accepted w Done [] []
    is = rw (k.image, k.kept) (restored (world_after w between) w t k.is_sound (room_after w between))
