-- Demand 3, first part: a waiting bit is never lost, over every list of calls. Assumes nothing.
use mathlib.Core.Path.{◌≡◌, refl, sym, ◌∙◌}
use mathlib.Core.Bool.{Bool, true, false, ◌||◌, false≢true}
use mathlib.Core.List.{List, [], ◌∷◌}
use mathlib.Core.Logic.{◌↔◌}
use Prim.Native.Nat.{ℕ}
use Rattle.words.proofs.BoolLaws.{neither, or_intro}
use Rattle.model.specs.declared.Mode.{Mode}
use Rattle.model.specs.declared.Mode.TheVariants.{Msi}
use Rattle.model.specs.Answers.{is_accepted}
use Rattle.model.specs.World.{World, registers}
use Rattle.model.specs.Vectors.{waits}
use Rattle.model.specs.Start.{Given, start_refusal}
use Rattle.model.specs.Calls.{Call, Outcome, started_world, start_given, start_of, start, operate}
use Rattle.model.specs.History.{Entry, Past, Run, called, run, registers_by, resets, open_by, held_by, withdrawn_by, ended_by, Keeps, WaitsStill}
use Rattle.model.proofs.History.Machine.{bit-iff, list_keeps}
use Rattle.model.proofs.Calls.CallLaws.{answered_elim}
use Rattle.model.proofs.Sound.StartLaws.{started-sound, started-waits}
use Rattle.model.proofs.History.HistoryRegisters.{registers-none}
use Rattle.model.proofs.History.HistoryCalls.{Good}
use Rattle.model.proofs.History.HistoryReset.{started-registers}
use Rattle.model.proofs.History.HistoryLaw.{call_law}

-- the bit is not cleared: no accepted reset, no accepted withdrawal of the vector, and it is not left open
pub cleared-not : (g : Given) (m : Mode) (v : ℕ) (x : Entry) (before : Past) → (ended_by g m v x before ≡ false) ↔ Keeps g m v x before
unfolding ended_by
cleared-not g m v x before = (
  λ e. let p = neither (resets x) (withdraws || opens) e in let q = neither withdraws opens p.1 in (p.0, q.0, q.1),
  λ p. or_intro (resets x) (withdraws || opens) p.0 (or_intro withdraws opens p.1 p.2),
)
  where
    withdraws : Bool
    withdraws = withdrawn_by g m v x before

    opens : Bool
    opens = open_by g (x ∷ before) m v

-- of a card just started
pub started-good : (g : Given) → start_refusal g ≡ 0 → Good g (record { world = started_world g; past = [] })
started-good g ok = record { is_sound = started-sound g ok; same = started-registers g ∙ sym (registers-none g) }

from_start : (g : Given) → start_refusal g ≡ 0 → (calls : List Call) (m : Mode) (v : ℕ)
    → (waits m (run (started_world g) calls).world.endpoint v ≡ true) ↔ WaitsStill g m v (run (started_world g) calls).past
unfolding run started_world
from_start g ok calls m v =
    bit-iff called (λ r. r.past) (λ r. waits m r.world.endpoint v) (Good g) (held_by g m v) (ended_by g m v)
    (Keeps g m v) (λ x before. cleared-not g m v x before)
    (λ r c i. call_law g ok m v r i c)
    (record { world = started_world g; past = [] })
    (started-good g ok)
    refl (started-waits g ok m v) calls

-- what an accepted start gives
pub start_elim : (w₀ : World) (config sizes : List ℕ) (events requester : ℕ) → (P : World → Type 0)
    → let g : Given = start_given w₀.endpoint config sizes events requester in
    (start_refusal g ≡ 0 → P (started_world g)) → is_accepted (operate w₀ (start config sizes events requester)).answer ≡ true
    → P (operate w₀ (start config sizes events requester)).world
unfolding start_of is_accepted
start_elim w₀ config sizes events requester P f =
    answered_elim (start_refusal (start_given w₀.endpoint config sizes events requester)) _ _ (λ (o : Outcome). is_accepted o.answer ≡ true → P o.world)
    (λ z _. f z) (λ _ b. absurd (false≢true b))

-- Take a card just started, not refused, and then every list of calls, refused ones included. After it each vector's waiting bit is one exactly if,
-- since the start or the last accepted reset, an accepted event for that vector came while its mechanism was in force and the vector was shut,
-- no later call left it open, and no withdrawal of that vector was accepted since. What was in force, granted and open is read off the start's input and the calls with their answers
pub withdrawal_history : (w₀ : World) (config sizes : List ℕ) (events requester : ℕ)
    → is_accepted (operate w₀ (start config sizes events requester)).answer ≡ true
    → (calls : List Call) (m : Mode) (v : ℕ)
    → let g : Given = start_given w₀.endpoint config sizes events requester in
    let r : Run = run (operate w₀ (start config sizes events requester)).world calls in
    (waits m r.world.endpoint v ≡ true) ↔ WaitsStill g m v r.past
withdrawal_history w₀ config sizes events requester a calls m v =
    let g : Given = start_given w₀.endpoint config sizes events requester in
    start_elim w₀ config sizes events requester
    (λ (w : World). (waits m (run w calls).world.endpoint v ≡ true) ↔ WaitsStill g m v (run w calls).past)
    (λ z. from_start g z calls m v) a

-- and the card's registers are those that the history gives
pub registers_history : (w₀ : World) (config sizes : List ℕ) (events requester : ℕ)
    → is_accepted (operate w₀ (start config sizes events requester)).answer ≡ true → (calls : List Call)
    → let g : Given = start_given w₀.endpoint config sizes events requester in
    let r : Run = run (operate w₀ (start config sizes events requester)).world calls in
    registers r.world.endpoint ≡ registers_by g r.past
unfolding run
registers_history w₀ config sizes events requester a calls =
    let g : Given = start_given w₀.endpoint config sizes events requester in
    start_elim w₀ config sizes events requester (λ (w : World). registers (run w calls).world.endpoint ≡ registers_by g (run w calls).past)
    (λ z. (list_keeps called (Good g) (λ r c i. (call_law g z Msi 0 r i c).good) (record { world = started_world g; past = [] }) calls (started-good g z)).same) a
