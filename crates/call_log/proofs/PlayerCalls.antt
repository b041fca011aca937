-- Document 02, request [1]: the card calls that a player's records make, and demand 3 of them. Assumes nothing.
use mathlib.Core.Path.{◌≡◌, refl, sym, ap, ap₂, ◌∙◌, subst}
use mathlib.Core.Bool.{true}
use mathlib.Core.List.{List, [], ◌∷◌, ◌++◌, foldl}
use mathlib.Core.Logic.{◌↔◌}
use mathlib.Core.Option.{Option, none, some, map}
use Prim.Native.Nat.{ℕ}
use Rattle.model.specs.declared.Mode.{Mode}
use Rattle.model.specs.Answers.{is_accepted}
use Rattle.model.specs.World.{World}
use Rattle.model.specs.Vectors.{waits}
use Rattle.model.specs.Start.{Given}
use Rattle.model.specs.Calls.{no_withdrawal, start_given, start, operate}
use Rattle.model.specs.History.{Past, Run, called, run, WaitsBy, WaitsStill}
use Rattle.model.proofs.WaitingHistory.{withdrawal_history}
use Rattle.model.proofs.DemandHistory.{waiting_history}
use Rattle.call_log.specs.declared.Record.{Record}
use Rattle.call_log.specs.declared.Player.{Player}
use Rattle.call_log.specs.Players.{played_record}
use Rattle.call_log.specs.Plays.{Performed, world_by}
use Rattle.call_log.specs.Cards.{on_card, Action, direct, play, Host, told, acted, acted_all, host_of, calls_of, calls_by, calls_made}
use Rattle.call_log.proofs.OneCall.{performs, Performs}

-- one record, or none
called_by : (c : Option Record) (out : List ℕ) (w : World) (past : Past)
    → record { world = world_by (map (on_card out w) c) w; past = told c out (map (on_card out w) c) past }
    ≡ foldl called (record { world = w; past = past }) (calls_of c out)
unfolding calls_of told on_card called
called_by none out w past = refl
called_by (some r) out w past = refl

acted-run : (h : Host) (x : Action) → (acted h x).run ≡ foldl called h.run (calls_by h.player x)
unfolding acted calls_by
acted-run h (direct c) = refl
acted-run h (play bytes out) =
    let p : Performs (on_card out) h.player h.run.world bytes = performs (on_card out) h.player h.run.world bytes in
    ap₂ (λ (w : World) (r : Option (Performed World)). record { world = w; past = told (played_record h.player bytes) out r h.run.past })
    (p.world ∙ ap (λ (r : Option (Performed World)). world_by r h.run.world) p.result) p.result
    ∙ called_by (played_record h.player bytes) out h.run.world h.run.past

foldl-append : {A B : Type 0} (f : A → B → A) (a : A) (l m : List B) → foldl f a (l ++ m) ≡ foldl f (foldl f a l) m
foldl-append f a [] m = refl
foldl-append f a (b ∷ l) m = foldl-append f (f a b) l m

-- "demand 3 speaks of the card calls that its records make": after any list of actions, calls of the player among them, card, buffers and past are
-- those of the card calls that were made, each with the answer that the player told
pub player-calls : (h : Host) (actions : List Action) → (acted_all h actions).run ≡ foldl called h.run (calls_made h actions)
unfolding acted_all calls_made
player-calls h [] = refl
player-calls h (x ∷ xs) =
    player-calls (acted h x) xs
    ∙ ap (λ (r : Run). foldl called r (calls_made (acted h x) xs)) (acted-run h x)
    ∙ sym (foldl-append called h.run (calls_by h.player x) (calls_made (acted h x) xs))

-- Demand 3, first part, of a host that plays logs: after an accepted start and any list of actions, with any player and any bytes, each vector's waiting
-- bit is one exactly if the past, which has the answers that the player told, says so
pub player_history : (w₀ : World) (config sizes : List ℕ) (events requester : ℕ)
    → is_accepted (operate w₀ (start config sizes events requester)).answer ≡ true
    → (p : Player) (actions : List Action)
    → no_withdrawal (calls_made (host_of p (operate w₀ (start config sizes events requester)).world) actions) ≡ true
    → (m : Mode) (v : ℕ)
    → let g : Given = start_given w₀.endpoint config sizes events requester in
    let r : Run = (acted_all (host_of p (operate w₀ (start config sizes events requester)).world) actions).run in
    (waits m r.world.endpoint v ≡ true) ↔ WaitsBy g m v r.past
unfolding run
player_history w₀ config sizes events requester a p actions n m v =
    let g : Given = start_given w₀.endpoint config sizes events requester in
    let h : Host = host_of p (operate w₀ (start config sizes events requester)).world in
    subst (λ (r : Run). (waits m r.world.endpoint v ≡ true) ↔ WaitsBy g m v r.past) (sym (player-calls h actions))
    (waiting_history w₀ config sizes events requester a (calls_made h actions) n m v)

-- the same where withdrawals are among the host's own calls
pub player_withdrawals : (w₀ : World) (config sizes : List ℕ) (events requester : ℕ)
    → is_accepted (operate w₀ (start config sizes events requester)).answer ≡ true
    → (p : Player) (actions : List Action) (m : Mode) (v : ℕ)
    → let g : Given = start_given w₀.endpoint config sizes events requester in
    let r : Run = (acted_all (host_of p (operate w₀ (start config sizes events requester)).world) actions).run in
    (waits m r.world.endpoint v ≡ true) ↔ WaitsStill g m v r.past
unfolding run
player_withdrawals w₀ config sizes events requester a p actions m v =
    let g : Given = start_given w₀.endpoint config sizes events requester in
    let h : Host = host_of p (operate w₀ (start config sizes events requester)).world in
    subst (λ (r : Run). (waits m r.world.endpoint v ≡ true) ↔ WaitsStill g m v r.past) (sym (player-calls h actions))
    (withdrawal_history w₀ config sizes events requester a (calls_made h actions) m v)
