-- Demand 3, first part, over lists of document 01's calls: those that hold no withdrawal. Assumes nothing.
use mathlib.Core.Path.{◌≡◌, refl}
use mathlib.Core.Bool.{true, false, not}
use mathlib.Core.List.{List, [], ◌∷◌, foldl}
use mathlib.Core.Logic.{◌↔◌}
use mathlib.Core.Logic.Iff
use Prim.Native.Nat.{ℕ}
use borrow.Author.Tests.{not-true}
use Rattle.words.proofs.BoolLaws.{both}
use Rattle.model.specs.declared.Mode.{Mode}
use Rattle.model.specs.Answers.{is_accepted}
use Rattle.model.specs.World.{World}
use Rattle.model.specs.Vectors.{waits}
use Rattle.model.specs.Start.{Given}
use Rattle.model.specs.Calls.{Call, is_withdrawal, no_withdrawal, Outcome, step, start_given, start, operate}
use Rattle.model.specs.Trials.{wrote_bytes}
use Rattle.model.specs.History.{Entry, Past, Run, called, run, entry_of, WaitsBy}
use Rattle.model.specs.Since.{Every}
use Rattle.model.proofs.History.SinceLaws.{every-nil, every-cons}
use Rattle.model.proofs.WaitingHistory.{withdrawal_history}
use Rattle.model.proofs.Withdrawals.{without_withdrawals}

-- no entry of a past is a withdrawal
abbrev pub Plain : Past → Type 0
Plain past = Every (λ x before. is_withdrawal x.call ≡ false) past

pub plain-more : (c : Call) (x : Entry) (past : Past) → x.call ≡ c → not (is_withdrawal c) ≡ true → Plain past → Plain (x ∷ past)
plain-more c x past e h p = every-cons (λ x before. is_withdrawal x.call ≡ false) (rw e (not-true (is_withdrawal c) h)) p

plain-past : (r : Run) (calls : List Call) → no_withdrawal calls ≡ true → Plain r.past → Plain (foldl called r calls).past
unfolding no_withdrawal called
plain-past r [] h p = p
plain-past r (c ∷ cs) h p =
    let b = both (not (is_withdrawal c)) (no_withdrawal cs) h in
    let o : Outcome = step r.world c in
    plain-past (called r c) cs b.1 (plain-more c (entry_of c o.answer (wrote_bytes o)) r.past refl b.0 p)

plain_run : (w : World) (calls : List Call) → no_withdrawal calls ≡ true → Plain (run w calls).past
unfolding run
plain_run w calls n = plain-past (record { world = w; past = [] }) calls n (every-nil (λ x before. is_withdrawal x.call ≡ false))

-- Take a card just started, not refused, and then every list of calls, refused ones included. After it each vector's waiting bit is one exactly if,
-- since the start or the last accepted reset, an accepted event for that vector came while its mechanism was in force and the vector was shut,
-- and no later call left it open. What was in force, granted and open is read off the start's input and the calls with their answers
pub waiting_history : (w₀ : World) (config sizes : List ℕ) (events requester : ℕ)
    → is_accepted (operate w₀ (start config sizes events requester)).answer ≡ true
    → (calls : List Call) → no_withdrawal calls ≡ true → (m : Mode) (v : ℕ)
    → let g : Given = start_given w₀.endpoint config sizes events requester in
    let r : Run = run (operate w₀ (start config sizes events requester)).world calls in
    (waits m r.world.endpoint v ≡ true) ↔ WaitsBy g m v r.past
waiting_history w₀ config sizes events requester a calls n m v =
    let g : Given = start_given w₀.endpoint config sizes events requester in
    let w : World = (operate w₀ (start config sizes events requester)).world in
    Iff.trans (withdrawal_history w₀ config sizes events requester a calls m v)
    (without_withdrawals g m v (run w calls).past (plain_run w calls n))
