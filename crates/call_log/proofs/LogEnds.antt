-- Request [3]: where a recorded log ends. Assumes nothing.
use mathlib.Core.Path.{◌≡◌, refl, ap}
use mathlib.Core.Bool.{true, false, not, cond, ◌&&◌}
use mathlib.Core.List.{List, [], ◌∷◌, ◌++◌}
use Prim.Native.Nat.{ℕ}
use borrow.Author.Tests.{not-true}
use Rattle.words.proofs.BoolLaws.{both}
use Rattle.model.specs.Answers.{is_accepted}
use Rattle.model.specs.World.{World}
use Rattle.model.specs.Calls.{Call, withdraw, is_withdrawal, no_withdrawal, step}
use Rattle.call_log.specs.Recorder.{ends_log, recorded_calls, log_told, left}

-- a list without withdrawals is told of whole
pub recorded_whole : (w : World) (calls : List Call) → no_withdrawal calls ≡ true → recorded_calls w calls ≡ calls
unfolding recorded_calls ends_log no_withdrawal
recorded_whole w [] h = refl
recorded_whole w (c ∷ cs) h =
    let p = both (not (is_withdrawal c)) (no_withdrawal cs) h in
    rw (not-true (is_withdrawal c) p.0) (ap (λ (l : List Call). c ∷ l) (recorded_whole (step w c).world cs p.1))

-- behind a refused withdrawal the log goes on
pub refused_goes_on : (w : World) (v : ℕ) (calls : List Call) → is_accepted (step w (withdraw v)).answer ≡ false
    → recorded_calls w (withdraw v ∷ calls) ≡ withdraw v ∷ recorded_calls (step w (withdraw v)).world calls
unfolding recorded_calls ends_log
refused_goes_on w v calls e = rw e

-- an accepted withdrawal ends the log, whatever follows it: the log is that of the calls before it
ends_there : (w : World) (before : List Call) (v : ℕ) (behind : List Call) → is_accepted (step (left w before) (withdraw v)).answer ≡ true
    → recorded_calls w (before ++ (withdraw v ∷ behind)) ≡ recorded_calls w before
unfolding recorded_calls ends_log left
ends_there w [] v behind a = rw a
ends_there w (c ∷ before) v behind a =
    ap (λ (l : List Call). cond (is_withdrawal c && is_accepted (step w c).answer) [] (c ∷ l)) (ends_there (step w c).world before v behind a)

pub withdrawal_ends : (w : World) (before : List Call) (v : ℕ) (behind : List Call) → is_accepted (step (left w before) (withdraw v)).answer ≡ true
    → log_told w (before ++ (withdraw v ∷ behind)) ≡ log_told w before
unfolding log_told
withdrawal_ends w before v behind a = rw (ends_there w before v behind a)
