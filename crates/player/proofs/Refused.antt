-- Document 02, request [1]: what a refused call of a player leaves of card, buffers and output. Assumes nothing.
use mathlib.Core.Path.{◌≡◌, ap}
use mathlib.Core.List.{List}
use mathlib.Core.Logic.{◌⊎◌, inl, inr}
use mathlib.Core.Option.{Option, none}
use Prim.Native.Nat.{ℕ}
use lib.ListN.{length}
use Rattle.words.specs.Writers.{over}
use Rattle.model.specs.World.{World}
use Rattle.call_log.specs.declared.Player.{Player}
use Rattle.call_log.specs.Plays.{Performed, Played, play_of}
use Rattle.call_log.specs.Cards.{on_card}
use Rattle.call_log.proofs.OneCall.{play-refused}
use Rattle.std.specs.Prelude.{None}
use Rattle.player.specs.Plays.{Heard, ended_by, packets, play_call}

-- "Demand 1 takes all new refusals as 01's": everything as it was, and no record was performed
pub record Unchanged (w : World) (out : List ℕ) (h : Heard) : Type 0 where
  pub refusal : h.refusal ≡ 30
  pub world : h.world ≡ w
  pub output : h.output ≡ out
  pub count : h.count ≡ 0
  pub ended : h.ended ≡ None

-- A call of a player is not refused, or it is refused with 30 and leaves card, buffers and output
pub refused_unchanged : (p : Player) (w : World) (log out : List ℕ) → ((play_call p w log out).refusal ≡ 0) ⊎ Unchanged w out (play_call p w log out)
unfolding play_call
refused_unchanged p w log out = way (play-refused (on_card out) p w log)
  where
    r : Played World
    r = play_of (on_card out) p w log

    way : (r.refusal ≡ 0) ⊎ ((r.refusal ≡ 30) × (r.world ≡ w) × (r.result ≡ none)) → (r.refusal ≡ 0) ⊎ Unchanged w out (play_call p w log out)
    way (inl z) = inl z
    way (inr z) = inr (record {
      refusal = z.0;
      world = z.1;
      output = ap (λ (x : Option (Performed World)). over (packets x) out) z.2;
      count = ap (λ (x : Option (Performed World)). length (packets x)) z.2;
      ended = ap ended_by z.2;
    })
