-- One law for each way out of a call of a player. Assumes nothing.
use mathlib.Core.Path.{◌≡◌, refl, sym, ap, ◌∙◌}
use mathlib.Core.Bool.{true, false}
use mathlib.Core.List.{List}
use Prim.Native.Nat.{ℕ}
use lib.ListN.{length, drop}
use lib.Seq.{take-append_seam}
use Rattle.words.specs.Writers.{over}
use Rattle.model.specs.World.{World}
use Rattle.model.specs.Calls.{Call, Outcome, accepted, answer_of, next, output_of, sends, step}
use Rattle.model.specs.Trials.{wrote_bytes}
use Rattle.model.proofs.Calls.CallLaws.{step_elim}
use Rattle.call_log.specs.declared.Player.{Player}
use Rattle.call_log.specs.declared.Record.{Record}
use Rattle.call_log.specs.declared.Scanned.{Scanned}
use Rattle.call_log.specs.Logs.{record_in, call_of}
use Rattle.call_log.specs.Players.{refusal_at, due_at, advanced}
use Rattle.call_log.specs.Plays.{Performed, Played, onward, tried, idle, made, play_of}
use Rattle.call_log.specs.Cards.{on_card}
use Rattle.call_log.proofs.Room.{lends}
use Rattle.std.specs.Prelude.{Some, None}
use Rattle.player.specs.Plays.{Heard, heard_of, play_call}

-- ---- what a call writes stands at the start of its output

record Writes (o : Outcome) (out : List ℕ) : Type 0 where
  count : o.count ≡ length (wrote_bytes o)
  output : o.output ≡ over (wrote_bytes o) out

step-writes : (w : World) (c : Call) → Writes (step w c) (output_of c)
step-writes w c = step_elim w c (λ (o : Outcome). Writes o (output_of c)) (λ _. wrote) (λ n z. record { count = refl; output = refl })
  where
    o : Outcome
    o = accepted (next w c) (answer_of w.endpoint c) (sends w c) (output_of c)

    same : wrote_bytes o ≡ sends w c
    same = take-append_seam (sends w c) (drop (length (sends w c)) (output_of c))

    wrote : Writes o (output_of c)
    wrote = record { count = ap length (sym same); output = ap (λ (b : List ℕ). over b (output_of c)) (sym same) }

-- ---- a call of a player

-- a record is due, or none is
made_due : {W : Type 0} (perform : W → Record → Performed W) (a : Scanned) (w : W) → due_at a.end ≡ true → made perform a w ≡ tried perform a.player w a.taken
unfolding made
made_due perform a w d = rw d

made-not : {W : Type 0} (perform : W → Record → Performed W) (a : Scanned) (w : W) → due_at a.end ≡ false → made perform a w ≡ idle perform a w
unfolding made
made-not perform a w d = rw d

-- the record that is due gave this outcome
abbrev pub performed_to : Scanned → Outcome → Heard
performed_to a o = record {
  player = onward a.player o.answer;
  world = o.world;
  taken = a.taken;
  refusal = 0;
  ended = Some o.answer;
  count = o.count;
  output = o.output;
}

module _ (p : Player) (w : World) (l out : List ℕ) where
  -- what comes before the card decides
  by_advance : (a : Scanned) → a ≡ advanced p l → heard_of (made (on_card out) a w) out ≡ play_call p w l out
  unfolding play_call play_of
  by_advance a e = ap (λ (x : Scanned). heard_of (made (on_card out) x w) out) e

  -- no record is due
  pub play-idle : (a : Scanned) → a ≡ advanced p l → due_at a.end ≡ false
      → record { player = a.player; world = w; taken = a.taken; refusal = refusal_at a.end; ended = None; count = 0; output = out } ≡ play_call p w l out
  play-idle a e d = ap (λ (r : Played World). heard_of r out) (sym (made-not (on_card out) a w d)) ∙ by_advance a e

  -- the record that is due was performed
  pub play_due : (a : Scanned) → a ≡ advanced p l → due_at a.end ≡ true → (o : Outcome) → o ≡ step w (call_of (record_in a.player.part) out)
      → performed_to a o ≡ play_call p w l out
  unfolding tried on_card
  play_due a e d o is =
      let c : Call = call_of (record_in a.player.part) out in
      let writes : Writes (step w c) (output_of c) = step-writes w c in
      ap (performed_to a) is
      ∙ (λ i. record {
        player = onward a.player (step w c).answer;
        world = (step w c).world;
        taken = a.taken;
        refusal = 0;
        ended = Some (step w c).answer;
        count = writes.count i;
        output = (writes.output ∙ ap (over (wrote_bytes (step w c))) (lends w out out (record_in a.player.part)).lent) i;
      })
      ∙ ap (λ (r : Played World). heard_of r out) (sym (made_due (on_card out) a w d))
      ∙ by_advance a e
