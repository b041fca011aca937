-- One law for each way out of a call on bytes. Assumes nothing.
use mathlib.Core.Path.{◌≡◌, refl, sym, ap, ◌∙◌, subst}
use mathlib.Core.Bool.{true, false, false≢true}
use Rattle.std.specs.Prelude.{Option, Some, None, IsSome, Ok}
use Rattle.std.proofs.lemmas.Option.{none-some}
use mathlib.Core.List.{List}
use Prim.Native.Nat.{ℕ, ◌≤◌, ◌<◌}
use lib.ListN.{length}
use Rattle.words.specs.Bytes.{byte, word64}
use Rattle.words.proofs.BoolLaws.{by_test}
use Rattle.model.specs.declared.Answer.{Answer}
use Rattle.model.specs.Answers.{refusal_of, event_code}
use Rattle.model.specs.World.{World, world_of}
use Rattle.model.specs.Image.{card_in}
use Rattle.model.specs.Calls.{step}
use Rattle.call_log.specs.declared.Player.{Player}
use Rattle.call_log.specs.declared.Record.{Record}
use Rattle.call_log.specs.declared.End.{End}
use Rattle.call_log.specs.declared.End.TheVariants.{More, Whole, Wrong}
use Rattle.call_log.specs.declared.Scanned.{Scanned}
use Rattle.call_log.specs.Logs.{size_of, record_in, call_of}
use Rattle.call_log.specs.Players.{between, counted, refusal_at, due_at, advanced}
use Rattle.call_log.specs.Scanning.{whole_in}
use Rattle.call_log.specs.Plays.{lacks_room, onward}
use Rattle.call_log.proofs.PlayerLaws.{onward-next}
use Rattle.call_log.proofs.WholeLaws.{DueWhole, whole_room, takes_whole}
use Rattle.player.specs.Plays.{Gave, performed}
use Rattle.player.proofs.PlayLaws.{play-idle, play_due}
use Rattle.capi_log.specs.declared.turn.Turn.{Turn}
use Rattle.capi_log.specs.Crossing.{player_in, player_bytes, is_between, at_once, Crossed, handed, back, called_on, turned}
use Rattle.capi_log.proofs.BetweenFor.{player-between}

-- ---- a record that stands whole in the log of a player between two records

module _ (player log : List ℕ) where
  pub no_between : is_between player ≡ false → None ≡ at_once player log
  no_between e = rw e

  pub in_between : is_between player ≡ true → whole_in log ≡ at_once player log
  in_between e = rw e

  module _ (size : ℕ) (z : at_once player log ≡ Some size) where
    pub at-once-between : is_between player ≡ true
    at-once-between = by_test (is_between player) (λ e. e) (λ e. absurd (none-some size (no_between e ∙ z)))

    is_whole : whole_in log ≡ Some size
    is_whole = in_between at-once-between ∙ z

    -- all of it can be read
    pub at-once-room : (0 < length log) × (size_of (byte log 0) ≤ length log)
    at-once-room = whole_room log size is_whole

    module _ (n : length player ≡ 25) where
      -- it is what a call of the player takes
      abbrev next : Scanned
      next = advanced (player_in player) log

      pub at-once-next : advanced (between (word64 player 17)) log ≡ next
      at-once-next = ap (λ (p : Player). advanced p log) (sym (player-between player n at-once-between))

      pub at-once-due : DueWhole next (word64 player 17) log size
      at-once-due = subst (λ (a : Scanned). DueWhole a (word64 player 17) log size) at-once-next (takes_whole (word64 player 17) log size is_whole)

      -- answered otherwise than with 6: the next record follows
      pub after-counted : (a : Answer) → lacks_room a ≡ false → player_bytes (between (counted (word64 player 17))) ≡ player_bytes (onward next.player a)
      after-counted a e = ap (λ (k : ℕ). player_bytes (between k)) (sym at-once-due.number) ∙ ap player_bytes (onward-next next.player a e)

-- a size that is there
pub some_size : (size : Option ℕ) → IsSome size → (n : ℕ) × (size ≡ Some n)
some_size (Some n) e = (n, refl)
some_size None e = absurd (false≢true e)

-- where the bytes end with a record that is due
due_end : (e : End) → due_at e ≡ true → e ≡ Whole
due_end More d = absurd (false≢true d)
due_end Whole d = refl
due_end Wrong d = absurd (false≢true d)

-- ---- what crosses: p is the player that the bytes hold, and a what its call took

module _ (card t q player log out : List ℕ) (p : Player) (is : p ≡ player_in player) (a : Scanned) (e : a ≡ advanced p log) where
  abbrev w : World
  w = world_of (card_in card) t q

  took : a ≡ advanced (player_in player) log
  took = e ∙ ap (λ (x : Player). advanced x log) is

  -- no record is due
  pub turned-idle : due_at a.end ≡ false → (player' : List ℕ) → player' ≡ player_bytes a.player
      → handed (refusal_at a.end) card t q player' out a.taken 0 0 0 0 ≡ called_on card t q player log out
  turned-idle d player' f =
      ap (λ (l : List ℕ). handed (refusal_at a.end) card t q l out a.taken 0 0 0 0) f ∙ ap (back card) (play-idle (player_in player) w log out a took d)

  -- all is taken, or a wrong byte was met
  pub turned_more : a.end ≡ More → (player' : List ℕ) → player' ≡ player_bytes a.player
      → handed 0 card t q player' out a.taken 0 0 0 0 ≡ called_on card t q player log out
  turned_more m player' f =
      ap (λ (x : End). handed (refusal_at x) card t q player' out a.taken 0 0 0 0) (sym m) ∙ turned-idle (ap due_at m) player' f

  pub turned_wrong : a.end ≡ Wrong → (player' : List ℕ) → player' ≡ player_bytes a.player
      → handed 30 card t q player' out a.taken 0 0 0 0 ≡ called_on card t q player log out
  turned_wrong m player' f =
      ap (λ (x : End). handed (refusal_at x) card t q player' out a.taken 0 0 0 0) (sym m) ∙ turned-idle (ap due_at m) player' f

  -- the record that is due was performed, and the player written after it
  pub turned_due : a.end ≡ Whole → (r : Record) → r ≡ record_in a.player.part → (g : Gave) → g ≡ performed card t q r out
      → (player' : List ℕ) → player' ≡ player_bytes (onward a.player g.answer) → (taken : ℕ) → taken ≡ a.taken
      → handed 0 g.card g.table g.pending player' g.output taken 1 (refusal_of g.answer) (event_code g.answer) g.count
      ≡ called_on card t q player log out
  turned_due d r c g h player' f taken k =
      (λ i. handed 0 g.card g.table g.pending (f i) g.output (k i) 1 (refusal_of g.answer) (event_code g.answer) g.count)
      ∙ ap due (h ∙ ap (λ (x : Record). performed card t q x out) c)
      ∙ ap (back card) (play_due (player_in player) w log out a took (ap due_at d) (step w (call_of (record_in a.player.part) out)) refl)
    where
      due : Gave → Crossed
      due x =
          handed 0 x.card x.table x.pending (player_bytes (onward a.player x.answer)) x.output a.taken 1 (refusal_of x.answer)
          (event_code x.answer) x.count

-- t tells of a record that was performed
pub done_turned : (t : Turn) (taken : ℕ) (a : Answer) → t ≡ record { taken = taken; ended = Ok (Some a) }
    → (card table pending player output : List ℕ) (count : ℕ) (x : Crossed)
    → handed 0 card table pending player output taken 1 (refusal_of a) (event_code a) count ≡ x → turned t card table pending player output count ≡ x
done_turned t taken a e card table pending player output count x h =
    ap (λ (y : Turn). turned y card table pending player output count) e ∙ h

-- a record that stands whole was performed, and the player written after it
pub turned_at_once : (card t q player log out : List ℕ) (size : ℕ) → at_once player log ≡ Some size → length player ≡ 25
    → (r : Record) → r ≡ record_in log → (g : Gave) → g ≡ performed card t q r out
    → (player' : List ℕ) → player' ≡ player_bytes (onward (advanced (player_in player) log).player g.answer)
    → handed 0 g.card g.table g.pending player' g.output size 1 (refusal_of g.answer) (event_code g.answer) g.count
    ≡ called_on card t q player log out
turned_at_once card t q player log out size z n r is g h player' e =
    let due = at-once-due player log size z n in
    turned_due card t q player log out (player_in player) refl (advanced (player_in player) log) refl (due_end _ due.due) r (is ∙ sym due.held) g h player' e
    size (sym due.taken)
