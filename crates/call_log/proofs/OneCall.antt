-- Document 02, request [1]: one call of a player, whatever a record does. Assumes nothing.
use mathlib.Core.Path.{◌≡◌, refl, sym, ap, ◌∙◌, subst}
use mathlib.Core.Bool.{Bool, true, false, cond, not, ◌||◌, false≢true}
use mathlib.Core.List.{List, [], ◌∷◌}
use mathlib.Core.Logic.{◌⊎◌, inl, inr}
use mathlib.Core.Option.{Option, none, some, map}
use Prim.Native.Nat.{ℕ, zero, suc, ◌≤◌}
use native.Mathlib.Omega.{arith}
use lib.Dec.{ltb, eqb}
use lib.ListN.{length, set}
use borrow.Author.Tests.{eq-eqb, eqb-true}
use Rattle.words.specs.Lists.{first_of}
use Rattle.words.specs.Bytes.{byte}
use Rattle.words.proofs.BoolLaws.{by_test, cond_elim, both}
use Rattle.model.specs.declared.Answer.{Answer}
use Rattle.model.specs.Answers.{refusal_of}
use Rattle.call_log.specs.declared.Record.{Record}
use Rattle.call_log.specs.declared.Player.{Player}
use Rattle.call_log.specs.declared.Stage.{Stage}
use Rattle.call_log.specs.declared.Stage.TheVariants.{Header, Records, Again, Broken}
use Rattle.call_log.specs.declared.End.{End}
use Rattle.call_log.specs.declared.End.TheVariants.{More, Whole, Wrong}
use Rattle.call_log.specs.declared.Scanned.{Scanned}
use Rattle.call_log.specs.Logs.{record_in, size_of}
use Rattle.call_log.specs.Players.{between, player_of, is_playing, fits, fits_later, fits_record, with, complete, further, scan, counted}
use Rattle.call_log.specs.Players.{due_at, scanned_of, stopped, scanned, resumed, advanced, due_record, played_record}
use Rattle.call_log.specs.Plays.{Performed, Played, world_by, onward, tried, idle, made, play_of}
use Rattle.call_log.proofs.Reading.{scan-taken}
use Rattle.call_log.proofs.ScanLaws.{later_fits, kind_stays}

-- ---- where a scan ends: a whole record can be tried again, and after a wrong byte the player goes on no more

abbrev Ends : Player → End → Type 0
Ends p More = true ≡ true
Ends p Whole = is_playing Again p.taken p.part ≡ true
Ends p Wrong = is_playing p.stage p.taken p.part ≡ false

-- a byte that was set is the byte, or 0 past the end
set-or-zero : (P : ℕ → Type 0) (l : List ℕ) (i b : ℕ) → P b → P 0 → P (byte (set l i b) i)
set-or-zero P [] i b onSet on_zero = on_zero
set-or-zero P (x ∷ l) zero b onSet on_zero = onSet
set-or-zero P (x ∷ l) (suc i) b onSet on_zero = set-or-zero P l i b onSet on_zero

-- the last byte of a complete line is its level
line-size : (t : ℕ) → suc t ≡ size_of 2 → t ≡ 1
unfolding size_of first_of
line-size t h = omega (arith, h)

level-kept : (t : ℕ) (part : List ℕ) (b : ℕ) → fits_record t (byte part 0) b ≡ true → suc t ≡ size_of (byte (set part t b) 0)
    → fits_later (byte (set part t b) 0) (byte (set part t b) 1) ≡ true
unfolding fits_later
level-kept t part b f e = by_test (eqb (byte (set part t b) 0) 2) line (λ n. rw n)
  where
    line : eqb (byte (set part t b) 0) 2 ≡ true → not (eqb (byte (set part t b) 0) 2) || ltb (byte (set part t b) 1) 2 ≡ true
    line k =
        let two : byte (set part t b) 0 ≡ 2 = eqb-true (byte (set part t b) 0) 2 k in
        let one : t ≡ 1 = line-size t (e ∙ ap size_of two) in
        let stays : byte (set part t b) 0 ≡ byte part 0 = kind_stays t part b (omega (arith, one)) in
        let level : fits_later (byte part 0) b ≡ true = sym (later_fits t (byte part 0) b (omega (arith, one))) ∙ f in
        let low : ltb b 2 ≡ true = subst (λ (x : ℕ). fits_later x b ≡ true) (sym stays ∙ two) level in
        rw two (subst (λ (i : ℕ). ltb (byte (set part i b) 1) 2 ≡ true) (sym one) (set-or-zero (λ (x : ℕ). ltb x 2 ≡ true) part 1 b low refl))

-- one byte more makes it complete
complete_again : (p : Player) (b : ℕ) → fits p b ≡ true → complete (with p b) ≡ true → is_playing Again (with p b).taken (with p b).part ≡ true
unfolding fits with complete is_playing
complete_again p b f c = go p.stage p.taken p.part p.number f c
  where
    go : (s : Stage) (t : ℕ) (part : List ℕ) (n : ℕ) → fits (player_of s t part n) b ≡ true → complete (with (player_of s t part n) b) ≡ true
        → is_playing Again (with (player_of s t part n) b).taken (with (player_of s t part n) b).part ≡ true
    go Header t part n f c = absurd (by_test (eqb t 4) (λ e. false≢true (rw e at c)) (λ e. false≢true (rw e at c)))
    go Records t part n f c =
        let size : eqb (suc t) (size_of (byte (set part t b) 0)) ≡ true = (both (ltb 0 (suc t)) (eqb (suc t) (size_of (byte (set part t b) 0))) c).1 in
        let level : fits_later (byte (set part t b) 0) (byte (set part t b) 1) ≡ true = level-kept t part b f (eqb-true (suc t) (size_of (byte (set part t b) 0)) size) in
        rw (level, size, (both (ltb 0 (suc t)) (eqb (suc t) (size_of (byte (set part t b) 0))) c).0)
    go Again t part n f c = absurd (false≢true f)
    go Broken t part n f c = absurd (false≢true f)

scan-ends : (p : Player) (l : List ℕ) → Ends (scan p l).player (scan p l).end
unfolding scan is_playing
scan-ends p [] = refl
scan-ends p (b ∷ l) =
    cond_elim (λ (s : Scanned). Ends s.player s.end) (fits p b)
    (λ f.
    cond_elim (λ (s : Scanned). Ends s.player s.end) (complete (with p b)) {x = record { player = with p b; taken = 1; end = Whole }} {y = further (scan (with p b) l)}
    (complete_again p b f) (λ _. scan-ends (with p b) l))
    (λ _. refl)

-- ---- the ways out of a call, before it meets the card: the player stands; tries its record again; has taken all; has a whole record; met a wrong byte

-- a whole record is held
abbrev holding : Player → Player
holding p = player_of Records p.taken p.part (counted p.number)

module _ (p : Player) (l : List ℕ) (P : Scanned → Type 0)
    (onStand : is_playing p.stage p.taken p.part ≡ false → P (stopped p))
    (onAgain : is_playing Again p.taken p.part ≡ true → P (scanned_of p 0 Whole))
    (onMore : P (scanned_of (scan p l).player (scan p l).taken More))
    (onWhole : is_playing Again (scan p l).player.taken (scan p l).player.part ≡ true → P (scanned_of (holding (scan p l).player) (scan p l).taken Whole))
    (onWrong : is_playing (scan p l).player.stage (scan p l).player.taken (scan p l).player.part ≡ false
    → P (scanned_of (scan p l).player (scan p l).taken Wrong)) where
  by_end : (e : End) → Ends (scan p l).player e → P (scanned (scan p l) e)
  unfolding scanned
  by_end More h = onMore
  by_end Whole h = onWhole h
  by_end Wrong h = onWrong h

  by_stage : (t : Stage) → is_playing t p.taken p.part ≡ true → P (resumed t p l)
  unfolding resumed is_playing
  by_stage Header e = by_end (scan p l).end (scan-ends p l)
  by_stage Records e = by_end (scan p l).end (scan-ends p l)
  by_stage Again e = onAgain e
  by_stage Broken e = absurd (false≢true e)

  pub advance_elim : P (advanced p l)
  unfolding advanced
  advance_elim = by_test (is_playing p.stage p.taken p.part) (λ e. rw e (by_stage p.stage e)) (λ e. rw e (onStand e))

module _ {W : Type 0} (perform : W → Record → Performed W) where
  -- ---- what a call promises

  -- it performs the record that is due, and nothing else meets card and buffers
  pub record Performs (p : Player) (w : W) (l : List ℕ) : Type 0 where
    pub result : (play_of perform p w l).result ≡ map (perform w) (played_record p l)
    pub world : (play_of perform p w l).world ≡ world_by (play_of perform p w l).result w

  due_result : (a : Scanned) (w : W) (b : Bool)
      → (cond b (tried perform a.player w a.taken) (idle perform a w)).result ≡ map (perform w) (cond b (some (record_in a.player.part)) none)
  unfolding tried
  due_result a w true = refl
  due_result a w false = refl

  due_world : (a : Scanned) (w : W) (b : Bool)
      → let r : Played W = cond b (tried perform a.player w a.taken) (idle perform a w) in r.world ≡ world_by r.result w
  unfolding tried
  due_world a w true = refl
  due_world a w false = refl

  pub performs : (p : Player) (w : W) (l : List ℕ) → Performs p w l
  unfolding play_of made due_record
  performs p w l = record { result = due_result (advanced p l) w (due_at (advanced p l).end); world = due_world (advanced p l) w (due_at (advanced p l).end) }

  -- a call is refused with 30, or not at all; beside 30 no record was performed, and card and buffers are as they were
  pub play-refused : (p : Player) (w : W) (l : List ℕ)
      → let r : Played W = play_of perform p w l in (r.refusal ≡ 0) ⊎ ((r.refusal ≡ 30) × (r.world ≡ w) × (r.result ≡ none))
  unfolding play_of made tried
  play-refused p w l =
      advance_elim p l (λ (a : Scanned). let r : Played W = made perform a w in (r.refusal ≡ 0) ⊎ ((r.refusal ≡ 30) × (r.world ≡ w) × (r.result ≡ none)))
      (λ _. inr (refl, refl, refl)) (λ _. inl refl) (inl refl) (λ _. inl refl) (λ _. inr (refl, refl, refl))

  -- no more bytes are taken than are handed in
  pub play-taken : (p : Player) (w : W) (l : List ℕ) → (play_of perform p w l).taken ≤ length l
  unfolding play_of made tried
  play-taken p w l =
      advance_elim p l (λ (a : Scanned). (made perform a w).taken ≤ length l)
      (λ _. omega arith) (λ _. omega arith) (scan-taken p l) (λ _. scan-taken p l) (λ _. scan-taken p l)

  -- ---- 30 is for good

  -- a player that goes on no more
  pub stands : (p : Player) (w : W) (l : List ℕ) → is_playing p.stage p.taken p.part ≡ false → play_of perform p w l ≡ idle perform (stopped p) w
  unfolding play_of advanced made
  stands p w l e = rw e

  -- "every later call answers 30": after a call that answered 30, any bytes on any card are answered with 30, none is taken, and nothing changes
  pub broken_stays : (p : Player) (w : W) (l : List ℕ) → (play_of perform p w l).refusal ≡ 30
      → (v : W) (m : List ℕ) → let q : Player = (play_of perform p w l).player in play_of perform q v m ≡ idle perform (stopped q) v
  unfolding play_of made tried
  broken_stays p w l =
      advance_elim p l
      (λ (a : Scanned). (made perform a w).refusal ≡ 30 → (v : W) (m : List ℕ)
      → let q : Player = (made perform a w).player in play_of perform q v m ≡ idle perform (stopped q) v)
      (λ e _ v m. stands p v m e) (λ _ h. absurd (omega (arith, h))) (λ h. absurd (omega (arith, h))) (λ _ h. absurd (omega (arith, h)))
      (λ e _ v m. stands (scan p l).player v m e)

  -- ---- a 6 is tried again

  -- a player that holds a record to be tried again
  abbrev held : Player → Player
  held p = player_of Again p.taken p.part p.number

  -- q performs the record c, taking 0 bytes, whatever card and bytes it is given
  abbrev Tries : Player → Option Record → Type 0
  Tries q c = (v : W) (m : List ℕ) → (played_record q m ≡ c) × (play_of perform q v m ≡ tried perform q v 0)

  held-tries : (p : Player) → is_playing Again p.taken p.part ≡ true → Tries (held p) (some (record_in p.part))
  unfolding play_of advanced due_record made resumed
  held-tries p e v m = (rw e, rw e)

  abbrev Tries-after : W → Scanned → Type 0
  Tries-after w a = (x : Performed W) → (made perform a w).result ≡ some x → refusal_of x.answer ≡ 6 → Tries (made perform a w).player (due_record a)

  six_in : Option (Performed W) → ℕ
  six_in none = 0
  six_in (some x) = refusal_of x.answer

  tried_again : (p : Player) (w : W) (taken : ℕ) → is_playing Again p.taken p.part ≡ true → Tries-after w (scanned_of p taken Whole)
  unfolding made due_record tried onward six_in
  tried_again p w taken e x is six =
      let a : Answer = (perform w (record_in p.part)).answer in
      subst (λ (q : Player). Tries q (some (record_in p.part)))
      (ap (λ (b : Bool). cond b (held p) (between p.number)) (sym (eq-eqb (refusal_of a) 6 (ap six_in is ∙ six))))
      (held-tries p e)

  none_due : (p : Player) (w : W) (taken : ℕ) (end : End) → due_at end ≡ false → Tries-after w (scanned_of p taken end)
  unfolding made six_in
  none_due p w taken Whole d x is six = absurd (false≢true (sym d))
  none_due p w taken More d x is six = let e : ◌≡◌ {A = ℕ} 0 6 = ap six_in is ∙ six in absurd (omega (arith, e))
  none_due p w taken Wrong d x is six = let e : ◌≡◌ {A = ℕ} 0 6 = ap six_in is ∙ six in absurd (omega (arith, e))

  -- "except 6: the record's bytes count as taken, and the next call only tries it again, taking 0 bytes", whatever it is given
  pub tries_again : (p : Player) (w : W) (l : List ℕ) (x : Performed W) → (play_of perform p w l).result ≡ some x → refusal_of x.answer ≡ 6
      → (v : W) (m : List ℕ) → let q : Player = (play_of perform p w l).player in
      (played_record q m ≡ played_record p l) × (play_of perform q v m ≡ tried perform q v 0)
  unfolding play_of
  tries_again p w l =
      advance_elim p l (Tries-after w) (λ _. none_due p w 0 Wrong refl) (λ e. tried_again p w 0 e) (none_due (scan p l).player w (scan p l).taken More refl)
      (λ c. tried_again (holding (scan p l).player) w (scan p l).taken c)
      (λ _. none_due (scan p l).player w (scan p l).taken Wrong refl)
