-- Document 02, request [1]: every cutting of a log gives the same, whatever a record does. No card is known here. Assumes nothing.
use mathlib.Core.Path.{◌≡◌, refl, sym, ap, ◌∙◌, subst}
use mathlib.Core.Bool.{Bool, true, false, cond, false≢true}
use mathlib.Core.List.{List, [], ◌∷◌, ◌++◌, append-nil, append_assoc}
use mathlib.Core.Logic.{◌⊎◌, inl, inr}
use Prim.Native.Nat.{ℕ, zero, suc, ◌≤◌}
use native.Mathlib.Omega.{arith}
use lib.Dec.{eqb}
use lib.ListN.{length, take, drop, take-append-drop}
use Rattle.model.specs.Answers.{refusal_of}
use Rattle.call_log.specs.declared.Record.{Record}
use Rattle.call_log.specs.declared.Player.{Player}
use Rattle.call_log.specs.declared.Stage.{Stage}
use Rattle.call_log.specs.declared.Stage.TheVariants.{Header, Records, Again, Broken}
use Rattle.call_log.specs.Logs.{record_in}
use Rattle.call_log.specs.declared.End.{End}
use Rattle.call_log.specs.declared.End.TheVariants.{More, Whole, Wrong}
use Rattle.call_log.specs.declared.Scanned.{Scanned}
use Rattle.call_log.specs.Players.{further, scan, fits, with, complete, counted, broken, between, stopped, scanned, resumed, advanced, is_playing}
use Rattle.call_log.specs.Plays.{Performed, Played, onward, tried, idle, made, play_of}
use Rattle.call_log.specs.Cuttings.{Trial, Lent, no_call, one_more, Piece, Playing, preceded, whole_of, noted, pieced, pieced_all, begun, IsOver, played_by}
use Rattle.call_log.proofs.Reading.{Reads, reading, with-reads, scan-taken}

drop_more : (n : ℕ) (l r : List ℕ) → n ≤ length l → drop n l ++ r ≡ drop n (l ++ r)
drop_more zero l r h = refl
drop_more (suc n) [] r h = absurd (omega (arith, h))
drop_more (suc n) (x ∷ l) r h = drop_more n l r (omega (arith, h))

-- a player that is broken gives nothing more
broken_whole : {W : Type 0} (perform : W → Record → Performed W) (p : Player) (w : W) (l : List ℕ)
    → whole_of perform (broken p) w l ≡ record { results = []; player = broken p; world = w }
unfolding whole_of fits
broken_whole perform p w [] = refl
broken_whole perform p w (b ∷ l) = refl

-- ---- one call

module _ {W : Type 0} (perform : W → Record → Performed W) (never : (w : W) (r : Record) → eqb (refusal_of (perform w r).answer) 6 ≡ false) where
  abbrev ended : Scanned → End → W → Played W
  ended s e w = made perform (scanned s e) w

  abbrev call : Player → W → List ℕ → Played W
  call p w l = ended (scan p l) (scan p l).end w

  -- a scan's result, and then what is left
  abbrev after : W → (l r : List ℕ) → Scanned → End → Trial W
  after w l r s e =
      preceded (noted (ended s e w).result) (whole_of perform (ended s e w).player (ended s e w).world (drop (ended s e w).taken l ++ r))

  after-further : (w : W) (b : ℕ) (l r : List ℕ) (s : Scanned) (e : End) → after w l r s e ≡ after w (b ∷ l) r (further s) e
  unfolding scanned made tried
  after-further w b l r s More = refl
  after-further w b l r s Whole = refl
  after-further w b l r s Wrong = refl

  after_whole : (w : W) (b : ℕ) (l r : List ℕ) (q : Player)
      → preceded (perform w (record_in q.part) ∷ []) (whole_of perform (between (counted q.number)) (perform w (record_in q.part)).world (l ++ r))
      ≡ after w (b ∷ l) r (record { player = q; taken = 1; end = Whole }) Whole
  unfolding scanned made tried onward
  after_whole w b l r q = rw (never w (record_in q.part))

  after_wrong : (w : W) (b : ℕ) (l r : List ℕ) (p : Player)
      → record { results = []; player = broken p; world = w } ≡ after w (b ∷ l) r (record { player = broken p; taken = 0; end = Wrong }) Wrong
  unfolding scanned made
  after_wrong w b l r p = sym (broken_whole perform p w (b ∷ l ++ r))

  after-cond : (w : W) (b : ℕ) (l r : List ℕ) (p q : Player) (s : Scanned) (f c : Bool) → whole_of perform q w (l ++ r) ≡ after w l r s s.end
      → let t : Scanned = cond f (cond c (record { player = q; taken = 1; end = Whole }) (further s)) (record { player = broken p; taken = 0; end = Wrong }) in
      cond f
      (cond c
      (preceded (perform w (record_in q.part) ∷ []) (whole_of perform (between (counted q.number)) (perform w (record_in q.part)).world (l ++ r)))
      (whole_of perform q w (l ++ r)))
      (record { results = []; player = broken p; world = w })
      ≡ after w (b ∷ l) r t t.end
  after-cond w b l r p q s true true h = after_whole w b l r q
  after-cond w b l r p q s true false h = h ∙ after-further w b l r s s.end
  after-cond w b l r p q s false c h = after_wrong w b l r p

  -- what is played in a call, and then what is left, is the whole
  one-call : (p : Player) (w : W) (l r : List ℕ) → whole_of perform p w (l ++ r) ≡ after w l r (scan p l) (scan p l).end
  unfolding scan scanned made whole_of
  one-call p w [] r = refl
  one-call p w (b ∷ l) r = after-cond w b l r p (with p b) (scan (with p b) l) (fits p b) (complete (with p b)) (one-call (with p b) w l r)

  -- ---- a player between two calls: it reads on, or is broken

  abbrev pub Live : Player → Type 0
  Live p = Reads p ⊎ (p ≡ broken p)

  reads-call : (p : Player) (w : W) (l : List ℕ) → Reads p → play_of perform p w l ≡ call p w l
  unfolding play_of advanced resumed reading
  reads-call p w l k = rw k.playing (go p.stage k.stage)
    where
      go : (s : Stage) → reading s ≡ true → made perform (resumed s p l) w ≡ call p w l
      go Header e = refl
      go Records e = refl
      go Again e = absurd (false≢true e)
      go Broken e = absurd (false≢true e)

  broken-call : (p : Player) (w : W) (l : List ℕ) → play_of perform (broken p) w l ≡ idle perform (stopped (broken p)) w
  unfolding play_of advanced made is_playing
  broken-call p w l = refl

  -- after a scan
  live_further : (w : W) (s : Scanned) (e : End) → Live (ended s e w).player → Live (ended (further s) e w).player
  unfolding scanned made tried
  live_further w s More h = h
  live_further w s Whole h = h
  live_further w s Wrong h = h

  live_whole : (w : W) (q : Player) (n : ℕ) → Live (ended (record { player = q; taken = n; end = Whole }) Whole w).player
  unfolding scanned made tried onward reading is_playing
  live_whole w q n = rw (never w (record_in q.part)) (inl (record { stage = refl; playing = refl; room = refl }))

  live_cond : (w : W) (p q : Player) (s : Scanned) (f c : Bool) → (f ≡ true → c ≡ false → Live (ended s s.end w).player)
      → let t : Scanned = cond f (cond c (record { player = q; taken = 1; end = Whole }) (further s)) (record { player = broken p; taken = 0; end = Wrong }) in
      Live (ended t t.end w).player
  unfolding scanned made
  live_cond w p q s true true h = live_whole w q 1
  live_cond w p q s true false h = live_further w s s.end (h refl refl)
  live_cond w p q s false c h = inr refl

  live_ended : (w : W) (p : Player) (l : List ℕ) → Reads p → Live (ended (scan p l) (scan p l).end w).player
  unfolding scan scanned made
  live_ended w p [] k = inl k
  live_ended w p (b ∷ l) k =
      live_cond w p (with p b) (scan (with p b) l) (fits p b) (complete (with p b)) (λ f c. live_ended w (with p b) l (with-reads p b k f c))

  ended-taken : (w : W) (s : Scanned) (e : End) → (ended s e w).taken ≡ s.taken
  unfolding scanned made tried
  ended-taken w s More = refl
  ended-taken w s Whole = refl
  ended-taken w s Wrong = refl

-- ---- every cutting

-- with an output of n bytes the contents do not matter, and 6 is no answer
module _ {W : Type 0} (perform : List ℕ → W → Record → Performed W) (base : W → Record → Performed W)
    (never : (w : W) (r : Record) → eqb (refusal_of (base w r).answer) 6 ≡ false)
    (n : ℕ) (same : (out : List ℕ) → length out ≡ n → perform out ≡ base) where
  -- what was played, and then what is left
  abbrev total : Playing W → Trial W
  total x = preceded x.results (whole_of base x.player x.world x.rest)

  record Kept (x y : Playing W) : Type 0 where
    live : Live base never y.player
    whole : total y ≡ total x

  -- the state after a call that gave r
  abbrev onto : Playing W → Played W → Playing W
  onto x r = record { player = r.player; world = r.world; rest = drop r.taken x.rest; results = x.results ++ noted r.result }

  pieced_is : (x : Playing W) (piece : Piece) → length piece.out ≡ n → pieced perform x piece ≡ onto x (play_of base x.player x.world (take piece.size x.rest))
  unfolding pieced
  pieced_is x piece r = ap (λ (f : W → Record → Performed W). onto x (play_of f x.player x.world (take piece.size x.rest))) (same piece.out r)

  preceded-append : (a b : List (Performed W)) (y : Trial W) → preceded (a ++ b) y ≡ preceded a (preceded b y)
  preceded-append a b y = ap (λ (l : List (Performed W)). record { results = l; player = y.player; world = y.world }) (append_assoc a b y.results)

  kept-reads : (x : Playing W) (m : ℕ) → Reads x.player → Kept x (onto x (call base never x.player x.world (take m x.rest)))
  kept-reads x m k = record {
    live = live_ended base never x.world x.player (take m x.rest) k;
    whole =
        preceded-append x.results (noted c.result) (whole_of base c.player c.world (drop c.taken x.rest))
        ∙ ap (preceded x.results)
        (ap (λ (l : List ℕ). preceded (noted c.result) (whole_of base c.player c.world l)) (sym left)
        ∙ sym (one-call base never x.player x.world (take m x.rest) (drop m x.rest))
        ∙ ap (whole_of base x.player x.world) (take-append-drop m x.rest));
  }
    where
      c : Played W
      c = call base never x.player x.world (take m x.rest)

      left : drop c.taken (take m x.rest) ++ drop m x.rest ≡ drop c.taken x.rest
      left =
          drop_more c.taken (take m x.rest) (drop m x.rest)
          (subst (λ (k : ℕ). k ≤ length (take m x.rest))
          (sym (ended-taken base never x.world (scan x.player (take m x.rest)) (scan x.player (take m x.rest)).end))
          (scan-taken x.player (take m x.rest)))
          ∙ ap (drop c.taken) (take-append-drop m x.rest)

  kept_piece : (x : Playing W) (piece : Piece) → length piece.out ≡ n → Live base never x.player → Kept x (pieced perform x piece)
  kept_piece x piece r (inl k) =
      subst (λ (y : Playing W). Kept x y) (sym (pieced_is x piece r ∙ ap (onto x) (reads-call base never x.player x.world (take piece.size x.rest) k))) (kept-reads x piece.size k)
  kept_piece x piece r (inr b) =
      subst (λ (y : Playing W). Kept x y) (sym (pieced_is x piece r ∙ ap (onto x) still))
      (record { live = inr b; whole = ap (λ (l : List (Performed W)). preceded l (whole_of base x.player x.world x.rest)) (append-nil x.results) })
    where
      still : play_of base x.player x.world (take piece.size x.rest) ≡ idle base (stopped x.player) x.world
      still =
          subst (λ (p : Player). play_of base p x.world (take piece.size x.rest) ≡ idle base (stopped p) x.world) (sym b)
          (broken-call base never x.player x.world (take piece.size x.rest))

  kept-all : (x : Playing W) (pieces : List Piece) → Lent n pieces → Live base never x.player → Kept x (pieced_all perform x pieces)
  unfolding pieced_all
  kept-all x [] no_call h = record { live = h; whole = refl }
  kept-all x (piece ∷ pieces) (one_more r rs) h =
      let a : Kept x (pieced perform x piece) = kept_piece x piece r h in
      let b : Kept (pieced perform x piece) (pieced_all perform (pieced perform x piece) pieces) = kept-all (pieced perform x piece) pieces rs a.live in
      record { live = b.live; whole = b.whole ∙ a.whole }

  ended_total : (y : Playing W) → IsOver y → total y ≡ played_by y
  unfolding whole_of
  ended_total y (inl e) =
      ap (λ (l : List ℕ). preceded y.results (whole_of base y.player y.world l)) e
      ∙ ap (λ (l : List (Performed W)). record { results = l; player = y.player; world = y.world }) (append-nil y.results)
  ended_total y (inr b) =
      ap (λ (p : Player). preceded y.results (whole_of base p y.world y.rest)) b
      ∙ ap (preceded y.results) (broken_whole base y.player y.world y.rest)
      ∙ ap (λ (p : Player). record { results = y.results ++ []; player = p; world = y.world }) (sym b)
      ∙ ap (λ (l : List (Performed W)). record { results = l; player = y.player; world = y.world }) (append-nil y.results)

  -- however a log is cut, once it is taken whole, or up to its first wrong byte, the records gave what they give when it is played byte by byte,
  -- and player, card and buffers are the same
  pub cutting : (p : Player) → Reads p → (w : W) (log : List ℕ) (pieces : List Piece) → Lent n pieces
      → let y : Playing W = pieced_all perform (begun p w log) pieces in
      IsOver y → played_by y ≡ whole_of base p w log
  cutting p k w log pieces r e = sym (ended_total _ e) ∙ (kept-all (begun p w log) pieces r (inl k)).whole
