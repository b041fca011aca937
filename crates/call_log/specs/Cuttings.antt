-- Document 02, request [1]: a log played whole, and played by pieces. Assumes nothing.
use Rattle.std.specs.Prelude.{◌≡◌, cond, ◌⊎◌, ℕ, length, take, drop}
use mathlib.Core.List.{List, [], ◌∷◌, ◌++◌, foldl}
use Rattle.std.proofs.Math.Option.{Option, none, some}
use Rattle.call_log.specs.declared.Record.{Record}
use Rattle.call_log.specs.declared.Player.{Player}
use Rattle.call_log.specs.Logs.{record_in}
use Rattle.call_log.specs.Players.{between, broken, counted, fits, with, complete}
use Rattle.call_log.specs.Plays.{Performed, Played, play_of}

-- what each record gave, in order, and player and card at the end
pub record Trial (W : Type 0) : Type 0 where
  pub results : List (Performed W)
  pub player : Player
  pub world : W

-- how many of the bytes that are not taken yet are handed in at a call, and the output lent to it
pub record Piece : Type 0 where
  pub size : ℕ
  pub out : List ℕ

-- every call is lent n bytes of output
pub data Lent (n : ℕ) : List Piece → Type 0 where
  no_call : Lent n []
  one_more : {piece : Piece} {pieces : List Piece} → length piece.out ≡ n → Lent n pieces → Lent n (piece ∷ pieces)

-- between two calls: `rest` is not taken yet
pub record Playing (W : Type 0) : Type 0 where
  pub player : Player
  pub world : W
  pub rest : List ℕ
  pub results : List (Performed W)

module _ {W : Type 0} where
  abbrev pub preceded : List (Performed W) → Trial W → Trial W
  preceded rs x = record { results = rs ++ x.results; player = x.player; world = x.world }

  -- byte by byte, each record performed as it is complete, up to the first wrong byte
  unfoldable pub whole_of : (W → Record → Performed W) → Player → W → (log : List ℕ) → Trial W
  whole_of perform p w [] = record { results = []; player = p; world = w }
  whole_of perform p w (b ∷ l) =
      let q : Player = with p b in
      let r : Performed W = perform w (record_in q.part) in
      cond (fits p b)
      (cond (complete q)
      (preceded (r ∷ []) (whole_of perform (between (counted q.number)) r.world l))
      (whole_of perform q w l))
      (record { results = []; player = broken p; world = w })

  abbrev pub noted : Option (Performed W) → List (Performed W)
  noted none = []
  noted (some r) = r ∷ []

  -- "player, card and buffers handed on .. and untaken bytes handed in again"
  unfoldable pub pieced : (List ℕ → W → Record → Performed W) → Playing W → Piece → Playing W
  pieced perform x piece =
      let r : Played W = play_of (perform piece.out) x.player x.world (take piece.size x.rest) in
      record { player = r.player; world = r.world; rest = drop r.taken x.rest; results = x.results ++ noted r.result }

  unfoldable pub pieced_all : (List ℕ → W → Record → Performed W) → Playing W → List Piece → Playing W
  pieced_all perform x pieces = foldl (pieced perform) x pieces

  -- before the first call
  abbrev pub begun : Player → W → (log : List ℕ) → Playing W
  begun p w log = record { player = p; world = w; rest = log; results = [] }

  -- all is taken, or a wrong byte was met
  abbrev pub IsOver : Playing W → Type 0
  IsOver y = (y.rest ≡ []) ⊎ (y.player ≡ broken y.player)

  -- what was played
  abbrev pub played_by : Playing W → Trial W
  played_by y = record { results = y.results; player = y.player; world = y.world }
