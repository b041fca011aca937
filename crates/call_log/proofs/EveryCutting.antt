-- Document 02, request [1]: every cutting of a log gives the same on a card, with 40,976 bytes of output at each call. Assumes nothing.
use mathlib.Core.Path.{◌≡◌, refl}
use mathlib.Core.List.{List}
use Prim.Native.Nat.{ℕ}
use Rattle.model.specs.World.{World}
use Rattle.call_log.specs.Players.{fresh, is_playing}
use Rattle.call_log.specs.Cuttings.{Lent, Piece, Playing, whole_of, pieced_all, begun, IsOver, played_by}
use Rattle.call_log.specs.Cards.{on_card, spare}
use Rattle.call_log.proofs.Reading.{reading}
use Rattle.call_log.proofs.Cutting.{cutting}
use Rattle.call_log.proofs.Room.{card-same, card_never, spare-length}

-- With player, card and buffers handed on, 40,976 bytes of output at each call, of any contents, and untaken bytes handed in again: once all is
-- taken, or a wrong byte was met, packets and answers for each record, player, card and buffers are those of the log played byte by byte
pub cuttings : (w : World) (log : List ℕ) (pieces : List Piece) → Lent 40976 pieces
    → let y : Playing World = pieced_all on_card (begun fresh w log) pieces in
    IsOver y → played_by y ≡ whole_of (on_card spare) fresh w log
unfolding is_playing reading
cuttings w log pieces r e =
    cutting on_card (on_card spare) (card_never spare spare-length) 40976 (λ out l i w r. card-same out spare l spare-length w r i)
    fresh (record { stage = refl; playing = refl; room = refl }) w log pieces r e
