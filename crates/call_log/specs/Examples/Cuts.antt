-- Request [1]: a log played whole and by pieces, on a card that counts its calls. Assumes nothing.
use Rattle.std.specs.Prelude.{List, [], ◌∷◌, ◌++◌, ℕ, zero, suc, length, replicate}
use Rattle.call_log.specs.Players.{fresh}
use Rattle.call_log.specs.Cuttings.{Trial, Piece, Playing, whole_of, pieced_all, begun, played_by}
use Rattle.call_log.specs.Examples.Parts.{mark, line_bytes, bar_bytes, reset_bytes, equal, player_fields, answers, counting, refused_with}

-- four records; the second is refused with 2
abbrev log : List ℕ
log = mark ++ line_bytes ++ refused_with 2 ++ bar_bytes ++ reset_bytes

-- card calls, stage, bytes taken, records, the 15 bytes of a part, and for each record the refusal and the packets
abbrev trial_fields : Trial ℕ → List ℕ
trial_fields x = x.world ∷ player_fields x.player ++ answers x.results

abbrev pieces : (n size : ℕ) → List Piece
pieces zero size = []
pieces (suc n) size = record { size = size; out = [] } ∷ pieces n size

-- n calls with `size` bytes each
abbrev by_pieces : (n size : ℕ) → List ℕ → Playing ℕ
by_pieces n size bytes = pieced_all counting (begun fresh 0 bytes) (pieces n size)

-- the four records played, and all bytes taken
abbrev all_played : List ℕ
all_played = 4 ∷ 1 ∷ 0 ∷ 4 ∷ replicate 15 0 ++ (0 ∷ 10 ∷ 2 ∷ 11 ∷ 0 ∷ 12 ∷ 0 ∷ 13 ∷ [])

-- the same up to a wrong byte
abbrev then_broken : List ℕ
then_broken = 4 ∷ 3 ∷ 0 ∷ 4 ∷ replicate 15 0 ++ (0 ∷ 10 ∷ 2 ∷ 11 ∷ 0 ∷ 12 ∷ 0 ∷ 13 ∷ [])

-- "every cutting gives the same packets, answers for each record and final card and buffers": 31 bytes, whole, one by one, by sevens and at once
abbrev pub cuttings : List (ℕ × ℕ)
cuttings =
    (31, length log) ∷ equal all_played (trial_fields (whole_of (counting []) fresh 0 log)) ∷ equal all_played (trial_fields (played_by (by_pieces 31 1 log)))
    ∷ equal all_played (trial_fields (played_by (by_pieces 7 7 log))) ∷ equal all_played (trial_fields (played_by (by_pieces 4 31 log)))
    ∷ equal [] (by_pieces 31 1 log).rest ∷ equal (5 ∷ []) (by_pieces 30 1 log).rest ∷ equal reset_bytes (by_pieces 3 31 log).rest ∷ []

-- the wrong byte and all after it are handed in again and again
abbrev pub wrong_cuttings : List (ℕ × ℕ)
wrong_cuttings =
    equal then_broken (trial_fields (whole_of (counting []) fresh 0 (log ++ (0 ∷ 5 ∷ [])))) ∷ equal then_broken (trial_fields (played_by (by_pieces 40 1 (log ++ (0 ∷ 5 ∷ [])))))
    ∷ equal (0 ∷ 5 ∷ []) (by_pieces 40 1 (log ++ (0 ∷ 5 ∷ []))).rest ∷ equal (0 ∷ 5 ∷ []) (by_pieces 5 40 (log ++ (0 ∷ 5 ∷ []))).rest ∷ []

abbrev pub cuts : List (ℕ × ℕ)
cuts = cuttings ++ wrong_cuttings
