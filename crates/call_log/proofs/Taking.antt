-- Document 02, request [1]: what one call takes, whatever a record does: a record's bytes, and no wrong byte. Assumes nothing.
use mathlib.Core.Path.{◌≡◌, refl, ap, ap₂, ◌∙◌}
use mathlib.Core.Bool.{true, false}
use mathlib.Core.List.{List, ◌∷◌, ◌++◌}
use mathlib.Core.Option.{some}
use Prim.Native.Nat.{ℕ, zero, suc, ◌/◌, ◌%◌, ◌<◌, ◌≤◌}
use native.Mathlib.Omega.{arith}
use lib.ListN.{length, take}
use borrow.Author.Tests.{ne_eqb, le-ltb}
use Rattle.words.specs.Lists.{first_of}
use Rattle.words.specs.Bits.{of_bool}
use Rattle.words.specs.Bytes.{byte, number, word16, word32, word64, bytes_of}
use Rattle.words.proofs.ByteLaws.{number-bytes_of}
use Rattle.call_log.specs.declared.Record.{Record}
use Rattle.call_log.specs.declared.Record.TheVariants.{Event, Line, ConfigWrite, BarWrite, Reset}
use Rattle.call_log.specs.declared.End.TheVariants.{Wrong}
use Rattle.call_log.specs.Logs.{Fits, header, size_of, record_in, bytes_in}
use Rattle.call_log.specs.Players.{fresh, between, broken, is_playing, fits_later, fits_record, fits, with, complete, scan, scanned_of, scanned, resumed, advanced}
use Rattle.call_log.specs.Plays.{Performed, Played, tried, idle, made, play_of}
use Rattle.call_log.proofs.WholeLaws.{TakesWhole, whole_event, whole_line, whole_config, whole_bar, whole_reset}

module _ {W : Type 0} (perform : W → Record → Performed W) (w : W) (n : ℕ) (l : List ℕ) where
  -- a call of a player between two records
  abbrev call : List ℕ → Played W
  call bytes = play_of perform (between n) w bytes

  -- it took so many bytes, was not refused, and performed r
  pub record Took (x : Played W) (count : ℕ) (r : Record) : Type 0 where
    pub taken : x.taken ≡ count
    pub refusal : x.refusal ≡ 0
    pub result : x.result ≡ some (perform w r)

  -- of a record that stands whole at the start
  performs : (x : List ℕ) (size : ℕ) → TakesWhole n x size → Took (call x) size (record_in x)
  unfolding play_of made tried
  performs x size t = record {
    taken = rw t.due t.taken;
    refusal = rw t.due;
    result = rw t.due (ap (λ (k : Record). some (perform w k)) t.held);
  }

  -- another record that is the same
  likewise : {x : Played W} {count : ℕ} {r r' : Record} → r ≡ r' → Took x count r → Took x count r'
  likewise e t = record { taken = t.taken; refusal = t.refusal; result = t.result ∙ ap (λ (k : Record). some (perform w k)) e }

  -- "each call takes what it is given up to the end of the first complete record and tells how many bytes": of a record's bytes with any others behind them
  -- it takes the record's, and performs that record
  pub takes_record : (r : Record) → Fits r → Took (call (bytes_in r ++ l)) (length (bytes_in r)) r
  unfolding bytes_in bytes_of number record_in word16 word32 word64 of_bool
  takes_record (Event e) h = likewise (ap Event (number-bytes_of 2 e h)) (performs _ 3 (whole_event n l (e % 256) (e / 256 % 256)))
  takes_record (Line true) h = performs _ 2 (whole_line n l 1 refl)
  takes_record (Line false) h = performs _ 2 (whole_line n l 0 refl)
  takes_record (ConfigWrite o k x) h =
      likewise (ap₂ (λ (a b : ℕ). ConfigWrite a k b) (number-bytes_of 2 o h.0) (number-bytes_of 4 x h.2))
      (performs _ 8 (whole_config n l (o % 256) (o / 256 % 256) k (x % 256) (x / 256 % 256) (x / 256 / 256 % 256) (x / 256 / 256 / 256 % 256)))
  takes_record (BarWrite b o k x) h =
      likewise (ap₂ (λ (a c : ℕ). BarWrite b a k c) (number-bytes_of 4 o h.1) (number-bytes_of 8 x h.3))
      (performs _ 15 (whole_bar n l b (o % 256) (o / 256 % 256) (o / 256 / 256 % 256) (o / 256 / 256 / 256 % 256) k (x % 256) (x / 256 % 256)
      (x / 256 / 256 % 256) (x / 256 / 256 / 256 % 256) (x / 256 / 256 / 256 / 256 % 256) (x / 256 / 256 / 256 / 256 / 256 % 256)
      (x / 256 / 256 / 256 / 256 / 256 / 256 % 256) (x / 256 / 256 / 256 / 256 / 256 / 256 / 256 % 256)))
  takes_record Reset h = performs _ 1 (whole_reset n l)

  -- ---- "The first wrong byte of mark, version, kind or line is refusal 30; it and all after it are not taken"

  -- the bytes before it were taken, and nothing else was done
  abbrev refused_at : (number taken : ℕ) → Played W
  refused_at number taken = idle perform (scanned_of (broken (between number)) taken Wrong) w

  pub wrong-kind : (b : ℕ) → size_of b ≡ 0 → call (b ∷ l) ≡ refused_at n 0
  unfolding play_of advanced resumed scanned made is_playing scan fits fits_record
  wrong-kind b h = rw h

  pub wrong_level : (b : ℕ) → 2 ≤ b → call (2 ∷ b ∷ l) ≡ refused_at n 1
  unfolding play_of advanced resumed scanned made is_playing scan fits fits_later fits_record with complete size_of first_of
  wrong_level b h = rw (le-ltb b 2 h)

  pub wrong_header : (t b : ℕ) → t < 5 → (b ≡ byte header t → ⊥) → play_of perform fresh w (take t header ++ (b ∷ l)) ≡ refused_at 0 t
  unfolding play_of advanced resumed scanned made is_playing scan fits with complete header
  wrong_header zero b h e = rw (ne_eqb b 0x43 e)
  wrong_header (suc zero) b h e = rw (ne_eqb b 0x4c e)
  wrong_header (suc (suc zero)) b h e = rw (ne_eqb b 0x47 e)
  wrong_header (suc (suc (suc zero))) b h e = rw (ne_eqb b 1 e)
  wrong_header (suc (suc (suc (suc zero)))) b h e = rw (ne_eqb b 0 e)
  wrong_header (suc (suc (suc (suc (suc t))))) b h e = absurd (omega (arith, h))
