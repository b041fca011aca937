-- Document 02, request [1]: the bytes of a record, played, are that record, whatever a record does. Assumes nothing.
use mathlib.Core.Path.{◌≡◌, refl, ap, ap₂, ◌∙◌}
use mathlib.Core.Bool.{Bool, true, false}
use mathlib.Core.List.{List, [], ◌∷◌, ◌++◌}
use Prim.Native.Nat.{ℕ, ◌+◌, ◌*◌, ◌/◌, ◌%◌, ◌^◌, ◌<◌}
use Rattle.words.specs.Lists.{first_of}
use Rattle.words.specs.Bits.{of_bool}
use Rattle.words.specs.Bytes.{byte, number, word16, word32, word64, bytes_of}
use Rattle.words.proofs.ByteLaws.{number-bytes_of}
use Rattle.call_log.specs.declared.Record.{Record}
use Rattle.call_log.specs.declared.Record.TheVariants.{Event, Line, ConfigWrite, BarWrite, Reset}
use Rattle.call_log.specs.Logs.{Fits, header, size_of, record_in, bytes_in}
use Rattle.call_log.specs.Players.{between, fresh, fits, fits_later, fits_record, with, complete, counted}
use Rattle.call_log.specs.Plays.{Performed}
use Rattle.call_log.specs.Cuttings.{Trial, preceded, whole_of}

event-number : (e : ℕ) → e < 256 ^ 2 → e % 256 + 256 * (e / 256 % 256 + 256 * 0) ≡ e
unfolding number bytes_of
event-number e h = number-bytes_of 2 e h

module _ {W : Type 0} (perform : W → Record → Performed W) (w : W) (n : ℕ) (l : List ℕ) where
  abbrev next : Record → Trial W
  next r = preceded (perform w r ∷ []) (whole_of perform (between (counted n)) (perform w r).world l)

  feed_event : (a b : ℕ) → whole_of perform (between n) w (1 ∷ a ∷ b ∷ l) ≡ next (Event (a + 256 * (b + 256 * 0)))
  unfolding whole_of fits fits_later fits_record with complete size_of first_of record_in word16 number
  feed_event a b = refl

  feed_reset : whole_of perform (between n) w (5 ∷ l) ≡ next Reset
  unfolding whole_of fits fits_later fits_record with complete size_of first_of record_in
  feed_reset = refl

  feed_line : (level : Bool) → whole_of perform (between n) w (2 ∷ of_bool level ∷ l) ≡ next (Line level)
  unfolding whole_of fits fits_later fits_record with complete size_of first_of record_in of_bool
  feed_line true = refl
  feed_line false = refl

  feed_bar : (b a0 a1 a2 a3 k x0 x1 x2 x3 x4 x5 x6 x7 : ℕ)
      → whole_of perform (between n) w (4 ∷ b ∷ a0 ∷ a1 ∷ a2 ∷ a3 ∷ k ∷ x0 ∷ x1 ∷ x2 ∷ x3 ∷ x4 ∷ x5 ∷ x6 ∷ x7 ∷ l)
      ≡ next (BarWrite b (number (byte (a0 ∷ a1 ∷ a2 ∷ a3 ∷ [])) 0 4) k (number (byte (x0 ∷ x1 ∷ x2 ∷ x3 ∷ x4 ∷ x5 ∷ x6 ∷ x7 ∷ [])) 0 8))
  unfolding whole_of fits fits_later fits_record with complete size_of first_of record_in word32 word64 number
  feed_bar b a0 a1 a2 a3 k x0 x1 x2 x3 x4 x5 x6 x7 = refl

  feed_config : (o0 o1 k x0 x1 x2 x3 : ℕ)
      → whole_of perform (between n) w (3 ∷ o0 ∷ o1 ∷ k ∷ x0 ∷ x1 ∷ x2 ∷ x3 ∷ l)
      ≡ next (ConfigWrite (number (byte (o0 ∷ o1 ∷ [])) 0 2) k (number (byte (x0 ∷ x1 ∷ x2 ∷ x3 ∷ [])) 0 4))
  unfolding whole_of fits fits_later fits_record with complete size_of first_of record_in word16 word32 number
  feed_config o0 o1 k x0 x1 x2 x3 = refl

  -- played from between two records, the bytes of a record perform that record once and nothing else, and the rest of the log follows
  pub feed : (r : Record) → Fits r → whole_of perform (between n) w (bytes_in r ++ l) ≡ next r
  unfolding bytes_in bytes_of
  feed (Event e) h = feed_event (e % 256) (e / 256 % 256) ∙ ap (λ (x : ℕ). next (Event x)) (event-number e h)
  feed (Line level) h = feed_line level
  feed (ConfigWrite o k x) h =
      feed_config (o % 256) (o / 256 % 256) k (x % 256) (x / 256 % 256) (x / 256 / 256 % 256) (x / 256 / 256 / 256 % 256)
      ∙ ap₂ (λ (a b : ℕ). next (ConfigWrite a k b)) (number-bytes_of 2 o h.0) (number-bytes_of 4 x h.2)
  feed (BarWrite b o k x) h =
      feed_bar b (o % 256) (o / 256 % 256) (o / 256 / 256 % 256) (o / 256 / 256 / 256 % 256) k (x % 256) (x / 256 % 256) (x / 256 / 256 % 256)
      (x / 256 / 256 / 256 % 256) (x / 256 / 256 / 256 / 256 % 256) (x / 256 / 256 / 256 / 256 / 256 % 256) (x / 256 / 256 / 256 / 256 / 256 / 256 % 256)
      (x / 256 / 256 / 256 / 256 / 256 / 256 / 256 % 256)
      ∙ ap₂ (λ (a c : ℕ). next (BarWrite b a k c)) (number-bytes_of 4 o h.1) (number-bytes_of 8 x h.3)
  feed Reset h = feed_reset

-- mark and version, played from a fresh player
pub after-header : {W : Type 0} (perform : W → Record → Performed W) (w : W) (l : List ℕ) → whole_of perform fresh w (header ++ l) ≡ whole_of perform (between 0) w l
unfolding header whole_of fits with complete
after-header perform w l = refl
