-- An image reads back, and its length. Assumes nothing.
use mathlib.Core.Path.{◌≡◌, refl, sym, ap, ◌∙◌}
use mathlib.Core.Bool.{Bool, true, false}
use mathlib.Core.List.{List, ◌++◌, append_assoc}
use Prim.Native.Nat.{ℕ, ◌+◌, ◌*◌, ◌/◌, ◌%◌, ◌^◌, ◌<◌}
use native.Mathlib.Omega.{arith}
use lib.ListN.{length, take, drop, replicate, length-append}
use lib.Seq.{take_at, drop_at, drop-drop}
use Rattle.words.specs.Lists.{join}
use Rattle.words.specs.Bits.{bit, of_bool}
use Rattle.words.specs.Bytes.{number, word16, word32, words32, bytes_of, part}
use Rattle.words.proofs.ByteLaws.{words32-join, length_join32}
use Rattle.model.specs.Shape.{shape_of, table_bytes}
use Rattle.model.specs.World.{World, Endpoint}
use Rattle.model.specs.Claims.{Typed}
use Rattle.model.specs.Image.{mark, flags, card_bytes, image_of, function_from, world_in}
use Rattle.model.specs.Calls.{zero_world}

pub line_flag : (a b : Bool) → bit (of_bool a + 2 * of_bool b) 0 ≡ a
unfolding bit of_bool
line_flag true true = refl
line_flag true false = refl
line_flag false true = refl
line_flag false false = refl

pub wire_flag : (a b : Bool) → bit (of_bool a + 2 * of_bool b) 1 ≡ b
unfolding bit of_bool
wire_flag true true = refl
wire_flag true false = refl
wire_flag false true = refl
wire_flag false false = refl

-- the parts of an image behind its first 14 bytes: sizes, configuration, table, pending array
module _ (z c t p : List ℕ) (hz : length z ≡ 24) (hc : length c ≡ 256) where
  grouped : ((z ++ c) ++ t) ++ p ≡ z ++ (c ++ (t ++ p))
  grouped = append_assoc (z ++ c) t p ∙ append_assoc z c (t ++ p)

  config-part : take 256 (drop 24 (((z ++ c) ++ t) ++ p)) ≡ c
  config-part = rw (grouped, drop_at z (c ++ (t ++ p)) 24 hz, take_at c (t ++ p) 256 hc)

  buffers_part : drop 280 (((z ++ c) ++ t) ++ p) ≡ t ++ p
  buffers_part =
      sym (drop-drop 256 24 (((z ++ c) ++ t) ++ p)) ∙ rw (grouped, drop_at z (c ++ (t ++ p)) 24 hz, drop_at c (t ++ p) 256 hc)

pub word16_of : (x : ℕ) → x < 256 ^ 2 → x % 256 + 256 * (x / 256 % 256 + 256 * 0) ≡ x
word16_of x h = omega arith

pub word32_of : (x : ℕ) → x < 256 ^ 4 → x % 256 + 256 * (x / 256 % 256 + 256 * (x / 256 / 256 % 256 + 256 * (x / 256 / 256 / 256 % 256 + 256 * 0))) ≡ x
word32_of x h = omega arith

module _ (w : World) (f : Typed w) (fit : length w.endpoint.table ≡ table_bytes (shape_of w.endpoint.function.config)) where
  abbrev z : List ℕ
  z = join (bytes_of 4) w.endpoint.function.sizes

  abbrev c : List ℕ
  c = w.endpoint.function.config

  abbrev t : List ℕ
  t = w.endpoint.table

  abbrev p : List ℕ
  p = w.endpoint.pending

  hz : length z ≡ 24
  hz = length_join32 w.endpoint.function.sizes ∙ ap (λ (n : ℕ). 4 * n) f.arrays.sizes

  sizes-part : words32 6 (((z ++ c) ++ t) ++ p) ≡ w.endpoint.function.sizes
  sizes-part =
      ap (words32 6) (grouped z c t p hz f.arrays.config) ∙ ap (λ (n : ℕ). words32 n (z ++ (c ++ (t ++ p)))) (sym f.arrays.sizes)
      ∙ words32-join (c ++ (t ++ p)) f.arrays.small

  table-part : take (table_bytes (shape_of (take 256 (drop 24 (((z ++ c) ++ t) ++ p))))) (drop 280 (((z ++ c) ++ t) ++ p)) ≡ t
  table-part = rw (config-part z c t p hz f.arrays.config, buffers_part z c t p hz f.arrays.config, take_at t p (table_bytes (shape_of c)) fit)

  pending-part : drop (table_bytes (shape_of (take 256 (drop 24 (((z ++ c) ++ t) ++ p))))) (drop 280 (((z ++ c) ++ t) ++ p)) ≡ p
  pending-part = rw (config-part z c t p hz f.arrays.config, buffers_part z c t p hz f.arrays.config, drop_at t p (table_bytes (shape_of c)) fit)

  -- the world that the image holds is the one saved
  pub image_reads : world_in (image_of w) ≡ w
  unfolding world_in function_from image_of card_bytes flags mark part bytes_of word16 word32 number
  image_reads = λ i. record {
    endpoint =
        record {
          function =
              record {
                config = config-part z c t p hz f.arrays.config i;
                sizes = sizes-part i;
                events = word16_of w.endpoint.function.events f.events i;
                requester = word16_of w.endpoint.function.requester f.requester i;
                line = line_flag w.endpoint.function.line w.wire i;
                waiting = word32_of w.endpoint.function.waiting f.waiting i;
              };
          table = table-part i;
          pending = pending-part i;
        };
    wire = wire_flag w.endpoint.function.line w.wire i;
  }

  -- ---- its length

  pub image-length : length (image_of w) ≡ 294 + length w.endpoint.table + length w.endpoint.pending
  unfolding image_of card_bytes mark bytes_of
  image-length = simp length-append (omega (arith, hz, f.arrays.config))

-- the bytes of a card whose fields are all 0
pub zero-bytes : (u : Endpoint) → card_bytes (zero_world u) ≡ replicate 289 0
unfolding card_bytes flags of_bool bytes_of join
zero-bytes u = refl
