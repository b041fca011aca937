-- A card and its 289 bytes determine each other: a card that the declared types can hold is read back from the bytes that are written of it, and bytes
-- with no other flags than line and wire are those written of the card that they hold. Assumes nothing.
use mathlib.Core.Path.{◌≡◌, refl, sym, ap, ◌∙◌}
use mathlib.Core.List.{List, ◌∷◌, ◌++◌}
use Prim.Native.Nat.{ℕ, ◌*◌, ◌<◌}
use native.Mathlib.Omega.{arith}
use lib.ListN.{length, take, drop, length-append}
use lib.Seq.{drop_at, take_all}
use borrow.Author.Tests.{lt-ltb}
use Rattle.words.specs.Lists.{join}
use Rattle.words.specs.Bytes.{byte, number, part, word16, word32, words32, bytes_of, Bytes}
use Rattle.words.proofs.BitLaws.{of_bool-small}
use Rattle.words.proofs.ListLaws.{same_true}
use Rattle.words.proofs.ByteLaws.{number_lt, drop-bytes, bytes_of_lt, length_part, length_join32, words32-join}
use Rattle.words.proofs.BytesLaws.{bytes-more, bytes-append, bytes-join, bytes-part}
use Rattle.model.specs.declared.Function.{Function}
use Rattle.model.specs.World.{World, world_of, card_of}
use Rattle.model.specs.Image.{flags, card_bytes, function_from, card_in}
use Rattle.model.specs.Claims.{Typed}
use Rattle.model.proofs.Image.ImageLaws.{line_flag, wire_flag, word16_of, word32_of}
use Rattle.model.proofs.Image.CardBack.{card-same}
use Rattle.model.proofs.Calls.SizeLaws.{Sized}
use Rattle.model.proofs.ImageExact.{length-words, words-below}

-- ---- from the bytes to the card, and back

pub config_in : (l : List ℕ) → (card_in l).function.config ≡ part 33 256 l
unfolding card_in function_from
config_in l = refl

pub waiting_in : (l : List ℕ) → (card_in l).function.waiting ≡ word32 l 5
unfolding card_in function_from
waiting_in l = refl

pub card_sized : (l : List ℕ) → length l ≡ 289 → (table pending : List ℕ) → Sized (world_of (card_in l) table pending).endpoint
unfolding card_in function_from
card_sized l n table pending = record { config = length_part l 33 256 (omega arith); sizes = length-words 6 (drop 9 l) }

module _ (l : List ℕ) (b : Bytes l) (n : length l ≡ 289) (table pending : List ℕ) where
  pub card-typed : Typed (world_of (card_in l) table pending)
  unfolding card_in function_from word16 word32
  card-typed = record {
    arrays =
        record {
          config = (card_sized l n table pending).config;
          bytes = bytes-part 33 256 l b;
          sizes = (card_sized l n table pending).sizes;
          small = words-below 6 (drop 9 l) (drop-bytes 9 l b);
        };
    events = number_lt (byte l) 1 2 b;
    requester = number_lt (byte l) 3 2 b;
    waiting = number_lt (byte l) 5 4 b;
  }

  pub card-kept : byte l 0 < 4 → card_bytes (world_of (card_in l) table pending) ≡ l
  card-kept h = same_true (card_bytes (world_of (card_in l) table pending)) l (card-same l b n table pending ∙ lt-ltb (byte l 0) 4 h)

-- ---- from the card to the bytes, and back

pub sized_length : (w : World) → Sized w.endpoint → length (card_bytes w) ≡ 289
unfolding card_bytes bytes_of
sized_length w k =
    let z : length (join (bytes_of 4) w.endpoint.function.sizes) ≡ 24 = length_join32 w.endpoint.function.sizes ∙ ap (λ (n : ℕ). 4 * n) k.sizes in
    simp length-append (omega (arith, z, k.config))

module _ (w : World) (t : Typed w) where
  abbrev f : Function
  f = w.endpoint.function

  abbrev z : List ℕ
  z = join (bytes_of 4) f.sizes

  hz : length z ≡ 24
  hz = length_join32 f.sizes ∙ ap (λ (n : ℕ). 4 * n) t.arrays.sizes

  pub card-length : length (card_bytes w) ≡ 289
  card-length = sized_length w (record { config = t.arrays.config; sizes = t.arrays.sizes })

  flags-small : flags w < 4
  unfolding flags
  flags-small = omega (arith, of_bool-small f.line, of_bool-small w.wire)

  pub card-flags : byte (card_bytes w) 0 < 4
  unfolding card_bytes
  card-flags = flags-small

  pub card-bytes : Bytes (card_bytes w)
  unfolding card_bytes
  card-bytes =
      let first : List ℕ = flags w ∷ bytes_of 2 f.events in
      let numbers : List ℕ = first ++ bytes_of 2 f.requester ++ bytes_of 4 f.waiting in
      let a = bytes-more (flags w) (bytes_of 2 f.events) (omega (arith, flags-small)) (bytes_of_lt 2 f.events) in
      let b = bytes-append first (bytes_of 2 f.requester) a (bytes_of_lt 2 f.requester) in
      let c = bytes-append (first ++ bytes_of 2 f.requester) (bytes_of 4 f.waiting) b (bytes_of_lt 4 f.waiting) in
      let d = bytes-append numbers z c (bytes-join (bytes_of 4) (bytes_of_lt 4) f.sizes) in
      bytes-append (numbers ++ z) f.config d t.arrays.bytes

  config-back : take 256 (drop 24 (z ++ f.config)) ≡ f.config
  config-back = ap (take 256) (drop_at z f.config 24 hz) ∙ take_all 256 f.config (omega (arith, t.arrays.config))

  sizes-back : words32 6 (z ++ f.config) ≡ f.sizes
  sizes-back = ap (λ (n : ℕ). words32 n (z ++ f.config)) (sym t.arrays.sizes) ∙ words32-join f.config t.arrays.small

  pub card-reads : card_in (card_bytes w) ≡ card_of w
  unfolding card_in function_from card_bytes flags part bytes_of word16 word32 number
  card-reads = λ i. record {
    function =
        record {
          config = config-back i;
          sizes = sizes-back i;
          events = word16_of f.events t.events i;
          requester = word16_of f.requester t.requester i;
          line = line_flag f.line w.wire i;
          waiting = word32_of f.waiting t.waiting i;
        };
    wire = wire_flag f.line w.wire i;
  }
