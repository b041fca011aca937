-- One law for each way out of the functions that take the bytes of a log. Assumes nothing.
use mathlib.Core.Path.{◌≡◌, refl, sym, ap, ◌∙◌}
use mathlib.Core.Bool.{Bool, true, false}
use mathlib.Core.List.{List, ◌∷◌}
use Prim.Native.Nat.{ℕ, suc, ◌+◌, ◌-◌, ◌≤◌, ◌<◌}
use native.Mathlib.Numerals.{add-one}
use native.Mathlib.Omega.{arith}
use lib.Dec.{eqb}
use lib.ListN.{length, take, drop, set, drop_of_length-le}
use lib.Seq.{drop-cons, get_or-set_same, get_or-set_other}
use Rattle.std.proofs.lemmas.List.{length-drop, length-take-le, get_or-take, get_or-drop}
use borrow.Author.Tests.{eqb-true, eqb-false, ltb-true, lt-ltb, ne_eqb, eq-eqb}
use Rattle.words.specs.Bytes.{byte}
use Rattle.words.proofs.BoolLaws.{by_test}
use Rattle.call_log.specs.declared.Player.{Player}
use Rattle.call_log.specs.declared.Stage.TheVariants.{Header, Records}
use Rattle.call_log.specs.declared.End.TheVariants.{More, Whole}
use Rattle.call_log.specs.declared.Scanned.{Scanned}
use Rattle.std.specs.Prelude.{Option, Some, None, IsSome}
use Rattle.call_log.specs.Logs.{header, size_of}
use Rattle.call_log.specs.Kinds.{size_in}
use Rattle.call_log.proofs.FormatLaws.{not_sized, sized}
use Rattle.call_log.specs.Players.{player_of, is_playing, fits, fits_later, fits_record, with, complete, further, scan, scanned_of}
use Rattle.call_log.specs.Scanning.{behind, scan_from, broken_at}
use Rattle.call_log.proofs.Reading.{size-le}

-- ---- one byte

module _ (t : ℕ) (part : List ℕ) (n b : ℕ) (l : List ℕ) where
  abbrev reader : Player
  reader = player_of Records t part n

  abbrev filled : Player
  filled = player_of Records (suc t) (set part t b) n

  record_wrong : fits_record t (byte part 0) b ≡ false → scan reader (b ∷ l) ≡ broken_at n 0
  unfolding scan fits
  record_wrong f = rw f

  record_whole : fits_record t (byte part 0) b ≡ true → suc t ≡ size_of (byte (set part t b) 0) → scan reader (b ∷ l) ≡ scanned_of filled 1 Whole
  unfolding scan fits with complete
  record_whole f e = rw (f, lt-ltb 0 (suc t) (omega arith), eq-eqb (suc t) (size_of (byte (set part t b) 0)) e)

  record_more : fits_record t (byte part 0) b ≡ true → (suc t ≡ size_of (byte (set part t b) 0) → ⊥) → scan reader (b ∷ l) ≡ further (scan filled l)
  unfolding scan fits with complete
  record_more f e = rw (f, lt-ltb 0 (suc t) (omega arith), ne_eqb (suc t) (size_of (byte (set part t b) 0)) e)

  header_wrong : (b ≡ byte header t → ⊥) → scan (player_of Header t part n) (b ∷ l) ≡ broken_at n 0
  unfolding scan fits
  header_wrong e = rw (ne_eqb b (byte header t) e)

  header-last : b ≡ byte header t → t ≡ 4 → scan (player_of Header t part n) (b ∷ l) ≡ further (scan (player_of Records 0 part n) l)
  unfolding scan fits with complete
  header-last e f = rw (eq-eqb b (byte header t) e, eq-eqb t 4 f)

  header-next : b ≡ byte header t → (t ≡ 4 → ⊥) → scan (player_of Header t part n) (b ∷ l) ≡ further (scan (player_of Header (suc t) part n) l)
  unfolding scan fits with complete
  header-next e f = rw (eq-eqb b (byte header t) e, ne_eqb t 4 f)

-- ---- from a place of a log on

-- n bytes, and one more
behind-further : (i : ℕ) (s : Scanned) → behind i (further s) ≡ behind (i + 1) s
behind-further i s = ap (λ (k : ℕ). scanned_of s.player k s.end) (omega arith)

pub from_start : (p : Player) (log : List ℕ) → scan_from 0 p log ≡ scan p log
unfolding scan_from
from_start p log = ap (λ (k : ℕ). scanned_of (scan p log).player k (scan p log).end) (omega arith)

pub from_end : (i : ℕ) (p : Player) (log : List ℕ) → length log ≤ i → scan_from i p log ≡ scanned_of p i More
unfolding scan_from scan
from_end i p log h = rw (drop_of_length-le log {i = i} h) (ap (λ (k : ℕ). scanned_of p k More) (omega arith))

module _ (i : ℕ) (log : List ℕ) (inside : i < length log) where
  at : (p : Player) → scan_from i p log ≡ behind i (scan p (byte log i ∷ drop (i + 1) log))
  unfolding scan_from
  at p = rw (add-one i, drop-cons log i 0 inside)

  step-on : (p q : Player) → scan p (byte log i ∷ drop (i + 1) log) ≡ further (scan q (drop (i + 1) log)) → scan_from i p log ≡ scan_from (i + 1) q log
  unfolding scan_from
  step-on p q e = at p ∙ ap (behind i) e ∙ behind-further i (scan q (drop (i + 1) log))

  module _ (t : ℕ) (part : List ℕ) (n : ℕ) where
    pub from_wrong : fits_record t (byte part 0) (byte log i) ≡ false → scan_from i (player_of Records t part n) log ≡ broken_at n i
    from_wrong f =
        at (player_of Records t part n) ∙ ap (behind i) (record_wrong t part n (byte log i) (drop (i + 1) log) f) ∙ ap (broken_at n) (omega arith)

    pub from-whole : fits_record t (byte part 0) (byte log i) ≡ true → t + 1 ≡ size_of (byte (set part t (byte log i)) 0)
        → scan_from i (player_of Records t part n) log ≡ scanned_of (player_of Records (t + 1) (set part t (byte log i)) n) (i + 1) Whole
    from-whole f e =
        at (player_of Records t part n)
        ∙ ap (behind i) (record_whole t part n (byte log i) (drop (i + 1) log) f (sym (add-one t) ∙ e))
        ∙ ap (λ (k : ℕ). scanned_of (player_of Records k (set part t (byte log i)) n) (i + 1) Whole) (sym (add-one t))

    pub from_more : fits_record t (byte part 0) (byte log i) ≡ true → (t + 1 ≡ size_of (byte (set part t (byte log i)) 0) → ⊥)
        → scan_from i (player_of Records t part n) log ≡ scan_from (i + 1) (player_of Records (t + 1) (set part t (byte log i)) n) log
    from_more f e =
        step-on (player_of Records t part n) (player_of Records (suc t) (set part t (byte log i)) n)
        (record_more t part n (byte log i) (drop (i + 1) log) f (λ s. e (add-one t ∙ s)))
        ∙ ap (λ (k : ℕ). scan_from (i + 1) (player_of Records k (set part t (byte log i)) n) log) (sym (add-one t))

    pub from-header-wrong : (byte log i ≡ byte header t → ⊥) → scan_from i (player_of Header t part n) log ≡ broken_at n i
    from-header-wrong e =
        at (player_of Header t part n) ∙ ap (behind i) (header_wrong t part n (byte log i) (drop (i + 1) log) e) ∙ ap (broken_at n) (omega arith)

    pub from-header-last : byte log i ≡ byte header t → t + 1 ≡ 5 → scan_from i (player_of Header t part n) log ≡ scan_from (i + 1) (player_of Records 0 part n) log
    from-header-last e f =
        step-on (player_of Header t part n) (player_of Records 0 part n) (header-last t part n (byte log i) (drop (i + 1) log) e (omega (arith, f)))

    pub from-header-next : byte log i ≡ byte header t → (t + 1 ≡ 5 → ⊥)
        → scan_from i (player_of Header t part n) log ≡ scan_from (i + 1) (player_of Header (t + 1) part n) log
    from-header-next e f =
        step-on (player_of Header t part n) (player_of Header (suc t) part n)
        (header-next t part n (byte log i) (drop (i + 1) log) e (λ s. f (ap (λ (k : ℕ). k + 1) s)))
        ∙ ap (λ (k : ℕ). scan_from (i + 1) (player_of Header k part n) log) (sym (add-one t))

-- byte i of the slice from a place on, and where it stands in the log
module _ (log : List ℕ) (from i : ℕ) (h : i < length (take (length log - from) (drop from log))) where
  slice_length : length (take (length log - from) (drop from log)) ≡ length log - from
  slice_length = length-take-le (length log - from) (drop from log) (let e = length-drop from log in omega (arith, e))

  pub slice_inside : from + i < length log
  slice_inside = let e = slice_length in omega (arith, e, h)

  pub slice_byte : byte (take (length log - from) (drop from log)) i ≡ byte log (from + i)
  slice_byte =
      get_or-take (length log - from) (drop from log) i 0 (let e = slice_length in omega (arith, e, h)) ∙ get_or-drop from log i 0

-- all of it is read
pub slice_end : (log : List ℕ) (from i : ℕ) → from ≤ length log → i ≤ length (take (length log - from) (drop from log))
    → length (take (length log - from) (drop from log)) ≤ i → length log ≡ from + i
slice_end log from i h u e =
    let d = length-drop from log in
    let l = length-take-le (length log - from) (drop from log) (omega (arith, d)) in
    omega (arith, l, h, u, e)

-- ---- the bytes of a record fit their 15 places

-- t bytes of a record are taken, and not all
pub playing_room : (t : ℕ) (part : List ℕ) → is_playing Records t part ≡ true → t < 15
unfolding is_playing
playing_room t part p = by_test (eqb t 0) (λ z. omega (arith, eqb-true t 0 z)) (λ z. room (ltb-true t (size_of (byte part 0)) (rw z at p)) (size-le (byte part 0)))
  where
    room : t < size_of (byte part 0) → size_of (byte part 0) ≤ 15 → t < 15
    room a b = omega (arith, a, b)

-- so its kind is one
pub playing_size : (t : ℕ) (part : List ℕ) (size : Option ℕ) → size ≡ size_in (byte part 0) → is_playing Records t part ≡ true → 0 < t → IsSome size
unfolding is_playing
playing_size t part (Some n) e p h = refl
playing_size t part None e p h =
    let z = not_sized (byte part 0) (sym e) in
    let m = ltb-true t (size_of (byte part 0)) (rw (ne_eqb t 0 (λ i. omega (arith, h, i))) at p) in
    absurd (omega (arith, z, m))

-- and one more that does not make it whole
pub playing_next : (t : ℕ) (part : List ℕ) (b : ℕ) → 0 < length part → is_playing Records t part ≡ true → fits_record t (byte part 0) b ≡ true
    → (t + 1 ≡ size_of (byte (set part t b) 0) → ⊥) → is_playing Records (t + 1) (set part t b) ≡ true
unfolding is_playing fits_record
playing_next t part b l p f e =
    rw (ne_eqb (t + 1) 0 (λ z. omega (arith, z))) (lt-ltb (t + 1) (size_of (byte (set part t b) 0)) (by_test (eqb t 0) first later))
  where
    first : eqb t 0 ≡ true → t + 1 < size_of (byte (set part t b) 0)
    first z =
        let i : t ≡ 0 = eqb-true t 0 z in
        let s : byte (set part t b) 0 ≡ b = rw i (get_or-set_same part 0 b 0 l) in
        let k : 0 < size_of (byte (set part t b) 0) = rw s (ltb-true 0 (size_of b) (rw z at f)) in
        omega (arith, k, i, e)

    later : eqb t 0 ≡ false → t + 1 < size_of (byte (set part t b) 0)
    later z =
        let s : byte (set part t b) 0 ≡ byte part 0 = get_or-set_other part t 0 b 0 (λ i. eqb-false t 0 z (sym i)) in
        let k : t < size_of (byte (set part t b) 0) = rw s (ltb-true t (size_of (byte part 0)) (rw z at p)) in
        omega (arith, k, e)

-- ---- the kind byte, and the bytes behind it

pub first_fits : (kind b : ℕ) → (size_of b ≡ 0 → ⊥) → fits_record 0 kind b ≡ true
unfolding fits_record
first_fits kind b h = lt-ltb 0 (size_of b) (omega (arith, h))

pub first_wrong : (kind b : ℕ) → size_of b ≡ 0 → fits_record 0 kind b ≡ false
unfolding fits_record
first_wrong kind b h = rw h

pub later_fits : (t kind b : ℕ) → 0 < t → fits_record t kind b ≡ fits_later kind b
unfolding fits_record
later_fits t kind b h = rw (ne_eqb t 0 (λ z. omega (arith, h, z)))

-- the kind byte stays where it is
pub kind_stays : (t : ℕ) (part : List ℕ) (b : ℕ) → 0 < t → byte (set part t b) 0 ≡ byte part 0
kind_stays t part b h = get_or-set_other part t 0 b 0 (λ i. omega (arith, h, i))

-- r is what the code says of the next byte b, read as x; part is what was held where the loop began
module _ (t : ℕ) (held part : List ℕ) (h : 0 < t) (k : byte held 0 ≡ byte part 0) (b : ℕ) where
  pub rest_fits : (x : ℕ) (r : Bool) → x ≡ b → r ≡ fits_later (byte part 0) x → fits_record t (byte held 0) b ≡ r
  rest_fits x r e f = later_fits t (byte held 0) b h ∙ ap (λ (z : ℕ). fits_later z b) k ∙ ap (fits_later (byte part 0)) (sym e) ∙ sym f

  -- and n the size that it compares with
  pub rest_size : (size : Option ℕ) (n : ℕ) → size ≡ size_in (byte part 0) → size ≡ Some n → n ≡ size_of (byte (set held t b) 0)
  rest_size size n e f = (sized (byte part 0) n (sym e ∙ f)).0 ∙ ap size_of (sym (kind_stays t held b h ∙ k))

pub kind_set : (part : List ℕ) (b : ℕ) → 0 < length part → byte (set part 0 b) 0 ≡ b
kind_set part b h = get_or-set_same part 0 b 0 h

-- ---- a record begun at place i, with its kind byte there

module _ (part : List ℕ) (b : ℕ) (l : 0 < length part) (n : ℕ) (is : Some n ≡ size_in b) where
  -- its size, read off the part that holds it
  set_size : n ≡ size_of (byte (set part 0 b) 0)
  set_size = (sized b n (sym is)).0 ∙ ap size_of (sym (kind_set part b l))

  begins : fits_record 0 (byte part 0) b ≡ true
  begins = first_fits (byte part 0) b (λ z. let s = sized b n (sym is) in omega (arith, s.0, s.1, z))

  pub starts_reading : (n ≡ 1 → ⊥) → is_playing Records 1 (set part 0 b) ≡ true
  unfolding is_playing
  starts_reading h = playing_next 0 part b l refl begins (λ s. h (set_size ∙ sym s))

module _ (i : ℕ) (log : List ℕ) (inside : i < length log) (part : List ℕ) (n : ℕ) (t : ℕ) (none : t ≡ 0) where
  at_first : scan_from i (player_of Records 0 part n) log ≡ scan_from i (player_of Records t part n) log
  at_first = ap (λ (k : ℕ). scan_from i (player_of Records k part n) log) (sym none)

  pub starts_wrong : None ≡ size_in (byte log i) → broken_at n i ≡ scan_from i (player_of Records t part n) log
  starts_wrong e = sym (from_wrong i log inside 0 part n (first_wrong (byte part 0) (byte log i) (not_sized (byte log i) (sym e)))) ∙ at_first

  module _ (l : 0 < length part) (size : ℕ) (is : Some size ≡ size_in (byte log i)) where
    pub starts_whole : size ≡ 1
        → scanned_of (player_of Records 1 (set part 0 (byte log i)) n) (i + 1) Whole ≡ scan_from i (player_of Records t part n) log
    starts_whole e =
        sym (from-whole i log inside 0 part n (begins part (byte log i) l size is) (sym e ∙ set_size part (byte log i) l size is)) ∙ at_first

    pub starts_more : (size ≡ 1 → ⊥)
        → scan_from (i + 1) (player_of Records 1 (set part 0 (byte log i)) n) log ≡ scan_from i (player_of Records t part n) log
    starts_more e =
        sym (from_more i log inside 0 part n (begins part (byte log i) l size is) (λ s. e (set_size part (byte log i) l size is ∙ sym s))) ∙ at_first
