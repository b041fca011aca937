-- One law for each kind of record, and for each way out of the recorder's functions. Assumes nothing.
use mathlib.Core.Path.{◌≡◌, refl, sym, ap, ◌∙◌}
use mathlib.Core.Bool.{true, false}
use mathlib.Core.List.{List, [], ◌∷◌}
use Prim.Native.Nat.{ℕ, ◌/◌, ◌%◌, ◌≤◌, ◌<◌}
use native.Mathlib.Omega.{arith}
use lib.Dec.{eqb}
use lib.ListN.{length}
use borrow.Author.Tests.{ne_eqb, eqb-true, eqb-false, lt-ltb, le-ltb}
use Rattle.std.specs.Prelude.{Option, Some, None, Result, Ok, Err}
use Rattle.std.specs.Result.{result_ok}
use Rattle.std.proofs.lemmas.Option.{none-some, same_Some}
use Rattle.words.specs.Lists.{first_of}
use Rattle.words.specs.Bytes.{byte, word16, word32, word64, bytes_of}
use Rattle.words.specs.Writers.{Wrote}
use Rattle.words.proofs.BoolLaws.{cond_elim}
use Rattle.model.specs.declared.Answer.{Answer}
use Rattle.model.specs.declared.Answer.TheVariants.{Refused, Done, Value, Sent, Held, Merged, Lost}
use Rattle.model.specs.Answers.{refusal_of}
use Rattle.call_log.specs.declared.Record.{Record}
use Rattle.call_log.specs.declared.Record.TheVariants.{Event, Line, ConfigWrite, BarWrite, Reset}
use Rattle.call_log.specs.Logs.{size_of, record_in, bytes_in}
use Rattle.call_log.specs.declared.kind.Kind.{Kind}
use Rattle.call_log.specs.declared.kind.Kind.TheVariants as Kinds
use Rattle.call_log.specs.declared.kind.UnknownKind.{UnknownKind}
use Rattle.call_log.specs.Kinds.{kind_byte, Decodes, size_in}
use Rattle.call_log.specs.declared.recorder.NoRoom.{NoRoom}
use Rattle.call_log.specs.Plays.{lacks_room}
use Rattle.call_log.specs.Recorder.{Appended, is_kept, logged, appended, appended_to}

-- how many bytes the kinds have
pub sizes : (size_of 1 ≡ 3) × (size_of 2 ≡ 2) × (size_of 3 ≡ 8) × (size_of 4 ≡ 15) × (size_of 5 ≡ 1)
unfolding size_of first_of
sizes = (refl, refl, refl, refl, refl)

-- the size of a kind, and of what is no kind
pub sized : (k n : ℕ) → size_in k ≡ Some n → (n ≡ size_of k) × (0 < n)
sized k n =
    cond_elim (λ (o : Option ℕ). o ≡ Some n → (n ≡ size_of k) × (0 < n)) (eqb (size_of k) 0) (λ _ e. absurd (none-some n e))
    (λ z e. let s = same_Some (size_of k) n e in let f = eqb-false (size_of k) 0 z in (sym s, omega (arith, s, f)))

pub not_sized : (k : ℕ) → size_in k ≡ None → size_of k ≡ 0
not_sized k =
    cond_elim (λ (o : Option ℕ). o ≡ None → size_of k ≡ 0) (eqb (size_of k) 0) (λ z _. eqb-true (size_of k) 0 z)
    (λ _ e. absurd (none-some (size_of k) (sym e)))

-- the size of the kind that a byte was read as
kind_sized : (k : Kind) → Some (size_of (kind_byte k)) ≡ size_in (kind_byte k)
unfolding size_of first_of
kind_sized Kinds.Event = refl
kind_sized Kinds.Line = refl
kind_sized Kinds.ConfigWrite = refl
kind_sized Kinds.BarWrite = refl
kind_sized Kinds.Reset = refl

pub size_read : (b : ℕ) (r : Result Kind UnknownKind) (k : Kind) (n : ℕ) → Decodes b r → Some k ≡ result_ok r → n ≡ size_of (kind_byte k) → Some n ≡ size_in b
size_read b (Ok x) k n d e f = ap Some f ∙ kind_sized k ∙ ap size_in (ap kind_byte (same_Some k x e) ∙ d)
size_read b (Err x) k n d e f = absurd (none-some k (sym e))

-- the byte of the kind that was read
pub kind_is : {b : ℕ} {k : Kind} (named : Kind) → kind_byte k ≡ b → k ≡ named → b ≡ kind_byte named
kind_is named e f = sym e ∙ ap kind_byte f

-- what is no kind
pub no_kind : (k : ℕ) → (k ≡ 1 → ⊥) → (k ≡ 2 → ⊥) → (k ≡ 3 → ⊥) → (k ≡ 4 → ⊥) → (k ≡ 5 → ⊥) → 0 ≡ size_of k
unfolding size_of first_of
no_kind k n1 n2 n3 n4 n5 = rw (ne_eqb k 1 n1, ne_eqb k 2 n2, ne_eqb k 3 n3, ne_eqb k 4 n4, ne_eqb k 5 n5)

module _ (l : List ℕ) where
  pub is-event : byte l 0 ≡ 1 → Event (word16 l 1) ≡ record_in l
  unfolding record_in
  is-event e = rw e

  pub is_line : byte l 0 ≡ 2 → Line (eqb (byte l 1) 1) ≡ record_in l
  unfolding record_in
  is_line e = rw e

  pub is_config : byte l 0 ≡ 3 → ConfigWrite (word16 l 1) (byte l 3) (word32 l 4) ≡ record_in l
  unfolding record_in
  is_config e = rw e

  pub is_bar : byte l 0 ≡ 4 → BarWrite (byte l 1) (word32 l 2) (byte l 6) (word64 l 7) ≡ record_in l
  unfolding record_in
  is_bar e = rw e

  pub is-reset : (byte l 0 ≡ 1 → ⊥) → (byte l 0 ≡ 2 → ⊥) → (byte l 0 ≡ 3 → ⊥) → (byte l 0 ≡ 4 → ⊥) → Reset ≡ record_in l
  unfolding record_in
  is-reset n1 n2 n3 n4 = rw (ne_eqb (byte l 0) 1 n1, ne_eqb (byte l 0) 2 n2, ne_eqb (byte l 0) 3 n3, ne_eqb (byte l 0) 4 n4)

  pub is_reset_kind : byte l 0 ≡ 5 → Reset ≡ record_in l
  is_reset_kind e = is-reset (λ f. omega (arith, e, f)) (λ f. omega (arith, e, f)) (λ f. omega (arith, e, f)) (λ f. omega (arith, e, f))

  -- a byte that is no kind is read as a reset
  pub is_no_kind : size_of (byte l 0) ≡ 0 → Reset ≡ record_in l
  is_no_kind z = is-reset (other 1 (omega (arith, sizes.0))) (other 2 (omega (arith, sizes.1))) (other 3 (omega (arith, sizes.2))) (other 4 (omega (arith, sizes.3)))
    where
      other : (k : ℕ) → 0 < size_of k → byte l 0 ≡ k → ⊥
      other k h e = let s = ap size_of (sym e) ∙ z in omega (arith, h, s)

  -- a slice that holds all of its record has room for the bytes of its kind
  pub kind_room : size_of (byte l 0) ≤ length l → (k : ℕ) → byte l 0 ≡ k → size_of k ≤ length l
  kind_room h k e = rw e at h

-- ---- the bytes that the code writes, each number divided once

quotients : (x : ℕ) → (x / 256 / 256 ≡ x / 65536) × (x / 256 / 256 / 256 ≡ x / 16777216)
quotients x = (omega arith, omega arith)

pub le_config : (o n x : ℕ) → 3 ∷ o % 256 ∷ o / 256 % 256 ∷ n ∷ x % 256 ∷ x / 256 % 256 ∷ x / 65536 % 256 ∷ x / 16777216 % 256 ∷ [] ≡ bytes_in (ConfigWrite o n x)
unfolding bytes_in bytes_of
le_config o n x = rw ((quotients x).1, (quotients x).0)

pub le_bar : (b o n x : ℕ)
    → 4 ∷ b ∷ o % 256 ∷ o / 256 % 256 ∷ o / 65536 % 256 ∷ o / 16777216 % 256 ∷ n ∷ x % 256 ∷ x / 256 % 256 ∷ x / 65536 % 256 ∷ x / 16777216 % 256
    ∷ x / 4294967296 % 256 ∷ x / 1099511627776 % 256 ∷ x / 281474976710656 % 256 ∷ x / 72057594037927936 % 256 ∷ []
    ≡ bytes_in (BarWrite b o n x)
unfolding bytes_in bytes_of
le_bar b o n x =
    let fourth : x / 256 / 256 / 256 / 256 ≡ x / 4294967296 = omega arith in
    let fifth : x / 256 / 256 / 256 / 256 / 256 ≡ x / 1099511627776 = omega arith in
    let sixth : x / 256 / 256 / 256 / 256 / 256 / 256 ≡ x / 281474976710656 = omega arith in
    let seventh : x / 256 / 256 / 256 / 256 / 256 / 256 / 256 ≡ x / 72057594037927936 = omega arith in
    rw (seventh, sixth, fifth, fourth, (quotients x).1, (quotients x).0, (quotients o).1, (quotients o).0)

-- ---- appending

module _ (bytes out : List ℕ) where
  pub append-short : (e : NoRoom) → length out < length bytes → appended_to (Err e) out ≡ appended bytes out
  unfolding appended
  append-short e h = rw (lt-ltb (length out) (length bytes) h)

  pub append-wrote : (n : ℕ) (out' : List ℕ) → length bytes ≤ length out → Wrote bytes out n out' → appended_to (Ok n) out' ≡ appended bytes out
  unfolding appended
  append-wrote n out' h e = rw (le-ltb (length out) (length bytes) h) (λ i. record { answer = Done; count = e.count i; output = e.bytes i })

-- nothing is appended
pub append-none : (out : List ℕ) → appended_to (Ok 0) out ≡ appended [] out
unfolding appended
append-none out = rw (le-ltb (length out) 0 (omega arith))

-- the bytes of a record were appended: b are those of r', which is r
pub append_record : (r r' : Record) → r ≡ r' → (b out : List ℕ) → b ≡ bytes_in r' → (x : Appended) → x ≡ appended b out → x ≡ appended (bytes_in r) out
append_record r r' e b out f x h = h ∙ ap (λ (l : List ℕ). appended l out) (f ∙ ap bytes_in (sym e))

-- ---- which calls are recorded

pub kept_is : (r : Record) (a : Answer) → lacks_room a ≡ false → bytes_in r ≡ logged r a
unfolding logged is_kept
kept_is r a e = rw e

pub six_is : (r : Record) (a : Answer) → lacks_room a ≡ true → [] ≡ logged r a
unfolding logged is_kept
six_is r a e = rw e

-- ---- an answer taken apart

-- a refusal with number n
pub refused-number : (a : Answer) (n : ℕ) → a ≡ Refused n → refusal_of a ≡ n
unfolding refusal_of
refused-number a n e = rw e

-- one of the other cases
pub not-refused : (a : Answer) → ((n : ℕ) → a ≡ Refused n → ⊥) → refusal_of a ≡ 6 → ⊥
unfolding refusal_of
not-refused (Refused n) h e = h n refl
not-refused Done h e = omega (arith, e)
not-refused (Value x) h e = omega (arith, e)
not-refused Sent h e = omega (arith, e)
not-refused Held h e = omega (arith, e)
not-refused Merged h e = omega (arith, e)
not-refused Lost h e = omega (arith, e)
