-- One law for each way out of the functions that write a log through the interface. Assumes nothing.
use mathlib.Core.Path.{◌≡◌, refl, sym, ap, ◌∙◌}
use mathlib.Core.Bool.{not}
use mathlib.Core.List.{List, []}
use mathlib.Core.Option.{Option, none, some}
use Prim.Native.Nat.{ℕ, ◌≤◌, ◌<◌, min}
use native.Mathlib.Omega.{arith}
use lib.Dec.{eqb}
use borrow.Author.Tests.{ne_eqb, lt-ltb, le-ltb}
use Rattle.std.specs.Prelude.{Result, Ok, Err, None, OkIff}
use Rattle.std.specs.Result.{result_ok}
use Rattle.std.proofs.lemmas.Option.{none-some}
use Rattle.call_log.specs.declared.recorder.NoRoom.{NoRoom}
use Rattle.call_log.specs.Logs.{size_of}
use Rattle.call_log.specs.Recorder.{Appended, appended_to}
use Rattle.call_log.proofs.FormatLaws.{sizes}
use Rattle.call_log.proofs.FormatLaws as FormatLaws
use Rattle.call_log.specs.declared.Record.{Record}
use Rattle.call_log.specs.declared.Record.TheVariants.{Event, Line, ConfigWrite, BarWrite, Reset}
use Rattle.capi_log.specs.Recording.{Wrote, wrote, wrote_by, config_write_of, record_of, wrote_record}

module _ (kind bar offset width value : ℕ) where
  pub is-event : kind ≡ 1 → some (Event (min value 65535)) ≡ record_of kind bar offset width value
  unfolding record_of
  is-event e = rw e

  pub is_line : kind ≡ 2 → some (Line (not (eqb value 0))) ≡ record_of kind bar offset width value
  unfolding record_of
  is_line e = rw e

  pub is_config : kind ≡ 3 → config_write_of offset width value ≡ record_of kind bar offset width value
  unfolding record_of
  is_config e = rw e

  pub is_bar : kind ≡ 4 → some (BarWrite (min bar 255) (min offset 4294967295) (min width 255) value) ≡ record_of kind bar offset width value
  unfolding record_of
  is_bar e = rw e

  pub is-reset : kind ≡ 5 → some Reset ≡ record_of kind bar offset width value
  unfolding record_of
  is-reset e = rw e

  pub no_kind : (kind ≡ 1 → ⊥) → (kind ≡ 2 → ⊥) → (kind ≡ 3 → ⊥) → (kind ≡ 4 → ⊥) → (kind ≡ 5 → ⊥) → none ≡ record_of kind bar offset width value
  unfolding record_of
  no_kind n1 n2 n3 n4 n5 = rw (ne_eqb kind 1 n1, ne_eqb kind 2 n2, ne_eqb kind 3 n3, ne_eqb kind 4 n4, ne_eqb kind 5 n5)

-- a number that is no kind's
pub no_kind_size : (kind bar offset width value : ℕ) → size_of kind ≡ 0 → none ≡ record_of kind bar offset width value
no_kind_size kind bar offset width value z =
    no_kind kind bar offset width value (other 1 (omega (arith, sizes.0))) (other 2 (omega (arith, sizes.1))) (other 3 (omega (arith, sizes.2)))
    (other 4 (omega (arith, sizes.3))) (other 5 (omega (arith, sizes.4)))
  where
    other : (k : ℕ) → 0 < size_of k → kind ≡ k → ⊥
    other k h e = let s = ap size_of (sym e) ∙ z in omega (arith, h, s)

-- nor is a number of more than a byte
pub wide_kind : {E : Type 0} (r : Result ℕ E) (n : ℕ) → OkIff r (n < 256) n → None ≡ result_ok r → size_of n ≡ 0
wide_kind (Ok x) n h e = absurd (none-some x e)
wide_kind (Err y) n h e =
    let other : (k : ℕ) → k < 256 → n ≡ k → ⊥ = λ k l q. h (omega (arith, l, q)) in
    sym (FormatLaws.no_kind n (other 1 (omega arith)) (other 2 (omega arith)) (other 3 (omega arith)) (other 4 (omega arith)) (other 5 (omega arith)))

pub too_wide : (offset width value : ℕ) → 4294967295 < value → none ≡ config_write_of offset width value
unfolding config_write_of
too_wide offset width value h = rw (lt-ltb 4294967295 value h)

pub not_wide : (offset width value : ℕ) → value ≤ 4294967295 → some (ConfigWrite (min offset 65535) (min width 255) value) ≡ config_write_of offset width value
unfolding config_write_of
not_wide offset width value h = rw (le-ltb 4294967295 value h)

-- what was appended, told as numbers
pub told_wrote : (r : Result ℕ NoRoom) (n k : ℕ) (out : List ℕ) (a : Appended) → wrote n [] k ≡ wrote_by (appended_to r []) → appended_to r out ≡ a
    → wrote n out k ≡ wrote_by a
told_wrote r n k out a e f = (λ i. wrote (e i).returned out (e i).count) ∙ same r ∙ ap wrote_by f
  where
    same : (r : Result ℕ NoRoom) → wrote (wrote_by (appended_to r [])).returned out (wrote_by (appended_to r [])).count ≡ wrote_by (appended_to r out)
    same (Ok n) = refl
    same (Err e) = refl

-- 60, and nothing is written
pub none-wrote : (r : Option Record) (refusal : ℕ) (out : List ℕ) → none ≡ r → wrote 60 out 0 ≡ wrote_record r refusal out
unfolding wrote_record
none-wrote r refusal out e = ap (λ (x : Option Record). wrote_record x refusal out) e

-- the record that the code made
pub some_wrote : (made is : Record) (r : Option Record) (refusal : ℕ) (out : List ℕ) (w : Wrote) → w ≡ wrote_record (some made) refusal out
    → made ≡ is → some is ≡ r → w ≡ wrote_record r refusal out
some_wrote made is r refusal out w e f g = e ∙ ap (λ (x : Record). wrote_record (some x) refusal out) f ∙ ap (λ (x : Option Record). wrote_record x refusal out) g
