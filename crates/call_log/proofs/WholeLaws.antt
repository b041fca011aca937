-- A record that stands whole at the start of a log: a player between two records takes it, and no more. Assumes nothing.
use mathlib.Core.Path.{◌≡◌, refl, sym, ap, ◌∙◌, subst}
use mathlib.Core.Bool.{Bool, true, false, cond, not, ◌||◌}
use mathlib.Core.List.{List, [], ◌∷◌, ◌++◌, map}
use Prim.Native.Nat.{ℕ, suc, ◌≤◌, ◌<◌}
use native.Mathlib.Omega.{arith}
use lib.Dec.{ltb, eqb}
use lib.ListN.{length, take, drop, take-append-drop}
use lib.Seq.{get_or-take, length-take-le}
use borrow.Author.Tests.{eqb-true, eqb-false, ltb-false, lt-ltb, le-ltb, ne_eqb, not-false}
use Rattle.std.specs.Prelude.{Option, Some, None, slice_get}
use Rattle.std.proofs.lemmas.Option.{none-some, same_Some, get_or_from_slice_get}
use Rattle.words.specs.Lists.{first_of, count}
use Rattle.words.specs.Bytes.{byte, number, word16, word32, word64}
use Rattle.words.proofs.BoolLaws.{by_test, cond_elim, neither}
use Rattle.words.proofs.ListLaws.{map-listed}
use Rattle.call_log.specs.declared.Scanned.{Scanned}
use Rattle.call_log.specs.Logs.{size_of, record_in}
use Rattle.call_log.specs.Players.{between, is_playing, fits_later, fits_record, fits, with, complete, scan, counted, due_at, scanned, resumed, advanced}
use Rattle.call_log.specs.Kinds.{size_in}
use Rattle.call_log.specs.Scanning.{whole_in}
use Rattle.call_log.proofs.FormatLaws.{no_kind, sized}

-- the record at the start of the log is due, its bytes are taken, and it is counted after n others
pub record DueWhole (a : Scanned) (n : ℕ) (l : List ℕ) (size : ℕ) : Type 0 where
  pub due : due_at a.end ≡ true
  pub taken : a.taken ≡ size
  pub held : record_in a.player.part ≡ record_in l
  pub number : a.player.number ≡ counted n

abbrev pub TakesWhole : (n : ℕ) (l : List ℕ) (size : ℕ) → Type 0
TakesWhole n l size = DueWhole (advanced (between n) l) n l size

-- ---- one law for each kind, with any bytes behind the record

module _ (n : ℕ) (l : List ℕ) where
  pub whole_event : (a b : ℕ) → TakesWhole n (1 ∷ a ∷ b ∷ l) 3
  unfolding advanced resumed scanned is_playing scan fits fits_later fits_record with complete size_of first_of record_in word16 number
  whole_event a b = record { due = refl; taken = refl; held = refl; number = refl }

  pub whole_line : (b : ℕ) → ltb b 2 ≡ true → TakesWhole n (2 ∷ b ∷ l) 2
  unfolding advanced resumed scanned is_playing scan fits fits_later fits_record with complete size_of first_of record_in
  whole_line b e = record { due = rw e; taken = rw e; held = rw e; number = rw e }

  pub whole_config : (a b c d e f g : ℕ) → TakesWhole n (3 ∷ a ∷ b ∷ c ∷ d ∷ e ∷ f ∷ g ∷ l) 8
  unfolding advanced resumed scanned is_playing scan fits fits_later fits_record with complete size_of first_of record_in word16 word32 number
  whole_config a b c d e f g = record { due = refl; taken = refl; held = refl; number = refl }

  pub whole_bar : (a b c d e f g h i j k m o p : ℕ) → TakesWhole n (4 ∷ a ∷ b ∷ c ∷ d ∷ e ∷ f ∷ g ∷ h ∷ i ∷ j ∷ k ∷ m ∷ o ∷ p ∷ l) 15
  unfolding advanced resumed scanned is_playing scan fits fits_later fits_record with complete size_of first_of record_in word32 word64 number
  whole_bar a b c d e f g h i j k m o p = record { due = refl; taken = refl; held = refl; number = refl }

  pub whole_reset : TakesWhole n (5 ∷ l) 1
  unfolding advanced resumed scanned is_playing scan fits fits_later fits_record with complete size_of first_of record_in
  whole_reset = record { due = refl; taken = refl; held = refl; number = refl }

-- ---- any log at whose start a record stands whole

module _ (l : List ℕ) where
  abbrev kind : ℕ
  kind = byte l 0

  -- all of its bytes are there, and the level of a line is one
  record Stands : Type 0 where
    room : size_of kind ≤ length l
    level : fits_later kind (byte l 1) ≡ true

  whole_elim : (P : Option ℕ → Type 0) → P None → (Stands → (size_of kind ≡ 0 → ⊥) → P (Some (size_of kind))) → P (whole_in l)
  unfolding whole_in
  whole_elim P none some =
      cond_elim P (ltb (length l) (size_of kind) || not (fits_later kind (byte l 1))) (λ _. none)
      (λ t.
      let u = neither (ltb (length l) (size_of kind)) (not (fits_later kind (byte l 1))) t in
      cond_elim P (eqb (size_of kind) 0) (λ _. none)
      (λ z. some (record { room = ltb-false (length l) (size_of kind) u.0; level = not-false (fits_later kind (byte l 1)) u.1 }) (eqb-false (size_of kind) 0 z)))

  -- its kind and all of its bytes can be read
  pub whole_room : (size : ℕ) → whole_in l ≡ Some size → (0 < length l) × (size_of kind ≤ length l)
  whole_room size =
      whole_elim (λ (s : Option ℕ). s ≡ Some size → (0 < length l) × (size_of kind ≤ length l)) (λ e. absurd (none-some size e))
      (λ s z _. let r = s.room in (omega (arith, r, z), r))

  -- ---- one law for each way out of the test

  pub whole_no_kind : size_in kind ≡ None → None ≡ whole_in l
  unfolding whole_in
  whole_no_kind e = rw e (by_either (ltb (length l) (size_of kind) || not (fits_later kind (byte l 1))))
    where
      by_either : (a : Bool) → None ≡ cond {A = Option ℕ} a None None
      by_either true = refl
      by_either false = refl

  pub whole_short : (size : ℕ) → size_in kind ≡ Some size → length l < size → None ≡ whole_in l
  unfolding whole_in
  whole_short size e h = rw (lt-ltb (length l) (size_of kind) (omega (arith, (sized kind size e).0, h)))

  pub whole_is : (size : ℕ) → size_in kind ≡ Some size → size ≤ length l → fits_later kind (byte l 1) ≡ true → Some size ≡ whole_in l
  unfolding whole_in
  whole_is size e h f = rw (le-ltb (length l) (size_of kind) (omega (arith, (sized kind size e).0, h)), f) (sym e)

  pub whole_wrong : fits_later kind (byte l 1) ≡ false → None ≡ whole_in l
  unfolding whole_in
  whole_wrong f = rw f (by-second (ltb (length l) (size_of kind)) (size_in kind))
    where
      by-second : (a : Bool) (x : Option ℕ) → None ≡ cond (a || true) None x
      by-second true x = refl
      by-second false x = refl

pub whole_empty : (l : List ℕ) → None ≡ slice_get l 0 → None ≡ whole_in l
unfolding whole_in size_of first_of fits_later
whole_empty [] e = refl
whole_empty (b ∷ l) e = absurd (none-some b e)

-- the first byte of a log, and its size
module _ (l : List ℕ) (k : ℕ) (first : Some k ≡ slice_get l 0) where
  pub first_byte : byte l 0 ≡ k
  first_byte = get_or_from_slice_get l 0 k 0 (sym first)

  pub first_size : (size : Option ℕ) → size ≡ size_in k → size_in (byte l 0) ≡ size
  first_size size e = ap size_in first_byte ∙ sym e

-- a byte that is no level
pub other_level : (k b : ℕ) → (k ≡ 2 → ⊥) → fits_later k b ≡ true
unfolding fits_later
other_level k b h = rw (ne_eqb k 2 h)

module _ (n : ℕ) (l : List ℕ) where
  -- its first bytes, one by one
  spread : (k : ℕ) → k ≤ length l → map (byte l) (count 0 k) ++ drop k l ≡ l
  spread k h =
      ap (λ (x : List ℕ). x ++ drop k l) (map-listed (byte l) 0 (take k l) k (length-take-le k l h) (λ i j. sym (get_or-take k l i 0 j)))
      ∙ take-append-drop k l

  -- a record of a kind
  at_kind : (b k : ℕ) → byte l 0 ≡ b → suc k ≤ length l
      → TakesWhole n (b ∷ map (byte l) (count 1 k) ++ drop (suc k) l) (suc k) → TakesWhole n l (suc k)
  unfolding count
  at_kind b k e h t =
      subst (λ (x : List ℕ). TakesWhole n x (suc k))
      (ap (λ (x : ℕ). x ∷ map (byte l) (count 1 k) ++ drop (suc k) l) (sym e) ∙ spread (suc k) h) t

  by_kind : size_of (kind l) ≤ length l → fits_later (kind l) (byte l 1) ≡ true → (size_of (kind l) ≡ 0 → ⊥) → TakesWhole n l (size_of (kind l))
  unfolding size_of first_of fits_later count
  by_kind h f z =
      by_test (eqb (kind l) 1) (λ t. event (eqb-true (kind l) 1 t)) (λ n1.
      by_test (eqb (kind l) 2) (λ t. line (eqb-true (kind l) 2 t)) (λ n2.
      by_test (eqb (kind l) 3) (λ t. config (eqb-true (kind l) 3 t)) (λ n3.
      by_test (eqb (kind l) 4) (λ t. bar (eqb-true (kind l) 4 t)) (λ n4.
      by_test (eqb (kind l) 5) (λ t. reset (eqb-true (kind l) 5 t)) (λ n5.
      absurd (z (sym
      (no_kind (kind l) (eqb-false (kind l) 1 n1) (eqb-false (kind l) 2 n2) (eqb-false (kind l) 3 n3) (eqb-false (kind l) 4 n4) (eqb-false (kind l) 5 n5)))))))))
    where
      sized : (k : ℕ) → kind l ≡ k → (size_of k ≤ length l → TakesWhole n l (size_of k)) → TakesWhole n l (size_of (kind l))
      sized k e t = subst (λ (x : ℕ). TakesWhole n l (size_of x)) (sym e) (t (rw e at h))

      event : kind l ≡ 1 → TakesWhole n l (size_of (kind l))
      event e = sized 1 e (λ r. at_kind 1 2 e r (whole_event n (drop 3 l) (byte l 1) (byte l 2)))

      line : kind l ≡ 2 → TakesWhole n l (size_of (kind l))
      line e = sized 2 e (λ r. at_kind 2 1 e r (whole_line n (drop 2 l) (byte l 1) (rw e at f)))

      config : kind l ≡ 3 → TakesWhole n l (size_of (kind l))
      config e =
          sized 3 e (λ r. at_kind 3 7 e r (whole_config n (drop 8 l) (byte l 1) (byte l 2) (byte l 3) (byte l 4) (byte l 5) (byte l 6) (byte l 7)))

      bar : kind l ≡ 4 → TakesWhole n l (size_of (kind l))
      bar e =
          sized 4 e (λ r. at_kind 4 14 e r
          (whole_bar n (drop 15 l) (byte l 1) (byte l 2) (byte l 3) (byte l 4) (byte l 5) (byte l 6) (byte l 7)
          (byte l 8) (byte l 9) (byte l 10) (byte l 11) (byte l 12) (byte l 13) (byte l 14)))

      reset : kind l ≡ 5 → TakesWhole n l (size_of (kind l))
      reset e = sized 5 e (λ r. at_kind 5 0 e r (whole_reset n (drop 1 l)))

  -- A record that stands whole at the start of a log is what a player between two records takes of it
  pub takes_whole : (size : ℕ) → whole_in l ≡ Some size → TakesWhole n l size
  takes_whole size =
      whole_elim l (λ (s : Option ℕ). s ≡ Some size → TakesWhole n l size) (λ e. absurd (none-some size e))
      (λ s z e. subst (TakesWhole n l) (same_Some (size_of (kind l)) size e) (by_kind s.room s.level z))
