-- Players that read on, and how many bytes a call takes. Assumes nothing.
use mathlib.Core.Path.{◌≡◌, refl, sym, ◌∙◌, subst}
use mathlib.Core.Bool.{Bool, true, false, cond, false≢true}
use mathlib.Core.List.{List, [], ◌∷◌}
use Prim.Native.Nat.{ℕ, suc, ◌≤◌, ◌<◌}
use native.Mathlib.Omega.{arith}
use lib.Dec.{ltb, eqb}
use lib.ListN.{length, set, length-set}
use lib.Seq.{get_or-set_same, get_or-set_other}
use borrow.Author.Tests.{ltb-true, eqb-true, eqb-false, lt-ltb, ne_eqb}
use Rattle.words.specs.Lists.{first_of}
use Rattle.words.specs.Bytes.{byte}
use Rattle.words.proofs.BoolLaws.{by_test, cond_elim, second_false}
use Rattle.call_log.specs.declared.Player.{Player}
use Rattle.call_log.specs.declared.Stage.{Stage}
use Rattle.call_log.specs.declared.Stage.TheVariants.{Header, Records, Again, Broken}
use Rattle.call_log.specs.Logs.{size_of}
use Rattle.call_log.specs.declared.End.TheVariants.{Whole, Wrong}
use Rattle.call_log.specs.declared.Scanned.{Scanned}
use Rattle.call_log.specs.Players.{further, scan, fits, fits_later, fits_record, with, complete, broken, player_of, is_playing}

-- ---- players that read on

unfoldable pub reading : Stage → Bool
reading Header = true
reading Records = true
reading Again = false
reading Broken = false

-- header or records, not all of it taken, and room for the longest record
pub record Reads (p : Player) : Type 0 where
  pub stage : reading p.stage ≡ true
  pub playing : is_playing p.stage p.taken p.part ≡ true
  pub room : length p.part ≡ 15

pub size-le : (k : ℕ) → size_of k ≤ 15
unfolding size_of first_of
size-le k = rest (eqb k 1) (eqb k 2) (eqb k 3) (eqb k 4) (eqb k 5)
  where
    rest : (a b c d e : Bool) → cond a 3 (cond b 2 (cond c 8 (cond d 15 (cond e 1 0)))) ≤ 15
    rest true b c d e = omega arith
    rest false true c d e = omega arith
    rest false false true d e = omega arith
    rest false false false true e = omega arith
    rest false false false false true = omega arith
    rest false false false false false = omega arith

-- one more byte that fits and does not complete a record
pub with-reads : (p : Player) (b : ℕ) → Reads p → fits p b ≡ true → complete (with p b) ≡ false → Reads (with p b)
unfolding fits fits_later fits_record with complete is_playing reading
with-reads p b r f c = go p.stage p.taken p.part p.number r.stage r.playing r.room f c
  where
    go : (s : Stage) (t : ℕ) (part : List ℕ) (n : ℕ) → reading s ≡ true → is_playing s t part ≡ true → length part ≡ 15
        → fits (player_of s t part n) b ≡ true → complete (with (player_of s t part n) b) ≡ false → Reads (with (player_of s t part n) b)
    go Header t part n rd pl l f c =
        cond_elim Reads (eqb t 4) {x = player_of Records 0 part n} {y = player_of Header (suc t) part n} (λ _. record { stage = refl; playing = refl; room = l })
        (λ e. record { stage = refl; playing = lt-ltb (suc t) 5 (omega (arith, ltb-true t 5 pl, eqb-false t 4 e)); room = l })
    go Records t part n rd pl l f c = record {
      stage = refl;
      playing = rw (ne_eqb (suc t) 0 (λ e. omega (arith, e))) (lt-ltb (suc t) (size_of (byte (set part t b) 0)) (by_test (eqb t 0) first later));
      room = length-set part t b ∙ l;
    }
      where
        short : eqb (suc t) (size_of (byte (set part t b) 0)) ≡ false
        short = second_false (ltb 0 (suc t)) _ (lt-ltb 0 (suc t) (omega arith)) c

        first : eqb t 0 ≡ true → suc t < size_of (byte (set part t b) 0)
        first z =
            let e : byte (set part t b) 0 ≡ b = subst (λ (i : ℕ). byte (set part i b) 0 ≡ b) (sym (eqb-true t 0 z)) (get_or-set_same part 0 b 0 (omega (arith, l))) in
            let k : 0 < size_of (byte (set part t b) 0) = subst (λ (x : ℕ). 0 < size_of x) (sym e) (ltb-true 0 (size_of b) (rw z at f)) in
            omega (arith, k, eqb-true t 0 z, eqb-false (suc t) (size_of (byte (set part t b) 0)) short)

        later : eqb t 0 ≡ false → suc t < size_of (byte (set part t b) 0)
        later z =
            let e : byte (set part t b) 0 ≡ byte part 0 = get_or-set_other part t 0 b 0 (λ i. eqb-false t 0 z (sym i)) in
            let k : t < size_of (byte (set part t b) 0) = subst (λ (x : ℕ). t < size_of x) (sym e) (ltb-true t (size_of (byte part 0)) (rw z at pl)) in
            omega (arith, k, eqb-false (suc t) (size_of (byte (set part t b) 0)) short)
    go Again t part n rd pl l f c = absurd (false≢true rd)
    go Broken t part n rd pl l f c = absurd (false≢true rd)

-- ---- no more is taken than there is

cond-taken : (f c : Bool) (p q : Player) (s : Scanned) (n : ℕ) → s.taken ≤ n
    → (cond f (cond c (record { player = q; taken = 1; end = Whole }) (further s)) (record { player = p; taken = 0; end = Wrong })).taken ≤ suc n
cond-taken true true p q s n h = omega arith
cond-taken true false p q s n h = omega (arith, h)
cond-taken false c p q s n h = omega arith

pub scan-taken : (p : Player) (l : List ℕ) → (scan p l).taken ≤ length l
unfolding scan
scan-taken p [] = omega arith
scan-taken p (b ∷ l) = cond-taken (fits p b) (complete (with p b)) (broken p) (with p b) (scan (with p b) l) (length l) (scan-taken (with p b) l)
