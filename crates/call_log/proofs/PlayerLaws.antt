-- One law for each way out of the functions of a player. Assumes nothing.
use mathlib.Core.Path.{◌≡◌, refl, sym, ap, ◌∙◌}
use mathlib.Core.Bool.{Bool, true, false, ◌&&◌}
use Rattle.std.specs.Prelude.{Option, Some, None, MatchOption}
use Rattle.std.specs.Option.{option_eq}
use mathlib.Core.List.{List}
use Prim.Native.Nat.{ℕ, suc, ◌+◌, ◌<◌, min}
use native.Mathlib.Numerals.{add-one}
use native.Mathlib.Omega.{arith}
use lib.Dec.{ltb, eqb}
use borrow.Author.Tests.{ltb-true, lt-ltb, le-ltb, eqb-true, eqb-false, eq-eqb, ne_eqb}
use Rattle.words.proofs.BoolLaws.{by_test}
use Rattle.model.specs.declared.Answer.{Answer}
use Rattle.call_log.specs.declared.Player.{Player}
use Rattle.call_log.specs.declared.Stage.{Stage}
use Rattle.call_log.specs.declared.Stage.TheVariants.{Header, Records, Again, Broken}
use Rattle.call_log.specs.declared.End.{End}
use Rattle.call_log.specs.declared.End.TheVariants.{More, Whole, Wrong}
use Rattle.call_log.specs.declared.Scanned.{Scanned}
use Rattle.call_log.specs.Players.{player_of, no_part, between, counted, scanned_of, stopped, scan, scanned, resumed, advanced, is_playing}
use Rattle.call_log.specs.Logs.{size_of}
use Rattle.call_log.specs.Kinds.{size_in}
use Rattle.call_log.specs.Plays.{lacks_room, onward}
use Rattle.call_log.proofs.FormatLaws.{sized, not_sized}

pub counted-last : (n : ℕ) → n ≡ 18446744073709551615 → n ≡ counted n
unfolding counted
counted-last n e = rw e

pub counted_next : (n : ℕ) → n < 18446744073709551616 → (n ≡ 18446744073709551615 → ⊥) → n + 1 ≡ counted n
unfolding counted
counted_next n h e = rw (add-one n, lt-ltb (suc n) 18446744073709551616 (omega (arith, h, e)))

-- a number of 64 bits, counted on
pub counted_on : (n : ℕ) → n < 18446744073709551616 → min (n + 1) 18446744073709551615 ≡ counted n
counted_on n h = by_test (eqb n 18446744073709551615) last next
  where
    last : eqb n 18446744073709551615 ≡ true → min (n + 1) 18446744073709551615 ≡ counted n
    last t = let e = eqb-true n 18446744073709551615 t in omega (arith, e) ∙ counted-last n e

    next : eqb n 18446744073709551615 ≡ false → min (n + 1) 18446744073709551615 ≡ counted n
    next f = let e = eqb-false n 18446744073709551615 f in omega (arith, h, e) ∙ counted_next n h e

-- where a scan ends otherwise than with a whole record, nothing is counted
pub scanned_more : (s : Scanned) → s.end ≡ More → s ≡ scanned s s.end
unfolding scanned
scanned_more s e = ap (scanned_of s.player s.taken) e ∙ ap (scanned s) (sym e)

pub scanned_wrong : (s : Scanned) (end : End) → s.end ≡ Wrong → end ≡ Wrong → scanned_of s.player s.taken end ≡ scanned s s.end
unfolding scanned
scanned_wrong s end e w = ap (scanned_of s.player s.taken) w ∙ ap (scanned s) (sym e)

pub scanned_whole : (s : Scanned) (n : ℕ) → s.end ≡ Whole → n ≡ counted s.player.number
    → scanned_of (player_of Records s.player.taken s.player.part n) s.taken s.end ≡ scanned s s.end
unfolding scanned
scanned_whole s n e c = (λ i. scanned_of (player_of Records s.player.taken s.player.part (c i)) s.taken (e i)) ∙ ap (scanned s) (sym e)

-- of a record some bytes are taken, and not all
pub more_to_take : (P : ℕ → Type 0) (size : Option ℕ) (t k : ℕ) (r : Bool) → size ≡ size_in k → ((n : ℕ) → P n → r ≡ ltb t n)
    → MatchOption size (r ≡ false) P → r ≡ ltb t (size_of k)
more_to_take P None t k r e f h = rw (not_sized k (sym e)) (h ∙ sym (le-ltb t 0 (omega arith)))
more_to_take P (Some n) t k r e f h = f n h ∙ ap (ltb t) (sized k n (sym e)).0

and_false : (b : Bool) → false ≡ b && false
and_false true = refl
and_false false = refl

-- all of a record is taken, or not
pub all_taken : (size : Option ℕ) (t k : ℕ) → size ≡ size_in k → option_eq eqb size (Some t) ≡ ltb 0 t && eqb t (size_of k)
all_taken None t k e = rw (not_sized k (sym e)) (by_test (eqb t 0) (λ z. rw (eqb-true t 0 z)) (λ z. rw z (and_false (ltb 0 t))))
all_taken (Some n) t k e = let s = sized k n (sym e) in rw (sym s.0) (by_test (eqb n t) (same s.1) other)
  where
    same : 0 < n → eqb n t ≡ true → eqb n t ≡ ltb 0 t && eqb t n
    same h z = let q = eqb-true n t z in rw (z, lt-ltb 0 t (omega (arith, h, q)), eq-eqb t n (sym q))

    other : eqb n t ≡ false → eqb n t ≡ ltb 0 t && eqb t n
    other z = rw (z, ne_eqb t n (λ q. eqb-false n t z (sym q))) (and_false (ltb 0 t))

pub onward_again : (p : Player) (a : Answer) → lacks_room a ≡ true → player_of Again p.taken p.part p.number ≡ onward p a
unfolding onward
onward_again p a e = rw e

pub onward-next : (p : Player) (a : Answer) → lacks_room a ≡ false → between p.number ≡ onward p a
unfolding onward
onward-next p a e = rw e

-- a player that stands, and one that goes on
pub advance_stands : (p : Player) (l : List ℕ) → is_playing p.stage p.taken p.part ≡ false → stopped p ≡ advanced p l
unfolding advanced
advance_stands p l e = rw e

-- in the stage S
module _ (p : Player) (l : List ℕ) (plays : is_playing p.stage p.taken p.part ≡ true) (S : Stage) (is : p.stage ≡ S) where
  abbrev in_stage : Player
  in_stage = player_of S p.taken p.part p.number

  pub advance_in : resumed S in_stage l ≡ advanced p l
  unfolding advanced
  advance_in = rw plays (ap (λ (t : Stage). resumed t (player_of t p.taken p.part p.number) l) (sym is))

  -- which takes bytes
  pub advance_scans : resumed S in_stage l ≡ scanned (scan in_stage l) (scan in_stage l).end → (s : Scanned) (a : Scanned)
      → s ≡ scan in_stage l → a ≡ scanned s s.end → a ≡ advanced p l
  advance_scans r s a e f = f ∙ ap (λ (x : Scanned). scanned x x.end) e ∙ sym r ∙ advance_in

pub header_scans : (p : Player) (l : List ℕ) → resumed Header p l ≡ scanned (scan p l) (scan p l).end
unfolding resumed
header_scans p l = refl

pub records-scan : (p : Player) (l : List ℕ) → resumed Records p l ≡ scanned (scan p l) (scan p l).end
unfolding resumed
records-scan p l = refl

-- of a player between two records
pub between_plays : is_playing Records 0 no_part ≡ true
unfolding is_playing
between_plays = refl

pub between_scans : (n : ℕ) (l : List ℕ) (s : Scanned) (a : Scanned) → s ≡ scan (between n) l → a ≡ scanned s s.end → a ≡ advanced (between n) l
between_scans n l s a e f = advance_scans (between n) l between_plays Records refl (records-scan (between n) l) s a e f

module _ (p : Player) (l : List ℕ) (plays : is_playing p.stage p.taken p.part ≡ true) where
  pub advance_again : p.stage ≡ Again → scanned_of p 0 Whole ≡ advanced p l
  unfolding advanced resumed
  advance_again is = rw plays (ap (λ (t : Stage). resumed t p l) (sym is))

  pub advance_broken : p.stage ≡ Broken → stopped p ≡ advanced p l
  unfolding advanced resumed
  advance_broken is = rw plays (ap (λ (t : Stage). resumed t p l) (sym is))

  -- what is taken of the header, and of a record
  pub in_header : p.stage ≡ Header → p.taken < 5
  unfolding is_playing
  in_header is = ltb-true p.taken 5 (sym (ap (λ (t : Stage). is_playing t p.taken p.part) is) ∙ plays)

  pub in_records : p.stage ≡ Records → is_playing Records p.taken p.part ≡ true
  in_records is = sym (ap (λ (t : Stage). is_playing t p.taken p.part) is) ∙ plays
