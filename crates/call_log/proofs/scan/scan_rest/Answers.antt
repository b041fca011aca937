use mathlib.Core.Path.{◌≡◌, sym, ap, ◌∙◌}
use Prim.Native.Nat.{ℕ, ◌+◌}
use native.Mathlib.Omega.{arith}
use lib.ListN.{set, length-set}
use Rattle.words.specs.Bytes.{byte}
use Rattle.call_log.specs.declared.Stage.TheVariants.{Records}
use Rattle.call_log.specs.declared.End.TheVariants.{More, Whole}
use Rattle.call_log.specs.Logs.{size_of}
use Rattle.call_log.specs.Players.{player_of, scanned_of}
use Rattle.call_log.specs.Scanning.{scan_from, broken_at}
use Rattle.call_log.proofs.ScanLaws.{from_end, from_wrong, from-whole, from_more, slice_inside, slice_byte, slice_end, playing_size, playing_room, playing_next, rest_fits, rest_size, kind_stays}
use Rattle.call_log.proofs.scan.scan_rest.Goals as goal

pub unwrap-size-requires : goal.unwrap-size-requires
unwrap-size-requires c = playing_size _ _ _ c.size_of.ensures c.requires.0 c.requires.1

pub returns-then-not-fits_later : goal.returns-then-not-fits_later
returns-then-not-fits_later c =
    let v = c.loop-i in
    let a = c.args in
    let inside = slice_inside a.log.now a.from v.i c.loop-i-test.true in
    let e = slice_byte a.log.now a.from v.i c.loop-i-test.true in
    let f = rest_fits v.held.taken v.held.part a.player.part v.invariant.2 v.invariant.3 _ _ _ e c.fits_later.ensures ∙ c.if-not-fits_later.true in
    c.broken.ensures
    ∙ ap (λ (n : ℕ). broken_at n (a.from + v.i)) v.invariant.5
    ∙ sym (from_wrong (a.from + v.i) a.log.now inside v.held.taken v.held.part a.player.number f)
    ∙ v.invariant.6

pub bounds-held-held : goal.bounds-held-held
bounds-held-held c = playing_room _ _ c.loop-i.invariant.0

pub overflow_add-held : goal.overflow_add-held
overflow_add-held c = let h = playing_room _ _ c.loop-i.invariant.0 in omega (arith, h)

pub returns-then-held-size : goal.returns-then-held-size
returns-then-held-size c =
    let v = c.loop-i in
    let a = c.args in
    let inside = slice_inside a.log.now a.from v.i c.loop-i-test.true in
    let e = slice_byte a.log.now a.from v.i c.loop-i-test.true in
    let f = rest_fits v.held.taken v.held.part a.player.part v.invariant.2 v.invariant.3 _ _ _ e c.fits_later.ensures ∙ c.if-not-fits_later.false in
    let n = rest_size v.held.taken v.held.part a.player.part v.invariant.2 v.invariant.3 _ _ _ c.size_of.ensures c.unwrap-size.ensures in
    (λ j. scanned_of (player_of (v.invariant.4 j) (v.held.taken + 1) (set v.held.part v.held.taken (e j)) (v.invariant.5 j)) (a.from + v.i + 1) Whole)
    ∙ sym (from-whole (a.from + v.i) a.log.now inside v.held.taken v.held.part a.player.number f (c.if-held-size.true ∙ n))
    ∙ v.invariant.6

pub loop-i-preserved : goal.loop-i-preserved
loop-i-preserved c =
    let v = c.loop-i in
    let a = c.args in
    let b = byte a.log.now (a.from + v.i) in
    let inside = slice_inside a.log.now a.from v.i c.loop-i-test.true in
    let e = slice_byte a.log.now a.from v.i c.loop-i-test.true in
    let f = rest_fits v.held.taken v.held.part a.player.part v.invariant.2 v.invariant.3 b _ _ e c.fits_later.ensures ∙ c.if-not-fits_later.false in
    let n = rest_size v.held.taken v.held.part a.player.part v.invariant.2 v.invariant.3 b _ _ c.size_of.ensures c.unwrap-size.ensures in
    let more : v.held.taken + 1 ≡ size_of (byte (set v.held.part v.held.taken b) 0) → ⊥ = λ s. c.if-held-size.false (s ∙ sym n) in
    let l = v.invariant.1 in
    rw e (
      playing_next v.held.taken v.held.part b (omega (arith, l)) v.invariant.0 f more,
      length-set v.held.part v.held.taken b ∙ l,
      omega arith,
      kind_stays v.held.taken v.held.part b v.invariant.2 ∙ v.invariant.3,
      v.invariant.4,
      v.invariant.5,
      ap (λ (k : ℕ). scan_from k (player_of Records (v.held.taken + 1) (set v.held.part v.held.taken b) a.player.number) a.log.now) (omega arith)
          ∙ sym (from_more (a.from + v.i) a.log.now inside v.held.taken v.held.part a.player.number f more)
          ∙ v.invariant.6,
    )

pub returns : goal.returns
returns c =
    let v = c.loop-i in
    let a = c.args in
    let e = slice_end a.log.now a.from v.i c.requires.2 c.loop-i.auto.i-end c.loop-i-test.false in
    ap (λ (k : ℕ). scanned_of v.held k More) e
    ∙ (λ j. scanned_of (player_of (v.invariant.4 j) v.held.taken v.held.part (v.invariant.5 j)) (a.from + v.i) More)
    ∙ sym (from_end (a.from + v.i) (player_of Records v.held.taken v.held.part a.player.number) a.log.now (omega (arith, e)))
    ∙ v.invariant.6
