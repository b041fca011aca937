-- The packets of the first q wires stand in the output; each turn writes the next one behind them. Assumes nothing.
use mathlib.Core.Path.{◌≡◌, refl, sym, ◌∙◌}
use mathlib.Core.List.{List}
use Prim.Native.Nat.{ℕ, ◌+◌, ◌-◌, ◌≤◌}
use native.Mathlib.Omega.{arith}
use lib.ListN.{length, length-take, length-drop}
use Rattle.words.proofs.Writers.{behind}
use Rattle.words.specs.Lists.{join, count}
use Rattle.switch.proofs.WriteLaws.{packet_at, next_packet, packet_fits, all-packets, Sending}
use borrow.Author.Rules.{rules}
use Rattle.switch.proofs.change.put_changes.Statement.{statement}
use Rattle.switch.proofs.change.put_changes.Tie as tie

abbrev invariant-loop : tie.invariant-loop-q
invariant-loop out₀ requester before after at₀ q₀ out at q = Sending requester before after out₀ out at q

abbrev decreases-loop : tie.decreases-loop-q
decreases-loop out₀ requester before after at₀ q₀ out at q = 4 - q

-- a turn: the packet of its wire, for which there is room
module _ (c : tie.In-loop-q invariant-loop decreases-loop) where
  abbrev at-loop : tie.At-loop-q invariant-loop decreases-loop
  at-loop = c.before

  abbrev start : tie.Start invariant-loop decreases-loop
  start = c.before.before.before

  abbrev packet : List ℕ
  packet = packet_at c.args.requester c.args.before c.args.after c.loop-q.q

  fits : c.loop-q.at + length packet ≤ length c.loop-q.out
  fits =
      let l = c.loop-q in
      let a = c.args in
      omega (arith, l.invariant.wrote.count, l.invariant.same, packet_fits a.requester a.before a.after l.q c.loop-q-test.true, c.requires)

loop-holds : tie.Need-loop-q-init invariant-loop decreases-loop
unfolding join count
loop-holds c = record { most = omega arith; same = refl; wrote = record { count = refl; bytes = refl } }

sub-put-change : tie.Need-slice_bounds-put_change-count invariant-loop decreases-loop
sub-put-change c = omega (arith, fits c)

part-put-change-start : tie.Need-slice_bounds-put_change-start invariant-loop decreases-loop
part-put-change-start c = omega (arith, fits c)

put-change-requires : tie.Need-put_change-at-requires invariant-loop decreases-loop
put-change-requires c κs =
    (omega (arith, c.loop-q-test.true), simp (length-take, length-drop) (omega (arith, fits c.before)))

add_at : tie.Need-overflow_add-at invariant-loop decreases-loop
add_at c =
    omega (arith, fits c.before.before.before.before, c.put_change-at.ensures.count)

loop-again : tie.Need-loop-q-preserved invariant-loop decreases-loop
loop-again c =
    let a = c.args in
    let l = c.loop-q in
    let call = c.put_change-at in
    record {
      most = omega (arith, c.loop-q-test.true);
      same = c.out-1.given.1 ∙ l.invariant.same;
      wrote = rw (next_packet a.requester a.before a.after l.q) (behind _ (packet c.before.before.before.before) _ l.out call.new.out l.at call.result l.invariant.wrote call.ensures);
    }

same_length : tie.Need-shape_of-out invariant-loop decreases-loop
same_length c = c.loop-q.invariant.same

returns : tie.Need-returns invariant-loop decreases-loop
returns c =
    let l = c.loop-q in
    let a = c.args in
    let done : l.q ≡ 4 = omega (arith, l.invariant.most, c.loop-q-test.false) in
    rw (sym (all-packets a.requester a.before a.after), sym done) l.invariant.wrote

pub put_changes_spec : {M : Type 1} → statement M
put_changes_spec =
    tie.close
    (tie.spec
    invariant-loop
    decreases-loop
    loop-holds
    sub-put-change
    part-put-change-start
    (λ c. search rules) (λ c. search rules) (λ c. search rules) (λ c. search rules) (λ c. search rules)
    put-change-requires
    add_at
    (λ c. search rules) (λ c. search rules)
    loop-again
    same_length
    returns)
