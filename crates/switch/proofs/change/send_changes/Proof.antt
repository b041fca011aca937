-- The packets are counted before a byte is written. Assumes nothing.
use mathlib.Core.List.{List}
use mathlib.Core.Path.{◌≡◌, ap, ◌∙◌}
use Prim.Native.Nat.{ℕ}
use native.Mathlib.Omega.{arith}
use lib.ListN.{length}
use Rattle.switch.specs.Switches.{wire_of, upstream}
use Rattle.switch.specs.Calls.{changes}
use Rattle.switch.proofs.CallFor.{room-short, room-done, joined_changes}
use borrow.Author.Rules.{rules}
use Rattle.switch.proofs.change.send_changes.Statement.{statement}
use Rattle.switch.proofs.change.send_changes.Tie as tie

-- the size is known
module _ (c : tie.After-changes_size) where
  abbrev at_before : tie.After-upstream-before
  at_before = c.before.before

  abbrev start : tie.Start
  start = c.before.before.before.before

  abbrev owed : List ℕ
  owed = let a = c.args in changes a.s.requester (upstream a.s) (upstream a.next)

  joined : changes c.args.s.requester (wire_of c.upstream-before.result) (wire_of c.upstream-after.result) ≡ owed
  joined = joined_changes _ c.args.s c.args.next _ _ c.upstream-before.ensures c.upstream-after.ensures

  size : c.changes_size.result ≡ length owed
  size = c.changes_size.ensures c.args.s.requester ∙ ap length joined

returns : tie.Need-returns-then-out-changes_size
returns c =
    room-short _ c.args.next (owed c.before.before) _ _ (omega (arith, c.if-out-changes_size.true, size c.before.before)) c.refuse.ensures

put-changes-requires : tie.Need-put_changes-count-requires
put-changes-requires c κs =
    omega (arith, c.if-out-changes_size.false, c.changes_size.ensures c.args.s.requester)

returns-2 : tie.Need-returns
returns-2 c =
    room-done _ c.args.next (owed c.before.before.before.before.before.before) _ _ _ _ (omega (arith, c.if-out-changes_size.false, size c.before.before.before.before.before.before))
    (rw (joined c.before.before.before.before.before.before) at c.put_changes-count.ensures) c.accepted.ensures

pub send_changes_spec : {M : Type 1} → statement M
send_changes_spec =
    tie.close
    (tie.spec
    (λ c κs. search rules) (λ c κs. search rules) (λ c κs. search rules) (λ c κs. search rules)
    returns
    put-changes-requires
    (λ c κs. search rules) (λ c. search rules)
    returns-2)
