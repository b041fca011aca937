-- The message of entry v is written. Assumes nothing.
use mathlib.Core.Path.{◌≡◌, ap}
use native.Mathlib.Omega.{arith}
use lib.ListN.{length}
use Rattle.model.specs.Packets.{message, entry_message}
use Rattle.model.proofs.Vectors.PacketLaws.{message-length}
use Rattle.vectors.proofs.EntryLaws.{entry-packet}
use borrow.Author.Rules.{rules}
use Rattle.vectors.proofs.message.put_entry.Statement.{statement}
use Rattle.vectors.proofs.message.put_entry.Tie as tie

-- the message that was read
module _ (c : tie.After-entry_message-m) where
  abbrev start : tie.Start
  start = c.before.before.before.before

  packet : let a = c.args in
      let m = c.entry_message-m.result in
      message a.requester m.upper m.address m.value ≡ entry_message a.requester a.table.now a.v
  packet = entry-packet _ _ _ c.entry_of.ensures.1 _ c.entry_message-m.ensures c.args.requester

put-vector-message-requires : tie.Need-put_vector_message-requires
put-vector-message-requires c κs =
    let m = c.entry_message-m.result in
    omega (arith, ap length (packet c.before), message-length c.args.requester m.upper m.address m.value, c.requires.1)

returns : tie.Need-returns
returns c =
    rw (packet c.before.before.before.before) at c.put_vector_message.ensures

pub put_entry_spec : {M : Type 1} → statement M
put_entry_spec =
    tie.close
    (tie.spec (λ c κs. search rules) (λ c κs. search rules) put-vector-message-requires (λ c. search rules) returns)
