-- A word with nothing to send stays; else its open bits are sent and cleared. Assumes nothing.
use mathlib.Core.Path.{ap}
use mathlib.Core.List.{List}
use Prim.Native.Nat.{ℕ, ◌-◌, ◌^◌}
use native.Mathlib.Omega.{arith}
use lib.Bits.{bit_and}
use lib.ListN.{length}
use Rattle.words.specs.Bytes.{bytes_of, Bytes}
use Rattle.words.proofs.Writers.{placed}
use Rattle.release.proofs.PendingWords.{word_empty, word-packets, open_backed}
use Rattle.release.proofs.Releases.{released_none, released_word}
use borrow.Author.Rules.{rules}
use Rattle.release.proofs.msix.release_word.Statement.{statement}
use Rattle.release.proofs.msix.release_word.Tie as tie

-- the open bits of the word are known
module _ (opened : tie.After-open_word-open) where
  abbrev start : tie.Start
  start = opened.before.before.before.before

  abbrev t : List ℕ
  t = opened.args.table.now

  abbrev p : List ℕ
  p = opened.args.pending.now

  bytes : Bytes p
  bytes i = (opened.slice_known-2-1.given i).fits

returns : tie.Need-returns-then-open-eq0
returns c =
    released_none _ _ _ _ _ (word_empty (t c.before) (p c.before) c.args.at c.open_word-open.result (bytes c.before) c.open_word-open.ensures c.if-open-eq0.true)

word-send-requires : tie.Need-word_send-requires
word-send-requires c κs =
    let a = c.args in
    let packets = word-packets (t c.before.before.before.before.before.before.before) (p c.before.before.before.before.before.before.before) a.at c.open_word-open.result (bytes c.before.before.before.before.before.before.before) c.open_word-open.ensures a.requester in (
      open_backed (t c.before.before.before.before.before.before.before) (p c.before.before.before.before.before.before.before) a.at c.open_word-open.result (bytes c.before.before.before.before.before.before.before) c.requires.0 c.open_word-open.ensures,
      omega (arith, ap length packets, c.requires.2),
    )

returns-2 : tie.Need-returns
returns-2 c =
    let a = c.args in
    let r = c.open_word-open.result in
    released_word _ (t c.before.before.before.before.before.before.before.before.before.before) (p c.before.before.before.before.before.before.before.before.before.before) _ a.at r c.word64.result _ _ _ (bytes c.before.before.before.before.before.before.before.before.before.before) c.requires.1
    (omega (arith, c.open_word-open.type_inv)) c.word64.ensures
    c.open_word-open.ensures c.word_send.ensures
    (placed (p c.before.before.before.before.before.before.before.before.before.before) a.at (bytes_of 8 (bit_and ((2 ^ 64 - 1) - r) c.word64.result)) c.put_le.new.out c.put_le.ensures.bytes)

pub release_word_spec : {M : Type 1} → statement M
release_word_spec =
    tie.close
    (tie.spec
    (λ c κs. search rules) (λ c. search rules)
    returns
    (λ c κs. search rules) (λ c. search rules) (λ c. search rules) (λ c. search rules) (λ c κs. search rules)
    (λ c. search rules)
    word-send-requires
    (λ c. search rules) (λ c. search rules)
    returns-2)
