-- Each turn counts the bytes of one word. Assumes nothing.
use mathlib.Core.Path.{◌≡◌, sym, ap, ◌∙◌}
use mathlib.Core.List.{List}
use Prim.Native.Nat.{ℕ, ◌+◌, ◌*◌, ◌≤◌}
use native.Mathlib.Nat.{zero-add}
use native.Mathlib.Omega.{arith}
use lib.ListN.{length, length-append}
use Rattle.words.specs.Bytes.{word64, Bytes}
use Rattle.model.specs.Packets.{entry_message}
use Rattle.words.proofs.ListLaws.{join-none}
use Rattle.release.specs.Owed.{entries, owed_word, entry_packets, word_packets, Unmasked}
use Rattle.release.proofs.PendingWords.{owed_from, owed_all_lem, owed_end, open_backed, packets_split, word-packets}
use Rattle.release.proofs.Entries.{owed-le}
use Rattle.release.proofs.msix.msix_size.Goals as goal

-- the packets of a word, and those of the rest
more : (requester : ℕ) (table pending : List ℕ) (k opened n : ℕ) → Bytes pending → Unmasked table (8 * k) (word64 pending k) opened → k + 8 ≤ length pending
    → n ≡ length (word_packets requester table (8 * k) opened)
    → length (entry_packets requester table (owed_from table pending k)) ≡ n + length (entry_packets requester table (owed_from table pending (k + 8)))
more requester table pending k opened n b u room e =
    let rest = entry_packets requester table (owed_from table pending (k + 8)) in
    ap length (packets_split requester table pending k room)
    ∙ length-append (entry_packets requester table (owed_word table pending k)) rest
    ∙ ap (λ (m : ℕ). m + length rest) (ap length (word-packets table pending k opened b u requester) ∙ sym e)

pub loop-at-init : goal.loop-at-init
loop-at-init c =
    let table = c.args.table.now in
    (omega arith, λ requester. zero-add _ ∙ ap (λ (l : List ℕ). length (entry_packets requester table l)) (owed_all_lem table c.args.pending.now c.requires))

pub word_size-n-requires : goal.word_size-n-requires
word_size-n-requires c =
    open_backed _ c.args.pending.now _ c.open_word.result (λ i. (c.type_inv.pending i).fits) c.requires c.open_word.ensures

pub overflow_add-n : goal.overflow_add-n
overflow_add-n c =
    let table = c.args.table.now in
    let pending = c.args.pending.now in
    let k = c.loop-at.at in
    let room : k + 8 ≤ length pending = omega (arith, c.loop-at.invariant.0, c.requires.words) in
    omega (
      arith,
      more 0 table pending k c.open_word.result _ (λ i. (c.type_inv.pending i).fits) c.open_word.ensures room (c.word_size-n.ensures 0),
      c.loop-at.invariant.1 0,
      owed-le 0 table pending (entries table),
    )

pub loop-at-preserved : goal.loop-at-preserved
loop-at-preserved c =
    let table = c.args.table.now in
    let pending = c.args.pending.now in
    let k = c.loop-at.at in
    let room : k + 8 ≤ length pending = omega (arith, c.loop-at.invariant.0, c.requires.words) in (
      omega (arith, c.loop-at.invariant.0),
      λ requester.
          omega (
            arith,
            more requester table pending k c.open_word.result _ (λ i. (c.type_inv.pending i).fits) c.open_word.ensures room (c.word_size-n.ensures requester),
            c.loop-at.invariant.1 requester,
          ),
    )

pub returns : goal.returns
returns c requester =
    let table = c.args.table.now in
    let none = join-none (entry_message requester table) _ (owed_end table c.args.pending.now c.loop-at.at c.loop-at-test.false) in
    omega (arith, c.loop-at.invariant.1 requester, ap length none)

pub returns-2 : goal.returns-2
returns-2 c requester =
    let table = c.args.table.now in
    let pending = c.args.pending.now in
    let k = c.loop-at.at in
    let room : k + 8 ≤ length pending = omega (arith, c.loop-at.invariant.0, c.requires.words) in
    let past : length pending ≤ k + 8 = omega arith in
    let none = join-none (entry_message requester table) _ (owed_end table pending (k + 8) past) in
    omega (
      arith,
      more requester table pending k c.open_word.result _ (λ i. (c.type_inv.pending i).fits) c.open_word.ensures room (c.word_size-n.ensures requester),
      c.loop-at.invariant.1 requester,
      ap length none,
    )
