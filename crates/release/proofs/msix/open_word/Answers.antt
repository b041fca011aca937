-- The word at a byte of the pending array. Assumes nothing.
use mathlib.Core.Path.{sym, ap, ◌∙◌}
use Prim.Native.Nat.{ℕ}
use Rattle.words.specs.Bits.{bit}
use Rattle.release.proofs.PendingWords.{word_backed}
use Rattle.release.proofs.msix.open_word.Goals as goal

pub unmasked-requires : goal.unmasked-requires
unmasked-requires c =
    λ j e.
    let a = c.args in
    word_backed a.table.now a.pending.now a.at (λ i. (c.shared_slice_known-2-1.given i).fits) c.requires.0 j
    (sym (ap (λ (x : ℕ). bit x j) c.word64.ensures) ∙ e)
