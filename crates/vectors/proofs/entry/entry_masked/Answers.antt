-- Bit 0 of byte 12. Assumes nothing.
use mathlib.Core.Path.{sym}
use Rattle.words.specs.Bytes.{byte, bit_at}
use Rattle.words.proofs.BitLaws.{bit-zero}
use Rattle.vectors.specs.Entries.{mask_in}
use Rattle.vectors.proofs.entry.entry_masked.Goals as goal

pub returns : goal.returns
unfolding mask_in bit_at
returns c = sym (bit-zero (byte c.args.entry.now 12))
