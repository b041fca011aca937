-- The byte of a number that is known. Assumes nothing.
use mathlib.Core.Path.{ap, ◌∙◌}
use Prim.Native.Nat.{ℕ}
use Rattle.words.specs.Bytes.{byte, bytes_of}
use Rattle.model.specs.Registers.{mask_bytes}
use Rattle.registers.proofs.masks.Formed.mask_byte.Goals as goal

pub returns : goal.returns
unfolding mask_bytes
returns c = c.byte_of.ensures ∙ ap (λ (x : ℕ). byte (bytes_of 4 x) c.args.k) c.mask_bits.ensures
