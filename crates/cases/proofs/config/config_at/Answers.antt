-- Three bytes, then the capability over the bytes from 40h on. Assumes nothing.
use mathlib.Core.Path.{◌∙◌}
use native.Mathlib.Omega.{arith}
use lib.ListN.{set, replicate, length-take}
use Rattle.words.specs.Writers.{put_at}
use Rattle.words.proofs.Writers.{placed}
use Rattle.cases.specs.Steps.{config_at}
use Rattle.cases.proofs.config.config_at.Goals as goal

pub put_slice-requires : goal.put_slice-requires
put_slice-requires c = rw (c.part-capability.ensures, length-take) (omega arith)

pub returns : goal.returns
unfolding config_at
returns c =
    let status = c.byte_at in
    let first = c.byte_at-2 in
    let pin = c.byte_at-3 in
    let capability = c.part-capability in
    placed (set (set (set (replicate 256 0) 0x06 status.result) 0x34 first.result) 0x3d pin.result) 64 capability.result.now _
    c.put_slice.ensures.bytes
    ∙ (λ i. put_at 64 (capability.ensures i) (set (set (set (replicate 256 0) 0x06 (status.ensures i)) 0x34 (first.ensures i)) 0x3d (pin.ensures i)))
