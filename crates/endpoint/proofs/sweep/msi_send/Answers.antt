-- The messages of the word of owed vectors are written, and its bits cleared. Assumes nothing.
use mathlib.Core.List.{[]}
use native.Mathlib.Omega.{arith}
use Rattle.words.proofs.BitLaws.{and-not}
use Rattle.model.specs.World.{endpoint_of}
use Rattle.endpoint.proofs.SweepFor.{msi-bytes, owed-granted, msi-sent}
use borrow.Author.Rules.{rules}
use Rattle.endpoint.proofs.sweep.msi_send.Goals as goal

pub msi_send-count-requires : goal.msi_send-count-requires
msi_send-count-requires c =
    let f = c.args.f.now in
    let owed = c.msi_owed-owed.ensures f.sizes f.events f.requester f.line [] [] in
    let base = c.msi_base-base.ensures [] in (
      λ v b. omega (arith, base.1, owed-granted _ (endpoint_of _ [] []) _ v owed (search rules) b),
      rw (msi-bytes _ (endpoint_of _ [] []) _ _ owed base.0) at (c.requires.2 [] []),
    )

pub returns : goal.returns
returns c =
    λ t p.
    msi-sent _ (endpoint_of _ t p) _ _ _ _ _ _ (c.msi_owed-owed.ensures _ _ _ _ t p) (c.msi_base-base.ensures t).0 (search rules)
    (and-not 32 _ _ (search rules) (search rules)) c.msi_send-count.ensures
