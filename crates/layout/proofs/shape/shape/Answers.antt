-- `shape` meets its contract: what the walk found stands at places of a configuration, and the first place of each ID counts. Assumes nothing.
use Rattle.layout.proofs.ShapeFound.{shape_read, found_places, shape_bounded}
use Rattle.layout.proofs.shape.shape.Goals as goal

pub msi_found-requires : goal.msi_found-requires
msi_found-requires c =
    (found_places c.args.c.now c.fits-c c.args.listing _ c.requires c.unwrap_or-found.ensures).0

pub msix_found-requires : goal.msix_found-requires
msix_found-requires c =
    (found_places c.args.c.now c.fits-c c.args.listing _ c.requires c.unwrap_or-found.ensures).1

pub returns : goal.returns
returns c =
    let f = c.args.c.now in
    let l = c.unwrap_or-found in
    let e = shape_read f c.args.listing l.result _ _ c.requires l.ensures c.msi_found.ensures c.msix_found.ensures in
    (e, rw e (shape_bounded f c.fits-c))
