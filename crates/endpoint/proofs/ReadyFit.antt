-- What a function that is ready gives the leaves. Assumes nothing.
use mathlib.Core.Path.{◌≡◌}
use lib.ListN.{length}
use Rattle.model.specs.declared.Shape.{Shape}
use Rattle.model.specs.Shape.{table_bytes}
use Rattle.model.specs.World.{Endpoint}
use Rattle.model.specs.Sound.{given_of}
use Rattle.model.specs.Ready.{Ready}
use Rattle.model.proofs.Sound.SoundLaws.{accepts}
use Rattle.model.proofs.Shapes.FitLaws.{fit}
use Rattle.model.specs.Fit.{Fit}
use Rattle.release.specs.Owed.{Lent}
use Rattle.release.proofs.OwedLaws.{lent}

module _ {s : Shape} {u : Endpoint} (r : Ready s u) where
  pub ready_fit : Fit s (length u.table) (length u.pending)
  ready_fit = rw r.shaped at (fit (given_of u) (accepts (given_of u) r.start))

  pub ready-table : length u.table ≡ table_bytes s
  ready-table = ready_fit.table

  pub ready_lent : Lent u.table u.pending
  ready_lent = lent s u ready_fit r.below
