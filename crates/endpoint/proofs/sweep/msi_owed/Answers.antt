-- The open vectors are a word. Assumes nothing.
use Rattle.model.specs.World.{endpoint_of, function_of}
use Rattle.vectors.proofs.OpenLaws.{owed-msi}
use Rattle.endpoint.proofs.sweep.msi_owed.Goals as goal

pub returns : goal.returns
returns c = λ z e q l t p. owed-msi _ (endpoint_of (function_of _ z e q l _) t p) _ c.requires.0.capable (c.msi_open.ensures t)
