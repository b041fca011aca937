use Rattle.model.specs.Shape.{pending_bytes}
use Rattle.model.specs.World.{function_of}
use Rattle.endpoint.proofs.SoundParts.{not-below, both_below}
use Rattle.std.proofs.lemmas.Bool.{not_from_false, not_from_true}
use Rattle.endpoint.proofs.sound.waits_below.Goals as goal

pub returns-then-not-msi_below : goal.returns-then-not-msi_below
returns-then-not-msi_below c = λ k t z e q l. not-below (function_of k z e q l _) _ t _ _ c.msi_below.ensures (not_from_false _ c.if-not-msi_below.true)

pub none_beyond-requires : goal.none_beyond-requires
unfolding pending_bytes
none_beyond-requires c = c.requires.1

pub returns : goal.returns
returns c = λ k t z e q l. both_below (function_of k z e q l _) _ t _ _ _ c.msi_below.ensures (not_from_true _ c.if-not-msi_below.false) c.none_beyond.ensures
