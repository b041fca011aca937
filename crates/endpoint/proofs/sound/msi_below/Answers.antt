use Rattle.endpoint.proofs.SoundParts.{no-msi, with-msi, count_small}
use mathlib.Core.Path.{refl}
use Rattle.endpoint.proofs.sound.msi_below.Goals as goal

pub returns-then-s-eq0 : goal.returns-then-s-eq0
returns-then-s-eq0 c = no-msi _ _ c.if-s-eq0.true

pub overflow_shl-result : goal.overflow_shl-result
overflow_shl-result c = count_small c.args.s c.requires

pub returns : goal.returns
returns c = with-msi _ _ _ c.if-s-eq0.false c.requires refl
