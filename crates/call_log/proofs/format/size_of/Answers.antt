use mathlib.Core.Path.{sym, ◌∙◌}
use Rattle.call_log.proofs.FormatLaws.{size_read}
use Rattle.call_log.proofs.format.size_of.Goals as goal

pub returns : goal.returns
returns c = size_read _ _ _ _ c.try_from.ensures (sym c.in_ok-kind.was ∙ c.ok.ensures.value) c.size.ensures
