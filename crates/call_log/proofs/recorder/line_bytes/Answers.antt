use mathlib.Core.Path.{◌≡◌, refl}
use mathlib.Core.Bool.{Bool, true, false}
use mathlib.Core.List.{[], ◌∷◌}
use mir.Val.{bool_byte}
use Rattle.words.specs.Bits.{of_bool}
use Rattle.call_log.specs.declared.Record.TheVariants.{Line}
use Rattle.call_log.specs.Logs.{bytes_in}
use Rattle.call_log.proofs.recorder.line_bytes.Goals as goal

level-byte : (level : Bool) → 2 ∷ bool_byte level ∷ [] ≡ bytes_in (Line level)
unfolding bytes_in of_bool
level-byte true = refl
level-byte false = refl

pub returns : goal.returns
returns c = level-byte c.args.level
