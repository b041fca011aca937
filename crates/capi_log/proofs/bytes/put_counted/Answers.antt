use mathlib.Core.Path.{ap, ◌∙◌}
use Prim.Native.Nat.{ℕ}
use Rattle.words.specs.Bytes.{bytes_of}
use Rattle.words.proofs.Writers.{placed}
use Rattle.call_log.specs.Players.{between, counted}
use Rattle.capi_log.specs.Crossing.{player_bytes}
use Rattle.capi_log.proofs.BetweenFor.{number_alone}
use Rattle.capi_log.proofs.bytes.put_counted.Goals as goal

pub returns : goal.returns
returns c =
    let out = c.args.out.now in
    placed out 17 (bytes_of 8 c.counted-number.result) _ c.put_le.ensures.bytes
    ∙ number_alone out c.requires.0 c.requires.1 c.counted-number.result
    ∙ ap (λ (k : ℕ). player_bytes (between k)) (c.counted-number.ensures ∙ ap counted c.word64.ensures)
