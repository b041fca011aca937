-- Lists of calls, starts and restores among them, each with card and buffers as the last one left them. Assumes nothing.
use Rattle.std.specs.Prelude.{List, [], ◌∷◌, take, ℕ}
use Rattle.model.specs.World.{World}
use Rattle.model.specs.Calls.{Operation, Outcome, operate}

-- the world after a list of calls
unfoldable pub world_after : World → List Operation → World
world_after w [] = w
world_after w (o ∷ os) = world_after (operate w o).world os

-- what each call of a list gives: result, refusal number, value, count, output, card and buffers
unfoldable pub outcomes : World → List Operation → List Outcome
outcomes w [] = []
outcomes w (o ∷ os) = operate w o ∷ outcomes (operate w o).world os

-- the bytes that a call wrote: of a save, its image
abbrev pub wrote_bytes : Outcome → List ℕ
wrote_bytes r = take r.count r.output
