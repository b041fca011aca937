-- How a bench case is played: steps in order, most of them a call with what it should give. Assumes nothing.
use Rattle.std.specs.Prelude.{Bool, true, false, ◌&&◌, List, [], ◌∷◌, ℕ, ◌+◌, ◌*◌, ◌/◌, eqb, length, replicate}
use Rattle.words.specs.Lists.{same}
use Rattle.words.specs.Writers.{over}
use Rattle.model.specs.declared.Answer.{Answer}
use Rattle.model.specs.World.{World, zero_function, endpoint_of}
use Rattle.model.specs.Answers.{same_answer}
use Rattle.model.specs.Calls.{Operation, Outcome, operate, lent_output}

-- a step of a case: buffers for n vectors are lent to the card, or a call is made that should send these bytes and give this answer
pub data Step : Type 0 where
  lends : (n : ℕ) → Step
  does : Operation → (bytes : List ℕ) → Answer → Step

-- a buffer of n bytes before a call
abbrev pub fresh : ℕ → List ℕ
fresh n = replicate n 0xee

-- the answer is this one, and just these bytes are new in an output that was `out`
unfoldable pub right : Outcome → Answer → (bytes out : List ℕ) → Bool
right r answer bytes out =
    same_answer r.answer answer && eqb r.count (length bytes) && same r.output (over bytes out)

-- a card with its lent buffers, and whether every step so far gave what it should
pub record Played : Type 0 where
  pub world : World
  pub good : Bool

-- no card yet, and no buffers
abbrev pub unplayed : Played
unplayed = record { world = record { endpoint = endpoint_of zero_function [] []; wire = false }; good = true }

unfoldable pub played : Played → Step → Played
played p (lends n) =
    let u = endpoint_of p.world.endpoint.function (fresh (16 * n)) (fresh (8 * ((n + 63) / 64))) in
    record { world = record { endpoint = u; wire = p.world.wire }; good = p.good }
played p (does o bytes answer) =
    let r : Outcome = operate p.world o in
    record { world = r.world; good = p.good && right r answer bytes (lent_output o) }

unfoldable pub played_all : Played → List Step → Played
played_all p [] = p
played_all p (x ∷ l) = played_all (played p x) l

-- a case is the list of its steps
unfoldable pub passes : List Step → Bool
passes steps = (played_all unplayed steps).good

unfoldable pub all_pass : List (List Step) → Bool
all_pass [] = true
all_pass (k ∷ l) = passes k && all_pass l
