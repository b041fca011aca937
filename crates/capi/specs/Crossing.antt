-- Each call as it crosses the C interface: a card is the 289 bytes that stand in an image from the flags to the last configuration byte. Assumes nothing.
use Rattle.std.specs.Prelude.{Bool, not, cond, List, [], ◌∷◌, ℕ, ltb, eqb, length}
use Rattle.words.specs.Lists.{first_of}
use Rattle.words.specs.Bytes.{byte}
use Rattle.model.specs.World.{World, world_of}
use Rattle.model.specs.Image.{card_bytes, card_in}
use Rattle.model.specs.Answers.{refusal_of, value_of, event_code}
use Rattle.model.specs.Calls.{Outcome, Operation, call, start, restore, operate, lent_output}

-- what a function hands back: the number that it returns, the later contents of each buffer, and the numbers that it sets
pub record Crossed : Type 0 where
  pub refusal : ℕ
  pub card : List ℕ
  pub table : List ℕ
  pub pending : List ℕ
  pub output : List ℕ
  pub value : ℕ
  pub answer : ℕ
  pub count : ℕ

-- a function with no output, value, answer or count has [] and 0 there
abbrev pub handed : (refusal : ℕ) (card table pending output : List ℕ) (value answer count : ℕ) → Crossed
handed refusal card table pending output value answer count =
    record { refusal = refusal; card = card; table = table; pending = pending; output = output; value = value; answer = answer; count = count }

-- ---- what refuses a function before a card is read

abbrev pub other_length : List ℕ → ℕ → Bool
other_length l n = not (eqb (length l) n)

-- 60: another length than 289 of the card, 256 of the configuration, 6 of the sizes. 1: a flag above bit 1, which no sound card has.
-- Of the card's bytes a start and a restore ask nothing but how many there are
unfoldable pub unread : List ℕ → Operation → ℕ
unread card (call c) = first_of ((60, other_length card 289) ∷ (1, not (ltb (byte card 0) 4)) ∷ [])
unread card (start config sizes events requester) = first_of ((60, other_length card 289) ∷ (60, other_length config 256) ∷ (60, other_length sizes 6) ∷ [])
unread card (restore image) = first_of ((60, other_length card 289) ∷ [])

-- ---- what crosses

-- the bytes of a card over those of the card before it, which stay beside a refusal
abbrev pub card_over : (refusal : ℕ) → List ℕ → World → List ℕ
card_over refusal card w = cond (eqb refusal 0) (card_bytes w) card

-- the card's bytes after an operation; a refused start writes those of the card that it hands out, whose fields are all 0
unfoldable pub card_after : List ℕ → Operation → Outcome → List ℕ
card_after card (call c) r = card_over (refusal_of r.answer) card r.world
card_after card (start config sizes events requester) r = card_bytes r.world
card_after card (restore image) r = card_over (refusal_of r.answer) card r.world

-- an outcome with its card as bytes and its answer as numbers
abbrev pub back : List ℕ → Operation → Outcome → Crossed
back card o r =
    handed (refusal_of r.answer) (card_after card o r) r.world.endpoint.table r.world.endpoint.pending r.output (value_of r.answer)
    (event_code r.answer) r.count

-- every function of the interface: refused with nothing changed, or the operation on the card that the bytes hold
unfoldable pub crossed : (card table pending : List ℕ) → Operation → Crossed
crossed card table pending o =
    cond (eqb (unread card o) 0)
    (back card o (operate (world_of (card_in card) table pending) o))
    (handed (unread card o) card table pending (lent_output o) 0 0 0)
