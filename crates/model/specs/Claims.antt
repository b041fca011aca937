-- What the theorems of demands 1 and 2 speak of. Assumes nothing.
use Rattle.std.specs.Prelude.{◌≡◌, true, false, ◌&&◌, List, ◌↔◌, ℕ, ◌^◌, ◌≤◌, ◌<◌, eqb, length, take, replicate}
use Rattle.words.specs.Bits.{of_bool}
use Rattle.words.specs.Bytes.{word16, Below, Bytes}
use Rattle.model.specs.declared.Card.{Card}
use Rattle.model.specs.declared.Answer.TheVariants.{Value}
use Rattle.model.specs.declared.Mode.{Mode}
use Rattle.model.specs.World.{World, Endpoint, card_of, registers}
use Rattle.model.specs.Vectors.{same_mode, waits}
use Rattle.model.specs.Withdrawals.{mode_now}
use Rattle.model.specs.Answers.{is_accepted, refusal_of, value_of}
use Rattle.model.specs.Sound.{sound}
use Rattle.model.specs.Image.{mark, image_of, world_in}
use Rattle.model.specs.Calls.{Call, save, Outcome, restore_of, Operation, call, start, restore, operate}
use Rattle.model.specs.Trials.{world_after, outcomes, wrote_bytes}

-- what a refused call leaves of the world w that it was given and of its output: everything as it was, value and count 0
pub record Unchanged (w : World) (out : List ℕ) (r : Outcome) : Type 0 where
  pub world : r.world ≡ w
  pub output : r.output ≡ out
  pub count : r.count ≡ 0
  pub value : value_of r.answer ≡ 0

-- the fields of a card are all 0
pub record AllZero (c : Card) : Type 0 where
  pub config : c.function.config ≡ replicate 256 0
  pub sizes : c.function.sizes ≡ replicate 6 0
  pub events : c.function.events ≡ 0
  pub requester : c.function.requester ≡ 0
  pub line : c.function.line ≡ false
  pub waiting : c.function.waiting ≡ 0
  pub wire : c.wire ≡ false

-- what a refused start leaves of the two lent buffers: they are as they were, and the card that it hands out is all 0
pub record StartRefused (u : Endpoint) (r : Outcome) : Type 0 where
  pub card : AllZero (card_of r.world)
  pub table : r.world.endpoint.table ≡ u.table
  pub pending : r.world.endpoint.pending ≡ u.pending
  pub count : r.count ≡ 0
  pub value : value_of r.answer ≡ 0

-- what the declared types say of a configuration and of BAR sizes: 256 bytes, and six numbers of 32 bits
pub record Arrays (c z : List ℕ) : Type 0 where
  pub config : length c ≡ 256
  pub bytes : Bytes c
  pub sizes : length z ≡ 6
  pub small : Below (256 ^ 4) z

-- of a card: its arrays, and numbers of 16 and 32 bits
pub record Typed (w : World) : Type 0 where
  pub arrays : Arrays w.endpoint.function.config w.endpoint.function.sizes
  pub events : w.endpoint.function.events < 256 ^ 2
  pub requester : w.endpoint.function.requester < 256 ^ 2
  pub waiting : w.endpoint.function.waiting < 256 ^ 4

-- of the arguments of a call, as far as a card is made of them
pub data TypedArguments : Operation → Type 0 where
  of_call : (c : Call) → TypedArguments (call c)
  of_start : {config sizes : List ℕ} (events requester : ℕ) → Arrays config sizes → TypedArguments (start config sizes events requester)
  of_restore : {image : List ℕ} → Bytes image → TypedArguments (restore image)

-- what an accepted withdrawal of vector v gives on the card w: it says whether the bit of the mechanism in force was set, clears that bit and no other,
-- leaves all else as it was, and sends nothing
pub record Withdrawn (w : World) (v : ℕ) (r : Outcome) : Type 0 where
  pub says : r.answer ≡ Value (of_bool (waits (mode_now w.endpoint) w.endpoint v))
  pub cleared : waits (mode_now w.endpoint) r.world.endpoint v ≡ false
  pub others : (m : Mode) (x : ℕ) → (same_mode m (mode_now w.endpoint) && eqb v x) ≡ false → waits m r.world.endpoint x ≡ waits m w.endpoint x
  pub registers : registers r.world.endpoint ≡ registers w.endpoint
  pub sizes : r.world.endpoint.function.sizes ≡ w.endpoint.function.sizes
  pub events : r.world.endpoint.function.events ≡ w.endpoint.function.events
  pub requester : r.world.endpoint.function.requester ≡ w.endpoint.function.requester
  pub line : r.world.endpoint.function.line ≡ w.endpoint.function.line
  pub wire : r.world.wire ≡ w.wire
  pub pending : length r.world.endpoint.pending ≡ length w.endpoint.pending
  pub count : r.count ≡ 0

-- saving the sound card v writes this image
pub record SavedBy (image : List ℕ) (v : World) : Type 0 where
  pub typed : Typed v
  pub is_sound : sound v ≡ true
  pub bytes : image_of v ≡ image

-- the lent buffers of w are as long as those of v
pub record SameRoom (w v : World) : Type 0 where
  pub table : length w.endpoint.table ≡ length v.endpoint.table
  pub pending : length w.endpoint.pending ≡ length v.endpoint.pending

-- over buffers that fit the card that the image holds, a restore accepts it exactly if saving some sound card writes it
abbrev pub AcceptedIfSaved : World → List ℕ → Type 0
AcceptedIfSaved w image = SameRoom w (world_in image) → (is_accepted (restore_of w image).answer ≡ true) ↔ ((v : World) × SavedBy image v)

-- over any lent buffers, a restore refuses with 22 exactly if length, mark and version are right and saving no sound card writes the image
abbrev pub RefusedIfUnsaved : World → List ℕ → Type 0
RefusedIfUnsaved w image =
    (refusal_of (restore_of w image).answer ≡ 22)
    ↔ ((294 ≤ length image) × (take 3 image ≡ mark) × (word16 image 3 ≡ 1) × ((v : World) → SavedBy image v → ⊥))

-- an accepted save of the card w, then any list of calls, starts and restores among them, then a restore of exactly the bytes that the save wrote,
-- over the same buffers: it is accepted, card and buffers are those after the save, and every list of calls that follows gives the same outcomes
abbrev pub Resumes : World → Type 0
Resumes w =
    (out : List ℕ) → is_accepted (operate w (call (save out))).answer ≡ true → (between : List Operation)
    → let saved : Outcome = operate w (call (save out)) in
    let back : Outcome = operate (world_after saved.world between) (restore (wrote_bytes saved)) in
    (is_accepted back.answer ≡ true) × (back.world ≡ saved.world) × ((rest : List Operation) → outcomes back.world rest ≡ outcomes saved.world rest)
