-- Every call as one total function: for each its refusals, the world after it, the bytes that it sends and its answer. Assumes nothing.
use Rattle.std.specs.Prelude.{Bool, true, false, not, cond, ◌&&◌, ◌||◌, List, [], ◌∷◌, ◌++◌, ℕ, ◌%◌, ltb, leb, eqb, length}
use Rattle.words.specs.Lists.{first_of}
use Rattle.words.specs.Bytes.{bytes_of, number}
use Rattle.words.specs.Writers.{over}
use Rattle.model.specs.declared.Shape.{Shape}
use Rattle.model.specs.declared.Answer.{Answer}
use Rattle.model.specs.declared.Answer.TheVariants.{Refused, Done, Value}
use Rattle.model.specs.World.{World, Endpoint, registers, zero_function, endpoint_of, with_registers, with_line}
use Rattle.model.specs.Registers.{shown, bar_byte, config_written, bar_written, in_table, in_pending}
use Rattle.model.specs.Vectors.{command_bit}
use Rattle.model.specs.Release.{Raised, raised_by, settled, settle_bytes, wire_change}
use Rattle.model.specs.Start.{Given, given, start_refusal, started}
use Rattle.model.specs.Sound.{sound, shape}
use Rattle.model.specs.Image.{image_of, world_in, restore_refusal}
use Rattle.model.specs.Withdrawals.{withdraw_rows, withdrawn, was_set}

-- a call of a running card with its arguments; `out` is the output lent to it
pub data Call : Type 0 where
  config_read : (offset width : ℕ) → Call
  config_write : (offset width value : ℕ) (out : List ℕ) → Call
  bar_read : (bar offset width : ℕ) → Call
  bar_write : (bar offset width value : ℕ) (out : List ℕ) → Call
  event : (number : ℕ) (out : List ℕ) → Call
  line : (level : Bool) (out : List ℕ) → Call
  reset : (out : List ℕ) → Call
  save : (out : List ℕ) → Call
  withdraw : (vector : ℕ) → Call

-- a save: its bytes are an image, those of any other call packets
unfoldable pub is_save : Call → Bool
is_save (config_read o n) = false
is_save (config_write o n x out) = false
is_save (bar_read b o n) = false
is_save (bar_write b o n x out) = false
is_save (event e out) = false
is_save (line level out) = false
is_save (reset out) = false
is_save (save out) = true
is_save (withdraw v) = false

abbrev pub is_withdrawal : Call → Bool
is_withdrawal (config_read o n) = false
is_withdrawal (config_write o n x out) = false
is_withdrawal (bar_read b o n) = false
is_withdrawal (bar_write b o n x out) = false
is_withdrawal (event e out) = false
is_withdrawal (line level out) = false
is_withdrawal (reset out) = false
is_withdrawal (save out) = false
is_withdrawal (withdraw v) = true

-- no call of a list is a withdrawal
unfoldable pub no_withdrawal : List Call → Bool
no_withdrawal [] = true
no_withdrawal (c ∷ cs) = not (is_withdrawal c) && no_withdrawal cs

-- what a call gives: `count` bytes of the output are new
pub record Outcome : Type 0 where
  pub world : World
  pub answer : Answer
  pub count : ℕ
  pub output : List ℕ

-- everything unchanged, nothing sent
abbrev pub refused : World → ℕ → List ℕ → Outcome
refused w n out = record { world = w; answer = Refused n; count = 0; output = out }

-- the bytes stand at the start of the output, and those behind them keep their contents
abbrev pub accepted : World → Answer → List ℕ → List ℕ → Outcome
accepted w a bytes out = record { world = w; answer = a; count = length bytes; output = over bytes out }

-- ---- "Refusals of a running card": the rows between 1 and 6, and those of a withdrawal

-- 3: configuration width not 1, 2, 4, offset not a multiple of it, or above 255
unfoldable pub bad_config : (offset width : ℕ) → Bool
bad_config o n = not (eqb n 1 || eqb n 2 || eqb n 4) || not (eqb (o % n) 0) || ltb 255 o

-- 4: BAR above 5, width not 4 or 8, offset not a multiple, or outside table and pending array
unfoldable pub bad_bar : Shape → (bar offset width : ℕ) → Bool
bad_bar s b o n = ltb 5 b || not (eqb n 4 || eqb n 8) || not (eqb (o % n) 0) || not (in_table s b o || in_pending s b o)

-- 5: Command bit 1 clear
unfoldable pub no_memory : Endpoint → Bool
no_memory u = not (command_bit (registers u) 1)

unfoldable pub rows : Endpoint → Call → List (ℕ × Bool)
rows u (config_read o n) = (3, bad_config o n) ∷ []
rows u (config_write o n x out) = (3, bad_config o n) ∷ []
rows u (bar_read b o n) = (4, bad_bar (shape u) b o n) ∷ (5, no_memory u) ∷ []
rows u (bar_write b o n x out) = (4, bad_bar (shape u) b o n) ∷ (5, no_memory u) ∷ []
rows u (event e out) = (2, leb u.function.events e) ∷ []
rows u (line level out) = []
rows u (reset out) = []
rows u (save out) = []
rows u (withdraw v) = withdraw_rows u v

-- ---- the function after an accepted call, before a waiting vector is sent

-- a start with the same shape
abbrev pub reset_endpoint : Endpoint → Endpoint
reset_endpoint u = started u.function.config u.function.sizes u.function.events u.function.requester

unfoldable pub changed : Endpoint → Call → Endpoint
changed u (config_read o n) = u
changed u (config_write o n x out) = with_registers u (config_written (shape u) (registers u) o (bytes_of n x))
changed u (bar_read b o n) = u
changed u (bar_write b o n x out) = with_registers u (bar_written (shape u) (registers u) b o (bytes_of n x))
changed u (event e out) = (raised_by (shape u) u e).endpoint
changed u (line level out) = with_line u level
changed u (reset out) = reset_endpoint u
changed u (save out) = u
changed u (withdraw v) = withdrawn u v

-- ---- the world after an accepted call

unfoldable pub next : World → Call → World
next w (config_read o n) = w
next w (config_write o n x out) = settled (shape w.endpoint) (changed w.endpoint (config_write o n x out))
next w (bar_read b o n) = w
next w (bar_write b o n x out) = settled (shape w.endpoint) (changed w.endpoint (bar_write b o n x out))
next w (event e out) = settled (shape w.endpoint) (changed w.endpoint (event e out))
next w (line level out) = settled (shape w.endpoint) (changed w.endpoint (line level out))
next w (reset out) = record { endpoint = changed w.endpoint (reset out); wire = false }
next w (save out) = w
next w (withdraw v) = record { endpoint = changed w.endpoint (withdraw v); wire = w.wire }

-- ---- the bytes of an accepted call: its packets, or the image

unfoldable pub sends : World → Call → List ℕ
sends w (config_read o n) = []
sends w (config_write o n x out) = settle_bytes (shape w.endpoint) w.wire (changed w.endpoint (config_write o n x out))
sends w (bar_read b o n) = []
sends w (bar_write b o n x out) = settle_bytes (shape w.endpoint) w.wire (changed w.endpoint (bar_write b o n x out))
sends w (event e out) =
    (raised_by (shape w.endpoint) w.endpoint e).bytes
    ++ settle_bytes (shape w.endpoint) w.wire (changed w.endpoint (event e out))
sends w (line level out) = settle_bytes (shape w.endpoint) w.wire (changed w.endpoint (line level out))
sends w (reset out) = wire_change w.endpoint.function.requester (registers w.endpoint) w.wire false
sends w (save out) = image_of w
sends w (withdraw v) = []

-- ---- the answer of an accepted call

unfoldable pub answer_of : Endpoint → Call → Answer
answer_of u (config_read o n) = Value (number (shown (shape u) u) o n)
answer_of u (config_write o n x out) = Done
answer_of u (bar_read b o n) = Value (number (bar_byte (shape u) u b) o n)
answer_of u (bar_write b o n x out) = Done
answer_of u (event e out) = (raised_by (shape u) u e).answer
answer_of u (line level out) = Done
answer_of u (reset out) = Done
answer_of u (save out) = Done
answer_of u (withdraw v) = Value (was_set u v)

-- ---- every call of a running card

abbrev pub output_of : Call → List ℕ
output_of (config_read o n) = []
output_of (config_write o n x out) = out
output_of (bar_read b o n) = []
output_of (bar_write b o n x out) = out
output_of (event e out) = out
output_of (line level out) = out
output_of (reset out) = out
output_of (save out) = out
output_of (withdraw v) = []

-- refused with a number, or accepted where that is 0
unfoldable pub answered : ℕ → (ifAccepted ifRefused : Outcome) → Outcome
answered n ifAccepted ifRefused = cond (eqb n 0) ifAccepted ifRefused

-- 6: output shorter than this call's packets or image; else accepted
unfoldable pub if_room : World → (next : World) → Answer → (bytes out : List ℕ) → Outcome
if_room w next answer bytes out = cond (ltb (length out) (length bytes)) (refused w 6 out) (accepted next answer bytes out)

-- a changed function u of shape s on the card w: the wire's packet and the open waiting vectors'
abbrev pub settle_of : World → Shape → Endpoint → (out : List ℕ) → Outcome
settle_of w s u out = if_room w (settled s u) Done (settle_bytes s w.wire u) out

-- an event on the card w, whose wire it leaves
abbrev pub raise_of : World → Raised → (out : List ℕ) → Outcome
raise_of w r out = if_room w (record { endpoint = r.endpoint; wire = w.wire }) r.answer r.bytes out

-- what a call does to a sound card: refused by the first of its own rows that applies, or 6, or accepted
unfoldable pub performed : World → Call → Outcome
performed w c =
    answered (first_of (rows w.endpoint c))
    (if_room w (next w c) (answer_of w.endpoint c) (sends w c) (output_of c))
    (refused w (first_of (rows w.endpoint c)) (output_of c))

-- 1: card not sound
unfoldable pub step : World → Call → Outcome
step w c = cond (sound w) (performed w c) (refused w 1 (output_of c))

-- the refusals of a running card as one table, without and with the row 6: the number of the first row that applies, 0 if none does
unfoldable pub earlier_refusal : World → Call → ℕ
earlier_refusal w c = first_of ((1, not (sound w)) ∷ rows w.endpoint c)

unfoldable pub refusal : World → Call → ℕ
refusal w c = first_of ((1, not (sound w)) ∷ (rows w.endpoint c ++ ((6, ltb (length (output_of c)) (length (sends w c))) ∷ [])))

-- ---- start and restore

-- the wire inactive
abbrev pub started_world : Given → World
started_world g = record { endpoint = started g.config g.sizes g.events g.requester; wire = false }

-- the two lent buffers beside a card whose fields are all 0
abbrev pub zero_world : Endpoint → World
zero_world u = record { endpoint = endpoint_of zero_function u.table u.pending; wire = false }

abbrev pub start_given : Endpoint → (config sizes : List ℕ) → (events requester : ℕ) → Given
start_given u config sizes events requester = given config sizes events requester (length u.table) (length u.pending)

-- over the lent buffers of u
unfoldable pub start_of : Endpoint → Given → Outcome
start_of u g =
    answered (start_refusal g)
    (accepted (started_world g) Done [] [])
    (refused (zero_world u) (start_refusal g) [])

-- a refused restore hands back the card that it was given
unfoldable pub restore_of : World → List ℕ → Outcome
restore_of w image =
    let n : ℕ = restore_refusal image (length w.endpoint.table) (length w.endpoint.pending) in
    answered n (accepted (world_in image) Done [] []) (refused w n [])

-- ---- every call: of a running card, a start, a restore

pub data Operation : Type 0 where
  call : Call → Operation
  start : (config sizes : List ℕ) (events requester : ℕ) → Operation
  restore : (image : List ℕ) → Operation

abbrev pub operate : World → Operation → Outcome
operate w (call c) = step w c
operate w (start config sizes events requester) = start_of w.endpoint (start_given w.endpoint config sizes events requester)
operate w (restore image) = restore_of w image

-- the output lent to it
abbrev pub lent_output : Operation → List ℕ
lent_output (call c) = output_of c
lent_output (start config sizes events requester) = []
lent_output (restore image) = []
