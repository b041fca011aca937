-- The card of document 01 with 16-bit MSI data, as it was before request [6]: each definition that the request reaches, word for word as it stood, under its
-- name with 16 behind it. A withdrawal, which came after it, is the same for both. Of what stands here by its own name the request changes nothing: of
-- `form_of`, which it reads, only the size. Assumes nothing.
use Rattle.std.specs.Prelude.{Bool, false, not, cond, ◌&&◌, ◌||◌, List, [], ◌∷◌, ◌++◌, ℕ, ◌+◌, ◌-◌, ◌*◌, ◌/◌, ltb, eqb, length, take, replicate}
use Rattle.std.specs.Bool.{beq}
use Rattle.std.proofs.Math.Option.{Option, none, some}
use Rattle.words.specs.Lists.{within, first_of, each_at, overlap, join, same}
use Rattle.words.specs.Bits.{clear, of_bool, set_bit}
use Rattle.words.specs.Bytes.{byte, word16, bytes_of, number}
use Rattle.model.specs.declared.Form.{Form}
use Rattle.model.specs.declared.Shape.{Shape}
use Rattle.model.specs.declared.Mode.{Mode}
use Rattle.model.specs.declared.Mode.TheVariants.{Pin, Msi, Msix}
use Rattle.model.specs.declared.Answer.{Answer}
use Rattle.model.specs.declared.Answer.TheVariants.{Done, Value, Sent, Held, Merged, Lost}
use Rattle.model.specs.World.{World, Endpoint, Registers, registers, function_of, endpoint_of, with_registers, with_line}
use Rattle.model.specs.Capabilities.{capabilities, listed, broken}
use Rattle.model.specs.Shape.{forms, shape_of, msi_present, msix_present, pending_bytes}
use Rattle.model.specs.Registers.{header_writable, header_zero, mask_bytes, in_mask, in_pending_register, msi_zero, in_msix, msix_writable}
use Rattle.model.specs.Registers.{written, bar_written, bar_byte, started_table, entry_zero}
use Rattle.model.specs.Vectors.{granted, mode_of, is_open, waits, change_waiting, vector_of, owed}
use Rattle.model.specs.Packets.{message, msi_address, msi_upper, entry_message}
use Rattle.model.specs.Release.{Raised, owed_now, settled, wire_due_of, wire_change}
use Rattle.model.specs.Start.{Given, bad_header, twice, misplaced, bad_regions, bad_events, bad_requester, bad_buffers}
use Rattle.model.specs.Sound.{given_of, shape, zero_bits, waits_below, is_empty}
use Rattle.model.specs.Image.{mark, image_of, world_in}
use Rattle.model.specs.Calls.{Call, config_read, config_write, bar_read, bar_write, event, line, reset, save, withdraw, Outcome, refused, accepted, rows, output_of, answered, if_room}
use Rattle.model.specs.Calls.{start_given, zero_world, Operation, call, start, restore}
use Rattle.model.specs.Withdrawals.{withdrawn, was_set}

-- ---- "Registers"

-- the form of a card's MSI
unfoldable pub form_of16 : Shape → Form
form_of16 s = forms s.msi.masks s.msi.wide

-- control bits 0 and 6:4; address bits 31:2; upper address; 16-bit data; mask bits below 2^Capable
unfoldable pub msi_writable16 : Shape → ℕ → ℕ
msi_writable16 s k =
    first_of
    ((0x71, eqb k 2)
    ∷ (0x00, ltb k 4)
    ∷ (0xfc, eqb k 4)
    ∷ (0xff, ltb k 8)
    ∷ (0xff, s.msi.wide && ltb k 12)
    ∷ (0xff, within (form_of16 s).message 2 k)
    ∷ (byte (mask_bytes s) (k - (form_of16 s).mask), in_mask s k)
    ∷ [])

unfoldable pub in_msi16 : Shape → ℕ → Bool
in_msi16 s i = msi_present s && within s.msi.at (form_of16 s).size i

unfoldable pub writable16 : Shape → ℕ → ℕ
writable16 s i =
    cond (ltb i 64) (header_writable i)
    (cond (in_msi16 s i) (msi_writable16 s (i - s.msi.at)) (cond (in_msix s i) (msix_writable (i - s.msix.at)) 0))

unfoldable pub stored_zero16 : Shape → ℕ → ℕ
stored_zero16 s i = cond (ltb i 64) (header_zero i) (cond (in_msi16 s i) (msi_zero s (i - s.msi.at)) 0)

unfoldable pub fixed_byte16 : Shape → ℕ → ℕ → ℕ
fixed_byte16 s i b = clear (writable16 s i) (clear (stored_zero16 s i) b)

unfoldable pub shown16 : Shape → Endpoint → ℕ → ℕ
shown16 s u i =
    cond (eqb i 6) (byte u.function.config 6 + 8 * of_bool u.function.line)
    (cond (in_msi16 s i && in_pending_register s (i - s.msi.at)) (byte (bytes_of 4 u.function.waiting) (i - s.msi.at - (form_of16 s).pending))
    (byte u.function.config i))

abbrev pub config_written16 : Shape → Registers → ℕ → List ℕ → Registers
config_written16 s r o l = record { config = written (writable16 s) r.config o l; table = r.table }

unfoldable pub started_config16 : Shape → List ℕ → List ℕ
started_config16 s c = each_at (fixed_byte16 s) 0 c

-- ---- "Starting a card"

-- 13
unfoldable pub bad_structures16 : List ℕ → Shape → Bool
bad_structures16 places s =
    (msi_present s && (ltb 5 s.msi.capable || misplaced places s.msi.at (form_of16 s).size))
    || (msix_present s && misplaced places s.msix.at 12)
    || (msi_present s && msix_present s && overlap s.msi.at (form_of16 s).size s.msix.at 12)

unfoldable pub start_refusal16 : Given → ℕ
start_refusal16 g =
    let c : List ℕ = g.config in
    let places : List ℕ = listed (capabilities c) in
    let s : Shape = shape_of c in
    first_of
    ((10, bad_header c)
    ∷ (11, broken (capabilities c))
    ∷ (12, twice c places)
    ∷ (13, bad_structures16 places s)
    ∷ (14, bad_regions g.sizes s)
    ∷ (15, bad_events g.events s)
    ∷ (16, bad_requester g.requester)
    ∷ (17, bad_buffers s g.table_length g.pending_length)
    ∷ [])

abbrev pub started16 : (config sizes : List ℕ) → (events requester : ℕ) → Endpoint
started16 config sizes events requester =
    let s : Shape = shape_of config in
    endpoint_of (function_of (started_config16 s config) sizes events requester false 0) (started_table s.msix.vectors) (replicate (pending_bytes s) 0)

-- ---- "Packets"

-- the 16-bit data register
unfoldable pub msi_data16 : Shape → Registers → ℕ
msi_data16 s r = word16 r.config (s.msi.at + (form_of16 s).message)

unfoldable pub message_of16 : Mode → Shape → (requester : ℕ) → Registers → ℕ → List ℕ
message_of16 Pin s requester r v = []
message_of16 Msi s requester r v =
    message requester (msi_upper s r) (msi_address s r) (msi_data16 s r / granted s r * granted s r + v)
message_of16 Msix s requester r v = entry_message requester r.table v

unfoldable pub bytes_for16 : Mode → Shape → Endpoint → List ℕ
bytes_for16 m s u = join (message_of16 m s u.function.requester (registers u)) (owed m s u)

unfoldable pub sweep_bytes16 : Shape → Endpoint → List ℕ
sweep_bytes16 s u = bytes_for16 (mode_of s (registers u)) s u

unfoldable pub settle_bytes16 : Shape → (wire : Bool) → Endpoint → List ℕ
settle_bytes16 s wire u = wire_change u.function.requester (registers u) wire (wire_due_of s u) ++ sweep_bytes16 s u

-- ---- an event

unfoldable pub raise_vector16 : Mode → Shape → Endpoint → ℕ → Raised
raise_vector16 m s u v =
    cond (is_open m s (registers u) v)
    (record { endpoint = u; bytes = message_of16 m s u.function.requester (registers u) v; answer = Sent })
    (cond (waits m u v)
    (record { endpoint = u; bytes = []; answer = Merged })
    (record { endpoint = change_waiting set_bit m u v; bytes = []; answer = Held }))

unfoldable pub raise16 : Mode → Shape → Endpoint → Option ℕ → Raised
raise16 m s u none = record { endpoint = u; bytes = []; answer = Lost }
raise16 m s u (some v) = raise_vector16 m s u v

unfoldable pub raised_by16 : Shape → Endpoint → ℕ → Raised
raised_by16 s u e =
    let m : Mode = mode_of s (registers u) in
    raise16 m s u (vector_of m s (registers u) e)

-- ---- "Saved images"

unfoldable pub sound_endpoint16 : Shape → Endpoint → Bool
sound_endpoint16 s u =
    eqb (start_refusal16 (given_of u)) 0
    && zero_bits (stored_zero16 s) u.function.config
    && zero_bits entry_zero u.table
    && waits_below s u
    && is_empty (owed_now s u)

unfoldable pub sound16 : World → Bool
sound16 w = sound_endpoint16 (shape w.endpoint) w.endpoint && beq w.wire (wire_due_of (shape w.endpoint) w.endpoint)

unfoldable pub is_saved16 : List ℕ → Bool
is_saved16 l = sound16 (world_in l) && same (image_of (world_in l)) l

unfoldable pub restore_refusal16 : List ℕ → (table_length pending_length : ℕ) → ℕ
restore_refusal16 l table_length pending_length =
    let w : World = world_in l in
    first_of
    ((20, ltb (length l) 294 || not (same (take 3 l) mark))
    ∷ (21, not (eqb (word16 l 3) 1))
    ∷ (22, not (is_saved16 l))
    ∷ (17, not (eqb table_length (length w.endpoint.table)) || not (eqb pending_length (length w.endpoint.pending)))
    ∷ [])

-- ---- every call

abbrev pub reset_endpoint16 : Endpoint → Endpoint
reset_endpoint16 u = started16 u.function.config u.function.sizes u.function.events u.function.requester

unfoldable pub changed16 : Endpoint → Call → Endpoint
changed16 u (config_read o n) = u
changed16 u (config_write o n x out) = with_registers u (config_written16 (shape u) (registers u) o (bytes_of n x))
changed16 u (bar_read b o n) = u
changed16 u (bar_write b o n x out) = with_registers u (bar_written (shape u) (registers u) b o (bytes_of n x))
changed16 u (event e out) = (raised_by16 (shape u) u e).endpoint
changed16 u (line level out) = with_line u level
changed16 u (reset out) = reset_endpoint16 u
changed16 u (save out) = u
changed16 u (withdraw v) = withdrawn u v

unfoldable pub next16 : World → Call → World
next16 w (config_read o n) = w
next16 w (config_write o n x out) = settled (shape w.endpoint) (changed16 w.endpoint (config_write o n x out))
next16 w (bar_read b o n) = w
next16 w (bar_write b o n x out) = settled (shape w.endpoint) (changed16 w.endpoint (bar_write b o n x out))
next16 w (event e out) = settled (shape w.endpoint) (changed16 w.endpoint (event e out))
next16 w (line level out) = settled (shape w.endpoint) (changed16 w.endpoint (line level out))
next16 w (reset out) = record { endpoint = changed16 w.endpoint (reset out); wire = false }
next16 w (save out) = w
next16 w (withdraw v) = record { endpoint = changed16 w.endpoint (withdraw v); wire = w.wire }

unfoldable pub sends16 : World → Call → List ℕ
sends16 w (config_read o n) = []
sends16 w (config_write o n x out) = settle_bytes16 (shape w.endpoint) w.wire (changed16 w.endpoint (config_write o n x out))
sends16 w (bar_read b o n) = []
sends16 w (bar_write b o n x out) = settle_bytes16 (shape w.endpoint) w.wire (changed16 w.endpoint (bar_write b o n x out))
sends16 w (event e out) =
    (raised_by16 (shape w.endpoint) w.endpoint e).bytes
    ++ settle_bytes16 (shape w.endpoint) w.wire (changed16 w.endpoint (event e out))
sends16 w (line level out) = settle_bytes16 (shape w.endpoint) w.wire (changed16 w.endpoint (line level out))
sends16 w (reset out) = wire_change w.endpoint.function.requester (registers w.endpoint) w.wire false
sends16 w (save out) = image_of w
sends16 w (withdraw v) = []

unfoldable pub answer_of16 : Endpoint → Call → Answer
answer_of16 u (config_read o n) = Value (number (shown16 (shape u) u) o n)
answer_of16 u (config_write o n x out) = Done
answer_of16 u (bar_read b o n) = Value (number (bar_byte (shape u) u b) o n)
answer_of16 u (bar_write b o n x out) = Done
answer_of16 u (event e out) = (raised_by16 (shape u) u e).answer
answer_of16 u (line level out) = Done
answer_of16 u (reset out) = Done
answer_of16 u (save out) = Done
answer_of16 u (withdraw v) = Value (was_set u v)

unfoldable pub performed16 : World → Call → Outcome
performed16 w c =
    answered (first_of (rows w.endpoint c))
    (if_room w (next16 w c) (answer_of16 w.endpoint c) (sends16 w c) (output_of c))
    (refused w (first_of (rows w.endpoint c)) (output_of c))

unfoldable pub step16 : World → Call → Outcome
step16 w c = cond (sound16 w) (performed16 w c) (refused w 1 (output_of c))

abbrev pub started_world16 : Given → World
started_world16 g = record { endpoint = started16 g.config g.sizes g.events g.requester; wire = false }

unfoldable pub start_of16 : Endpoint → Given → Outcome
start_of16 u g =
    answered (start_refusal16 g)
    (accepted (started_world16 g) Done [] [])
    (refused (zero_world u) (start_refusal16 g) [])

unfoldable pub restore_of16 : World → List ℕ → Outcome
restore_of16 w image =
    let n : ℕ = restore_refusal16 image (length w.endpoint.table) (length w.endpoint.pending) in
    answered n (accepted (world_in image) Done [] []) (refused w n [])

abbrev pub operate16 : World → Operation → Outcome
operate16 w (call c) = step16 w c
operate16 w (start config sizes events requester) = start_of16 w.endpoint (start_given w.endpoint config sizes events requester)
operate16 w (restore image) = restore_of16 w image

-- what each call of a list gives
unfoldable pub outcomes16 : World → List Operation → List Outcome
outcomes16 w [] = []
outcomes16 w (o ∷ os) = operate16 w o ∷ outcomes16 (operate16 w o).world os
