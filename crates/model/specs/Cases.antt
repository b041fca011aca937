-- Document 01, "Bench cases", as tables of calls, two cases of request [6], one of request [3], and cases for the errors that tempt. Assumes nothing.
use Rattle.std.specs.Prelude.{Bool, true, false, List, [], ◌∷◌, ◌++◌, ℕ, suc, ◌+◌, ◌-◌, ◌*◌, set, replicate}
use Rattle.words.specs.Bytes.{bytes_of}
use Rattle.model.specs.declared.Answer.{Answer}
use Rattle.model.specs.declared.Answer.TheVariants.{Refused, Done, Value, Sent, Held, Merged}
use Rattle.model.specs.Calls.{call, start, config_read, config_write, bar_read, bar_write, event, line, reset, save, withdraw}
use Rattle.model.specs.Play.{Step, lends, does, fresh}

-- ---- configurations

-- bytes put at a place of a list
abbrev pub put : ℕ → List ℕ → List ℕ → List ℕ
put i [] l = l
put i (b ∷ bs) l = put (suc i) bs (set l i b)

-- no capability, and a pin
abbrev pub header : ℕ → List ℕ
header pin = set (replicate 256 0) 0x3d pin

-- pin 1, and a list whose first pointer is p
abbrev pub list_from : (p : ℕ) → List ℕ
list_from p = set (set (header 1) 0x06 0x10) 0x34 p

-- a capability at a place: its ID, the next pointer, and its control register
abbrev pub capability : (at id next control : ℕ) → List ℕ → List ℕ
capability at id next control c = put at (id ∷ next ∷ bytes_of 2 control) c

-- MSI-X at a place: its control register, the words of its table and of its pending array, each an offset with a BAR in the low three bits
abbrev pub msix : (at next control table pending : ℕ) → List ℕ → List ℕ
msix at next control table pending c =
    put (at + 4) (bytes_of 4 table) (put (at + 8) (bytes_of 4 pending) (capability at 0x11 next control c))

-- MSI at 40h, Capable 3: 32-bit, and 64-bit with masks
abbrev pub msi_card : List ℕ
msi_card = capability 0x40 0x05 0 0x0006 (list_from 0x40)

abbrev pub wide_msi_card : List ℕ
wide_msi_card = capability 0x40 0x05 0 0x0186 (list_from 0x40)

-- MSI-X at 40h with n vectors
abbrev pub msix_card : (next n table pending : ℕ) → List ℕ
msix_card next n table pending = msix 0x40 next (n - 1) table pending (list_from 0x40)

-- the sizes of BARs 0 and 1
abbrev pub sizes_of : ℕ → ℕ → List ℕ
sizes_of a b = a ∷ b ∷ 0 ∷ 0 ∷ 0 ∷ 0 ∷ []

-- ---- calls, each over an output of 64 bytes or as said

-- buffers for n vectors, and a start with requester 0100h
abbrev pub starts : (config sizes : List ℕ) (events n : ℕ) → Answer → List Step
starts config sizes events n answer = lends n ∷ does (start config sizes events 0x100) [] answer ∷ []

abbrev pub writes : (offset width value : ℕ) (bytes : List ℕ) → Step
writes o n x bytes = does (call (config_write o n x (fresh 64))) bytes Done

-- four bytes of BAR 0
abbrev pub stores : (offset value : ℕ) (bytes : List ℕ) → Step
stores o x bytes = does (call (bar_write 0 o 4 x (fresh 64))) bytes Done

abbrev pub raises : (number room : ℕ) → Answer → (bytes : List ℕ) → Step
raises e room answer bytes = does (call (event e (fresh room))) bytes answer

abbrev pub withdraws : (vector : ℕ) → Answer → Step
withdraws v answer = does (call (withdraw v)) [] answer

abbrev pub drives : Bool → (bytes : List ℕ) → Step
drives level bytes = does (call (line level (fresh 64))) bytes Done

abbrev pub reads_config : (offset width value : ℕ) → Step
reads_config o n x = does (call (config_read o n)) [] (Value x)

-- eight bytes of BAR 0
abbrev pub reads_bar : (offset value : ℕ) → Step
reads_bar o x = does (call (bar_read 0 o 8)) [] (Value x)

abbrev pub resets : (bytes : List ℕ) → Step
resets bytes = does (call (reset (fresh 64))) bytes Done

abbrev pub saves : (room : ℕ) (bytes : List ℕ) → Step
saves room bytes = does (call (save (fresh room))) bytes Done

-- ---- groups of calls

abbrev pub command : ℕ → Step
command x = writes 0x04 2 x []

-- Message Control of the capability at 40h
abbrev pub control : ℕ → (bytes : List ℕ) → Step
control x bytes = writes 0x42 2 x bytes

-- entry v of the table: address FEE01000h, upper address 1, data
abbrev pub entry : (v value : ℕ) → List Step
entry v value = stores (16 * v) 0xfee01000 [] ∷ stores (16 * v + 4) 1 [] ∷ stores (16 * v + 8) value [] ∷ []

-- the mask bit of entry v cleared
abbrev pub unmask : ℕ → (bytes : List ℕ) → Step
unmask v bytes = stores (16 * v + 12) 0 bytes

-- MSI on with address FEE00000h, this data register and this Enable; bus mastering on
abbrev pub msi_steps : (value enable : ℕ) → List Step
msi_steps value enable =
    command 0x0004 ∷ writes 0x44 4 0xfee00000 [] ∷ writes 0x48 2 value [] ∷ control (16 * enable + 1) [] ∷ []

-- one MSI-X vector with data 31h and mask 0
abbrev pub one_vector : ℕ → List Step
one_vector x = command x ∷ entry 0 0x31 ++ (unmask 0 [] ∷ [])

-- ---- packets

abbrev pub message32 : (low high : ℕ) → List ℕ
message32 low high = 0x40 ∷ 0 ∷ 0 ∷ 1 ∷ 1 ∷ 0 ∷ 0 ∷ 0x0f ∷ 0xfe ∷ 0xe0 ∷ 0 ∷ 0 ∷ low ∷ high ∷ 0 ∷ 0 ∷ []

-- the same with all four bytes of the data
abbrev pub message_of32 : (a b c d : ℕ) → List ℕ
message_of32 a b c d = 0x40 ∷ 0 ∷ 0 ∷ 1 ∷ 1 ∷ 0 ∷ 0 ∷ 0x0f ∷ 0xfe ∷ 0xe0 ∷ 0 ∷ 0 ∷ a ∷ b ∷ c ∷ d ∷ []

abbrev pub message64 : ℕ → List ℕ
message64 low = 0x60 ∷ 0 ∷ 0 ∷ 1 ∷ 1 ∷ 0 ∷ 0 ∷ 0x0f ∷ 0 ∷ 0 ∷ 0 ∷ 1 ∷ 0xfe ∷ 0xe0 ∷ 0x10 ∷ 0 ∷ low ∷ 0 ∷ 0 ∷ 0 ∷ []

abbrev pub wire_packet : ℕ → List ℕ
wire_packet code = 0x34 ∷ 0 ∷ 0 ∷ 0 ∷ 1 ∷ 0 ∷ 0 ∷ code ∷ 0 ∷ 0 ∷ 0 ∷ 0 ∷ 0 ∷ 0 ∷ 0 ∷ 0 ∷ []

-- ---- kinds of cases

abbrev pub start_case : (config sizes : List ℕ) (events n : ℕ) → List Step → List Step
start_case config sizes events n steps = starts config sizes events n Done ++ steps

abbrev pub msi_case : (events value enable : ℕ) → List Step → List Step
msi_case events value enable steps = start_case msi_card (sizes_of 0 0) events 0 (msi_steps value enable ++ steps)

-- the table at the start of BAR 0, the pending array at 1000h of it, and as many events as vectors
abbrev pub msix_case : ℕ → List Step → List Step
msix_case n steps = start_case (msix_card 0 n 0 0x1000) (sizes_of 0x2000 0) n n steps

abbrev pub plain_case : (pin : ℕ) → List Step → List Step
plain_case pin steps = start_case (header pin) (sizes_of 0 0) 1 0 steps

-- ---- cases 1 to 11

abbrev pub case1 : List Step
case1 = msi_case 4 0x49a0 2 (raises 1 40 Sent (message32 0xa1 0x49) ∷ [])

abbrev pub case2 : List Step
case2 = msi_case 4 0x49a3 2 (raises 1 40 Sent (message32 0xa1 0x49) ∷ [])

abbrev pub case3 : List Step
case3 = msi_case 8 0x49a0 2 (raises 5 40 Sent (message32 0xa1 0x49) ∷ [])

abbrev pub case4 : List Step
case4 = msi_case 8 0x0040 3 (raises 5 40 Sent (message32 0x45 0) ∷ [])

abbrev pub case5 : List Step
case5 = msix_case 1 (one_vector 0x0006 ++ (control 0x8000 [] ∷ raises 0 40 Sent (message64 0x31) ∷ []))

abbrev pub case6 : List Step
case6 =
    plain_case 1
    (command 0x0004 ∷ drives true (wire_packet 0x20) ∷ reads_config 0x06 2 0x0008 ∷ drives false (wire_packet 0x24) ∷ [])

abbrev pub case7 : List Step
case7 =
    msix_case 4
    (command 0x0006 ∷ entry 3 0x33
    ++ (control 0x8000 [] ∷ raises 3 40 Held [] ∷ raises 3 40 Merged [] ∷ reads_bar 0x1000 0x08 ∷ unmask 3 (message64 0x33)
    ∷ reads_bar 0x1000 0 ∷ []))

abbrev pub case8 : List Step
case8 =
    msix_case 10
    (command 0x0006 ∷ entry 2 0x32 ++ entry 9 0x39
    ++ (unmask 2 [] ∷ unmask 9 [] ∷ control 0xc000 [] ∷ raises 9 40 Held [] ∷ raises 2 40 Held []
    ∷ control 0x8000 (message64 0x32 ++ message64 0x39) ∷ []))

abbrev pub case9 : List Step
case9 =
    msix_case 1 (one_vector 0x0002 ++ (control 0x8000 [] ∷ raises 0 40 Held [] ∷ writes 0x04 2 0x0006 (message64 0x31) ∷ []))

abbrev pub case10 : List Step
case10 =
    msix_case 1
    (one_vector 0x0006
    ++ (control 0xc000 [] ∷ raises 0 40 Held [] ∷ control 0x0000 [] ∷ drives true (wire_packet 0x20)
    ∷ control 0x8000 (wire_packet 0x24 ++ message64 0x31) ∷ []))

abbrev pub case11 : List Step
case11 = plain_case 0 (saves 300 (0x49 ∷ 0x52 ∷ 0x51 ∷ 1 ∷ 0 ∷ 0 ∷ 1 ∷ 0 ∷ 0 ∷ 1 ∷ replicate 284 0) ∷ [])

abbrev pub starred_cases : List (List Step)
starred_cases =
    case1 ∷ case2 ∷ case3 ∷ case4 ∷ case5 ∷ case6 ∷ case7 ∷ case8 ∷ case9 ∷ case10 ∷ case11 ∷ []

-- ---- cases 12 and 13

-- the image of case 1's card before its event: E = 4, requester 0100h, nothing waiting, BARs of no size, and the registers as written
abbrev pub image_before : List ℕ
image_before =
    0x49 ∷ 0x52 ∷ 0x51 ∷ 1 ∷ 0 ∷ 0 ∷ 4 ∷ 0 ∷ 0 ∷ 1 ∷ replicate 28 0
    ++ put 0x48 (bytes_of 2 0x49a0) (put 0x44 (bytes_of 4 0xfee00000) (put 0x42 (0x27 ∷ []) (put 0x04 (0x04 ∷ []) msi_card)))

-- event E - 1 and event E; then the card of case 1 with outputs of 15 and 16 bytes, and its image before and after the first
abbrev pub case12 : List Step
case12 =
    msi_case 8 0x49a0 2 (raises 7 40 Sent (message32 0xa3 0x49) ∷ raises 8 40 (Refused 2) [] ∷ [])
    ++ msi_case 4 0x49a0 2
    (saves 294 image_before ∷ raises 1 15 (Refused 6) [] ∷ saves 294 image_before ∷ raises 1 16 Sent (message32 0xa1 0x49) ∷ [])

-- a table of 64 bytes from 40h of BAR 0 on, and a pending array that fills BAR 1
abbrev pub table_ends : (size : ℕ) → Answer → List Step
table_ends size answer = starts (msix_card 0 4 0x40 1) (sizes_of size 8) 4 4 answer

abbrev pub case13 : List Step
case13 = table_ends 0x80 Done ++ table_ends 0x78 (Refused 14)

abbrev pub limit_cases : List (List Step)
limit_cases = case12 ∷ case13 ∷ []

-- ---- cases 14 and 15: 32-bit MSI data, Capable 2, data register ABCD49A3h

-- bus mastering and MSI on, Enable 2, bit 10 written with 1
abbrev pub data_case : (config : List ℕ) → List Step → List Step
data_case config steps =
    start_case config (sizes_of 0 0) 4 0
    (command 0x0004 ∷ writes 0x44 4 0xfee00000 [] ∷ writes 0x48 4 0xabcd49a3 [] ∷ control 0x0421 [] ∷ steps)

-- bit 9: all 32 bits; with bit 10 clear the upper half is 0
abbrev pub case14 : List Step
case14 =
    data_case (capability 0x40 0x05 0 0x0204 (list_from 0x40))
    (raises 1 40 Sent (message_of32 0xa1 0x49 0xcd 0xab) ∷ control 0x0021 [] ∷ raises 1 40 Sent (message32 0xa1 0x49) ∷ [])

-- bit 10 and an upper half of 1234h as given, no bit 9: neither can be written, and the message has 0 there
abbrev pub case15 : List Step
case15 =
    data_case (put 0x4a (0x34 ∷ 0x12 ∷ []) (capability 0x40 0x05 0 0x0404 (list_from 0x40)))
    (reads_config 0x48 4 0x123449a3 ∷ raises 1 40 Sent (message32 0xa1 0x49) ∷ control 0x0021 [] ∷ reads_config 0x42 2 0x0425 ∷ [])

abbrev pub data_cases : List (List Step)
data_cases = case14 ∷ case15 ∷ []

-- the bench cases in the order of their numbers
abbrev pub bench_cases : List (List Step)
bench_cases = starred_cases ++ limit_cases ++ data_cases

-- ---- case 16: a channel is masked, its cause comes and is satisfied

-- its vector is withdrawn, which was waiting and then is not; the unmask sends nothing, and the next event is sent
abbrev pub case16 : List Step
case16 =
    msix_case 4
    (command 0x0006 ∷ entry 3 0x33
    ++ (control 0x8000 [] ∷ raises 3 40 Held [] ∷ reads_bar 0x1000 0x08 ∷ withdraws 3 (Value 1) ∷ reads_bar 0x1000 0 ∷ withdraws 3 (Value 0) ∷ unmask 3 []
    ∷ raises 3 40 Sent (message64 0x33) ∷ []))

abbrev pub withdraw_cases : List (List Step)
withdraw_cases = case16 ∷ []

-- ---- for the errors that tempt

-- MSI-X at 40h, and MSI at 50h
abbrev pub both_card : List ℕ
both_card = capability 0x50 0x05 0 0x0006 (msix_card 0x50 2 0 0x1000)

-- the wire with bus mastering off; what a reset leaves of a waiting vector; MSI-X over MSI with both on; a 64-bit form's data at 0Ch, its masks at 10h
-- and its waiting bits shown at 14h
abbrev pub tempting_cases : List (List Step)
tempting_cases =
    plain_case 1
    (drives true (wire_packet 0x20) ∷ command 0x0004 ∷ reads_config 0x06 2 0x0008 ∷ resets (wire_packet 0x24)
    ∷ reads_config 0x06 2 0x0000 ∷ [])
    ∷ msix_case 1
    (command 0x0006 ∷ unmask 0 [] ∷ control 0xc000 [] ∷ raises 0 40 Held [] ∷ resets [] ∷ command 0x0006 ∷ unmask 0 []
    ∷ control 0x8000 [] ∷ [])
    ∷ start_case both_card (sizes_of 0x2000 0) 2 2
    (command 0x0006 ∷ entry 1 0x31
    ++ (unmask 1 [] ∷ writes 0x52 2 1 [] ∷ control 0x8000 [] ∷ raises 1 40 Sent (message64 0x31) ∷ []))
    ∷ start_case wide_msi_card (sizes_of 0 0) 4 0
    (writes 0x44 4 0xfee01000 [] ∷ writes 0x48 4 1 [] ∷ writes 0x4c 2 0x30 [] ∷ writes 0x50 4 0xffffffff []
    ∷ reads_config 0x50 4 0xff ∷ control 0x11 [] ∷ command 0x0004 ∷ raises 3 40 Held [] ∷ reads_config 0x54 4 2
    ∷ writes 0x50 1 0 (message64 0x31) ∷ reads_config 0x54 4 0 ∷ [])
    ∷ []
