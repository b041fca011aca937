-- Document 01, "Refusals of a running card": each row at its limit and before the next one; nothing changes. Assumes nothing.
use Rattle.std.specs.Prelude.{true, List, [], ◌∷◌, ◌++◌}
use Rattle.model.specs.declared.Answer.TheVariants.{Refused, Done, Sent, Held, Lost}
use Rattle.model.specs.Calls.{call, config_read, config_write, bar_read, bar_write, event, line, reset, save}
use Rattle.model.specs.Play.{Step, lends, does, fresh}
use Rattle.model.specs.Cases.{msix, list_from, header, sizes_of, starts, start_case, writes, reads_config, raises, drives, command, control, plain_case, msix_case, one_vector, saves}
use Rattle.model.specs.Cases.{wire_packet, message64}
use Rattle.model.specs.Examples.Parts.{refuses, reads, puts, image_bytes}

-- ---- 1: card not sound, before every other row

-- a card whose lent buffers are for another number of vectors
abbrev pub other_buffers : List Step
other_buffers =
    msix_case 1
    (lends 2 ∷ refuses 1 (event 1 []) ∷ refuses 1 (config_read 256 1) ∷ refuses 1 (config_write 1 2 0 []) ∷ refuses 1 (bar_read 6 0 4)
    ∷ refuses 1 (bar_write 0 0 4 0 []) ∷ refuses 1 (line true []) ∷ refuses 1 (reset []) ∷ refuses 1 (save []) ∷ [])

-- a refused start hands out a card whose fields are all 0: E = 0
abbrev pub zero_card : List Step
zero_card = starts (header 5) (sizes_of 0 0) 1 0 (Refused 10) ++ (refuses 1 (event 0 []) ∷ refuses 1 (config_read 0 4) ∷ refuses 1 (save (fresh 294)) ∷ [])

-- ---- 2: event number E or more, before 6

abbrev pub events : List Step
events =
    start_case (header 1) (sizes_of 0 0) 2048 0 (raises 2047 0 Lost [] ∷ refuses 2 (event 2048 []) ∷ refuses 2 (event 0xffff (fresh 64)) ∷ [])

abbrev pub event_before_room : List Step
event_before_room = msix_case 1 (one_vector 0x0006 ++ (control 0x8000 [] ∷ refuses 2 (event 1 []) ∷ refuses 6 (event 0 (fresh 19)) ∷ raises 0 20 Sent (message64 0x31) ∷ []))

-- ---- 3: configuration width not 1, 2, 4, offset not a multiple of it, or above 255

abbrev pub config_access : List Step
config_access =
    plain_case 1
    (refuses 3 (config_read 0 0) ∷ refuses 3 (config_read 0 3) ∷ refuses 3 (config_read 0 5) ∷ refuses 3 (config_read 0 8) ∷ refuses 3 (config_read 1 2)
    ∷ refuses 3 (config_read 3 2) ∷ refuses 3 (config_read 1 4) ∷ refuses 3 (config_read 2 4) ∷ refuses 3 (config_read 256 1) ∷ refuses 3 (config_read 256 2)
    ∷ refuses 3 (config_read 256 4) ∷ reads_config 255 1 0 ∷ reads_config 254 2 0 ∷ reads_config 252 4 0 ∷ reads_config 0x3d 1 1
    ∷ refuses 3 (config_write 0 3 0 (fresh 64)) ∷ refuses 3 (config_write 2 4 0 (fresh 64)) ∷ refuses 3 (config_write 256 4 0 (fresh 64)) ∷ writes 255 1 0 []
    ∷ writes 252 4 0 [] ∷ [])

-- before 6: a misaligned write that would assert the wire
abbrev pub config_before_room : List Step
config_before_room =
    plain_case 1
    (command 0x0400 ∷ drives true [] ∷ refuses 3 (config_write 3 4 0 []) ∷ refuses 6 (config_write 4 4 0 []) ∷ refuses 6 (config_write 4 4 0 (fresh 15))
    ∷ does (call (config_write 4 4 0 (fresh 16))) (wire_packet 0x20) Done ∷ [])

-- ---- 4: BAR above 5, width not 4 or 8, offset not a multiple, or outside table and pending array; 5: Command bit 1 clear

-- two vectors: the table at 20h of BAR 1, the pending array at 48h of BAR 2
abbrev pub bar_card : List Step → List Step
bar_card steps = start_case (msix 0x40 0 1 0x21 0x4a (list_from 0x40)) (0 ∷ 0x40 ∷ 0x50 ∷ 0 ∷ 0 ∷ 0 ∷ []) 2 2 steps

abbrev pub bar_access : List Step
bar_access =
    bar_card
    (command 0x0002
    ∷ refuses 4 (bar_read 1 0x1c 4) ∷ reads 1 0x20 4 0 ∷ reads 1 0x3c 4 1 ∷ refuses 4 (bar_read 1 0x40 4) ∷ refuses 4 (bar_read 1 0x18 8) ∷ reads 1 0x38 8 0x100000000
    ∷ refuses 4 (bar_read 1 0x40 8) ∷ refuses 4 (bar_read 0 0x20 4) ∷ refuses 4 (bar_read 2 0x20 4) ∷ refuses 4 (bar_read 1 0x48 8)
    ∷ refuses 4 (bar_read 2 0x44 4) ∷ reads 2 0x48 4 0 ∷ reads 2 0x4c 4 0 ∷ reads 2 0x48 8 0 ∷ refuses 4 (bar_read 2 0x50 4)
    ∷ refuses 4 (bar_read 1 0x20 0) ∷ refuses 4 (bar_read 1 0x20 1) ∷ refuses 4 (bar_read 1 0x20 2) ∷ refuses 4 (bar_read 1 0x20 3) ∷ refuses 4 (bar_read 1 0x20 16)
    ∷ refuses 4 (bar_read 1 0x22 4) ∷ refuses 4 (bar_read 1 0x24 8) ∷ refuses 4 (bar_read 6 0x20 4)
    ∷ puts 1 0x3c 4 0 ∷ puts 2 0x48 8 0 ∷ refuses 4 (bar_write 1 0x40 4 0 (fresh 64)) ∷ refuses 4 (bar_write 1 0x24 8 0 (fresh 64)) ∷ refuses 4 (bar_write 1 0x20 2 0 (fresh 64))
    ∷ reads 1 0x38 8 0 ∷ [])

-- one vector, at the end of BAR 5
abbrev pub last_bar : List Step
last_bar =
    start_case (msix 0x40 0 0 0x05 0x15 (list_from 0x40)) (0 ∷ 0 ∷ 0 ∷ 0 ∷ 0 ∷ 0x18 ∷ []) 1 1
    (command 0x0002 ∷ reads 5 0x0c 4 1 ∷ puts 5 0x0c 4 0 ∷ reads 5 0x08 8 0 ∷ reads 5 0x10 8 0 ∷ refuses 4 (bar_read 4 0x0c 4) ∷ [])

-- 4 before 5, 5 before 6: a write that would unmask a waiting vector
abbrev pub memory_space : List Step
memory_space =
    msix_case 1
    (command 0x0006 ∷ puts 0 0x00 8 0x00000001fee01000 ∷ puts 0 0x08 4 0x31 ∷ control 0x8000 [] ∷ raises 0 0 Held [] ∷ command 0xfffd
    ∷ refuses 4 (bar_read 1 0 4) ∷ refuses 5 (bar_read 0 0 4) ∷ refuses 4 (bar_write 0 0x0c 2 0 []) ∷ refuses 5 (bar_write 0 0x0c 4 0 [])
    ∷ command 0x0006 ∷ refuses 6 (bar_write 0 0x0c 4 0 []) ∷ refuses 4 (bar_write 0 0x0c 2 0 []) ∷ refuses 6 (bar_write 0 0x0c 4 0 (fresh 19))
    ∷ does (call (bar_write 0 0x0c 4 0 (fresh 20))) (message64 0x31) Done ∷ [])

-- ---- 6: output shorter than this call's packets or image, by a byte; the card is as it was

abbrev pub rooms : List Step
rooms =
    plain_case 2
    (refuses 6 (save (fresh 293)) ∷ saves 294 (image_bytes 0 1 0 (sizes_of 0 0) (header 2) [])
    ∷ refuses 6 (line true (fresh 15)) ∷ reads_config 0x06 2 0 ∷ does (call (line true (fresh 16))) (wire_packet 0x21) Done
    ∷ refuses 6 (reset (fresh 15)) ∷ reads_config 0x06 2 0x0008 ∷ does (call (reset (fresh 16))) (wire_packet 0x25) Done ∷ reads_config 0x06 2 0 ∷ [])

-- a write that owes two packets, of 16 and 20 bytes
abbrev pub room_of_two : List Step
room_of_two =
    msix_case 1
    (one_vector 0x0006
    ++ (control 0xc000 [] ∷ raises 0 0 Held [] ∷ control 0x0000 [] ∷ drives true (wire_packet 0x20) ∷ refuses 6 (config_write 0x42 2 0x8000 (fresh 35))
    ∷ reads_config 0x42 2 0 ∷ does (call (config_write 0x42 2 0x8000 (fresh 36))) (wire_packet 0x24 ++ message64 0x31) Done ∷ []))

abbrev pub refusals : List (List Step)
refusals =
    other_buffers ∷ zero_card ∷ events ∷ event_before_room ∷ config_access ∷ config_before_room ∷ bar_access ∷ last_bar ∷ memory_space ∷ rooms ∷ room_of_two ∷ []
