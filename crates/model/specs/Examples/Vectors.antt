-- Document 01, "Who is open": each bit that opens and shuts a vector, what an event means, and what is sent when. Assumes nothing.
use Rattle.std.specs.Prelude.{true, List, [], ◌∷◌, ◌++◌, ℕ}
use Rattle.model.specs.declared.Answer.TheVariants.{Sent, Held, Merged, Lost}
use Rattle.model.specs.Play.{Step}
use Rattle.model.specs.Cases.{sizes_of, start_case, writes, reads_config, reads_bar, raises, stores, command, control, entry, unmask, msix_case, one_vector}
use Rattle.model.specs.Cases.{drives, wire_packet, message32, message64, both_card}
use Rattle.model.specs.Examples.Parts.{ones_unlisted, form_case}

-- MSI at 40h, 32-bit, with address FEE00000h and data 49A0h, for E = 32
abbrev pub msi_on : (form : ℕ) → List Step → List Step
msi_on form steps = form_case form 32 (writes 0x44 4 0xfee00000 [] ∷ writes 0x48 2 0x49a0 [] ∷ steps)

-- ---- the mechanism in force: MSI-X control bit 15, MSI control bit 0

abbrev pub msix_enable : List Step
msix_enable =
    msix_case 1
    (one_vector 0x0006 ++ (control 0x7fff [] ∷ raises 0 20 Lost [] ∷ control 0x8000 [] ∷ raises 0 20 Sent (message64 0x31) ∷ []))

abbrev pub msi_enable : List Step
msi_enable =
    msi_on 0x000a
    (command 0x0004 ∷ control 0xfffe [] ∷ raises 5 16 Lost [] ∷ control 0x0001 [] ∷ raises 5 16 Sent (message32 0xa0 0x49) ∷ [])

-- neither present: the pin, whatever the other bytes are
abbrev pub no_capability : List Step
no_capability = start_case ones_unlisted (sizes_of 0 0) 1 0 (raises 0 0 Lost [] ∷ drives true (wire_packet 0x21) ∷ raises 0 0 Lost [] ∷ [])

-- ---- shut by one bit: Function Mask, the vector's mask, Command bit 2; a vector at or above granted

abbrev pub function_mask : List Step
function_mask =
    msix_case 1
    (one_vector 0x0006
    ++ (control 0xffff [] ∷ raises 0 20 Held [] ∷ raises 0 20 Merged [] ∷ control 0xbfff (message64 0x31) ∷ raises 0 20 Sent (message64 0x31) ∷ []))

abbrev pub entry_mask : List Step
entry_mask =
    msix_case 2
    (command 0x0006 ∷ entry 1 0x31 ++ (control 0x8000 [] ∷ unmask 0 [] ∷ raises 1 20 Held [] ∷ stores 0x1c 0xffffffff [] ∷ stores 0x1c 0xfffffffe (message64 0x31) ∷ []))

abbrev pub bus_mastering : List Step
bus_mastering =
    msix_case 1
    (one_vector 0x0006
    ++ (control 0x8000 [] ∷ command 0xfffb ∷ raises 0 20 Held [] ∷ writes 0x04 2 0x0004 (message64 0x31) ∷ raises 0 20 Sent (message64 0x31) ∷ []))

abbrev pub bus_mastering_msi : List Step
bus_mastering_msi =
    msi_on 0x000a
    (control 0x0051 [] ∷ command 0xfffb ∷ raises 7 16 Held [] ∷ raises 7 16 Merged [] ∷ writes 0x04 2 0x0004 (message32 0xa7 0x49) ∷ raises 7 16 Sent (message32 0xa7 0x49)
    ∷ [])

-- vectors 3 and 31 of 32 by their mask bits; the lowest-numbered goes first
abbrev pub masks : List Step
masks =
    msi_on 0x010a
    (control 0x0051 [] ∷ command 0x0004 ∷ writes 0x4c 4 0x80000008 [] ∷ raises 31 16 Held [] ∷ raises 3 16 Held [] ∷ raises 0 16 Sent (message32 0xa0 0x49)
    ∷ raises 30 16 Sent (message32 0xbe 0x49) ∷ reads_config 0x50 4 0x80000008 ∷ writes 0x4c 4 0 (message32 0xa3 0x49 ++ message32 0xbf 0x49)
    ∷ reads_config 0x50 4 0 ∷ [])

-- vector 3 waits while granted is 2, and is sent when it is 4
abbrev pub above_granted : List Step
above_granted =
    msi_on 0x0104
    (control 0x0021 [] ∷ command 0x0004 ∷ writes 0x4c 4 0x0a [] ∷ raises 1 16 Held [] ∷ raises 3 16 Held [] ∷ reads_config 0x50 4 0x0a ∷ control 0x0011 []
    ∷ writes 0x4c 4 0 (message32 0xa1 0x49) ∷ reads_config 0x50 4 0x08 ∷ control 0x0021 (message32 0xa3 0x49) ∷ reads_config 0x50 4 0 ∷ [])

-- ---- one number under both mechanisms is two vectors; bits kept by a mechanism not in force stay

abbrev pub both_wait : List Step
both_wait =
    start_case both_card (sizes_of 0x2000 0) 2 2
    (command 0x0002 ∷ entry 1 0x31 ++ (unmask 1 [] ∷ writes 0x54 4 0xfee00000 [] ∷ writes 0x58 2 0x49a0 []
    ∷ writes 0x52 2 0x0011 [] ∷ raises 1 20 Held [] ∷ control 0x8000 [] ∷ raises 1 20 Held [] ∷ raises 1 20 Merged []
    ∷ writes 0x04 2 0x0006 (message64 0x31) ∷ control 0x0000 (message32 0xa1 0x49) ∷ []))

-- ---- pending bit v is bit v mod 8 of byte v div 8; event e means vector e

abbrev pub pending_bits : List Step
pending_bits =
    msix_case 66
    (command 0x0002 ∷ control 0x8000 [] ∷ raises 0 0 Held [] ∷ raises 7 0 Held [] ∷ raises 8 0 Held [] ∷ raises 18 0 Held [] ∷ raises 63 0 Held []
    ∷ raises 65 0 Held [] ∷ raises 65 0 Merged [] ∷ reads_bar 0x1000 0x8000000000040181 ∷ reads_bar 0x1008 0x0000000000000002 ∷ [])

abbrev pub vectors : List (List Step)
vectors =
    msix_enable ∷ msi_enable ∷ no_capability ∷ function_mask ∷ entry_mask ∷ bus_mastering ∷ bus_mastering_msi ∷ masks ∷ above_granted ∷ both_wait ∷ pending_bits ∷ []
