-- Document 01, the wire: each pin's codes, and each condition of its level. Assumes nothing.
use Rattle.std.specs.Prelude.{true, false, List, [], ◌∷◌, ◌++◌, ℕ}
use Rattle.model.specs.declared.Answer.TheVariants.{Held}
use Rattle.model.specs.Play.{Step}
use Rattle.model.specs.Cases.{header, sizes_of, writes, reads_config, raises, drives, resets, command, control, plain_case, msix_case, one_vector, wire_packet, message64}
use Rattle.model.specs.Examples.Parts.{starts_as, form_case}

-- code 1Fh + pin asserts, 23h + pin deasserts
abbrev pub pin_codes : (pin asserts deasserts : ℕ) → List Step
pin_codes pin asserts deasserts = plain_case pin (drives true (wire_packet asserts) ∷ drives false (wire_packet deasserts) ∷ [])

-- pin 0: no wire, but the line shows
abbrev pub no_pin : List Step
no_pin = plain_case 0 (drives true [] ∷ reads_config 0x06 2 0x0008 ∷ command 0x0004 ∷ drives false [] ∷ reads_config 0x06 2 0 ∷ [])

-- the requester's high byte first, and every byte of the packet
abbrev pub requester : List Step
requester =
    starts_as 0x1238 (header 3) (sizes_of 0 0) 1 0
    ++ (drives true (0x34 ∷ 0x00 ∷ 0x00 ∷ 0x00 ∷ 0x12 ∷ 0x38 ∷ 0x00 ∷ 0x22 ∷ 0 ∷ 0 ∷ 0 ∷ 0 ∷ 0 ∷ 0 ∷ 0 ∷ 0 ∷ []) ∷ [])

-- Command bit 10 and no other bit of Command; a level that is set again sends nothing
abbrev pub interrupt_disable : List Step
interrupt_disable =
    plain_case 3
    (drives true (wire_packet 0x22) ∷ drives true [] ∷ command 0xfbff ∷ writes 0x04 2 0x0400 (wire_packet 0x26) ∷ drives true [] ∷ reads_config 0x06 2 0x0008
    ∷ writes 0x05 1 0xfb (wire_packet 0x22) ∷ drives false (wire_packet 0x26) ∷ drives false [] ∷ [])

-- the pin is not in force under MSI, nor under MSI-X; the wire's packet goes before the vectors'
abbrev pub under_msi : List Step
under_msi =
    form_case 0x0000 1
    (drives true (wire_packet 0x20) ∷ control 0x0001 (wire_packet 0x24) ∷ drives false [] ∷ drives true [] ∷ control 0x0000 (wire_packet 0x20) ∷ [])

abbrev pub under_msix : List Step
under_msix =
    msix_case 1
    (one_vector 0x0006
    ++ (control 0xc000 [] ∷ raises 0 20 Held [] ∷ drives true [] ∷ control 0x4000 (wire_packet 0x20) ∷ control 0x8000 (wire_packet 0x24 ++ message64 0x31) ∷ []))

-- a reset deasserts, and the line is low
abbrev pub at_reset : List Step
at_reset =
    plain_case 4 (drives true (wire_packet 0x23) ∷ resets (wire_packet 0x27) ∷ reads_config 0x06 2 0 ∷ resets [] ∷ drives true (wire_packet 0x23) ∷ [])

abbrev pub wires : List (List Step)
wires =
    pin_codes 1 0x20 0x24 ∷ pin_codes 2 0x21 0x25 ∷ pin_codes 3 0x22 0x26 ∷ pin_codes 4 0x23 0x27 ∷ no_pin ∷ requester ∷ interrupt_disable
    ∷ under_msi ∷ under_msix ∷ at_reset ∷ []
