-- Request [3] of document 02, withdrawals: refusals 7 and 2, their order and their borders, the bit of the mechanism in force, and what is said of it.
-- Assumes nothing.
use Rattle.std.specs.Prelude.{List, [], ◌∷◌, ◌++◌, ℕ, ◌-◌, ◌*◌, ◌^◌}
use Rattle.model.specs.declared.Answer.TheVariants.{Value, Sent, Held}
use Rattle.model.specs.Calls.{withdraw}
use Rattle.model.specs.Play.{Step, lends}
use Rattle.model.specs.Cases.{capability, list_from, sizes_of, start_case, msix_case, plain_case, both_card, writes, reads_bar, raises, withdraws}
use Rattle.model.specs.Cases.{resets, command, control, entry, unmask, message32, message64}
use Rattle.model.specs.Examples.Parts.{refuses}

-- ---- 7: the pin is in force, before 2, for a vector below N and for one above all

-- no capability; MSI-X and MSI, both off
abbrev pub pin_in_force : List Step
pin_in_force =
    plain_case 1 (refuses 7 (withdraw 0) ∷ refuses 7 (withdraw 0xffff) ∷ [])
    ++ start_case both_card (sizes_of 0x2000 0) 2 2
    (refuses 7 (withdraw 0) ∷ refuses 7 (withdraw 1) ∷ refuses 7 (withdraw 2) ∷ refuses 7 (withdraw 8) ∷ refuses 7 (withdraw 0xffff) ∷ [])

-- ---- 1 before 7 and before 2: the lent buffers are for another number of vectors

abbrev pub not_sound : List Step
not_sound =
    msix_case 1 (lends 65 ∷ refuses 1 (withdraw 0) ∷ refuses 1 (withdraw 1) ∷ [])
    ++ msix_case 1 (control 0x8000 [] ∷ withdraws 0 (Value 0) ∷ lends 65 ∷ refuses 1 (withdraw 0) ∷ refuses 1 (withdraw 1) ∷ [])

-- ---- 2: N or more; MSI: 2^Capable or more, whatever is granted

-- 2 vectors of MSI-X and 8 of MSI, on one card
abbrev pub borders : List Step
borders =
    start_case both_card (sizes_of 0x2000 0) 2 2
    (control 0x8000 [] ∷ withdraws 1 (Value 0) ∷ refuses 2 (withdraw 2) ∷ refuses 2 (withdraw 7) ∷ refuses 2 (withdraw 0xffff)
    ∷ control 0x0000 [] ∷ writes 0x52 2 1 [] ∷ withdraws 7 (Value 0) ∷ refuses 2 (withdraw 8) ∷ refuses 2 (withdraw 0xffff) ∷ [])

-- 65 vectors, in the second word of the pending array
abbrev pub second_word : List Step
second_word =
    msix_case 65
    (command 0x0002 ∷ control 0x8000 [] ∷ raises 64 0 Held [] ∷ raises 63 0 Held [] ∷ withdraws 64 (Value 1) ∷ reads_bar 0x1008 0
    ∷ reads_bar 0x1000 0x8000000000000000 ∷ refuses 2 (withdraw 65) ∷ withdraws 63 (Value 1) ∷ reads_bar 0x1000 0 ∷ [])

-- each Capable with Enable 0: 1, 2, 4, 8, 16 and 32
abbrev pub capable : ℕ → List Step
capable k =
    start_case (capability 0x40 0x05 0 (2 * k) (list_from 0x40)) (sizes_of 0 0) 1 0
    (control 0x0001 [] ∷ withdraws (2 ^ k - 1) (Value 0) ∷ refuses 2 (withdraw (2 ^ k)) ∷ [])

abbrev pub every_capable : List Step
every_capable = capable 0 ++ capable 1 ++ capable 2 ++ capable 3 ++ capable 4 ++ capable 5

-- Capable 3: vector 7 held with Enable 3, and withdrawn with Enable 1, which grants two
abbrev pub above_granted : List Step
above_granted =
    start_case (capability 0x40 0x05 0 0x0006 (list_from 0x40)) (sizes_of 0 0) 8 0
    (control 0x0031 [] ∷ raises 7 0 Held [] ∷ raises 1 0 Held [] ∷ control 0x0011 [] ∷ withdraws 7 (Value 1) ∷ withdraws 7 (Value 0) ∷ refuses 2 (withdraw 8)
    ∷ writes 0x44 4 0xfee00000 [] ∷ writes 0x48 2 0x49a0 [] ∷ writes 0x04 2 0x0004 (message32 0xa1 0x49) ∷ control 0x0031 [] ∷ [])

-- ---- the bit of the mechanism in force; the other mechanism's bit of that number stays

-- vector 1 waits in both
abbrev pub both_waiting : List Step → List Step
both_waiting steps =
    start_case both_card (sizes_of 0x2000 0) 2 2
    (command 0x0002 ∷ writes 0x52 2 0x11 [] ∷ raises 1 0 Held [] ∷ control 0x8000 [] ∷ raises 1 0 Held [] ∷ reads_bar 0x1000 2 ∷ steps)

abbrev pub of_msix : List Step
of_msix =
    both_waiting
    (withdraws 1 (Value 1) ∷ reads_bar 0x1000 0 ∷ withdraws 1 (Value 0) ∷ control 0x0000 [] ∷ withdraws 1 (Value 1) ∷ withdraws 1 (Value 0) ∷ [])

abbrev pub of_msi : List Step
of_msi =
    both_waiting
    (control 0x0000 [] ∷ withdraws 1 (Value 1) ∷ withdraws 1 (Value 0) ∷ reads_bar 0x1000 2 ∷ control 0x8000 [] ∷ withdraws 1 (Value 1) ∷ reads_bar 0x1000 0 ∷ [])

-- ---- no other vector's bit; one that does not wait, and one that is open

abbrev pub others_stay : List Step
others_stay =
    msix_case 10
    (command 0x0002 ∷ control 0x8000 [] ∷ raises 0 0 Held [] ∷ raises 2 0 Held [] ∷ raises 3 0 Held [] ∷ raises 9 0 Held [] ∷ withdraws 1 (Value 0)
    ∷ reads_bar 0x1000 0x20d ∷ withdraws 2 (Value 1) ∷ reads_bar 0x1000 0x209 ∷ withdraws 9 (Value 1) ∷ reads_bar 0x1000 0x009 ∷ withdraws 8 (Value 0)
    ∷ reads_bar 0x1000 0x009 ∷ resets [] ∷ control 0x8000 [] ∷ withdraws 0 (Value 0) ∷ [])

abbrev pub open_vector : List Step
open_vector =
    msix_case 4
    (command 0x0006 ∷ entry 3 0x33 ++ (unmask 3 [] ∷ control 0x8000 [] ∷ withdraws 3 (Value 0) ∷ raises 3 20 Sent (message64 0x33) ∷ withdraws 3 (Value 0) ∷ []))

-- MSI with Capable 3: vectors 0, 1 and 2 wait, and 1 is withdrawn
abbrev pub others_stay_msi : List Step
others_stay_msi =
    start_case (capability 0x40 0x05 0 0x0106 (list_from 0x40)) (sizes_of 0 0) 8 0
    (control 0x0031 [] ∷ raises 0 0 Held [] ∷ raises 1 0 Held [] ∷ raises 2 0 Held [] ∷ withdraws 1 (Value 1) ∷ writes 0x50 4 0 [] ∷ withdraws 3 (Value 0)
    ∷ withdraws 2 (Value 1) ∷ withdraws 0 (Value 1) ∷ withdraws 0 (Value 0) ∷ [])

abbrev pub withdrawals : List (List Step)
withdrawals =
    pin_in_force ∷ not_sound ∷ borders ∷ second_word ∷ every_capable ∷ above_granted ∷ of_msix ∷ of_msi ∷ others_stay ∷ open_vector ∷ others_stay_msi ∷ []
