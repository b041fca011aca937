-- Document 01, the restore's checks: an image damaged in each of its fields, each check before the next one. Assumes nothing.
use Rattle.std.specs.Prelude.{List, [], ◌∷◌, ◌++◌, ℕ, zero, suc, ◌+◌, set, replicate, take}
use Rattle.model.specs.Image.{restore_refusal}
use Rattle.model.specs.Cases.{capability, msix_card}

-- a table of n entries as it is started
abbrev pub started_entries : (n : ℕ) → List ℕ
started_entries zero = []
started_entries (suc n) = replicate 12 0 ++ (1 ∷ 0 ∷ 0 ∷ 0 ∷ started_entries n)

-- the image of a started card: MSI-X of n vectors at 40h, 32-bit MSI of two with masks at 50h, pin 1
abbrev pub image_for : (n : ℕ) → List ℕ
image_for n =
    0x49 ∷ 0x52 ∷ 0x51 ∷ 1 ∷ 0 ∷ 0 ∷ n ∷ 0 ∷ 0 ∷ 1 ∷ 0 ∷ 0 ∷ 0 ∷ 0 ∷ 0x00 ∷ 0x20 ∷ 0x00 ∷ 0x00
    ∷ replicate 20 0 ++ capability 0x50 0x05 0 0x0102 (msix_card 0x50 n 0 0x1000) ++ started_entries n ++ replicate 8 0

abbrev pub good_image : List ℕ
good_image = image_for 1

-- the image of a started card without a list: E = 1, no pin
abbrev pub bare : List ℕ
bare = 0x49 ∷ 0x52 ∷ 0x51 ∷ 1 ∷ 0 ∷ 0 ∷ 1 ∷ 0 ∷ 0 ∷ 1 ∷ replicate 284 0

-- the refusal over buffers of its lengths, and with a byte of it changed
abbrev pub restoring : List ℕ → ℕ
restoring image = restore_refusal image 16 8

abbrev pub with_byte : (at b : ℕ) → ℕ
with_byte at b = restoring (set good_image at b)

-- a byte of its configuration, which starts at byte 38, of its table and of its pending array
abbrev pub config : (i b : ℕ) → List ℕ → List ℕ
config i b image = set image (38 + i) b

abbrev pub table : (i b : ℕ) → List ℕ → List ℕ
table i b image = set image (294 + i) b

abbrev pub pending : (i b : ℕ) → List ℕ → List ℕ
pending i b image = set image (310 + i) b

-- ---- 20, 21, 22 and 17 in their order

abbrev pub orders : List (ℕ × ℕ)
orders =
    (0, restoring good_image)
    ∷ (20, restoring [])
    ∷ (20, restoring (take 293 good_image))
    ∷ (22, restoring (take 294 good_image))
    ∷ (20, with_byte 0 0x48)
    ∷ (20, with_byte 1 0x53)
    ∷ (20, with_byte 2 0x50)
    ∷ (21, with_byte 3 0)
    ∷ (21, with_byte 3 2)
    ∷ (21, with_byte 4 1)
    ∷ (20, restoring (set (set good_image 3 2) 0 0x48))
    ∷ (21, restoring (set (set good_image 3 2) 5 4))
    ∷ (22, restore_refusal (set good_image 5 4) 0 0)
    ∷ (17, restore_refusal good_image 0 8)
    ∷ (17, restore_refusal good_image 15 8)
    ∷ (17, restore_refusal good_image 17 8)
    ∷ (17, restore_refusal good_image 16 7)
    ∷ (17, restore_refusal good_image 16 9)
    ∷ (17, restore_refusal good_image 16 16)
    -- lengths: 294 + 16N + 8 x (N/64 rounded up)
    ∷ (22, restoring (take 317 good_image))
    ∷ (22, restoring (good_image ++ (0 ∷ [])))
    ∷ []

-- ---- 22, field by field

abbrev pub damaged : List (ℕ × ℕ)
damaged =
    -- flags: the line with the wire inactive; the wire without the line; each bit behind them
    (22, with_byte 5 0x01)
    ∷ (22, with_byte 5 0x02)
    ∷ (0, with_byte 5 0x03)
    ∷ (22, with_byte 5 0x04)
    ∷ (22, with_byte 5 0x83)
    -- where there is no pin, the line alone
    ∷ (0, restore_refusal (set bare 5 0x01) 0 0)
    ∷ (22, restore_refusal (set bare 5 0x02) 0 0)
    -- E and the requester ID
    ∷ (22, with_byte 6 0)
    ∷ (22, with_byte 6 2)
    ∷ (22, with_byte 7 1)
    ∷ (22, with_byte 8 0x01)
    ∷ (22, with_byte 8 0x04)
    ∷ (0, with_byte 8 0x08)
    ∷ (0, with_byte 9 0xff)
    -- MSI waiting bits: two of them, and the others
    ∷ (0, with_byte 10 0x03)
    ∷ (22, with_byte 10 0x04)
    ∷ (22, with_byte 11 0x01)
    ∷ (22, with_byte 13 0x80)
    -- none where there is no MSI
    ∷ (0, restore_refusal bare 0 0)
    ∷ (22, restore_refusal (set bare 10 0x01) 0 0)
    -- the size of BAR 0, which has table and pending array; another size
    ∷ (22, with_byte 15 0x10)
    ∷ (0, with_byte 15 0x30)
    ∷ (0, with_byte 18 0xff)
    ∷ (0, with_byte 37 0xff)
    -- configuration: what a start refuses with 10 to 14
    ∷ (22, restoring (config 0x0e 0x01 good_image))
    ∷ (22, restoring (config 0x3d 0x05 good_image))
    ∷ (22, restoring (config 0x34 0x3c good_image))
    ∷ (22, restoring (config 0x50 0x11 good_image))
    ∷ (22, restoring (config 0x52 0x0c good_image))
    ∷ (22, restoring (config 0x44 0x06 good_image))
    -- stored as 0: Status bit 3, address bits 1:0, masks at or above 2^Capable, the Pending register
    ∷ (22, restoring (config 0x06 0x18 good_image))
    ∷ (0, restoring (config 0x06 0xf0 good_image))
    ∷ (22, restoring (config 0x54 0x01 good_image))
    ∷ (22, restoring (config 0x54 0x02 good_image))
    ∷ (0, restoring (config 0x54 0xfc good_image))
    ∷ (0, restoring (config 0x5c 0x03 good_image))
    ∷ (22, restoring (config 0x5c 0x04 good_image))
    ∷ (22, restoring (config 0x5f 0x80 good_image))
    ∷ (22, restoring (config 0x60 0x01 good_image))
    ∷ (22, restoring (config 0x63 0x80 good_image))
    ∷ (0, restoring (config 0x64 0xff good_image))
    -- table: address bits 1:0, control bits 31:1
    ∷ (22, restoring (table 0 0x01 good_image))
    ∷ (22, restoring (table 0 0x02 good_image))
    ∷ (0, restoring (table 0 0xfc good_image))
    ∷ (0, restoring (table 11 0xff good_image))
    ∷ (0, restoring (table 12 0x00 good_image))
    ∷ (22, restoring (table 12 0x02 good_image))
    ∷ (22, restoring (table 12 0x81 good_image))
    ∷ (22, restoring (table 13 0x01 good_image))
    ∷ (22, restoring (table 15 0x80 good_image))
    -- pending array: a bit at N and above
    ∷ (0, restoring (pending 0 0x01 good_image))
    ∷ (22, restoring (pending 0 0x02 good_image))
    ∷ (22, restoring (pending 7 0x80 good_image))
    ∷ []

-- ---- 22, in the second and third entry of three, and in their pending bits

abbrev pub with_entry_byte : (i b : ℕ) → ℕ
with_entry_byte i b = restore_refusal (table i b (image_for 3)) 48 8

abbrev pub later_entries : List (ℕ × ℕ)
later_entries =
    (22, with_entry_byte 16 0x01)
    ∷ (0, with_entry_byte 16 0xfc)
    ∷ (0, with_entry_byte 27 0xff)
    ∷ (0, with_entry_byte 28 0x00)
    ∷ (22, with_entry_byte 28 0x03)
    ∷ (22, with_entry_byte 29 0x01)
    ∷ (22, with_entry_byte 31 0x80)
    ∷ (22, with_entry_byte 32 0x02)
    ∷ (0, with_entry_byte 32 0xfc)
    ∷ (0, with_entry_byte 43 0xff)
    ∷ (0, with_entry_byte 44 0x00)
    ∷ (22, with_entry_byte 44 0x81)
    ∷ (22, with_entry_byte 45 0x01)
    ∷ (22, with_entry_byte 47 0x80)
    -- byte 48 is the first of the pending array
    ∷ (0, with_entry_byte 48 0x07)
    ∷ (22, with_entry_byte 48 0x08)
    ∷ []

-- ---- 22: an open vector waits, and each bit that shuts it

abbrev pub waiting : (command control mask : ℕ) → ℕ
waiting command control mask = restoring (config 0x04 command (config 0x43 control (table 12 mask (pending 0 0x01 good_image))))

abbrev pub msi_waiting : (command control mask : ℕ) → ℕ
msi_waiting command control mask = restoring (config 0x04 command (config 0x52 control (config 0x5c mask (set good_image 10 0x02))))

abbrev pub open_vectors : List (ℕ × ℕ)
open_vectors =
    (22, waiting 0x04 0x80 0x00)
    ∷ (0, waiting 0x00 0x80 0x00)
    ∷ (0, waiting 0x04 0x00 0x00)
    ∷ (0, waiting 0x04 0xc0 0x00)
    ∷ (0, waiting 0x04 0x80 0x01)
    ∷ (22, msi_waiting 0x04 0x13 0x00)
    ∷ (0, msi_waiting 0x00 0x13 0x00)
    ∷ (0, msi_waiting 0x04 0x12 0x00)
    ∷ (0, msi_waiting 0x04 0x03 0x00)
    ∷ (0, msi_waiting 0x04 0x13 0x02)
    ∷ []

abbrev pub restores : List (ℕ × ℕ)
restores = orders ++ damaged ++ later_entries ++ open_vectors
