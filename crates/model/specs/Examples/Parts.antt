-- What the worked examples are made of: rows of numbers, configurations, and groups of calls. Assumes nothing.
use Rattle.std.specs.Prelude.{Bool, true, ◌&&◌, List, [], ◌∷◌, ◌++◌, ℕ, zero, suc, ◌+◌, eqb, set, replicate}
use Rattle.words.specs.Lists.{join}
use Rattle.words.specs.Bytes.{bytes_of, word32}
use Rattle.model.specs.declared.Answer.TheVariants.{Refused, Done, Value}
use Rattle.model.specs.Calls.{Call, call, start, bar_read, bar_write}
use Rattle.model.specs.Play.{Step, lends, does, fresh}
use Rattle.model.specs.Cases.{list_from, capability, sizes_of, start_case, writes, reads_config}

-- ---- rows: the number that document 01 gives, and the number that the definitions give; they agree

abbrev pub agree : List (ℕ × ℕ) → Bool
agree [] = true
agree (r ∷ l) = eqb r.0 r.1 && agree l

-- ---- configurations

-- FFh in every byte that a start does not look at: header type 0, pin 2, a list whose first pointer is p
abbrev pub ones : (p : ℕ) → List ℕ
ones p = set (set (set (replicate 256 0xff) 0x0e 0x80) 0x34 p) 0x3d 2

-- the same without a list
abbrev pub ones_unlisted : List ℕ
ones_unlisted = set (ones 0xff) 0x06 0xef

-- ---- images of cards with requester 0100h

abbrev pub image_bytes : (flags events waiting : ℕ) (sizes config buffers : List ℕ) → List ℕ
image_bytes flags events waiting sizes config buffers =
    0x49 ∷ 0x52 ∷ 0x51 ∷ 1 ∷ 0 ∷ flags ∷ bytes_of 2 events ++ (0 ∷ 1 ∷ []) ++ bytes_of 4 waiting ++ join (bytes_of 4) sizes ++ config ++ buffers

-- ---- calls

-- buffers for n vectors, and an accepted start with this requester
abbrev pub starts_as : (requester : ℕ) (config sizes : List ℕ) (events n : ℕ) → List Step
starts_as requester config sizes events n = lends n ∷ does (start config sizes events requester) [] Done ∷ []

-- a refused call of a running card
abbrev pub refuses : ℕ → Call → Step
refuses n c = does (call c) [] (Refused n)

-- a BAR's bytes read, and written without a packet
abbrev pub reads : (bar offset width value : ℕ) → Step
reads b o n x = does (call (bar_read b o n)) [] (Value x)

abbrev pub puts : (bar offset width value : ℕ) → Step
puts b o n x = does (call (bar_write b o n x (fresh 64))) [] Done

-- the n words from offset o on: written with x each, and read as a page of 256 bytes has them
abbrev pub writes_words : (o n x : ℕ) → List Step
writes_words o zero x = []
writes_words o (suc n) x = writes o 4 x [] ∷ writes_words (o + 4) n x

abbrev pub reads_words : (o n : ℕ) → List ℕ → List Step
reads_words o zero page = []
reads_words o (suc n) page = reads_config o 4 (word32 page o) ∷ reads_words (o + 4) n page

-- ---- cards

-- MSI at 40h with this control register, for E events
abbrev pub form_case : (control events : ℕ) → List Step → List Step
form_case control events steps = start_case (capability 0x40 0x05 0 control (list_from 0x40)) (sizes_of 0 0) events 0 steps
