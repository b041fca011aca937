-- The worked examples: for each number of document 01, and of requests [6] and [3], a case in which it shows, computed. docs/NUMBERS.md has the list.
-- Assumes nothing.
use lib.Dec.{T}
use Rattle.model.specs.Play.{all_pass}
use Rattle.model.specs.Examples.Parts.{agree}
use Rattle.model.specs.Examples.Numbers
use Rattle.model.specs.Examples.Starts
use Rattle.model.specs.Examples.Registers
use Rattle.model.specs.Examples.Messages
use Rattle.model.specs.Examples.Vectors
use Rattle.model.specs.Examples.Wires
use Rattle.model.specs.Examples.Refusals
use Rattle.model.specs.Examples.Images
use Rattle.model.specs.Examples.Restores
use Rattle.model.specs.Examples.Extended
use Rattle.model.specs.Examples.Withdrawals
use Rattle.model.proofs.Definitions.{definitions}

-- answers, a card's bytes, vectors, lengths of images
pub numbers : T (agree Numbers.numbers)
unfolding definitions
numbers = tt

-- the checks of a start
pub starts : T (agree Starts.starts)
unfolding definitions
starts = tt

-- writable and fixed bits, widths, what is shown and not stored
pub registers : T (all_pass Registers.registers)
unfolding definitions
registers = tt

-- the four forms of MSI, granted, table entries
pub messages : T (all_pass Messages.messages)
unfolding definitions
messages = tt

-- who is open
pub vectors : T (all_pass Vectors.vectors)
unfolding definitions
vectors = tt

-- the wire
pub wires : T (all_pass Wires.wires)
unfolding definitions
wires = tt

-- the refusals of a running card
pub refusals : T (all_pass Refusals.refusals)
unfolding definitions
refusals = tt

-- images, byte for byte
pub images : T (all_pass Images.images)
unfolding definitions
images = tt

-- the checks of a restore
pub restores : T (agree Restores.restores)
unfolding definitions
restores = tt

-- 32-bit MSI data
pub extended : T (all_pass Extended.extended)
unfolding definitions
extended = tt

-- withdrawals
pub withdrawals : T (all_pass Withdrawals.withdrawals)
unfolding definitions
withdrawals = tt

-- the lengths of a capability with 32-bit data
pub lengths : T (agree Extended.lengths)
unfolding definitions
lengths = tt
