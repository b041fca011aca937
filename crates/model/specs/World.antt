-- What a call works on: a function with its parts of the lent buffers, and the card. Assumes nothing.
use Rattle.std.specs.Prelude.{Bool, false, List, ℕ, replicate}
use Rattle.model.specs.declared.Function.{Function}
use Rattle.model.specs.declared.Card.{Card}

-- the registers that say who is open: the 256 configuration bytes and the MSI-X table
pub record Registers : Type 0 where
  pub config : List ℕ
  pub table : List ℕ

-- one function with its MSI-X table and its pending array, which are lent at each call
pub record Endpoint : Type 0 where
  pub function : Function
  pub table : List ℕ
  pub pending : List ℕ

-- the card: its function, and the wire, which belongs to the card
pub record World : Type 0 where
  pub endpoint : Endpoint
  pub wire : Bool

abbrev pub registers : Endpoint → Registers
registers u = record { config = u.function.config; table = u.table }

-- the world of a card and the two lent buffers, and its card
abbrev pub world_of : Card → List ℕ → List ℕ → World
world_of c table pending = record { endpoint = record { function = c.function; table = table; pending = pending }; wire = c.wire }

abbrev pub card_of : World → Card
card_of w = record { function = w.endpoint.function; wire = w.wire }

-- ---- records built anew

abbrev pub function_of : List ℕ → List ℕ → ℕ → ℕ → Bool → ℕ → Function
function_of config sizes events requester line waiting =
    record { config = config; sizes = sizes; events = events; requester = requester; line = line; waiting = waiting }

abbrev pub endpoint_of : Function → List ℕ → List ℕ → Endpoint
endpoint_of f table pending = record { function = f; table = table; pending = pending }

abbrev pub with_registers : Endpoint → Registers → Endpoint
with_registers u r =
    let f : Function = u.function in
    endpoint_of (function_of r.config f.sizes f.events f.requester f.line f.waiting) r.table u.pending

abbrev pub with_line : Endpoint → Bool → Endpoint
with_line u level =
    let f : Function = u.function in
    endpoint_of (function_of f.config f.sizes f.events f.requester level f.waiting) u.table u.pending

abbrev pub with_waiting : Endpoint → ℕ → List ℕ → Endpoint
with_waiting u waiting pending =
    let f : Function = u.function in
    endpoint_of (function_of f.config f.sizes f.events f.requester f.line waiting) u.table pending

-- the function of a card whose fields are all 0
abbrev pub zero_function : Function
zero_function = function_of (replicate 256 0) (replicate 6 0) 0 0 false 0
