-- A write of the MSI-X table. Assumes nothing.
use Rattle.std.specs.Prelude.{List, ℕ}
use Rattle.model.specs.World.{World, Endpoint, with_registers}
use Rattle.model.specs.Registers.{entry_writable, written}

-- the function of a card, with bytes written at place `at` of its table
abbrev pub table_written : World → (at : ℕ) → List ℕ → Endpoint
table_written w at bytes =
    with_registers w.endpoint (record { config = w.endpoint.function.config; table = written entry_writable w.endpoint.table at bytes })
