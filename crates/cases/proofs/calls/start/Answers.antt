use mathlib.Core.Path.{ap, ◌∙◌}
use mathlib.Core.List.{List}
use Prim.Native.Nat.{ℕ}
use Rattle.model.specs.World.{endpoint_of, zero_function}
use Rattle.model.specs.Calls.{start_of, start_given}
use Rattle.model.specs.Cases.{sizes_of}
use Rattle.cases.proofs.calls.start.Goals as goal

pub returns : goal.returns
returns c =
    let args = c.args in
    let row = args.row in
    let u = endpoint_of zero_function args.table.now args.pending.now in
    c.start.ensures
    ∙ ap (λ (config : List ℕ). start_of u (start_given u config (sizes_of row.c row.a) row.b 0x100)) c.config_at-config.ensures
