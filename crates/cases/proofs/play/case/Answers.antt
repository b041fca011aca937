use mathlib.Core.Path.{ap, ◌∙◌}
use mathlib.Core.List.{List}
use Prim.Native.Nat.{ℕ, ◌+◌, ◌-◌, ◌*◌}
use native.Mathlib.Omega.{arith}
use lib.ListN.{take, drop}
use Rattle.model.specs.Play.{Step, Played, played_all, all_pass}
use Rattle.model.proofs.Calls.PlayLaws.{played-none, played_both, passes-played, case_passes, bench_pass}
use Rattle.cases.specs.declared.row.Row.{Row}
use Rattle.cases.specs.Rows.{row_of}
use Rattle.cases.specs.Steps.{row_steps, case_steps, row_count, case_count}
use Rattle.cases.specs.Runs.{seen}
use Rattle.cases.proofs.RunLaws.{next_row, no_row}
use Rattle.cases.proofs.play.case.Goals as goal

pub loop-i-init : goal.loop-i-init
loop-i-init g c =
    let table = c.bench-table.result in
    ap (λ (p : Played). played_all p (case_steps c.args.number table.bytes row_count table.rows)) c.new-run.ensures

pub loop-i-preserved : goal.loop-i-preserved
loop-i-preserved g c =
    let n = c.args.number in
    let rows = c.bench-table.result.rows in
    let bytes = c.bench-table.result.bytes in
    let run = c.loop-i.run in
    let i = c.loop-i.i in
    let rest = case_steps n bytes (row_count - (i + 1)) (drop (45 * (i + 1)) rows) in
    let first = c.play_row-run.ensures ∙ ap (λ (r : Row). played_all (seen run) (row_steps n bytes r)) c.row_at-row.ensures in
    ap (λ (p : Played). played_all p rest) first ∙ played_both (seen run) (row_steps n bytes (row_of (take 45 (drop (45 * i) rows)))) rest
    ∙ ap (λ (l : List Step). played_all (seen run) l) (next_row n bytes row_count rows i c.loop-i-test.true) ∙ c.loop-i.invariant

pub returns : goal.returns
returns g c =
    let n = c.args.number in
    let rows = c.bench-table.result.rows in
    let bytes = c.bench-table.result.bytes in
    let run = c.loop-i.run in
    let all = played-none (seen run) ∙ ap (λ (l : List Step). played_all (seen run) l) (no_row n bytes row_count _ c.loop-i.i c.loop-i-test.false) ∙ c.loop-i.invariant in
    λ low high.
    ap (λ (p : Played). p.good) all ∙ passes-played (case_steps n bytes row_count rows)
    ∙ case_passes (λ (k : ℕ). case_steps k bytes row_count rows) 1 case_count (ap all_pass c.bench-table.ensures ∙ bench_pass) n low (omega arith)
