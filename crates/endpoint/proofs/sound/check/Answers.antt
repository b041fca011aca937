-- A start refuses, or the rest is checked with what the configuration says. Assumes nothing.
use mathlib.Core.Path.{sym, ap, ◌∙◌}
use Rattle.model.specs.Refusals.{refusal_in}
use Rattle.model.specs.World.{function_of, endpoint_of}
use Rattle.vectors.specs.Given.{Profiled}
use Rattle.endpoint.proofs.CleanLaws.{start_fit, start_bounds, bad_start, with-shape, verdict}
use Rattle.model.proofs.RefusalLaws.{not_zero}
use Rattle.endpoint.proofs.sound.check.Goals as goal

pub returns-in_default : goal.returns-in_default
returns-in_default c =
    let start = c.check_start-start.ensures in
    λ line. (
      sym (bad_start _ (endpoint_of (function_of _ _ _ _ line _) c.args.table.now c.args.pending.now) _ (sym (ap refusal_in c.in_default.is) ∙ start.refusal) (not_zero c.in_default.field-0)),
      start.checked.0,
    )

pub mode-mode-requires : goal.mode-mode-requires
mode-mode-requires c =
    let start = c.check_start-start.ensures in
    (start_fit _ (endpoint_of c.args.f.now c.args.table.now c.args.pending.now) start.checked.0 (sym start.refusal ∙ ap refusal_in c.in-Ok.is)).shape

pub is_clean-requires : goal.is_clean-requires
is_clean-requires c =
    let start = c.check_start-start.ensures in
    let accepted = sym start.refusal ∙ ap refusal_in c.in-Ok.is in
    let u = endpoint_of c.args.f.now c.args.table.now c.args.pending.now in
    let fit = start_fit _ u start.checked.0 accepted in
    (start_bounds _ u start.checked.0 accepted, fit, record { fits = fit.shape; form = start.checked.2; mode = λ t. sym (c.mode-mode.ensures t) })

pub returns : goal.returns
returns c =
    let start = c.check_start-start.ensures in
    let accepted = sym start.refusal ∙ ap refusal_in c.in-Ok.is in
    let f = c.args.f.now in
    let u = endpoint_of f c.args.table.now c.args.pending.now in
    let fit = start_fit _ u start.checked.0 accepted in
    let profiled : Profiled f.config _ = record { fits = fit.shape; form = start.checked.2; mode = λ t. sym (c.mode-mode.ensures t) } in
    λ line.
    rw c.profile_or_shape.ensures
    (verdict (function_of _ _ _ _ line _) _ _ _ start.checked.0 profiled _
    (with-shape _ _ (endpoint_of (function_of _ _ _ _ line _) c.args.table.now c.args.pending.now) _ start.checked.0
    (c.is_clean.ensures f.sizes f.events f.requester line accepted)))
