use mathlib.Core.Path.{sym, ap, ◌∙◌}
use Prim.Native.Nat.{ℕ, ◌≤◌}
use native.Mathlib.Omega.{arith}
use lib.ListN.{length}
use Rattle.words.specs.Bytes.{byte}
use Rattle.call_log.specs.Logs.{size_of}
use Rattle.call_log.specs.Players.{fits_later}
use Rattle.call_log.proofs.FormatLaws.{kind_room, sized, sizes}
use Rattle.call_log.proofs.WholeLaws.{whole_empty, whole_no_kind, whole_short, whole_is, whole_wrong, first_byte, first_size, other_level}
use Rattle.call_log.proofs.whole.whole_in.Goals as goal

pub returns-in_err-kind : goal.returns-in_err-kind
returns-in_err-kind c = c.from_residual.ensures ∙ whole_empty _ c.in_err-kind.ensures.value

pub returns-in_err-size : goal.returns-in_err-size
returns-in_err-size c =
    c.from_residual-in_err-size.ensures ∙ whole_no_kind _ (first_size _ _ c.in_ok-kind.ensures.value _ c.in_err-size.ensures)

pub returns-then-log-size : goal.returns-then-log-size
returns-then-log-size c =
    whole_short _ _ (first_size _ _ c.in_ok-kind.ensures.value _ c.in_ok-size.ensures) c.if-log-size.true

pub returns-then-kind : goal.returns-then-kind
returns-then-kind c =
    let first = first_byte _ _ c.in_ok-kind.ensures.value in
    whole_is _ _ (first_size _ _ c.in_ok-kind.ensures.value _ c.in_ok-size.ensures) c.if-log-size.false
    (other_level _ _ (λ e. c.if-kind.true (sym first ∙ e)))

pub bounds-log-1 : goal.bounds-log-1
bounds-log-1 c =
    let log = c.args.log.now in
    let size = sized (byte log 0) _ (first_size _ _ c.in_ok-kind.ensures.value _ c.in_ok-size.ensures) in
    let room : size_of (byte log 0) ≤ length log = omega (arith, size.0, c.if-log-size.false) in
    omega (arith, kind_room log room 2 (first_byte _ _ c.in_ok-kind.ensures.value ∙ c.if-kind.false), sizes.1)

pub returns-then-fits_later : goal.returns-then-fits_later
returns-then-fits_later c =
    let first = first_byte _ _ c.in_ok-kind.ensures.value in
    whole_is _ _ (first_size _ _ c.in_ok-kind.ensures.value _ c.in_ok-size.ensures) c.if-log-size.false
    (ap (λ (k : ℕ). fits_later k (byte c.args.log.now 1)) first ∙ sym c.fits_later.ensures ∙ c.if-fits_later.true)

pub returns : goal.returns
returns c =
    let first = first_byte _ _ c.in_ok-kind.ensures.value in
    whole_wrong _ (ap (λ (k : ℕ). fits_later k (byte c.args.log.now 1)) first ∙ sym c.fits_later.ensures ∙ c.if-fits_later.false)
