-- Every answer but a refusal with 6 has a record. Assumes nothing.
use mathlib.Core.Path.{sym, ap, ◌∙◌}
use mathlib.Core.List.{List}
use Prim.Native.Nat.{ℕ}
use Rattle.call_log.specs.Recorder.{appended}
use Rattle.call_log.proofs.FormatLaws.{append-none, kept_is, six_is}
use Rattle.call_log.proofs.recorder.record.Goals as goal

pub returns-then-lacks_room : goal.returns-then-lacks_room
returns-then-lacks_room c =
    let a = c.args in
    append-none a.out.now
    ∙ ap (λ (b : List ℕ). appended b a.out.now) (six_is a.call a.answer (sym c.lacks_room.ensures ∙ c.if-lacks_room.true))

pub returns : goal.returns
returns c =
    let a = c.args in
    c.put_record.ensures
    ∙ ap (λ (b : List ℕ). appended b a.out.now) (kept_is a.call a.answer (sym c.lacks_room.ensures ∙ c.if-lacks_room.false))
