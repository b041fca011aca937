use borrow.Author.Rules.{rules}
use Rattle.call_log.proofs.FormatLaws.{append-short, append-wrote}
use Rattle.call_log.proofs.recorder.append.Goals as goal

pub returns-then-out-bytes : goal.returns-then-out-bytes
returns-then-out-bytes c = append-short _ _ _ c.if-out-bytes.true

pub returns : goal.returns
returns c =
    let a = c.args in
    append-wrote a.bytes.now a.out.now _ _ (search rules) c.put_slice.ensures
