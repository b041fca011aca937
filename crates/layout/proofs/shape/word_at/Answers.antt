-- `word_at` meets its contract: a word at a multiple of 4 lies whole inside the configuration, or whole past its end. Assumes nothing.
use mathlib.Core.Path.{sym}
use native.Mathlib.Omega.{arith}
use Rattle.words.proofs.ByteLaws.{word_past}
use Rattle.layout.proofs.shape.word_at.Goals as goal

pub returns-else-at-le256 : goal.returns-else-at-le256
returns-else-at-le256 c =
    let a = c.args in
    let n = c.told-c in
    sym (word_past a.c.now a.at (omega arith))
