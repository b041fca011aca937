-- The sweep of one mechanism, and what the sender of owed vectors promises. Assumes nothing.
use Rattle.std.specs.Prelude.{◌≡◌, List, ℕ}
use Rattle.words.specs.Writers.{Wrote}
use Rattle.model.specs.World.{Endpoint, with_waiting}
use Rattle.endpoint.specs.declared.sweep.Sent.{Sent}

-- of a function u and an output o: the bytes are written, and the waiting bits are those of u'
pub record Swept (bytes : List ℕ) (u u' : Endpoint) (o : List ℕ) (r : Sent) (p' o' : List ℕ) : Type 0 where
  pub sent : Wrote bytes o r.count o'
  pub left : with_waiting u r.waiting p' ≡ u'
