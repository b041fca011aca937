use Rattle.words.specs.Lists.{first_of}
use Rattle.call_log.specs.Logs.{size_of}
use Rattle.call_log.proofs.kind.Kind.size.Goals as goal

pub returns-in-Event : goal.returns-in-Event
unfolding size_of first_of
returns-in-Event c = rw c.in-Event.is

pub returns-in-Line : goal.returns-in-Line
unfolding size_of first_of
returns-in-Line c = rw c.in-Line.is

pub returns-in-ConfigWrite : goal.returns-in-ConfigWrite
unfolding size_of first_of
returns-in-ConfigWrite c = rw c.in-ConfigWrite.is

pub returns-in-BarWrite : goal.returns-in-BarWrite
unfolding size_of first_of
returns-in-BarWrite c = rw c.in-BarWrite.is

pub returns-in-Reset : goal.returns-in-Reset
unfolding size_of first_of
returns-in-Reset c = rw c.in-Reset.is
