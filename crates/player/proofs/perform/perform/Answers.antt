-- Each arm is the call of its kind, its outcome handed back. Assumes nothing.
use Rattle.call_log.specs.Logs.{call_of}
use Rattle.player.proofs.PerformLaws.{performed_by}
use Rattle.player.proofs.perform.perform.Goals as goal

pub returns-in-Event : goal.returns-in-Event
unfolding call_of
returns-in-Event c =
    performed_by _ _ _ _ _ _ c.in-Event.is _ c.card_of-held.ensures _ _ _ _ c.event-outcome.ensures _ _ _ c.finish.ensures

pub returns-in-Line : goal.returns-in-Line
unfolding call_of
returns-in-Line c =
    performed_by _ _ _ _ _ _ c.in-Line.is _ c.card_of-held-in-Line.ensures _ _ _ _ c.line-outcome.ensures _ _ _ c.finish-in-Line.ensures

pub returns-in-ConfigWrite : goal.returns-in-ConfigWrite
unfolding call_of
returns-in-ConfigWrite c =
    performed_by _ _ _ _ _ _ c.in-ConfigWrite.is _ c.card_of-held-in-ConfigWrite.ensures _ _ _ _ c.config_write-outcome.ensures _ _ _ c.finish-in-ConfigWrite.ensures

pub returns-in-BarWrite : goal.returns-in-BarWrite
unfolding call_of
returns-in-BarWrite c =
    performed_by _ _ _ _ _ _ c.in-BarWrite.is _ c.card_of-held-in-BarWrite.ensures _ _ _ _ c.bar_write-outcome.ensures _ _ _ c.finish-in-BarWrite.ensures

pub returns-in-Reset : goal.returns-in-Reset
unfolding call_of
returns-in-Reset c =
    performed_by _ _ _ _ _ _ c.in-Reset.is _ c.card_of-held-in-Reset.ensures _ _ _ _ c.reset-outcome.ensures _ _ _ c.finish-in-Reset.ensures
