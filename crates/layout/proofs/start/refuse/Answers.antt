-- `refuse` meets its contract: each test that fails leaves the rows after it, and the first that passes gives its number. Assumes nothing.
use mathlib.Core.Path.{sym, ap, ◌∙◌}
use Rattle.words.proofs.BoolLaws.{row-passes, row-refuses, no_row}
use Rattle.std.proofs.Common.{rules}
use Rattle.layout.proofs.Checks.{lost, twofold, broken-listed, requester-good, requester_bad, rows_are}
use Rattle.layout.proofs.start.refuse.Goals as goal

pub returns-then-bad_header : goal.returns-then-bad_header
returns-then-bad_header c =
    sym
    (rows_are _ c.args.listing c.args.s c.requires.0 c.requires.1
    ∙ row-refuses 10 _ (sym c.bad_header.ensures ∙ c.if-bad_header.true))

pub returns-in_default : goal.returns-in_default
returns-in_default c =
    sym
    (rows_are _ c.args.listing c.args.s c.requires.0 c.requires.1
    ∙ row-passes 10 _ (sym c.bad_header.ensures ∙ c.if-bad_header.false)
    ∙ row-refuses 11 _ (ap lost c.in_default.is))

pub returns-then-listed_twice : goal.returns-then-listed_twice
returns-then-listed_twice c =
    sym
    (rows_are _ c.args.listing c.args.s c.requires.0 c.requires.1
    ∙ row-passes 10 _ (sym c.bad_header.ensures ∙ c.if-bad_header.false)
    ∙ row-passes 11 _ (ap lost c.in-Some.is)
    ∙ row-refuses 12 _ (ap twofold c.in-Some.is ∙ sym c.listed_twice.ensures ∙ c.if-listed_twice.true))

pub bad_structures-requires : goal.bad_structures-requires
bad_structures-requires c = (sym (broken-listed _ c.args.listing c.requires.0) ∙ ap lost c.in-Some.is, c.requires.2, c.requires.3)

pub returns-then-bad_structures : goal.returns-then-bad_structures
returns-then-bad_structures c =
    sym
    (rows_are _ c.args.listing c.args.s c.requires.0 c.requires.1
    ∙ row-passes 10 _ (sym c.bad_header.ensures ∙ c.if-bad_header.false)
    ∙ row-passes 11 _ (ap lost c.in-Some.is)
    ∙ row-passes 12 _ (ap twofold c.in-Some.is ∙ sym c.listed_twice.ensures ∙ c.if-listed_twice.false)
    ∙ row-refuses 13 _ (sym c.bad_structures.ensures ∙ c.if-bad_structures.true))

pub returns-then-bad_regions : goal.returns-then-bad_regions
returns-then-bad_regions c =
    sym
    (rows_are _ c.args.listing c.args.s c.requires.0 c.requires.1
    ∙ row-passes 10 _ (sym c.bad_header.ensures ∙ c.if-bad_header.false)
    ∙ row-passes 11 _ (ap lost c.in-Some.is)
    ∙ row-passes 12 _ (ap twofold c.in-Some.is ∙ sym c.listed_twice.ensures ∙ c.if-listed_twice.false)
    ∙ row-passes 13 _ (sym c.bad_structures.ensures ∙ c.if-bad_structures.false)
    ∙ row-refuses 14 _ (sym c.bad_regions.ensures ∙ c.if-bad_regions.true))

pub returns-then-bad_events : goal.returns-then-bad_events
returns-then-bad_events c =
    sym
    (rows_are _ c.args.listing c.args.s c.requires.0 c.requires.1
    ∙ row-passes 10 _ (sym c.bad_header.ensures ∙ c.if-bad_header.false)
    ∙ row-passes 11 _ (ap lost c.in-Some.is)
    ∙ row-passes 12 _ (ap twofold c.in-Some.is ∙ sym c.listed_twice.ensures ∙ c.if-listed_twice.false)
    ∙ row-passes 13 _ (sym c.bad_structures.ensures ∙ c.if-bad_structures.false)
    ∙ row-passes 14 _ (sym c.bad_regions.ensures ∙ c.if-bad_regions.false)
    ∙ row-refuses 15 _ (sym c.bad_events.ensures ∙ c.if-bad_events.true))

pub returns-then-requester-ne0 : goal.returns-then-requester-ne0
returns-then-requester-ne0 c =
    sym
    (rows_are _ c.args.listing c.args.s c.requires.0 c.requires.1
    ∙ row-passes 10 _ (sym c.bad_header.ensures ∙ c.if-bad_header.false)
    ∙ row-passes 11 _ (ap lost c.in-Some.is)
    ∙ row-passes 12 _ (ap twofold c.in-Some.is ∙ sym c.listed_twice.ensures ∙ c.if-listed_twice.false)
    ∙ row-passes 13 _ (sym c.bad_structures.ensures ∙ c.if-bad_structures.false)
    ∙ row-passes 14 _ (sym c.bad_regions.ensures ∙ c.if-bad_regions.false)
    ∙ row-passes 15 _ (sym c.bad_events.ensures ∙ c.if-bad_events.false)
    ∙ row-refuses 16 _ (requester_bad _ c.if-requester-ne0.true))

pub returns-then-bad_buffers : goal.returns-then-bad_buffers
returns-then-bad_buffers c =
    sym
    (rows_are _ c.args.listing c.args.s c.requires.0 c.requires.1
    ∙ row-passes 10 _ (sym c.bad_header.ensures ∙ c.if-bad_header.false)
    ∙ row-passes 11 _ (ap lost c.in-Some.is)
    ∙ row-passes 12 _ (ap twofold c.in-Some.is ∙ sym c.listed_twice.ensures ∙ c.if-listed_twice.false)
    ∙ row-passes 13 _ (sym c.bad_structures.ensures ∙ c.if-bad_structures.false)
    ∙ row-passes 14 _ (sym c.bad_regions.ensures ∙ c.if-bad_regions.false)
    ∙ row-passes 15 _ (sym c.bad_events.ensures ∙ c.if-bad_events.false)
    ∙ row-passes 16 _ (requester-good _ (search rules) c.if-requester-ne0.false)
    ∙ row-refuses 17 _ (sym c.bad_buffers.ensures ∙ c.if-bad_buffers.true))

pub returns : goal.returns
returns c =
    sym
    (rows_are _ c.args.listing c.args.s c.requires.0 c.requires.1
    ∙ row-passes 10 _ (sym c.bad_header.ensures ∙ c.if-bad_header.false)
    ∙ row-passes 11 _ (ap lost c.in-Some.is)
    ∙ row-passes 12 _ (ap twofold c.in-Some.is ∙ sym c.listed_twice.ensures ∙ c.if-listed_twice.false)
    ∙ row-passes 13 _ (sym c.bad_structures.ensures ∙ c.if-bad_structures.false)
    ∙ row-passes 14 _ (sym c.bad_regions.ensures ∙ c.if-bad_regions.false)
    ∙ row-passes 15 _ (sym c.bad_events.ensures ∙ c.if-bad_events.false)
    ∙ row-passes 16 _ (requester-good _ (search rules) c.if-requester-ne0.false)
    ∙ row-passes 17 _ (sym c.bad_buffers.ensures ∙ c.if-bad_buffers.false)
    ∙ no_row)
