-- The invariant of the loop in `records::fill`: the records passed hold the facts of the row, and the others what they held.
-- Assumes nothing.
use Rattle.std.proofs.Common.{◌≡◌}
use Rattle.columns.specs.Lines.{items_from}
use Rattle.table.specs.Tables.{over_facts, row_fact}
use Rattle.records.proofs.fill.Given as goal

abbrev pub invariant-loop-i : goal.invariant-loop-i
invariant-loop-i l = l.facts ≡ over_facts (items_from (row_fact l.row) 0 l.i) l.fn.facts
