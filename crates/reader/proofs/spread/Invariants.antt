-- The invariant of the loop in `reader::spread`: the numbers of the facts passed stand over the front of the row.
-- Assumes nothing.
use Rattle.std.proofs.Common.{◌≡◌, take}
use Rattle.columns.specs.Lines.{over}
use Rattle.table.specs.Tables.{row_of}
use Rattle.reader.proofs.spread.Given as goal

abbrev pub invariant-loop-i : goal.invariant-loop-i
invariant-loop-i l = l.row ≡ over (row_of (take l.i l.facts)) l.fn.row
