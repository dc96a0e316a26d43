-- The invariant of the loop in `writer::put_lines`: the lines of the facts passed stand over the front of the output.
-- Assumes nothing.
use Rattle.std.proofs.Common.{◌≡◌}
use Rattle.columns.specs.Lines.{items_from, over}
use Rattle.table.specs.Tables.{table_bytes, row_fact}
use Rattle.writer.proofs.put_lines.Given as goal

abbrev pub invariant-loop-i : goal.invariant-loop-i
invariant-loop-i l = l.out ≡ over (table_bytes (items_from (row_fact l.row) 0 l.i)) l.fn.out
