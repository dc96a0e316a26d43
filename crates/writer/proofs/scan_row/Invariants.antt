-- The invariant of the loop in `writer::scan_row`: the scan goes on from the fact reached, and `last` is the fact before it.
-- Assumes nothing.
use Rattle.std.proofs.Common.{◌≡◌, ◌-◌}
use Rattle.table.specs.Scans.{scan}
use Rattle.table.specs.Judged.{last_before}
use Rattle.table.specs.Tables.{row_fact, row_verdict, row_scan}
use Rattle.writer.proofs.scan_row.Given as goal

abbrev pub invariant-loop-i : goal.invariant-loop-i
invariant-loop-i l = record {
  scans : row_scan l.row ≡ scan (row_verdict l.row) l.i-counter (l.n - l.i-counter);
  before : l.last ≡ last_before (row_fact l.row) l.i-counter;
}
