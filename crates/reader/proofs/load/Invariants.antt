-- The invariant of the loop in `reader::load`: the scan goes on from the line reached, `last` is the fact before it, and the facts of the lines
-- passed stand over the front of the memory.
-- Assumes nothing.
use Rattle.std.proofs.Common.{◌≡◌, ◌-◌}
use Rattle.columns.specs.Lines.{items_from}
use Rattle.table.specs.Scans.{scan}
use Rattle.table.specs.Judged.{last_before}
use Rattle.table.specs.Tables.{over_facts, line_fact, line_verdict, table_scan}
use Rattle.reader.proofs.load.Given as goal

abbrev pub invariant-loop-i : goal.invariant-loop-i
invariant-loop-i l = record {
  scans : table_scan l.bytes ≡ scan (line_verdict l.bytes) l.i-counter (l.n - l.i-counter);
  before : l.last ≡ last_before (line_fact l.bytes) l.i-counter;
  put : l.facts ≡ over_facts (items_from (line_fact l.bytes) 0 l.i-counter) l.fn.facts;
}
