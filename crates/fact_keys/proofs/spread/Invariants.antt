-- The invariant of the loop in `fact_keys::spread`: the numbers of the facts of the keys passed stand over the front of the row.
-- Assumes nothing.
use Rattle.std.proofs.Common.{◌≡◌, map, take}
use Rattle.columns.specs.Lines.{over}
use Rattle.table.specs.Tables.{row_of}
use Rattle.gathering.specs.Keys.{fact_of_key}
use Rattle.fact_keys.proofs.spread.Given as goal

abbrev pub invariant-loop-i : goal.invariant-loop-i
invariant-loop-i l = l.row ≡ over (row_of (map fact_of_key (take l.i l.keys))) l.fn.row
