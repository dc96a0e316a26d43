-- `field_writer::put_line` meets its contract. The loop's invariant: the fields of the numbers passed stand over the front of the output.
-- Assumes nothing.
use Rattle.std.proofs.Common.{◌≡◌, length, take}
use Rattle.columns.specs.Lines.{fields, over}
use Rattle.field_writer.proofs.put_line.Given as goal

abbrev pub invariant-loop-i : goal.invariant-loop-i
invariant-loop-i l = (length l.out ≡ length l.initial.out) × (l.out ≡ over (fields (take l.i l.numbers)) l.initial.out)
