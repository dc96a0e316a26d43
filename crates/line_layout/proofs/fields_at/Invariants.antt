-- The invariant of the loop in `line_layout::fields_at`: what the fields passed say stands over the front of the array.
-- Assumes nothing.
use Rattle.std.proofs.Common.{◌≡◌, ◌+◌, ◌*◌, ◌++◌, drop, replicate, None}
use Rattle.columns.specs.Fields.{field_read}
use Rattle.columns.specs.Lines.{items_from}
use Rattle.line_layout.proofs.fields_at.Given as goal

abbrev pub invariant-loop-k : goal.invariant-loop-k
invariant-loop-k g l = l.field-items ≡ items_from (λ j. field_read l.s (l.at + 5 * j)) 0 l.k ++ drop l.k (replicate g.row.N None)
