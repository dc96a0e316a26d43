-- The invariant of the loop in `line_layout::numbers_at`: the fields passed leave the rest of the line to be laid out, and stand over the front
-- of the array.
-- Assumes nothing.
use Rattle.std.proofs.Common.{◌≡◌, ◌+◌, ◌*◌, ◌++◌, drop, replicate}
use Rattle.columns.specs.Fields.{number_at}
use Rattle.columns.specs.Lines.{items_from}
use Rattle.columns.proofs.Torn.{Left}
use Rattle.line_layout.proofs.numbers_at.Given as goal

abbrev pub invariant-loop-k : goal.invariant-loop-k
invariant-loop-k g l = record {
  left : Left g.row.N l.s l.at l.k;
  read : l.number-items ≡ items_from (λ j. number_at l.s (l.at + 5 * j)) 0 l.k ++ drop l.k (replicate g.row.N 0);
}
