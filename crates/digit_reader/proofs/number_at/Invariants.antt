-- `digit_reader::number_at` meets its contract. The loop's invariant: the number so far is that of the columns passed, joined from the left.
-- Assumes nothing.
use Rattle.std.proofs.Common.{◌≡◌, drop, take, fold}
use Rattle.columns.specs.Fields.{joined}
use Rattle.digit_reader.proofs.number_at.Given as goal

abbrev pub invariant-loop-b : goal.invariant-loop-b
invariant-loop-b l = l.n ≡ fold joined 0 (take l.b-index (take 5 (drop l.at l.s)))
