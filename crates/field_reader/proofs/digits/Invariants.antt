-- `field_reader::digits` meets its contract. The loop's invariant: what was read goes on with the digits left, and is small enough for them.
-- Assumes nothing.
use Rattle.std.proofs.Common.{◌≡◌, ◌-◌, ◌<◌, length, drop, fold, Some}
use Rattle.columns.specs.Columns.{digit_more, digits}
use Rattle.columns.proofs.Columns.{room}
use Rattle.field_reader.proofs.digits.Given as goal

abbrev pub invariant-loop-b : goal.invariant-loop-b
invariant-loop-b l = record { read : fold digit_more (Some l.n) (drop l.b-index l.more) ≡ digits l.first l.more; small : l.n < room (length l.more - l.b-index) }
