-- `digit_reader::number_at` meets its contract. The loop's invariant: the number so far is that of the columns passed, joined from the left.
-- Assumes nothing.
use Rattle.std.proofs.Common.{◌≡◌, ap, ◌∙◌, length, take, drop, arith}
use Rattle.std.proofs.lemmas.List.{take_all}
use Rattle.columns.proofs.Columns.{field_bytes, number-joined}
use Rattle.digit_reader.proofs.number_at.Goals as goal

pub returns : goal.returns
returns c =
    let s = c.args.s.now in
    let at = c.args.at in
    let e : length (take 5 (drop at s)) ≡ 5 = ap length (field_bytes s at c.requires) in
    c.loop-b.invariant ∙ rw (take_all c.loop-b.b-index (take 5 (drop at s)) (omega arith)) (number-joined s at c.requires)
