-- `input::is_zero_line` meets its contract: the sixteen bytes there are the zero line's.
-- Assumes nothing.
use Rattle.std.proofs.Common.{◌≡◌, ◌+◌, ◌-◌, Decides, arith, take, drop}
use Rattle.std.proofs.lemmas.Bool.Decides.{Decides-eqb, same_from_decides}
use Rattle.std.proofs.lemmas.Slice.Eq.{slice_eq-Decides}
use Rattle.columns.specs.Fields.{field, column}
use Rattle.columns.specs.Lines.{fields, line}
use Rattle.batch.specs.Whole.{zero_line}
use Rattle.batch.proofs.Whole.{zero-written, zero-read}
use Rattle.input.proofs.is_zero_line.Goals as goal

pub returns : goal.returns
unfolding line fields field column
returns c =
    let b = c.args.input.now in
    let at = c.args.at in
    let n : at + 16 - at ≡ 16 = omega arith in
    let same : Decides c.eq.result (take 16 (drop at b) ≡ zero_line) = slice_eq-Decides Decides-eqb _ _ _ (rw (n, c.as_slice.ensures) at c.eq.ensures) in
    same_from_decides _ _ same (zero-written b at c.requires, zero-read b at)
