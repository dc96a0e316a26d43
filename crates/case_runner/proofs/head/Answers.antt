-- `case_runner::head` meets its contract: where there are bytes enough, a line is read.
-- Assumes nothing.
use Rattle.std.proofs.Common.{refl, ◌∙◌}
use borrow.Author.Tests.{le-leb}
use Rattle.columns.specs.Lines.{numbers_read}
use Rattle.case_runner.proofs.head.Goals as goal

pub returns : goal.returns
unfolding numbers_read
returns g c = c.numbers_at.ensures ∙ rw (le-leb _ _ c.if-bytes.false) refl
