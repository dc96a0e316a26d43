-- `table_lines::line_fact` meets its contract: the three numbers of a line are its fact.
-- Assumes nothing.
use Rattle.std.proofs.Common.{sym, ◌∙◌}
use Rattle.table.proofs.LineRead.{numbers-none, numbers-some}
use Rattle.table_lines.proofs.line_fact.Goals as goal

pub returns-in_err-subject : goal.returns-in_err-subject
returns-in_err-subject c = c.from_residual.ensures ∙ sym (numbers-none c.args.bytes.now c.args.i c.in_err-subject.ensures)

pub returns : goal.returns
returns c = sym (numbers-some c.args.bytes.now c.args.i c.in_ok-subject.field-0 c.in_ok-subject.ensures)
