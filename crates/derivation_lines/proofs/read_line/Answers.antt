-- `derivation_lines::read_line` meets its contract: the six numbers of a line are what it says, and of a torn one its fields stand by themselves.
-- Assumes nothing.
use Rattle.std.proofs.Common.{sym, ◌∙◌}
use Rattle.derivation.proofs.Bytes.{numbers-none, numbers-some}
use Rattle.derivation_lines.proofs.read_line.Goals as goal

pub returns-in_default : goal.returns-in_default
returns-in_default c = rw c.fields_at.ensures (sym (numbers-none c.args.bytes.now c.args.i (sym c.in_default.is ∙ c.numbers_at.ensures)))

pub returns : goal.returns
returns c = sym (numbers-some c.args.bytes.now c.args.i c.in-Some.numbers (sym c.in-Some.is ∙ c.numbers_at.ensures))
