-- `line_parser::parse` meets its contract.
-- Assumes nothing.
use mathlib.Core.Path.{sym, ap, ◌∙◌}
use Rattle.ntriples.specs.Lexed.{ends, from_subject}
use Rattle.ntriples.proofs.Lines.{line-some}
use Rattle.line_parser.proofs.parse.Goals as goal

pub returns-else-is_end : goal.returns-else-is_end
returns-else-is_end c =
    let s = c.args.s.now in
    let e = c.run_end-at.ensures.value in
    c.statement.ensures ∙ ap (from_subject s) e ∙ line-some s (ap (ends s) (sym e) ∙ sym c.is_end.ensures ∙ c.if-is_end.false)
