-- `search_limits::verdict` meets its contract: the triple's own refusal, then the limit's, then that of the output.
-- Assumes nothing.
use Rattle.std.proofs.Common.{◌≡◌, Err, ◌∙◌, rules}
use borrow.Author.Tests.{le-leb, lt-leb}
use Rattle.facts.specs.Facts.{or_else}
use Rattle.question.specs.Question.{needed, asked}
use Rattle.search_limits.proofs.verdict.Goals as goal

pub returns-in_err-question_fault : goal.returns-in_err-question_fault
unfolding asked or_else
returns-in_err-question_fault c =
    let r : c.from_residual.result ≡ Err c.in_err-question_fault.field-0.0 = search rules in
    r ∙ rw (← c.in_err-question_fault.ensures)

pub returns-then-limit-gt-LIMIT_MOST : goal.returns-then-limit-gt-LIMIT_MOST
unfolding asked or_else
returns-then-limit-gt-LIMIT_MOST c = rw (← c.in_ok-question_fault.ensures, lt-leb _ 1024 c.if-limit-gt-LIMIT_MOST.true)

pub returns-then-size-needed_for : goal.returns-then-size-needed_for
unfolding asked or_else
returns-then-size-needed_for c =
    rw (← c.in_ok-question_fault.ensures, le-leb _ 1024 c.if-limit-gt-LIMIT_MOST.false, lt-leb (needed _) _ (rw c.needed_for.ensures at c.if-size-needed_for.true))

pub returns : goal.returns
unfolding asked or_else
returns c = rw (← c.in_ok-question_fault.ensures, le-leb _ 1024 c.if-limit-gt-LIMIT_MOST.false, le-leb (needed _) _ (rw c.needed_for.ensures at c.if-size-needed_for.false))
