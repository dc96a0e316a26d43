-- `gaps::question_fault` meets its contract: where 3 and 4 are not earned, it is what is earned with a name in the gap.
-- Assumes nothing.
use mathlib.Core.Path.{sym, ap, ◌∙◌}
use Rattle.facts.specs.Facts.{fault_of}
use Rattle.facts.proofs.Gaps.{fault-filled}
use Rattle.gaps.proofs.question_fault.Goals as goal

pub returns : goal.returns
returns c =
    c.fault.ensures ∙ ap fault_of c.filled_by.ensures
    ∙ fault-filled _ (sym c.has_no_term.ensures ∙ c.if-has_no_term.false)
    (sym c.is_blank_refused.ensures ∙ c.if-is_blank_refused.false)
