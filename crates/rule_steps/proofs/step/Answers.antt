-- `rule_steps::step` meets its contract: a number that no row has is refused, and else its row decides.
-- Assumes nothing.
use Rattle.rules.proofs.Steps.{step-beyond, step_row}
use Rattle.rule_steps.proofs.step.Goals as goal

pub returns-in_default : goal.returns-in_default
returns-in_default c = step-beyond _ _ _ _ (rw c.in_default.is at c.row.ensures)

pub returns : goal.returns
returns c =
    let a = c.in-Some.ensures in
    rw (c.is_well_formed-3.ensures, c.is_well_formed-2.ensures, c.is_well_formed.ensures, c.fits.ensures, a.1) (step_row _ _ _ _ a.0)
