-- `faults::fault` meets its contract: the verdict on a fact with none before it.
-- Assumes nothing.
use mathlib.Core.Path.{◌∙◌}
use Rattle.facts.proofs.Facts.{verdict-alone}
use Rattle.faults.proofs.fault.Goals as goal

pub returns : goal.returns
returns c = c.verdict.ensures ∙ verdict-alone _
