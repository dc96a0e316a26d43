-- `case_runner::run_all`: so many cases were run, and what is left stands behind the last. Each case leaves fewer bytes.
-- Assumes nothing.
use Rattle.std.proofs.Common.{List, length}
use Rattle.case_runner.specs.Cases.{Case, Begins, Ran}
use Rattle.case_runner.proofs.run_all.Given as goal

abbrev pub invariant-loop-numbers : goal.invariant-loop-numbers
invariant-loop-numbers g l = (cs : List Case) × Ran (g.C.Cases.ran l.initial.cases) (g.C.Cases.ran l.cases) cs × Begins g.row.FIELDS g.C.Cases.behind cs l.initial.rest l.rest

abbrev pub decreases-loop-numbers : goal.decreases-loop-numbers
decreases-loop-numbers g l = length l.rest
