-- `case_runner::run_all` meets its contract: one case more was run behind those before.
-- Assumes nothing.
use Rattle.std.proofs.Common.{◌≡◌, [], ◌∷◌, ◌++◌, Some, rules}
use Rattle.case_runner.specs.Cases.{Case, next}
use Rattle.case_runner.proofs.Runs.{ran-more, begins-more, next-is}
use Rattle.case_runner.proofs.run_all.Goals as goal

pub loop-numbers-preserved : goal.loop-numbers-preserved
loop-numbers-preserved g c =
    let before = c.loop-numbers.invariant in
    let one : Case = (c.in-Some.numbers, c.in-Some-split_at_checked.bytes.now) in
    let s = c.loop-numbers.rest.now in
    let parts = c.in-Some-split_at_checked.ensures.cases in
    let case : next g.row.FIELDS g.C.Cases.behind s ≡ Some (one, c.in-Some-split_at_checked.next.now) =
    next-is g.row.FIELDS g.C.Cases.behind s c.in-Some.numbers c.in-Some-bytes_behind.size c.in-Some-split_at_checked.bytes.now c.in-Some-split_at_checked.next.now (search rules) (search rules) parts.0 parts.1 parts.2 in
    (before.0 ++ (one ∷ []), ran-more _ _ _ before.0 (one ∷ []) before.1 c.run.ensures, begins-more _ _ before.0 one _ s _ before.2 case)
