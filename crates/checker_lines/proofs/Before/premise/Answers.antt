-- `checker_lines::Before::premise` meets its contract: the last two facts are at hand, and the others are read.
-- Assumes nothing.
use native.Mathlib.Omega.{arith}
use mathlib.Core.Path.{◌≡◌, ap}
use Rattle.std.specs.Prelude.{Some}
use Rattle.acceptance.proofs.Lines.{fact_on-zero, fact-near, fact-missing}
use Rattle.checker_lines.proofs.Before.premise.Goals as goal

pub returns-in_err-place : goal.returns-in_err-place
returns-in_err-place c = let e : c.args.k ≡ 0 = omega arith in rw (c.from_residual.ensures, e) (fact_on-zero _)

pub returns-in-0 : goal.returns-in-0
returns-in-0 c = fact-missing _ _ _ (omega arith)

pub returns-in-1 : goal.returns-in-1
returns-in-1 c = fact-near _ _ _ _ _ (c.args.self.behind.last (omega arith)) (omega arith) (omega arith)

pub returns-in-2 : goal.returns-in-2
returns-in-2 c = fact-near _ _ _ _ _ (c.args.self.behind.before (omega arith)) (omega arith) (omega arith)

pub returns-in_default : goal.returns-in_default
returns-in_default c = fact-near _ _ _ c.in_ok-place.place _ (ap Some c.fact_at.ensures) (omega arith) (omega arith)
