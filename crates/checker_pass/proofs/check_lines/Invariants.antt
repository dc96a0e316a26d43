-- `checker_pass::check_lines` meets its contract. The loop's invariant: the lines before the one reached are passed, and the facts on the last two
-- are at hand.
-- Assumes nothing.
use Rattle.acceptance.specs.Near.{Behind}
use Rattle.acceptance.proofs.Pass.{Passed}
use Rattle.checker_pass.proofs.check_lines.Given as goal

abbrev pub invariant-loop-i : goal.invariant-loop-i
invariant-loop-i l = record {
  passed : Passed l.table.facts.now l.fact l.derivation.bytes.now l.derivation.lines l.i l.count;
  behind : Behind l.derivation.bytes.now l.i l.last l.second_last;
}
