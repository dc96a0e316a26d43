-- `checker_refusals::Derivation::scan_layout` meets its contract. The loop's invariant: the scan goes on from the line reached.
-- Assumes nothing.
use mathlib.Core.Path.{◌≡◌}
use Prim.Native.Nat.{◌-◌}
use Rattle.table.specs.Scans.{scan}
use Rattle.acceptance.specs.Check.{form_verdict}
use Rattle.checker_refusals.proofs.Derivation.scan_layout.Given as goal

abbrev pub invariant-loop-i : goal.invariant-loop-i
invariant-loop-i l = scan (form_verdict l.self.bytes.now) l.from (l.self.lines - l.from) ≡ scan (form_verdict l.self.bytes.now) l.i (l.self.lines - l.i)
