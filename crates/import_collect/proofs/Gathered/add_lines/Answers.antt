-- `import_collect::Gathered::add_lines` meets its contract.
-- Assumes nothing.
use mathlib.Core.Path.{refl, ◌∙◌}
use native.Mathlib.Omega.{arith}
use Rattle.imports.proofs.Underway.{underway-begins, underway-more, underway-crowded, underway-ends}
use Rattle.import_collect.proofs.Gathered.add_lines.Goals as goal

pub loop-at-init : goal.loop-at-init
loop-at-init c = record { rows = (refl, refl, refl, refl, refl); underway = underway-begins _ _ _ _ _ c.requires.0 c.requires.1 }

pub returns-then-self-eq-CROWD-clause-collected : goal.returns-then-self-eq-CROWD-clause-collected
returns-then-self-eq-CROWD-clause-collected c =
    let u = c.loop-at.invariant.underway in
    let e = c.loop-at.invariant.rows.0 in
    rw (← e) (underway-crowded _ _ _ _ _ _ _ _ _ c.loop-at.at c.line_end-end.result u c.loop-at-test.true c.line_end-end.ensures.value (c.add_line.ensures.grows u.done u.gathers) c.if-self-eq-CROWD.true)

pub loop-at-preserved : goal.loop-at-preserved
loop-at-preserved c =
    let u = c.loop-at.invariant.underway in
    let r = c.loop-at.invariant.rows in
    let s = c.add_line.ensures.same_rows in
    record {
      rows = (s.0 ∙ r.0, s.1 ∙ r.1, s.2 ∙ r.2, s.3 ∙ r.3, s.4 ∙ r.4);
      underway =
          rw s.0
          (underway-more _ _ _ _ _ _ _ _ _ c.loop-at.at c.line_end-end.result u c.loop-at-test.true c.line_end-end.ensures.value (c.add_line.ensures.grows u.done u.gathers) c.add_line.new.self.places c.if-self-eq-CROWD.false);
    }

pub returns-clause-collected : goal.returns-clause-collected
returns-clause-collected c =
    let e = c.loop-at.invariant.rows.0 in
    rw (← e) (underway-ends _ _ _ _ _ c.loop-at.at c.loop-at.invariant.underway (omega arith))
