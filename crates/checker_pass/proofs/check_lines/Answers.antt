-- `checker_pass::check_lines` meets its contract. The loop's invariant: the lines before the one reached are passed, and the facts on the last two
-- are at hand.
-- Assumes nothing.
use mathlib.Core.Path.{◌≡◌, sym, ◌∙◌}
use mathlib.Core.Bool.{cond}
use Prim.Native.Nat.{◌+◌}
use native.Mathlib.Omega.{arith}
use lib.Dec.{eqb}
use Rattle.std.proofs.lemmas.Bool.Decides.{nat_tests}
use Rattle.derivation.proofs.Bytes.{some-read, none-read}
use Rattle.acceptance.proofs.Pass.{behind-none, behind-more, pass-none, pass-end, form-refused, step-refused, pass-more}
use Rattle.checker_pass.proofs.check_lines.Goals as goal

pub loop-i-init : goal.loop-i-init
loop-i-init c = record { passed = pass-none _ _ _ _; behind = behind-none _ _ _ }

pub returns-in_default : goal.returns-in_default
returns-in_default c = rw c.on_line.ensures (form-refused _ _ _ _ c.loop-i.invariant.passed (omega arith) (none-read _ _ _ (sym c.read_line.ensures ∙ c.in_default.is)))

pub returns-then-not-justified : goal.returns-then-not-justified
returns-then-not-justified c =
    let read = some-read _ _ _ (sym c.read_line.ensures ∙ c.in-Ok.is) in
    c.refuse_step.ensures
    ∙ step-refused _ _ _ _ c.loop-i.invariant.passed (omega arith) read.0 (rw read.1 (sym c.is_justified-justified.ensures ∙ c.if-not-justified.true))

pub loop-i-preserved : goal.loop-i-preserved
loop-i-preserved c =
    let read = some-read _ _ _ (sym c.read_line.ensures ∙ c.in-Ok.is) in
    let counted : c.loop-i.count + c.from-count.result ≡ c.loop-i.count + cond (eqb c.in-Ok.l.rule 0) 1 0 = grind (arith, nat_tests) in
    record {
      passed = pass-more _ _ _ _ c.loop-i.invariant.passed (omega arith) read.0 (rw read.1 (sym c.is_justified-justified.ensures ∙ c.if-not-justified.false)) _ (rw read.1 counted);
      behind = behind-more c.loop-i.invariant.behind (omega arith) _ read.1;
    }

pub returns : goal.returns
returns c = c.check_end.ensures ∙ pass-end _ _ _ _ c.loop-i.invariant.passed c.loop-i.invariant.behind (omega arith) (omega arith)
