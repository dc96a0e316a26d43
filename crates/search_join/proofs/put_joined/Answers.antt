-- `search_join::put_joined` meets its contract: the second line is written into the part behind the first.
-- Assumes nothing.
use mathlib.Core.Path.{sym, ap, ◌∙◌}
use native.Mathlib.Omega.{arith}
use Rattle.columns.proofs.Lines.{line-length}
use Rattle.columns.proofs.Parts.{part-more}
use Rattle.rules.specs.Derivations.{derivation_line}
use Rattle.rules.specs.Printed.{join}
use Rattle.derivation.specs.Bytes.{line_numbers, line_bytes}
use mathlib.Core.List.{List}
use Prim.Native.Nat.{ℕ}
use lib.ListN.{length-take, length-drop}
use Rattle.columns.specs.Lines.{over}
use Rattle.question.proofs.Printing.{two-lines, join-below}
use Rattle.search_join.proofs.put_joined.Goals as goal

pub put_line-requires-2 : goal.put_line-requires-2
put_line-requires-2 c =
    rw c.join_line-second.ensures (simp (length-take, length-drop) (omega arith), join-below c.args.c c.args.i c.args.f c.requires.0 c.requires.2 c.requires.3)

pub returns-clause-lines : goal.returns-clause-lines
returns-clause-lines c =
    let a = c.args in
    let p = c.put_line in
    let q = c.put_line-2 in
    let first = line_bytes (derivation_line 0 0 0 a.f) in
    let second = line_bytes (join a.c a.i a.f) in
    part-more p.new.out first second a.out.now q.new.out 31 (p.ensures ∙ rw c.table_line-first.ensures) p.auto.out (line-length (line_numbers (derivation_line 0 0 0 a.f)))
    (rw line-length (omega (arith, c.requires.1))) (q.ensures ∙ rw c.join_line-second.ensures)
    ∙ ap (λ (l : List ℕ). over l a.out.now) (sym (two-lines (derivation_line 0 0 0 a.f) (join a.c a.i a.f)))
