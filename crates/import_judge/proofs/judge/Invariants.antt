-- `import_judge::judge` meets its contract. The loop's invariant: what is held and the lines that are left come to what all lines come to.
-- Assumes nothing.
use mathlib.Core.Path.{◌≡◌}
use Prim.Native.Nat.{◌+◌, ◌≤◌}
use lib.ListN.{length}
use Rattle.std.specs.Iterator.Adapters.{enumerate_count, enumerate_source}
use Rattle.imports.specs.Lines.{lines_of}
use Rattle.imports.specs.Import.{judged}
use Rattle.imports.specs.Samples.{sample_fact}
use Rattle.imports.proofs.Judging.{onward}
use Rattle.import_judge.proofs.judge.Given as goal

abbrev pub invariant-loop-i : goal.invariant-loop-i
invariant-loop-i l =
    (goal.iterator-loop-i).can_next l.i-iterator × (goal.iterator-loop-i).is_finite l.i-iterator
    × (enumerate_count l.i-iterator + length (lines_of (enumerate_source l.i-iterator).rest.now) ≤ 65536)
    × (onward sample_fact l.held (enumerate_count l.i-iterator) (lines_of (enumerate_source l.i-iterator).rest.now) ≡ judged (lines_of l.input))
