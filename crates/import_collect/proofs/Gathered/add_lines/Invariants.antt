-- The invariant of the loop in `import_collect::Gathered::add_lines`: the statements passed are gathered, with room for a fact more.
-- Assumes nothing.
use Prim.Native.Nat.{◌-◌}
use lib.ListN.{length}
use Rattle.imports.specs.Collecting.{Underway}
use Rattle.import_collect.specs.Gathered.{SameRows}
use Rattle.import_collect.proofs.Gathered.add_lines.Given as goal

abbrev pub invariant-loop-at : goal.invariant-loop-at
invariant-loop-at l =
    record {
      rows : SameRows l.fn.self l.self;
      underway : Underway l.self.index.now.input.now l.self.index.now.items.now l.self.index.now.counts l.self.keys.now.row.now l.self.keys.now.len l.at;
    }

abbrev pub decreases-loop-at : goal.decreases-loop-at
decreases-loop-at l = length l.self.index.now.input.now - l.at
