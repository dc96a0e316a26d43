-- `label_ends::tag_end` meets its contract: part by part.
-- Assumes nothing.
use Prim.Native.Nat.{◌-◌}
use lib.ListN.{length}
use Rattle.ntriples.proofs.Tags.{TagTo}
use Rattle.label_ends.proofs.tag_end.Given as goal

abbrev pub invariant-loop-end : goal.invariant-loop-end
invariant-loop-end l = TagTo l.s l.at l.end

abbrev pub decreases-loop-end : goal.decreases-loop-end
decreases-loop-end l = length l.s - l.end
