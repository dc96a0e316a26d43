-- `search_layers::seed` meets its contract: each start is marked and queued in the layer 1, up to one that is a goal.
-- Assumes nothing.
use Rattle.question.proofs.Marks.{Seeding}
use Rattle.search_layers.proofs.seed.Given as goal

abbrev pub invariant-loop-j : goal.invariant-loop-j
invariant-loop-j l = Seeding l.sought.facts.now l.sought.way l.sought.asked l.j l.s
