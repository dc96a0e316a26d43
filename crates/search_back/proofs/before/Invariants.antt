-- `search_back::before` meets its contract: the queue is passed from `top` down, as far as it has places marked m.
-- Assumes nothing.
use Rattle.question.proofs.Steps.{Looking}
use Rattle.search_back.proofs.before.Given as goal

abbrev pub invariant-loop-q : goal.invariant-loop-q
invariant-loop-q l = Looking l.sought.facts.now l.sought.way l.s.mark l.s.queue l.m l.b l.top l.at l.q
