-- `search_back::path_end` meets its contract: a path of one fact ends where it begins. Else from each place marked m its part of the facts
-- is passed, once, and the first goal that may follow is kept.
-- Assumes nothing.
use Rattle.question.proofs.Steps.{Ending}
use Rattle.search_back.proofs.path_end.Given as goal

abbrev pub invariant-loop-q : goal.invariant-loop-q
invariant-loop-q l = Ending l.sought.facts.now l.sought.way l.s.mark l.s.queue l.m l.sought.asked l.best l.done l.q
