-- `search_back::trace` meets its contract. The loop's invariant, `Reading`: from the place i on, the chosen path is written, and what is left of it
-- leads to the place j; the places of the layers up to i are queued below `top`.
-- Assumes nothing.
use Rattle.std.proofs.Common.{length}
use Rattle.question.specs.State.{Met}
use Rattle.question.specs.Trace.{Queued}
use Rattle.question.proofs.Back.{Reading}
use Rattle.search_back.proofs.trace.Given as goal

abbrev pub invariant-loop-i : goal.invariant-loop-i
invariant-loop-i l =
    Queued (length l.sought.facts.now) l.s.mark l.s.queue l.i l.top × ((m : Met l.sought.facts.now l.sought.way l.sought.asked l.f l.s) → Reading l.sought.facts.now l.sought.way l.sought.asked l.f l.s m l.fn.path l.i l.j l.path)
