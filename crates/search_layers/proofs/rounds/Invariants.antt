-- `search_layers::rounds` meets its contract. The invariants of its three passes are `Outer`, `Middle` and `Inner` of Passes, with what is noted
-- as passed; a goal that is met ends the search with the least number of facts, and an empty frontier with none.
-- Assumes nothing.
use Rattle.std.proofs.Common.{◌≡◌, ◌-◌}
use Rattle.question.proofs.Parts.{Noted, Marked}
use Rattle.question.proofs.Passes.{Outer, Middle, Inner}
use Rattle.search_layers.proofs.rounds.Given as goal

abbrev pub invariant-loop-j : goal.invariant-loop-j
invariant-loop-j l = Inner l.sought.facts.now l.sought.way l.sought.asked l.layer l.s.from l.end l.q l.i l.part.from l.j l.s × Noted l.sought.facts.now l.sought.way (Marked l.s.mark) l.done × (l.s.from ≡ l.initial.s.from)

abbrev pub invariant-loop-q : goal.invariant-loop-q
invariant-loop-q l = Middle l.sought.facts.now l.sought.way l.sought.asked l.layer l.s.from l.end l.q l.s × Noted l.sought.facts.now l.sought.way (Marked l.s.mark) l.done × (l.s.from ≡ l.initial.s.from)

abbrev pub invariant-loop-s : goal.invariant-loop-s
invariant-loop-s l = Outer l.sought.facts.now l.sought.way l.sought.asked l.layer l.s × Noted l.sought.facts.now l.sought.way (Marked l.s.mark) l.done

abbrev pub decreases-loop-s : goal.decreases-loop-s
decreases-loop-s l = 1024 - l.s.from
