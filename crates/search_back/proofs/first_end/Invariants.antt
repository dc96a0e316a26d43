-- `search_back::first_end` meets its contract: the part is passed from its front, up to the first goal that may follow or up to `best`.
-- Assumes nothing.
use Rattle.std.proofs.Common.{ℕ, ◌≤◌, ◌<◌, T}
use Rattle.rules.specs.Chosen.{fact_in}
use Rattle.rules.specs.Paths.{next, goal_for}
use Rattle.search_back.proofs.first_end.Given as goal

abbrev pub invariant-loop-j : goal.invariant-loop-j
invariant-loop-j l = (b : ℕ) → l.fn.p.from ≤ b → b < l.j-counter → T (next l.sought.way l.a (fact_in l.sought.facts.now b)) → T (goal_for l.sought.asked (fact_in l.sought.facts.now b)) → ⊥
