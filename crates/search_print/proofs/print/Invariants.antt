-- `search_print::print` meets its contract. The loop's invariant: the derivation of the first k + 1 facts stands over the front of the output, and
-- c is its result, on line 2 k + 1.
-- Assumes nothing.
use Rattle.std.proofs.Common.{◌≡◌, List, ℕ, ◌+◌, get_or}
use Rattle.columns.specs.Lines.{Below, over}
use Rattle.facts.specs.declared.Fact.{Fact}
use Rattle.table.specs.Tables.{terms}
use Rattle.rules.specs.Chosen.{fact_in}
use Rattle.question.proofs.Printing.{bytes_of, result_at}
use Rattle.search_print.proofs.print.Given as goal

-- the fact at the place i
abbrev pub placed : List Fact → List ℕ → ℕ → Fact
placed facts path i = fact_in facts (get_or path i 0)

abbrev pub invariant-loop-k : goal.invariant-loop-k
invariant-loop-k l = record {
  written : l.out ≡ over (bytes_of (placed l.facts l.path) (l.k + 1)) l.fn.out;
  last : l.c ≡ result_at (placed l.facts l.path) (l.k + 1);
  below : Below (terms l.c);
}
