-- The facts of an accepted table: in ascending order, so that a fact can be looked up among them.
-- Assumes nothing.
use mathlib.Core.Path.{◌≡◌}
use mathlib.Core.List.{List}
use Prim.Native.Nat.{ℕ}
use Rattle.facts.specs.declared.Fact.{Fact}
use Rattle.facts.proofs.Terms.{of_T}
use Rattle.table.specs.Tables.{ascending, table_of, accepted}
use Rattle.table.proofs.Tables.{table_of-accepted}
use Rattle.acceptance.specs.Holds.{Ascends}

pub loaded-ascends : (b : List ℕ) (facts : List Fact) → table_of b ≡ accepted facts → Ascends facts
loaded-ascends b facts is = of_T (ascending facts) ((table_of-accepted b facts).0 is).1.ascends
