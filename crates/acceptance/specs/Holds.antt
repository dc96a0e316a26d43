-- Facts in ascending order, in which a fact is looked up.
-- Assumes nothing.
use Rattle.std.specs.Prelude.{◌≡◌, true, List}
use Rattle.facts.specs.declared.Fact.{Fact}
use Rattle.table.specs.Tables.{ascending}

-- each fact comes before the next
abbrev pub Ascends : List Fact → Type 0
Ascends facts = ascending facts ≡ true
