-- The places of a path in the order in which its facts are printed.
-- Assumes nothing.
use Rattle.std.specs.Prelude.{◌≡◌, Bool, List, map, ℕ, ◌-◌, ◌*◌, ◌≤◌, ◌<◌, length, get_or, T, eqb}
use Rattle.facts.specs.declared.Fact.{Fact}
use Rattle.rules.specs.Chosen.{fact_in, print_places}
use Rattle.table.specs.Tables.{all_formed}

-- at least one place, and each has a fact
pub record Placed (facts : List Fact) (places : List ℕ) : Type 0 where
  pub some : 0 < length places
  pub inside : (k : ℕ) → k < length places → get_or places k 0 < length facts

-- the facts at the places
abbrev pub facts_at : List Fact → List ℕ → List Fact
facts_at facts places = map (fact_in facts) places

-- f places, at most 1,024, of well-formed facts, and memory for 2 f - 1 lines
pub record Printing (facts : List Fact) (places : List ℕ) (size : ℕ) : Type 0 where
  pub placed : Placed facts places
  pub few : length places ≤ 1024
  pub formed : T (all_formed facts)
  pub fits : 31 * (2 * length places - 1) ≤ size

-- the places are put in the order in which their facts are printed
abbrev pub InPrint : List Fact → List ℕ → List ℕ → Type 0
InPrint facts before after = after ≡ print_places (fact_in facts) before

-- the fact at the place is an sp fact
abbrev pub chained : List Fact → ℕ → Bool
chained facts i = eqb (fact_in facts i).predicate 2
