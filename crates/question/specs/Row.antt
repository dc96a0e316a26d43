-- The facts of a table that are searched, and the parts of them that have one subject.
-- Assumes nothing.
use Rattle.std.specs.Prelude.{Bool, true, ◌||◌, Option, None, Some, List, ℕ, suc, ◌≤◌, ◌<◌, length, T, leb}
use Rattle.facts.specs.declared.Fact.{Fact}
use Rattle.facts.specs.Facts.{before}
use Rattle.rules.specs.Chosen.{fact_in}
use Rattle.rules.specs.Paths.{link}

-- the subject of the fact at a place
abbrev pub subject_at : List Fact → ℕ → ℕ
subject_at facts i = (fact_in facts i).subject

-- at most 1,024 facts, strictly ascending
pub record Sorted (facts : List Fact) : Type 0 where
  pub few : length facts ≤ 1024
  pub ascends : (i : ℕ) → suc i < length facts → T (before (fact_in facts i) (fact_in facts (suc i)))

-- at most 1,024 facts, whose subjects never fall
pub record Rising (facts : List Fact) : Type 0 where
  pub few : length facts ≤ 1024
  pub rises : (i j : ℕ) → i ≤ j → j < length facts → subject_at facts i ≤ subject_at facts j

-- the facts below r have a subject below x, and the others have not
pub record Cut (facts : List Fact) (x r : ℕ) : Type 0 where
  pub within : r ≤ length facts
  pub below : (k : ℕ) → k < r → subject_at facts k < x
  pub above : (k : ℕ) → r ≤ k → k < length facts → x ≤ subject_at facts k

-- no fact stands at the place, or its subject is not below the term to which a leads
unfoldable pub may_come_before : List Fact → Fact → Option ℕ → Bool
unfolding link
may_come_before facts a None = true
may_come_before facts a (Some at) = leb (length facts) at || leb (link a) (subject_at facts at)
