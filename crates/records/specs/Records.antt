-- What reading a table into lent fact records answers, and what they hold then (document 01, "Table layout").
-- Assumes nothing.
use Rattle.std.specs.Prelude.{◌≡◌, cond, List, ◌++◌, ℕ, length, drop, leb}
use Rattle.facts.specs.declared.Fact.{Fact}
use Rattle.facts.specs.declared.Refusal.TheVariants.{Short}
use Rattle.facts.specs.Results.{Answer, Done, Refused}
use Rattle.table.specs.Tables.{over_facts, Table, accepted, refused, table_of}

-- records written over the front of a list of them
abbrev pub over_records : List Fact → List Fact → List Fact
over_records = over_facts

-- the answer to a table that is put into m lent records: its refusal, or 8, or done
unfoldable pub settled_records : Table → ℕ → Answer
settled_records (accepted facts) m = cond (leb (length facts) m) (Done (length facts)) (Refused Short 0)
settled_records (refused r place) m = Refused r place

-- what the lent records then hold: the table's facts and what was behind them, or all as before
unfoldable pub filled_records : Table → List Fact → List Fact
filled_records (accepted facts) old = cond (leb (length facts) (length old)) (over_records facts old) old
filled_records (refused r place) old = old

-- reading into lent records, as equations: its answer, and the records afterwards
pub record TransfersRecords (b : List ℕ) (entry exit : List Fact) (a : Answer) : Type 0 where
  pub answer : a ≡ settled_records (table_of b) (length entry)
  pub memory : exit ≡ filled_records (table_of b) entry
