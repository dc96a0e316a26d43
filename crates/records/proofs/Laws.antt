-- Laws of facts put into lent records: what a reading answers and leaves.
-- Assumes nothing.
use Rattle.std.proofs.Common.{◌≡◌, List, ℕ, ◌≤◌, ◌<◌, length}
use borrow.Author.Tests.{lt-leb, le-leb}
use Rattle.facts.specs.declared.Fact.{Fact}
use Rattle.facts.specs.declared.Refusal.{Refusal}
use Rattle.facts.specs.declared.Refusal.TheVariants.{Short}
use Rattle.facts.specs.Results.{Done, Refused}
use Rattle.table.specs.Tables.{Table, accepted, refused}
use Rattle.records.specs.Records.{over_records, settled_records, filled_records}

module _ (t : Table) (old : List Fact) where
  pub settle-refused : (r : Refusal) (place : ℕ) → t ≡ refused r place → (settled_records t (length old) ≡ Refused r place) × (filled_records t old ≡ old)
  unfolding settled_records filled_records
  settle-refused r place e = (rw e, rw e)

  pub settle-short : (facts : List Fact) → t ≡ accepted facts → length old < length facts → (settled_records t (length old) ≡ Refused Short 0) × (filled_records t old ≡ old)
  unfolding settled_records filled_records
  settle-short facts e h = let z = lt-leb (length facts) (length old) h in (rw (e, z), rw (e, z))

  pub settle-done : (facts : List Fact) → t ≡ accepted facts → length facts ≤ length old
      → (settled_records t (length old) ≡ Done (length facts)) × (filled_records t old ≡ over_records facts old)
  unfolding settled_records filled_records
  settle-done facts e h = let z = le-leb (length facts) (length old) h in (rw (e, z), rw (e, z))
