-- `importer::write_keys` meets its contract: the numbers of the keys' facts stand in the front of the row.
-- Assumes nothing.
use Rattle.std.proofs.Common.{◌≡◌, ◌*◌, List, length, map, take, ap, ◌∙◌}
use Rattle.std.proofs.lemmas.List.{length-map}
use Rattle.facts.specs.declared.Fact.{Fact}
use Rattle.table.specs.Tables.{row_of, table_of_row}
use Rattle.gathering.specs.Keys.{fact_of_key}
use Rattle.imports.proofs.Imported.{row-front, transfers-as}
use Rattle.importer.proofs.write_keys.Goals as goal

pub returns : goal.returns
returns c =
    let keys = c.args.keys.now in
    let facts : List Fact = map fact_of_key keys in
    let front : take (3 * length keys) c.spread.new.row ≡ row_of facts = ap (take (3 * length keys)) c.spread.ensures ∙ row-front facts _ (length keys) (length-map keys fact_of_key) in
    transfers-as (ap table_of_row front) c.write.ensures.call
