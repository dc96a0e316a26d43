-- `reader::load_row` meets its contract: the numbers of the facts that `load` left are put into the row.
-- Assumes nothing.
use Rattle.std.proofs.Common.{◌≡◌, ◌≤◌, ◌∙◌, sym, take, length, arith}
use Rattle.std.proofs.Math.Seq.{length-take-le}
use Rattle.table.specs.Tables.{loaded}
use Rattle.table.proofs.Rows.{passed-loaded}
use Rattle.reader.proofs.load_row.Goals as goal
use Rattle.reader.proofs.load_row.Goals.{After-passed-count}

-- the facts that were loaded stand in front
front : (c : After-passed-count) → (c.passed-count.result ≤ length c.load-scan.new.facts) × (take c.passed-count.result c.load-scan.new.facts ≡ loaded c.args.bytes.now)
front c = passed-loaded c.args.bytes.now c.load-scan.result c.passed-count.result _ c.load-scan.new.facts c.load-scan.ensures.answer c.passed-count.ensures c.load-scan.ensures.facts c.load-scan.auto.facts

pub slice_bounds-facts-end : goal.slice_bounds-facts-end
slice_bounds-facts-end c = (front (goal.at-slice_bounds-facts-end c).After-passed-count).0

pub slice_bounds-front-end : goal.slice_bounds-front-end
slice_bounds-front-end c = sym (length-take-le c.passed-count.result c.load-scan.new.facts (front (goal.at-slice_bounds-front-end c).After-passed-count).0)

pub spread-requires : goal.spread-requires
spread-requires c =
    let f = front (goal.at-spread-requires c).After-passed-count in
    omega (arith, f.0, length-take-le c.passed-count.result c.load-scan.new.facts f.0, c.load-scan.auto.facts)

pub returns-clause-facts : goal.returns-clause-facts
returns-clause-facts c = c.spread.ensures ∙ rw (front (goal.at-returns-clause-facts c).After-passed-count).1
