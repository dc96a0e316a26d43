-- `search::question` meets its contract: the table's refusal, then the question's, then the answer from the facts that are loaded.
-- Assumes nothing.
use Rattle.std.proofs.Common.{◌≡◌, ◌≤◌, List, take, length, Err, sym, arith, rules}
use Rattle.facts.specs.declared.Fact.{Fact}
use Rattle.facts.specs.Results.{Refused}
use Rattle.table.specs.Tables.{table_of, accepted}
use Rattle.table.proofs.Rows.{scan-stops, passes-loaded}
use Rattle.table.proofs.Tables.{table_of-accepted}
use Rattle.question.proofs.Answered.{answered-table, answered-refused, answered-settled, asked-sound, accepted-sorted}
use Rattle.search.proofs.question.Goals as goal
use Rattle.search.proofs.question.Goals.{In_ok-n}

-- the table is accepted, with so many facts, and they stand in front
passes : (c : In_ok-n) → (facts : List Fact) × (table_of c.args.table.now ≡ accepted facts) × (length facts ≡ c.in_ok-n.n) × (c.in_ok-n.n ≤ 1024) × (take c.in_ok-n.n c.load.new.facts ≡ facts)
passes c = passes-loaded c.args.table.now c.in_ok-n.n _ c.load.new.facts c.in_ok-n.ensures.answer c.load.ensures.facts

pub returns-in_err-n : goal.returns-in_err-n
returns-in_err-n c =
    let r : c.from_residual.result ≡ Err c.in_err-n.field-0.0 = search rules in
    let both = answered-table c.args.table.now c.args.fact c.args.limit c.args.output.now _ _ (scan-stops (table_of c.args.table.now) _ _ (sym c.in_err-n.ensures.answer)) in
    rw r (record { call = both.0; meaning = both.1 })

pub returns-in_err-verdict : goal.returns-in_err-verdict
returns-in_err-verdict c =
    let p = passes (goal.at-returns-in_err-verdict c).In_ok-n in
    let r : c.from_residual-in_err-verdict.result ≡ Refused c.in_err-verdict.field-0.0 0 = search rules in
    let both = answered-refused c.args.table.now c.args.fact c.args.limit c.args.output.now p.0 p.1 _ (sym c.in_err-verdict.ensures) in
    rw r (record { call = both.0; meaning = both.1 })

pub slice_bounds-facts-end : goal.slice_bounds-facts-end
slice_bounds-facts-end c = omega (arith, (passes (goal.at-slice_bounds-facts-end c).In_ok-n).3, c.load.auto.facts)

pub slice_bounds-settle-end : goal.slice_bounds-settle-end
slice_bounds-settle-end c = let p = passes (goal.at-slice_bounds-settle-end c).In_ok-n in rw p.4 (sym p.2)

pub settle-requires : goal.settle-requires
settle-requires c =
    let p = passes (goal.at-settle-requires c).In_ok-n in
    let s = asked-sound _ _ _ (sym c.in_ok-verdict.ensures) in
    rw p.4 (record { sorted = accepted-sorted c.args.table.now p.0 p.1; formed = ((table_of-accepted c.args.table.now p.0).0 p.1).1.formed; limited = s.1; room = s.2 })

pub returns : goal.returns
returns c =
    let p = passes (goal.at-returns c).In_ok-n in
    let s = c.settle.ensures in
    let both = answered-settled c.args.table.now c.args.fact c.args.limit c.args.output.now p.0 p.1 _ _ (sym c.in_ok-verdict.ensures) (rw p.4 at s.answer) (rw p.4 at s.output) in
    record { call = both.0; meaning = both.1 }
