-- `records::read_facts` meets its contract: the facts of the row that was read are put where there is room for them.
-- Assumes nothing.
use Rattle.std.proofs.Common.{◌≡◌, ◌++◌, ◌≤◌, ℕ, List, length, take, drop, sym, ap, ◌∙◌, arith, rules, Err}
use Rattle.std.proofs.Math.Seq.{length-take-le}
use Rattle.columns.specs.Lines.{items_from, over}
use Rattle.facts.specs.declared.Fact.{Fact}
use Rattle.facts.specs.Results.{Done}
use Rattle.table.specs.Tables.{accepted, row_of, row_fact, table_of, loaded}
use Rattle.table.proofs.Rows.{scan-passes, scan-stops, accepted-size, loaded-accepted}
use Rattle.table.proofs.Tables.{row-items}
use Rattle.records.specs.Records.{over_records}
use Rattle.records.proofs.Laws.{settle-refused, settle-short, settle-done}
use Rattle.records.proofs.read_facts.Goals as goal
use Rattle.records.proofs.read_facts.Goals.{In_ok-n}

-- the facts of the table that is accepted
read : (c : In_ok-n) → (facts : List Fact) × (table_of c.args.bytes.now ≡ accepted facts) × (length facts ≡ c.in_ok-n.n) × (c.in_ok-n.n ≤ 1024)
read c =
    let p = scan-passes (table_of c.args.bytes.now) c.in_ok-n.n (sym c.in_ok-n.ensures.answer) in
    (p.0, p.1, p.2, omega (arith, (accepted-size c.args.bytes.now p.0 p.1).1, p.2))

-- these facts, put over the front of the records
filled-front : (b : List ℕ) (n : ℕ) (facts old new : List Fact) (row zeros : List ℕ) → table_of b ≡ accepted facts → length facts ≡ n → n ≤ length old
    → row ≡ over (row_of (loaded b)) zeros → new ≡ items_from (row_fact row) 0 (length (take n old)) → new ++ drop n old ≡ over_records facts old
filled-front b n facts old new row zeros e l h r w =
    let k : length (take n old) ≡ length facts = length-take-le n old h ∙ sym l in
    rw (w, k, r, loaded-accepted b facts e, row-items facts _) (ap (λ m. facts ++ drop m old) (sym l))

pub returns-in_err-n : goal.returns-in_err-n
returns-in_err-n c =
    let t = table_of c.args.bytes.now in
    let e = settle-refused t c.args.facts.now _ _ (scan-stops t _ _ (sym c.in_err-n.ensures.answer)) in
    let r : c.from_residual.result ≡ Err c.in_err-n.field-0.0 = search rules in
    record { call = record { answer = r ∙ sym e.0; memory = sym e.1 } }

pub returns-then-facts-count : goal.returns-then-facts-count
returns-then-facts-count c =
    let p = read (goal.at-returns-then-facts-count c).In_ok-n in
    let e = settle-short (table_of c.args.bytes.now) c.args.facts.now p.0 p.1 (omega (arith, p.2)) in
    record { call = record { answer = rw c.from.ensures (sym e.0); memory = sym e.1 } }

pub fill-requires : goal.fill-requires
fill-requires c =
    let p = read (goal.at-fill-requires c).In_ok-n in
    omega (arith, p.3, length-take-le c.in_ok-n.n c.args.facts.now (omega arith), c.load_row.auto.row)

pub returns : goal.returns
returns c =
    let p = read (goal.at-returns c).In_ok-n in
    let e = settle-done (table_of c.args.bytes.now) c.args.facts.now p.0 p.1 (omega (arith, p.2)) in
    let put = filled-front c.args.bytes.now c.in_ok-n.n p.0 c.args.facts.now c.fill.new.facts c.load_row.new.row _ p.1 p.2 (omega arith) c.load_row.ensures.facts c.fill.ensures in
    record { call = record { answer = ap Done (sym p.2) ∙ sym e.0; memory = put ∙ sym e.1 } }
