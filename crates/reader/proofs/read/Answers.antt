-- `reader::read` meets its contract: what `load` left is put where there is room for it.
-- Assumes nothing.
use Rattle.std.proofs.Common.{◌≡◌, sym, ap, ◌∙◌, arith, rules, Err}
use Rattle.std.proofs.Math.Seq.{length-take-le}
use Rattle.facts.specs.Results.{Done}
use Rattle.table.specs.Tables.{row_of, table_of}
use Rattle.table.proofs.Rows.{row-length, passes-loaded, scan-stops, settle-refused, settle-short, settle-done}
use Rattle.reader.proofs.read.Goals as goal

pub returns-in_err-n : goal.returns-in_err-n
returns-in_err-n c =
    let t = table_of c.args.bytes.now in
    let e = settle-refused row_of t c.args.row.now _ _ (scan-stops t _ _ (sym c.in_err-n.ensures.answer)) in
    let r : c.from_residual.result ≡ Err c.in_err-n.field-0.0 = search rules in
    record { call = record { answer = r ∙ sym e.0; memory = sym e.1 } }

pub returns-then-row-count : goal.returns-then-row-count
returns-then-row-count c =
    let p = passes-loaded c.args.bytes.now c.in_ok-n.n _ _ c.in_ok-n.ensures.answer c.load.ensures.facts in
    let e = settle-short row_of (table_of c.args.bytes.now) c.args.row.now p.0 p.1 (rw row-length (omega (arith, p.2))) in
    record { call = record { answer = rw c.from.ensures (sym e.0); memory = sym e.1 } }

pub slice_bounds-facts-end : goal.slice_bounds-facts-end
slice_bounds-facts-end c =
    let p = passes-loaded c.args.bytes.now c.in_ok-n.n _ _ c.in_ok-n.ensures.answer c.load.ensures.facts in
    omega (arith, p.3, c.load.auto.facts)

pub slice_bounds-read-end : goal.slice_bounds-read-end
slice_bounds-read-end c =
    let p = passes-loaded c.args.bytes.now c.in_ok-n.n _ _ c.in_ok-n.ensures.answer c.load.ensures.facts in
    sym (length-take-le c.in_ok-n.n c.load.new.facts (omega (arith, p.3, c.load.auto.facts)))

pub returns : goal.returns
returns c =
    let p = passes-loaded c.args.bytes.now c.in_ok-n.n _ _ c.in_ok-n.ensures.answer c.load.ensures.facts in
    let e = settle-done row_of (table_of c.args.bytes.now) c.args.row.now p.0 p.1 (rw row-length (omega (arith, p.2))) in
    record { call = record { answer = ap Done (sym p.2) ∙ sym e.0; memory = c.spread.ensures ∙ rw p.4 (sym e.1) } }
