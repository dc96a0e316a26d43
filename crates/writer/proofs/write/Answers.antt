-- `writer::write` meets its contract: the row's facts are written where there is room for them.
-- Assumes nothing.
use Rattle.std.proofs.Common.{◌≡◌, Err, sym, ap, ◌∙◌, arith, rules}
use Rattle.facts.specs.Results.{Done}
use Rattle.table.specs.Tables.{table_bytes, table_of_row}
use Rattle.table.proofs.Rows.{bytes-length, scan-passes, scan-stops, row-size, row-facts, settle-refused, settle-short, settle-done}
use Rattle.table.proofs.Tables.{table_of_row-accepted}
use Rattle.writer.proofs.write.Goals as goal

pub returns-in_err-n : goal.returns-in_err-n
returns-in_err-n c =
    let t = table_of_row c.args.row.now in
    let e = settle-refused table_bytes t c.args.out.now _ _ (scan-stops t _ _ (sym c.in_err-n.ensures)) in
    let r : c.from_residual.result ≡ Err c.in_err-n.field-0.0 = search rules in
    record { call = record { answer = r ∙ sym e.0; memory = sym e.1 } }

pub returns-then-out-count : goal.returns-then-out-count
returns-then-out-count c =
    let t = table_of_row c.args.row.now in
    let p = scan-passes t c.in_ok-n.n (sym c.in_ok-n.ensures) in
    let e = settle-short table_bytes t c.args.out.now p.0 p.1 (rw bytes-length (omega (arith, p.2))) in
    record { call = record { answer = rw c.from.ensures (sym e.0); memory = sym e.1 } }

pub put_lines-requires : goal.put_lines-requires
put_lines-requires c =
    let row = c.args.row.now in
    let p = scan-passes (table_of_row row) c.in_ok-n.n (sym c.in_ok-n.ensures) in
    let few = row-size row p.0 p.1 in
    (omega (arith, few.1, p.2), omega (arith, few.0, p.2), omega arith, rw (← p.2, row-facts row p.0 p.1) ((table_of_row-accepted row p.0).0 p.1).1.formed)

pub returns : goal.returns
returns c =
    let row = c.args.row.now in
    let p = scan-passes (table_of_row row) c.in_ok-n.n (sym c.in_ok-n.ensures) in
    let e = settle-done table_bytes (table_of_row row) c.args.out.now p.0 p.1 (rw bytes-length (omega (arith, p.2))) in
    record { call = record { answer = ap Done (sym p.2) ∙ sym e.0; memory = c.put_lines.ensures ∙ rw (← p.2, row-facts row p.0 p.1) (sym e.1) } }
