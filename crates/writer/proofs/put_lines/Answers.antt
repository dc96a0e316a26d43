-- `writer::put_lines` meets its contract: a turn writes the line of one fact more behind those before.
-- Assumes nothing.
use Rattle.std.proofs.Common.{◌≡◌, refl, ◌∙◌, List, ℕ, ◌+◌, ◌-◌, ◌*◌, ◌≤◌, length, take, drop, arith}
use lib.ListN.{length-take, length-drop}
use Rattle.columns.specs.Lines.{flat, items_from}
use Rattle.columns.proofs.Lines.{line-length}
use Rattle.columns.proofs.Lists.{items-length, flat-more}
use Rattle.columns.proofs.Parts.{part-more}
use Rattle.table.specs.Tables.{terms, line_of, table_bytes, row_fact}
use Rattle.table.proofs.Rows.{bytes-length, row-part}
use Rattle.table.proofs.Tables.{row_below}
use Rattle.writer.proofs.put_lines.Goals as goal

-- a turn's part of the row has the terms of its fact
taken : (row : List ℕ) (from i : ℕ) → from ≡ 3 * i → 3 * i + 3 ≤ length row → take (from + 3 - from) (drop from row) ≡ terms (row_fact row i)
taken row from i e h = let k : from + 3 - from ≡ 3 = omega arith in rw (k, e) (row-part row i h)

pub loop-i-init : goal.loop-i-init
unfolding items_from flat
loop-i-init c = refl

pub put_line-requires : goal.put_line-requires
put_line-requires c =
    let i = c.loop-i.i in
    let row = c.args.row.now in
    (simp (length-take, length-drop) (omega arith), rw (taken row (3 * i) i refl (omega arith)) (row_below row c.args.n i c.requires.3 (omega arith)))

pub loop-i-preserved : goal.loop-i-preserved
loop-i-preserved c =
    let i = c.loop-i.i in
    let row = c.args.row.now in
    let numbers = taken row (3 * i) i refl (omega arith) in
    let long : length (table_bytes (items_from (row_fact row) 0 i)) ≡ 16 * i = rw (bytes-length, items-length) in
    let room : 16 * i + length (line_of (row_fact row i)) ≤ length c.args.out.now = rw line-length (omega arith) in
    part-more c.loop-i.out (table_bytes (items_from (row_fact row) 0 i)) (line_of (row_fact row i)) c.args.out.now c.put_line.new.out (16 * i) c.loop-i.invariant (omega arith) long room (c.put_line.ensures ∙ rw numbers)
    ∙ rw (flat-more line_of (row_fact row) i)
