-- `writer::scan_row` meets its contract: where the size is refused nothing is scanned, and else the scan goes on from fact to fact.
-- Assumes nothing.
use Rattle.std.proofs.Common.{◌≡◌, ℕ, refl, sym, ap, ◌∙◌, length, add-one, arith, rules, Some, Err}
use native.Mathlib.Nat.{sub-zero}
use Rattle.facts.specs.Results.{Verdict, Sound, Faulty, refused_at}
use Rattle.table.specs.Judged.{last_before, on_line}
use Rattle.table.specs.Tables.{row_fact, row_verdict, row_scan}
use Rattle.table.proofs.Scans.{judged-line, scan-on, scan-stop, scan-end}
use Rattle.table.proofs.Rows.{counted-torn, counted-fits, scan-row}
use Rattle.table.proofs.LineRead.{placed-ok, placed-err}
use Rattle.writer.proofs.scan_row.Goals as goal
use Rattle.writer.proofs.scan_row.Goals.{After-map_err}

pub returns-in_err-n : goal.returns-in_err-n
unfolding row_scan
returns-in_err-n c =
    let row = c.args.row.now in
    let t = counted-torn 3 3072 (length row) c.in_err-n.ensures.answer in
    let r : c.from_residual.result ≡ Err (refused_at c.in_err-n.field-0.0 0) = search rules in
    r ∙ rw t.1 (sym (scan-row row ∙ rw t.0))

pub loop-i-init : goal.loop-i-init
unfolding row_scan last_before
loop-i-init c = let f = counted-fits 3 3072 (length c.args.row.now) c.in_ok-n.ensures.answer in record { scans = rw (f.0, f.1, sub-zero); before = refl }

-- what the fact reached earns, with its place
placed : (c : After-map_err) → c.map_err.result ≡ on_line c.loop-i.i-counter (row_verdict c.args.row.now c.loop-i.i-counter)
unfolding on_line row_verdict
placed c = go c.judge.result refl ∙ ap (on_line i) (c.judge.ensures ∙ rw (c.row_fact-f.ensures, c.loop-i.invariant.before) (sym (judged-line (row_fact c.args.row.now) i)))
  where
    i : ℕ
    i = c.loop-i.i-counter

    go : (v : Verdict) → c.judge.result ≡ v → c.map_err.result ≡ on_line i v
    go Sound e = search rules
    go (Faulty r) e = search rules

pub returns-in_err-map_err : goal.returns-in_err-map_err
returns-in_err-map_err c =
    let row = c.args.row.now in
    let i = c.loop-i.i-counter in
    let p = placed-err _ i _ (sym c.in_err-map_err.was ∙ placed (goal.at-returns-in_err-map_err c).After-map_err) in
    let r : c.from_residual-in_err-map_err.result ≡ Err c.in_err-map_err.field-0.0 = search rules in
    r ∙ ap Err p.2 ∙ sym (scan-row row ∙ c.loop-i.invariant.scans ∙ scan-stop (row_verdict row) c.in_ok-n.n i (omega (arith, c.loop-i-test.true)) p.1)

pub loop-i-preserved : goal.loop-i-preserved
unfolding last_before
loop-i-preserved c =
    let row = c.args.row.now in
    let i = c.loop-i.i-counter in
    let sound = placed-ok _ i _ (sym c.in_ok-map_err.was ∙ placed (goal.at-loop-i-preserved c).After-map_err) in
    record { scans = c.loop-i.invariant.scans ∙ scan-on (row_verdict row) c.in_ok-n.n i (omega (arith, c.loop-i-test.true)) sound; before = rw add-one (ap Some c.row_fact-f.ensures) }

pub returns : goal.returns
returns c =
    let row = c.args.row.now in
    sym (scan-row row ∙ c.loop-i.invariant.scans ∙ scan-end (row_verdict row) c.in_ok-n.n c.loop-i.i-counter (omega (arith, c.loop-i-test.false, c.loop-i.auto.i-counter-end)))
