-- `reader::load` meets its contract: where the size is refused nothing is scanned, and else the scan goes on from line to line.
-- Assumes nothing.
use Rattle.std.proofs.Common.{◌≡◌, ◌+◌, ℕ, length, refl, sym, ap, ◌∙◌, arith, add-one, rules, Result, Ok, Err, Some}
use native.Mathlib.Nat.{sub-zero}
use Rattle.columns.specs.Lines.{items_from}
use Rattle.facts.specs.declared.Fact.{Fact}
use Rattle.facts.specs.declared.Refusal.{Refusal}
use Rattle.facts.specs.declared.Refusal.TheVariants.{Size}
use Rattle.facts.specs.Results.{refused_at}
use Rattle.table.specs.Results.{Stops, Passes}
use Rattle.table.specs.Judged.{last_before, on_line, told}
use Rattle.table.specs.Tables.{line_fact, line_verdict, table_scan}
use Rattle.table.proofs.Scans.{last-some, scan-on, scan-stop, scan-end}
use Rattle.table.proofs.LineRead.{told-fact, told-refusal, placed-ok, placed-err}
use Rattle.table.proofs.Rows.{over_facts-more, counted-torn, counted-fits, scan-table, loaded-none, loaded-stop, loaded-all}
use Rattle.reader.proofs.load.Goals as goal
use Rattle.reader.proofs.load.Goals.{After-map_err}

pub returns-in_err-n : goal.returns-in_err-n
unfolding table_scan
returns-in_err-n c =
    let b = c.args.bytes.now in
    let t = counted-torn 16 16384 (length b) c.in_err-n.ensures.answer in
    let e : table_scan b ≡ Stops Size 0 = rw t.0 in
    let r : c.from_residual.result ≡ Err (refused_at c.in_err-n.field-0.0 0) = search rules in
    record { answer = r ∙ rw t.1 (sym (scan-table b ∙ e)); facts = loaded-none b Size e c.args.facts.now }

pub loop-i-init : goal.loop-i-init
unfolding table_scan items_from last_before
loop-i-init c =
    let f = counted-fits 16 16384 (length c.args.bytes.now) c.in_ok-n.ensures.answer in
    record { scans = rw (f.0, f.1, sub-zero); before = refl; put = refl }

pub judge_line-requires : goal.judge_line-requires
judge_line-requires c = record { there = omega (arith, c.in_ok-n.ensures.within.0, c.loop-i-test.true); before = λ h. c.loop-i.invariant.before ∙ last-some (line_fact c.args.bytes.now) c.loop-i.i-counter h }

-- what is found on a line, with its place
placed : (c : After-map_err) → c.map_err.result ≡ on_line c.loop-i.i-counter (told (line_verdict c.args.bytes.now c.loop-i.i-counter) (line_fact c.args.bytes.now c.loop-i.i-counter))
unfolding on_line
placed c = go c.judge_line.result refl ∙ ap (on_line i) c.judge_line.ensures.judged
  where
    i : ℕ
    i = c.loop-i.i-counter

    go : (v : Result Fact Refusal) → c.judge_line.result ≡ v → c.map_err.result ≡ on_line i v
    go (Ok f) e = search rules
    go (Err r) e = search rules

pub returns-in_err-f : goal.returns-in_err-f
returns-in_err-f c =
    let b = c.args.bytes.now in
    let i = c.loop-i.i-counter in
    let p = placed-err _ i _ (sym c.in_err-f.was ∙ placed (goal.at-returns-in_err-f c).After-map_err) in
    let e : table_scan b ≡ Stops p.0 (i + 1) =
    c.loop-i.invariant.scans ∙ scan-stop (line_verdict b) c.in_ok-n.n i (omega (arith, c.loop-i-test.true)) (told-refusal (line_verdict b i) (line_fact b i) p.0 (sym p.1)) in
    let r : c.from_residual-in_err-f.result ≡ Err c.in_err-f.field-0.0 = search rules in
    record { answer = r ∙ ap Err p.2 ∙ sym (scan-table b ∙ e); facts = c.loop-i.invariant.put ∙ rw (loaded-stop b p.0 i e) }

pub loop-i-preserved : goal.loop-i-preserved
unfolding last_before
loop-i-preserved c =
    let b = c.args.bytes.now in
    let i = c.loop-i.i-counter in
    let told = told-fact (line_verdict b i) (line_fact b i) c.in_ok-f.f (sym (placed-ok _ i _ (sym c.in_ok-f.was ∙ placed (goal.at-loop-i-preserved c).After-map_err))) in
    record {
      scans = c.loop-i.invariant.scans ∙ scan-on (line_verdict b) c.in_ok-n.n i (omega (arith, c.loop-i-test.true)) told.0;
      before = rw add-one (ap Some told.1);
      put = rw (told.1, c.loop-i.invariant.put, add-one) (over_facts-more (line_fact b) c.args.facts.now i (omega (arith, c.in_ok-n.ensures.within.0, c.in_ok-n.ensures.within.1, c.loop-i-test.true)));
    }

pub returns : goal.returns
returns c =
    let b = c.args.bytes.now in
    let n = c.in_ok-n.n in
    let i : c.loop-i.i-counter ≡ n = omega (arith, c.loop-i-test.false, c.loop-i.auto.i-counter-end) in
    let e : table_scan b ≡ Passes n = c.loop-i.invariant.scans ∙ scan-end (line_verdict b) n c.loop-i.i-counter i in
    record { answer = sym (scan-table b ∙ e); facts = c.loop-i.invariant.put ∙ rw (loaded-all b n e, i) }
