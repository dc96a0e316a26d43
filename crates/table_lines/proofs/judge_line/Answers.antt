-- `table_lines::judge_line` meets its contract: what is no line earns 2, and else its fact is judged.
-- Assumes nothing.
use Rattle.std.proofs.Common.{◌≡◌, ◌<◌, Err, sym, ◌∙◌, arith, rules}
use Rattle.table.specs.Tables.{line_fact}
use Rattle.table.specs.Judged.{last_before, told, LineJudged}
use Rattle.table.proofs.Scans.{last-none, last-some}
use Rattle.table.proofs.LineRead.{torn-told, line-told, by-order}
use Rattle.table_lines.proofs.judge_line.Goals as goal
use Rattle.table_lines.proofs.judge_line.Goals.{After-judge, then-i-eq0, else-i-eq0}

-- the line's fact is held against the one on the line before, if there is one
held : (c : After-judge) → c.if-i-eq0.last ≡ last_before (line_fact c.args.bytes.now) c.args.i
held c =
    elim c.if-i-eq0.branch [
      | then-i-eq0 w ↦ w.last-is ∙ sym (last-none _ _ w.if-i-eq0.true)
      | else-i-eq0 w ↦ let h : 0 < c.args.i = omega arith in w.last-is ∙ c.requires.before h ∙ sym (last-some _ _ h)
    ]

pub returns-in_err-f : goal.returns-in_err-f
returns-in_err-f c =
    let e : c.from_residual.result ≡ Err c.in_err-f.field-0.0 = search rules in
    let j : LineJudged c.args.bytes.now c.args.i c.from_residual.result =
    e ∙ c.in_err-f.ensures.value ∙ rw c.in_err-f.ensures.ok_part (sym (torn-told c.args.bytes.now c.args.i (sym c.line_fact.ensures ∙ c.in_err-f.ensures.ok_part))) in
    record { judged = j; formed = by-order _ _ _ j }

pub returns-in_err-judge : goal.returns-in_err-judge
unfolding told
returns-in_err-judge c =
    let e : c.from_residual-in_err-judge.result ≡ Err c.in_err-judge.field-0.0 = search rules in
    let t = line-told c.args.bytes.now c.args.i _ c.in_ok-f.f (held (goal.at-returns-in_err-judge c).After-judge) (sym c.line_fact.ensures ∙ c.in_ok-f.ensures.ok_part) in
    let j : LineJudged c.args.bytes.now c.args.i c.from_residual-in_err-judge.result = e ∙ rw (← c.in_err-judge.ensures) at t in
    record { judged = j; formed = by-order _ _ _ j }

pub returns : goal.returns
unfolding told
returns c =
    let t = line-told c.args.bytes.now c.args.i _ c.in_ok-f.f (held (goal.at-returns c).After-judge) (sym c.line_fact.ensures ∙ c.in_ok-f.ensures.ok_part) in
    let j = rw (← c.in_ok-judge.ensures) at t in
    record { judged = j; formed = by-order _ _ _ j }
