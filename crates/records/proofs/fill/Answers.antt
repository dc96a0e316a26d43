-- `records::fill` meets its contract: a turn fills one record more.
-- Assumes nothing.
use Rattle.std.proofs.Common.{◌≡◌, [], length, drop, refl, ◌∙◌, add-one, arith}
use Rattle.std.proofs.Math.Seq.{drop-length}
use mathlib.Core.List.{append-nil}
use Rattle.columns.specs.Lines.{items_from}
use Rattle.columns.proofs.Lists.{items-length}
use Rattle.table.specs.Tables.{row_fact}
use Rattle.table.proofs.Rows.{over_facts-more}
use Rattle.records.proofs.fill.Goals as goal

pub loop-i-init : goal.loop-i-init
unfolding items_from
loop-i-init c = refl

pub loop-i-preserved : goal.loop-i-preserved
unfolding row_fact
loop-i-preserved c = rw (c.loop-i.invariant, c.row_fact.ensures) (over_facts-more (row_fact c.args.row.now) c.args.facts.now c.loop-i.i (omega arith) ∙ rw add-one)

pub returns : goal.returns
returns c =
    let n : c.loop-i.i ≡ length c.args.facts.now = omega arith in
    c.loop-i.invariant ∙ rw (items-length, n, drop-length) (simp append-nil)
