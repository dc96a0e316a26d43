-- `reader::spread` meets its contract: a turn puts the three numbers of one fact more.
-- Assumes nothing.
use Rattle.std.proofs.Common.{◌≡◌, ◌+◌, ◌*◌, [], ◌∷◌, ◌++◌, length, get_or, take, refl, ap, ◌∙◌, arith, add-one}
use Rattle.std.proofs.Math.Seq.{take-suc, length-take-le}
use Rattle.columns.specs.Lines.{flat}
use Rattle.columns.proofs.Lists.{flat_append}
use Rattle.columns.proofs.Parts.{over-more}
use Rattle.facts.specs.declared.TheConstants.{NO_FACT}
use Rattle.table.specs.Tables.{row_of, terms}
use Rattle.table.proofs.Rows.{row-length}
use Rattle.reader.proofs.spread.Goals as goal

pub loop-i-init : goal.loop-i-init
unfolding flat
loop-i-init c = refl

pub loop-i-preserved : goal.loop-i-preserved
unfolding flat
loop-i-preserved c =
    let facts = c.args.facts.now in
    let i = c.loop-i.i in
    let f = get_or facts i NO_FACT in
    let long : length (row_of (take i facts)) ≡ 3 * i = row-length (take i facts) ∙ ap (λ k. 3 * k) (length-take-le i facts (omega arith)) in
    let more : row_of (take (i + 1) facts) ≡ row_of (take i facts) ++ terms f = rw (add-one, take-suc facts i NO_FACT c.loop-i-test.true) (flat_append terms (take i facts) (f ∷ [])) in
    c.put_fact.ensures ∙ rw (c.loop-i.invariant, more) (over-more (row_of (take i facts)) (terms f) c.args.row.now (3 * i) long (omega arith))
