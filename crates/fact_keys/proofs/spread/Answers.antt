-- `fact_keys::spread` meets its contract: a turn puts the three numbers of one key's fact more.
-- Assumes nothing.
use Rattle.std.proofs.Common.{◌≡◌, List, ◌+◌, ◌*◌, [], ◌∷◌, ◌++◌, length, get_or, map, take, refl, ap, ◌∙◌, arith, add-one}
use Rattle.std.proofs.lemmas.List.{length-map, map-append}
use Rattle.std.proofs.Math.Seq.{take-suc, length-take-le}
use Rattle.columns.specs.Lines.{flat}
use Rattle.columns.proofs.Lists.{flat_append}
use Rattle.columns.proofs.Parts.{over-more}
use Rattle.facts.specs.declared.Fact.{Fact}
use Rattle.table.specs.Tables.{row_of, terms}
use Rattle.table.proofs.Rows.{row-length}
use Rattle.gathering.specs.Keys.{fact_of_key}
use Rattle.fact_keys.proofs.spread.Goals as goal

pub loop-i-init : goal.loop-i-init
unfolding flat
loop-i-init c = refl

pub loop-i-preserved : goal.loop-i-preserved
unfolding flat
loop-i-preserved c =
    let keys = c.args.keys.now in
    let i = c.loop-i.i in
    let facts : List Fact = map fact_of_key (take i keys) in
    let f = fact_of_key (get_or keys i 0) in
    let long : length (row_of facts) ≡ 3 * i = row-length facts ∙ ap (λ k. 3 * k) (length-map (take i keys) fact_of_key ∙ length-take-le i keys (omega arith)) in
    let more : row_of (map fact_of_key (take (i + 1) keys)) ≡ row_of facts ++ terms f =
    rw (add-one, take-suc keys i 0 c.loop-i-test.true, map-append) (flat_append terms facts (f ∷ [])) in
    c.put_fact.ensures ∙ rw (c.fact_of_key.ensures, c.loop-i.invariant, more) (over-more (row_of facts) (terms f) c.args.row.now (3 * i) long (omega arith))
