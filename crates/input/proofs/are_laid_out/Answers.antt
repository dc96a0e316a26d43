-- `input::are_laid_out` meets its contract: each question is laid out.
-- Assumes nothing.
use Rattle.std.proofs.Common.{◌+◌, ◌*◌, rules, tests, arith, refl, ◌∙◌}
use Rattle.std.proofs.lemmas.Iterator.{YieldsList-from_range}
use Rattle.std.proofs.lemmas.Iterator.Search.{all_from_yields_List}
use Rattle.columns.specs.Lines.{laid_out}
use Rattle.batch.proofs.Inputs.{laid-each}
use Rattle.input.proofs.are_laid_out.Goals as goal

pub returns : goal.returns
returns c =
    let b = c.args.input.now in
    all_from_yields_List (λ i. laid_out 4 b (c.args.from + 21 * i)) _ _ c.all.result c.all.ensures.ran (YieldsList-from_range 0 c.args.n c.args.n refl (omega arith)) (λ x r q k. search (rules, tests))
    ∙ laid-each b c.args.from c.args.n
