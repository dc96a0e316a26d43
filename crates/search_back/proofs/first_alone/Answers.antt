-- `search_back::first_alone` meets its contract: the first place that the pass over the facts finds is the first that the definitions mean.
-- Assumes nothing.
use Rattle.std.proofs.Common.{◌∙◌, rules, tests}
use Rattle.std.proofs.lemmas.Iterator.{YieldsList-from_slice}
use Rattle.std.proofs.lemmas.Iterator.Search.{position_from_yields_List}
use Rattle.question.specs.Trace.{single}
use Rattle.question.proofs.Steps.{position-least}
use Rattle.search_back.proofs.first_alone.Goals as goal

pub returns : goal.returns
returns c =
    let a = c.args.sought in
    position_from_yields_List (single a.way a.asked) _ _ c.position.result c.position.ensures.ran (YieldsList-from_slice a.facts.now cc) (λ x b q k. search (rules, tests))
    ∙ position-least (single a.way a.asked) a.facts.now
