-- `search_back::first_into_subject` meets its contract: the first place that the pass over the facts finds is the first that the definitions mean.
-- Assumes nothing.
use Rattle.std.proofs.Common.{◌∙◌, rules, tests}
use Rattle.std.proofs.lemmas.Iterator.{YieldsList-from_slice}
use Rattle.std.proofs.lemmas.Iterator.Search.{position_from_yields_List}
use Rattle.question.specs.Trace.{into}
use Rattle.question.proofs.Steps.{position-least}
use Rattle.search_back.proofs.first_into_subject.Goals as goal

pub returns : goal.returns
returns c =
    let t = c.args.t in
    let facts = c.args.facts.now in
    position_from_yields_List (into t.subject) _ _ c.position.result c.position.ensures.ran (YieldsList-from_slice facts cc) (λ x b q k. search (rules, tests))
    ∙ position-least (into t.subject) facts
