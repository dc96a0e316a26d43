-- `search_parts::Search::run_end` meets its contract: the facts counted are those up to the first with a subject above x.
-- Assumes nothing.
use Rattle.std.proofs.Common.{◌≡◌, ℕ, ◌+◌, List, drop, length-drop, leb, ap, ◌∙◌, arith, rules, tests}
use Rattle.std.proofs.lemmas.List.{take_all}
use Rattle.std.proofs.lemmas.Iterator.{YieldsList-from_slice}
use Rattle.std.proofs.lemmas.Iterator.Consumers.{count_from_yields_List}
use Rattle.std.proofs.lemmas.Iterator.Search.{YieldsList-from_take_while}
use Rattle.std.proofs.lemmas.List.Folds.{length-prefix_len}
use Rattle.facts.specs.declared.Fact.{Fact}
use Rattle.question.proofs.Parts.{run-cut}
use Rattle.search_parts.proofs.Search.run_end.Goals as goal

pub returns : goal.returns
returns c =
    let a = c.args in
    let rest : List Fact = drop a.lo a.self.facts.now in
    let source : c.take_while.result.iter.rest.now ≡ rest = rw (c.take_while.ensures.source, c.iter.ensures.rest) (take_all _ rest (omega (arith, length-drop a.lo a.self.facts.now))) in
    let count = count_from_yields_List c.take_while.result c.count.result c.count.ensures.ran
    (YieldsList-from_take_while _ (λ f. leb f.subject a.x) (YieldsList-from_slice rest source) c.take_while.ensures.closure c.take_while.ensures.done (λ f b q k. search (rules, tests))) in
    run-cut a.self.facts.now a.x a.self.rises a.lo _ c.requires (ap (λ (k : ℕ). a.lo + k) (count ∙ length-prefix_len _ rest))
