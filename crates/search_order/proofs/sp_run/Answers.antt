-- `search_order::sp_run` meets its contract: the places counted are those up to the first of another fact.
-- Assumes nothing.
use Rattle.std.proofs.Common.{◌≡◌, List, ℕ, drop, length-drop, ◌∙◌, arith, rules, tests}
use Rattle.std.proofs.lemmas.List.{take_all}
use Rattle.std.proofs.lemmas.Iterator.{YieldsList-from_slice}
use Rattle.std.proofs.lemmas.Iterator.Consumers.{count_from_yields_List}
use Rattle.std.proofs.lemmas.Iterator.Search.{YieldsList-from_take_while}
use Rattle.std.proofs.lemmas.List.Folds.{length-prefix_len}
use Rattle.question.specs.Order.{chained}
use Rattle.search_order.proofs.sp_run.Goals as goal

pub returns : goal.returns
returns c =
    let a = c.args in
    let rest : List ℕ = drop 1 a.path.now in
    let source : c.take_while.result.iter.rest.now ≡ rest = rw (c.take_while.ensures.source, c.iter.ensures.rest) (take_all _ rest (omega (arith, length-drop 1 a.path.now))) in
    count_from_yields_List c.take_while.result c.count.result c.count.ensures.ran
    (YieldsList-from_take_while _ (chained a.facts.now) (YieldsList-from_slice rest source) c.take_while.ensures.closure c.take_while.ensures.done (λ place b q k. search (rules, tests)))
    ∙ length-prefix_len _ rest
