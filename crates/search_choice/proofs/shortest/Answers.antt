-- `search_choice::shortest` meets its contract: one search where the fact asks for no type; and else the two searches bound every path,
-- and the way of the lesser count is the one that `way_of` names.
-- Assumes nothing.
use Rattle.std.proofs.Common.{sym, ◌∙◌, rules}
use Rattle.question.proofs.Whole.{shorter-is, answers-plain, answers-range, answers-both, answers-alone}
use Rattle.search_choice.proofs.shortest.Goals as goal

pub returns-then-t-ne-TYPE : goal.returns-then-t-ne-TYPE
returns-then-t-ne-TYPE c = answers-plain _ _ _ _ _ _ _ c.if-t-ne-TYPE.true c.reach-by_sp.ensures c.answer.ensures

pub returns-then-not-leads_into_subject : goal.returns-then-not-leads_into_subject
returns-then-not-leads_into_subject c =
    answers-alone _ _ _ _ _ _ _ c.if-t-ne-TYPE.false (sym c.if-not-is_gap.ensures) (sym c.if-not-leads_into_subject.ensures) c.reach-by_dom.ensures c.answer-then-not-leads_into_subject.ensures

pub returns-then-is_some_and : goal.returns-then-is_some_and
returns-then-is_some_and c =
    answers-range _ _ _ _ _ _ _ _ _ c.if-t-ne-TYPE.false c.reach-by_range.ensures c.reach-by_dom.ensures (shorter-is c.reach-by_range.result c.reach-by_dom.result c.is_some_and.result (search rules) ∙ c.if-is_some_and.true) c.answer-then-is_some_and.ensures

pub returns : goal.returns
returns c = answers-both _ _ _ _ _ _ _ _ _ c.if-t-ne-TYPE.false c.reach-by_dom.ensures c.reach-by_range.ensures (shorter-is c.reach-by_range.result c.reach-by_dom.result c.is_some_and.result (search rules) ∙ c.if-is_some_and.false) c.answer-2.ensures
