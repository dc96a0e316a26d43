-- `search_parts::Search::starting` meets its contract: the part of the subject, or all facts.
-- Assumes nothing.
use Rattle.question.proofs.Ways.{starting-run}
use Rattle.search_parts.proofs.Search.starting.Goals as goal

pub returns : goal.returns
returns c = starting-run _ _ _ _ _ c.if-self-is_gap.false c.is_gap.ensures c.lower_bound-lo.ensures c.run_end.ensures
