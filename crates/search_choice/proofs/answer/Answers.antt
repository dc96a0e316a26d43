-- `search_choice::answer` meets its contract: what the search left is read back, where it met a goal.
-- Assumes nothing.
use Rattle.question.proofs.Whole.{traceable}
use Rattle.search_choice.proofs.answer.Goals as goal

pub trace-requires : goal.trace-requires
trace-requires c = traceable _ _ _ _ _ _ _ c.requires c.in_ok-f.was
