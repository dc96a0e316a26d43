-- `search_parts::Search::part_of` meets its contract: what the search by halves, the notes and the end of the part say is `PartOf`.
-- Assumes nothing.
use Rattle.question.proofs.Parts.{none-shut, none-empty}
use Rattle.search_parts.proofs.Search.part_of.Goals as goal

pub returns-then-done-slot : goal.returns-then-done-slot
returns-then-done-slot c = none-shut _ _ _ _ c.link_of-x.ensures c.lower_bound-from.ensures c.slot-slot.ensures c.goes_on.ensures c.if-done-slot.true

pub returns-else-from-to : goal.returns-else-from-to
returns-else-from-to c = none-empty _ _ _ _ c.link_of-x.ensures c.lower_bound-from.ensures c.slot-slot.ensures c.run_end-to.ensures c.if-from-to.false
