-- `entail::factbox_write` meets its contract: the table's own answer, packed.
-- Assumes nothing.
use mathlib.Core.Path.{◌∙◌}
use Rattle.entail.proofs.Small.{write-small}
use Rattle.entail.proofs.factbox_write.Goals as goal

pub pack-requires : goal.pack-requires
pack-requires c = rw c.write.ensures.call.answer (write-small _ _)

pub returns : goal.returns
returns c = let t = c.write.ensures.call in record { call = record { answer = c.pack.ensures ∙ rw t.answer; bytes = t.memory } }
