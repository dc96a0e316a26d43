-- `entail::factbox_read` meets its contract: the table's own answer, packed.
-- Assumes nothing.
use mathlib.Core.Path.{◌∙◌}
use Rattle.entail.proofs.Small.{read_small}
use Rattle.entail.proofs.factbox_read.Goals as goal

pub pack-requires : goal.pack-requires
pack-requires c = rw c.read.ensures.call.answer (read_small _ _)

pub returns : goal.returns
returns c = let t = c.read.ensures.call in record { call = record { answer = c.pack.ensures ∙ rw t.answer; row = t.memory } }
