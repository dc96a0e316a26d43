-- `entail::factbox_import` meets its contract: the import's own answer, packed.
-- Assumes nothing.
use mathlib.Core.Path.{◌∙◌}
use Rattle.entail.proofs.Small.{import-small}
use Rattle.entail.proofs.factbox_import.Goals as goal

pub pack-requires : goal.pack-requires
pack-requires c = rw c.import.ensures.call.answer (import-small _ _)

pub returns : goal.returns
returns c = let t = c.import.ensures.call in record { call = record { answer = c.pack.ensures ∙ rw t.answer; bytes = t.memory } }
