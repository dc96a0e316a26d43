-- `entail::factbox_check` meets its contract: the check's answer, packed.
-- Assumes nothing.
use mathlib.Core.Path.{◌∙◌}
use Rattle.entail.proofs.Small.{check-small}
use Rattle.entail.proofs.Unpacked.{check-said}
use Rattle.entail.proofs.factbox_check.Goals as goal

pub pack-requires : goal.pack-requires
pack-requires c = rw c.check.ensures.call (check-small _ _ _)

pub returns : goal.returns
returns c = let both = check-said (record { answer = c.pack.ensures ∙ rw c.check.ensures.call }) in record { call = both.0; meaning = both.1 }
