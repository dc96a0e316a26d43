-- `entail::factbox_question` meets its contract: the question's answer, packed.
-- Assumes nothing.
use mathlib.Core.Path.{◌∙◌}
use Rattle.entail.proofs.Small.{question-small}
use Rattle.entail.proofs.Unpacked.{question-said}
use Rattle.entail.proofs.factbox_question.Goals as goal

pub pack-requires : goal.pack-requires
pack-requires c = rw c.question.ensures.call.answer (question-small _ _ _ _)

pub returns : goal.returns
returns c =
    let q = c.question.ensures.call in
    let both = question-said (record { answer = c.pack.ensures ∙ rw q.answer; output = q.output }) in
    record { call = both.0; meaning = both.1 }
