-- `vocabulary::is_same` meets its contract: of tokens that are as long, the bytes decide.
-- Assumes nothing.
use mathlib.Core.Path.{sym, ap, ◌∙◌}
use lib.ListN.{length}
use borrow.Author.Tests.{ne_eqb}
use Rattle.numbering.proofs.Numbering.{different}
use Rattle.numbering.proofs.Vocabulary.{same-zip}
use Rattle.vocabulary.proofs.is_same.Goals as goal

pub returns-then-a-b : goal.returns-then-a-b
returns-then-a-b c = c.agree.ensures ∙ same-zip c.args.a.now c.args.b.now c.if-a-b.true

pub returns-else-a-b : goal.returns-else-a-b
returns-else-a-b c = ne_eqb _ _ c.if-a-b.false ∙ sym (different c.args.a.now c.args.b.now (λ e. c.if-a-b.false (ap length e)))
