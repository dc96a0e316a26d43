-- `token_index::next` meets its contract.
-- Assumes nothing.
use mathlib.Core.Path.{refl}
use borrow.Author.Tests.{eq-eqb, ne_eqb}
use Rattle.numbering.specs.Index.{next_of}
use Rattle.token_index.proofs.next.Goals as goal

pub returns-then-first-eq-QUOTE : goal.returns-then-first-eq-QUOTE
unfolding next_of
returns-then-first-eq-QUOTE c = rw (eq-eqb _ 34 c.if-first-eq-QUOTE.true) (refl, refl)

pub returns-else-first-eq-QUOTE : goal.returns-else-first-eq-QUOTE
unfolding next_of
returns-else-first-eq-QUOTE c = rw (ne_eqb _ 34 c.if-first-eq-QUOTE.false) (refl, refl)
