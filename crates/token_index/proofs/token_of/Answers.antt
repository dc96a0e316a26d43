-- `token_index::token_of` meets its contract.
-- Assumes nothing.
use borrow.Author.Tests.{le-leb}
use Rattle.numbering.specs.Index.{token_of}
use Rattle.token_index.proofs.token_of.Goals as goal

pub returns-then-to-input : goal.returns-then-to-input
unfolding token_of
returns-then-to-input c = rw (le-leb _ _ c.if-from-to.true, le-leb _ _ c.if-to-input.true)
