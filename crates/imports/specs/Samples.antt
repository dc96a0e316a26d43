-- A number of a token's kind, without its number: by it a statement's fact is tried for 5 and 12, which ask for kinds alone.
-- Assumes nothing.
use Rattle.std.specs.Prelude.{cond, ℕ, ◌+◌}
use Rattle.facts.specs.declared.Fact.{Fact}
use Rattle.facts.specs.Facts.{fact}
use Rattle.ntriples.specs.Tokens.{Token}
use Rattle.numbering.specs.Numbering.{has, place, is_literal}
use Rattle.numbering.specs.Vocabulary.{vocabulary}
use Rattle.imports.specs.Lines.{Statement}

-- the vocabulary's own number, or the first of the token's kind
unfoldable pub sample_of : Token → ℕ
unfolding has place is_literal
sample_of t = cond (has t vocabulary) (1 + place t vocabulary) (cond (is_literal t) 40000 6)

abbrev pub sample_fact : Statement → Fact
sample_fact s = fact (sample_of s.subject) (sample_of s.predicate) (sample_of s.object)
