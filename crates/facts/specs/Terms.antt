-- Terms and their kinds (document 01, "Terms and facts").
-- Assumes nothing.
use Rattle.std.specs.Prelude.{Bool, true, false, cond, ℕ, leb, ltb, eqb}
use Rattle.facts.specs.declared.Kind.{Kind}
use Rattle.facts.specs.declared.Kind.TheVariants.{NoTerm, Vocabulary, Name, Literal, BlankNode, Beyond}

-- the vocabulary: subclass, subproperty, domain, range, type
abbrev pub sc : ℕ
sc = 1

abbrev pub sp : ℕ
sp = 2

abbrev pub dom : ℕ
dom = 3

abbrev pub range : ℕ
range = 4

abbrev pub type : ℕ
type = 5

-- 0 is no term, 1 to 5 are the vocabulary, 6 to 39999 names, 40000 to 59999 literals, 60000 to 65535 blank nodes;
-- what is above does not fit 16 bits
unfoldable pub kind_of : ℕ → Kind
kind_of n =
    cond (eqb n 0) NoTerm
    (cond (ltb n 6) Vocabulary
    (cond (ltb n 40000) Name
    (cond (ltb n 60000) Literal
    (cond (leb n 65535) BlankNode Beyond))))

abbrev pub is_no_term : Kind → Bool
is_no_term NoTerm = true
is_no_term Vocabulary = false
is_no_term Name = false
is_no_term Literal = false
is_no_term BlankNode = false
is_no_term Beyond = true

abbrev pub is_vocabulary : Kind → Bool
is_vocabulary NoTerm = false
is_vocabulary Vocabulary = true
is_vocabulary Name = false
is_vocabulary Literal = false
is_vocabulary BlankNode = false
is_vocabulary Beyond = false

abbrev pub is_name : Kind → Bool
is_name NoTerm = false
is_name Vocabulary = false
is_name Name = true
is_name Literal = false
is_name BlankNode = false
is_name Beyond = false

abbrev pub is_literal : Kind → Bool
is_literal NoTerm = false
is_literal Vocabulary = false
is_literal Name = false
is_literal Literal = true
is_literal BlankNode = false
is_literal Beyond = false

abbrev pub is_blank : Kind → Bool
is_blank NoTerm = false
is_blank Vocabulary = false
is_blank Name = false
is_blank Literal = false
is_blank BlankNode = true
is_blank Beyond = false
