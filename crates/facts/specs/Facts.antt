-- Facts: which are well-formed, which of refusals 3, 4, 5 and 12 they earn, and their order (document 01, "Terms and facts",
-- "Table layout" and the table of numbers; document 02, Point 2).
-- Assumes nothing.
use Rattle.std.specs.Prelude.{Bool, cond, not, ◌&&◌, ◌||◌, ℕ, ltb, eqb}
use Rattle.facts.specs.declared.Fact.{Fact}
use Rattle.facts.specs.Results.{Verdict, Sound, Faulty}
use Rattle.facts.specs.declared.Refusal.TheVariants.{Term, Blank, Part, Class, Order}
use Rattle.facts.specs.Terms.{kind_of, is_no_term, is_vocabulary, is_name, is_literal, is_blank, sc, sp, dom, range, type}

-- the fact (subject predicate object)
abbrev pub fact : ℕ → ℕ → ℕ → Fact
fact s p o = record { subject = s; predicate = p; object = o }

-- the predicates whose subject must be a name: sc, sp, dom and range
unfoldable pub named_subject : ℕ → Bool
named_subject p = eqb p sc || eqb p sp || eqb p dom || eqb p range

-- those whose object must be a name: these and type
unfoldable pub named_object : ℕ → Bool
unfolding named_subject
named_object p = named_subject p || eqb p type

-- what may be a subject or an object: a name, or a literal where it need not be a name
unfoldable pub is_node : Bool → ℕ → Bool
unfolding kind_of
is_node named n = is_name (kind_of n) || is_literal (kind_of n) && not named

-- what may be a predicate: a name or one of the vocabulary
unfoldable pub is_predicate : ℕ → Bool
unfolding kind_of
is_predicate n = is_name (kind_of n) || is_vocabulary (kind_of n)

unfoldable pub well_formed : Fact → Bool
unfolding is_node is_predicate named_subject named_object
well_formed f = is_node (named_subject f.predicate) f.subject && is_predicate f.predicate && is_node (named_object f.predicate) f.object

-- refusal 3: 0 or above 65535, anywhere
unfoldable pub has_no_term : Fact → Bool
unfolding kind_of
has_no_term f = is_no_term (kind_of f.subject) || is_no_term (kind_of f.predicate) || is_no_term (kind_of f.object)

-- refusal 4: 60000 to 65535, anywhere
unfoldable pub has_blank : Fact → Bool
unfolding kind_of
has_blank f = is_blank (kind_of f.subject) || is_blank (kind_of f.predicate) || is_blank (kind_of f.object)

-- refusal 5: vocabulary as subject or object, or a literal as predicate
unfoldable pub misplaced : Fact → Bool
unfolding kind_of
misplaced f = is_vocabulary (kind_of f.subject) || is_vocabulary (kind_of f.object) || is_literal (kind_of f.predicate)

-- refusal 12: a literal as subject or object of sc, sp, dom or range, or as object of type
unfoldable pub text_as_class : Fact → Bool
unfolding kind_of named_subject named_object
text_as_class f = is_literal (kind_of f.subject) && named_subject f.predicate || is_literal (kind_of f.object) && named_object f.predicate

-- the first of 3, 4, 5, 12 that the fact earns, in that order, each tried over the whole width
unfoldable pub fault_of : Fact → Verdict
unfolding has_no_term has_blank misplaced text_as_class
fault_of f =
    cond (has_no_term f) (Faulty Term)
    (cond (has_blank f) (Faulty Blank)
    (cond (misplaced f) (Faulty Part)
    (cond (text_as_class f) (Faulty Class) Sound)))

-- a verdict, or else another
unfoldable pub or_else : Verdict → Verdict → Verdict
or_else Sound v = v
or_else (Faulty r) v = Faulty r

-- refusal 6, or none: `ascends` says that a fact is above the one before it
unfoldable pub order_of : Bool → Verdict
order_of ascends = cond ascends Sound (Faulty Order)

-- the first of 3, 4, 5, 12 and 6 that the fact earns
unfoldable pub verdict_of : Bool → Fact → Verdict
unfolding fault_of order_of or_else
verdict_of ascends f = or_else (fault_of f) (order_of ascends)

-- a comes strictly before b: by subject, then predicate, then object
unfoldable pub before : Fact → Fact → Bool
before a b =
    cond (eqb a.subject b.subject)
    (cond (eqb a.predicate b.predicate) (ltb a.object b.object) (ltb a.predicate b.predicate))
    (ltb a.subject b.subject)
