-- A gap in a question (document 02, Point 1): which triples may be asked, what fills a gap, and which of refusals 3, 4, 5 and 12 a
-- question's triple earns. A table, a row and the check know no gap: for them a blank node earns refusal 4 (`fault_of`).
-- Assumes nothing.
use Rattle.std.specs.Prelude.{◌≡◌, ◌⊎◌, Bool, true, false, cond, ◌&&◌, ◌||◌, ℕ, T}
use Rattle.facts.specs.declared.Fact.{Fact}
use Rattle.facts.specs.Results.{Verdict, Sound, Faulty}
use Rattle.facts.specs.declared.Refusal.TheVariants.{Term, Blank, Part, Class}
use Rattle.facts.specs.Terms.{kind_of, is_blank}
use Rattle.facts.specs.Facts.{fact, well_formed, has_no_term, misplaced, text_as_class}

-- a gap is a blank node, whatever its number
unfoldable pub is_gap : ℕ → Bool
unfolding kind_of
is_gap n = is_blank (kind_of n)

-- u fills t: it is well-formed, and has t's terms where t has no gap
pub record Fills (t u : Fact) : Type 0 where
  pub formed : T (well_formed u)
  pub subject : is_gap t.subject ≡ false → u.subject ≡ t.subject
  pub predicate : is_gap t.predicate ≡ false → u.predicate ≡ t.predicate
  pub object : is_gap t.object ≡ false → u.object ≡ t.object

-- what may be asked: a well-formed fact, or one whose subject or whose object is a gap and which some term there makes well-formed
pub data Askable (t : Fact) : Type 0 where
  gapless : T (well_formed t) → Askable t
  subject-gap : is_gap t.subject ≡ true → (x : ℕ) → T (well_formed (fact x t.predicate t.object)) → Askable t
  object-gap : is_gap t.object ≡ true → (x : ℕ) → T (well_formed (fact t.subject t.predicate x)) → Askable t

-- two terms of questions are the same, or both are gaps
abbrev pub SameTerm : ℕ → ℕ → Type 0
SameTerm x y = (x ≡ y) ⊎ ((is_gap x ≡ true) × (is_gap y ≡ true))

-- t and v ask the same: they have the same terms, and a gap where the other has one
pub record AsksSame (t v : Fact) : Type 0 where
  pub subject : SameTerm t.subject v.subject
  pub predicate : t.predicate ≡ v.predicate
  pub object : SameTerm t.object v.object

-- refusal 4 in a question: a blank predicate, or two blanks, equal or not
unfoldable pub blank_refused : Fact → Bool
unfolding is_gap
blank_refused t = is_gap t.predicate || is_gap t.subject && is_gap t.object

-- the first of 3, 4, 5, 12 that a question's triple earns, in that order; a gap is in no wrong part, and is no literal
unfoldable pub question_fault : Fact → Verdict
unfolding has_no_term blank_refused misplaced text_as_class
question_fault t =
    cond (has_no_term t) (Faulty Term)
    (cond (blank_refused t) (Faulty Blank)
    (cond (misplaced t) (Faulty Part)
    (cond (text_as_class t) (Faulty Class) Sound)))

-- what stands in u where t has its gap, and 0 where t has none
unfoldable pub filling_of : Fact → Fact → ℕ
unfolding is_gap
filling_of t u = cond (is_gap t.subject) u.subject (cond (is_gap t.object) u.object 0)

-- a term, or x where it is a gap
unfoldable pub term_or : ℕ → ℕ → ℕ
unfolding is_gap
term_or x n = cond (is_gap n) x n

-- t with x in its gap
unfoldable pub filled_by : Fact → ℕ → Fact
unfolding term_or
filled_by t x = fact (term_or x t.subject) t.predicate (term_or x t.object)
