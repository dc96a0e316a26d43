-- The printed derivation (document 01, "The question").
-- Assumes nothing.
use Rattle.std.specs.Prelude.{◌≡◌, cond, List, [], ◌∷◌, ℕ, suc, ◌+◌, length, eqb}
use Rattle.facts.specs.declared.Fact.{Fact}
use Rattle.facts.specs.Terms.{kind_of, sc, sp, dom, range, type}
use Rattle.facts.specs.Facts.{fact}
use Rattle.rules.specs.Rules.{Rule}
use Rattle.rules.specs.Derivations.{Line, derivation_line, Derives, table_lines}
use Rattle.rules.specs.Order.{InOrder}
use Rattle.rules.specs.Paths.{named}

-- the rule line that joins the fact f, on line i + 1, to the result so far c, on line i
unfoldable pub join : Fact → ℕ → Fact → Line
unfolding kind_of
join c i f =
    cond (named f.predicate) (derivation_line 2 i (suc i) (fact f.subject c.object f.object))
    (cond (eqb f.predicate sp) (derivation_line 1 i (suc i) (fact c.subject sp f.object))
    (cond (eqb f.predicate dom) (derivation_line 5 (suc i) i (fact c.subject type f.object))
    (cond (eqb f.predicate range) (derivation_line 6 (suc i) i (fact c.object type f.object))
    (cond (eqb c.predicate sc) (derivation_line 3 i (suc i) (fact c.subject sc f.object))
    (derivation_line 4 (suc i) i (fact c.subject type f.object))))))

-- each fact on a table line, and after it the line that joins it to the result so far, c on line i
unfoldable pub join_all : Fact → ℕ → List Fact → List Line
unfolding join
join_all c i [] = []
join_all c i (f ∷ fs) = derivation_line 0 0 0 f ∷ join c i f ∷ join_all (join c i f).fact (suc (suc i)) fs

-- the derivation printed for a list of facts
unfoldable pub printed : List Fact → List Line
unfolding join_all
printed [] = []
printed (f ∷ fs) = derivation_line 0 0 0 f ∷ join_all f 1 fs

-- the fact on the last line
unfoldable pub conclusion : List Line → Fact
conclusion [] = fact 0 0 0
conclusion (l ∷ []) = l.fact
conclusion (l ∷ m ∷ d) = conclusion (m ∷ d)

-- a fact and then others, with the fact behind the sp facts that begin them
unfoldable pub behind : Fact → List Fact → List Fact
behind q [] = q ∷ []
behind q (f ∷ fs) = let r = behind q fs in cond (eqb f.predicate sp) (f ∷ r) (q ∷ f ∷ fs)

-- the facts of a path as they are printed: a data fact that begins it comes behind the sp facts
unfoldable pub print_order : List Fact → List Fact
unfolding behind kind_of
print_order [] = []
print_order (f ∷ fs) = cond (named f.predicate) (behind f fs) (f ∷ fs)

-- printed, the k facts are a derivation of t in the printed order, with k table lines and 2 k - 1 lines
pub record Printable (table : List Fact) (t : Fact) (facts : List Fact) : Type 0 where
  pub derives : Derives Rule table (printed facts) t
  pub order : InOrder (printed facts)
  pub tables : table_lines (printed facts) ≡ length facts
  pub size : suc (length (printed facts)) ≡ length facts + length facts
