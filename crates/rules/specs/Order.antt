-- The order in which a derivation is printed (document 01, "The question").
-- Assumes nothing.
use Rattle.std.specs.Prelude.{◌≡◌, ◌⊎◌, true, List, [], ◌∷◌, ◌++◌, ℕ, suc, ◌<◌}
use Rattle.facts.specs.declared.Fact.{Fact}
use Rattle.facts.specs.Terms.{kind_of, is_name, sc, sp, dom, range, type}
use Rattle.rules.specs.Derivations.{Line, table_facts}

-- facts with the predicate p, each one's object the next one's subject
unfoldable pub Chain : ℕ → List Fact → Type 0
Chain p [] = Unit {0}
Chain p (a ∷ []) = a.predicate ≡ p
Chain p (a ∷ b ∷ fs) = (a.predicate ≡ p) × (a.object ≡ b.subject) × Chain p (b ∷ fs)

-- at most one fact, and that one with a predicate of the kind P
unfoldable pub AtMostOne : (ℕ → Type 0) → List Fact → Type 0
AtMostOne P [] = Unit {0}
AtMostOne P (a ∷ []) = P a.predicate
AtMostOne P (a ∷ b ∷ fs) = ⊥

-- the predicate of a data fact: a name or type
abbrev pub OfData : ℕ → Type 0
OfData p = (is_name (kind_of p) ≡ true) ⊎ (p ≡ type)

abbrev pub DomOrRange : ℕ → Type 0
DomOrRange p = (p ≡ dom) ⊎ (p ≡ range)

-- the sp facts as a chain, then a data fact, then a dom or range fact, then the sc facts as a chain
pub record FactsInOrder (facts : List Fact) : Type 0 where
  pub sps : List Fact
  pub data-fact : List Fact
  pub typing : List Fact
  pub scs : List Fact
  pub parts : facts ≡ sps ++ (data-fact ++ (typing ++ scs))
  pub sp-chain : Chain sp sps
  pub one-data : AtMostOne OfData data-fact
  pub one-typing : AtMostOne DomOrRange typing
  pub sc-chain : Chain sc scs

-- a rule line whose premises are the lines n and n + 1, in either order
pub record RuleLine (n : ℕ) (l : Line) : Type 0 where
  pub by-rule : 0 < l.rule
  pub premises : ((l.first ≡ n) × (l.second ≡ suc n)) ⊎ ((l.first ≡ suc n) × (l.second ≡ n))

-- behind line n stand pairs: a table line, and a rule line that joins it to line n; then so behind line n + 2
unfoldable pub Pairs : ℕ → List Line → Type 0
Pairs n [] = Unit {0}
Pairs n (l ∷ []) = ⊥
Pairs n (l ∷ m ∷ d) = (l.rule ≡ 0) × RuleLine n m × Pairs (suc (suc n)) d

-- lines 1, 2, 4, 6, .. are table lines, and line 2 k + 1 is a rule line with the premises 2 k - 1 and 2 k
unfoldable pub Alternates : List Line → Type 0
unfolding Pairs
Alternates [] = ⊥
Alternates (l ∷ d) = (l.rule ≡ 0) × Pairs 1 d

-- d is in the printed order
pub record InOrder (d : List Line) : Type 0 where
  pub lines : Alternates d
  pub facts : FactsInOrder (table_facts d)
