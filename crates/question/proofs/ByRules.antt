-- The answer over any list of rules is one, and by the six rules it is the answer given.
-- Assumes nothing.
use mathlib.Core.Path.{◌≡◌, refl}
use mathlib.Core.Logic.{◌↔◌}
use mathlib.Core.Bool.{Bool, true, false}
use mathlib.Core.Option.{Option, none, some}
use mathlib.Core.List.{List}
use Prim.Native.Nat.{ℕ}
use native.Mathlib.Omega.{arith}
use lib.Dec.{T, leb}
use borrow.Author.Tests.{leb-true, leb-false}
use Rattle.facts.specs.declared.Fact.{Fact}
use Rattle.facts.specs.declared.Code.{Code}
use Rattle.facts.specs.Facts.{well_formed}
use Rattle.facts.specs.Gaps.{Askable}
use Rattle.facts.specs.Answers.{code_of}
use Rattle.rules.specs.Graph.{◌∈◌}
use Rattle.rules.specs.Rules.{Rule}
use Rattle.rules.specs.Derivations.{Relation}
use Rattle.rules.specs.Fillings.{LeastFilling}
use Rattle.rules.specs.Paths.{fewest}
use Rattle.rules.proofs.Fewest.{fewest-least, fewest-none}
use Rattle.question.specs.Question.{filling_for, answer_by, answer_of, AnswersBy, yes, long, no}

-- over any list of rules

module _ (R : Relation) (facts : List Fact) (t : Fact) where
  -- the least count over the fillings is one
  least-one : {f g : ℕ} {u v : Fact} → LeastFilling R facts t f u → LeastFilling R facts t g v → f ≡ g
  least-one {f} {g} {u} {v} k l =
      omega (
        arith,
        k.lowest v l.fills l.least.derivation l.least.derives,
        l.least.count,
        l.lowest u k.fills k.least.derivation k.least.derives,
        k.least.count,
      )

  -- so number and count are
  pub answers_one : {limit n c m d : ℕ} → AnswersBy R facts t limit n c → AnswersBy R facts t limit m d → (n ≡ m) × (c ≡ d)
  answers_one (yes k a) (yes l b) = (refl, least-one k l)
  answers_one (long k a) (long l b) = (refl, least-one k l)
  answers_one (no a) (no b) = (refl, refl)
  answers_one (yes k a) (long l b) = absurd (omega (arith, least-one k l))
  answers_one (long k a) (yes l b) = absurd (omega (arith, least-one k l))
  answers_one (yes {u = u} k a) (no b) = absurd (b (u, k.fills, (k.least.derivation, k.least.derives)))
  answers_one (long {u = u} k a) (no b) = absurd (b (u, k.fills, (k.least.derivation, k.least.derives)))
  answers_one (no a) (yes {u = u} l b) = absurd (a (u, l.fills, (l.least.derivation, l.least.derives)))
  answers_one (no a) (long {u = u} l b) = absurd (a (u, l.fills, (l.least.derivation, l.least.derives)))

-- by the six rules

module _ (facts : List Fact) (wf : (f : Fact) → f ∈ facts → T (well_formed f)) (t : Fact) (ask : Askable t) (limit : ℕ) where
  abbrev given : Code
  given = code_of (answer_of facts t limit)

  given_by : AnswersBy Rule facts t limit given.number given.count
  unfolding answer_of
  given_by = go (fewest facts t) refl
    where
      found : (f x : ℕ) (b : Bool) → leb f limit ≡ b → fewest facts t ≡ some f → AnswersBy Rule facts t limit (code_of (answer_by limit (some f) x)).number (code_of (answer_by limit (some f) x)).count
      found f x true h e = unfold answer_by in (rw h (yes ((fewest-least facts wf t ask f).0 e).1 (leb-true f limit h)))
      found f x false h e = unfold answer_by in (rw h (long ((fewest-least facts wf t ask f).0 e).1 (leb-false f limit h)))

      go : (o : Option ℕ) → fewest facts t ≡ o → AnswersBy Rule facts t limit (code_of (answer_by limit o (filling_for facts t))).number (code_of (answer_by limit o (filling_for facts t))).count
      go none e = unfold answer_by in no ((fewest-none facts wf t ask).0 e)
      go (some f) e = found f (filling_for facts t) (leb f limit) refl e

  -- number and count of the answer are those that the rules define, and no others
  pub answers_by : (n c : ℕ) → ((given.number ≡ n) × (given.count ≡ c)) ↔ AnswersBy Rule facts t limit n c
  answers_by n c = (λ h. rw (← h.0, ← h.1) given_by, λ a. answers_one Rule facts t given_by a)
