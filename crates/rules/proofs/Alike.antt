-- Which blank node stands for the gap plays no part: questions that ask the same have the same paths, and the same one is chosen.
-- Assumes nothing.
use mathlib.Core.Path.{◌≡◌, refl, ap}
use mathlib.Core.Logic.{inl, inr}
use mathlib.Core.Option.{Option, none, some}
use mathlib.Core.List.{List}
use Prim.Native.Nat.{ℕ}
use lib.ListN.{length}
use Rattle.facts.specs.declared.Fact.{Fact}
use Rattle.facts.specs.Terms.{sp}
use Rattle.facts.specs.Facts.{fact}
use Rattle.facts.specs.Gaps.{SameTerm, AsksSame}
use Rattle.facts.proofs.Terms.{by_cases}
use Rattle.rules.specs.Graph.{any, layer, least}
use Rattle.rules.specs.Paths.{named, link, property, next, typed, ways, fits, start_for, goal_for, reaches, fewest}
use Rattle.rules.specs.Chosen.{first_of, back_from, way_of, chosen_by, chosen_of, chosen}

fits-same : (x y n : ℕ) → SameTerm x y → fits x n ≡ fits y n
fits-same x y n (inl e) = ap (λ (z : ℕ). fits z n) e
fits-same x y n (inr (g, h)) = unfold fits in (rw (g, h))

module _ (t v : Fact) (s : AsksSame t v) where
  start-same : (w : ℕ) (a : Fact) → start_for w t a ≡ start_for w v a
  unfolding start_for
  start-same w a =
      rw (s.predicate, fits-same t.subject v.subject a.subject s.subject, fits-same t.subject v.subject (typed w a) s.subject, fits-same t.object v.object a.object s.object)

  -- t leads where v does, but for the number of a gap
  link-same : SameTerm (link t) (link v)
  unfolding link
  link-same = by_cases (named t.predicate) (λ n. rw (← s.predicate, n) (inl refl)) (λ n. rw (← s.predicate, n) s.object)

  goal-same : (a : Fact) → goal_for t a ≡ goal_for v a
  unfolding goal_for property
  goal-same a = rw (fits-same (link t) (link v) (link a) link-same, s.predicate)

  ways-same : ways t ≡ ways v
  unfolding ways
  ways-same = rw s.predicate

  -- so as functions
  starts-same : (w : ℕ) → start_for w t ≡ start_for w v
  starts-same w = λ i a. start-same w a i

  goals-same : goal_for t ≡ goal_for v
  goals-same = λ i a. goal-same a i

  module _ (table : List Fact) where
    reaches_same : (k : ℕ) → reaches table t k ≡ reaches table v k
    unfolding reaches
    reaches_same k = λ i. any (λ w. any (goals-same i) (layer (starts-same w i) (next w) table k)) (ways-same i)

    pub fewest-same : fewest table t ≡ fewest table v
    unfolding fewest
    fewest-same = λ i. least (λ k. reaches_same k i) 1 (length table)

    way_same : (k : ℕ) → way_of table t k ≡ way_of table v k
    unfolding way_of
    way_same k = λ i. first_of (λ w. any (goals-same i) (layer (starts-same w i) (next w) table k)) sp (ways-same i)

    by-same : (w k : ℕ) → chosen_by table t w k ≡ chosen_by table v w k
    unfolding chosen_by
    by-same w k = λ i. back_from (starts-same w i) (next w) table (fact 0 0 0) (goals-same i) k

    of-same : (o : Option ℕ) → chosen_of table t o ≡ chosen_of table v o
    unfolding chosen_of
    of-same none = refl
    of-same (some k) = rw (way_same k, by-same (way_of table v k) k)

    pub chosen-same : chosen table t ≡ chosen table v
    unfolding chosen
    chosen-same = rw (fewest-same, of-same (fewest table v))
