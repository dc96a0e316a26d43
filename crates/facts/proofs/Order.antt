-- The order of facts, as it is derived of their fields, is that of the paper.
-- Assumes nothing.
use Rattle.std.proofs.Common.{◌≡◌, false, cond, ℕ, eqb, ltb, Ordering, arith}
use Rattle.std.specs.Ordering.{is_lt, nat_cmp, ordering_then}
use borrow.Author.Tests.{eqb-true, le-ltb}
use Rattle.facts.specs.declared.Fact.{Fact}
use Rattle.facts.specs.Facts.{before}
use Rattle.facts.proofs.Terms.{by_cases}

-- two terms decide where they differ
ordered_term : (x y : ℕ) (o : Ordering) → is_lt (ordering_then (nat_cmp x y) o) ≡ cond (eqb x y) (is_lt o) (ltb x y)
ordered_term x y o =
    by_cases (eqb x y)
    (λ e. let n : ltb x y ≡ false = le-ltb x y (omega (arith, eqb-true x y e)) in rw (e, n))
    (λ e. by_cases (ltb x y) (λ l. rw (e, l)) (λ l. rw (e, l)))

last_term : (x y : ℕ) → is_lt (nat_cmp x y) ≡ ltb x y
last_term x y = by_cases (ltb x y) (λ l. rw l) (λ l. by_cases (eqb x y) (λ e. rw (l, e)) (λ e. rw (l, e)))

pub ordered-before : (a b : Fact) → is_lt (ordering_then (nat_cmp a.subject b.subject) (ordering_then (nat_cmp a.predicate b.predicate) (nat_cmp a.object b.object))) ≡ before a b
unfolding before
ordered-before a b = rw (ordered_term a.subject b.subject, ordered_term a.predicate b.predicate, last_term)
