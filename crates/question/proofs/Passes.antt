-- The nested passes of a round: over the frontier, and over the part of the facts that may follow one place of it.
-- Assumes nothing.
use mathlib.Core.Path.{◌≡◌, refl, sym, ap, ◌∙◌, subst}
use mathlib.Core.List.{List}
use Rattle.std.specs.Prelude.{Some}
use Prim.Native.Nat.{ℕ, suc, ◌+◌, ◌≤◌, ◌<◌}
use native.Mathlib.Numerals.{add-one}
use native.Mathlib.Omega.{arith}
use lib.ListN.{length, set}
use lib.Dec.{T}
use Rattle.facts.specs.declared.Fact.{Fact}
use Rattle.rules.specs.Graph.{step}
use Rattle.rules.specs.Paths.{next, goal_for}
use Rattle.rules.proofs.Graph.{at_place}
use Rattle.facts.specs.Facts.{fact}
use Rattle.question.specs.declared.State.{State}
use Rattle.rules.specs.Chosen.{fact_in}
use Rattle.question.specs.State.{mark_at, place_at, Way, Round, Met, Nowhere, Left, Begun, pushed}
use Rattle.question.proofs.Laws.{equal-or, stays, old-place}
use Rattle.question.proofs.Parts.{Followed, Marked}
use Rattle.question.proofs.Marks.{Passed, push-round, push-met, end-round, nowhere, marks-it, starts-marked}

module _ (facts : List Fact) (w : ℕ) (t : Fact) where
  -- before a round: the frontier is all that is queued from `from` on, and each round took a place at least
  pub record Outer (k : ℕ) (s : State) : Type 0 where
    pub round : Round facts w t k s.from s.to s
    pub one : 1 ≤ k
    pub few : k ≤ s.from + 1
    pub ends : s.from ≤ s.to

  -- in a round: the frontier is queued in [from, end), and what may follow its places before q is marked
  pub record Middle (k from end q : ℕ) (s : State) : Type 0 where
    pub round : Round facts w t k from end s
    pub kept : s.from ≡ from
    pub low : from ≤ q
    pub high : q ≤ end
    pub ends : end ≤ s.to
    pub passed : Passed facts w t s from q

  -- at the place i of the frontier: what may follow it is marked from lo up to j
  pub record Inner (k from end q i lo j : ℕ) (s : State) : Type 0 where
    pub middle : Middle k from end q s
    pub here : q < end
    pub at : place_at s q ≡ i
    pub done : (b : ℕ) → lo ≤ b → b < j → T (next w (fact_in facts i) (fact_in facts b)) → 0 < mark_at s b

  pub inner-begin : (k from end q lo : ℕ) (s : State) → Middle k from end q s → q < end → Inner k from end q (place_at s q) lo lo s
  inner-begin k from end q lo s m h = record { middle = m; here = h; at = refl; done = λ b a c. absurd (omega arith) }

  pub inner-skip : {k from end q i lo : ℕ} (j : ℕ) {s : State} → Inner k from end q i lo j s → (T (next w (fact_in facts i) (fact_in facts j)) → 0 < mark_at s j)
      → Inner k from end q i lo (j + 1) s
  inner-skip {i = i} j {s} d g = record {
    middle = d.middle;
    here = d.here;
    at = d.at;
    done = λ b l u x. equal-or b j (λ e. subst (λ (y : ℕ). 0 < mark_at s y) (sym e) (g (subst (λ (y : ℕ). T (next w (fact_in facts i) (fact_in facts y))) e x)))
        (λ e. d.done b l (omega (arith, e)) x);
  }

  module _ {k from end q i lo : ℕ} (j : ℕ) {s : State} (few : length facts ≤ 1024) (d : Inner k from end q i lo j s) (h : j < length facts) (z : mark_at s j ≡ 0)
      (x : T (next w (fact_in facts i) (fact_in facts j))) where
    way : Way facts w t j (suc k)
    way =
        let m = d.middle in
        let e : mark_at s i ≡ k = ap (mark_at s) (sym d.at) ∙ m.round.front q m.low d.here in
        let l : 0 < mark_at s i = subst (λ (y : ℕ). 0 < mark_at s y) d.at (m.round.ordered.queued q (omega (arith, d.here, m.ends))).1 in
        step (subst (Way facts w t i) e (m.round.sound i l).1) (at_place (fact 0 0 0) facts j h) x

    -- a place that follows and is no goal is marked and queued
    inner-push' : (T (goal_for t (fact_in facts j)) → ⊥) → Inner k from end q i lo (j + 1) (pushed s j (suc k))
    inner-push' g =
        let m = d.middle in
        let o = m.round.ordered in
        let s' : State = pushed s j (suc k) in
        let stay = stays (length facts) s j few o h z (suc k) in
        record {
          middle = record {
            round = push-round facts w t s j k from end few m.round (omega (arith, m.low, m.high)) m.ends h z way g;
            kept = m.kept;
            low = m.low;
            high = m.high;
            ends = omega (arith, m.ends);
            passed = λ p a b v l y. stay v (m.passed p a b v l (subst (λ (u : ℕ). T (next w (fact_in facts u) (fact_in facts v))) (old-place s j (suc k) p (omega (arith, m.high, m.ends))) y));
          };
          here = d.here;
          at = old-place s j (suc k) q (omega (arith, d.here, m.ends)) ∙ d.at;
          done = λ b l u y. equal-or b j (λ e. subst (λ (v : ℕ). 0 < mark_at s' v) (sym e) (marks-it facts w t s j k few o h z)) (λ e. stay b (d.done b l (omega (arith, e)) y));
        }

    pub inner-stays : (b : ℕ) → 0 < mark_at s b → 0 < mark_at (pushed s j (k + 1)) b
    inner-stays b l = stays (length facts) s j few d.middle.round.ordered h z (k + 1) b l

    pub inner-push : (T (goal_for t (fact_in facts j)) → ⊥) → Inner k from end q i lo (j + 1) (pushed s j (k + 1))
    inner-push g = subst (λ (m : ℕ). Inner k from end q i lo (j + 1) (pushed s j m)) (sym (add-one k)) (inner-push' g)

    -- and one that is a goal ends the search at the place q of the queue
    pub inner-met : T (goal_for t (fact_in facts j)) → Met facts w t (suc k) (record { mark = set s.mark j (k + 1); queue = set s.queue s.to j; from = q; to = s.to + 1 })
    inner-met g =
        let m = d.middle in
        subst (λ (y : ℕ). Met facts w t (suc k) (record { mark = set s.mark j y; queue = set s.queue s.to j; from = q; to = s.to + 1 })) (sym (add-one k))
        (push-met facts w t s j k from end q few m.round h z way g (omega (arith, m.high, m.ends)) m.passed)

  -- so the place has been passed
  pub inner-end : {k from end q i lo : ℕ} (j : ℕ) {s : State} → Inner k from end q i lo j s → Followed facts w (Marked s.mark) i → Middle k from end (q + 1) s
  inner-end {q = q} {i} j {s} d all =
      let m = d.middle in
      record {
        round = m.round;
        kept = m.kept;
        low = omega (arith, m.low);
        high = omega (arith, d.here);
        ends = m.ends;
        passed = λ p a b v u y. equal-or p q (λ g. all v u (subst (λ (o : ℕ). T (next w (fact_in facts o) (fact_in facts v))) (ap (place_at s) g ∙ d.at) y))
            (λ g. m.passed p a (omega (arith, g)) v u y);
      }

  -- the next round
  pub outer-again : {k from end q : ℕ} {s : State} → Middle k from end q s → end ≤ q → 1 ≤ k → k ≤ from + 1 → from < end
      → Outer (k + 1) (record { mark = s.mark; queue = s.queue; from = end; to = s.to })
  outer-again {k} {from} {end} {q} {s} m l one few some =
      let passed : Passed facts w t s from end = λ p a b. m.passed p a (omega arith) in
      record {
        round = subst (λ (y : ℕ). Round facts w t y end s.to (record { mark = s.mark; queue = s.queue; from = end; to = s.to })) (sym (add-one k))
            (end-round facts w t s k from end m.round (starts-marked facts w t m.round one) (omega arith) m.ends passed end);
        one = omega arith;
        few = omega arith;
        ends = m.ends;
      }

  -- an empty frontier
  pub outer-none : {k : ℕ} {s : State} → Outer k s → s.to ≤ s.from → Nowhere facts w t
  outer-none {k} {s} o l = nowhere facts w t s k s.from s.to o.round (starts-marked facts w t o.round o.one) (omega (arith, o.ends)) refl

  pub begun-outer : (s : State) → Begun facts w t s → Outer 1 s
  begun-outer s b =
      record { round = subst (λ (y : ℕ). Round facts w t 1 y s.to s) (sym b.from) b.round; one = omega arith; few = omega arith; ends = omega (arith, b.from) }

  -- a goal that was met in the round k
  pub left-met : (k : ℕ) (s : State) → Met facts w t (suc k) s → Left facts w t (Some (k + 1)) s
  left-met k s m = subst (λ (y : ℕ). Left facts w t (Some y) s) (sym (add-one k)) m
