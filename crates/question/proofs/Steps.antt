-- The steps of reading back: the passes over the queue and over parts of the facts find the first place that the definitions mean.
-- Assumes nothing.
use mathlib.Core.Path.{◌≡◌, refl, sym, ap, ◌∙◌, subst}
use mathlib.Core.Logic.{⊎_elim}
use mathlib.Core.Bool.{Bool, false, true}
use mathlib.Core.Option.{Option, none, some}
use Rattle.std.specs.Prelude.{Option as Maybe, None, Some, is_some, IfSome, position}
use Rattle.std.specs.List.{position_or_len}
use Rattle.std.proofs.lemmas.List.Sums.{passes_at_first, fails_before_first}
use Rattle.std.proofs.lemmas.Option.{IfSome_then}
use mathlib.Core.List.{List}
use Prim.Native.Nat.{ℕ, ◌+◌, ◌-◌, ◌≤◌, ◌<◌}
use native.Mathlib.Omega.{arith}
use lib.ListN.{length, get_or, set, replicate}
use lib.Dec.{T, eqb, ltb}
use mir.Facts.{and_yes, yes_and, eqb_yes, yes_eqb}
use borrow.Author.Tests.{ne_eqb, ltb-true, lt-ltb}
use Rattle.facts.specs.declared.Fact.{Fact}
use Rattle.rules.specs.Chosen.{fact_in}
use Rattle.rules.specs.Graph.{least}
use Rattle.rules.specs.Paths.{next, goal_for}
use Rattle.rules.proofs.Graph.{Answer, least-answer}
use Rattle.rules.proofs.Chosen.{least-below, least-some}
use Rattle.question.specs.declared.Part.{Part}
use Rattle.question.specs.declared.State.{State}
use Rattle.facts.specs.Facts.{fact}
use Rattle.facts.proofs.Terms.{by_cases, T_of}
use Rattle.question.specs.Row.{Rising}
use Rattle.question.specs.State.{Ordered, MayFollow, NoneLeft, Early}
use Rattle.question.specs.Trace.{optional, AtMost, precedes, before_of, comes_by, ending, Queued, Stepping, Stepped, FirstEnd}
use Rattle.question.proofs.Laws.{equal-or, most-or, to-most}
use Rattle.question.proofs.Parts.{Followed, Noted, note-none, note-more, part-passed, none-passed, part-noted}

-- `at` passes, if it is there, and is at most each that passes: so it is the first that passes, if one does
first-is : (p : ℕ → Bool) (n : ℕ) (at : Maybe ℕ) → IfSome at (λ i. (i < n) × T (p i)) → ((i : ℕ) → i < n → T (p i) → AtMost at i) → at ≡ optional (least p 0 n)
first-is p n at is low = go at is low (least p 0 n) refl (least-answer p 0 n)
  where
    go : (at : Maybe ℕ) → IfSome at (λ i. (i < n) × T (p i)) → ((i : ℕ) → i < n → T (p i) → AtMost at i) → (o : Option ℕ) → least p 0 n ≡ o → Answer p 0 n o → at ≡ optional o
    go None is low none e a = refl
    go None is low (some k) e a = absurd (low k (omega (arith, least-below p 0 n k e)) a.1)
    go (Some i) is low none e a = absurd (a i (omega arith) (omega (arith, is.0)) is.1)
    go (Some i) is low (some k) e a = let z : i ≡ k = omega (arith, low k (omega (arith, least-below p 0 n k e)) a.1, a.2 i (omega arith) is.1) in ap Some z

-- the first place that passes, as a search over the facts gives it
pub position-least : (p : Fact → Bool) (facts : List Fact) → position p facts ≡ optional (least (λ i. p (fact_in facts i)) 0 (length facts))
position-least p facts =
    let k : ℕ = position_or_len p facts in
    first-is (λ i. p (fact_in facts i)) (length facts) (position p facts)
    (by_cases (ltb k (length facts)) (λ y. let l = ltb-true k (length facts) y in rw y (l, T_of _ (passes_at_first p facts (fact 0 0 0) l))) (λ y. rw y tt))
    (λ i h x. most-or k i (λ l. rw (lt-ltb k (length facts) (omega arith)) l)
    (λ l. let z : T false = subst T (fails_before_first p facts i (fact 0 0 0) l) x in absurd z))

-- the queue of a search
pub all-queued : (n : ℕ) (s : State) (m : ℕ) → Ordered n s → Queued n s.mark s.queue m s.to
all-queued n s m o = record { few = to-most o; inside = λ q l. (o.queued q l).0; rising = o.rising; listed = λ i l u. o.listed i l }

module _ (facts : List Fact) (w : ℕ) (mark queue : List ℕ) (m : ℕ) where
  abbrev mark_of : ℕ → ℕ
  mark_of q = get_or mark (get_or queue q 0) 0

  -- ---- one step back

  module _ (b : Fact) (top : ℕ) where
    -- of the places queued from q on, `at` is the first that is marked m and that b may follow, and none has a lower mark
    pub record Looking (at : Maybe ℕ) (q : ℕ) : Type 0 where
      pub high : q ≤ top
      pub is : IfSome at (λ i. (i < length facts) × T (precedes facts w mark m b i))
      pub low : (p : ℕ) → q ≤ p → p < top → T (precedes facts w mark m b (get_or queue p 0)) → AtMost at (get_or queue p 0)
      pub above : (p : ℕ) → q ≤ p → p < top → m ≤ mark_of p

    -- all that is marked m has been passed
    looking-end : (at : Maybe ℕ) (q : ℕ) → Stepping facts mark queue m top → Looking at q → ((p : ℕ) → p < q → mark_of p < m) → Stepped facts w mark queue m b at q
    looking-end at q d k below = record {
      found = first-is (precedes facts w mark m b) (length facts) at k.is (λ i h x.
          let e = eqb_yes {a = get_or mark i 0} {b = m} (and_yes (eqb (get_or mark i 0) m) (next w (fact_in facts i) b) x).0 in
          let p = d.queued.listed i (omega (arith, e, d.some)) (omega (arith, e)) in
          let l : q ≤ p.0 = most-or q p.0 (λ u. u) (λ u. absurd (omega (arith, below p.0 u, ap (λ (y : ℕ). get_or mark y 0) p.2, e))) in
          rw p.2 at (k.low p.0 l p.1 (subst (λ (y : ℕ). T (precedes facts w mark m b y)) (sym p.2) x)));
      queued = record {
        few = omega (arith, k.high, d.queued.few);
        inside = λ p l. d.queued.inside p (omega (arith, k.high));
        rising = λ p r l u. d.queued.rising p r l (omega (arith, k.high));
        listed = λ i l u.
            let p = d.queued.listed i l (omega arith) in
            (p.0, most-or q p.0 (λ v. absurd (omega (arith, k.above p.0 v p.1, ap (λ (y : ℕ). get_or mark y 0) p.2, d.some))) (λ v. v), p.2);
      };
    }

    -- where the marks fall below m, or the queue ends
    pub looking-stop : (at : Maybe ℕ) (q : ℕ) → Stepping facts mark queue m top → Looking at q → 0 < q → mark_of (q - 1) < m → Stepped facts w mark queue m b at q
    looking-stop at q d k h l = looking-end at q d k (λ p u. omega (arith, d.queued.rising p (q - 1) (omega arith) (omega (arith, k.high))))

    pub looking-all : (at : Maybe ℕ) (q : ℕ) → Stepping facts mark queue m top → Looking at q → q ≤ 0 → Stepped facts w mark queue m b at 0
    looking-all at q d k h = let e : q ≡ 0 = omega arith in looking-end at 0 d (subst (Looking at) e k) (λ p u. absurd (omega arith))

  -- ---- the end of the path

  module _ (t : Fact) where
    -- a place marked m leads to b exactly where there is a first such place
    comes-is : (b : Fact) (i : ℕ) → 0 < m → i < length facts → T (precedes facts w mark m b i) → T (comes_by facts w mark t m b)
    comes-is b i s h x =
        let r = least-some (precedes facts w mark m b) (length facts) i h x in
        rw (ne_eqb m 0 (λ e. omega arith), r.1) tt

    comes-says : (b : Fact) → 0 < m → T (comes_by facts w mark t m b) → (i : ℕ) × (i < length facts) × T (precedes facts w mark m b i)
    comes-says b s x = go (least (precedes facts w mark m b) 0 (length facts)) refl (least-answer (precedes facts w mark m b) 0 (length facts)) (rw (ne_eqb m 0 (λ e. omega arith)) at x)
      where
        go : (o : Option ℕ) → least (precedes facts w mark m b) 0 (length facts) ≡ o → Answer (precedes facts w mark m b) 0 (length facts) o → T (is_some (before_of facts w mark m b))
            → (i : ℕ) × (i < length facts) × T (precedes facts w mark m b i)
        go none e a y = absurd (rw e at y)
        go (some i) e a y = (i, omega (arith, least-below (precedes facts w mark m b) 0 (length facts) i e), a.1)

    -- a goal does not come before `best`
    abbrev pub NotBelow : Maybe ℕ → ℕ → Type 0
    NotBelow best b = T (goal_for t (fact_in facts b)) → AtMost best b

    -- of the goals that may follow the places queued before q and marked m, `best` is the first
    pub record Ending (best : Maybe ℕ) (done : List Bool) (q : ℕ) : Type 0 where
      pub is : IfSome best (λ i. (i < length facts) × T (ending facts w mark t m i))
      pub passed : (p : ℕ) → p < q → mark_of p ≡ m → Followed facts w (NotBelow best) (get_or queue p 0)
      pub noted : Noted facts w (NotBelow best) done

    pub ending-begin : (k q : ℕ) → Early facts w t mark queue m q → Ending None (replicate k false) q
    ending-begin k q early = record { is = tt; passed = λ p l e b h y g. absurd (early p l e b h y g); noted = note-none facts w (NotBelow None) k }

    -- a place that is not marked m, or leads to no goal before `best`
    pub ending_skip : (best : Maybe ℕ) (done : List Bool) (q : ℕ) → Ending best done q → (mark_of q ≡ m → Followed facts w (NotBelow best) (get_or queue q 0)) → Ending best done (q + 1)
    ending_skip best done q d f = record {
      is = d.is;
      passed = λ p l e. equal-or p q (λ g. rw g (f (ap mark_of (sym g) ∙ e))) (λ g. d.passed p (omega (arith, g)) e);
      noted = d.noted;
    }

    -- a place whose part is passed
    pub ending-more : (best r : Maybe ℕ) (done : List Bool) (q : ℕ) {p : Part} → Rising facts → 0 < m → get_or queue q 0 < length facts → mark_of q ≡ m
        → MayFollow facts w (fact_in facts (get_or queue q 0)) p → FirstEnd facts w t (fact_in facts (get_or queue q 0)) p.from p.to best r → Ending best done q
        → Ending r (set done p.slot true) (q + 1)
    ending-more best r done q {p} rows pos inside e found first d =
        let i : ℕ = get_or queue q 0 in
        let lower : (b : ℕ) → NotBelow best b → NotBelow r b = λ b f g. first.most b (f g) in
        let note = note-more facts w lower d.noted in
        let here = part-passed facts w (NotBelow r) i p.to found (λ b l u y g. first.low b l u y g) (omega arith) in
        record {
          is = ⊎_elim (λ (x : r ≡ best). rw x d.is) (λ x. IfSome_then r x (λ j y. (
            omega (arith, y.0, found.high.within),
            yes_and (goal_for t (fact_in facts j)) (comes_by facts w mark t m (fact_in facts j)) y.2
                (comes-is (fact_in facts j) i pos inside (yes_and (eqb (get_or mark i 0) m) (next w (fact_in facts i) (fact_in facts j)) (yes_eqb {a = get_or mark i 0} {b = m} e) y.1)),
          ))) first.is;
          passed = λ p l f. equal-or p q (λ g. rw g here) (λ g b u y. lower b (d.passed p (omega (arith, g)) f b u y));
          noted = part-noted facts w (NotBelow r) i rows.few found here note;
        }

    -- a place with no part left
    pub ending-none : (best : Maybe ℕ) (done : List Bool) (q : ℕ) → Rising facts → NoneLeft facts w (fact_in facts (get_or queue q 0)) done → Ending best done q → Ending best done (q + 1)
    ending-none best done q rows left d = ending_skip best done q d (λ e. none-passed facts w (NotBelow best) (get_or queue q 0) rows left d.noted)

    pub ending-end : (top : ℕ) (best : Maybe ℕ) (done : List Bool) (q : ℕ) → Queued (length facts) mark queue m top → 0 < m → Ending best done q → top ≤ q
        → best ≡ optional (least (ending facts w mark t m) 0 (length facts))
    ending-end top best done q s pos d l = first-is (ending facts w mark t m) (length facts) best d.is (λ j h x.
        let u = and_yes (goal_for t (fact_in facts j)) (comes_by facts w mark t m (fact_in facts j)) x in
        let c = comes-says (fact_in facts j) pos u.1 in
        let v = and_yes (eqb (get_or mark c.0 0) m) (next w (fact_in facts c.0) (fact_in facts j)) c.2 in
        let e = eqb_yes {a = get_or mark c.0 0} {b = m} v.0 in
        let p = s.listed c.0 (omega (arith, e, pos)) (omega (arith, e)) in
        d.passed p.0 (omega (arith, p.1)) (ap (λ (y : ℕ). get_or mark y 0) p.2 ∙ e) j h (subst (λ (y : ℕ). T (next w (fact_in facts y) (fact_in facts j))) (sym p.2) v.1) u.0)
