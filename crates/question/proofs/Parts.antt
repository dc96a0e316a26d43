-- The part of the facts that may follow a fact, found by binary search and passed once.
-- Assumes nothing.
use mathlib.Core.Path.{◌≡◌, refl, sym, ap, ◌∙◌, subst}
use mathlib.Core.Logic.{⊎_elim}
use mathlib.Core.Bool.{Bool, true, false, not, ◌||◌, true≢false}
use mathlib.Core.List.{List}
use Prim.Native.Nat.{ℕ, ◌+◌, ◌-◌, ◌≤◌, ◌<◌}
use native.Mathlib.Omega.{arith}
use lib.ListN.{length, get_or, set, drop, replicate, length-drop}
use lib.Seq.{get_or-drop, get_or-set_other}
use lib.Dec.{T, leb, ltb}
use Rattle.std.specs.List.{prefix_len}
use Rattle.std.specs.List.Sorted.{IsPartitionPoint, IsPartitionedBy}
use Rattle.std.proofs.lemmas.List.Sums.{prefix_len-le-length, prefix_len_passes, prefix_len_stops}
use Rattle.std.proofs.lemmas.List.Sorted.{IsPartitionedBy-ltb, IsNonDecreasingBy-from_default}
use Rattle.facts.specs.Facts.{fact}
use borrow.Author.Tests.{lt-leb, leb-true, leb-false, ltb-true, ltb-false}
use Rattle.std.specs.Prelude.{Option as Maybe, None, Some, IfSome}
use Rattle.facts.specs.declared.Fact.{Fact}
use Rattle.question.specs.declared.Part.{Part}
use Rattle.facts.proofs.Terms.{by_cases}
use Rattle.rules.specs.Chosen.{fact_in}
use Rattle.rules.specs.Paths.{next, link, property, chain, only_table, goes_on}
use Rattle.rules.proofs.Paths.{next-says, only-says}
use Rattle.question.specs.Row.{subject_at, Cut, Rising, may_come_before}
use Rattle.question.specs.Trace.{AtMost}
use Rattle.question.specs.State.{slot_of, MayFollow, NoneLeft, absent, shut, passed}
use Rattle.question.proofs.Laws.{equal-or, most-or, blank-at}

-- what may follow depends on where a fact leads, whether to a property, and whether a chain goes on
next-same : (w : ℕ) (a c b : Fact) → link a ≡ link c → property a ≡ property c → goes_on w a ≡ goes_on w c → T (next w a b) → T (next w c b)
unfolding next
next-same w a c b e f g h = rw (← e, ← f, ← g) h

only-shut : (w : ℕ) (a : Fact) → goes_on w a ≡ false → only_table a.predicate ≡ true
unfolding goes_on
only-shut w a e = by_cases (only_table a.predicate) (λ o. o) (λ o. absurd (true≢false (rw o at e)))

-- nothing follows a fact from which no chain goes on
next-none : (w : ℕ) (a b : Fact) → goes_on w a ≡ false → T (next w a b) → ⊥
next-none w a b e h =
    ⊎_elim (λ (x : T (goes_on w a) × (b.predicate ≡ chain (property a))). let z : T false = subst T e x.0 in z)
    (λ (x : (property a ≡ true) × (b.predicate ≡ w)). true≢false (sym x.0 ∙ (only-says a (only-shut w a e)).2)) (next-says w a b h).1

slot-only : (p q : Bool) (l m : ℕ) → l ≤ 1024 → m ≤ 1024 → slot_of p l ≡ slot_of q m → (p ≡ q) × (l ≡ m)
slot-only true true l m a b e = (refl, omega arith)
slot-only false false l m a b e = (refl, e)
slot-only true false l m a b e = absurd (omega arith)
slot-only false true l m a b e = absurd (omega arith)

-- ---- the ends of the part with the subject x

module _ (facts : List Fact) (x : ℕ) (rising : Rising facts) where
  -- what a search by halves finds
  pub point-cut : (r : ℕ) → r ≤ length facts → IsPartitionPoint (λ f. ltb f.subject x ≡ true) (λ f. ltb f.subject x ≡ false) facts r → Cut facts x r
  point-cut r within point = record {
    within = within;
    below = λ k l. ltb-true _ _ (point.0 k (fact 0 0 0) (omega arith) l);
    above = λ k l m. ltb-false _ _ (point.1 k (fact 0 0 0) l m);
  }

  pub point-asked : IsPartitionedBy (λ f. ltb f.subject x) facts
  point-asked = IsPartitionedBy-ltb (λ f. f.subject) facts x (IsNonDecreasingBy-from_default (λ f. f.subject) facts (fact 0 0 0) rising.rises)

  -- and behind it, a walk
  pub run-cut : (lo r : ℕ) → Cut facts x lo → r ≡ lo + prefix_len (λ f. leb f.subject x) (drop lo facts) → Cut facts (x + 1) r
  run-cut lo r low is =
      let p : Fact → Bool = λ f. leb f.subject x in
      let rest : List Fact = drop lo facts in
      let size : length rest ≡ length facts - lo = length-drop lo facts in
      let at : (j : ℕ) → (get_or rest j (fact 0 0 0)).subject ≡ subject_at facts (lo + j) = λ j. ap (λ (f : Fact). f.subject) (get_or-drop lo facts j (fact 0 0 0)) in
      record {
        within = omega (arith, prefix_len-le-length p rest, low.within);
        below = λ k l. most-or lo k
            (λ u. let e : lo + (k - lo) ≡ k = omega arith in
            omega (arith, leb-true _ _ (prefix_len_passes p rest (k - lo) (fact 0 0 0) (omega arith)), at (k - lo), ap (subject_at facts) e))
            (λ u. omega (arith, low.below k u));
        above = λ k l m. omega (arith, leb-false _ _ (prefix_len_stops p rest (fact 0 0 0) (omega (arith, low.within))), at (prefix_len p rest), ap (subject_at facts) is, rising.rises r k l m);
      }

-- no part is left, where it is noted as passed or no chain goes on, and where it is empty
module _ (facts : List Fact) (w : ℕ) (a : Fact) (done : List Bool) {x lo d : ℕ} (e : x ≡ link a) (low : Cut facts x lo) (is : d ≡ slot_of (property a) lo) where
  pub none-shut : {on : Bool} → on ≡ goes_on w a → get_or done d false || not on ≡ true → NoneLeft facts w a done
  none-shut {on} g h = by_cases (get_or done d false) (λ y. passed (rw e at low) (rw is at y)) (λ y. shut (sym g ∙ off on (rw y at h)))
    where
      off : (b : Bool) → not b ≡ true → b ≡ false
      off true z = absurd (true≢false (sym z))
      off false z = refl

  pub none-empty : {hi : ℕ} → Cut facts (x + 1) hi → hi ≤ lo → NoneLeft facts w a done
  none-empty {hi} high h =
      absent (rw e at low) (record { within = low.within; below = λ i l. omega (arith, low.below i l, e); above = λ i l m. omega (arith, high.above i (omega arith) m, e) })

-- a place is marked
abbrev pub Marked : List ℕ → ℕ → Type 0
Marked mark b = 0 < get_or mark b 0

-- P of each place that may follow another: that it is marked, say
module _ (facts : List Fact) (w : ℕ) where
  abbrev pub Followed : (ℕ → Type 0) → ℕ → Type 0
  Followed P i = (b : ℕ) → b < length facts → T (next w (fact_in facts i) (fact_in facts b)) → P b

  -- what is noted as passed: P of all that may follow a place that leads to the part
  pub record Noted (P : ℕ → Type 0) (done : List Bool) : Type 0 where
    pub all : (l : ℕ) → l < length facts → (p : Bool) → (get_or done (slot_of p l) false ≡ true) → (i : ℕ) → link (fact_in facts i) ≡ subject_at facts l → property (fact_in facts i) ≡ p
        → goes_on w (fact_in facts i) ≡ true → Followed P i

  pub note-none : (P : ℕ → Type 0) (m : ℕ) → Noted P (replicate m false)
  note-none P m = record { all = λ l h p f. absurd (true≢false (sym f ∙ blank-at false m (slot_of p l))) }

  pub note-more : {P Q : ℕ → Type 0} {done : List Bool} → ((b : ℕ) → P b → Q b) → Noted P done → Noted Q done
  note-more f note = record { all = λ l h p g i e e' o b u y. f b (note.all l h p g i e e' o b u y) }

  module _ (P : ℕ → Type 0) where
    -- only facts of the part may follow
    in-part : (i lo hi j : ℕ) → Cut facts (link (fact_in facts i)) lo → Cut facts (link (fact_in facts i) + 1) hi → hi ≤ j
        → ((b : ℕ) → lo ≤ b → b < j → T (next w (fact_in facts i) (fact_in facts b)) → P b) → Followed P i
    in-part i lo hi j low high l done v u y =
        let z = (next-says w (fact_in facts i) (fact_in facts v) y).0 in
        done v (most-or lo v (λ c. c) (λ c. absurd (omega (arith, low.below v c, z)))) (most-or hi v (λ c. absurd (omega (arith, high.above v c u, z))) (λ c. omega arith)) y

    -- after the pass over the part that may follow a place, P holds of all that may follow it
    pub part-passed : (i j : ℕ) {p : Part} → MayFollow facts w (fact_in facts i) p
        → ((b : ℕ) → p.from ≤ b → b < j → T (next w (fact_in facts i) (fact_in facts b)) → P b) → p.to ≤ j → Followed P i
    part-passed i j {p} d f l = in-part i p.from p.to j d.low d.high l f

    -- and where no part is left, it is so already
    pub none-passed : (i : ℕ) {done : List Bool} → Rising facts → NoneLeft facts w (fact_in facts i) done → Noted P done → Followed P i
    none-passed i r (absent {from = lo} low high) note = in-part i lo lo lo low high (omega arith) (λ b l u y. absurd (omega arith))
    none-passed i r (shut o) note = λ b u y. absurd (next-none w (fact_in facts i) (fact_in facts b) o y)
    none-passed i {done} r (passed {from = lo} low h) note = λ v u y.
        by_cases (goes_on w (fact_in facts i)) (λ on.
        let z = (next-says w (fact_in facts i) (fact_in facts v) y).0 in
        let c : lo ≤ v = most-or lo v (λ c. c) (λ c. absurd (omega (arith, low.below v c, z))) in
        let same : link (fact_in facts i) ≡ subject_at facts lo = omega (arith, r.rises lo v c u, low.above lo (omega arith) (omega arith), z) in
        note.all lo (omega arith) (property (fact_in facts i)) h i same refl on v u y)
        (λ off. absurd (next-none w (fact_in facts i) (fact_in facts v) off y))

    -- where it may not come before the place given, what may follow a place stands behind that
    pub behind-passed : (i : ℕ) (at : Maybe ℕ) → Rising facts → IfSome at (λ j. j < length facts) → may_come_before facts (fact_in facts i) at ≡ false → ((b : ℕ) → AtMost at b → P b) → Followed P i
    unfolding may_come_before
    behind-passed i None rising here e f v u y = absurd (true≢false e)
    behind-passed i (Some at) rising here e f v u y =
        let z = (next-says w (fact_in facts i) (fact_in facts v) y).0 in
        let n : leb (length facts) at ≡ false = lt-leb (length facts) at here in
        let l = leb-false (link (fact_in facts i)) (subject_at facts at) (rw n at e) in
        f v (most-or at v (λ c. c) (λ c. absurd (omega (arith, rising.rises v at (omega arith) here, z, l))))

    -- and that may be noted
    pub part-noted : (i : ℕ) {done : List Bool} {q : Part} → length facts ≤ 1024 → MayFollow facts w (fact_in facts i) q → Followed P i → Noted P done → Noted P (set done q.slot true)
    part-noted i {done} {q} few d here note =
        let own : ℕ = slot_of (property (fact_in facts i)) q.from in
        rw d.slot record {
          all = λ l h p f v g g' o. equal-or (slot_of p l) own
              (λ a.
              let z = slot-only p (property (fact_in facts i)) l q.from (omega arith) (omega (arith, d.high.within, d.some)) a in
              let b : link (fact_in facts v) ≡ link (fact_in facts i) =
              omega (arith, g, ap (subject_at facts) z.1, d.low.above q.from (omega arith) (omega (arith, d.high.within, d.some)), d.high.below q.from d.some) in
              λ b' u y. here b' u (next-same w (fact_in facts v) (fact_in facts i) (fact_in facts b') b (g' ∙ z.0) (o ∙ sym d.on) y))
              (λ a. note.all l h p (sym (get_or-set_other done own (slot_of p l) true false a) ∙ f) v g g' o);
        }
