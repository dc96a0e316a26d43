-- The rounds of the search: one push, the end of a round, and the end of the search.
-- Assumes nothing.
use mathlib.Core.Path.{◌≡◌, refl, sym, ap, ◌∙◌, subst}
use mathlib.Core.List.{List}
use Prim.Native.Nat.{ℕ, suc, ◌+◌, ◌≤◌, ◌<◌}
use native.Mathlib.Omega.{arith}
use lib.ListN.{length, set}
use lib.Dec.{T}
use Rattle.facts.specs.declared.Fact.{Fact}
use Rattle.rules.specs.Graph.{Path, first, step}
use Rattle.rules.specs.Paths.{start_for, next, goal_for}
use Rattle.rules.proofs.Graph.{end-in, place, at_place}
use Rattle.facts.specs.Facts.{fact}
use Rattle.rules.proofs.Printed.{path-pos}
use Rattle.question.specs.declared.State.{State}
use Rattle.rules.specs.Chosen.{fact_in}
use Rattle.question.specs.State.{mark_at, place_at, Ordered, Way, MarksPaths, Round, Met, Nowhere, empty, pushed}
use Rattle.question.proofs.Laws.{old-place, equal-or, most-or, new-mark, stays, kept, mark-at-end, push-ordered, old-mark, unmarked, empty-ordered}

module _ (facts : List Fact) (w : ℕ) (t : Fact) where
  -- every mark is at most k + 1
  pub near : {s : State} {k from end : ℕ} → Round facts w t k from end s → (i : ℕ) → mark_at s i ≤ suc k
  near {s} {k} {from} {end} r i = most-or (mark_at s i) 0 (λ l. omega arith) (λ l.
      let q = r.ordered.listed i l in
      let e = ap (mark_at s) q.2 in
      most-or from q.0
      (λ a. most-or end q.0 (λ b. omega (arith, e, r.behind q.0 b q.1)) (λ b. omega (arith, e, r.front q.0 a b)))
      (λ a. omega (arith, e, r.before q.0 a)))

  module _ (s : State) (j k : ℕ) (few : length facts ≤ 1024) (o : Ordered (length facts) s) (h : j < length facts) (z : mark_at s j ≡ 0) where
    abbrev s' : State
    s' = pushed s j (suc k)

    push-sound : MarksPaths facts w t s.mark → Way facts w t j (suc k) → MarksPaths facts w t s'.mark
    push-sound sound way i l = equal-or i j
        (λ e. subst (λ (y : ℕ). (y < length facts) × Way facts w t y (mark_at s' y)) (sym e) (h, subst (Way facts w t j) (sym (new-mark (length facts) s j few o h z (suc k))) way))
        (λ e. let x = old-mark s j (suc k) i e in let d = sound i (omega arith) in (d.0, subst (Way facts w t i) (sym x) d.1))

    push-reached : (i : ℕ) {m : ℕ} → (0 < mark_at s i) × (mark_at s i ≤ m) → (0 < mark_at s' i) × (mark_at s' i ≤ m)
    push-reached i d = let x = old-mark s j (suc k) i (λ e. omega (arith, d.0, ap (mark_at s) e, z)) in (omega (arith, d.0), omega (arith, d.1))

    pub marks-it : 0 < mark_at s' j
    marks-it = omega (arith, new-mark (length facts) s j few o h z (suc k))

  -- a place that is no goal is marked in its round
  pub push-round : (s : State) (j k from end : ℕ) → length facts ≤ 1024 → Round facts w t k from end s → from ≤ end → end ≤ s.to → j < length facts → mark_at s j ≡ 0
      → Way facts w t j (suc k) → (T (goal_for t (fact_in facts j)) → ⊥) → Round facts w t k from end (pushed s j (suc k))
  push-round s j k from end few r a b h z c g =
      let o = r.ordered in
      let s' : State = pushed s j (suc k) in
      let mark = kept (length facts) s j few o h z (suc k) in
      record {
        ordered = push-ordered (length facts) s j few o h z k (near r);
        sound = push-sound s j k few o h z r.sound c;
        before = λ q l. omega (arith, mark q (omega arith), r.before q l);
        front = λ q l m. mark q (omega arith) ∙ r.front q l m;
        behind = λ q l m. equal-or q s.to (λ e. subst (λ (y : ℕ). mark_at s' (place_at s' y) ≡ suc k) (sym e) (mark-at-end (length facts) s j few o h z (suc k)))
            (λ e. let d : q < s.to = omega (arith, e) in mark q d ∙ r.behind q l d);
        plain = λ i l. equal-or i j (λ e x. g (subst (λ (y : ℕ). T (goal_for t (fact_in facts y))) e x)) (λ e. r.plain i (omega (arith, old-mark s j (suc k) i e)));
        reached = λ i l m p q. push-reached s j k few o h z i (r.reached i l m p q);
      }

  -- the places queued in [from, q) have had all that may follow them marked
  abbrev pub Passed : State → ℕ → ℕ → Type 0
  Passed s from q = (p : ℕ) → from ≤ p → p < q → (j : ℕ) → j < length facts → T (next w (fact_in facts (place_at s p)) (fact_in facts j)) → 0 < mark_at s j

  -- a place that is a goal ends the search; what has been passed before led to none
  pub push-met : (s : State) (j k from end x : ℕ) → length facts ≤ 1024 → Round facts w t k from end s → j < length facts → mark_at s j ≡ 0
      → Way facts w t j (suc k) → T (goal_for t (fact_in facts j)) → x ≤ s.to → Passed s from x
      → Met facts w t (suc k) (record { mark = set s.mark j (suc k); queue = set s.queue s.to j; from = x; to = s.to + 1 })
  push-met s j k from end x few r h z c g in-queue pass = record {
    ordered =
        let o = push-ordered (length facts) s j few r.ordered h z k (near r) in
        record { marks = o.marks; places = o.places; all = o.all; queued = o.queued; listed = o.listed; rising = o.rising };
    sound = push-sound s j k few r.ordered h z r.sound c;
    whole = λ i l m p q. push-reached s j k few r.ordered h z i (r.reached i l m p (omega arith));
    end = fact_in facts j;
    path = c;
    ends = g;
    lowest = λ a m p x. most-or m k (λ l. let d = place (fact 0 0 0) (end-in p) in
        let u = r.reached d.0 d.1 m (subst (λ (y : Fact). Path (start_for w t) (next w) facts y m) (sym d.2) p) l in
        absurd (r.plain d.0 u.0 (subst (λ (y : Fact). T (goal_for t y)) (sym d.2) x))) (λ l. l);
    early = λ m e q l u b i y. most-or from q
        (λ a. r.plain b (pass q a l b i (subst (λ (v : ℕ). T (next w (fact_in facts v) (fact_in facts b))) (old-place s j (suc k) q (omega arith)) y)))
        (λ a. absurd (omega (arith, r.before q a, kept (length facts) s j few r.ordered h z (suc k) q (omega arith), u)));
  }

  -- where a place marked k is queued
  pub frontier : {s : State} {k from end : ℕ} → Round facts w t k from end s → (i : ℕ) → 0 < mark_at s i → mark_at s i ≡ k
      → (q : ℕ) × (from ≤ q) × (q < end) × (place_at s q ≡ i)
  frontier {s} {k} {from} {end} r i l e =
      let d = r.ordered.listed i l in
      let x : mark_at s (place_at s d.0) ≡ k = ap (mark_at s) d.2 ∙ e in
      most-or from d.0
      (λ a. most-or end d.0 (λ b. absurd (omega (arith, x, r.behind d.0 b d.1))) (λ b. (d.0, a, b, d.2)))
      (λ a. absurd (omega (arith, x, r.before d.0 a)))

  module _ (s : State) (k from end : ℕ) (r : Round facts w t k from end s) (begun : (j : ℕ) → j < length facts → T (start_for w t (fact_in facts j)) → 0 < mark_at s j) where
    -- a place that follows a marked one is marked, where that is not of the last round, or has been passed
    follow : (i j : ℕ) → i < length facts → j < length facts → 0 < mark_at s i → mark_at s i ≤ k → Passed s from end → T (next w (fact_in facts i) (fact_in facts j)) → 0 < mark_at s j
    follow i j h l m b pass x = equal-or (mark_at s i) k
        (λ e. let q = frontier r i m e in pass q.0 q.1 q.2 j l (subst (λ (y : ℕ). T (next w (fact_in facts y) (fact_in facts j))) (sym q.3) x))
        (λ e.
        (r.reached j l (suc (mark_at s i)) (step (r.sound i m).1 (at_place (fact 0 0 0) facts j l) x) (omega (arith, e))).0)

    marked_by : {b : Fact} {m : ℕ} → Path (start_for w t) (next w) facts b m → Passed s from end → (j : ℕ) → j < length facts → fact_in facts j ≡ b → m ≤ suc k → 0 < mark_at s j
    marked_by (first i x) pass j l e u = begun j l (subst (λ (y : Fact). T (start_for w t y)) (sym e) x)
    marked_by (step {a} {k = m} p i x) pass j l e u =
        let d = place (fact 0 0 0) (end-in p) in
        let v = r.reached d.0 d.1 m (subst (λ (y : Fact). Path (start_for w t) (next w) facts y m) (sym d.2) p) (omega arith) in
        follow d.0 j d.1 l v.0 (omega (arith, v.1)) pass (rw (d.2, e) x)

    -- the next round begins where all of a frontier has been passed
    pub end-round : from ≤ end → end ≤ s.to → Passed s from end → (x : ℕ) → Round facts w t (suc k) end s.to (record { mark = s.mark; queue = s.queue; from = x; to = s.to })
    end-round a b pass x = record {
      ordered = let o = r.ordered in record { marks = o.marks; places = o.places; all = o.all; queued = o.queued; listed = o.listed; rising = o.rising };
      sound = r.sound;
      before = λ q l. most-or from q (λ u. omega (arith, r.front q u l)) (λ u. omega (arith, r.before q u));
      front = λ q l m. r.behind q l m;
      behind = λ q l m. absurd (omega arith);
      plain = r.plain;
      reached = λ i l m p u. (marked_by p pass i l refl u, most-or m k (λ v. (r.reached i l m p v).1) (λ v. omega (arith, near r i)));
    }

    -- where the frontier is empty, no path leads to an unmarked place, so none to a goal
    found : {b : Fact} {m : ℕ} → Path (start_for w t) (next w) facts b m → from ≡ s.to → end ≡ s.to → (j : ℕ) → j < length facts → fact_in facts j ≡ b → 0 < mark_at s j
    found (first i x) a c j l e = begun j l (subst (λ (y : Fact). T (start_for w t y)) (sym e) x)
    found (step {a = b} p i x) a c j l e =
        let d = place (fact 0 0 0) (end-in p) in
        let v = found p a c d.0 d.1 d.2 in
        let q = r.ordered.listed d.0 v in
        let u = r.before q.0 (omega (arith, q.1, a)) in
        follow d.0 j d.1 l v (omega (arith, u, ap (mark_at s) q.2)) (λ p g h. absurd (omega arith)) (rw (d.2, e) x)

    pub nowhere : from ≡ s.to → end ≡ s.to → Nowhere facts w t
    nowhere a c b m p g =
        let d = place (fact 0 0 0) (end-in p) in
        r.plain d.0 (found p a c d.0 d.1 d.2) (subst (λ (y : Fact). T (goal_for t y)) (sym d.2) g)

  -- nothing is marked before the first round
  pub round-zero : Round facts w t 0 0 0 empty
  round-zero = record {
    ordered = empty-ordered (length facts);
    sound = λ i l. absurd (omega (arith, unmarked i));
    before = λ q l. absurd (omega arith);
    front = λ q l m. absurd (omega arith);
    behind = λ q l m. absurd (omega arith);
    plain = λ i l g. omega (arith, unmarked i);
    reached = λ i l m p u. absurd (omega (arith, path-pos p));
  }

  -- from the second round on, the starts are marked
  pub starts-marked : {s : State} {k from end : ℕ} → Round facts w t k from end s → 1 ≤ k → (j : ℕ) → j < length facts → T (start_for w t (fact_in facts j)) → 0 < mark_at s j
  starts-marked r h j l x = (r.reached j l 1 (first (at_place (fact 0 0 0) facts j l) x) h).0

-- ---- the first round

module _ (facts : List Fact) (w : ℕ) (t : Fact) where
  -- the starts below j are marked and are no goals, and nothing from j on is marked
  pub record Seeding (j : ℕ) (s : State) : Type 0 where
    pub round : Round facts w t 0 0 0 s
    pub from : s.from ≡ 0
    pub begun : (i : ℕ) → i < j → T (start_for w t (fact_in facts i)) → 0 < mark_at s i
    pub clear : (i : ℕ) → j ≤ i → mark_at s i ≡ 0

  -- no start stands below j
  pub seeding-begin : (j : ℕ) → ((i : ℕ) → i < j → T (start_for w t (fact_in facts i)) → ⊥) → Seeding j empty
  seeding-begin j out = record { round = round-zero facts w t; from = refl; begun = λ i l y. absurd (out i l y); clear = λ i l. unmarked i }

  pub seeding-push : (j : ℕ) (s : State) → length facts ≤ 1024 → Seeding j s → j < length facts → T (start_for w t (fact_in facts j)) → (T (goal_for t (fact_in facts j)) → ⊥) → Seeding (j + 1) (pushed s j 1)
  seeding-push j s few d h x g =
      let z = d.clear j (omega arith) in
      let o = d.round.ordered in
      record {
        round = push-round facts w t s j 0 0 0 few d.round (omega arith) (omega arith) h z (first (at_place (fact 0 0 0) facts j h) x) g;
        from = d.from;
        begun = λ i l y. equal-or i j (λ e. subst (λ (v : ℕ). 0 < mark_at (pushed s j 1) v) (sym e) (marks-it facts w t s j 0 few o h z))
            (λ e. stays (length facts) s j few o h z 1 i (d.begun i (omega (arith, e)) y));
        clear = λ i l. old-mark s j 1 i (λ e. omega (arith, e)) ∙ d.clear i (omega arith);
      }

  pub seeding-skip : (j : ℕ) (s : State) → Seeding j s → (T (start_for w t (fact_in facts j)) → ⊥) → Seeding (j + 1) s
  seeding-skip j s d g = record {
    round = d.round;
    from = d.from;
    begun = λ i l y. equal-or i j (λ e. absurd (g (subst (λ (v : ℕ). T (start_for w t (fact_in facts v))) e y))) (λ e. d.begun i (omega (arith, e)) y);
    clear = λ i l. d.clear i (omega arith);
  }

  pub seeding-met : (j : ℕ) (s : State) → length facts ≤ 1024 → Seeding j s → j < length facts → T (start_for w t (fact_in facts j)) → T (goal_for t (fact_in facts j)) → Met facts w t 1 (pushed s j 1)
  seeding-met j s few d h x g =
      push-met facts w t s j 0 0 0 s.from few d.round h (d.clear j (omega arith)) (first (at_place (fact 0 0 0) facts j h) x) g (omega (arith, d.from)) (λ p a b. absurd (omega (arith, d.from)))

  -- no start stands from j on
  pub seeding-end : (s : State) (j : ℕ) → ((i : ℕ) → i < length facts → T (start_for w t (fact_in facts i)) → i < j) → Seeding j s → Round facts w t 1 0 s.to s
  seeding-end s j all d = end-round facts w t s 0 0 0 d.round (λ i l y. d.begun i (all i l y) y) (omega arith) (omega arith) (λ p a b. absurd (omega arith)) s.from
