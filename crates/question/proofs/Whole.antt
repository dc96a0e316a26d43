-- From the searches by each way to `fewest`.
-- Assumes nothing.
use mathlib.Core.Path.{◌≡◌, refl, sym, subst}
use mathlib.Core.Logic.{◌⊎◌, inl, inr, ⊎_elim}
use mathlib.Core.Bool.{Bool, true, false, true≢false}
use mathlib.Core.Option.{none, some}
use Rattle.std.specs.Prelude.{Option as Maybe, None, Some, MatchOption}
use Rattle.std.specs.List.{list_any}
use Rattle.std.proofs.lemmas.Option.{none-some, same_Some}
use Rattle.std.proofs.lemmas.Bool.{ltb-true, ltb-false}
use mathlib.Core.List.Memᴰ
use mathlib.Core.List.{List, [], ◌∷◌}
use Prim.Native.Nat.{ℕ, zero, suc, ◌≤◌, ◌<◌}
use native.Mathlib.Nat.{le_of_lt}
use native.Mathlib.Omega.{arith}
use lib.ListN.{length}
use lib.Dec.{T, ltb}
use borrow.Author.Tests.{eq-eqb, ne_eqb}
use Rattle.facts.specs.declared.Fact.{Fact}
use Rattle.facts.specs.Terms.{dom, range}
use Rattle.rules.specs.Steps.{same}
use Rattle.rules.specs.Graph.{◌∈◌, Path}
use Rattle.rules.specs.Paths.{start_for, next, goal_for, ways, HasPathFor, fewest}
use Rattle.rules.specs.Chosen.{way_of, chosen_by, chosen, fact_in}
use Rattle.rules.proofs.Graph.{short}
use Rattle.rules.proofs.Steps.{same-eq, same_self}
use Rattle.rules.proofs.Paths.{plain}
use Rattle.rules.proofs.Fewest.{fewest-is}
use Rattle.rules.proofs.Printed.{path-pos}
use Rattle.rules.proofs.Chosen.{by_read, way-plain, way-dom, way-range}
use Rattle.question.specs.declared.State.{State}
use Rattle.question.specs.Row.{Rising, Sorted, subject_at}
use Rattle.facts.specs.Facts.{before}
use Rattle.facts.specs.Gaps.{is_gap}
use Rattle.facts.proofs.Facts.{Before, by-subject, by-predicate, by-object, before-iff}
use Rattle.question.specs.State.{Met, Nowhere, Left}
use Rattle.columns.specs.Lines.{over}
use Rattle.question.specs.Trace.{Traceable, into}
use Rattle.question.specs.Answer.{Finds, Given, FindsBy, shorter}
use Rattle.question.proofs.Laws.{equal-or}
use Rattle.question.proofs.Ways.{range-dom}

-- ---- facts in order

before-subject : (a b : Fact) → T (before a b) → a.subject ≤ b.subject
before-subject a b h = go ((before-iff a b).0 h)
  where
    go : Before a b → a.subject ≤ b.subject
    go (by-subject l) = omega arith
    go (by-predicate e l) = omega arith
    go (by-object e g l) = omega arith

-- where facts strictly ascend no subject falls
pub sorted_rising : {facts : List Fact} → Sorted facts → Rising facts
sorted_rising {facts} d = record { few = d.few; rises = λ i j l h. go i j l h }
  where
    go : (i j : ℕ) → i ≤ j → j < length facts → subject_at facts i ≤ subject_at facts j
    go i zero l h = let e : i ≡ 0 = omega arith in subst (λ (y : ℕ). subject_at facts y ≤ subject_at facts 0) (sym e) (omega arith)
    go i (suc j) l h = equal-or i (suc j) (λ e. subst (λ (y : ℕ). subject_at facts y ≤ subject_at facts (suc j)) (sym e) (omega arith))
        (λ e. omega (arith, go i j (omega (arith, e)) (omega arith), before-subject (fact_in facts j) (fact_in facts (suc j)) (d.ascends j h)))

-- the test of two counts, as code gives it
pub shorter-is : (f k : Maybe ℕ) (b : Bool) → MatchOption f (b ≡ false) (λ x. MatchOption k (b ≡ true) (λ y. b ≡ ltb x y)) → shorter f k ≡ b
shorter-is None k b is = sym is
shorter-is (Some x) None b is = sym is
shorter-is (Some x) (Some y) b is = sym is

module _ (facts : List Fact) (t : Fact) where
  -- a search meets a goal after at most (length facts) facts
  pub met-few : {w f : ℕ} {s : State} → Met facts w t f s → f ≤ length facts
  met-few {w} m =
      let r = short (start_for w t) (next w) same same-eq same_self m.path in
      omega (arith, m.lowest _ r.0 r.2 m.ends, r.1)

  -- no path for t by w has fewer than f facts
  abbrev Bound : ℕ → ℕ → Type 0
  Bound f w = (a : Fact) (m : ℕ) → Path (start_for w t) (next w) facts a m → T (goal_for t a) → f ≤ m

  -- where no way leads to t, there is no path
  answers-none : (places : List ℕ) → ((w : ℕ) → w ∈ ways t → Nowhere facts w t) → Finds facts t places places None
  unfolding chosen
  answers-none places out =
      let e : fewest facts t ≡ none = fewest-is facts t none (λ h. out h.way h.asked h.end h.count h.path h.goal) in
      record { result = rw e refl; places = rw e refl }

  -- where each way has at least the f facts of a path by w, and w is the first way with so few, the path by w is chosen
  answers-some : (w f : ℕ) (places after : List ℕ) {s : State} → w ∈ ways t → Met facts w t f s → way_of facts t f ≡ w → after ≡ over (chosen_by facts t w f) places
      → ((v : ℕ) → v ∈ ways t → Bound f v) → Finds facts t places after (Some f)
  unfolding chosen
  answers-some w f places after a d z k low =
      let h : HasPathFor facts t = record { way = w; asked = a; end = d.end; count = f; path = d.path; goal = d.ends } in
      let e : fewest facts t ≡ some f = fewest-is facts t (some f) ((h, refl), λ g. low g.way g.asked g.end g.count g.path g.goal) in
      let l : length (chosen_by facts t w f) ≡ f = (by_read facts t w f d.path d.ends).1.long in
      record { result = rw (e, z, l) refl; places = rw (e, z) k }

  -- the answer of one search, where no other way has fewer facts, and no way before it as few
  answers : (w : ℕ) (f : Maybe ℕ) (s : State) (places after : List ℕ) (r : Maybe ℕ) → w ∈ ways t → Left facts w t f s → FindsBy facts w t f places after r
      → (f ≡ None → (v : ℕ) → v ∈ ways t → Nowhere facts v t)
      → ((k : ℕ) → f ≡ Some k → Met facts w t k s → ((v : ℕ) → v ∈ ways t → Bound k v) × (way_of facts t k ≡ w)) → Finds facts t places after r
  answers w None s places after r a l (e, g) out low =
      subst (λ (y : Maybe ℕ). Finds facts t places after y) (sym e) (subst (λ (y : List ℕ). Finds facts t places y None) (sym g) (answers-none places (out refl)))
  answers w (Some k) s places after r a l (e, g) out low =
      let b = low k refl l in
      subst (λ (y : Maybe ℕ). Finds facts t places after y) (sym e) (answers-some w k places after a l b.1 g b.0)

  bound_of : (w f : ℕ) (s : State) → Met facts w t f s → (k : ℕ) → k ≤ f → Bound k w
  bound_of w f s l k h = λ a m x g. omega (arith, l.lowest a m x g)

  pub bound-none : (w : ℕ) (f : Maybe ℕ) (s : State) → Left facts w t f s → f ≡ None → Nowhere facts w t
  bound-none w None s l e = l
  bound-none w (Some f) s l e = absurd (none-some f (sym e))

  met-of : (w : ℕ) (f : Maybe ℕ) (s : State) (k : ℕ) → Left facts w t f s → f ≡ Some k → Met facts w t k s
  met-of w f s k l e = rw e at l

  -- one way, where t is no type
  pub answers-plain : (f : Maybe ℕ) (s : State) (places after : List ℕ) (r : Maybe ℕ) → (t.predicate ≡ 5 → ⊥) → Left facts 2 t f s → FindsBy facts 2 t f places after r → Finds facts t places after r
  unfolding ways
  answers-plain f s places after r h l g =
      let off = ne_eqb t.predicate 5 h in
      answers 2 f s places after r (rw off (Memᴰ.head refl)) l g
      (λ e v a. subst (λ (y : ℕ). Nowhere facts y t) (sym (plain t off a)) (bound-none 2 f s l e))
      (λ k e m. (λ v a. subst (Bound k) (sym (plain t off a)) (bound_of 2 k s m k (omega arith)), way-plain facts t k off))

  two_ways : {v : ℕ} → t.predicate ≡ 5 → v ∈ ways t → (v ≡ 3) ⊎ (v ≡ 4)
  unfolding ways
  two_ways {v} h a =
      let b : v ∈ (dom ∷ range ∷ []) = rw (eq-eqb t.predicate 5 h) at a in
      ⊎_elim (λ e. inl e) (λ c. ⊎_elim (λ e. inr e) (λ d. absurd (Memᴰ.not-nil d)) (Memᴰ.cases_cons c)) (Memᴰ.cases_cons b)

  -- what one of two searches says of its way, where the other has f facts and this at least as many, or no path
  low-by : (v f : ℕ) (k : Maybe ℕ) (u : State) → Left facts v t k u → ((i : ℕ) → k ≡ Some i → f ≤ i) → Bound f v
  low-by v f None u m less = λ b i q y. absurd (m b i q y)
  low-by v f (Some i) u m less = bound_of v i u m f (less i refl)

  -- by range where the way by dom has more facts, and by dom where the way by range has no fewer
  pub answers-range : (f k : Maybe ℕ) (s u : State) (places after : List ℕ) (r : Maybe ℕ) → t.predicate ≡ 5 → Left facts 4 t f s → Left facts 3 t k u
      → shorter f k ≡ true → FindsBy facts 4 t f places after r → Finds facts t places after r
  unfolding ways
  answers-range None k s u places after r h l m less g = absurd (true≢false (sym less))
  answers-range (Some f) k s u places after r h l m less g =
      let on = eq-eqb t.predicate 5 h in
      let more : (i : ℕ) → k ≡ Some i → f < i = λ i e. ltb-true f i (rw e at less) in
      answers 4 (Some f) s places after r (rw on (Memᴰ.tail (Memᴰ.head refl))) l g (λ e. absurd (none-some f (sym e)))
      (λ i e y.
      let same = same_Some f i e in
      rw (← same) (
        λ v a. ⊎_elim (λ e. subst (Bound f) (sym e) (low-by 3 f k u m (λ i e. le_of_lt (more i e)))) (λ e. subst (Bound f) (sym e) (bound_of 4 f s l f (omega arith))) (two_ways h a),
        way-range facts t f on (λ a p q. let b = low-by 3 (suc f) k u m more a f p q in omega arith) l.path l.ends,
      ))

  pub answers-dom : (f : Maybe ℕ) (s : State) (places after : List ℕ) (r : Maybe ℕ) → t.predicate ≡ 5 → Left facts 3 t f s
      → (f ≡ None → Nowhere facts 4 t) → ((i : ℕ) → f ≡ Some i → Bound i 4) → FindsBy facts 3 t f places after r → Finds facts t places after r
  unfolding ways
  answers-dom f s places after r h l out low g =
      let on = eq-eqb t.predicate 5 h in
      answers 3 f s places after r (rw on (Memᴰ.head refl)) l g
      (λ e v a. ⊎_elim (λ x. subst (λ (y : ℕ). Nowhere facts y t) (sym x) (bound-none 3 f s l e)) (λ x. subst (λ (y : ℕ). Nowhere facts y t) (sym x) (out e)) (two_ways h a))
      (λ i e y. (
        λ v a. ⊎_elim (λ x. subst (Bound i) (sym x) (bound_of 3 i s y i (omega arith))) (λ x. subst (Bound i) (sym x) (low i e)) (two_ways h a),
        way-dom facts t i on y.path y.ends,
      ))

  -- the way by range is no shorter
  pub answers-both : (f k : Maybe ℕ) (s u : State) (places after : List ℕ) (r : Maybe ℕ) → t.predicate ≡ 5 → Left facts 3 t f s → Left facts 4 t k u
      → shorter k f ≡ false → FindsBy facts 3 t f places after r → Finds facts t places after r
  answers-both f k s u places after r h l m less =
      answers-dom f s places after r h l (λ e. no-way f k u m less e) (λ i e. low-by 4 i k u m (λ j g. ltb-false j i (rw (e, g) at less)))
    where
      no-way : (f k : Maybe ℕ) (u : State) → Left facts 4 t k u → shorter k f ≡ false → f ≡ None → Nowhere facts 4 t
      no-way f None u m less e = m
      no-way None (Some j) u m less e = absurd (true≢false less)
      no-way (Some i) (Some j) u m less e = absurd (none-some i (sym e))

  -- or no data fact is into the subject
  pub answers-alone : (f : Maybe ℕ) (s : State) (places after : List ℕ) (r : Maybe ℕ) → t.predicate ≡ 5 → is_gap t.subject ≡ false → list_any (into t.subject) facts ≡ false
      → Left facts 3 t f s → FindsBy facts 3 t f places after r → Finds facts t places after r
  answers-alone f s places after r h gap out l =
      answers-dom f s places after r h l (λ e a m p. bound-none 3 f s l e a m (range-dom facts t h gap out p))
      (λ i e a m q. bound_of 3 i s (met-of 3 f s i l e) i (omega arith) a m (range-dom facts t h gap out q))

  -- one search, and its path read back
  pub traceable : (w k : ℕ) (f : Maybe ℕ) (s : State) (size : ℕ) → Given facts w t f s size → f ≡ Some k → Traceable facts w t k s size
  traceable w k f s size d e =
      let m = met-of w f s k d.left e in
      record { some = path-pos m.path; met = m; room = omega (arith, met-few m, d.room) }
