-- Reading the chosen path back: by the marks the same places are found as by paths.
-- Assumes nothing.
use mathlib.Core.Path.{◌≡◌, refl, sym, ap, ◌∙◌, subst}
use mathlib.Core.Bool.{Bool, true, false, ◌&&◌}
use mathlib.Core.Option.{Option, none, some}
use Rattle.std.specs.Prelude.{Some, is_some}
use Rattle.std.proofs.lemmas.Option.{same_Some}
use mathlib.Core.List.{List, [], ◌∷◌, ◌++◌, append_assoc}
use Prim.Native.Nat.{ℕ, zero, suc, ◌≤◌, ◌<◌}
use native.Mathlib.Omega.{arith}
use lib.ListN.{length, get_or, set, drop, length-set}
use lib.Seq.{drop-cons, get_or-set_same, drop-set-lt}
use lib.Dec.{T, eqb, eqb-suc-zero}
use mir.Facts.{and_yes, yes_and, eqb_yes, yes_eqb}
use Rattle.facts.specs.declared.Fact.{Fact}
use Rattle.facts.specs.Facts.{fact}
use Rattle.rules.specs.Graph.{◌∈◌, Path, step, least}
use Rattle.rules.specs.Paths.{start_for, next, goal_for}
use Rattle.rules.specs.Chosen.{arrives, leads, back, chosen_by, fact_in}
use Rattle.facts.proofs.Terms.{by_cases, T_of}
use Rattle.rules.proofs.Graph.{at_place, Answer, least-answer}
use Rattle.rules.proofs.Chosen.{least-below, least-same, arrives-says, arrives-is, leads-some, back_one, from_some, from_is, by_read}
use Rattle.columns.specs.Lines.{over}
use Rattle.question.specs.declared.State.{State}
use Rattle.question.specs.State.{Way, Met}
use Rattle.question.specs.Trace.{optional, precedes, before_of, comes_by, ending}

both : (a b : Bool) → (T a → T b) → (T b → T a) → a ≡ b
both true true f g = refl
both false false f g = refl
both true false f g = absurd (f tt)
both false true f g = absurd (g tt)

and-true : (b : Bool) → b ≡ (b && true)
and-true true = refl
and-true false = refl

and-false : (b : Bool) → false ≡ (b && false)
and-false true = refl
and-false false = refl

module _ (facts : List Fact) (w : ℕ) (t : Fact) (f : ℕ) (s : State) (m : Met facts w t f s) where
  abbrev To : Fact → ℕ → Type 0
  To b k = Path (start_for w t) (next w) facts b k

  -- no path to b has fewer than k facts
  abbrev pub Low : ℕ → Fact → Type 0
  Low k b = (i : ℕ) → To b i → k ≤ i

  -- among the places marked k, and those to which a path of k facts leads, the same lead to b
  module _ (k : ℕ) (b : Fact) (some : 0 < k) (less : k < f) (is : b ∈ facts) (low : Low (suc k) b) where
    by-mark : (i : ℕ) → i < length facts → T (precedes facts w s.mark k b i) → T (leads (start_for w t) (next w) facts (fact 0 0 0) k b i)
    by-mark i h x =
        let u = and_yes (eqb (get_or s.mark i 0) k) (next w (fact_in facts i) b) x in
        let e = eqb_yes {a = get_or s.mark i 0} {b = k} u.0 in
        let p = subst (Way facts w t i) e (m.sound i (omega (arith, e))).1 in
        yes_and (arrives (start_for w t) (next w) facts k (fact_in facts i)) (next w (fact_in facts i) b) (arrives-is _ _ facts p) u.1

    by-path : (i : ℕ) → i < length facts → T (leads (start_for w t) (next w) facts (fact 0 0 0) k b i) → T (precedes facts w s.mark k b i)
    by-path i h x =
        let u = and_yes (arrives (start_for w t) (next w) facts k (fact_in facts i)) (next w (fact_in facts i) b) x in
        let v = m.whole i h k (arrives-says _ _ facts k (at_place (fact 0 0 0) facts i h) u.0) less in
        let l = low _ (step (m.sound i v.0).1 is u.1) in
        yes_and (eqb (get_or s.mark i 0) k) (next w (fact_in facts i) b) (yes_eqb {a = get_or s.mark i 0} {b = k} (omega (arith, l, v.1))) u.1

    pub same_first : least (precedes facts w s.mark k b) 0 (length facts) ≡ least (leads (start_for w t) (next w) facts (fact 0 0 0) k b) 0 (length facts)
    same_first = least-same _ _ 0 (length facts) (λ i a h. both _ _ (by-mark i (omega arith)) (by-path i (omega arith)))

  -- the place found before one to which a shortest path of k + 1 facts leads
  pub record Before (k j i : ℕ) : Type 0 where
    pub found : before_of facts w s.mark k (fact_in facts j) ≡ Some i
    pub inside : i < length facts
    pub arrives : T (arrives (start_for w t) (next w) facts k (fact_in facts i))
    pub low : Low k (fact_in facts i)
    pub back : back (start_for w t) (next w) facts (fact 0 0 0) (suc k) j ≡ back (start_for w t) (next w) facts (fact 0 0 0) k i ++ (j ∷ [])

  pub goes_back : (k j : ℕ) → 0 < k → k < f → j < length facts → T (arrives (start_for w t) (next w) facts (suc k) (fact_in facts j)) → Low (suc k) (fact_in facts j) → (i : ℕ) × Before k j i
  unfolding back
  goes_back zero j s l h a low = absurd (omega arith)
  goes_back (suc k) j s l h a low =
      let r = leads-some _ _ facts (fact 0 0 0) k j a in
      let is : fact_in facts j ∈ facts = at_place (fact 0 0 0) facts j h in
      let e = same_first (suc k) (fact_in facts j) s l is low in
      (r.0, record { found = rw (e, r.1) refl; inside = r.2; arrives = r.3; low = λ i p. let y = low (suc i) (step p is r.4) in omega arith; back = rw r.1 refl })

  -- by the marks and by paths, the same goals end a path of f facts
  comes-is : (k j : ℕ) → f ≡ suc k → j < length facts → T (goal_for t (fact_in facts j)) → comes_by facts w s.mark t k (fact_in facts j) ≡ arrives (start_for w t) (next w) facts (suc k) (fact_in facts j)
  unfolding arrives
  comes-is zero j e h g = refl
  comes-is (suc k) j e h g =
      let is : fact_in facts j ∈ facts = at_place (fact 0 0 0) facts j h in
      let q = same_first (suc k) (fact_in facts j) (omega arith) (omega arith) is (λ i p. omega (arith, m.lowest (fact_in facts j) i p g)) in
      rw (eqb-suc-zero k, q) (both _ _ (λ x. go _ refl (least-answer _ 0 (length facts)) x) (λ x. let r = leads-some _ _ facts (fact 0 0 0) k j x in rw r.1 tt))
    where
      go : (o : Option ℕ) → least (leads (start_for w t) (next w) facts (fact 0 0 0) (suc k) (fact_in facts j)) 0 (length facts) ≡ o
          → Answer (leads (start_for w t) (next w) facts (fact 0 0 0) (suc k) (fact_in facts j)) 0 (length facts) o → T (is_some (optional o))
          → T (arrives (start_for w t) (next w) facts (suc (suc k)) (fact_in facts j))
      go none z a x = absurd x
      go (some i) z a x =
          let u = and_yes (arrives (start_for w t) (next w) facts (suc k) (fact_in facts i)) (next w (fact_in facts i) (fact_in facts j)) a.1 in
          arrives-is _ _ facts (step (arrives-says _ _ facts (suc k) (at_place (fact 0 0 0) facts i (omega (arith, least-below _ 0 (length facts) i z))) u.0) (at_place (fact 0 0 0) facts j h) u.1)

  same_end : (k : ℕ) → f ≡ suc k → least (ending facts w s.mark t k) 0 (length facts) ≡ least (λ j. arrives (start_for w t) (next w) facts f (fact_in facts j) && goal_for t (fact_in facts j)) 0 (length facts)
  same_end k e = least-same _ _ 0 (length facts) (λ j a h. agree j (omega arith))
    where
      agree : (j : ℕ) → j < length facts → ending facts w s.mark t k j ≡ (arrives (start_for w t) (next w) facts f (fact_in facts j) && goal_for t (fact_in facts j))
      agree j h =
          by_cases (goal_for t (fact_in facts j))
          (λ y. rw (y, comes-is k j e h (T_of _ y), e) (and-true (arrives (start_for w t) (next w) facts (suc k) (fact_in facts j))))
          (λ y. rw y (and-false (arrives (start_for w t) (next w) facts f (fact_in facts j))))

  -- a last place is found
  pub end-found : (k : ℕ) → f ≡ suc k → (i : ℕ) × (optional (least (ending facts w s.mark t k) 0 (length facts)) ≡ Some i)
  end-found k e =
      let r = from_some (start_for w t) (next w) facts (fact 0 0 0) (goal_for t) f m.path m.ends in
      (r.0, ap optional (same_end k e ∙ r.1))

  -- what is written from the place i on, after j was found, is the chosen path from there on
  module _ (path₀ : List ℕ) where
    pub record Reading (i j : ℕ) (path : List ℕ) : Type 0 where
      pub short : i < f
      pub inside : j < length facts
      pub arrives : T (arrives (start_for w t) (next w) facts (suc i) (fact_in facts j))
      pub low : Low (suc i) (fact_in facts j)
      pub long : length path ≡ length path₀
      pub here : get_or path i 0 ≡ j
      pub whole : back (start_for w t) (next w) facts (fact 0 0 0) (suc i) j ++ drop (suc i) path ≡ over (chosen_by facts t w f) path₀

    pub reading-begin : (k j : ℕ) → f ≡ suc k → f ≤ length path₀ → Some j ≡ optional (least (ending facts w s.mark t k) 0 (length facts)) → Reading k j (set path₀ k j)
    unfolding chosen_by
    reading-begin k j e room found =
        let r = from_some (start_for w t) (next w) facts (fact 0 0 0) (goal_for t) f m.path m.ends in
        let i : ℕ = r.0 in
        let z : j ≡ i = same_Some j i (found ∙ ap optional (same_end k e ∙ r.1)) in
        let c = from_is (start_for w t) (next w) facts (fact 0 0 0) (goal_for t) f i r.1 in
        let l = (by_read facts t w f m.path m.ends).1.long in
        rw z record {
          short = omega arith;
          inside = r.2;
          arrives = subst (λ (y : ℕ). T (arrives (start_for w t) (next w) facts y (fact_in facts i))) e r.3;
          low = λ b p. omega (arith, m.lowest (fact_in facts i) b p r.4);
          long = length-set path₀ k i;
          here = get_or-set_same path₀ k i 0 (omega arith);
          whole = ap (λ (y : ℕ). back (start_for w t) (next w) facts (fact 0 0 0) y i ++ drop y (set path₀ k i)) (sym e)
              ∙ ap (λ (y : List ℕ). back (start_for w t) (next w) facts (fact 0 0 0) f i ++ y) (drop-set-lt f path₀ k i (omega arith)) ∙ rw (l, c) refl;
        }

    -- before each place but the first, one is found
    pub back-found : (i k j : ℕ) (path : List ℕ) → i ≡ suc k → Reading i j path → (a : ℕ) × (before_of facts w s.mark i (fact_in facts j) ≡ Some a)
    back-found i k j path e d =
        let d' : Reading (suc k) j path = subst (λ (y : ℕ). Reading y j path) e d in
        let r = goes_back (suc k) j (omega arith) d'.short d'.inside d'.arrives d'.low in
        (r.0, ap (λ (y : ℕ). before_of facts w s.mark y (fact_in facts j)) e ∙ r.1.found)

    step_back : (k j j' : ℕ) (path : List ℕ) → f ≤ length path₀ → Reading (suc k) j path → Some j' ≡ before_of facts w s.mark (suc k) (fact_in facts j) → Reading k j' (set path k j')
    step_back k j j' path room d found =
        let r = goes_back (suc k) j (omega arith) d.short d.inside d.arrives d.low in
        let b = r.1 in
        let z : j' ≡ r.0 = same_Some j' r.0 (found ∙ b.found) in
        let u : drop (suc k) (set path k r.0) ≡ j ∷ drop (suc (suc k)) path =
        drop-set-lt (suc k) path k r.0 (omega arith) ∙ drop-cons path (suc k) 0 (omega (arith, d.short, d.long)) ∙ ap (λ (y : ℕ). y ∷ drop (suc (suc k)) path) d.here in
        rw z record {
          short = omega (arith, d.short);
          inside = b.inside;
          arrives = b.arrives;
          low = b.low;
          long = length-set path k r.0 ∙ d.long;
          here = get_or-set_same path k r.0 0 (omega (arith, d.short, d.long));
          whole = rw u (sym (append_assoc (back (start_for w t) (next w) facts (fact 0 0 0) (suc k) r.0) (j ∷ []) (drop (suc (suc k)) path)) ∙ ap (λ (y : List ℕ). y ++ drop (suc (suc k)) path)
              (sym b.back) ∙ d.whole);
        }

    pub reading_step : (i k j j' : ℕ) (path : List ℕ) → i ≡ suc k → f ≤ length path₀ → Reading i j path → Some j' ≡ before_of facts w s.mark i (fact_in facts j) → Reading k j' (set path k j')
    reading_step i k j j' path e room d found =
        step_back k j j' path room (subst (λ (y : ℕ). Reading y j path) e d) (found ∙ ap (λ (y : ℕ). before_of facts w s.mark y (fact_in facts j)) e)

    pub reading-end : (i j : ℕ) (path : List ℕ) → i ≡ 0 → f ≤ length path₀ → Reading i j path → path ≡ over (chosen_by facts t w f) path₀
    reading-end i j path e room d =
        let d' : Reading 0 j path = subst (λ (y : ℕ). Reading y j path) e d in
        drop-cons path 0 0 (omega (arith, d'.short, d'.long)) ∙ ap (λ (y : ℕ). y ∷ drop 1 path) d'.here
        ∙ ap (λ (y : List ℕ). y ++ drop 1 path) (sym (back_one (start_for w t) (next w) facts (fact 0 0 0) j)) ∙ d'.whole
