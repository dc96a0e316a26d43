-- Where paths begin: but by range, and where the subject of t is no gap, in facts with that subject; and where no data fact has
-- it as its object, a path by range is a path by dom.
-- Assumes nothing.
use mathlib.Core.Path.{◌≡◌, refl, sym, ap, ◌∙◌}
use mathlib.Core.Logic.{⊎_elim}
use mathlib.Core.Bool.{Bool, true, false, ◌||◌, true≢false}
use mathlib.Core.List.{List}
use Prim.Native.Nat.{ℕ, ◌+◌}
use native.Mathlib.Omega.{arith}
use lib.ListN.{get_or}
use lib.Dec.{T, eqb}
use mir.Facts.{and_yes, eqb_yes}
use borrow.Author.Tests.{eqb-false, eq-eqb, ne_eqb}
use Rattle.facts.specs.declared.Fact.{Fact}
use Rattle.facts.specs.Terms.{kind_of, sc, type}
use Rattle.facts.specs.Facts.{fact}
use Rattle.facts.specs.Gaps.{is_gap}
use Rattle.facts.proofs.Terms.{by_cases}
use Rattle.rules.specs.Chosen.{fact_in}
use Rattle.rules.specs.Graph.{◌∈◌, Path, first, step}
use Rattle.rules.specs.Paths.{named, property, chain, only_table, goes_on, next, typed, fits, start_for}
use Rattle.rules.proofs.Graph.{place}
use Rattle.rules.proofs.Paths.{next-says, property-of}
use Rattle.rules.proofs.Fillings.{fits-says}
use Rattle.question.specs.Row.{subject_at, Cut}
use Rattle.question.specs.State.{Starting}
use Rattle.std.specs.List.{list_any}
use Rattle.std.proofs.lemmas.List.Folds.{list_any_at}
use Rattle.question.specs.Trace.{into}
use Rattle.question.proofs.Laws.{most-or}

start-subject : (w : ℕ) (t a : Fact) → (w ≡ 4 → ⊥) → is_gap t.subject ≡ false → T (start_for w t a) → a.subject ≡ t.subject
unfolding start_for typed
start-subject w t a h g s =
    by_cases (named a.predicate)
    (λ d. by_cases (named t.predicate)
    (λ e. fits-says _ _ (and_yes (fits t.subject a.subject) (fits t.object a.object) (rw (d, e) at s)).0 g)
    (λ e. fits-says _ _ (and_yes (eqb t.predicate type) (fits t.subject a.subject) (rw (d, e, ne_eqb w 4 h) at s)).1 g))
    (λ d. fits-says _ _ (and_yes (eqb a.predicate t.predicate) (fits t.subject a.subject) (rw d at s)).1 g)

-- a start that is no data fact has the predicate of t
start-predicate : (w : ℕ) (t a : Fact) → named a.predicate ≡ false → T (start_for w t a) → a.predicate ≡ t.predicate
unfolding start_for
start-predicate w t a d s = eqb_yes (and_yes (eqb a.predicate t.predicate) (fits t.subject a.subject) (rw d at s)).0

-- so they stand in the part of that subject
pub starting-run : (facts : List Fact) (w : ℕ) (t : Fact) (lo hi : ℕ) {gap : Bool} → eqb w 4 || gap ≡ false → gap ≡ is_gap t.subject
    → Cut facts t.subject lo → Cut facts (t.subject + 1) hi → Starting facts w t lo hi
starting-run facts w t lo hi {gap} h e low high =
    let x = neither (eqb w 4) gap h in
    let subject : (i : ℕ) → T (start_for w t (fact_in facts i)) → subject_at facts i ≡ t.subject =
    λ i s. start-subject w t (fact_in facts i) (eqb-false w 4 x.0) (sym e ∙ x.1) s in
    record {
      begins = low.within;
      within = high.within;
      all = λ i l s. (
        most-or lo i (λ c. c) (λ c. absurd (omega (arith, low.below i c, subject i s))),
        most-or hi i (λ c. absurd (omega (arith, high.above i c l, subject i s))) (λ c. c),
      );
    }
  where
    neither : (a b : Bool) → a || b ≡ false → (a ≡ false) × (b ≡ false)
    neither true b z = absurd (true≢false z)
    neither false b z = (refl, z)

-- a type or sc fact: it leads to a class, and a chain goes on from it
record Classing (a : Fact) : Type 0 where
  class : property a ≡ false
  further : only_table a.predicate ≡ false

classing : (a : Fact) (p : ℕ) → property (fact 0 p 0) ≡ false → only_table p ≡ false → a.predicate ≡ p → Classing a
classing a p c o e = record { class = property-of a (fact 0 p 0) e ∙ c; further = ap only_table e ∙ o }

-- what follows such a fact by one way follows it by each, and is an sc fact
next-each : (v w : ℕ) (a b : Fact) → Classing a → T (next v a b) → T (next w a b)
unfolding next goes_on
next-each v w a b c h = rw (c.class, c.further) (rw (c.class, c.further) at h)

next-classing : (v : ℕ) (a b : Fact) → Classing a → T (next v a b) → Classing b
unfolding property kind_of only_table chain
next-classing v a b c h =
    ⊎_elim (λ (x : T (goes_on v a) × (b.predicate ≡ chain (property a))). classing b sc refl refl (x.1 ∙ ap chain c.class))
    (λ (x : (property a ≡ true) × (b.predicate ≡ v)). absurd (true≢false (sym x.0 ∙ c.class))) (next-says v a b h).1

module _ (facts : List Fact) (t : Fact) (asks : t.predicate ≡ 5) (gap : is_gap t.subject ≡ false) (out : list_any (into t.subject) facts ≡ false) where
  -- so a path by range begins with no data fact
  start_plain : {a : Fact} → a ∈ facts → T (start_for 4 t a) → named a.predicate ≡ false
  unfolding start_for typed kind_of
  start_plain {a} m s =
      by_cases (named a.predicate)
      (λ d.
      let p = place (fact 0 0 0) m in
      let here : into t.subject (get_or facts p.0 (fact 0 0 0)) ≡ true = rw (p.2, d) (eq-eqb a.object t.subject (fits-says t.subject a.object (rw (d, asks) at s) gap)) in
      absurd (true≢false (sym (list_any_at (into t.subject) facts p.0 (fact 0 0 0) p.1 here) ∙ out))) (λ d. d)

  path-each : {a : Fact} {k : ℕ} → Path (start_for 4 t) (next 4) facts a k → Path (start_for 3 t) (next 3) facts a k × Classing a
  unfolding start_for property kind_of only_table
  path-each (first {a} m s) =
      let d = start_plain m s in
      (first m (rw d (rw d at s)), classing a type refl refl (start-predicate 4 t a d s ∙ asks))
  path-each (step {a} {b} p m x) =
      let q = path-each p in
      (step q.0 m (next-each 4 3 a b q.1 x), next-classing 4 a b q.1 x)

  pub range-dom : {a : Fact} {k : ℕ} → Path (start_for 4 t) (next 4) facts a k → Path (start_for 3 t) (next 3) facts a k
  range-dom p = (path-each p).0
