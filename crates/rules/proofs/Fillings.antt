-- A path for a question is a path, of the same facts, for a fact that fills it, and conversely; without a gap the least count over
-- the fillings is that of the fact itself.
-- Assumes nothing.
use mathlib.Core.Path.{◌≡◌, refl, sym, ap, ◌∙◌, subst}
use mathlib.Core.Logic.{◌↔◌, ⊎_elim}
use mathlib.Core.Bool.{Bool, true, false, cond, beq, true≢false}
use mathlib.Core.List.{List}
use Prim.Native.Nat.{ℕ}
use lib.Dec.{T, eqb}
use mir.Facts.{and_yes, yes_and, or_yes, eqb_yes, yes_eqb}
use Rattle.facts.specs.declared.Fact.{Fact}
use Rattle.facts.specs.Terms.{kind_of, range, type}
use Rattle.facts.specs.Facts.{fact, named_subject, named_object, is_node, well_formed}
use Rattle.facts.specs.Gaps.{is_gap, Fills, Askable, term_or}
use Rattle.facts.proofs.Terms.{by_cases, T_of, of_T}
use Rattle.facts.proofs.Facts.{fact-eq, parts, whole, name-stands, object-name, name_free, data-nodes, word-object}
use Rattle.facts.proofs.Gaps.{predicate-whole, askable-subject, askable-predicate, askable-object, fills-predicate, fills-only}
use Rattle.rules.specs.Graph.{◌∈◌, nodes}
use Rattle.rules.specs.Derivations.{Relation, Derives, Least}
use Rattle.rules.specs.Paths.{named, link, property, typed, start, goal, ways, fits, start_for, goal_for, HasPath, HasPathFor}
use Rattle.rules.specs.Fillings.{LeastFilling}
use Rattle.rules.proofs.Tests.{or_l, or_r, beq-yes, beq-self}
use Rattle.rules.proofs.Graph.{map-path, end-in, begins}
use Rattle.rules.proofs.Paths.{goal-says, goal-is, link-vocabulary, link-data, property-of}

-- ---- without a gap

-- a well-formed fact is its own filling, and the least count over its fillings is its own
pub no-gap-least : (R : Relation) (table : List Fact) (t u : Fact) (f : ℕ) → T (well_formed t) → LeastFilling R table t f u ↔ ((u ≡ t) × Least R table t f)
no-gap-least R table t u f w = (
  λ l. let e = (fills-only t u w).0 l.fills in (e, subst (λ (v : Fact). Least R table v f) e l.least),
  λ h. record {
    fills = (fills-only t u w).1 h.0;
    least = subst (λ (v : Fact). Least R table v f) (sym h.0) h.1;
    lowest = λ v s d g. h.1.lowest d (subst (λ (x : Fact). Derives R table d x) ((fills-only t v w).0 s) g);
  },
)

-- ---- what the tests say

-- a term of a question that is no gap stands for itself alone
pub fits-says : (x n : ℕ) → T (fits x n) → is_gap x ≡ false → n ≡ x
unfolding fits
fits-says x n h g = ⊎_elim (λ y. absurd (true≢false (sym (of_T (is_gap x) y) ∙ g))) (λ y. eqb_yes y) (or_yes (is_gap x) (eqb n x) h)

pub fits-is : (x n : ℕ) → (is_gap x ≡ false → n ≡ x) → T (fits x n)
unfolding fits
fits-is x n h = by_cases (is_gap x) (λ g. or_l (is_gap x) _ (T_of _ g)) (λ g. or_r (is_gap x) _ (yes_eqb (h g)))

-- ---- a path for a filling is one for the question

module _ (t : Fact) (S O : ℕ) (s : is_gap t.subject ≡ false → S ≡ t.subject) (o : is_gap t.object ≡ false → O ≡ t.object) where
  start-for : (w : ℕ) (a : Fact) → T (start w (fact S t.predicate O) a) → T (start_for w t a)
  unfolding start start_for
  start-for w a h =
      by_cases (named a.predicate)
      (λ d. by_cases (named t.predicate)
      (λ n. let q = and_yes (eqb a.subject S) (eqb a.object O) (rw (d, n) at h) in
      rw (d, n) (yes_and (fits t.subject a.subject) _ (fits-is _ _ (λ g. eqb_yes q.0 ∙ s g)) (fits-is _ _ (λ g. eqb_yes q.1 ∙ o g))))
      (λ n. let q = and_yes (eqb t.predicate type) (eqb (typed w a) S) (rw (d, n) at h) in
      rw (d, n) (yes_and (eqb t.predicate type) _ q.0 (fits-is _ _ (λ g. eqb_yes q.1 ∙ s g)))))
      (λ d. let q = and_yes (eqb a.predicate t.predicate) (eqb a.subject S) (rw d at h) in
      rw d (yes_and (eqb a.predicate t.predicate) _ q.0 (fits-is _ _ (λ g. eqb_yes q.1 ∙ s g))))

  goal-for : (a : Fact) → T (goal (fact S t.predicate O) a) → T (goal_for t a)
  unfolding goal_for
  goal-for a h =
      let u : Fact = fact S t.predicate O in
      let q = goal-says u a h in
      yes_and (fits (link t) (link a)) (beq (property a) (property t))
      (fits-is _ _ (λ g. by_cases (named t.predicate)
      (λ n. q.0 ∙ link-data u n ∙ sym (link-data t n))
      (λ n. let e = link-vocabulary t n in q.0 ∙ link-vocabulary u n ∙ o (ap is_gap (sym e) ∙ g) ∙ sym e)))
      (rw (q.1 ∙ property-of u t refl) (beq-self (property t)))

-- a path for a filling of t is one for t, of as many facts
pub filling-path : {S : List Fact} {t u : Fact} → Askable t → Fills t u → (h : HasPath S u) → (k : HasPathFor S t) × (k.count ≡ h.count)
unfolding ways
filling-path {t = t} {u} a f h =
    let p = fills-predicate a f in
    let e : u ≡ fact u.subject t.predicate u.object = fact-eq u _ refl p refl in (
      record {
        way = h.way;
        asked = rw (sym p) h.asked;
        end = h.end;
        count = h.count;
        path = map-path (λ b m. m) (λ b s. start-for t u.subject u.object f.subject f.object h.way b (subst (λ (v : Fact). T (start h.way v b)) e s)) (λ b c n. n) h.path;
        goal = goal-for t u.subject u.object f.subject f.object h.end (subst (λ (v : Fact). T (goal v h.end)) e h.goal);
      },
      refl,
    )

-- ---- a path for a question is one for a filling

-- what the first fact of a path by w puts into a gap as subject
unfoldable begun : ℕ → Fact → Fact → ℕ
unfolding typed kind_of
begun w t a = cond (named a.predicate) (cond (named t.predicate) a.subject (typed w a)) a.subject

-- what its first fact a or its last fact b puts into a gap as object
unfoldable ended : Fact → Fact → Fact → ℕ
unfolding link kind_of
ended t a b = cond (named t.predicate) a.object (link b)

term_is : (x n : ℕ) → T (fits n x) → x ≡ term_or x n
unfolding term_or
term_is x n h = by_cases (is_gap n) (λ g. rw g) (λ g. rw g (fits-says n x h g))

term-whole : (x n : ℕ) → is_gap n ≡ false → term_or x n ≡ n
unfolding term_or
term-whole x n g = rw g

term-node : (b : Bool) (x n : ℕ) → T (is_node b x) → (is_gap n ≡ false → T (is_node b n)) → T (is_node b (term_or x n))
unfolding term_or
term-node b x n p q = by_cases (is_gap n) (λ g. rw g p) (λ g. rw g (q g))

-- a fact leads to a name
link-name : (b : Fact) → T (well_formed b) → named (link b) ≡ true
link-name b w =
    by_cases (named b.predicate) (λ n. rw (link-data b n) n)
    (λ n. rw (link-vocabulary b n) (object-name b w (word-object b.predicate (parts b w).1 n)))

module _ (w : ℕ) (t a b : Fact) (ask : Askable t) (begin : T (start_for w t a)) (end : T (goal_for t b)) where
  abbrev whole-fact : Fact
  whole-fact = fact (term_or (begun w t a) t.subject) t.predicate (term_or (ended t a b) t.object)

  fits-goal : T (fits (link t) (link b)) × (property b ≡ property t)
  unfolding goal_for
  fits-goal = let q = and_yes (fits (link t) (link b)) (beq (property b) (property t)) end in (q.0, beq-yes (property b) (property t) q.1)

  starts-it : T (start w whole-fact a)
  unfolding start start_for begun ended
  starts-it =
      by_cases (named a.predicate)
      (λ d. by_cases (named t.predicate)
      (λ n. let q = and_yes (fits t.subject a.subject) (fits t.object a.object) (rw (d, n) at begin) in
      rw (d, n) (yes_and (eqb a.subject (term_or a.subject t.subject)) _ (yes_eqb (term_is _ _ q.0)) (yes_eqb (term_is _ _ q.1))))
      (λ n. let q = and_yes (eqb t.predicate type) (fits t.subject (typed w a)) (rw (d, n) at begin) in
      rw (d, n) (yes_and (eqb t.predicate type) _ q.0 (yes_eqb (term_is _ _ q.1)))))
      (λ d. let q = and_yes (eqb a.predicate t.predicate) (fits t.subject a.subject) (rw d at begin) in
      rw d (yes_and (eqb a.predicate t.predicate) _ q.0 (yes_eqb (term_is _ _ q.1))))

  ends_it : T (goal whole-fact b)
  unfolding ended
  ends_it =
      goal-is whole-fact b
      (by_cases (named t.predicate)
      (λ n. fits-says _ _ fits-goal.0 (ap is_gap (link-data t n) ∙ predicate-whole _ (askable-predicate ask)) ∙ link-data t n ∙ sym (link-data whole-fact n))
      (λ n. let f : T (fits t.object (link b)) = subst (λ (x : ℕ). T (fits x (link b))) (link-vocabulary t n) fits-goal.0 in
      term_is _ _ f ∙ sym (link-vocabulary whole-fact n ∙ rw n)))
      (fits-goal.1 ∙ property-of t whole-fact refl)

  module _ (wa : T (well_formed a)) (wb : T (well_formed b)) where
    -- a path for a type may begin with a data fact, and type its subject or its object; any other begins with a fact of the question's
    -- predicate, and ends with one that leads to a name
    begun-node : T (is_node (named_subject t.predicate) (begun w t a))
    unfolding begun typed start_for named_subject
    begun-node =
        by_cases (named a.predicate)
        (λ d. let p = data-nodes a wa d in by_cases (named t.predicate) (λ n. rw (d, n, (name_free t.predicate n).0) p.0)
        (λ n. let y : t.predicate ≡ type = eqb_yes (and_yes (eqb t.predicate type) (fits t.subject (typed w a)) (rw (d, n) at begin)).0 in
        by_cases (eqb w range) (λ r. rw (d, n, r, y) p.1) (λ r. rw (d, n, r, y) p.0)))
        (λ d. let e : a.predicate ≡ t.predicate = eqb_yes (and_yes (eqb a.predicate t.predicate) (fits t.subject a.subject) (rw d at begin)).0 in
        rw (d, ← e) (parts a wa).0)

    ended-node : T (is_node (named_object t.predicate) (ended t a b))
    unfolding ended start_for
    ended-node =
        by_cases (named t.predicate)
        (λ n. by_cases (named a.predicate) (λ d. rw (n, (name_free t.predicate n).1) (data-nodes a wa d).1)
        (λ d. let e : a.predicate ≡ t.predicate = eqb_yes (and_yes (eqb a.predicate t.predicate) (fits t.subject a.subject) (rw d at begin)).0 in
        absurd (true≢false (sym n ∙ ap named (sym e) ∙ d))))
        (λ n. rw n (name-stands _ _ (link-name b wb)))

    fills-it : Fills t whole-fact
    fills-it = record {
      formed = whole whole-fact (term-node _ _ _ begun-node (askable-subject ask)) (askable-predicate ask) (term-node _ _ _ ended-node (askable-object ask));
      subject = λ g. term-whole _ _ g;
      predicate = λ g. refl;
      object = λ g. term-whole _ _ g;
    }

-- a path for a question, and the path of the same facts for a fact that fills it
pub record Filled (S : List Fact) (t : Fact) (h : HasPathFor S t) : Type 0 where
  pub filling : Fact
  pub fills : Fills t filling
  pub run : HasPath S filling
  pub count : run.count ≡ h.count
  pub facts : nodes run.path ≡ nodes h.path

pub path-filling : {S : List Fact} (t : Fact) → ((f : Fact) → f ∈ S → T (well_formed f)) → Askable t → (h : HasPathFor S t) → Filled S t h
unfolding ways
path-filling {S} t wf ask h =
    let w : ℕ = h.way in
    let r = begins h.path in
    let a : Fact = r.head in
    let b : Fact = h.end in
    let u : Fact = whole-fact w t a b ask r.starts h.goal in
    let q = r.again (start w u) (starts-it w t a b ask r.starts h.goal) in
    record {
      filling = u;
      fills = fills-it w t a b ask r.starts h.goal (wf a r.inside) (wf b (end-in h.path));
      run = record { way = w; asked = h.asked; end = b; count = h.count; path = q.0; goal = ends_it w t a b ask r.starts h.goal };
      count = refl;
      facts = q.1;
    }
