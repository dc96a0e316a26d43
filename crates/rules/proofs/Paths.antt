-- Having a path is closed under the rules; so a derivation has at least as many table lines as some path has facts.
-- Assumes nothing.
use mathlib.Core.Path.{◌≡◌, refl, sym, ap, ◌∙◌}
use mathlib.Core.Logic.{⊎_elim, ⊎_map, ◌⊎◌, inl, inr}
use mathlib.Core.Bool.{Bool, true, false, not, ◌&&◌, ◌||◌, beq, true≢false}
use mathlib.Core.List.Memᴰ
use mathlib.Core.List.{List, [], ◌∷◌}
use Prim.Native.Nat.{ℕ, zero, suc, ◌≤◌}
use native.Mathlib.Omega.{arith}
use lib.ListN.{length}
use lib.Dec.{T, eqb, eqb_refl}
use mir.Facts.{and_yes, yes_and, or_yes, eqb_yes, yes_eqb}
use Rattle.facts.specs.declared.Fact.{Fact}
use Rattle.facts.specs.Terms.{kind_of, is_vocabulary, sc, sp, dom, range, type}
use Rattle.facts.specs.Facts.{fact, named_subject, is_predicate, well_formed}
use Rattle.facts.proofs.Terms.{by_cases, T_of, of_T, of-F, vocabulary-below}
use Rattle.facts.proofs.Facts.{fact-eq, subject-name}
use Rattle.rules.specs.Graph.{◌∈◌, Path, first, step, nodes}
use Rattle.rules.specs.Rules.{Gives, sp-sp, sp-data, sc-sc, sc-type, dom-data, range-data, Rule}
use Rattle.rules.specs.Derivations.{Line, Derives, table_facts, table_lines, Closed, Holds}
use Rattle.rules.specs.Steps.{same}
use Rattle.rules.specs.Paths.{named, link, property, chain, only_table, goes_on, next, typed, start, goal, ways, Runs, HasPath}
use Rattle.rules.proofs.Tests.{or_l, or_r, beq-yes, beq-self}
use Rattle.rules.proofs.Graph.{map-path, append-path, end-in, short}
use Rattle.rules.proofs.Steps.{same-eq, same_self, rule-numbered}
use Rattle.rules.proofs.Derivations.{closed-derives, table_facts-in}
use Rattle.rules.proofs.Formed.{sp-names}

-- ---- what the tests say

pub goal-says : (t a : Fact) → T (goal t a) → (link a ≡ link t) × (property a ≡ property t)
unfolding goal
goal-says t a h = let r = and_yes (eqb (link a) (link t)) (beq (property a) (property t)) h in (eqb_yes r.0, beq-yes (property a) (property t) r.1)

pub goal-is : (t a : Fact) → link a ≡ link t → property a ≡ property t → T (goal t a)
unfolding goal
goal-is t a e f = yes_and (eqb (link a) (link t)) (beq (property a) (property t)) (yes_eqb e) (rw f (beq-self (property t)))

-- a start that is no data fact has the subject and the predicate of t
pub start-other : (w : ℕ) (t a : Fact) → named a.predicate ≡ false → T (start w t a) → (a.predicate ≡ t.predicate) × (a.subject ≡ t.subject)
unfolding start
start-other w t a e h =
    let q = and_yes (eqb a.predicate t.predicate) (eqb a.subject t.subject) (rw e at h) in
    (eqb_yes q.0, eqb_yes q.1)

-- and so has every start where t asks for neither a type nor a data fact
pub start-says : (w : ℕ) (t a : Fact) → named t.predicate ≡ false → eqb t.predicate type ≡ false → T (start w t a)
    → (a.predicate ≡ t.predicate) × (a.subject ≡ t.subject)
unfolding start
start-says w t a n y h = by_cases (named a.predicate) (λ e. absurd (rw (e, n, y) at h)) (λ e. start-other w t a e h)

-- a start for a data fact has its subject and its object
pub start-data : (w : ℕ) (t a : Fact) → named t.predicate ≡ true → T (start w t a) → (named a.predicate ≡ true) × (a.subject ≡ t.subject) × (a.object ≡ t.object)
unfolding start
start-data w t a n h =
    by_cases (named a.predicate)
    (λ e. let q = and_yes (eqb a.subject t.subject) (eqb a.object t.object) (rw (e, n) at h) in (e, eqb_yes q.0, eqb_yes q.1))
    (λ e. let r = start-other w t a e h in ((cc), (cc), (cc)))

-- what may follow: the next of a chain, or a fact by which a property is left
abbrev pub Succeeds : ℕ → Fact → Fact → Type 0
Succeeds w a b = (T (goes_on w a) × (b.predicate ≡ chain (property a))) ⊎ ((property a ≡ true) × (b.predicate ≡ w))

pub next-says : (w : ℕ) (a b : Fact) → T (next w a b) → (b.subject ≡ link a) × Succeeds w a b
unfolding next
next-says w a b h =
    let on : Bool = goes_on w a && eqb b.predicate (chain (property a)) in
    let by : Bool = property a && eqb b.predicate w in
    let r = and_yes (eqb b.subject (link a)) (on || by) h in (
      eqb_yes r.0,
      ⊎_map (λ u. let x = and_yes (goes_on w a) (eqb b.predicate (chain (property a))) u in (x.0, eqb_yes x.1))
          (λ v. let x = and_yes (property a) (eqb b.predicate w) v in (of_T (property a) x.0, eqb_yes x.1)) (or_yes on by r.1),
    )

next-is : (w : ℕ) (a b : Fact) → b.subject ≡ link a → Succeeds w a b → T (next w a b)
unfolding next
next-is w a b e f = yes_and (eqb b.subject (link a)) _ (yes_eqb e) (go f)
  where
    go : Succeeds w a b → T (goes_on w a && eqb b.predicate (chain (property a)) || property a && eqb b.predicate w)
    go (inl (g, q)) = or_l (goes_on w a && eqb b.predicate (chain (property a))) _ (yes_and (goes_on w a) _ g (yes_eqb q))
    go (inr (p, q)) = or_r (goes_on w a && eqb b.predicate (chain (property a))) _ (yes_and (property a) _ (T_of _ p) (yes_eqb q))

-- ---- terms and facts by their predicate

-- a name is in no part of the vocabulary
pub name-not : (v n : ℕ) → named v ≡ false → named n ≡ true → eqb n v ≡ false
name-not v n f h = by_cases (eqb n v) (λ e. absurd (true≢false (sym h ∙ ap named (eqb_yes {a = n} {b = v} (T_of _ e)) ∙ f))) (λ e. e)

pub not-type : (n : ℕ) → named n ≡ true → eqb n type ≡ false
unfolding kind_of
not-type n h = name-not type n refl h

pub link-vocabulary : (f : Fact) → named f.predicate ≡ false → link f ≡ f.object
unfolding link
link-vocabulary f e = rw e

pub link-data : (f : Fact) → named f.predicate ≡ true → link f ≡ f.predicate
unfolding link
link-data f e = rw e

pub property-data : (f : Fact) → named f.predicate ≡ true → property f ≡ true
unfolding property
property-data f e = rw e

pub property-of : (t a : Fact) → t.predicate ≡ a.predicate → property t ≡ property a
unfolding property
property-of t a e = rw e

-- a dom or range fact is no data fact, asks for no type, and leads to a class
pub only-says : (f : Fact) → only_table f.predicate ≡ true → (named f.predicate ≡ false) × (eqb f.predicate type ≡ false) × (property f ≡ false)
unfolding only_table kind_of property
only-says f o =
    ⊎_elim (λ d. go dom refl refl refl (eqb_yes d)) (λ r. go range refl refl refl (eqb_yes r))
    (or_yes (eqb f.predicate dom) (eqb f.predicate range) (T_of _ o))
  where
    go : (v : ℕ) → named v ≡ false → eqb v type ≡ false → property (fact 0 v 0) ≡ false → f.predicate ≡ v
        → (named f.predicate ≡ false) × (eqb f.predicate type ≡ false) × (property f ≡ false)
    go v n y p e = (ap named e ∙ n, ap (λ x. eqb x type) e ∙ y, property-of f (fact 0 v 0) e ∙ p)

pub name-open : (f : Fact) → named f.predicate ≡ true → only_table f.predicate ≡ false
name-open f n = by_cases (only_table f.predicate) (λ o. absurd (true≢false (sym n ∙ (only-says f o).0))) (λ o. o)

property-open : (f : Fact) → property f ≡ true → only_table f.predicate ≡ false
property-open f p = by_cases (only_table f.predicate) (λ o. absurd (true≢false (sym p ∙ (only-says f o).2))) (λ o. o)

-- the vocabulary of the facts that rules give
pub data Open : ℕ → Type 0 where
  is-sc : Open sc
  is-sp : Open sp
  is-type : Open type

pub open_of : (P : ℕ) → T (is_predicate P) → named P ≡ false → only_table P ≡ false → Open P
unfolding is_predicate only_table
open_of zero p n o = absurd p
open_of (suc zero) p n o = is-sc
open_of (suc (suc zero)) p n o = is-sp
open_of (suc (suc (suc zero))) p n o = absurd (true≢false o)
open_of (suc (suc (suc (suc zero)))) p n o = absurd (true≢false o)
open_of (suc (suc (suc (suc (suc zero))))) p n o = is-type
open_of (suc (suc (suc (suc (suc (suc k)))))) p n o =
    let P : ℕ = suc (suc (suc (suc (suc (suc k))))) in
    ⊎_elim (λ h. absurd (true≢false (sym (of_T (named P) h) ∙ n))) (λ h. absurd (omega (arith, vocabulary-below P h))) (or_yes (named P) (is_vocabulary (kind_of P)) p)

-- ---- where a chain goes on

open-goes : (w : ℕ) (a : Fact) → only_table a.predicate ≡ false → T (goes_on w a)
unfolding goes_on
open-goes w a o = or_l (not (only_table a.predicate)) _ (rw o tt)

plain-goes : (a : Fact) → T (goes_on sp a) → only_table a.predicate ≡ false
unfolding goes_on only_table
plain-goes a g = ⊎_elim (λ h. of-F (only_table a.predicate) h) (λ e. ap only_table (eqb_yes {a = a.predicate} {b = sp} e)) (or_yes (not (only_table a.predicate)) (eqb a.predicate sp) g)

way-goes : (w : ℕ) (a : Fact) → a.predicate ≡ w → T (goes_on w a)
unfolding goes_on
way-goes w a e = or_r (not (only_table a.predicate)) _ (yes_eqb e)

weaken : (w : ℕ) (a b : Fact) → T (next sp a b) → T (next w a b)
unfolding chain
weaken w a b h =
    let r = next-says sp a b h in
    next-is w a b r.0 (⊎_elim (λ u. inl (open-goes w a (plain-goes a u.0), u.1)) (λ v. inl (open-goes w a (property-open a v.0), v.1 ∙ ap chain (sym v.0))) r.1)

-- ---- having a path is closed under the rules

pub plain : (t : Fact) {w : ℕ} → eqb t.predicate type ≡ false → w ∈ ways t → w ≡ sp
unfolding ways
plain t e m = Memᴰ.eq_of_singleton (rw e at m)

chain-type : (x : Bool) → eqb (chain x) type ≡ false
unfolding chain
chain-type true = refl
chain-type false = refl

chain-open : (x : Bool) → only_table (chain x) ≡ false
unfolding chain only_table
chain-open true = refl
chain-open false = refl

pub chain-name : (x : Bool) → named (chain x) ≡ false
unfolding chain kind_of
chain-name true = refl
chain-name false = refl

pub chain-property : (A B : ℕ) (x : Bool) → property (fact A (chain x) B) ≡ x
unfolding chain property
chain-property A B true = refl
chain-property A B false = refl

module _ (S : List Fact) where
  -- on a path for a fact that a rule may give, a chain may go on from every fact
  path-goes : (w : ℕ) (t : Fact) → only_table t.predicate ≡ false → {a : Fact} {k : ℕ} → Path (start w t) (next w) S a k → T (goes_on w a)
  path-goes w t o (first {a} m s) =
      by_cases (named a.predicate) (λ e. open-goes w a (name-open a e)) (λ e. open-goes w a (ap only_table (start-other w t a e s).0 ∙ o))
  path-goes w t o (step {a} {b = b} p m n) =
      ⊎_elim (λ u. open-goes w b (ap only_table u.1 ∙ chain-open (property a))) (λ v. way-goes w b v.1) (next-says w a b n).1

  -- on a path for a fact that only the table gives, there is one fact
  only-first : (w : ℕ) (t : Fact) → w ≡ sp → only_table t.predicate ≡ true → {a : Fact} {k : ℕ} (p : Path (start w t) (next w) S a k)
      → (nodes p ≡ a ∷ []) × (a.predicate ≡ t.predicate) × (a.subject ≡ t.subject)
  unfolding nodes
  only-first w t e o (first {a} m s) = let u = only-says t o in let r = start-says w t a u.0 u.1 s in (refl, r.0, r.1)
  only-first w t e o (step {a} {b = b} p m n) =
      let x : only_table a.predicate ≡ true = ap only_table (only-first w t e o p).1 ∙ o in
      ⊎_elim (λ u. absurd (true≢false (sym x ∙ plain-goes a (rw e at u.0)))) (λ v. absurd (true≢false (sym v.0 ∙ (only-says a x).2))) (next-says w a b n).1

  -- it is that very fact
  pub only-path : (t : Fact) → only_table t.predicate ≡ true → (h : HasPath S t) → (nodes h.path ≡ t ∷ []) × (t ∈ S)
  only-path t o h =
      let u = only-says t o in
      let r = only-first h.way t (plain t u.1 h.asked) o h.path in
      let g = goal-says t h.end h.goal in
      let e : h.end ≡ t = fact-eq h.end t r.2 r.1 (sym (link-vocabulary h.end (ap named r.1 ∙ u.0)) ∙ g.0 ∙ link-vocabulary t u.0) in
      (r.0 ∙ ap (λ (x : Fact). x ∷ []) e, Memᴰ.cast (sym e) (end-in h.path))

  -- a path for t goes on along one for the chain from where t leads
  extend : (t r : Fact) (x : Bool) (A B : ℕ) → only_table t.predicate ≡ false → property t ≡ x → property r ≡ x → link t ≡ A → link r ≡ B → ways r ≡ ways t
      → ((w : ℕ) (b : Fact) → T (start w t b) → T (start w r b)) → HasPath S (fact A (chain x) B) → HasPath S t → HasPath S r
  extend t r x A B o p p' l l' v s c h =
      let ch : Fact = fact A (chain x) B in
      let w : ℕ = h.way in
      let only = plain ch (chain-type x) c.asked in
      let g = goal-says t h.end h.goal in
      let z = goal-says ch c.end c.goal in
      let j = append-path (λ a b n. weaken w a b (rw only at n)) h.path c.path
      (λ b u. let q = start-says c.way ch b (chain-name x) (chain-type x) u in next-is w h.end b (cc) (inl (path-goes w t o h.path, (cc)))) in
      record {
        way = w;
        asked = rw v h.asked;
        end = c.end;
        count = j.0;
        path = map-path (λ b m. m) (s w) (λ a b n. n) j.1;
        goal = goal-is r c.end (z.0 ∙ link-vocabulary ch (chain-name x) ∙ sym l') (z.1 ∙ chain-property A B x ∙ sym p');
      }

  -- a path for a data fact goes on with a fact that gives its subject or its object a type
  leave : (X A Y B w : ℕ) → named A ≡ true → w ∈ ways (fact (typed w (fact X A Y)) type B) → named w ≡ false → eqb w sp ≡ false
      → fact A w B ∈ S → HasPath S (fact X A Y) → HasPath S (fact (typed w (fact X A Y)) type B)
  unfolding start typed link property kind_of
  leave X A Y B w n m u y f h =
      let d : Fact = fact X A Y in
      let only = plain d (not-type A n) h.asked in
      let g = goal-says d h.end h.goal in
      let l = link-data d n in
      let p = property-data d n in
      record {
        way = w;
        asked = m;
        end = fact A w B;
        count = _;
        path = step (map-path (λ b m. m) (λ b s. let q = start-data h.way d b n s in rw q.0 (yes_eqb {a = typed w b} {b = typed w d} (cc))) (λ a b n. weaken w a b (rw only at n)) h.path)
            f (next-is w h.end (fact A w B) (cc) (inr ((cc), refl)));
        goal = goal-is (fact (typed w d) type B) (fact A w B) (rw u) (rw (u, y));
      }

  -- having a path is closed under the rules
  rules : {n : ℕ} {p q r : Fact} → Gives n p q r → T (well_formed p) → HasPath S p → HasPath S q → HasPath S r
  unfolding start typed link property kind_of chain ways only_table named_subject
  rules (sp-sp {A} {B} {C}) u h k = extend (fact A sp B) (fact A sp C) true B C refl refl refl refl refl refl (λ w b s. s) k h
  rules (sp-data {A} {B} {X} {Y}) u h k =
      let n = sp-names A B u in
      let a = n.0 in
      let b = n.1 in
      extend (fact X A Y) (fact X B Y) true A B (name-open (fact X A Y) a)
      (property-data (fact X A Y) a) (property-data (fact X B Y) b) (link-data (fact X A Y) a) (link-data (fact X B Y) b) (rw (not-type A a, not-type B b))
      (λ w c s. let q = start-data w (fact X A Y) c a s in rw (q.0, b) (yes_and (eqb c.subject X) (eqb c.object Y) (yes_eqb q.1) (yes_eqb q.2))) h k
  rules (sc-sc {A} {B} {C}) u h k = extend (fact A sc B) (fact A sc C) false B C refl refl refl refl refl refl (λ w b s. s) k h
  rules (sc-type {A} {B} {X}) u h k = extend (fact X type A) (fact X type B) false A B refl refl refl refl refl refl (λ w b s. s) h k
  rules (dom-data {A} {B} {X} {Y}) u h k =
      leave X A Y B dom (subject-name (fact A dom B) u refl) (Memᴰ.head refl) refl refl (only-path (fact A dom B) refl h).1 k
  rules (range-data {A} {B} {X} {Y}) u h k =
      leave X A Y B range (subject-name (fact A range B) u refl) (Memᴰ.tail (Memᴰ.head refl)) refl refl (only-path (fact A range B) refl h).1 k

-- a fact of S has a path of one fact
start-self : (w : ℕ) (t : Fact) → T (start w t t)
unfolding start
start-self w t =
    by_cases (named t.predicate)
    (λ e. rw e (yes_and (eqb t.subject t.subject) _ (eqb_refl t.subject) (eqb_refl t.object)))
    (λ e. rw e (yes_and (eqb t.predicate t.predicate) _ (eqb_refl t.predicate) (eqb_refl t.subject)))

some-way : (t : Fact) → (w : ℕ) × (w ∈ ways t)
unfolding ways
some-way t = by_cases (eqb t.predicate type) (λ e. (dom, rw e (Memᴰ.head refl))) (λ e. (sp, rw e (Memᴰ.head refl)))

pub holds : (S : List Fact) → Holds (HasPath S) S
holds S t m =
    let w = some-way t in
    record { way = w.0; asked = w.1; end = t; count = 1; path = first m (start-self w.0 t); goal = goal-is t t refl refl }

pub path-closed : (S : List Fact) → Closed Rule (HasPath S)
path-closed S n p q r s = rules S s.gives s.first

-- complete: a derived fact has a path over the facts of the derivation's table lines
pub derives-path : {table : List Fact} {d : List Line} {t : Fact} → Derives Rule table d t → HasPath (table_facts d) t
derives-path {table} {d} h = closed-derives Rule table (HasPath (table_facts d)) (path-closed (table_facts d)) (holds (table_facts d)) h

-- ---- the least number of facts

-- short: a path over S gives one of at most as many facts as S has, over any facts that have those of S among them
pub shorten : {st : ℕ → Fact → Bool} {g : Fact → Bool} {ws : List ℕ} {S : List Fact} (table : List Fact) → ((f : Fact) → f ∈ S → f ∈ table) → Runs st g ws S
    → (h : Runs st g ws table) × (h.count ≤ length S)
shorten {st} table sub h =
    let r = short (st h.way) (next h.way) same same-eq same_self h.path in
    (record { way = h.way; asked = h.asked; end = h.end; count = r.0; path = map-path sub (λ b s. s) (λ a b n. n) r.2; goal = h.goal }, r.1)

-- a derivation from facts of the table has at least as many table lines as some path over the table has facts
pub no-fewer : {part table : List Fact} {d : List Line} {t : Fact} → ((f : Fact) → f ∈ part → f ∈ table) → Derives Rule part d t
    → (h : HasPath table t) × (h.count ≤ table_lines d)
unfolding table_lines
no-fewer {part} {table} sub h = shorten table (λ f m. sub f (table_facts-in Rule part rule-numbered h f m)) (derives-path h)
