-- The facts of a path, in printed order, are joined one after the other by rules; so they print as a derivation.
-- Assumes nothing.
use mathlib.Core.Path.{◌≡◌, refl, sym, ap, ◌∙◌}
use mathlib.Core.Logic.{⊎_elim, ◌⊎◌, inl, inr}
use mathlib.Core.Bool.{Bool, true, false, true≢false}
use mathlib.Core.List.Memᴰ
use mathlib.Core.List.{List, [], ◌∷◌, ◌++◌, append-nil}
use Prim.Native.Nat.{ℕ, suc, ◌≤◌}
use native.Mathlib.Omega.{arith}
use lib.Seq.{append_snoc}
use lib.ListN.{length, length-append}
use lib.Dec.{T, eqb}
use mir.Facts.{and_yes, eqb_yes, yes_eqb}
use Rattle.facts.specs.declared.Fact.{Fact}
use Rattle.facts.specs.Terms.{kind_of, sc, sp, dom, range, type}
use Rattle.facts.specs.Facts.{fact, well_formed}
use Rattle.facts.proofs.Terms.{by_cases, T_of, of_T}
use Rattle.facts.proofs.Facts.{fact-eq, parts}
use Rattle.rules.specs.Graph.{◌∈◌, Path, first, step, nodes}
use Rattle.rules.specs.Rules.{sp-sp, sp-data, sc-sc, sc-type, dom-data, range-data}
use Rattle.rules.specs.Paths.{named, link, property, chain, next, typed, only_table, start, goal, ways, Runs, HasPath}
use Rattle.rules.specs.Printed.{Printable, behind, print_order}
use Rattle.rules.proofs.Formed.{gives-rule}
use Rattle.rules.proofs.Paths.{plain, link-vocabulary, link-data, property-data, property-of, start-data, start-other, next-says, Succeeds, goal-says, only-path, only-says, chain-name, chain-property, Open, is-sc, is-sp, is-type, open_of}
use Rattle.rules.proofs.Joins.{Joined, on-first, on-second, Joins, done, more, Linear, printable}

-- ---- one more fact

snoc : {table : List Fact} {c d r : Fact} {fs : List Fact} (f : Fact) → Joins table c fs d → f ∈ table → Joined d f r → Joins table c (fs ++ (f ∷ [])) r
snoc f done m j = more m j done
snoc f (more n i js) m j = more n i (snoc f js m j)

result-formed : {c f r : Fact} → Joined c f r → T (well_formed r)
result-formed (on-first n b s) = s.result
result-formed (on-second n b s) = s.result

open-name : {P : ℕ} → Open P → named P ≡ false
unfolding kind_of
open-name is-sc = refl
open-name is-sp = refl
open-name is-type = refl

pub path-pos : {st : Fact → Bool} {nx : Fact → Fact → Bool} {S : List Fact} {a : Fact} {k : ℕ} → Path st nx S a k → 1 ≤ k
path-pos (first m s) = omega arith
path-pos (step p m n) = omega arith

-- a fact of a chain leads to its object, and to what the chain goes on from
chain-on : (b : Fact) (x : Bool) → b.predicate ≡ chain x → (link b ≡ b.object) × (property b ≡ x)
chain-on b x e = (link-vocabulary b (ap named e ∙ chain-name x), property-of b (fact 0 (chain x) 0) e ∙ chain-property 0 0 x)

-- a dom or a range fact leads to its object, a class
way_on : (b : Fact) {w : ℕ} → b.predicate ≡ w → w ∈ dom ∷ range ∷ [] → (link b ≡ b.object) × (property b ≡ false) × (eqb b.predicate sp ≡ false)
unfolding property only_table
way_on b e m =
    let o = ⊎_elim (λ d. ap only_table (e ∙ d)) (λ r. ap only_table (e ∙ Memᴰ.eq_of_singleton r)) (Memᴰ.cases_cons m) in
    let u = only-says b o in
    (link-vocabulary b u.0, u.2, rw u.0 at u.2)

of-type : (t : Fact) → t.predicate ≡ type → (named t.predicate ≡ false) × (property t ≡ false)
unfolding kind_of property
of-type t e = (ap named e, property-of t (fact 0 type 0) e)

-- a data fact that is a start for a type types what is asked
start-typed : (w : ℕ) (t q : Fact) → named q.predicate ≡ true → t.predicate ≡ type → T (start w t q) → typed w q ≡ t.subject
unfolding start
start-typed w t q n y s = eqb_yes (rw (n, (of-type t y).0, of_T (eqb t.predicate type) (yes_eqb y)) at s)

-- a data fact is a start for a data fact or a type, and for nothing that an sp fact answers
start-not-sp : (w : ℕ) (t q : Fact) → named q.predicate ≡ true → named t.predicate ≡ false → property t ≡ true → T (start w t q) → ⊥
unfolding start property
start-not-sp w t q n m p s =
    let e : eqb t.predicate sp ≡ true = rw m at p in
    let y = and_yes (eqb t.predicate type) (eqb (typed w q) t.subject) (rw (n, m) at s) in
    let a : t.predicate ≡ sp = eqb_yes (T_of (eqb t.predicate sp) e) in
    let b : t.predicate ≡ type = eqb_yes y.0 in
    omega arith

-- ---- the printed order of a path's facts

abbrev AllSp : List Fact → Type 0
AllSp fs = (f : Fact) → f ∈ fs → f.predicate ≡ sp

all_snoc : (fs : List Fact) (b : Fact) → AllSp fs → b.predicate ≡ sp → AllSp (fs ++ (b ∷ []))
all_snoc fs b h p = λ f m. ⊎_elim (h f) (λ i. ap (λ (x : Fact). x.predicate) (Memᴰ.eq_of_singleton i) ∙ p) (Memᴰ.append_cases fs m)

-- a fact comes behind sp facts
behind-all : (q : Fact) (fs : List Fact) → AllSp fs → behind q fs ≡ fs ++ (q ∷ [])
unfolding behind
behind-all q [] h = refl
behind-all q (f ∷ fs) h = rw (of_T (eqb f.predicate sp) (yes_eqb (h f (Memᴰ.head refl)))) (ap (λ (x : List Fact). f ∷ x) (behind-all q fs (λ g m. h g (Memᴰ.tail m))))

behind-snoc : (q : Fact) (fs : List Fact) (b : Fact) → eqb b.predicate sp ≡ false → behind q (fs ++ (b ∷ [])) ≡ behind q fs ++ (b ∷ [])
unfolding behind
behind-snoc q [] b e = rw e
behind-snoc q (f ∷ fs) b e = by_cases (eqb f.predicate sp) (λ x. rw x (ap (λ (y : List Fact). f ∷ y) (behind-snoc q fs b e))) (λ x. rw x)

order-snoc : (path : List Fact) (b : Fact) → eqb b.predicate sp ≡ false → print_order (path ++ (b ∷ [])) ≡ print_order path ++ (b ∷ [])
unfolding print_order
order-snoc [] b e = by_cases (named b.predicate) (λ x. rw x) (λ x. rw x)
order-snoc (f ∷ fs) b e = by_cases (named f.predicate) (λ x. rw x (behind-snoc f fs b e)) (λ x. rw x)

behind-length : (q : Fact) (fs : List Fact) → length (behind q fs) ≡ suc (length fs)
unfolding behind
behind-length q [] = refl
behind-length q (f ∷ fs) = by_cases (eqb f.predicate sp) (λ x. rw x (ap suc (behind-length q fs))) (λ x. rw x)

order-length : (path : List Fact) → length (print_order path) ≡ length path
unfolding print_order
order-length [] = refl
order-length (f ∷ fs) = by_cases (named f.predicate) (λ x. rw x (behind-length f fs)) (λ x. rw x)

nodes-length : {st : Fact → Bool} {nx : Fact → Fact → Bool} {S : List Fact} {a : Fact} {k : ℕ} (p : Path st nx S a k) → length (nodes p) ≡ k
unfolding nodes
nodes-length (first m s) = refl
nodes-length (step {b = b} p m n) = omega (arith, length-append (nodes p) (b ∷ []), nodes-length p)

module _ (table : List Fact) (wf : (f : Fact) → f ∈ table → T (well_formed f)) where
  pub one : (f : Fact) → f ∈ table → Linear table f (f ∷ [])
  one f m = record { head = f; rest = []; head_in = m; joins = done; all = refl; formed = wf f m }

  -- the same line, of an equal fact or of equal facts
  of-fact : {c c' : Fact} {fs : List Fact} → c ≡ c' → Linear table c fs → Linear table c' fs
  of-fact e l = rw e at l

  of-facts : {c : Fact} {fs fs' : List Fact} → fs ≡ fs' → Linear table c fs → Linear table c fs'
  of-facts e l = rw e at l

  add : {c r : Fact} {fs : List Fact} (f : Fact) → Linear table c fs → f ∈ table → Joined c f r → Linear table r (fs ++ (f ∷ []))
  add f l m j = record {
    head = l.head;
    rest = l.rest ++ (f ∷ []);
    head_in = l.head_in;
    joins = snoc f l.joins m j;
    all = ap (λ (x : List Fact). x ++ (f ∷ [])) l.all;
    formed = result-formed j;
  }

  -- one more fact b, written out as (A v o)
  put : {c r : Fact} {fs : List Fact} (b : Fact) (A v : ℕ) → b ∈ table → b.subject ≡ A → b.predicate ≡ v → Linear table c fs
      → (T (well_formed (fact A v b.object)) → Joined c (fact A v b.object) r) → Linear table r (fs ++ (b ∷ []))
  put b A v m e p l j = let q = fact-eq (fact A v b.object) b (sym e) (sym p) refl in add b l m (rw q at (j (rw q (wf b m))))

  -- the result so far is (X P A), and b goes on from A
  carry : {P : ℕ} (X A : ℕ) (b : Fact) {fs : List Fact} → Open P → Linear table (fact X P A) fs → b ∈ table → b.subject ≡ A → b.predicate ≡ chain (property (fact X P A))
      → Linear table (fact X P b.object) (fs ++ (b ∷ []))
  unfolding chain property
  carry X A b o l m e p = go o l p
    where
      go : {P : ℕ} {fs : List Fact} → Open P → Linear table (fact X P A) fs → b.predicate ≡ chain (property (fact X P A)) → Linear table (fact X P b.object) (fs ++ (b ∷ []))
      go is-sc l p = put b A sc m e p l (λ w. on-first 3 tt (gives-rule sc-sc l.formed w))
      go is-sp l p = put b A sp m e p l (λ w. on-first 1 tt (gives-rule sp-sp l.formed w))
      go is-type l p = put b A sc m e p l (λ w. on-second 4 tt (gives-rule sc-type w l.formed))

  -- the path that begins with the data fact q leads to the property A: at once, or by a chain of sp facts
  abbrev Leads : Fact → ℕ → List Fact → Type 0
  Leads q A path = ((A ≡ q.predicate) × (path ≡ q ∷ [])) ⊎ ((fs : List Fact) × (path ≡ q ∷ fs) × AllSp fs × Linear table (fact q.predicate sp A) fs)

  lead-on : (q : Fact) (A : ℕ) (b : Fact) {path : List Fact} → Leads q A path → b ∈ table → b.subject ≡ A → b.predicate ≡ sp → Leads q b.object (path ++ (b ∷ []))
  unfolding chain property kind_of
  lead-on q A b (inl (e, z)) m s p =
      inr (
        b ∷ [],
        ap (λ (x : List Fact). x ++ (b ∷ [])) z,
        all_snoc [] b (λ f i. absurd (Memᴰ.not-nil i)) p,
        of-fact (fact-eq b (fact q.predicate sp b.object) (s ∙ e) p refl) (one b m),
      )
  lead-on q A b (inr (fs, z, a, l)) m s p = inr (fs ++ (b ∷ []), ap (λ (x : List Fact). x ++ (b ∷ [])) z, all_snoc fs b a p, carry q.predicate A b is-sp l m s p)

  -- the data fact with the property to which q leads
  lead-end : (q : Fact) (A : ℕ) {path : List Fact} → q ∈ table → named q.predicate ≡ true → Leads q A path → Linear table (fact q.subject A q.object) (print_order path)
  unfolding print_order
  lead-end q A m n (inl (e, z)) = rw (z, n) (of-fact (fact-eq q (fact q.subject A q.object) refl (sym e) refl) (one q m))
  lead-end q A m n (inr (fs, z, h, l)) = rw (z, n, behind-all q fs h) (add q l m (on-first 2 tt (gives-rule sp-data l.formed (wf q m))))

  -- a data fact's subject or object gets a type by b
  give-type : (X A Y w : ℕ) (b : Fact) {fs : List Fact} → w ∈ dom ∷ range ∷ [] → Linear table (fact X A Y) fs → b ∈ table → b.subject ≡ A → b.predicate ≡ w
      → Linear table (fact (typed w (fact X A Y)) type b.object) (fs ++ (b ∷ []))
  unfolding typed
  give-type X A Y w b v l m s p = ⊎_elim
      (λ (e : w ≡ dom). rw e (put b A dom m s (p ∙ e) l (λ u. on-second 5 tt (gives-rule dom-data u l.formed))))
      (λ v. let e : w ≡ range = Memᴰ.eq_of_singleton v in rw e (put b A range m s (p ∙ e) l (λ u. on-second 6 tt (gives-rule range-data u l.formed))))
      (Memᴰ.cases_cons v)

  -- ---- a path gives a line of facts

  -- what a path for t that leads to a has shown: a data fact that leads there, or a fact with the subject and the predicate of t
  data Shown (w : ℕ) (t a : Fact) (path : List Fact) : Type 0 where
    by-data : (q : Fact) → q ∈ table → named q.predicate ≡ true → T (start w t q) → property a ≡ true → Leads q (link a) path → Shown w t a path
    by_result : Open t.predicate → Linear table (fact t.subject t.predicate (link a)) (print_order path) → property t ≡ property a
        → (property t ≡ true → (c : List Fact) → print_order (path ++ c) ≡ path ++ c) → Shown w t a path

  show-first : (w : ℕ) (t a : Fact) → only_table t.predicate ≡ false → a ∈ table → T (start w t a) → Shown w t a (a ∷ [])
  unfolding print_order
  show-first w t a o m s =
      by_cases (named a.predicate)
      (λ e. by-data a m e s (property-data a e) (inl (link-data a e, refl)))
      (λ e. let r = start-other w t a e s in
      by_result (open_of t.predicate (rw r.0 at (parts a (wf a m)).1) (cc) o)
      (rw e (of-fact (fact-eq a (fact t.subject t.predicate (link a)) r.1 r.0 (sym (link-vocabulary a e))) (one a m))) (property-of t a (sym r.0))
      (λ p c. rw e))

  show-step : (w : ℕ) (t a b : Fact) (path : List Fact) → w ∈ ways t → Shown w t a path → b ∈ table → T (next w a b) → Shown w t b (path ++ (b ∷ []))
  unfolding chain ways typed
  show-step w t a b path v h m n = go h (next-says w a b n).1
    where
      from : b.subject ≡ link a
      from = (next-says w a b n).0

      -- a fact that is no sp fact is printed behind the facts before it
      last : eqb b.predicate sp ≡ false → print_order path ++ (b ∷ []) ≡ print_order (path ++ (b ∷ []))
      last e = sym (order-snoc path b e)

      chained : b.predicate ≡ chain (property a) → Shown w t a path → Shown w t b (path ++ (b ∷ []))
      chained e (by-data q i n s p l) =
          let c = chain-on b true (e ∙ ap chain p) in
          by-data q i n s c.1 (rw c.0 (lead-on q (link a) b l m from (e ∙ ap chain p)))
      chained e (by_result o l p f) =
          let c = chain-on b (property a) e in
          let same : print_order path ++ (b ∷ []) ≡ print_order (path ++ (b ∷ [])) =
          by_cases (property t)
          (λ x. ap (λ (y : List Fact). y ++ (b ∷ [])) (rw append-nil at (f x [])) ∙ sym (f x (b ∷ [])))
          (λ x. last (ap (λ y. eqb y sp) (e ∙ ap chain (sym p ∙ x)))) in
          by_result o
          (of-facts same (rw c.0 (carry t.subject (link a) b o l m from (e ∙ ap chain (sym p ∙ property-of t (fact t.subject t.predicate (link a)) refl)))))
          (p ∙ sym c.1) (λ x c. rw append_snoc (f x (b ∷ c)))

      leaves : t.predicate ≡ type → w ∈ dom ∷ range ∷ [] → property a ≡ true → b.predicate ≡ w → Shown w t a path → Shown w t b (path ++ (b ∷ []))
      leaves y v p e (by_result o l z f) = absurd (true≢false (sym p ∙ sym z ∙ (of-type t y).1))
      leaves y v p e (by-data q i n s z l) =
          let c = way_on b e v in
          let g = give-type q.subject (link a) q.object w b v (lead-end q (link a) i n l) m from e in
          by_result (rw y is-type)
          (of-facts (last c.2) (of-fact (fact-eq _ (fact t.subject t.predicate (link b)) (start-typed w t q n y s) (sym y) (sym c.0)) g))
          ((of-type t y).1 ∙ sym c.1) (λ p. absurd (true≢false (sym p ∙ (of-type t y).1)))

      go : Shown w t a path → Succeeds w a b → Shown w t b (path ++ (b ∷ []))
      go h (inl (g, e)) = chained e h
      go h (inr (p, e)) =
          by_cases (eqb t.predicate type)
          (λ y. leaves (eqb_yes (T_of _ y)) (rw y at v) p e h)
          (λ y. chained (e ∙ plain t y v ∙ ap chain (sym p)) h)

  show : (w : ℕ) (t : Fact) {a : Fact} {k : ℕ} → w ∈ ways t → only_table t.predicate ≡ false → (p : Path (start w t) (next w) table a k) → Shown w t a (nodes p)
  unfolding nodes
  show w t v o (first {a} m s) = show-first w t a o m s
  show w t v o (step {a} {b} p m n) = show-step w t a b (nodes p) v (show w t v o p) m n

  show-end : (w : ℕ) (t a : Fact) {path : List Fact} → T (goal t a) → Shown w t a path → Linear table t (print_order path)
  show-end w t a g (by_result o l p f) = of-fact (fact-eq (fact t.subject t.predicate (link a)) t refl refl ((goal-says t a g).0 ∙ link-vocabulary t (open-name o))) l
  show-end w t a g (by-data q i n s p l) =
      let c = goal-says t a g in
      by_cases (named t.predicate)
      (λ m. let r = start-data w t q m s in
      let e = c.0 ∙ link-data t m in
      of-fact (fact-eq (fact q.subject (link a) q.object) t r.1 e r.2) (lead-end q (link a) i n l))
      (λ m. absurd (start-not-sp w t q n m (sym c.1 ∙ p) s))

  -- the facts of a path for t, in printed order, give t
  path-linear : {t : Fact} (h : HasPath table t) → Linear table t (print_order (nodes h.path))
  unfolding print_order
  path-linear {t} h =
      by_cases (only_table t.predicate)
      (λ o. let x = only-path table t o h in rw (x.0, (only-says t o).0) (one t x.1))
      (λ o. show-end h.way t h.end h.goal (show h.way t h.asked o h.path))

  -- sound: a path of k facts gives the printed derivation, in order, of k table lines and 2 k - 1 lines
  pub path-printable : {t : Fact} (h : HasPath table t) → Printable table t (print_order (nodes h.path))
  path-printable h = let l = path-linear h in printable l (wf l.head l.head_in)

-- and it prints as many facts as the path has
pub path-count : {st : ℕ → Fact → Bool} {g : Fact → Bool} {ws : List ℕ} {S : List Fact} (h : Runs st g ws S) → length (print_order (nodes h.path)) ≡ h.count
path-count h = order-length (nodes h.path) ∙ nodes-length h.path
