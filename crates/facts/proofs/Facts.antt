-- Laws of facts: the ranges of well-formed terms, no fault exactly where well-formed, and a strict total order.
-- Assumes nothing.
use mathlib.Core.Path.{◌≡◌, refl, sym, ap, ◌∙◌}
use mathlib.Core.Logic.{◌↔◌, ◌⊎◌, inl, inr, ⊎_elim}
use mathlib.Core.Bool.{Bool, true, false, not, cond, ◌&&◌, ◌||◌, true≢false}
use Prim.Native.Nat.{ℕ, zero, suc, ◌≤◌, ◌<◌}
use native.Mathlib.Omega.{arith}
use lib.Dec.{T, leb, ltb, eqb}
use mir.Facts.{and_yes, yes_and, or_yes, ltb_yes}
use borrow.Author.Tests.{eqb-true, ltb-true, ltb-false, eq-eqb, ne_eqb, lt-ltb, le-ltb, le-leb, lt-leb}
use Rattle.facts.specs.declared.Kind.{Kind}
use Rattle.facts.specs.declared.Kind.TheVariants.{NoTerm, Vocabulary, Name, Literal, BlankNode, Beyond}
use Rattle.facts.specs.declared.Fact.{Fact}
use Rattle.facts.specs.declared.Refusal.{Refusal}
use Rattle.facts.specs.declared.Refusal.TheVariants.{Order}
use Rattle.facts.specs.Results.{Verdict, Sound, Faulty}
use Rattle.facts.specs.Terms.{kind_of, is_no_term, is_vocabulary, is_name, is_literal, is_blank, sc, sp, dom, range, type}
use Rattle.facts.specs.Facts.{named_subject, named_object, is_node, is_predicate, well_formed, has_no_term, has_blank, misplaced, text_as_class, fault_of, or_else, order_of, verdict_of, before}
use Rattle.facts.proofs.Terms.{by_cases, of_T, and-false, neither, none_of, node-kinds, predicate-kinds, node-name, OfKind, kind-within, vocabulary-below}

-- facts with the same three terms are the same
pub fact-eq : (a b : Fact) → a.subject ≡ b.subject → a.predicate ≡ b.predicate → a.object ≡ b.object → a ≡ b
fact-eq a b p q r = λ i. record { subject = p i; predicate = q i; object = r i }

-- ---- well-formed facts

-- a node is 6 to 59999
pub node-range : (n : ℕ) → leb 6 n && ltb n 60000 ≡ is_node false n
unfolding is_node
node-range n = go (kind_of n) (kind-within n)
  where
    go : (k : Kind) → OfKind k n → leb 6 n && ltb n 60000 ≡ is_name k || is_literal k && true
    go NoTerm w = rw (lt-leb 6 n (omega arith))
    go Vocabulary w = rw (lt-leb 6 n (omega arith))
    go Name w = rw (le-leb 6 n (omega arith), lt-ltb n 60000 (omega arith))
    go Literal w = rw (le-leb 6 n (omega arith), lt-ltb n 60000 (omega arith))
    go BlankNode w = rw (le-leb 6 n (omega arith), le-ltb n 60000 (omega arith))
    go Beyond w = rw (le-leb 6 n (omega arith), le-ltb n 60000 (omega arith))

-- a predicate is 1 to 39999
pub predicate-range : (n : ℕ) → ltb 0 n && ltb n 40000 ≡ is_predicate n
unfolding is_predicate
predicate-range n = go (kind_of n) (kind-within n)
  where
    go : (k : Kind) → OfKind k n → ltb 0 n && ltb n 40000 ≡ is_name k || is_vocabulary k
    go NoTerm w = rw (le-ltb 0 n (omega arith))
    go Vocabulary w = rw (lt-ltb 0 n (omega arith), lt-ltb n 40000 (omega arith))
    go Name w = rw (lt-ltb 0 n (omega arith), lt-ltb n 40000 (omega arith))
    go Literal w = rw (lt-ltb 0 n (omega arith), le-ltb n 40000 (omega arith))
    go BlankNode w = rw (lt-ltb 0 n (omega arith), le-ltb n 40000 (omega arith))
    go Beyond w = rw (lt-ltb 0 n (omega arith), le-ltb n 40000 (omega arith))

-- a node is a term, no blank node, no vocabulary, and no literal where it must be a name
pub node-says : (named : Bool) (n : ℕ) → T (is_node named n)
    → (is_no_term (kind_of n) ≡ false) × (is_blank (kind_of n) ≡ false) × (is_vocabulary (kind_of n) ≡ false) × (is_literal (kind_of n) && named ≡ false)
unfolding is_node
node-says named n t =
    let k : Kind = kind_of n in
    let x = none_of (is_no_term k) (is_blank k) (is_vocabulary k || is_literal k && named) (rw (node-kinds named k) at t) in
    let y = neither (is_vocabulary k) (is_literal k && named) (rw x.2 tt) in
    (x.0, x.1, y.0, y.1)

-- a predicate is a term, no blank node and no literal
pub predicate-says : (n : ℕ) → T (is_predicate n) → (is_no_term (kind_of n) ≡ false) × (is_blank (kind_of n) ≡ false) × (is_literal (kind_of n) ≡ false)
unfolding is_predicate
predicate-says n t = none_of (is_no_term (kind_of n)) (is_blank (kind_of n)) (is_literal (kind_of n)) (rw (predicate-kinds (kind_of n)) at t)

-- and what is so is one
pub node-is : (named : Bool) (n : ℕ) → is_no_term (kind_of n) ≡ false → is_blank (kind_of n) ≡ false → is_vocabulary (kind_of n) ≡ false → is_literal (kind_of n) && named ≡ false
    → T (is_node named n)
unfolding is_node
node-is named n a b c d = rw (node-kinds named (kind_of n), a, b, c, d) tt

pub predicate-is : (n : ℕ) → is_no_term (kind_of n) ≡ false → is_blank (kind_of n) ≡ false → is_literal (kind_of n) ≡ false → T (is_predicate n)
unfolding is_predicate
predicate-is n a b c = rw (predicate-kinds (kind_of n), a, b, c) tt

-- the three parts of being well-formed
pub parts : (f : Fact) → T (well_formed f)
    → T (is_node (named_subject f.predicate) f.subject) × T (is_predicate f.predicate) × T (is_node (named_object f.predicate) f.object)
unfolding well_formed
parts f w =
    let s : Bool = is_node (named_subject f.predicate) f.subject in
    let x = and_yes (s && is_predicate f.predicate) (is_node (named_object f.predicate) f.object) w in
    let y = and_yes s (is_predicate f.predicate) x.0 in
    (y.0, y.1, x.1)

pub whole : (f : Fact) → T (is_node (named_subject f.predicate) f.subject) → T (is_predicate f.predicate) → T (is_node (named_object f.predicate) f.object)
    → T (well_formed f)
unfolding well_formed
whole f s p o =
    let x : Bool = is_node (named_subject f.predicate) f.subject in
    yes_and (x && is_predicate f.predicate) _ (yes_and x _ s p) o

-- ---- by the predicate

-- a name may stand on each side of every predicate
pub name-stands : (named : Bool) (n : ℕ) → is_name (kind_of n) ≡ true → T (is_node named n)
unfolding is_node
name-stands named n e = rw e tt

-- where the predicate asks for names, subject and object are names
pub subject-name : (f : Fact) → T (well_formed f) → named_subject f.predicate ≡ true → is_name (kind_of f.subject) ≡ true
unfolding is_node
subject-name f w e = node-name (kind_of f.subject) (rw e at (parts f w).0)

pub object-name : (f : Fact) → T (well_formed f) → named_object f.predicate ≡ true → is_name (kind_of f.object) ≡ true
unfolding is_node
object-name f w e = node-name (kind_of f.object) (rw e at (parts f w).2)

-- a name asks for no names
pub name_free : (n : ℕ) → is_name (kind_of n) ≡ true → (named_subject n ≡ false) × (named_object n ≡ false)
unfolding named_object kind_of
name_free n e =
    let x = not-word sc refl in let y = not-word sp refl in let z = not-word dom refl in let u = not-word range refl in let v = not-word type refl in
    (simp (x, y, z, u, v), simp (x, y, z, u, v))
  where
    not-word : (v : ℕ) → is_name (kind_of v) ≡ false → eqb n v ≡ false
    not-word v f = by_cases (eqb n v) (λ g. absurd (true≢false (sym e ∙ ap (λ (x : ℕ). is_name (kind_of x)) (eqb-true n v g) ∙ f))) (λ g. g)

-- the subject and the object of a data fact may stand wherever a literal may
pub data-nodes : (f : Fact) → T (well_formed f) → is_name (kind_of f.predicate) ≡ true → T (is_node false f.subject) × T (is_node false f.object)
data-nodes f w n = let x = name_free f.predicate n in let p = parts f w in (rw x.0 at p.0, rw x.1 at p.2)

-- what holds of 1 to 5 holds of all the vocabulary
by_word : (Q : ℕ → Type 0) → Q sc → Q sp → Q dom → Q range → Q type → (n : ℕ) → T (is_vocabulary (kind_of n)) → Q n
unfolding kind_of
by_word Q a b c d e n t = go n (vocabulary-below n t) t
  where
    go : (m : ℕ) → m < 6 → T (is_vocabulary (kind_of m)) → Q m
    go zero l t = absurd t
    go (suc zero) l t = a
    go (suc (suc zero)) l t = b
    go (suc (suc (suc zero))) l t = c
    go (suc (suc (suc (suc zero)))) l t = d
    go (suc (suc (suc (suc (suc zero))))) l t = e
    go (suc (suc (suc (suc (suc (suc k)))))) l t = absurd (omega arith)

-- every other predicate asks for a name as object
pub word-object : (n : ℕ) → T (is_predicate n) → is_name (kind_of n) ≡ false → named_object n ≡ true
unfolding is_predicate named_object
word-object n p e =
    ⊎_elim (λ h. absurd (true≢false (sym (of_T (is_name (kind_of n)) h) ∙ e))) (by_word (λ m. named_object m ≡ true) refl refl refl refl refl n)
    (or_yes (is_name (kind_of n)) (is_vocabulary (kind_of n)) p)

and-all : (b : Bool) → b && true ≡ b
and-all true = refl
and-all false = refl

turned : (a b : Bool) → a && true && b ≡ b && true && (a && true)
turned true true = refl
turned true false = refl
turned false true = refl
turned false false = refl

barred : (a b c d e : Bool) → b && d ≡ false → c && false && e ≡ a && b && (c && d)
barred false b true d e h = refl
barred false b false d e h = refl
barred true false true d e h = refl
barred true false false d e h = refl
barred true true c false e h = rw (and-false c false refl)
barred true true c true e h = absurd (true≢false h)

formed-is : (f : Fact) → well_formed f ≡ is_node (named_subject f.predicate) f.subject && is_predicate f.predicate && is_node (named_object f.predicate) f.object
unfolding well_formed
formed-is f = refl

-- a node that is no name is a literal, where it need not be one
text-node : (named : Bool) (n : ℕ) → is_name (kind_of n) ≡ false → is_node named n ≡ is_literal (kind_of n) && not named
unfolding is_node
text-node named n e = rw e

name-predicate : (n : ℕ) → is_name (kind_of n) ≡ true → is_predicate n ≡ true
unfolding is_predicate
name-predicate n e = rw e

-- a literal as subject leaves type and the names
free-subject : (p : ℕ) → not (named_subject p) && is_predicate p ≡ is_name (kind_of p) || eqb p type
unfolding is_predicate named_subject kind_of
free-subject p =
    by_cases (is_name (kind_of p)) (λ e. rw (e, (name_free p e).0))
    (λ e. by_cases (is_vocabulary (kind_of p))
    (λ h. by_word (λ m. not (named_subject m) && is_predicate m ≡ is_name (kind_of m) || eqb m type) refl refl refl refl refl p (rw h tt))
    (λ h. by_cases (eqb p type) (λ g. absurd (true≢false (ap (λ (x : ℕ). is_vocabulary (kind_of x)) (sym (eqb-true p type g)) ∙ h))) (λ g. rw (e, h, g) (and-false (not (named_subject p)) false refl))))

-- a literal as object leaves the names
free-object : (p : ℕ) → is_predicate p && not (named_object p) ≡ is_name (kind_of p)
unfolding is_predicate
free-object p =
    by_cases (is_name (kind_of p)) (λ e. rw (e, (name_free p e).1))
    (λ e. by_cases (is_predicate p) (λ q. rw (word-object p (rw q tt) e) (and-false (is_predicate p) false refl ∙ sym e)) (λ q. rw q (sym e)))

-- being well-formed, by what subject and object are
module _ (f : Fact) where
  -- names on both sides: any predicate
  pub formed-names : is_name (kind_of f.object) ≡ true → is_name (kind_of f.subject) ≡ true → is_predicate f.predicate ≡ well_formed f
  unfolding well_formed is_node
  formed-names o s = rw (o, s) (sym (and-all (is_predicate f.predicate)))

  -- a literal as subject and a name as object: type, or a name
  pub formed-literal : is_name (kind_of f.object) ≡ true → is_name (kind_of f.subject) ≡ false
      → is_literal (kind_of f.subject) && (is_name (kind_of f.predicate) || eqb f.predicate type) ≡ well_formed f
  unfolding well_formed is_node
  formed-literal o s =
      by_cases (is_literal (kind_of f.subject))
      (λ l. rw (o, s, l) (sym (and-all (not (named_subject f.predicate) && is_predicate f.predicate) ∙ free-subject f.predicate))) (λ l. rw (o, s, l))

  -- a literal as object: a name
  pub formed-text : is_name (kind_of f.object) ≡ false
      → is_literal (kind_of f.object) && is_name (kind_of f.predicate) && is_node false f.subject ≡ well_formed f
  formed-text o =
      let e = text-node (named_object f.predicate) f.object o in
      by_cases (is_name (kind_of f.predicate))
      (λ n. let x = name_free f.predicate n in rw (formed-is f, e, n, x.0, x.1, name-predicate f.predicate n) (turned (is_literal (kind_of f.object)) (is_node false f.subject)))
      (λ n. rw (formed-is f, e, n) (barred (is_node (named_subject f.predicate) f.subject) (is_predicate f.predicate) (is_literal (kind_of f.object)) (not (named_object f.predicate))
      (is_node false f.subject) (free-object f.predicate ∙ n)))

-- ---- faults

-- a test that is not refused
pub passed : (b : Bool) (r : Refusal) (v : Verdict) → cond b (Faulty r) v ≡ Sound → T (not b) × (v ≡ Sound)
passed false r v e = (tt, e)
passed true r v e = let z : ◌≡◌ {A = ℕ} 0 1 = cc in absurd (omega arith)

-- a fact earns none of 3, 4, 5, 12 exactly where it is well-formed
module _ (f : Fact) where
  abbrev s : Kind
  s = kind_of f.subject

  abbrev p : Kind
  p = kind_of f.predicate

  abbrev o : Kind
  o = kind_of f.object

  sound-formed : fault_of f ≡ Sound → T (well_formed f)
  unfolding fault_of
  sound-formed e =
      let a = passed (has_no_term f) _ _ e in
      let b = passed (has_blank f) _ _ a.1 in
      let c = passed (misplaced f) _ _ b.1 in
      let d = passed (text_as_class f) _ _ c.1 in
      let x = none_of (is_no_term s) (is_no_term p) (is_no_term o) a.0 in
      let y = none_of (is_blank s) (is_blank p) (is_blank o) b.0 in
      let z = none_of (is_vocabulary s) (is_vocabulary o) (is_literal p) c.0 in
      let w = neither (is_literal s && named_subject f.predicate) (is_literal o && named_object f.predicate) d.0 in
      whole f (node-is _ _ x.0 y.0 z.0 w.0) (predicate-is _ x.1 y.1 z.2) (node-is _ _ x.2 y.2 z.1 w.1)

  formed-sound : T (well_formed f) → fault_of f ≡ Sound
  unfolding fault_of
  formed-sound w =
      let t = parts f w in
      let x = node-says _ f.subject t.0 in
      let y = predicate-says f.predicate t.1 in
      let z = node-says _ f.object t.2 in
      rw (x.0, y.0, z.0, x.1, y.1, z.1, x.2, z.2, y.2, x.3, z.3)

  pub fault-none : fault_of f ≡ Sound ↔ T (well_formed f)
  fault-none = (sound-formed, formed-sound)

  -- a well-formed fact earns 6 or nothing
  pub verdict-formed : (ascends : Bool) → well_formed f ≡ true → verdict_of ascends f ≡ order_of ascends
  unfolding verdict_of
  verdict-formed ascends e = rw (formed-sound (rw e tt))

  -- and nothing where it ascends
  pub verdict-sound : (ascends : Bool) → well_formed f && ascends ≡ true → verdict_of ascends f ≡ Sound
  unfolding order_of
  verdict-sound ascends e = let x = and_yes (well_formed f) ascends (rw e tt) in verdict-formed ascends (of_T (well_formed f) x.0) ∙ rw (of_T ascends x.1)

  -- one that does not pass so, and earns none of 3, 4, 5, 12, does not ascend
  pub left-order : (ascends : Bool) → well_formed f && ascends ≡ false → has_no_term f ≡ false → has_blank f ≡ false → misplaced f ≡ false → text_as_class f ≡ false
      → verdict_of ascends f ≡ Faulty Order
  unfolding fault_of order_of
  left-order ascends e a b c d =
      let w : well_formed f ≡ true = of_T (well_formed f) (sound-formed (rw (a, b, c, d))) in
      let n : ascends ≡ false = rw w at e in
      verdict-formed ascends w ∙ rw n

-- a fact by itself ascends
pub verdict-alone : (f : Fact) → verdict_of true f ≡ fault_of f
unfolding verdict_of or_else order_of
verdict-alone f = go (fault_of f)
  where
    go : (v : Verdict) → or_else v Sound ≡ v
    go Sound = refl
    go (Faulty r) = refl

-- a range's end bounds what passes its test
below : (a n b : ℕ) (t : Bool) → leb a n && ltb n b ≡ t → T t → n < b
below a n b t e p = ltb_yes (and_yes (leb a n) (ltb n b) (rw e p)).1

-- a node fits 16 bits
node-within : (named : Bool) (n : ℕ) → T (is_node named n) → n ≤ 65535
unfolding is_node
node-within named n t =
    let x = node-says named n t in
    let y = below 6 n 60000 _ (node-range n) (node-is false n x.0 x.1 x.2 (and-false (is_literal (kind_of n)) false refl)) in
    omega arith

-- the terms of a well-formed fact fit 16 bits
pub terms-within : (f : Fact) → T (well_formed f) → (f.subject ≤ 65535) × (f.predicate ≤ 65535) × (f.object ≤ 65535)
terms-within f w =
    let p = parts f w in
    let q = below 1 f.predicate 40000 _ (predicate-range _) p.1 in
    (node-within _ _ p.0, omega arith, node-within _ _ p.2)

-- ---- order

-- the three ways in which a comes before b
pub data Before (a b : Fact) : Type 0 where
  by-subject : a.subject < b.subject → Before a b
  by-predicate : a.subject ≡ b.subject → a.predicate < b.predicate → Before a b
  by-object : a.subject ≡ b.subject → a.predicate ≡ b.predicate → a.object < b.object → Before a b

before-says : (a b : Fact) → T (before a b) → Before a b
unfolding before
before-says a b t =
    by_cases (eqb a.subject b.subject)
    (λ e. by_cases (eqb a.predicate b.predicate)
    (λ g. by-object (eqb-true _ _ e) (eqb-true _ _ g) (ltb-true _ _ (of_T (ltb a.object b.object) (rw (e, g) at t))))
    (λ g. by-predicate (eqb-true _ _ e) (ltb-true _ _ (of_T (ltb a.predicate b.predicate) (rw (e, g) at t)))))
    (λ e. by-subject (ltb-true _ _ (of_T (ltb a.subject b.subject) (rw e at t))))

before-is : (a b : Fact) → Before a b → T (before a b)
unfolding before
before-is a b (by-subject h) = rw (ne_eqb a.subject b.subject (λ e. omega arith), lt-ltb _ _ h) tt
before-is a b (by-predicate e h) = rw (eq-eqb a.subject b.subject e, ne_eqb a.predicate b.predicate (λ g. omega arith), lt-ltb _ _ h) tt
before-is a b (by-object e g h) = rw (eq-eqb a.subject b.subject e, eq-eqb a.predicate b.predicate g, lt-ltb _ _ h) tt

pub before-iff : (a b : Fact) → T (before a b) ↔ Before a b
before-iff a b = (before-says a b, before-is a b)

-- nothing comes before itself
pub before-irreflexive : (a : Fact) → T (before a a) → ⊥
before-irreflexive a t = go (before-says a a t)
  where
    go : Before a a → ⊥
    go (by-subject h) = omega arith
    go (by-predicate e h) = omega arith
    go (by-object e g h) = omega arith

pub before-transitive : (a b c : Fact) → T (before a b) → T (before b c) → T (before a c)
before-transitive a b c s t = before-is a c (go (before-says a b s) (before-says b c t))
  where
    go : Before a b → Before b c → Before a c
    go (by-subject h) (by-subject k) = by-subject (omega arith)
    go (by-subject h) (by-predicate e k) = by-subject (omega arith)
    go (by-subject h) (by-object e g k) = by-subject (omega arith)
    go (by-predicate e h) (by-subject k) = by-subject (omega arith)
    go (by-predicate e h) (by-predicate e' k) = by-predicate (omega arith) (omega arith)
    go (by-predicate e h) (by-object e' g k) = by-predicate (omega arith) (omega arith)
    go (by-object e g h) (by-subject k) = by-subject (omega arith)
    go (by-object e g h) (by-predicate e' k) = by-predicate (omega arith) (omega arith)
    go (by-object e g h) (by-object e' g' k) = by-object (omega arith) (omega arith) (omega arith)

abbrev Ways : ℕ → ℕ → Type 0
Ways x y = (x < y) ⊎ ((x ≡ y) ⊎ (y < x))

three_ways : (x y : ℕ) → Ways x y
three_ways x y =
    by_cases (ltb x y) (λ e. inl (ltb-true x y e))
    (λ e. by_cases (ltb y x) (λ g. inr (inr (ltb-true y x g)))
    (λ g. inr (inl (omega (arith, ltb-false x y e, ltb-false y x g)))))

-- of two facts one comes before the other, or they are the same
pub before-total : (a b : Fact) → T (before a b) ⊎ ((a ≡ b) ⊎ T (before b a))
before-total a b = go (three_ways a.subject b.subject) (three_ways a.predicate b.predicate) (three_ways a.object b.object)
  where
    go : Ways a.subject b.subject → Ways a.predicate b.predicate → Ways a.object b.object → T (before a b) ⊎ ((a ≡ b) ⊎ T (before b a))
    go (inl h) p o = inl (before-is a b (by-subject h))
    go (inr (inr h)) p o = inr (inr (before-is b a (by-subject h)))
    go (inr (inl e)) (inl h) o = inl (before-is a b (by-predicate e h))
    go (inr (inl e)) (inr (inr h)) o = inr (inr (before-is b a (by-predicate (sym e) h)))
    go (inr (inl e)) (inr (inl g)) (inl h) = inl (before-is a b (by-object e g h))
    go (inr (inl e)) (inr (inl g)) (inr (inr h)) = inr (inr (before-is b a (by-object (sym e) (sym g) h)))
    go (inr (inl e)) (inr (inl g)) (inr (inl h)) = inr (inl (fact-eq a b e g h))
