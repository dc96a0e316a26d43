-- Laws of gaps: a question's triple earns no refusal exactly where it may be asked; a well-formed fact is filled by itself alone;
-- what fills a gap is told by the term that stands there.
-- Assumes nothing.
use mathlib.Core.Path.{◌≡◌, refl, sym, ap, ◌∙◌}
use mathlib.Core.Logic.{◌↔◌, inl, inr}
use mathlib.Core.Bool.{Bool, true, false, ◌&&◌, true≢false}
use Prim.Native.Nat.{ℕ, ◌≤◌}
use native.Mathlib.Omega.{arith}
use lib.Dec.{T}
use Rattle.facts.specs.declared.Kind.{Kind}
use Rattle.facts.specs.declared.Kind.TheVariants.{NoTerm, Vocabulary, Name, Literal, BlankNode, Beyond}
use Rattle.facts.specs.declared.Fact.{Fact}
use Rattle.facts.specs.Results.{Sound}
use Rattle.facts.specs.Terms.{kind_of, is_no_term, is_vocabulary, is_literal, is_blank}
use Rattle.facts.specs.Facts.{fact, named_subject, named_object, is_node, is_predicate, well_formed, has_no_term, has_blank, misplaced, text_as_class, fault_of}
use Rattle.facts.specs.Gaps.{is_gap, SameTerm, AsksSame, Fills, Askable, gapless, subject-gap, object-gap, blank_refused, question_fault, filling_of, term_or, filled_by}
use Rattle.facts.proofs.Terms.{by_cases, and-false, neither, none_of}
use Rattle.facts.proofs.Facts.{fact-eq, name-stands, node-says, node-is, predicate-says, predicate-is, parts, whole, terms-within, passed}

-- neither a node nor a predicate is a gap
pub node-whole : (named : Bool) (n : ℕ) → T (is_node named n) → is_gap n ≡ false
unfolding is_gap
node-whole named n t = (node-says named n t).1

pub predicate-whole : (n : ℕ) → T (is_predicate n) → is_gap n ≡ false
unfolding is_gap
predicate-whole n t = (predicate-says n t).1

-- what may stand beside a predicate in a question: a term in no wrong part, and no literal where it must be a name
abbrev Passes : Bool → ℕ → Type 0
Passes named n = (is_no_term (kind_of n) ≡ false) × (is_vocabulary (kind_of n) ≡ false) × (is_literal (kind_of n) && named ≡ false)

blank-kind : (k : Kind) → is_blank k ≡ true → (is_no_term k ≡ false) × (is_vocabulary k ≡ false) × (is_literal k ≡ false)
blank-kind NoTerm e = absurd (true≢false (sym e))
blank-kind Vocabulary e = absurd (true≢false (sym e))
blank-kind Name e = absurd (true≢false (sym e))
blank-kind Literal e = absurd (true≢false (sym e))
blank-kind BlankNode e = (refl, refl, refl)
blank-kind Beyond e = absurd (true≢false (sym e))

gap-kind : (n : ℕ) → is_gap n ≡ true → (is_no_term (kind_of n) ≡ false) × (is_vocabulary (kind_of n) ≡ false) × (is_literal (kind_of n) ≡ false)
unfolding is_gap
gap-kind n e = blank-kind (kind_of n) e

gap-passes : (named : Bool) (n : ℕ) → is_gap n ≡ true → Passes named n
gap-passes named n e = let k = gap-kind n e in (k.0, k.1, rw k.2)

node-passes : (named : Bool) (n : ℕ) → T (is_node named n) → Passes named n
node-passes named n t = let x = node-says named n t in (x.0, x.2, x.3)

-- ---- what may be asked

-- the tests of a triple whose predicate may be one, and whose subject and object pass, but are not both gaps
tests-pass : (t : Fact) → T (is_predicate t.predicate) → Passes (named_subject t.predicate) t.subject → Passes (named_object t.predicate) t.object
    → is_gap t.subject && is_gap t.object ≡ false → question_fault t ≡ Sound
unfolding question_fault
tests-pass t p s o g =
    let k = predicate-says t.predicate p in
    rw (s.0, k.0, o.0, predicate-whole t.predicate p, g, s.1, o.1, k.2, s.2, o.2)

-- 6 may stand on each side of every predicate
some-name : (named : Bool) → T (is_node named 6)
unfolding kind_of
some-name named = name-stands named 6 refl

module _ (t : Fact) where
  askable-sound : Askable t → question_fault t ≡ Sound
  askable-sound (gapless w) =
      let x = parts t w in tests-pass t x.1 (node-passes _ _ x.0) (node-passes _ _ x.2) (and-false (is_gap t.subject) _ (node-whole _ _ x.2))
  askable-sound (subject-gap g x w) =
      let y = parts (fact x t.predicate t.object) w in
      tests-pass t y.1 (gap-passes _ _ g) (node-passes _ _ y.2) (and-false (is_gap t.subject) _ (node-whole _ _ y.2))
  askable-sound (object-gap g x w) =
      let y = parts (fact t.subject t.predicate x) w in
      tests-pass t y.1 (node-passes _ _ y.0) (gap-passes _ _ g) (rw (node-whole _ _ y.0))

  sound-askable : question_fault t ≡ Sound → Askable t
  unfolding question_fault is_gap
  sound-askable e =
      let a = passed (has_no_term t) _ _ e in
      let b = passed (blank_refused t) _ _ a.1 in
      let c = passed (misplaced t) _ _ b.1 in
      let d = passed (text_as_class t) _ _ c.1 in
      let x = none_of (is_no_term (kind_of t.subject)) (is_no_term (kind_of t.predicate)) (is_no_term (kind_of t.object)) a.0 in
      let y = none_of false (is_gap t.predicate) (is_gap t.subject && is_gap t.object) b.0 in
      let z = none_of (is_vocabulary (kind_of t.subject)) (is_vocabulary (kind_of t.object)) (is_literal (kind_of t.predicate)) c.0 in
      let w = neither (is_literal (kind_of t.subject) && named_subject t.predicate) (is_literal (kind_of t.object) && named_object t.predicate) d.0 in
      let p = predicate-is t.predicate x.1 y.1 z.2 in
      by_cases (is_gap t.subject)
      (λ g. let o = node-is _ t.object x.2 (rw g at y.2) z.1 w.1 in subject-gap g 6 (whole (fact 6 t.predicate t.object) (some-name _) p o))
      (λ g. let s = node-is _ t.subject x.0 g z.0 w.0 in by_cases (is_gap t.object)
      (λ h. object-gap h 6 (whole (fact t.subject t.predicate 6) s p (some-name _)))
      (λ h. gapless (whole t s p (node-is _ t.object x.2 h z.1 w.1))))

  -- a question's triple earns none of 3, 4, 5, 12 exactly where it may be asked
  pub question-none : question_fault t ≡ Sound ↔ Askable t
  question-none = (sound-askable, askable-sound)

-- a name in the gap leaves what the other terms earn
module _ (n : ℕ) where
  name-kinds : (is_no_term (kind_of (term_or 6 n)) ≡ is_no_term (kind_of n)) × (is_vocabulary (kind_of (term_or 6 n)) ≡ is_vocabulary (kind_of n))
      × (is_literal (kind_of (term_or 6 n)) ≡ is_literal (kind_of n)) × (is_blank (kind_of (term_or 6 n)) ≡ false)
  unfolding term_or is_gap kind_of
  name-kinds = by_cases (is_gap n) (λ g. let k = gap-kind n g in rw (g, k.0, k.1, k.2) (refl, refl, refl, refl)) (λ g. rw g (refl, refl, refl, g))

pub fault-filled : (t : Fact) → has_no_term t ≡ false → blank_refused t ≡ false → fault_of (filled_by t 6) ≡ question_fault t
unfolding fault_of question_fault has_no_term has_blank misplaced text_as_class filled_by is_gap
fault-filled t a b =
    let s = name-kinds t.subject in
    let o = name-kinds t.object in
    let p = (none_of false (is_gap t.predicate) (is_gap t.subject && is_gap t.object) (rw b tt)).1 in
    rw (s.0, o.0, s.1, o.1, s.2, o.2, s.3, o.3, a, b, p)

-- ---- what fills a gap

-- the predicate of what may be asked is one, and no gap
pub askable-predicate : {t : Fact} → Askable t → T (is_predicate t.predicate)
askable-predicate {t} (gapless w) = (parts t w).1
askable-predicate {t} (subject-gap g x w) = (parts (fact x t.predicate t.object) w).1
askable-predicate {t} (object-gap g x w) = (parts (fact t.subject t.predicate x) w).1

-- its subject and its object, where they are no gap, are nodes
pub askable-subject : {t : Fact} → Askable t → is_gap t.subject ≡ false → T (is_node (named_subject t.predicate) t.subject)
askable-subject {t} (gapless w) g = (parts t w).0
askable-subject {t} (subject-gap h x w) g = absurd (true≢false (sym h ∙ g))
askable-subject {t} (object-gap h x w) g = (parts (fact t.subject t.predicate x) w).0

pub askable-object : {t : Fact} → Askable t → is_gap t.object ≡ false → T (is_node (named_object t.predicate) t.object)
askable-object {t} (gapless w) g = (parts t w).2
askable-object {t} (subject-gap h x w) g = (parts (fact x t.predicate t.object) w).2
askable-object {t} (object-gap h x w) g = absurd (true≢false (sym h ∙ g))

pub fills-predicate : {t u : Fact} → Askable t → Fills t u → u.predicate ≡ t.predicate
fills-predicate {t} a f = f.predicate (predicate-whole _ (askable-predicate a))

-- a well-formed fact is filled by itself alone
pub fills-only : (t u : Fact) → T (well_formed t) → Fills t u ↔ (u ≡ t)
fills-only t u w =
    let x = parts t w in (
      λ f. fact-eq u t (f.subject (node-whole _ _ x.0)) (f.predicate (predicate-whole _ x.1)) (f.object (node-whole _ _ x.2)),
      λ e. rw e (record { formed = w; subject = λ g. refl; predicate = λ g. refl; object = λ g. refl }),
    )

-- it has no gap: no term is named, and nothing is put in
pub gapless-names : (t u : Fact) → T (well_formed t) → filling_of t u ≡ 0
unfolding filling_of
gapless-names t u w = let x = parts t w in rw (node-whole _ _ x.0, node-whole _ _ x.2)

pub gapless-stays : (t : Fact) (x : ℕ) → T (well_formed t) → filled_by t x ≡ t
unfolding filled_by
gapless-stays t x w = let y = parts t w in fact-eq (filled_by t x) t (rw (node-whole _ _ y.0)) refl (rw (node-whole _ _ y.2))

-- the term named, put into the gap, gives what fills it
pub filled-back : {t u : Fact} → Askable t → Fills t u → filled_by t (filling_of t u) ≡ u
unfolding filled_by filling_of
filled-back {t} {u} a f =
    by_cases (is_gap t.subject)
    (λ g. by_cases (is_gap t.object) (λ h. absurd (both a g h)) (λ h. fact-eq _ u (rw g) (sym (fills-predicate a f)) (rw h (sym (f.object h)))))
    (λ g. by_cases (is_gap t.object)
    (λ h. fact-eq _ u (rw g (sym (f.subject g))) (sym (fills-predicate a f)) (rw (g, h)))
    (λ h. fact-eq _ u (rw g (sym (f.subject g))) (sym (fills-predicate a f)) (rw h (sym (f.object h)))))
  where
    both : Askable t → is_gap t.subject ≡ true → is_gap t.object ≡ true → ⊥
    both (gapless w) g h = true≢false (sym g ∙ node-whole _ _ (parts t w).0)
    both (subject-gap _ x w) g h = true≢false (sym h ∙ node-whole _ _ (parts (fact x t.predicate t.object) w).2)
    both (object-gap _ x w) g h = true≢false (sym g ∙ node-whole _ _ (parts (fact t.subject t.predicate x) w).0)

-- it fits 16 bits
pub filling-within : (t u : Fact) → T (well_formed u) → filling_of t u ≤ 65535
unfolding filling_of
filling-within t u w =
    let x = terms-within u w in
    by_cases (is_gap t.subject) (λ g. rw g x.0) (λ g. by_cases (is_gap t.object) (λ h. rw (g, h) x.2) (λ h. rw (g, h) (omega arith)))

-- a triple without a blank has neither a blank predicate nor two blanks
pub blankless-passes : (t : Fact) → has_blank t ≡ false → blank_refused t ≡ false
unfolding has_blank blank_refused is_gap
blankless-passes t e = let x = none_of (is_blank (kind_of t.subject)) (is_blank (kind_of t.predicate)) (is_blank (kind_of t.object)) (rw e tt) in rw (x.1, x.0)

-- ---- the number of a gap plays no part

-- what asks the same has the same kinds of terms, in all that is asked of them
gap_same : (x y : ℕ) → SameTerm x y → is_gap x ≡ is_gap y
gap_same x y (inl e) = ap is_gap e
gap_same x y (inr (g, h)) = g ∙ sym h

kinds-same : (x y : ℕ) → SameTerm x y
    → (is_no_term (kind_of x) ≡ is_no_term (kind_of y)) × (is_vocabulary (kind_of x) ≡ is_vocabulary (kind_of y)) × (is_literal (kind_of x) ≡ is_literal (kind_of y))
kinds-same x y (inl e) = (ap (λ (n : ℕ). is_no_term (kind_of n)) e, ap (λ (n : ℕ). is_vocabulary (kind_of n)) e, ap (λ (n : ℕ). is_literal (kind_of n)) e)
kinds-same x y (inr (g, h)) = let a = gap-kind x g in let b = gap-kind y h in (a.0 ∙ sym b.0, a.1 ∙ sym b.1, a.2 ∙ sym b.2)

module _ (t v : Fact) (s : AsksSame t v) where
  pub fault-same : question_fault t ≡ question_fault v
  unfolding question_fault has_no_term blank_refused misplaced text_as_class
  fault-same =
      let x = kinds-same t.subject v.subject s.subject in
      let y = kinds-same t.object v.object s.object in
      rw (x.0, y.0, x.1, y.1, x.2, y.2, gap_same t.subject v.subject s.subject, gap_same t.object v.object s.object, s.predicate)

  pub filling-same : (u : Fact) → filling_of t u ≡ filling_of v u
  unfolding filling_of
  filling-same u = rw (gap_same t.subject v.subject s.subject, gap_same t.object v.object s.object)
