-- Facts of an input: which are refused, and that a table has them in one order only.
-- Assumes nothing.
use mathlib.Core.Path.{◌≡◌, refl, sym, ap, subst, ◌∙◌}
use mathlib.Core.Logic.{⊎_elim, ◌↔◌}
use mathlib.Core.Bool.{Bool, true, false, cond, ◌||◌}
use mathlib.Core.List.Memᴰ
use mathlib.Core.List.{List, [], ◌∷◌}
use Prim.Native.Nat.{ℕ, ◌≤◌, ◌<◌}
use native.Mathlib.Omega.{arith}
use lib.ListN.{length}
use lib.Dec.{T}
use Rattle.facts.specs.declared.Kind.{Kind}
use Rattle.facts.specs.declared.Kind.TheVariants.{NoTerm, Vocabulary, Name, Literal, BlankNode, Beyond}
use Rattle.facts.specs.declared.Fact.{Fact}
use Rattle.facts.specs.declared.Refusal.{Refusal}
use Rattle.facts.specs.declared.Refusal.TheVariants.{Term, Blank, Part, Class}
use Rattle.facts.specs.Results.{Sound, Faulty}
use Rattle.facts.specs.Terms.{kind_of, is_no_term, is_blank}
use Rattle.facts.specs.Facts.{before, has_no_term, has_blank, misplaced, text_as_class, fault_of}
use Rattle.facts.proofs.Terms.{by_cases, OfKind, kind-within}
use Rattle.facts.proofs.Facts.{before-irreflexive, before-transitive}
use Rattle.table.specs.Scans.{earns, first_earned, First}
use Rattle.table.specs.Tables.{ascending}
use Rattle.table.proofs.Tables.{first-earned}
use Rattle.rules.specs.Graph.{◌∈◌}
use Rattle.std.specs.Prelude.{Some, None, Ok, Err}
use Rattle.ntriples.specs.Tokens.{Token, spanned}
use Rattle.ntriples.specs.Lexed.{Line, line_of}
use Rattle.numbering.specs.Numbering.{has, is_literal}
use Rattle.numbering.specs.Vocabulary.{vocabulary, term_of}
use Rattle.numbering.proofs.Numbering.{place-within}
use Rattle.gathering.proofs.Gathered.{tail-ascends, first-before}
use Rattle.imports.specs.Lines.{lines_of, Statement, said_by, said, statements, tokens}
use Rattle.imports.specs.Import.{known_by, fact_of, fact_refusal}
use Rattle.imports.proofs.Sizes.{tokens-among, said-among, token-kinds}
use Rattle.promises.specs.Import.{FactRefused}
use Rattle.promises.proofs.Lines.{not-faulty, states-said, said-states}

-- ---- one order

-- facts in order are one list
pub same-facts : (fs gs : List Fact) → T (ascending fs) → T (ascending gs) → ((f : Fact) → f ∈ fs → f ∈ gs) → ((f : Fact) → f ∈ gs → f ∈ fs) → fs ≡ gs
same-facts [] [] a b p q = refl
same-facts [] (g ∷ gs) a b p q = absurd (Memᴰ.not-nil (q g (Memᴰ.head refl)))
same-facts (f ∷ fs) [] a b p q = absurd (Memᴰ.not-nil (p f (Memᴰ.head refl)))
same-facts (f ∷ fs) (g ∷ gs) a b p q =
    let e : f ≡ g = first in
    let r : fs ≡ gs = same-facts fs gs (tail-ascends f fs a) (tail-ascends g gs b) (λ x m. behind x m) (λ x m. ahead x m) in
    ap (λ (x : Fact). x ∷ fs) e ∙ ap (λ (l : List Fact). g ∷ l) r
  where
    first : f ≡ g
    first =
        ⊎_elim (λ (e : f ≡ g). e)
        (λ (m : f ∈ gs). ⊎_elim (λ (e : g ≡ f). sym e) (λ (n : g ∈ fs). absurd (before-irreflexive f (before-transitive f g f (first-before f g fs a n) (first-before g f gs b m)))) (Memᴰ.cases_cons (q g (Memᴰ.head refl))))
        (Memᴰ.cases_cons (p f (Memᴰ.head refl)))

    behind : (x : Fact) → x ∈ fs → x ∈ gs
    behind x m =
        ⊎_elim (λ (e : x ≡ g). absurd (before-irreflexive f (subst (λ (y : Fact). T (before f y)) (e ∙ sym first) (first-before f x fs a m)))) (λ (n : x ∈ gs). n) (Memᴰ.cases_cons (p x (Memᴰ.tail m)))

    ahead : (x : Fact) → x ∈ gs → x ∈ fs
    ahead x m =
        ⊎_elim (λ (e : x ≡ f). absurd (before-irreflexive g (subst (λ (y : Fact). T (before g y)) (e ∙ first) (first-before g x gs b m)))) (λ (n : x ∈ fs). n) (Memᴰ.cases_cons (q x (Memᴰ.tail m)))

-- ---- what a fact earns

-- numbers from 1 to 59999 are terms, and no blank nodes
plain-kinds : (k : Kind) (n : ℕ) → OfKind k n → 1 ≤ n → n < 60000 → (is_no_term k ≡ false) × (is_blank k ≡ false)
plain-kinds NoTerm n w l h = absurd (omega arith)
plain-kinds Vocabulary n w l h = (refl, refl)
plain-kinds Name n w l h = (refl, refl)
plain-kinds Literal n w l h = (refl, refl)
plain-kinds BlankNode n w l h = absurd (omega arith)
plain-kinds Beyond n w l h = absurd (omega arith)

abbrev Plain : ℕ → Type 0
Plain n = (1 ≤ n) × (n < 60000)

none-of-three : (a b c : Bool) → a ≡ false → b ≡ false → c ≡ false → a || b || c ≡ false
none-of-three a b c p q r = rw (p, q, r) refl

module _ (f : Fact) (s : Plain f.subject) (p : Plain f.predicate) (o : Plain f.object) where
  has-terms : has_no_term f ≡ false
  unfolding has_no_term
  has-terms =
      none-of-three (is_no_term (kind_of f.subject)) (is_no_term (kind_of f.predicate)) (is_no_term (kind_of f.object))
      (plain-kinds (kind_of f.subject) f.subject (kind-within f.subject) s.0 s.1).0
      (plain-kinds (kind_of f.predicate) f.predicate (kind-within f.predicate) p.0 p.1).0
      (plain-kinds (kind_of f.object) f.object (kind-within f.object) o.0 o.1).0

  no-blanks : has_blank f ≡ false
  unfolding has_blank
  no-blanks =
      none-of-three (is_blank (kind_of f.subject)) (is_blank (kind_of f.predicate)) (is_blank (kind_of f.object))
      (plain-kinds (kind_of f.subject) f.subject (kind-within f.subject) s.0 s.1).1
      (plain-kinds (kind_of f.predicate) f.predicate (kind-within f.predicate) p.0 p.1).1
      (plain-kinds (kind_of f.object) f.object (kind-within f.object) o.0 o.1).1

  -- so only 5 and 12 are left to earn
  plain-fault : fault_of f ≡ first_earned (earns true (λ i. f) 0) (Part ∷ Class ∷ [])
  unfolding fault_of earns first_earned
  plain-fault =
      ap (λ (x : Bool). cond x (Faulty Term) (cond (has_blank f) (Faulty Blank) (cond (misplaced f) (Faulty Part) (cond (text_as_class f) (Faulty Class) Sound)))) has-terms
      ∙ ap (λ (x : Bool). cond x (Faulty Blank) (cond (misplaced f) (Faulty Part) (cond (text_as_class f) (Faulty Class) Sound))) no-blanks

  plain-refused : (r : Refusal) → fault_of f ≡ Faulty r ↔ First (earns true (λ i. f) 0) (Part ∷ Class ∷ []) r
  plain-refused r =
      let g = first-earned (earns true (λ i. f) 0) (Part ∷ Class ∷ []) r in
      (λ e. g.0 (sym plain-fault ∙ e), λ h. plain-fault ∙ g.1 h)

one-refusal : (f : Statement → Fact) (s : Statement) → fact_refusal f (s ∷ []) ≡ fault_of (f s)
unfolding fact_refusal
one-refusal f s = refl

module _ (b : List ℕ) (small : length b ≤ 65536) where
  -- a token of the input has a number from 1 to 59999
  token-plain : (t : Token) → t ∈ tokens (statements (lines_of b)) → Plain (term_of (known_by (statements (lines_of b))) t)
  token-plain t m =
      let k = token-kinds b small t m in
      by_cases (has t vocabulary) (λ p. let e = k.fixed p in (omega arith, omega (arith, place-within t vocabulary p)))
      (λ p. by_cases (is_literal t) (λ q. (omega (arith, (k.literal q).0), omega (arith, (k.literal q).1))) (λ q. (omega (arith, (k.name p q).0), omega (arith, (k.name p q).1))))

  fact-earns : (s : Statement) → s ∈ statements (lines_of b) → (r : Refusal)
      → fault_of (fact_of (known_by (statements (lines_of b))) s) ≡ Faulty r ↔ First (earns true (λ i. fact_of (known_by (statements (lines_of b))) s) 0) (Part ∷ Class ∷ []) r
  fact-earns s m r =
      let t = tokens-among s (statements (lines_of b)) m in
      plain-refused (fact_of (known_by (statements (lines_of b))) s) (token-plain s.subject t.0) (token-plain s.predicate t.1) (token-plain s.object t.2) r

  -- the fact of a line's statement is refused as the line is
  line-earns : (l : List ℕ) → l ∈ lines_of b → (v : Line) → line_of l ≡ v → (r : Refusal) → fact_refusal (fact_of (known_by (statements (lines_of b)))) (said_by l v) ≡ Faulty r
      → FactRefused (statements (lines_of b)) l r
  unfolding said_by fact_refusal
  line-earns l m (Err f) e r h = not-faulty refl h
  line-earns l m (Ok None) e r h = not-faulty refl h
  line-earns l m (Ok (Some t)) e r h =
      let s : Statement = record { subject = spanned l t.subject; predicate = spanned l t.predicate; object = spanned l t.object } in
      let w = said-states l t e in
      let i : s ∈ statements (lines_of b) = said-among s l (lines_of b) m (subst (λ (u : List Statement). s ∈ u) (sym (states-said l s w)) (Memᴰ.head refl)) in
      record { statement = s; states = w; first = (fact-earns s i r).0 h }

  pub fact-refused : (l : List ℕ) → l ∈ lines_of b → (r : Refusal) → fact_refusal (fact_of (known_by (statements (lines_of b)))) (said l) ≡ Faulty r ↔ FactRefused (statements (lines_of b)) l r
  fact-refused l m r = (line-earns l m (line_of l) refl r, back)
    where
      back : FactRefused (statements (lines_of b)) l r → fact_refusal (fact_of (known_by (statements (lines_of b)))) (said l) ≡ Faulty r
      back h =
          let s = h.statement in
          let e = states-said l s h.states in
          let i : s ∈ statements (lines_of b) = said-among s l (lines_of b) m (subst (λ (u : List Statement). s ∈ u) (sym e) (Memᴰ.head refl)) in
          ap (fact_refusal (fact_of (known_by (statements (lines_of b))))) e ∙ one-refusal (fact_of (known_by (statements (lines_of b)))) s ∙ (fact-earns s i r).1 h.first
