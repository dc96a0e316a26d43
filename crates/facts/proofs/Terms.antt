-- Laws of tests and of the kinds of terms.
-- Assumes nothing.
use mathlib.Core.Path.{◌≡◌, refl}
use mathlib.Core.Bool.{Bool, true, false, not, ◌&&◌, ◌||◌}
use Prim.Native.Nat.{ℕ, ◌≤◌, ◌<◌}
use native.Mathlib.Omega.{arith}
use lib.Dec.{T, leb, ltb, eqb}
use borrow.Author.Tests.{eqb-true, eqb-false, ltb-true, ltb-false, leb-true, leb-false}
use Rattle.facts.specs.declared.Kind.{Kind}
use Rattle.facts.specs.declared.Kind.TheVariants.{NoTerm, Vocabulary, Name, Literal, BlankNode, Beyond}
use Rattle.facts.specs.Terms.{kind_of, is_no_term, is_vocabulary, is_name, is_literal, is_blank}

-- ---- tests

pub by_cases : {X : Type 0} (b : Bool) → (b ≡ true → X) → (b ≡ false → X) → X
by_cases true f g = f refl
by_cases false f g = g refl

pub T_of : (b : Bool) → b ≡ true → T b
T_of b e = rw e tt

pub of_T : (b : Bool) → T b → b ≡ true
of_T true t = refl
of_T false t = absurd t

pub of-F : (b : Bool) → T (not b) → b ≡ false
of-F true t = absurd t
of-F false t = refl

pub and-false : (a b : Bool) → b ≡ false → a && b ≡ false
and-false true b e = e
and-false false b e = refl

-- two tests, or three, that all fail
pub neither : (a b : Bool) → T (not (a || b)) → (a ≡ false) × (b ≡ false)
neither false b t = (refl, of-F b t)
neither true b t = absurd t

pub none_of : (a b c : Bool) → T (not (a || b || c)) → (a ≡ false) × (b ≡ false) × (c ≡ false)
none_of false false c t = (refl, refl, of-F c t)
none_of false true c t = absurd t
none_of true b c t = absurd t

-- ---- kinds

-- a node is what is neither no term nor a blank node nor vocabulary, nor a literal where it must be a name
pub node-kinds : (named : Bool) (k : Kind) → is_name k || is_literal k && not named ≡ not (is_no_term k || is_blank k || (is_vocabulary k || is_literal k && named))
node-kinds named NoTerm = refl
node-kinds named Vocabulary = refl
node-kinds named Name = refl
node-kinds named Literal = refl
node-kinds named BlankNode = refl
node-kinds named Beyond = refl

-- a predicate is what is neither no term nor a blank node nor a literal
pub predicate-kinds : (k : Kind) → is_name k || is_vocabulary k ≡ not (is_no_term k || is_blank k || is_literal k)
predicate-kinds NoTerm = refl
predicate-kinds Vocabulary = refl
predicate-kinds Name = refl
predicate-kinds Literal = refl
predicate-kinds BlankNode = refl
predicate-kinds Beyond = refl

-- a node that must be a name is one
pub node-name : (k : Kind) → T (is_name k || is_literal k && false) → is_name k ≡ true
node-name NoTerm t = absurd t
node-name Vocabulary t = absurd t
node-name Name t = refl
node-name Literal t = absurd t
node-name BlankNode t = absurd t
node-name Beyond t = absurd t

-- the numbers of each kind
abbrev pub OfKind : Kind → ℕ → Type 0
OfKind NoTerm n = n ≡ 0
OfKind Vocabulary n = (1 ≤ n) × (n < 6)
OfKind Name n = (6 ≤ n) × (n < 40000)
OfKind Literal n = (40000 ≤ n) × (n < 60000)
OfKind BlankNode n = (60000 ≤ n) × (n ≤ 65535)
OfKind Beyond n = 65535 < n

pub kind-within : (n : ℕ) → OfKind (kind_of n) n
unfolding kind_of
kind-within n =
    by_cases (eqb n 0) (λ a. rw a (eqb-true n 0 a))
    (λ a. by_cases (ltb n 6) (λ b. rw (a, b) (omega (arith, eqb-false n 0 a), ltb-true n 6 b))
    (λ b. by_cases (ltb n 40000) (λ c. rw (a, b, c) (ltb-false n 6 b, ltb-true n 40000 c))
    (λ c. by_cases (ltb n 60000) (λ d. rw (a, b, c, d) (ltb-false n 40000 c, ltb-true n 60000 d))
    (λ d. by_cases (leb n 65535) (λ e. rw (a, b, c, d, e) (ltb-false n 60000 d, leb-true n 65535 e))
    (λ e. rw (a, b, c, d, e) (leb-false n 65535 e))))))

-- the vocabulary is below the names
pub vocabulary-below : (n : ℕ) → T (is_vocabulary (kind_of n)) → n < 6
vocabulary-below n = go (kind_of n) (kind-within n)
  where
    go : (k : Kind) → OfKind k n → T (is_vocabulary k) → n < 6
    go NoTerm w t = absurd t
    go Vocabulary w t = w.1
    go Name w t = absurd t
    go Literal w t = absurd t
    go BlankNode w t = absurd t
    go Beyond w t = absurd t
