-- Terms of tokens: what is known after some tokens, in reading order; a number stays, no two tokens have one, and each kind has its range.
-- Assumes nothing.
use mathlib.Core.Path.{◌≡◌, refl, sym, ap, ◌∙◌}
use mathlib.Core.Logic.{◌⊎◌, inl, inr, ⊎_elim}
use mathlib.Core.Bool.{true, false, cond, true≢false}
use mathlib.Core.List.Memᴰ
use mathlib.Core.List.{List, [], ◌∷◌, ◌++◌, Memᴰ}
use Prim.Native.Nat.{ℕ, ◌+◌, ◌≤◌, ◌<◌}
use native.Mathlib.Omega.{arith}
use lib.ListN.{length}
use Rattle.facts.proofs.Terms.{by_cases}
use Rattle.ntriples.specs.Tokens.{Token}
use Rattle.numbering.specs.Numbering.{same, has, place, is_literal, Known, knows, number_in}
use Rattle.numbering.specs.Vocabulary.{sc, sp, dom, range, type, vocabulary, term_of, with_term, known_after, known, unknown}
use Rattle.numbering.proofs.Numbering.{same-eq, place-within, place-injective, known_kept, known-new, known-still, number-injective, token-bounds}

-- the token has a number: it is of the vocabulary, or known
abbrev pub Numbered : Known → Token → Type 0
Numbered k t = (has t vocabulary ≡ true) ⊎ (knows k t ≡ true)

-- ... so one that is not of the vocabulary is known
numbered-known : (k : Known) (t : Token) → has t vocabulary ≡ false → Numbered k t → knows k t ≡ true
numbered-known k t p (inl v) = absurd (true≢false (sym v ∙ p))
numbered-known k t p (inr v) = v

-- ---- one more token

pub numbered-new : (k : Known) (x : Token) → Numbered (with_term k x) x
unfolding with_term
numbered-new k x = by_cases (has x vocabulary) (λ p. inl p) (λ p. inr (rw p (known-new k x)))

pub numbered-still : (k : Known) (x t : Token) → Numbered k t → Numbered (with_term k x) t
unfolding with_term
numbered-still k x t (inl v) = inl v
numbered-still k x t (inr v) = inr (by_cases (has x vocabulary) (λ p. rw p v) (λ p. rw p (known-still k x t v).0))

-- a number stays
pub term-still : (k : Known) (x t : Token) → Numbered k t → term_of (with_term k x) t ≡ term_of k t
unfolding with_term term_of
term-still k x t (inl v) = rw v
term-still k x t (inr v) = by_cases (has x vocabulary) (λ p. rw p) (λ p. rw (p, (known-still k x t v).1))

-- a token that has a number brings nothing new
pub term-kept : (k : Known) (x : Token) → Numbered k x → with_term k x ≡ k
unfolding with_term
term-kept k x h = by_cases (has x vocabulary) (λ p. rw p) (λ p. rw p (known_kept k x (numbered-known k x p h)))

-- ---- some more tokens

pub after-append : (k : Known) (ts us : List Token) → known_after k (ts ++ us) ≡ known_after (known_after k ts) us
unfolding known_after
after-append k [] us = refl
after-append k (t ∷ ts) us = after-append (with_term k t) ts us

pub after-still : (k : Known) (ts : List Token) (t : Token) → Numbered k t → Numbered (known_after k ts) t × (term_of (known_after k ts) t ≡ term_of k t)
unfolding known_after
after-still k [] t h = (h, refl)
after-still k (x ∷ ts) t h =
    let r = after-still (with_term k x) ts t (numbered-still k x t h) in
    (r.0, r.1 ∙ term-still k x t h)

pub after-numbered : (k : Known) (ts : List Token) (t : Token) → Memᴰ t ts → Numbered (known_after k ts) t
unfolding known_after
after-numbered k [] t m = absurd (Memᴰ.not-nil m)
after-numbered k (x ∷ ts) t m =
    ⊎_elim (λ (e : t ≡ x). rw e (after-still (with_term k x) ts x (numbered-new k x)).0) (λ (l : Memᴰ t ts). after-numbered (with_term k x) ts t l) (Memᴰ.cases_cons m)

pub after_kept : (k : Known) (ts : List Token) → ((t : Token) → Memᴰ t ts → Numbered k t) → known_after k ts ≡ k
unfolding known_after
after_kept k [] h = refl
after_kept k (t ∷ ts) h =
    ap (λ (x : Known). known_after x ts) (term-kept k t (h t (Memᴰ.head refl))) ∙ after_kept k ts (λ u m. h u (Memᴰ.tail m))

-- ---- how many have numbers

-- the literals among some tokens, each as often as it stands there
unfoldable pub literal_count : List Token → ℕ
unfolding is_literal
literal_count [] = 0
literal_count (t ∷ ts) = cond (is_literal t) 1 0 + literal_count ts

term-bounds : (k : Known) (t : Token)
    → (length (with_term k t).names ≤ length k.names + 1) × (length (with_term k t).literals ≤ length k.literals + cond (is_literal t) 1 0)
unfolding with_term
term-bounds k t = by_cases (has t vocabulary) (λ p. rw p (omega arith, omega arith)) (λ p. rw p (token-bounds k t))

after-bounds : (k : Known) (ts : List Token)
    → (length (known_after k ts).names ≤ length k.names + length ts) × (length (known_after k ts).literals ≤ length k.literals + literal_count ts)
unfolding known_after literal_count
after-bounds k [] = (omega arith, omega arith)
after-bounds k (t ∷ ts) =
    let a = term-bounds k t in
    let b = after-bounds (with_term k t) ts in
    (omega arith, omega arith)

-- not more names than tokens, and not more literals than tokens that are literals
pub known-bounds : (ts : List Token) → (length (known ts).names ≤ length ts) × (length (known ts).literals ≤ literal_count ts)
known-bounds ts = let b = after-bounds unknown ts in (omega arith, omega arith)

-- ---- the vocabulary

pub fixed : (k : Known) → (term_of k sc ≡ 1) × (term_of k sp ≡ 2) × (term_of k dom ≡ 3) × (term_of k range ≡ 4) × (term_of k type ≡ 5)
unfolding term_of sc sp dom range type
fixed k = (refl, refl, refl, refl, refl)

-- a token is no literal where none is among those that it stands among
no-literal : (t : Token) (us : List Token) → literal_count us ≡ 0 → has t us ≡ true → is_literal t ≡ false
unfolding literal_count has
no-literal t [] n e = absurd (true≢false (sym e))
no-literal t (u ∷ us) n e =
    by_cases (same t u)
    (λ p. rw (same-eq t u p) (by_cases (is_literal u) (λ q. absurd (let z : 1 + literal_count us ≡ 0 = rw q at n in omega arith)) (λ q. q)))
    (λ p. no-literal t us (omega arith) (rw p at e))

pub vocabulary-names : (t : Token) → has t vocabulary ≡ true → is_literal t ≡ false
unfolding literal_count sc sp dom range type
vocabulary-names t = no-literal t vocabulary refl

pub literal-other : (t : Token) → is_literal t ≡ true → has t vocabulary ≡ false
literal-other t l = by_cases (has t vocabulary) (λ e. absurd (true≢false (sym l ∙ vocabulary-names t e))) (λ e. e)

-- ---- kinds

-- the term of a token that has one: by the vocabulary, among the names, or among the literals
pub record Kinds (k : Known) (t : Token) : Type 0 where
  pub fixed : has t vocabulary ≡ true → term_of k t ≡ 1 + place t vocabulary
  pub name : has t vocabulary ≡ false → is_literal t ≡ false → (6 ≤ term_of k t) × (term_of k t < 40000)
  pub literal : is_literal t ≡ true → (40000 ≤ term_of k t) × (term_of k t < 50000)

number-name : (k : Known) (t : Token) → knows k t ≡ true → is_literal t ≡ false → (6 ≤ number_in k t) × (number_in k t < 6 + length k.names)
unfolding knows number_in
number-name k t e l = rw l (omega arith, omega (arith, place-within t k.names (rw l at e)))

number-literal : (k : Known) (t : Token) → knows k t ≡ true → is_literal t ≡ true → (40000 ≤ number_in k t) × (number_in k t < 40000 + length k.literals)
unfolding knows number_in
number-literal k t e l = rw l (omega arith, omega (arith, place-within t k.literals (rw l at e)))

pub term-kinds : (k : Known) (t : Token) → length k.names ≤ 39994 → length k.literals ≤ 10000 → Numbered k t → Kinds k t
unfolding term_of
term-kinds k t few less h =
    record {
      fixed = λ v. rw v;
      name = λ v l. let r = number-name k t (numbered-known k t v h) l in rw v (omega arith, omega arith);
      literal = λ l. let v = literal-other t l in let r = number-literal k t (numbered-known k t v h) l in rw v (omega arith, omega arith);
    }

-- ---- no two tokens have one number

pub number-least : (k : Known) (t : Token) → 6 ≤ number_in k t
unfolding number_in
number-least k t = by_cases (is_literal t) (λ p. rw p (omega arith)) (λ p. rw p (omega arith))

pub term-injective : (k : Known) (s t : Token) → length k.names ≤ 39994 → Numbered k s → Numbered k t → term_of k s ≡ term_of k t → s ≡ t
unfolding term_of
term-injective k s t few hs ht e =
    by_cases (has s vocabulary)
    (λ p. by_cases (has t vocabulary)
    (λ q. place-injective s t vocabulary p q (let z : 1 + place s vocabulary ≡ 1 + place t vocabulary = rw (p, q) at e in omega arith))
    (λ q. absurd (let z : 1 + place s vocabulary ≡ number_in k t = rw (p, q) at e in omega (arith, place-within s vocabulary p, number-least k t))))
    (λ p. by_cases (has t vocabulary)
    (λ q. absurd (let z : number_in k s ≡ 1 + place t vocabulary = rw (p, q) at e in omega (arith, place-within t vocabulary q, number-least k s)))
    (λ q. number-injective k s t few (numbered-known k s p hs) (numbered-known k t q ht) (rw (p, q) at e)))
