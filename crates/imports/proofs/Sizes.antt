-- How many statements an input of at most 65,536 bytes makes, and so how many names and literals: every token has a number of its kind.
-- Assumes nothing.
use mathlib.Core.Path.{◌≡◌, refl, ap}
use mathlib.Core.Logic.{⊎_elim}
use mathlib.Core.Bool.{false}
use mathlib.Core.List.{List, [], ◌∷◌, ◌++◌, Memᴰ}
use Prim.Native.Nat.{ℕ, ◌+◌, ◌*◌, ◌-◌, ◌≤◌}
use native.Mathlib.Omega.{arith}
use native.Mathlib.Nat.{add-zero}
use lib.ListN.{length, get_or, drop, length-append}
use lib.Seq.{get_or-take, get_or-drop}
use lib.Dec.{eqb}
use Rattle.facts.proofs.Terms.{by_cases}
use Rattle.std.specs.Prelude.{None, Some, Ok, Err}
use Rattle.ntriples.specs.declared.Span.{Span}
use Rattle.ntriples.specs.Grammar.{joined}
use Rattle.ntriples.specs.Lexed.{Line, line_of}
use Rattle.ntriples.specs.Tokens.{Token, spanned}
use Rattle.ntriples.proofs.Spans.{triple-spans, triple-bytes}
use Rattle.numbering.specs.Numbering.{is_literal}
use Rattle.numbering.specs.Vocabulary.{unknown}
use Rattle.numbering.proofs.Terms.{Kinds, term-kinds, after-numbered, literal_count, known-bounds}
use Rattle.imports.specs.Lines.{on_first, lines_of, Statement, said_by, said, statements, tokens}
use Rattle.imports.specs.Import.{known_by}

-- ---- bytes

-- the lines have no more bytes than the input
first-bytes : (b : ℕ) (ls : List (List ℕ)) → joined (on_first b ls) ≡ b ∷ joined ls
unfolding on_first joined
first-bytes b [] = refl
first-bytes b (l ∷ ls) = refl

lines-bytes : (s : List ℕ) → length (joined (lines_of s)) ≤ length s
unfolding lines_of joined
lines-bytes [] = omega arith
lines-bytes (b ∷ s) =
    by_cases (eqb b 10) (λ e. rw e (omega (arith, lines-bytes s)))
    (λ e. rw e (omega (arith, lines-bytes s, ap length (first-bytes b (lines_of s)))))

-- seven bytes or more for each statement
said-bytes : (l : List ℕ) (x : Line) → line_of l ≡ x → 7 * length (said_by l x) ≤ length l
unfolding said_by
said-bytes l (Err f) e = omega arith
said-bytes l (Ok None) e = omega arith
said-bytes l (Ok (Some t)) e = triple-bytes l t e

statements-bytes : (ls : List (List ℕ)) → 7 * length (statements ls) ≤ length (joined ls)
unfolding statements joined
statements-bytes [] = omega arith
statements-bytes (l ∷ ls) =
    omega (arith, said-bytes l (line_of l) refl, statements-bytes ls, length-append (said l) (statements ls), length-append l (joined ls))

-- ---- tokens

tokens-length : (ss : List Statement) → length (tokens ss) ≡ 3 * length ss
unfolding tokens
tokens-length [] = refl
tokens-length (s ∷ ss) = omega (arith, tokens-length ss)

-- a part that begins with < is no literal
iri-token : (l : List ℕ) (a : Span) → a.from + 2 ≤ a.to → get_or l a.from 0 ≡ 60 → is_literal (spanned l a) ≡ false
unfolding is_literal
iri-token l a h e = rw (get_or-take (a.to - a.from) (drop a.from l) 0 0 (omega arith), get_or-drop, add-zero, e)

-- one literal at most for each statement
said-literals : (l : List ℕ) (ss : List Statement) (x : Line) → line_of l ≡ x → literal_count (tokens ss) ≤ length ss → literal_count (tokens (said_by l x ++ ss)) ≤ length (said_by l x ++ ss)
unfolding said_by tokens literal_count
said-literals l ss (Err f) e h = h
said-literals l ss (Ok None) e h = h
said-literals l ss (Ok (Some t)) e h =
    let s = triple-spans l t e in
    rw (iri-token l t.subject s.subject s.subject-first, iri-token l t.predicate s.predicate s.predicate-first)
    (by_cases (is_literal (spanned l t.object)) (λ p. rw p (omega arith)) (λ p. rw p (omega arith)))

statements-literals : (ls : List (List ℕ)) → literal_count (tokens (statements ls)) ≤ length (statements ls)
unfolding statements tokens literal_count
statements-literals [] = omega arith
statements-literals (l ∷ ls) = said-literals l (statements ls) (line_of l) refl (statements-literals ls)

-- ---- kinds

-- not more names and literals than there are numbers for
pub known-few : (s : List ℕ) → length s ≤ 65536
    → (length (known_by (statements (lines_of s))).names ≤ 39994) × (length (known_by (statements (lines_of s))).literals ≤ 10000)
known-few s h =
    let ss = statements (lines_of s) in
    let n : 7 * length ss ≤ length s = omega (arith, statements-bytes (lines_of s), lines-bytes s) in
    let b = known-bounds (tokens ss) in
    (omega (arith, tokens-length ss), omega (arith, statements-literals (lines_of s)))

-- a statement's tokens are among those of all
pub tokens-among : (s : Statement) (ss : List Statement) → Memᴰ s ss
    → Memᴰ s.subject (tokens ss) × Memᴰ s.predicate (tokens ss) × Memᴰ s.object (tokens ss)
unfolding tokens
tokens-among s [] m = absurd (mathlib.Core.List.Memᴰ.not-nil m)
tokens-among s (u ∷ us) m =
    ⊎_elim
    (λ (e : s ≡ u). rw e (mathlib.Core.List.Memᴰ.head refl, mathlib.Core.List.Memᴰ.tail (mathlib.Core.List.Memᴰ.head refl), mathlib.Core.List.Memᴰ.tail (mathlib.Core.List.Memᴰ.tail (mathlib.Core.List.Memᴰ.head refl))))
    (λ (i : Memᴰ s us). let r = tokens-among s us i in (mathlib.Core.List.Memᴰ.tail (mathlib.Core.List.Memᴰ.tail (mathlib.Core.List.Memᴰ.tail r.0)), mathlib.Core.List.Memᴰ.tail (mathlib.Core.List.Memᴰ.tail (mathlib.Core.List.Memᴰ.tail r.1)), mathlib.Core.List.Memᴰ.tail (mathlib.Core.List.Memᴰ.tail (mathlib.Core.List.Memᴰ.tail r.2))))
    (mathlib.Core.List.Memᴰ.cases_cons m)

-- and a line's statement among those of all lines
pub said-among : (s : Statement) (l : List ℕ) (ls : List (List ℕ)) → Memᴰ l ls → Memᴰ s (said l) → Memᴰ s (statements ls)
unfolding statements
said-among s l [] m i = absurd (mathlib.Core.List.Memᴰ.not-nil m)
said-among s l (k ∷ ks) m i =
    ⊎_elim (λ (e : l ≡ k). mathlib.Core.List.Memᴰ.append_left (statements ks) (rw e at i)) (λ (n : Memᴰ l ks). mathlib.Core.List.Memᴰ.append_right (said k) (said-among s l ks n i)) (mathlib.Core.List.Memᴰ.cases_cons m)

-- each token of an input has a number, and it is of its kind
pub token-kinds : (s : List ℕ) → length s ≤ 65536 → (t : Token) → Memᴰ t (tokens (statements (lines_of s))) → Kinds (known_by (statements (lines_of s))) t
token-kinds s h t m =
    let ts = tokens (statements (lines_of s)) in
    let f = known-few s h in
    term-kinds (known_by (statements (lines_of s))) t f.0 f.1 (after-numbered unknown ts t m)
