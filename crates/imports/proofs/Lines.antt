-- Laws of lines: where the first ends, and the lines from a place on.
-- Assumes nothing.
use mathlib.Core.Path.{◌≡◌, refl}
use mathlib.Core.Bool.{true, false, not}
use mathlib.Core.List.{List, [], ◌∷◌, ◌++◌}
use Prim.Native.Nat.{ℕ, suc, ◌+◌, ◌-◌, ◌≤◌, ◌<◌}
use native.Mathlib.Nat.{zero-add}
use native.Mathlib.Numerals.{add-one}
use native.Mathlib.Omega.{arith}
use lib.ListN.{length, get_or, take, drop, length-drop, drop_of_length-le}
use lib.Seq.{drop-cons, drop-drop}
use lib.Dec.{eqb}
use Rattle.facts.proofs.Terms.{by_cases}
use Rattle.std.proofs.lemmas.List.Sums.{prefix_len-le-length}
use Rattle.ntriples.specs.Tokens.{part}
use Rattle.imports.specs.Lines.{on_first, lines_of, said, statements, first_length, line_end}

-- ---- the first line

first-none : first_length [] ≡ 0
unfolding first_length
first-none = refl

first-ends : (b : ℕ) (s : List ℕ) → eqb b 10 ≡ true → first_length (b ∷ s) ≡ 0
unfolding first_length
first-ends b s e = rw e

first-more : (b : ℕ) (s : List ℕ) → eqb b 10 ≡ false → first_length (b ∷ s) ≡ suc (first_length s)
unfolding first_length
first-more b s e = rw e (omega arith)

-- the lines of some bytes: the first, and those behind the byte that ends it
lines-first : (b : ℕ) (s : List ℕ) → lines_of (b ∷ s) ≡ take (first_length (b ∷ s)) (b ∷ s) ∷ lines_of (drop (suc (first_length (b ∷ s))) (b ∷ s))
unfolding lines_of
lines-first b [] = by_cases (eqb b 10) (λ e. rw (first-ends b [] e, e)) (λ e. rw (first-more b [] e, e, first-none))
lines-first b (d ∷ s) = by_cases (eqb b 10) (λ e. rw (first-ends b (d ∷ s) e, e)) (λ e. rw (first-more b (d ∷ s) e, e, lines-first d s))

first-within : (s : List ℕ) → first_length s ≤ length s
unfolding first_length
first-within s = prefix_len-le-length (λ b. not (eqb b 10)) s

-- ---- from a place on

-- a line ends within the input
pub end-within : (s : List ℕ) (at : ℕ) → at ≤ length s → line_end s at ≤ length s
end-within s at h = omega (arith, first-within (drop at s), length-drop at s)

-- the lines from a place on: the one that begins there, and those behind the byte that ends it
pub lines_next : (s : List ℕ) (at : ℕ) → at < length s → lines_of (drop at s) ≡ part s at (line_end s at) ∷ lines_of (drop (line_end s at + 1) s)
lines_next s at h =
    let n : ℕ = first_length (drop at s) in
    let a : at + n - at ≡ n = omega arith in
    let b : at + n + 1 ≡ at + suc n = omega arith in
    let e : drop (at + n + 1) s ≡ drop (suc n) (drop at s) = rw (b, drop-drop) in
    rw (a, e, drop-cons s at 0 h) (lines-first (get_or s at 0) (drop (suc at) s))

pub lines_none : (s : List ℕ) (at : ℕ) → length s ≤ at → lines_of (drop at s) ≡ []
unfolding lines_of
lines_none s at h = rw (drop_of_length-le s h)

-- each has one byte at least, its end
pub lines-few : (s : List ℕ) → length (lines_of s) ≤ length s
unfolding lines_of
lines-few [] = omega arith
lines-few (b ∷ s) = by_cases (eqb b 10) (λ e. rw e (omega (arith, lines-few s))) (λ e. rw e (omega (arith, lines-few s, first-few b (lines_of s))))
  where
    first-few : (b : ℕ) (ls : List (List ℕ)) → length (on_first b ls) ≤ suc (length ls)
    first-few b [] = omega arith
    first-few b (l ∷ ls) = omega arith

-- the same, from the first on
pub lines_first : (s : List ℕ) → 0 < length s → lines_of s ≡ take (line_end s 0) s ∷ lines_of (drop (line_end s 0 + 1) s)
lines_first [] h = absurd (omega arith)
lines_first (b ∷ s) h = rw (zero-add, add-one) (lines-first b s)

pub lines_over : (s : List ℕ) → length s ≡ 0 → lines_of s ≡ []
unfolding lines_of
lines_over [] h = refl
lines_over (b ∷ s) h = absurd (omega arith)

-- the statements from a place on: that of the line that begins there, and those of the lines behind it
pub statements-next : (s : List ℕ) (at : ℕ) → at < length s → statements (lines_of (drop at s)) ≡ said (part s at (line_end s at)) ++ statements (lines_of (drop (line_end s at + 1) s))
unfolding statements
statements-next s at h = rw (lines_next s at h)

pub statements-none : (s : List ℕ) (at : ℕ) → length s ≤ at → statements (lines_of (drop at s)) ≡ []
unfolding statements
statements-none s at h = rw (lines_none s at h)
