-- Laws of lines: their length; a line that is written is read back; what reads as a line is the line of its numbers.
-- Assumes nothing.
use mathlib.Core.Path.{◌≡◌, refl, sym, ap, ◌∙◌}
use mathlib.Core.Bool.{true, ◌&&◌}
use mathlib.Core.List.{List, [], ◌∷◌, ◌++◌, append_assoc, append-nil}
use Prim.Native.Nat.{ℕ, zero, suc, ◌+◌, ◌-◌, ◌*◌, ◌≤◌, ◌<◌}
use native.Mathlib.Omega.{arith}
use native.Mathlib.Nat.{add-zero}
use native.Mathlib.Numerals.{add-one}
use lib.ListN.{length, get_or, drop, take, length-append}
use lib.Seq.{drop-drop, drop-cons, drop_at, get_or-drop}
use lib.Dec.{eqb}
use borrow.Author.Tests.{eqb-true, eq-eqb}
use Rattle.columns.specs.Fields.{field, number_at, is_field}
use Rattle.columns.specs.Lines.{fields, line, width, numbers_at, laid_out, Below}
use Rattle.columns.proofs.Fields.{both, field_below, field-read, field-written}

pub field-length : (n : ℕ) → length (field n) ≡ 5
unfolding field
field-length n = refl

pub fields-length : (ns : List ℕ) → length (fields ns) ≡ 5 * length ns
unfolding fields
fields-length [] = refl
fields-length (n ∷ ns) = rw length-append (omega (arith, field-length n, fields-length ns))

pub line-length : (ns : List ℕ) → length (line ns) ≡ width (length ns)
unfolding line
line-length ns = rw (length-append, fields-length)

-- one field more
pub fields-more : (ns : List ℕ) (i : ℕ) → i < length ns → fields (take (suc i) ns) ≡ fields (take i ns) ++ field (get_or ns i 0)
unfolding fields
fields-more [] i h = absurd (omega arith)
fields-more (n ∷ ns) zero h = append-nil (field n)
fields-more (n ∷ ns) (suc i) h = rw (fields-more ns i (omega arith)) (sym (append_assoc (field n) (fields (take i ns)) (field (get_or ns i 0))))

pub line-cons : (n : ℕ) (ns : List ℕ) → line (n ∷ ns) ≡ field n ++ line ns
unfolding line fields
line-cons n ns = append_assoc (field n) (fields ns) (10 ∷ [])

-- a line that is written is read back
pub line_read : (ns : List ℕ) (s rest : List ℕ) (at : ℕ) → Below ns → drop at s ≡ line ns ++ rest
    → (laid_out (length ns) s at ≡ true) × (numbers_at (length ns) s at ≡ ns)
unfolding laid_out numbers_at
line_read [] s rest at b e = unfold line fields in (eq-eqb _ _ (rw add-zero at (sym (get_or-drop at s 0 0) ∙ ap (λ l. get_or l 0 0) e)), refl)
line_read (n ∷ ns) s rest at b e =
    let e₁ : drop at s ≡ field n ++ (line ns ++ rest) = e ∙ rw (line-cons, append_assoc) in
    let f = field-read s (line ns ++ rest) at n b.0 e₁ in
    let e₂ : drop (at + 5) s ≡ line ns ++ rest = rw (← drop-drop 5 at s, e₁) (drop_at (field n) (line ns ++ rest) 5 (field-length n)) in
    let r = line_read ns s rest (at + 5) b.1 e₂ in
    (rw f.0 r.0, rw (f.1, r.1))

-- what is laid out as a line is the line of its numbers, each below 100,000
pub line-written : (k : ℕ) (s : List ℕ) (at : ℕ) → at + width k ≤ length s → laid_out k s at ≡ true
    → (drop at s ≡ line (numbers_at k s at) ++ drop (at + width k) s) × Below (numbers_at k s at)
unfolding laid_out numbers_at
line-written zero s at h e = unfold line fields in (rw (drop-cons s at 0 (omega arith), eqb-true (get_or s at 0) 10 e, add-one), tt)
line-written (suc k) s at h e =
    let b = both (is_field s at) (laid_out k s (at + 5)) e in
    let r = line-written k s (at + 5) (omega arith) b.1 in
    let n : at + width (suc k) ≡ at + 5 + width k = omega arith in
    (rw (line-cons, append_assoc, n) (field-written s at (omega arith) b.0 ∙ ap (λ l. field (number_at s at) ++ l) r.0), (field_below s at b.0, r.1))

pub numbers-length : (k : ℕ) (s : List ℕ) (at : ℕ) → length (numbers_at k s at) ≡ k
unfolding numbers_at
numbers-length zero s at = refl
numbers-length (suc k) s at = ap suc (numbers-length k s (at + 5))

-- what is left to be laid out: one field, and then the rest
pub laid_out-next : (k i : ℕ) (s : List ℕ) (here : ℕ) → i < k → laid_out (k - i) s here ≡ is_field s here && laid_out (k - (i + 1)) s (here + 5)
unfolding laid_out
laid_out-next k i s here h = let e : k - i ≡ suc (k - (i + 1)) = omega arith in rw e

pub laid_out-end : (k i : ℕ) (s : List ℕ) (here : ℕ) → i ≡ k → laid_out (k - i) s here ≡ eqb (get_or s here 0) 10
unfolding laid_out
laid_out-end k i s here h = let e : k - i ≡ zero = omega arith in rw e

-- a number of a line is below 100,000
pub below_at : (ns : List ℕ) (i : ℕ) → Below ns → i < length ns → get_or ns i 0 < 100000
below_at [] i b h = absurd (omega arith)
below_at (n ∷ ns) zero b h = b.0
below_at (n ∷ ns) (suc i) b h = below_at ns i b.1 (omega arith)
