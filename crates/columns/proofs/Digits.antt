-- A field, a line and lines that are written show their numbers, column by column; of a number of up to five digits no digit is left out.
-- Assumes nothing.
use mathlib.Core.Path.{◌≡◌, refl, sym, ◌∙◌}
use mathlib.Core.Bool.{cond}
use mathlib.Core.List.{List, [], ◌∷◌, ◌++◌, append_assoc}
use Prim.Native.Nat.{ℕ, zero, suc, ◌+◌, ◌-◌, ◌*◌, ◌/◌, ◌%◌, ◌^◌, ◌≤◌, ◌<◌}
use native.Mathlib.Omega.{arith}
use native.Mathlib.Nat.{zero-add, div-eq_of_lt, pow-succ', mul-le-mul_left}
use lib.ListN.{length, get_or, drop, get_or-append}
use lib.Seq.{get_or-drop, get_or-append_seam, drop-drop, drop_at, drop-append-le, ext_get_or}
use lib.Dec.{leb}
use borrow.Author.Tests.{leb-true, leb-false, lt-leb, ne_eqb}
use Rattle.columns.specs.Fields.{column, field}
use Rattle.columns.specs.Lines.{line, fields, width, over, flat, Below}
use Rattle.columns.specs.Digits.{shown, Shows, ShowsLine}
use Rattle.columns.proofs.Columns.{by_cases}
use Rattle.columns.proofs.Lines.{field-length, fields-length, line-length, line-cons}
use Rattle.columns.proofs.Lists.{flat-length, flat-at}

-- ---- one field

-- a column left of the last, by the power that stands for it
column-at : (n p : ℕ) → (p ≤ n → 0 < n / p) → column (n / p) ≡ cond (leb p n) (48 + n / p % 10) 32
unfolding column
column-at n p h =
    by_cases (leb p n)
    (λ e. let q : 0 < n / p = h (leb-true p n e) in rw (e, ne_eqb (n / p) 0 (λ z. omega arith)))
    (λ e. let q : n / p ≡ 0 = div-eq_of_lt (leb-false p n e) in rw (e, q))

pub field-shown : (n : ℕ) → Shows (field n) 0 n
unfolding field shown
field-shown n zero h = let e : n / 1 ≡ n = omega arith in rw e
field-shown n (suc zero) h = column-at n 10 (λ l. omega arith)
field-shown n (suc (suc zero)) h = let e : n / 10 / 10 ≡ n / 100 = omega arith in rw e (column-at n 100 (λ l. omega arith))
field-shown n (suc (suc (suc zero))) h = let e : n / 10 / 10 / 10 ≡ n / 1000 = omega arith in rw e (column-at n 1000 (λ l. omega arith))
field-shown n (suc (suc (suc (suc zero)))) h = let e : n / 10 / 10 / 10 / 10 ≡ n / 10000 = omega arith in rw e (column-at n 10000 (λ l. omega arith))
field-shown n (suc (suc (suc (suc (suc k))))) h = absurd (omega arith)

-- five bytes that show n are its field
pub shown-field : (s : List ℕ) (n : ℕ) → length s ≡ 5 → Shows s 0 n → s ≡ field n
shown-field s n e h =
    ext_get_or 0 s (field n) (e ∙ sym (field-length n))
    (λ i l. let k : 4 - (4 - i) ≡ i = omega arith in rw k at (h (4 - i) (omega arith) ∙ sym (field-shown n (4 - i) (omega arith))))

power-most : (j : ℕ) → 100000 ≤ 10 ^ (j + 5)
power-most zero = omega arith
power-most (suc j) = let e : suc j + 5 ≡ suc (j + 5) = omega arith in rw (e, pow-succ') (omega (arith, power-most j))

-- left of the fifth column stands no digit of a number of up to five
pub shown-none : (n k : ℕ) → n < 100000 → 5 ≤ k → shown n k ≡ 32
unfolding shown
shown-none n k h l =
    let e : k ≡ k - 5 + 5 = omega arith in
    let p : 100000 ≤ 10 ^ k = rw e (power-most (k - 5)) in
    rw (ne_eqb k 0 (λ z. omega arith), lt-leb (10 ^ k) n (omega arith))

-- ---- lines

-- where a field stands, its number is shown
field-there : (s rest : List ℕ) (at n : ℕ) → drop at s ≡ field n ++ rest → Shows s at n
field-there s rest at n e k h =
    let i : at + 4 - k ≡ at + (4 - k) = omega arith in
    rw (i, ← get_or-drop at s (4 - k) 0, e, get_or-append (field n) rest 0 (4 - k) (rw field-length (omega arith)))
    (field-shown n k h)

-- one field of a line, and what is behind it
line-next : (n : ℕ) (ns s rest : List ℕ) (at : ℕ) → drop at s ≡ line (n ∷ ns) ++ rest → (drop at s ≡ field n ++ (line ns ++ rest)) × (drop (at + 5) s ≡ line ns ++ rest)
line-next n ns s rest at e =
    let f : drop at s ≡ field n ++ (line ns ++ rest) = e ∙ rw (line-cons, append_assoc) in
    (f, rw (← drop-drop 5 at s, f) (drop_at (field n) (line ns ++ rest) 5 (field-length n)))

fields-there : (ns s rest : List ℕ) (at i : ℕ) → drop at s ≡ line ns ++ rest → i < length ns → Shows s (at + 5 * i) (get_or ns i 0)
fields-there [] s rest at i e h = absurd (omega arith)
fields-there (n ∷ ns) s rest at zero e h = let z : at + 5 * zero ≡ at = omega arith in rw z (field-there s (line ns ++ rest) at n (line-next n ns s rest at e).0)
fields-there (n ∷ ns) s rest at (suc i) e h = let z : at + 5 * suc i ≡ at + 5 + 5 * i = omega arith in rw z (fields-there ns s rest (at + 5) i (line-next n ns s rest at e).1 (omega arith))

-- where a line stands, it shows its numbers
pub line-there : (ns s rest : List ℕ) (at : ℕ) → Below ns → drop at s ≡ line ns ++ rest → ShowsLine s at ns
line-there ns s rest at b e =
    record {
      digits = b;
      columns = λ i h. fields-there ns s rest at i e h;
      end = unfold line in rw (← get_or-drop at s (5 * length ns) 0, e, append_assoc, ← fields-length) (get_or-append_seam (fields ns) 10 rest 0);
    }

-- lines of k numbers each, one behind the other, wherever they stand
pub lines-there : {A : Type 0} (k : ℕ) (numbers : A → List ℕ) → ((a : A) → length (numbers a) ≡ k) → (xs : List A) (s rest : List ℕ) (at : ℕ)
    → drop at s ≡ flat (λ a. line (numbers a)) xs ++ rest → (i : ℕ) (z : A) → i < length xs → Below (numbers (get_or xs i z)) → ShowsLine s (at + width k * i) (numbers (get_or xs i z))
lines-there {A} k numbers long xs s rest at e i z h b =
    let g : A → List ℕ = λ a. line (numbers a) in
    let wide : (a : A) → length (g a) ≡ width k = λ a. line-length (numbers a) ∙ rw (long a) in
    let room : width k * i ≤ length (flat g xs) = rw (flat-length g (width k) wide xs) (mul-le-mul_left (width k) (omega arith)) in
    let there : drop (at + width k * i) s ≡ line (numbers (get_or xs i z)) ++ (flat g (drop (suc i) xs) ++ rest)
    = rw (← drop-drop (width k * i) at s, e, drop-append-le (width k * i) (flat g xs) rest room, flat-at g (width k) wide xs i z h, append_assoc) in
    line-there (numbers (get_or xs i z)) s (flat g (drop (suc i) xs) ++ rest) (at + width k * i) b there

-- and over the front of what was there
pub lines-shown : {A : Type 0} (k : ℕ) (numbers : A → List ℕ) → ((a : A) → length (numbers a) ≡ k) → (xs : List A) (old : List ℕ) (i : ℕ) (z : A) → i < length xs
    → Below (numbers (get_or xs i z)) → ShowsLine (over (flat (λ a. line (numbers a)) xs) old) (width k * i) (numbers (get_or xs i z))
lines-shown {A} k numbers long xs old i z h b =
    let g : A → List ℕ = λ a. line (numbers a) in
    rw zero-add at (lines-there k numbers long xs (over (flat g xs) old) (drop (length (flat g xs)) old) 0 refl i z h b)
