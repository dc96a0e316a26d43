-- Laws of fields: what is written is read back, only a number's own field reads as it, and what is read is below 100,000.
-- Assumes nothing.
use mathlib.Core.Path.{◌≡◌, refl, sym, ap, ◌∙◌}
use mathlib.Core.Bool.{Bool, true, false, cond, ◌&&◌}
use mathlib.Core.List.{List, [], ◌∷◌, ◌++◌}
use Prim.Native.Nat.{ℕ, suc, ◌+◌, ◌*◌, ◌/◌, ◌%◌, ◌≤◌, ◌<◌}
use native.Mathlib.Omega.{arith}
use native.Mathlib.Nat.{add-zero}
use native.Mathlib.Numerals.{add_five, towards_suc}
use lib.ListN.{length, get_or, drop}
use lib.Seq.{drop-cons, get_or-drop}
use lib.Dec.{eqb}
use borrow.Author.Tests.{eqb-true, eq-eqb}
use Rattle.columns.specs.Fields.{column, field, number_at, has_field, is_field}

-- a test of two parts that holds
pub both : (a b : Bool) → a && b ≡ true → (a ≡ true) × (b ≡ true)
both true b e = (refl, e)
both false b e = let z : ◌≡◌ {A = ℕ} 0 1 = cc in absurd (omega arith)

column-case : (n : ℕ) (t : Bool) → eqb n 0 ≡ t → cond t 32 (48 + n % 10) % 16 ≡ n % 10
column-case n true e = rw (eqb-true n 0 e)
column-case n false e = omega arith

-- a column says its digit
pub column-digit : (n : ℕ) → column n % 16 ≡ n % 10
unfolding column
column-digit n = column-case n (eqb n 0) refl

-- the field of one digit
pub field-digit : (n : ℕ) → n < 10 → field n ≡ 32 ∷ 32 ∷ 32 ∷ 32 ∷ (48 + n) ∷ []
unfolding field column
field-digit n h =
    let q : n / 10 ≡ 0 = omega arith in
    let r : n % 10 ≡ n = omega arith in
    rw (q, r)

-- the digits of n, joined
digits : ℕ → ℕ
digits n = ((((n / 10 / 10 / 10 / 10 % 10) * 10 + n / 10 / 10 / 10 % 10) * 10 + n / 10 / 10 % 10) * 10 + n / 10 % 10) * 10 + n % 10

digits_number : (n : ℕ) → n < 100000 → digits n ≡ n
unfolding digits
digits_number n h =
    let a = n / 10 in
    let b = n / 10 / 10 in
    let c = n / 10 / 10 / 10 in
    let d = n / 10 / 10 / 10 / 10 in
    let e₁ : d % 10 ≡ d = omega arith in
    let e₂ : d * 10 + c % 10 ≡ c = omega arith in
    let e₃ : c * 10 + b % 10 ≡ b = omega arith in
    let e₄ : b * 10 + a % 10 ≡ a = omega arith in
    let e₅ : a * 10 + n % 10 ≡ n = omega arith in
    rw (e₁, e₂, e₃, e₄) e₅

digits-below : (n : ℕ) → digits n < 100000
unfolding digits
digits-below n = omega arith

-- the five bytes that make up a field
pub record Bytes (s : List ℕ) (at n : ℕ) : Type 0 where
  pub b₀ : get_or s at 0 ≡ column (n / 10 / 10 / 10 / 10)
  pub b₁ : get_or s (at + 1) 0 ≡ column (n / 10 / 10 / 10)
  pub b₂ : get_or s (at + 2) 0 ≡ column (n / 10 / 10)
  pub b₃ : get_or s (at + 3) 0 ≡ column (n / 10)
  pub b₄ : get_or s (at + 4) 0 ≡ 48 + n % 10

pub bytes_of : (s : List ℕ) (at n : ℕ) → has_field s at n ≡ true → Bytes s at n
unfolding has_field
bytes_of s at n e =
    let x₄ = both _ (eqb (get_or s (at + 4) 0) (48 + n % 10)) e in
    let x₃ = both _ (eqb (get_or s (at + 3) 0) (column (n / 10))) x₄.0 in
    let x₂ = both _ (eqb (get_or s (at + 2) 0) (column (n / 10 / 10))) x₃.0 in
    let x₁ = both (eqb (get_or s at 0) (column (n / 10 / 10 / 10 / 10))) (eqb (get_or s (at + 1) 0) (column (n / 10 / 10 / 10))) x₂.0 in
    record { b₀ = eqb-true _ _ x₁.0; b₁ = eqb-true _ _ x₁.1; b₂ = eqb-true _ _ x₂.1; b₃ = eqb-true _ _ x₃.1; b₄ = eqb-true _ _ x₄.1 }

pub has-field : (s : List ℕ) (at n : ℕ) → Bytes s at n → has_field s at n ≡ true
unfolding has_field
has-field s at n b = rw (eq-eqb _ _ b.b₀, eq-eqb _ _ b.b₁, eq-eqb _ _ b.b₂, eq-eqb _ _ b.b₃, eq-eqb _ _ b.b₄)

-- the number that the bytes of a field say
number_digits : (s : List ℕ) (at n : ℕ) → Bytes s at n → number_at s at ≡ digits n
unfolding number_at digits
number_digits s at n b =
    let e : (48 + n % 10) % 16 ≡ n % 10 = omega arith in
    rw (b.b₀, b.b₁, b.b₂, b.b₃, b.b₄, column-digit (n / 10 / 10 / 10 / 10), column-digit (n / 10 / 10 / 10), column-digit (n / 10 / 10), column-digit (n / 10), e)
    (omega arith)

-- what is read from a field is below 100,000
pub field_below : (s : List ℕ) (at : ℕ) → is_field s at ≡ true → number_at s at < 100000
unfolding is_field
field_below s at e = rw (number_digits s at (number_at s at) (bytes_of s at (number_at s at) e)) (digits-below (number_at s at))

-- where the bytes from a place on begin with the field of n, a field is read there, and its number is n
pub field-read : (s rest : List ℕ) (at n : ℕ) → n < 100000 → drop at s ≡ field n ++ rest → (is_field s at ≡ true) × (number_at s at ≡ n)
unfolding is_field field
field-read s rest at n h e =
    let at_place : (j : ℕ) → get_or s (at + j) 0 ≡ get_or (field n ++ rest) j 0 = λ j. sym (get_or-drop at s j 0) ∙ ap (λ l. get_or l j 0) e in
    let b : Bytes s at n = record { b₀ = rw add-zero at (at_place 0); b₁ = at_place 1; b₂ = at_place 2; b₃ = at_place 3; b₄ = at_place 4 } in
    let m : number_at s at ≡ n = number_digits s at n b ∙ digits_number n h in
    (rw m (has-field s at n b), m)

written : (s : List ℕ) (at n : ℕ) → at + 5 ≤ length s → Bytes s at n → drop at s ≡ field n ++ drop (at + 5) s
unfolding field
written s at n h b =
    rw (drop-cons s at 0 (omega arith), drop-cons s (suc at) 0 (omega arith), drop-cons s (suc (suc at)) 0 (omega arith), drop-cons s (suc (suc (suc at))) 0 (omega arith), drop-cons s (suc (suc (suc (suc at)))) 0 (omega arith), add_five)
    (rw (b.b₀, simp towards_suc at b.b₁, simp towards_suc at b.b₂, simp towards_suc at b.b₃, simp towards_suc at b.b₄))

-- what reads as a field is the field of its number
pub field-written : (s : List ℕ) (at : ℕ) → at + 5 ≤ length s → is_field s at ≡ true → drop at s ≡ field (number_at s at) ++ drop (at + 5) s
unfolding is_field
field-written s at h e = written s at (number_at s at) h (bytes_of s at (number_at s at) e)
