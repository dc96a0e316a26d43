-- Laws of the input's layout: its questions one by one, and where no zero line stands.
-- Assumes nothing.
use mathlib.Core.Path.{◌≡◌, refl, ◌∙◌}
use mathlib.Core.Bool.{true, false}
use mathlib.Core.List.{List}
use Rattle.std.specs.Prelude.{Option, None, Some, MatchOption}
use Rattle.std.specs.List.{list_all, range_with_len}
use Prim.Native.Nat.{ℕ, zero, suc, ◌+◌, ◌*◌, ◌<◌, ◌≤◌}
use native.Mathlib.Omega.{arith}
use native.Mathlib.Nat.{add-zero, zero-add}
use Rattle.columns.specs.Lines.{laid_out}
use Rattle.batch.specs.Input.{is_zero_line, all_laid, parts_behind, divided_from}

-- n questions are laid out where each of them is
laid-from : (b : List ℕ) (at n i : ℕ) → list_all (λ k. laid_out 4 b (at + 21 * k)) (range_with_len i n) ≡ all_laid b (at + 21 * i) n
unfolding all_laid
laid-from b at zero i = refl
laid-from b at (suc n) i =
    let e : at + 21 * (i + 1) ≡ at + 21 * i + 21 = omega arith in
    rw (laid-from b at n (i + 1), e)

pub laid-each : (b : List ℕ) (at n : ℕ) → list_all (λ k. laid_out 4 b (at + 21 * k)) (range_with_len 0 n) ≡ all_laid b at n
laid-each b at n = laid-from b at n 0 ∙ rw add-zero

-- where no zero line stands there are no parts
undivided : (b : List ℕ) (m i : ℕ) → ((k : ℕ) → k < m → is_zero_line b (16 * (i + k)) ≡ false) → divided_from b i m ≡ None
unfolding divided_from
undivided b zero i n = refl
undivided b (suc m) i n =
    rw (rw add-zero at (n 0 (omega arith)))
    (undivided b m (suc i) (λ k h. let e : suc i + k ≡ i + suc k = omega arith in rw e (n (suc k) (omega arith))))

-- the divider is the first zero line
pub divided-at : (b : List ℕ) (m k i : ℕ) → k < m → ((j : ℕ) → j < k → is_zero_line b (16 * (i + j)) ≡ false) → is_zero_line b (16 * (i + k)) ≡ true
    → divided_from b i m ≡ parts_behind b (16 * (i + k))
unfolding divided_from
divided-at b zero k i h n z = absurd (omega arith)
divided-at b (suc m) zero i h n z = rw (rw add-zero at z, add-zero)
divided-at b (suc m) (suc k) i h n z =
    let e : i + suc k ≡ suc i + k = omega arith in
    rw (rw add-zero at (n 0 (omega arith)), e)
    (divided-at b m k (suc i) (omega arith) (λ j l. let f : suc i + j ≡ i + suc j = omega arith in rw f (n (suc j) (omega arith))) (rw e at z))

-- of n lines the first zero line, if there is one, ends the table
pub divided-first : (b : List ℕ) (n : ℕ) (r : Option ℕ)
    → MatchOption r ((k : ℕ) → 0 ≤ k → k < n → is_zero_line b (16 * k) ≡ false)
    (λ i. (0 ≤ i) × (i < n) × (is_zero_line b (16 * i) ≡ true) × ((k : ℕ) → 0 ≤ k → k < i → is_zero_line b (16 * k) ≡ false))
    → MatchOption r (divided_from b 0 n ≡ None) (λ i. (i < n) × (divided_from b 0 n ≡ parts_behind b (16 * i)))
divided-first b n None f = undivided b n 0 (λ k h. rw zero-add (f k (omega arith) h))
divided-first b n (Some i) f =
    (f.1, rw zero-add at (divided-at b n i 0 f.1 (λ k h. rw zero-add (f.3 k (omega arith) h)) (rw zero-add f.2)))
