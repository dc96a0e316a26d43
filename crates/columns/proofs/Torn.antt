-- A line read field by field: it is laid out exactly where each field is one and byte 10 ends it, and says then what was read.
-- Assumes nothing.
use mathlib.Core.Path.{◌≡◌, refl, sym, ◌∙◌}
use mathlib.Core.Bool.{Bool, true, false, cond, not, ◌||◌}
use mathlib.Core.List.{List, [], ◌∷◌}
use Prim.Native.Nat.{ℕ, zero, suc, ◌+◌, ◌-◌, ◌*◌, ◌<◌}
use native.Mathlib.Omega.{arith}
use lib.ListN.{get_or}
use lib.Dec.{eqb}
use borrow.Author.Tests.{eqb-true, eqb-false}
use Rattle.columns.specs.Fields.{is_field, field_at, field_read}
use Rattle.std.specs.Prelude.{Some, None}
use Rattle.columns.specs.Lines.{numbers_at, laid_out, numbers_read}
use Rattle.columns.proofs.Fields.{both}
use Rattle.std.proofs.lemmas.Option.{cond_some}
use Rattle.columns.proofs.Columns.{by_cases, cond_none, field-number, field-none, field-some, some-field, none-field}

-- the k fields from a place on as they are read: 100,000 where none stands
unfoldable pub fields_at : ℕ → List ℕ → ℕ → List ℕ
fields_at zero s at = []
fields_at (suc k) s at = field_at s at ∷ fields_at k s (at + 5)

-- the test of a line that was read: one of its k fields is none, or the byte behind them is not 10
unfoldable pub lacking : ℕ → List ℕ → ℕ → Bool
lacking zero s at = not (eqb (get_or s at 0) 10)
lacking (suc k) s at = eqb (field_at s at) 100000 || lacking k s (at + 5)

pub torn-line : (k : ℕ) (s : List ℕ) (at : ℕ) → lacking k s at ≡ not (laid_out k s at)
unfolding lacking laid_out
torn-line zero s at = refl
torn-line (suc k) s at =
    by_cases (eqb (field_at s at) 100000)
    (λ e. rw (e, field-none s at (eqb-true _ _ e)))
    (λ e. rw (e, field-some s at (eqb-false _ _ e)) (torn-line k s (at + 5)))

pub read-line : (k : ℕ) (s : List ℕ) (at : ℕ) → laid_out k s at ≡ true → fields_at k s at ≡ numbers_at k s at
unfolding fields_at numbers_at laid_out
read-line zero s at e = refl
read-line (suc k) s at e = let b = both (is_field s at) (laid_out k s (at + 5)) e in rw (field-number s at b.0, read-line k s (at + 5) b.1)

-- ---- field by field, up to the first that is none

-- behind a field the rest of the line decides
pub laid-on : (k : ℕ) (s : List ℕ) (at j : ℕ) {n : ℕ} → Some n ≡ field_read s at → j ≡ at + 5 → laid_out (suc k) s at ≡ laid_out k s j
unfolding laid_out
laid-on k s at j {n} e f = rw ((some-field s at n (sym e)).0, f)

pub laid-torn : (k : ℕ) (s : List ℕ) (at : ℕ) → None ≡ field_read s at → laid_out (suc k) s at ≡ false
unfolding laid_out
laid-torn k s at e = rw (none-field s at (sym e))

-- what is left to be laid out behind i of k fields
abbrev pub Left : ℕ → List ℕ → ℕ → ℕ → Type 0
Left k s at i = laid_out k s at ≡ laid_out (k - i) s (at + 5 * i)

pub left-on : (k : ℕ) (s : List ℕ) (at i : ℕ) {n : ℕ} → i < k → Some n ≡ field_read s (at + 5 * i) → Left k s at i → Left k s at (i + 1)
left-on k s at i {n} h e l =
    let m : k - i ≡ suc (k - (i + 1)) = omega arith in
    l ∙ rw m (laid-on (k - (i + 1)) s (at + 5 * i) (at + 5 * (i + 1)) e (omega arith))

-- a line of which a field is none is not read
pub numbers-torn : (k : ℕ) (s : List ℕ) (at i : ℕ) → i < k → None ≡ field_read s (at + 5 * i) → Left k s at i → numbers_read k s at ≡ None
unfolding numbers_read
numbers-torn k s at i h e l =
    let m : k - i ≡ suc (k - (i + 1)) = omega arith in
    rw (l, m, laid-torn (k - (i + 1)) s (at + 5 * i) e)

-- behind all fields the end decides
pub numbers-end : (k : ℕ) (s : List ℕ) (at : ℕ) → Left k s at k → numbers_read k s at ≡ cond (eqb (get_or s (at + 5 * k) 0) 10) (Some (numbers_at k s at)) None
unfolding numbers_read laid_out
numbers-end k s at l = let m : k - k ≡ zero = omega arith in rw (l, m)

-- what is read tells whether the line is laid out
pub unread-torn : (k : ℕ) (s : List ℕ) (at : ℕ) → None ≡ numbers_read k s at → laid_out k s at ≡ false
unfolding numbers_read
unread-torn k s at e = cond_none _ _ (sym e)

pub read-laid : (k : ℕ) (s : List ℕ) (at : ℕ) (ns : List ℕ) → Some ns ≡ numbers_read k s at → (laid_out k s at ≡ true) × (numbers_at k s at ≡ ns)
unfolding numbers_read
read-laid k s at ns e = cond_some _ _ _ (sym e)
