-- `line_layout::is_laid_out` meets its contract: each of the fields is one, and the last byte is the line's end.
-- Assumes nothing.
use Rattle.std.proofs.Common.{◌≡◌, ℕ, zero, suc, ◌+◌, ◌*◌, ◌&&◌, Bool, List, eqb, get_or, refl, sym, ◌∙◌, add-zero, arith, rules, tests, is_some}
use native.Mathlib.Nat.{sub-zero, zero-add}
use Rattle.std.specs.List.{list_all, range_with_len}
use Rattle.std.proofs.lemmas.Iterator.{YieldsList-from_range}
use Rattle.std.proofs.lemmas.Iterator.Search.{all_from_yields_List}
use Rattle.columns.specs.Fields.{is_field, field_read}
use Rattle.columns.specs.Lines.{laid_out}
use Rattle.columns.proofs.Columns.{by_cases, read-some, read-none}
use Rattle.line_layout.proofs.is_laid_out.Goals as goal
use Rattle.line_layout.proofs.is_laid_out.Goals.{After-all}

-- the code's test of field i
abbrev stands : List ℕ → ℕ → ℕ → Bool
stands s at i = is_some (field_read s (at + 5 * i))

-- k fields from field i on
laid_out-all : (k : ℕ) (s : List ℕ) (at i : ℕ) → laid_out k s (at + 5 * i) ≡ list_all (stands s at) (range_with_len i k) && eqb (get_or s (at + 5 * (i + k)) 0) 10
unfolding laid_out
laid_out-all zero s at i = rw add-zero
laid_out-all (suc k) s at i =
    let e : at + 5 * i + 5 ≡ at + 5 * (i + 1) = omega arith in
    let n : i + suc k ≡ i + 1 + k = omega arith in
    by_cases (is_field s (at + 5 * i))
    (λ t. rw (t, read-some s (at + 5 * i) t, e, n) (laid_out-all k s at (i + 1)))
    (λ t. rw (t, read-none s (at + 5 * i) t))

-- from the first field on
laid_out-from : (k : ℕ) (s : List ℕ) (at : ℕ) → laid_out k s at ≡ list_all (stands s at) (range_with_len 0 k) && eqb (get_or s (at + 5 * k) 0) 10
laid_out-from k s at = let e : at + 5 * 0 ≡ at = omega arith in rw (e, zero-add) at (laid_out-all k s at 0)

-- what the code's pass over the fields tells
all-told : (c : After-all) → c.all.result ≡ list_all (stands c.args.s.now c.args.at) (range_with_len 0 c.args.k)
all-told c =
    all_from_yields_List (stands c.args.s.now c.args.at) _ _ c.all.result c.all.ensures.ran (YieldsList-from_range 0 c.args.k c.args.k refl (sub-zero c.args.k))
    (λ x b q k. search (rules, tests))

pub returns-then-all : goal.returns-then-all
returns-then-all c = sym (laid_out-from c.args.k c.args.s.now c.args.at ∙ rw (← all-told (goal.at-returns-then-all c).After-all, c.if-all.true))

pub returns-else-all : goal.returns-else-all
returns-else-all c = c.if-all.false ∙ sym (laid_out-from c.args.k c.args.s.now c.args.at ∙ rw (← all-told (goal.at-returns-else-all c).After-all, c.if-all.false))
