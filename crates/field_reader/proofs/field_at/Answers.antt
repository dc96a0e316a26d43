-- `field_reader::field_at` meets its contract: it passes over spaces, and then reads digits from the first on.
-- Assumes nothing.
use Rattle.std.proofs.Common.{◌≡◌, ℕ, ◌+◌, ◌-◌, ◌≤◌, ◌<◌, List, length, get_or, drop, take, sym, ◌∙◌, add-zero, arith}
use Rattle.columns.specs.Fields.{field_read}
use Rattle.columns.specs.Columns.{digits}
use Rattle.columns.proofs.Columns.{scanned, field_start, field-passed, field-digits, field-last}
use Rattle.field_reader.proofs.field_at.Goals as goal
use Rattle.field_reader.proofs.field_at.Goals.{Else-s-at-ne-SPACE, Else-s-at-ne-SPACE-2, Else-s-at-ne-SPACE-3, Else-s-at-ne-SPACE-4, Start}

module _ (s : List ℕ) (at : ℕ) where
  -- past k spaces: the field is what the other bytes are read as
  abbrev Behind : ℕ → Type 0
  Behind k = scanned (take (5 - k) (drop (at + k) s)) ≡ field_read s at

  -- i is the place of column k
  pass : (k i : ℕ) → at + 5 ≤ length s → i ≡ at + k → k < 4 → Behind k → get_or s i 0 ≡ 32 → Behind (k + 1)
  pass k i h e l p z =
      let j : at + (k + 1) ≡ at + k + 1 = omega arith in
      let m : 5 - (k + 1) ≡ 5 - k - 1 = omega arith in
      rw (j, m) (sym (field-passed s (at + k) (5 - k) (omega arith) (omega arith) (rw e at z)) ∙ p)

  told : (k i j n : ℕ) → at + 5 ≤ length s → i ≡ at + k → j ≡ i + 1 → n ≡ 4 - k → k < 4 → Behind k → (get_or s i 0 ≡ 32 → ⊥) → digits (get_or s i 0) (take n (drop j s)) ≡ field_read s at
  told k i j n h e f m l p z =
      let q : 4 - k ≡ 5 - k - 1 = omega arith in
      rw (f, m, e, q) (sym (field-digits s (at + k) (5 - k) (omega arith) (omega arith) (rw e at z)) ∙ p)

abbrev Passed : ℕ → Start → Type 0
Passed k c = Behind c.args.s.now c.args.at k

passed₀ : (c : Start) → Passed 0 c
passed₀ c = rw add-zero (field_start c.args.s.now c.args.at c.requires)

passed₁ : (c : Else-s-at-ne-SPACE) → Passed 1 (goal.at-Else-s-at-ne-SPACE c).Start
passed₁ c = let g = goal.at-Else-s-at-ne-SPACE c in pass c.args.s.now c.args.at 0 _ c.requires (omega arith) (omega arith) (passed₀ g.Start) c.if-s-at-ne-SPACE.false

passed₂ : (c : Else-s-at-ne-SPACE-2) → Passed 2 (goal.at-Else-s-at-ne-SPACE-2 c).Start
passed₂ c = let g = goal.at-Else-s-at-ne-SPACE-2 c in pass c.args.s.now c.args.at 1 _ c.requires (omega arith) (omega arith) (passed₁ g.Else-s-at-ne-SPACE) c.if-s-at-ne-SPACE-2.false

passed₃ : (c : Else-s-at-ne-SPACE-3) → Passed 3 (goal.at-Else-s-at-ne-SPACE-3 c).Start
passed₃ c = let g = goal.at-Else-s-at-ne-SPACE-3 c in pass c.args.s.now c.args.at 2 _ c.requires (omega arith) (omega arith) (passed₂ g.Else-s-at-ne-SPACE-2) c.if-s-at-ne-SPACE-3.false

passed₄ : (c : Else-s-at-ne-SPACE-4) → Passed 4 (goal.at-Else-s-at-ne-SPACE-4 c).Start
passed₄ c = let g = goal.at-Else-s-at-ne-SPACE-4 c in pass c.args.s.now c.args.at 3 _ c.requires (omega arith) (omega arith) (passed₃ g.Else-s-at-ne-SPACE-3) c.if-s-at-ne-SPACE-4.false

pub returns-then-s-at-ne-SPACE : goal.returns-then-s-at-ne-SPACE
returns-then-s-at-ne-SPACE c =
    let g = goal.at-returns-then-s-at-ne-SPACE c in
    c.digits.ensures ∙ told c.args.s.now c.args.at 0 _ _ _ c.requires (omega arith) (omega arith) (omega arith) (omega arith) (passed₀ g.Start) c.if-s-at-ne-SPACE.true

pub returns-then-s-at-ne-SPACE-2 : goal.returns-then-s-at-ne-SPACE-2
returns-then-s-at-ne-SPACE-2 c =
    let g = goal.at-returns-then-s-at-ne-SPACE-2 c in
    c.digits-then-s-at-ne-SPACE-2.ensures ∙ told c.args.s.now c.args.at 1 _ _ _ c.requires (omega arith) (omega arith) (omega arith) (omega arith) (passed₁ g.Else-s-at-ne-SPACE) c.if-s-at-ne-SPACE-2.true

pub returns-then-s-at-ne-SPACE-3 : goal.returns-then-s-at-ne-SPACE-3
returns-then-s-at-ne-SPACE-3 c =
    let g = goal.at-returns-then-s-at-ne-SPACE-3 c in
    c.digits-then-s-at-ne-SPACE-3.ensures ∙ told c.args.s.now c.args.at 2 _ _ _ c.requires (omega arith) (omega arith) (omega arith) (omega arith) (passed₂ g.Else-s-at-ne-SPACE-2) c.if-s-at-ne-SPACE-3.true

pub returns-then-s-at-ne-SPACE-4 : goal.returns-then-s-at-ne-SPACE-4
returns-then-s-at-ne-SPACE-4 c =
    let g = goal.at-returns-then-s-at-ne-SPACE-4 c in
    c.digits-then-s-at-ne-SPACE-4.ensures ∙ told c.args.s.now c.args.at 3 _ _ _ c.requires (omega arith) (omega arith) (omega arith) (omega arith) (passed₃ g.Else-s-at-ne-SPACE-3) c.if-s-at-ne-SPACE-4.true

pub returns : goal.returns
returns c = c.with_digit.ensures.value ∙ sym (field-last c.args.s.now (c.args.at + 4) (omega arith)) ∙ passed₄ (goal.at-returns c).Else-s-at-ne-SPACE-4
