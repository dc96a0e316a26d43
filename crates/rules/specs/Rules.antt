-- The six rules (document 01, "Rules").
-- Assumes nothing.
use Rattle.std.specs.Prelude.{ℕ, T}
use Rattle.facts.specs.declared.Fact.{Fact}
use Rattle.facts.specs.Terms.{sc, sp, dom, range, type}
use Rattle.facts.specs.Facts.{fact, well_formed}

-- the rules as they are written: number, first premise, second premise, what they give
pub data Gives : ℕ → Fact → Fact → Fact → Type 0 where
  sp-sp : {A B C : ℕ} → Gives 1 (fact A sp B) (fact B sp C) (fact A sp C)
  sp-data : {A B X Y : ℕ} → Gives 2 (fact A sp B) (fact X A Y) (fact X B Y)
  sc-sc : {A B C : ℕ} → Gives 3 (fact A sc B) (fact B sc C) (fact A sc C)
  sc-type : {A B X : ℕ} → Gives 4 (fact A sc B) (fact X type A) (fact X type B)
  dom-data : {A B X Y : ℕ} → Gives 5 (fact A dom B) (fact X A Y) (fact X type B)
  range-data : {A B X Y : ℕ} → Gives 6 (fact A range B) (fact X A Y) (fact Y type B)

-- rule n gives r from p and q, and all three are well-formed
pub record Rule (n : ℕ) (p q r : Fact) : Type 0 where
  pub gives : Gives n p q r
  pub first : T (well_formed p)
  pub second : T (well_formed q)
  pub result : T (well_formed r)
