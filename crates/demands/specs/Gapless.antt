-- Questions without a gap: demands 2 and 3 as they stood before questions could have one. Each follows from the demand over all fillings,
-- since a well-formed fact is filled by itself alone.
-- Assumes nothing.
use Rattle.std.specs.Prelude.{◌≡◌, ◌↔◌, ◌⊎◌, false, List, ℕ, ◌≤◌, ◌<◌, length, T}
use Rattle.columns.specs.Lines.{over}
use Rattle.facts.specs.declared.Fact.{Fact}
use Rattle.facts.specs.declared.Refusal.{Refusal}
use Rattle.facts.specs.Facts.{well_formed, has_blank}
use Rattle.facts.specs.Gaps.{Askable}
use Rattle.facts.specs.Answers.{YesWith, LongWith, SaysFollows, SaysNo, AcceptedWith}
use Rattle.rules.specs.declared.Line.{Line}
use Rattle.rules.specs.Rules.{Rule}
use Rattle.rules.specs.Derivations.{Derives, Derivable, table_lines, Least, Refuted}
use Rattle.question.specs.Question.{needed, question, Prints}
use Rattle.packing.specs.Packed.{unpacked}
use Rattle.entail.specs.Calls.{CheckCall}
use Rattle.demands.specs.Refusals.{SoundTable, FactRefused, AskedRefused, QuestionRefused}
use Rattle.demands.specs.Demands.{Put, said, Accepts, Within, Shown}

-- a question that was put, without a gap and sound, over a table with these facts
pub record GaplessPut (p : Put) (facts : List Fact) : Type 0 where
  pub table : SoundTable p.question.table facts
  pub fact : T (well_formed p.question.fact)
  pub limited : p.question.limit ≤ 1024
  pub room : needed p.question.limit ≤ length p.entry

pub record Gapless : Type 1 where
  -- a triple without a blank may be asked exactly where it is well-formed, and earns in a question what it earns in the check
  pub asked : (t : Fact) → has_blank t ≡ false → Askable t ↔ T (well_formed t)
  pub refused : (t : Fact) → has_blank t ≡ false → (r : Refusal) → AskedRefused t r ↔ FactRefused t r
  pub question-sound : (p : Put) → has_blank p.question.fact ≡ false
      → ((facts : List Fact) × GaplessPut p facts) ↔ ((r : Refusal) (place : ℕ) → QuestionRefused p.question (length p.entry) r place → ⊥)
  pub answered : (p : Put) (facts : List Fact) → GaplessPut p facts → ((f : ℕ) × SaysFollows (said p) f) ⊎ SaysNo (said p)
  pub follows : (p : Put) (facts : List Fact) → GaplessPut p facts → ((f : ℕ) × SaysFollows (said p) f) ↔ Derivable Rule facts p.question.fact
  pub refuted : (p : Put) (facts : List Fact) → GaplessPut p facts → SaysNo (said p) ↔ Refuted Rule facts p.question.fact
  pub least : (p : Put) (facts : List Fact) → GaplessPut p facts → (f : ℕ) → SaysFollows (said p) f → Least Rule facts p.question.fact f × (f ≤ length facts)
  pub no-fewer : (p : Put) (facts : List Fact) → GaplessPut p facts → (f : ℕ) → SaysFollows (said p) f
      → (part : List Fact) → Within part facts → (d : List Line) → Derives Rule part d p.question.fact → f ≤ table_lines d
  pub no-fewer-checked : (p : Put) (facts : List Fact) → GaplessPut p facts → (f : ℕ) → SaysFollows (said p) f
      → (b : List ℕ) (part : List Fact) → SoundTable b part → Within part facts → (x : List ℕ) (n : ℕ) → CheckCall b p.question.fact x n
      → (c : ℕ) → AcceptedWith (unpacked n) c → f ≤ c
  pub same_count : (p : Put) (facts : List Fact) → GaplessPut p facts → (f : ℕ) → SaysFollows (said p) f
      → (p' : Put) (limit : ℕ) → p'.question ≡ question p.question.table p.question.fact limit → GaplessPut p' facts
      → (f ≤ limit ↔ YesWith (said p') f 0) × (limit < f ↔ LongWith (said p') f)
  -- a yes names no term
  pub unnamed : (p : Put) (facts : List Fact) → GaplessPut p facts → (f x : ℕ) → YesWith (said p) f x → x ≡ 0
  pub printed : (p : Put) (facts : List Fact) → GaplessPut p facts → (f : ℕ) → YesWith (said p) f 0
      → (d : List ℕ) × (p.exit ≡ over d p.entry) × Prints facts p.question.fact f d × Accepts p.question.table p.question.fact d f
  pub none : (p : Put) (facts : List Fact) → GaplessPut p facts → SaysNo (said p) → (part : List Fact) → Within part facts
      → ((d : List Line) → Derives Rule part d p.question.fact → ⊥)
      × ((b : List ℕ) → SoundTable b part → (x : List ℕ) (n : ℕ) → CheckCall b p.question.fact x n → (c : ℕ) → AcceptedWith (unpacked n) c → ⊥)
  -- what the program shows behind a yes is a derivation of the fact put
  pub shown : (p : Put) (f x : ℕ) (d : List ℕ) → T (well_formed p.question.fact) → Shown p f x d
      → (x ≡ 0) × ((facts : List Fact) × SoundTable p.question.table facts × Prints facts p.question.fact f d) × Accepts p.question.table p.question.fact d f
