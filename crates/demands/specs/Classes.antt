-- Text as a class (document 02, Point 2), a field for each sentence: which triples are left, and that tables, questions and derivations
-- keep to them.
-- Assumes nothing.
use Rattle.std.specs.Prelude.{◌≡◌, ◌↔◌, ◌⊎◌, false, true, List, ℕ, suc, ◌*◌, ◌<◌, T}
use Rattle.columns.specs.Lines.{laid_out}
use Rattle.facts.specs.declared.Fact.{Fact}
use Rattle.facts.specs.declared.Refusal.TheVariants.{Step}
use Rattle.facts.specs.Terms.{kind_of, is_name, is_literal, is_vocabulary}
use Rattle.facts.specs.Facts.{well_formed, text_as_class}
use Rattle.facts.specs.Gaps.{Fills, Askable}
use Rattle.facts.specs.Answers.{RefusedWith}
use Rattle.rules.specs.declared.Line.{Line}
use Rattle.rules.specs.Graph.{◌∈◌}
use Rattle.rules.specs.Rules.{Gives, Rule}
use Rattle.rules.specs.Derivations.{Justified, Derives}
use Rattle.derivation.specs.Bytes.{line_at}
use Rattle.acceptance.specs.Check.{lines_of}
use Rattle.packing.specs.Packed.{unpacked}
use Rattle.entail.specs.Calls.{CheckCall}
use Rattle.demands.specs.Refusals.{SoundTable, TextAsClass, Lines}

-- a name or a literal
abbrev pub NameOrLiteral : ℕ → Type 0
NameOrLiteral n = (is_name (kind_of n) ≡ true) ⊎ (is_literal (kind_of n) ≡ true)

-- document 01's own triples: "subject and object are each a name or a literal and the predicate is a name or one of 1 to 5"
pub record Triple (f : Fact) : Type 0 where
  pub subject : NameOrLiteral f.subject
  pub predicate : (is_name (kind_of f.predicate) ≡ true) ⊎ (is_vocabulary (kind_of f.predicate) ≡ true)
  pub object : NameOrLiteral f.object

pub record Classes : Type 1 where
  -- "A literal may no longer stand as subject or object of sc, sp, dom or range, nor as object of type": that earns 12, and the triples that
  -- are left are all others of document 01
  pub class : (f : Fact) → text_as_class f ≡ true ↔ TextAsClass f
  pub formed : (f : Fact) → T (well_formed f) ↔ (Triple f × (TextAsClass f → ⊥))
  -- "in tables, questions": none stands in a table that is accepted, in a triple that may be asked, or in what fills its gap
  pub in_tables : {b : List ℕ} {facts : List Fact} → SoundTable b facts → (f : Fact) → f ∈ facts → TextAsClass f → ⊥
  pub in-questions : {t : Fact} → Askable t → TextAsClass t → ⊥
  pub in-fillings : {t u : Fact} → Fills t u → TextAsClass u → ⊥
  -- "and derived lines", "derivations range over these narrower triples": each line of a derivation over an accepted table is one
  pub in-derivations : {b : List ℕ} {facts : List Fact} → SoundTable b facts → {d : List Line} {t : Fact} → Derives Rule facts d t → (l : Line) → l ∈ d
      → T (well_formed l.fact)
  -- from such triples each rule gives one; so no step is barred by what it gives, and the rules as they are written derive the same
  pub given : {n : ℕ} {p q r : Fact} → Gives n p q r → T (well_formed p) → T (well_formed q) → T (well_formed r)
  pub unbarred : {b : List ℕ} {facts : List Fact} → SoundTable b facts → {d : List Line} {t : Fact} → Derives Gives facts d t ↔ Derives Rule facts d t
  -- "a derivation line outside them gets 10", whatever it is marked as: the first line that is not justified gets 10, and such a line is not
  pub line_refused : {b : List ℕ} {t : Fact} {x : List ℕ} {r : ℕ} → CheckCall b t x r → {facts : List Fact} → SoundTable b facts → T (well_formed t)
      → {n i : ℕ} → Lines x n → ((j : ℕ) → j < n → laid_out 6 x (31 * j) ≡ true) → i < n
      → ((j : ℕ) → j < i → Justified Rule facts (lines_of x j) (line_at x j)) → well_formed (line_at x i).fact ≡ false → RefusedWith (unpacked r) Step (suc i)
