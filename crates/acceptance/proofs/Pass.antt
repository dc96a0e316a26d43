-- One pass over the lines: what holds where the first i are laid out and justified, what the next line makes of it, and the answers.
-- Assumes nothing.
use mathlib.Core.Path.{◌≡◌, refl, sym, ◌∙◌}
use mathlib.Core.Bool.{true, false, cond}
use mathlib.Core.List.{List}
use Prim.Native.Nat.{ℕ, ◌+◌, ◌-◌, ◌*◌, ◌≤◌, ◌<◌}
use native.Mathlib.Omega.{arith}
use native.Mathlib.Nat.{sub-zero}
use lib.ListN.{length}
use lib.Dec.{eqb}
use Rattle.std.specs.Prelude.{Option, Some}
use Rattle.std.specs.Option.{option_eq}
use Rattle.std.proofs.lemmas.Bool.Decides.{nat_tests}
use Rattle.columns.specs.Lines.{laid_out, items_from}
use Rattle.facts.specs.declared.Fact.{Fact}
use Rattle.facts.specs.declared.Refusal.TheVariants.{Form, Step, End}
use Rattle.facts.specs.Results.{Accepted, Refused}
use Rattle.table.specs.Results.{Passes, Stops}
use Rattle.table.specs.Scans.{scan}
use Rattle.table.proofs.Scans.{scan-on, scan-stop, scan-end}
use Rattle.rules.specs.declared.Line.{Line}
use Rattle.rules.specs.Derivations.{table_lines}
use Rattle.rules.specs.Steps.{same, justified}
use Rattle.derivation.specs.Bytes.{line_at}
use Rattle.acceptance.specs.Check.{lines_of, form_verdict, step_verdict, after, end_answer, lines_answer}
use Rattle.acceptance.specs.Near.{Behind}
use Rattle.acceptance.proofs.Lines.{count-more}

-- ---- the facts at hand

pub behind-none : (x : List ℕ) (p q : Option Fact) → Behind x 0 p q
behind-none x p q = record { there = omega arith; last = λ h. absurd (omega arith); before = λ h. absurd (omega arith) }

pub behind-more : {x : List ℕ} {i : ℕ} {p q : Option Fact} → Behind x i p q → 31 * (i + 1) ≤ length x → (l : Line) → line_at x i ≡ l → Behind x (i + 1) (Some l.fact) p
behind-more {i = i} b size l e =
    let k : i + 1 - 1 ≡ i = omega arith in
    let j : i + 1 - 2 ≡ i - 1 = omega arith in
    record { there = size; last = λ z. rw (k, e); before = λ z. rw j (b.last (omega arith)) }

-- ---- the layout of the lines from one on

module _ (x : List ℕ) (n i : ℕ) where
  pub forms_on : i < n → laid_out 6 x (31 * i) ≡ true → scan (form_verdict x) i (n - i) ≡ scan (form_verdict x) (i + 1) (n - (i + 1))
  unfolding form_verdict
  forms_on h e = scan-on (form_verdict x) n i h (rw e)

  pub forms_stop : i < n → laid_out 6 x (31 * i) ≡ false → scan (form_verdict x) i (n - i) ≡ Stops Form (i + 1)
  unfolding form_verdict
  forms_stop h e = scan-stop (form_verdict x) n i {r = Form} h (rw e)

  pub forms_end : i ≡ n → scan (form_verdict x) i (n - i) ≡ Passes n
  forms_end h = scan-end (form_verdict x) n i h

-- ---- the lines passed

module _ (facts : List Fact) (t : Fact) (x : List ℕ) (n : ℕ) where
  -- neither scan has stopped at the first i of the n lines; count of these are table lines
  pub record Passed (i count : ℕ) : Type 0 where
    pub within : i ≤ n
    pub answer : lines_answer facts t x n ≡ after (scan (form_verdict x) i (n - i)) (after (scan (step_verdict facts x) i (n - i)) (end_answer t x n))
    pub few : count ≤ i
    pub counted : count ≡ table_lines (lines_of x i)

  pub pass-none : Passed 0 0
  unfolding lines_answer table_lines items_from
  pass-none = record { within = omega arith; answer = rw sub-zero; few = omega arith; counted = refl }

  pub pass-end : {p q : Option Fact} {count i : ℕ} → Passed i count → Behind x i p q → i ≡ n → 0 < n → cond (option_eq same p (Some t)) (Accepted count) (Refused End n) ≡ lines_answer facts t x n
  unfolding after end_answer
  pass-end {count = count} {i = i} s b e h =
      let c : count ≡ table_lines (lines_of x n) = s.counted ∙ rw e in
      let k : i - 1 ≡ n - 1 = omega arith in
      sym (s.answer ∙ rw (forms_end x n i e, scan-end (step_verdict facts x) n i e, b.last (omega arith), k, c))

  -- the next line
  module _ {i count : ℕ} (s : Passed i count) (h : i < n) where
    pub form-refused : laid_out 6 x (31 * i) ≡ false → Refused Form (i + 1) ≡ lines_answer facts t x n
    unfolding after
    form-refused e = sym (s.answer ∙ rw (forms_stop x n i h e))

    -- where it is laid out
    module _ (laid : laid_out 6 x (31 * i) ≡ true) where
      pub step-refused : justified facts (lines_of x i) (line_at x i) ≡ false → after (scan (form_verdict x) (i + 1) (n - (i + 1))) (Refused Step (i + 1)) ≡ lines_answer facts t x n
      unfolding step_verdict after
      step-refused e = sym (s.answer ∙ rw (forms_on x n i h laid, scan-stop (step_verdict facts x) n i {r = Step} h (rw e)))

      pub pass-more : justified facts (lines_of x i) (line_at x i) ≡ true → (more : ℕ) → more ≡ count + cond (eqb (line_at x i).rule 0) 1 0 → Passed (i + 1) more
      unfolding step_verdict
      pass-more e more m =
          record {
            within = omega arith;
            answer = s.answer ∙ rw (forms_on x n i h laid, scan-on (step_verdict facts x) n i h (rw e));
            few = grind (arith, nat_tests, s.few);
            counted = m ∙ rw (count-more x i, s.counted);
          }
