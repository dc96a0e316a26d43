-- Input is sound exactly where the papers lay down no refusal for it; and which answers name no term.
-- Assumes nothing.
use Rattle.std.specs.Prelude.{Err}
use mathlib.Core.Path.{◌≡◌, refl, sym, ap, ◌∙◌}
use mathlib.Core.Logic.{◌↔◌, ◌⊎◌, inl, inr, ⊎_elim}
use mathlib.Core.Bool.{◌&&◌}
use mathlib.Core.List.{List}
use Prim.Native.Nat.{ℕ, ◌-◌, ◌/◌}
use native.Mathlib.Omega.{arith}
use lib.ListN.{length}
use lib.Dec.{T, leb, ltb}
use Rattle.facts.specs.declared.Fact.{Fact}
use Rattle.facts.specs.declared.Refusal.{Refusal}
use Rattle.facts.specs.Results.{Verdict, Sound, Faulty, Answer, Accepted, Refused}
use Rattle.facts.specs.Facts.{well_formed, fault_of}
use Rattle.facts.specs.Answers.{code_of}
use Rattle.facts.proofs.Terms.{by_cases}
use Rattle.facts.specs.Gaps.{Askable, question_fault}
use Rattle.facts.proofs.Facts.{fault-none}
use Rattle.facts.proofs.Gaps.{question-none}
use Rattle.table.specs.Results.{Scan, Passes, Stops}
use Rattle.table.specs.Scans.{scan}
use Rattle.table.specs.Tables.{Table, accepted, refused, sized, table_of, table_of_row, settled}
use Rattle.records.specs.Records.{settled_records}
use Rattle.rules.specs.Paths.{fewest}
use Rattle.rules.specs.Steps.{same}
use Rattle.derivation.specs.Bytes.{line_at}
use Rattle.acceptance.specs.Check.{form_verdict, step_verdict, after, end_answer, lines_answer, derivation_answer, fact_answer, table_answer, check_answer}
use Rattle.acceptance.proofs.Accepts.{check-accepts}
use Rattle.question.specs.Question.{asked, filling_for, answer_of, unless, question_answer, Question}
use Rattle.question.proofs.Answered as answered
use Rattle.question.proofs.Answered.{answer-accepted, answer-sound}
use Rattle.demands.specs.Refusals as refusals
use Rattle.demands.specs.Refusals.{SoundTable, SoundRow, SoundQuestion, SoundCheck, TableRefused, RowRefused, FactRefused, AskedRefused, QuestionRefused, CheckRefused}
use Rattle.demands.proofs.Refusals.{sound-table, sound-row, table-refused, row-refused, fact-refused, triple-refused, no-refusal, question-refused, check-refused}

-- ---- tables and rows

-- what is accepted is sound, and what is refused is refused: one of the two holds of a table
decided : (t : Table) (S : List Fact → Type 0) (R : Refusal → ℕ → Type 0) → ((facts : List Fact) → t ≡ accepted facts ↔ S facts) → ((r : Refusal) (place : ℕ) → t ≡ refused r place ↔ R r place)
    → ((facts : List Fact) × S facts) ↔ ((r : Refusal) (place : ℕ) → R r place → ⊥)
decided t S R sound bad = (never, go t refl)
  where
    never : ((facts : List Fact) × S facts) → (r : Refusal) (place : ℕ) → R r place → ⊥
    never s r place h =
        let e : accepted s.0 ≡ refused r place = sym ((sound s.0).1 s.1) ∙ (bad r place).1 h in
        let z : ◌≡◌ {A = ℕ} 0 1 = cc in omega arith

    go : (u : Table) → t ≡ u → ((r : Refusal) (place : ℕ) → R r place → ⊥) → (facts : List Fact) × S facts
    go (accepted facts) e none = (facts, (sound facts).0 e)
    go (refused r place) e none = absurd (none r place ((bad r place).0 e))

pub table-sound : (b : List ℕ) → ((facts : List Fact) × SoundTable b facts) ↔ ((r : Refusal) (place : ℕ) → TableRefused b r place → ⊥)
table-sound b = decided (table_of b) (SoundTable b) (TableRefused b) (sound-table b) (table-refused b)

pub row-sound : (row : List ℕ) → ((facts : List Fact) × SoundRow row facts) ↔ ((r : Refusal) (place : ℕ) → RowRefused row r place → ⊥)
row-sound row = decided (table_of_row row) (SoundRow row) (RowRefused row) (sound-row row) (row-refused row)

-- ---- the fact put to the check, and the triple asked

pub fact-sound : (t : Fact) → T (well_formed t) ↔ ((r : Refusal) → FactRefused t r → ⊥)
fact-sound t = (never, go (fault_of t) refl)
  where
    never : T (well_formed t) → (r : Refusal) → FactRefused t r → ⊥
    never w r e = let u : Sound ≡ Faulty r = sym ((fault-none t).1 w) ∙ (fact-refused t r).1 e in let z : ◌≡◌ {A = ℕ} 0 1 = cc in omega arith

    go : (v : Verdict) → fault_of t ≡ v → ((r : Refusal) → FactRefused t r → ⊥) → T (well_formed t)
    go Sound e none = (fault-none t).0 e
    go (Faulty r) e none = absurd (none r ((fact-refused t r).0 e))

pub asked-sound : (t : Fact) → Askable t ↔ ((r : Refusal) → AskedRefused t r → ⊥)
asked-sound t = (never, go (question_fault t) refl)
  where
    never : Askable t → (r : Refusal) → AskedRefused t r → ⊥
    never w r e = let u : Sound ≡ Faulty r = sym ((question-none t).1 w) ∙ (triple-refused t r).1 e in let z : ◌≡◌ {A = ℕ} 0 1 = cc in omega arith

    go : (v : Verdict) → question_fault t ≡ v → ((r : Refusal) → AskedRefused t r → ⊥) → Askable t
    go Sound e none = (question-none t).0 e
    go (Faulty r) e none = absurd (none r ((triple-refused t r).0 e))

-- ---- the question

module _ (q : Question) (facts : List Fact) (m : ℕ) (s : SoundQuestion q facts m) where
  pub sound-is : table_of q.table ≡ accepted facts
  sound-is = (sound-table q.table facts).1 s.table

  -- sound input is answered from the facts
  pub sound-answer : question_answer q.table q.fact q.limit m ≡ answer_of facts q.fact q.limit
  sound-answer = answer-sound q.table q.fact facts sound-is q.limit m s.fact s.limited s.room

  sound-unrefused : (r : Refusal) (place : ℕ) → QuestionRefused q m r place → ⊥
  sound-unrefused r place h =
      no-refusal q.limit (fewest facts q.fact) (filling_for facts q.fact) r place (unfold answer_of in (sym sound-answer ∙ (question-refused q m r place).1 h))

unrefused-sound : (q : Question) (m : ℕ) (u : Table) → table_of q.table ≡ u → ((r : Refusal) (place : ℕ) → QuestionRefused q m r place → ⊥) → (facts : List Fact) × SoundQuestion q facts m
unrefused-sound q m (refused r place) e none = absurd (none r place (refusals.by-table ((table-refused q.table r place).0 e)))
unrefused-sound q m (accepted facts) e none = go (asked q.fact q.limit m) refl
  where
    go : (v : Verdict) → asked q.fact q.limit m ≡ v → (facts : List Fact) × SoundQuestion q facts m
    go (Faulty r) z = absurd (none r 0 ((question-refused q m r 0).0 (answer-accepted q.table q.fact facts e q.limit m ∙ unfold unless in (rw z))))
    go Sound z =
        let l = answered.asked-sound q.fact q.limit m z in
        (facts, record { table = (sound-table q.table facts).0 e; fact = l.0; limited = l.1; room = l.2 })

pub question-sound : (q : Question) (m : ℕ) → ((facts : List Fact) × SoundQuestion q facts m) ↔ ((r : Refusal) (place : ℕ) → QuestionRefused q m r place → ⊥)
question-sound q m = (λ s. sound-unrefused q s.0 m s.1, unrefused-sound q m (table_of q.table) refl)

-- ---- the check

-- the check's answer over an accepted table, for a well-formed fact, is an acceptance or a refusal
abbrev Verdicts : Answer → Type 0
Verdicts a = ((n : ℕ) × (a ≡ Accepted n)) ⊎ ((r : Refusal) × (place : ℕ) × (a ≡ Refused r place))

after-verdict : (c : Scan) (a : Answer) → Verdicts a → Verdicts (after c a)
unfolding after
after-verdict (Passes n) a v = v
after-verdict (Err stop) a v = inr (stop.refusal, stop.place, refl)

end-verdict : (t : Fact) (x : List ℕ) (n : ℕ) → Verdicts (end_answer t x n)
unfolding end_answer
end-verdict t x n = by_cases (same (line_at x (n - 1)).fact t) (λ e. rw e (inl (_, refl))) (λ e. rw e (inr (_, _, refl)))

derivation-verdict : (facts : List Fact) (t : Fact) (x : List ℕ) → Verdicts (derivation_answer facts t x)
unfolding derivation_answer lines_answer
derivation-verdict facts t x =
    let n = length x / 31 in
    by_cases (ltb 0 (length x) && sized 31 63457 (length x))
    (λ e. rw e (after-verdict (scan (form_verdict x) 0 n) _ (after-verdict (scan (step_verdict facts x) 0 n) _ (end-verdict t x n))))
    (λ e. rw e (inr (_, _, refl)))

pub check_sound : (b : List ℕ) (t : Fact) (x : List ℕ) → ((facts : List Fact) × (n : ℕ) × SoundCheck b facts t x n) ↔ ((r : Refusal) (place : ℕ) → CheckRefused b t x r place → ⊥)
check_sound b t x = (never, go (table_of b) refl)
  where
    never : ((facts : List Fact) × (n : ℕ) × SoundCheck b facts t x n) → (r : Refusal) (place : ℕ) → CheckRefused b t x r place → ⊥
    never h r place c =
        let s = h.2 in
        let a = (check-accepts b h.0 t x h.1 ((sound-table b h.0).1 s.table) ((fault-none t).1 s.fact)).1 s.derivation in
        let e : Accepted h.1 ≡ Refused r place = sym a ∙ (check-refused b t x r place).1 c in
        let z : ◌≡◌ {A = ℕ} 0 1 = cc in omega arith

    judged : (facts : List Fact) → table_of b ≡ accepted facts → (v : Verdict) → fault_of t ≡ v → ((r : Refusal) (place : ℕ) → CheckRefused b t x r place → ⊥)
        → (facts : List Fact) × (n : ℕ) × SoundCheck b facts t x n
    judged facts e (Faulty r) z none = absurd (none r 0 (refusals.by-fact ((sound-table b facts).0 e) ((fact-refused t r).0 z)))
    judged facts e Sound z none =
        let is : check_answer b t x ≡ derivation_answer facts t x = unfold check_answer table_answer fact_answer in (rw (e, z)) in
        ⊎_elim
        (λ (h : (n : ℕ) × (derivation_answer facts t x ≡ Accepted n)).
        (facts, h.0, record { table = (sound-table b facts).0 e; fact = (fault-none t).0 z; derivation = (check-accepts b facts t x h.0 e z).0 (is ∙ h.1) }))
        (λ (h : (r : Refusal) × (place : ℕ) × (derivation_answer facts t x ≡ Refused r place)). absurd (none h.0 h.1 ((check-refused b t x h.0 h.1).0 (is ∙ h.2))))
        (derivation-verdict facts t x)

    go : (u : Table) → table_of b ≡ u → ((r : Refusal) (place : ℕ) → CheckRefused b t x r place → ⊥) → (facts : List Fact) × (n : ℕ) × SoundCheck b facts t x n
    go (refused r place) e none = absurd (none r place (refusals.by-table ((table-refused b r place).0 e)))
    go (accepted facts) e none = judged facts e (fault_of t) refl none

-- ---- no term is named by check, reading and writing

verdict-names : (a : Answer) → Verdicts a → (code_of a).filling ≡ 0
verdict-names a (inl (n, e)) = ap (λ (b : Answer). (code_of b).filling) e
verdict-names a (inr (r, place, e)) = ap (λ (b : Answer). (code_of b).filling) e

pub check-names : (b : List ℕ) (t : Fact) (x : List ℕ) → (code_of (check_answer b t x)).filling ≡ 0
unfolding check_answer table_answer fact_answer
check-names b t x = go (table_of b)
  where
    fact-names : (facts : List Fact) (v : Verdict) → (code_of (fact_answer v (derivation_answer facts t x))).filling ≡ 0
    fact-names facts Sound = verdict-names (derivation_answer facts t x) (derivation-verdict facts t x)
    fact-names facts (Faulty r) = refl

    go : (u : Table) → (code_of (table_answer u t x)).filling ≡ 0
    go (refused r place) = refl
    go (accepted facts) = fact-names facts (fault_of t)

pub settled-names : (content : List Fact → List ℕ) (t : Table) (m : ℕ) → (code_of (settled content t m)).filling ≡ 0
unfolding settled
settled-names content (refused r place) m = refl
settled-names content (accepted facts) m = by_cases (leb (length (content facts)) m) (λ e. rw e) (λ e. rw e)

pub records-names : (t : Table) (m : ℕ) → (code_of (settled_records t m)).filling ≡ 0
unfolding settled_records
records-names (refused r place) m = refl
records-names (accepted facts) m = by_cases (leb (length facts) m) (λ e. rw e) (λ e. rw e)
