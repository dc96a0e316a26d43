-- The first line of a reply: number, place and count fit their columns, so they are read back, and the number is never 8.
-- Assumes nothing.
use mathlib.Core.Path.{◌≡◌, refl, sym, ◌∙◌}
use mathlib.Core.Logic.{⊎_elim}
use mathlib.Core.Bool.{Bool, true, false}
use mathlib.Core.Option.{Option, none, some}
use mathlib.Core.List.{List}
use Prim.Native.Nat.{ℕ, ◌/◌, ◌≤◌}
use native.Mathlib.Omega.{arith}
use lib.ListN.{length}
use lib.Dec.{leb}
use borrow.Author.Tests.{le-leb, leb-true}
use Rattle.columns.specs.Lines.{numbers_at, laid_out, Below}
use Rattle.columns.proofs.Lines.{line_read}
use Rattle.facts.specs.declared.Fact.{Fact}
use Rattle.facts.specs.declared.Code.{Code}
use Rattle.facts.specs.declared.Refusal.{Refusal}
use Rattle.facts.specs.declared.Refusal.TheVariants.{Size, Column, Term, Blank, Part, Order, Allowance, Short, Form, Step, End, Class, Statement, UnknownNode, Crowd}
use Rattle.facts.specs.Results.{Verdict, Sound, Faulty, Answer, Refused}
use Rattle.facts.specs.Facts.{has_no_term, misplaced, text_as_class, or_else}
use Rattle.facts.specs.Gaps.{blank_refused, question_fault}
use Rattle.facts.specs.Answers.{code_of, number_of}
use Rattle.facts.proofs.Terms.{by_cases}
use Rattle.facts.proofs.Codes.{number-within}
use Rattle.table.specs.Scans.{earns}
use Rattle.table.specs.Tables.{Table, accepted, refused, line_fact, line_verdict, sized, table_of}
use Rattle.table.proofs.Rows.{accepted-size}
use Rattle.table.proofs.Tables.{Stopped, table_of-refused, line_refused, table-place}
use Rattle.rules.specs.Paths.{fewest}
use Rattle.rules.proofs.Chosen.{fewest-few}
use Rattle.question.specs.Question.{needed, asked, filling_for, answer_by, answer_of, unless, answer_from, question_answer, printed_from}
use Rattle.batch.specs.declared.Query.{Query}
use Rattle.batch.specs.Output.{code_numbers, code_line, behind_code, reply_to}

-- a code that fits its columns, and is not 8
record Plain (c : Code) : Type 0 where
  number : c.number ≤ 93
  place : c.place ≤ 1024
  count : c.count ≤ 1024
  not_short : c.number ≡ 8 → ⊥

-- ---- refusals

abbrev NotShort : Refusal → Type 0
NotShort r = number_of r ≡ 8 → ⊥

-- a line does not earn 8
earned : (laid : Bool) (at : ℕ → Fact) (i : ℕ) (r : Refusal) → earns laid at i r ≡ true → NotShort r
unfolding earns
earned laid at i Column e = λ z. omega arith
earned laid at i Term e = λ z. omega arith
earned laid at i Blank e = λ z. omega arith
earned laid at i Part e = λ z. omega arith
earned laid at i Order e = λ z. omega arith
earned laid at i Size e = λ z. omega arith
earned laid at i Allowance e = λ z. omega arith
earned laid at i Form e = λ z. omega arith
earned laid at i Step e = λ z. omega arith
earned laid at i End e = λ z. omega arith
earned laid at i Class e = λ z. omega arith
earned laid at i Statement e = λ z. omega arith
earned laid at i UnknownNode e = λ z. omega arith
earned laid at i Crowd e = λ z. omega arith
earned laid at i Short e = let z : ◌≡◌ {A = ℕ} 0 1 = cc in absurd (omega arith)

-- nor does a table
table-number : (b : List ℕ) (r : Refusal) (place : ℕ) → table_of b ≡ refused r place → NotShort r
table-number b r place e =
    ⊎_elim (λ (p : (sized 16 16384 (length b) ≡ false) × (r ≡ Size) × (place ≡ 0)). rw p.1 (λ z. omega arith))
    (λ (p : (sized 16 16384 (length b) ≡ true) × Stopped (line_verdict b) (length b / 16) r place).
    let s = p.1 in earned _ (line_fact b) s.line r ((line_refused b s.line r).0 s.refuses).here)
    ((table_of-refused b r place).0 e)

-- nor the triple
fault-number : (t : Fact) (r : Refusal) → question_fault t ≡ Faulty r → NotShort r
unfolding question_fault
fault-number t r e =
    by_cases (has_no_term t) (λ a. said Term (rw a at e) (λ z. omega arith))
    (λ a. by_cases (blank_refused t) (λ b. said Blank (rw (a, b) at e) (λ z. omega arith))
    (λ b. by_cases (misplaced t) (λ c. said Part (rw (a, b, c) at e) (λ z. omega arith))
    (λ c. by_cases (text_as_class t) (λ d. said Class (rw (a, b, c, d) at e) (λ z. omega arith))
    (λ d. let x : Sound ≡ Faulty r = rw (a, b, c, d) at e in let z : ◌≡◌ {A = ℕ} 0 1 = cc in absurd (omega arith)))))
  where
    said : (q : Refusal) → Faulty q ≡ Faulty r → NotShort q → NotShort r
    said q x h = let y : q ≡ r = cc in rw y at h

-- with memory for every limit the question itself adds 7, and never 8
asked-number : (t : Fact) (limit m : ℕ) (r : Refusal) → needed 1024 ≤ m → asked t limit m ≡ Faulty r → NotShort r
unfolding asked or_else
asked-number t limit m r room e = go (question_fault t) refl
  where
    go : (v : Verdict) → question_fault t ≡ v → NotShort r
    go (Faulty q) p = let x : Faulty q ≡ Faulty r = rw p at e in fault-number t r (p ∙ x)
    go Sound p =
        by_cases (leb limit 1024)
        (λ y. let n : needed limit ≤ m = omega (arith, leb-true limit 1024 y) in
        let x : Sound ≡ Faulty r = rw (p, y, le-leb (needed limit) m n) at e in let z : ◌≡◌ {A = ℕ} 0 1 = cc in absurd (omega arith))
        (λ y. let x : Faulty Allowance ≡ Faulty r = rw (p, y) at e in let z : Allowance ≡ r = cc in rw (sym z) (λ n. omega arith))

refused-plain : (r : Refusal) (place : ℕ) → NotShort r → place ≤ 1024 → Plain (code_of (Refused r place))
refused-plain r place n p = record { number = omega (arith, number-within r); place = p; count = omega arith; not_short = n }

-- ---- answers

found_plain : (limit : ℕ) (o : Option ℕ) (x : ℕ) → ((f : ℕ) → o ≡ some f → f ≤ 1024) → Plain (code_of (answer_by limit o x))
unfolding answer_by
found_plain limit none x few = record { number = omega arith; place = omega arith; count = omega arith; not_short = λ e. omega arith }
found_plain limit (some f) x few =
    by_cases (leb f limit)
    (λ y. rw y (record { number = omega arith; place = omega arith; count = few f refl; not_short = λ e. omega arith }))
    (λ y. rw y (record { number = omega arith; place = omega arith; count = few f refl; not_short = λ e. omega arith }))

answer-plain : (table : List ℕ) (t : Fact) (limit m : ℕ) → needed 1024 ≤ m → Plain (code_of (question_answer table t limit m))
unfolding question_answer answer_from answer_of
answer-plain table t limit m room = go (table_of table) refl
  where
    judged : (facts : List Fact) → table_of table ≡ accepted facts → (v : Verdict) → asked t limit m ≡ v → Plain (code_of (unless v (answer_by limit (fewest facts t) (filling_for facts t))))
    judged facts is (Faulty r) e = unfold unless in refused-plain r 0 (asked-number t limit m r room e) (omega arith)
    judged facts is Sound e =
        unfold unless in found_plain limit (fewest facts t) (filling_for facts t) (λ f k. omega (arith, fewest-few facts t f k, (accepted-size table facts is).1))

    go : (T : Table) → table_of table ≡ T → Plain (code_of (question_answer table t limit m))
    go (refused r place) is = rw is (refused-plain r place (table-number table r place is) (table-place table r place is))
    go (accepted facts) is = rw is (judged facts is (asked t limit m) refl)

-- each of its three numbers has a field
pub code_below : (table : List ℕ) (t : Fact) (limit m : ℕ) (a : Answer) → needed 1024 ≤ m → a ≡ question_answer table t limit m → Below (code_numbers a)
code_below table t limit m a room e =
    let p : Plain (code_of a) = rw e (answer-plain table t limit m room) in
    (omega (arith, p.number), (omega (arith, p.place), (omega (arith, p.count), tt)))

-- the first line of a reply reads as number, place and count of the answer, and the number is never 8
pub reply-code : (table : List ℕ) (q : Query) (a : Answer) → a ≡ question_answer table q.fact q.limit (needed 1024)
    → (laid_out 3 (reply_to table q) 0 ≡ true) × (numbers_at 3 (reply_to table q) 0 ≡ code_numbers a) × ((code_of a).number ≡ 8 → ⊥)
unfolding reply_to code_line
reply-code table q a e =
    let r = line_read (code_numbers a) (reply_to table q) (behind_code a (printed_from (table_of table) q.fact)) 0 (code_below table q.fact q.limit (needed 1024) a (omega arith) e) (rw e) in
    (r.0, r.1, λ z. (answer-plain table q.fact q.limit (needed 1024) (omega arith)).not_short (rw (← e) z))
