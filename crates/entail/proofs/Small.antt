-- Every answer fits the bits of its number: places are line numbers, counts are numbers of facts or lines, and what a yes names is a
-- term.
-- Assumes nothing.
use Rattle.std.specs.Prelude.{Err}
use mathlib.Core.Path.{◌≡◌, refl}
use mathlib.Core.Bool.{Bool, ◌&&◌}
use mathlib.Core.Option.{Option, none, some}
use mathlib.Core.List.{List, [], ◌∷◌}
use Prim.Native.Nat.{ℕ, ◌-◌, ◌/◌, ◌≤◌}
use native.Mathlib.Omega.{arith}
use lib.ListN.{length, length-map}
use lib.Dec.{eqb, leb, ltb}
use Rattle.columns.proofs.Fields.{both}
use Rattle.columns.proofs.Lists.{items-length}
use Rattle.facts.specs.declared.Fact.{Fact}
use Rattle.facts.specs.declared.Refusal.{Refusal}
use Rattle.facts.specs.declared.Refusal.TheVariants.{Short, Form, End}
use Rattle.facts.specs.Results.{Verdict, Sound, Faulty, Answer}
use Rattle.facts.specs.Facts.{fault_of}
use Rattle.facts.specs.Answers.{code_of}
use Rattle.facts.proofs.Terms.{by_cases}
use Rattle.table.specs.Results.{Scan, Passes, Stops}
use Rattle.table.specs.Scans.{scan}
use Rattle.table.specs.Tables.{Table, accepted, refused, row_of, table_bytes, table_of, table_of_row, sized, settled}
use Rattle.table.proofs.Rows.{sized-says, accepted-size, row-size}
use Rattle.table.proofs.Tables.{table-place, row-place, scan-stopped}
use Rattle.rules.specs.declared.Line.{Line}
use Rattle.rules.specs.Graph.{keep}
use Rattle.rules.specs.Derivations.{table_lines}
use Rattle.rules.specs.Steps.{same}
use Rattle.derivation.specs.Bytes.{line_at}
use Rattle.rules.specs.Paths.{fewest}
use Rattle.rules.proofs.Chosen.{fewest-few}
use Rattle.question.specs.Question.{asked, filling_for, answer_by, answer_of, unless, answer_from, question_answer}
use Rattle.question.proofs.Answered.{asked-sound, named-within}
use Rattle.acceptance.specs.Check.{lines_of, form_verdict, step_verdict, after, end_answer, lines_answer, derivation_answer, fact_answer, table_answer, check_answer}
use Rattle.imports.specs.Import.{import_of}
use Rattle.imports.proofs.Imported.{import-place, import-facts}
use Rattle.packing.specs.Packed.{Small}
use Rattle.packing.proofs.Packed.{refused-small}

-- ---- tables

-- reading and writing, over any table whose places and facts are few
settled-small : (content : List Fact → List ℕ) (t : Table) (m : ℕ) → ((r : Refusal) (place : ℕ) → t ≡ refused r place → place ≤ 65536) → ((facts : List Fact) → t ≡ accepted facts → length facts ≤ 1024)
    → Small (code_of (settled content t m))
unfolding settled
settled-small content (refused r place) m p f = refused-small r place (omega (arith, p r place refl))
settled-small content (accepted facts) m p f =
    by_cases (leb (length (content facts)) m)
    (λ e. rw e (record { number = omega arith; place = omega arith; count = omega (arith, f facts refl); filling = omega arith }))
    (λ e. rw e (refused-small Short 0 (omega arith)))

pub read_small : (b : List ℕ) (m : ℕ) → Small (code_of (settled row_of (table_of b) m))
read_small b m = settled-small row_of (table_of b) m (λ r place e. omega (arith, table-place b r place e)) (λ facts e. (accepted-size b facts e).1)

pub write-small : (row : List ℕ) (m : ℕ) → Small (code_of (settled table_bytes (table_of_row row) m))
write-small row m = settled-small table_bytes (table_of_row row) m (λ r place e. omega (arith, row-place row r place e)) (λ facts e. (row-size row facts e).1)

-- importing: a place is a line of at most 65,536, or 0
pub import-small : (b : List ℕ) (m : ℕ) → Small (code_of (settled table_bytes (import_of b) m))
import-small b m = settled-small table_bytes (import_of b) m (import-place b) (import-facts b)

-- ---- the check

keep-few : {A : Type 0} (p : A → Bool) (l : List A) → length (keep p l) ≤ length l
unfolding keep
keep-few p [] = omega arith
keep-few p (x ∷ l) = by_cases (p x) (λ e. rw e (omega (arith, keep-few p l))) (λ e. rw e (omega (arith, keep-few p l)))

tables-few : (d : List Line) → table_lines d ≤ length d
unfolding table_lines
tables-few d = rw length-map (keep-few (λ l. eqb l.rule 0) d)

after_small : (judge : ℕ → Verdict) (n : ℕ) (a : Answer) → n ≤ 2047 → Small (code_of a) → Small (code_of (after (scan judge 0 n) a))
unfolding after
after_small judge n a h s = go (scan judge 0 n) refl
  where
    go : (c : Scan) → scan judge 0 n ≡ c → Small (code_of (after c a))
    go (Passes m) e = s
    go (Err stop) e = let st = (scan-stopped judge n stop.refusal stop.place).0 e in refused-small stop.refusal stop.place (omega (arith, st.counted, st.within))

end-small : (t : Fact) (x : List ℕ) (n : ℕ) → n ≤ 2047 → Small (code_of (end_answer t x n))
unfolding end_answer
end-small t x n h =
    by_cases (same (line_at x (n - 1)).fact t)
    (λ e. rw e (record { number = omega arith; place = omega arith; count = omega (arith, tables-few (lines_of x n), items-length (line_at x) 0 n); filling = omega arith }))
    (λ e. rw e (refused-small End n (omega arith)))

derivation-small : (facts : List Fact) (t : Fact) (x : List ℕ) → Small (code_of (derivation_answer facts t x))
unfolding derivation_answer lines_answer
derivation-small facts t x =
    by_cases (ltb 0 (length x) && sized 31 63457 (length x))
    (λ e. let fits = sized-says 31 63457 (length x) (both (ltb 0 (length x)) (sized 31 63457 (length x)) e).1 in
    let n : length x / 31 ≤ 2047 = omega arith in
    rw e (after_small (form_verdict x) (length x / 31) _ n (after_small (step_verdict facts x) (length x / 31) _ n (end-small t x (length x / 31) n))))
    (λ e. rw e (refused-small Form 0 (omega arith)))

pub check-small : (b : List ℕ) (t : Fact) (x : List ℕ) → Small (code_of (check_answer b t x))
unfolding check_answer table_answer
check-small b t x = go (table_of b) refl
  where
    fact_small : (v : Verdict) (a : Answer) → Small (code_of a) → Small (code_of (fact_answer v a))
    fact_small Sound a s = unfold fact_answer in s
    fact_small (Faulty r) a s = unfold fact_answer in (refused-small r 0 (omega arith))

    go : (c : Table) → table_of b ≡ c → Small (code_of (table_answer c t x))
    go (refused r place) e = refused-small r place (omega (arith, table-place b r place e))
    go (accepted facts) e = fact_small (fault_of t) (derivation_answer facts t x) (derivation-small facts t x)

-- ---- the question

answer-small : (limit : ℕ) (o : Option ℕ) (x : ℕ) → ((f : ℕ) → o ≡ some f → f ≤ 1024) → ((f : ℕ) → o ≡ some f → x ≤ 65535) → Small (code_of (answer_by limit o x))
unfolding answer_by
answer-small limit none x h g = record { number = omega arith; place = omega arith; count = omega arith; filling = omega arith }
answer-small limit (some f) x h g =
    by_cases (leb f limit)
    (λ e. rw e (record { number = omega arith; place = omega arith; count = omega (arith, h f refl); filling = omega (arith, g f refl) }))
    (λ e. rw e (record { number = omega arith; place = omega arith; count = omega (arith, h f refl); filling = omega arith }))

unless-small : (v : Verdict) (a : Answer) → (v ≡ Sound → Small (code_of a)) → Small (code_of (unless v a))
unfolding unless
unless-small Sound a s = s refl
unless-small (Faulty r) a s = refused-small r 0 (omega arith)

pub question-small : (b : List ℕ) (t : Fact) (limit m : ℕ) → Small (code_of (question_answer b t limit m))
unfolding question_answer answer_from answer_of
question-small b t limit m = go (table_of b) refl
  where
    go : (c : Table) → table_of b ≡ c → Small (code_of (answer_from c t limit m))
    go (refused r place) e = refused-small r place (omega (arith, table-place b r place e))
    go (accepted facts) e =
        unless-small (asked t limit m) (answer_of facts t limit)
        (λ s. answer-small limit (fewest facts t) (filling_for facts t) (λ f h. omega (arith, fewest-few facts t f h, (accepted-size b facts e).1))
        (λ f h. named-within b t facts e (asked-sound t limit m s).0 f h))
