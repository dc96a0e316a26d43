-- The check accepts exactly the derivations of at most 2,047 lines, with the number of their table lines.
-- Assumes nothing.
use Rattle.std.specs.Prelude.{Err}
use mathlib.Core.Path.{◌≡◌, refl, sym, ap, ◌∙◌}
use mathlib.Core.Logic.{◌↔◌}
use mathlib.Core.Bool.{Bool, true, false, cond, ◌&&◌}
use mathlib.Core.Option.{some, none-ne-some}
use mathlib.Core.List.{List, [], ◌∷◌, ◌++◌, append-nil}
use Prim.Native.Nat.{ℕ, zero, suc, ◌+◌, ◌-◌, ◌*◌, ◌/◌, ◌≤◌, ◌<◌}
use native.Mathlib.Omega.{arith}
use native.Mathlib.Nat.{add-zero, zero-add}
use lib.ListN.{length, get_or, take, length-take}
use lib.Seq.{append_snoc}
use lib.Dec.{T, ltb}
use borrow.Author.Tests.{lt-ltb, ltb-true}
use Rattle.columns.specs.Lines.{laid_out, Below, items_from}
use Rattle.columns.proofs.Fields.{both}
use Rattle.columns.proofs.Lists.{items-length, items_more, items-listed}
use Rattle.facts.specs.declared.Fact.{Fact}
use Rattle.facts.specs.declared.Refusal.{Refusal}
use Rattle.facts.specs.declared.Refusal.TheVariants.{Form, Step, End}
use Rattle.facts.specs.Results.{Sound, Faulty, Answer, Accepted, Refused}
use Rattle.facts.specs.Facts.{fact, well_formed, fault_of}
use Rattle.facts.specs.Answers.{code_of}
use Rattle.facts.proofs.Terms.{by_cases, T_of, of_T}
use Rattle.facts.proofs.Facts.{fault-none}
use Rattle.facts.proofs.Codes.{told-accepted}
use Rattle.table.specs.Results.{Scan, Passes}
use Rattle.table.specs.Scans.{scan}
use Rattle.table.specs.Tables.{table_of, accepted, sized}
use Rattle.table.proofs.Rows.{sized-fits, sized-says}
use Rattle.table.proofs.Lists.{scan-sound, scan-all, formed-in}
use Rattle.table.proofs.Tables.{table_of-accepted, terms-below}
use Rattle.rules.specs.declared.Line.{Line}
use Rattle.rules.specs.Graph.{◌∈◌}
use Rattle.rules.specs.Rules.{Gives, sp-sp, sp-data, sc-sc, sc-type, dom-data, range-data, Rule}
use Rattle.rules.specs.Derivations.{Relation, derivation_line, fact_on, Justified, by-table, by-rule, Justify, Derives, table_lines}
use Rattle.rules.specs.Steps.{same, justified}
use Rattle.rules.proofs.Steps.{same-eq, same_self, justified-is, justified-says}
use Rattle.derivation.specs.Bytes.{line_numbers, derivation_bytes, line_at}
use Rattle.derivation.proofs.Bytes.{derivation-length, derivation-written, line-read-back}
use Rattle.acceptance.specs.Check.{lines_of, form_verdict, step_verdict, after, end_answer, lines_answer, derivation_answer, fact_answer, table_answer, check_answer, DerivationOf, Judges}
use Rattle.acceptance.proofs.Lines.{fact-there}

-- ---- justified lines by their places

justify-from : (R : Relation) (table : List Fact) (at : ℕ → Line) (n i : ℕ) → ((j : ℕ) → j < n → Justified R table (items_from at 0 (i + j)) (at (i + j)))
    → Justify R table (items_from at 0 i) (items_from at i n)
unfolding Justify items_from
justify-from R table at zero i h = tt
justify-from R table at (suc n) i h =
    let e : items_from at 0 i ++ (at i ∷ []) ≡ items_from at 0 (suc i) = sym (items_more at 0 i ∙ rw zero-add) in
    (rw add-zero at (h 0 (omega arith)), rw e (justify-from R table at n (suc i) (λ j l. let t : suc i + j ≡ i + suc j = omega arith in rw t (h (suc j) (omega arith)))))

justify-all : (R : Relation) (table : List Fact) (at : ℕ → Line) (n : ℕ) → ((i : ℕ) → i < n → Justified R table (items_from at 0 i) (at i)) → Justify R table [] (items_from at 0 n)
unfolding items_from
justify-all R table at n h = justify-from R table at n 0 (λ j l. rw zero-add (h j l))

justify-at : (R : Relation) (table : List Fact) (d before : List Line) (z : Line) → Justify R table before d → (i : ℕ) → i < length d
    → Justified R table (before ++ take i d) (get_or d i z)
unfolding Justify
justify-at R table [] before z j i h = absurd (omega arith)
justify-at R table (l ∷ d) before z j zero h = rw append-nil j.0
justify-at R table (l ∷ d) before z j (suc i) h = rw append_snoc at (justify-at R table d (before ++ (l ∷ [])) z j.1 i (omega arith))

take-items : {A : Type 0} (at : ℕ → A) (n j i : ℕ) → i ≤ n → take i (items_from at j n) ≡ items_from at j i
unfolding items_from
take-items at n j zero h = refl
take-items at zero j (suc i) h = absurd (omega arith)
take-items at (suc n) j (suc i) h = ap (λ l. at j ∷ l) (take-items at n (suc j) i (omega arith))

-- ---- the numbers of a justified line

fact_on-within : (d : List Line) (i : ℕ) (p : Fact) → fact_on d i ≡ some p → i ≤ length d
unfolding fact_on
fact_on-within [] i p e = absurd (none-ne-some p e)
fact_on-within (l ∷ d) zero p e = omega arith
fact_on-within (l ∷ d) (suc zero) p e = omega arith
fact_on-within (l ∷ d) (suc (suc i)) p e = omega (arith, fact_on-within d (suc i) p e)

rule-below : {n : ℕ} {p q r : Fact} → Gives n p q r → n < 100000
rule-below sp-sp = omega arith
rule-below sp-data = omega arith
rule-below sc-sc = omega arith
rule-below sc-type = omega arith
rule-below dom-data = omega arith
rule-below range-data = omega arith

justified-below : {table : List Fact} {before : List Line} {l : Line} → ((f : Fact) → f ∈ table → T (well_formed f)) → length before ≤ 2047 → Justified Rule table before l → Below (line_numbers l)
justified-below wf h (by-table {f} m) = (omega arith, (omega arith, (omega arith, terms-below f (wf f m))))
justified-below {before = before} wf h (by-rule {n} {i} {j} {p} {q} {r} e g s) =
    let a = fact_on-within before i p e in
    let b = fact_on-within before j q g in
    (rule-below s.gives, (omega arith, (omega arith, terms-below r s.result)))

-- the numbers of each line of a derivation of at most 2,047 lines have at most five digits
pub derivation-below : {facts : List Fact} {t : Fact} {d : List Line} → ((f : Fact) → f ∈ facts → T (well_formed f)) → length d ≤ 2047 → Derives Rule facts d t
    → (i : ℕ) (z : Line) → i < length d → Below (line_numbers (get_or d i z))
derivation-below {facts} {t} {d} wf few derives i z h = justified-below wf (rw length-take (omega arith)) (justify-at Rule facts d [] z derives.lines i h)

-- ---- from the answer to the derivation

after-accepted : (s : Scan) (a : Answer) (c : ℕ) → after s a ≡ Accepted c → ((m : ℕ) × (s ≡ Passes m)) × (a ≡ Accepted c)
unfolding after
after-accepted (Passes m) a c e = ((m, refl), e)
after-accepted (Err stop) a c e = cc

picked : (b : Bool) (r : Refusal) → cond b Sound (Faulty r) ≡ Sound → b ≡ true
picked true r e = refl
picked false r e = cc

end-says : (t : Fact) (x : List ℕ) (n c : ℕ) → end_answer t x n ≡ Accepted c → ((line_at x (n - 1)).fact ≡ t) × (table_lines (lines_of x n) ≡ c)
unfolding end_answer
end-says t x n c e =
    by_cases (same (line_at x (n - 1)).fact t)
    (λ p. let q : Accepted (table_lines (lines_of x n)) ≡ Accepted c = rw p at e in (same-eq _ t (T_of _ p), cc))
    (λ p. let q : Refused End n ≡ Accepted c = rw p at e in cc)

lines-say : (facts : List Fact) (t : Fact) (x : List ℕ) (n c : ℕ) → 0 < n → n ≤ 2047 → length x ≡ 31 * n → lines_answer facts t x n ≡ Accepted c → DerivationOf facts t x c
unfolding lines_answer form_verdict step_verdict
lines-say facts t x n c pos few size e =
    let a = after-accepted (scan (form_verdict x) 0 n) _ c e in
    let b = after-accepted (scan (step_verdict facts x) 0 n) _ c a.1 in
    let end = end-says t x n c b.1 in
    let laid : (i : ℕ) → i < n → laid_out 6 x (31 * i) ≡ true = λ i h. picked _ Form (rw zero-add at (scan-sound (form_verdict x) n 0 a.0.0 a.0.1 i h)) in
    let steps : (i : ℕ) → i < n → Justified Rule facts (lines_of x i) (line_at x i) =
    λ i h. justified-says facts (lines_of x i) (line_at x i) (T_of (justified facts (lines_of x i) (line_at x i)) (picked _ Step (rw zero-add at (scan-sound (step_verdict facts x) n 0 b.0.0 b.0.1 i h)))) in
    let last : fact_on (lines_of x n) n ≡ some t = fact-there x n n (λ z. omega arith) (omega arith) ∙ ap some end.0 in
    record {
      derivation = lines_of x n;
      bytes = derivation-written x n size laid;
      some-line = rw items-length pos;
      short = rw items-length few;
      derives = record { lines = justify-all Rule facts (line_at x) n steps; last = rw items-length last };
      count = end.1;
    }

derivation-says : (facts : List Fact) (t : Fact) (x : List ℕ) (c : ℕ) → derivation_answer facts t x ≡ Accepted c → DerivationOf facts t x c
unfolding derivation_answer
derivation-says facts t x c e =
    by_cases (ltb 0 (length x) && sized 31 63457 (length x))
    (λ p. let q : lines_answer facts t x (length x / 31) ≡ Accepted c = rw p at e in
    let b = both (ltb 0 (length x)) (sized 31 63457 (length x)) p in
    let pos = ltb-true 0 (length x) b.0 in
    let fits = sized-says 31 63457 (length x) b.1 in
    lines-say facts t x (length x / 31) c (omega arith) (omega arith) (omega arith) q)
    (λ p. let q : Refused Form 0 ≡ Accepted c = rw p at e in cc)

-- ---- from the derivation to the answer

forms-pass : (x : List ℕ) (n : ℕ) → ((i : ℕ) → i < n → laid_out 6 x (31 * i) ≡ true) → scan (form_verdict x) 0 n ≡ Passes (0 + n)
unfolding form_verdict
forms-pass x n h = scan-all (form_verdict x) n 0 (λ j l. rw (zero-add, h j l))

steps-pass : (facts : List Fact) (x : List ℕ) (n : ℕ) → ((i : ℕ) → i < n → justified facts (lines_of x i) (line_at x i) ≡ true) → scan (step_verdict facts x) 0 n ≡ Passes (0 + n)
unfolding step_verdict
steps-pass facts x n h = scan-all (step_verdict facts x) n 0 (λ j l. rw (zero-add, h j l))

end_is : (t : Fact) (x : List ℕ) (n : ℕ) → (line_at x (n - 1)).fact ≡ t → end_answer t x n ≡ Accepted (table_lines (lines_of x n))
unfolding end_answer
end_is t x n e = rw (e, of_T (same t t) (same_self t))

lines_are : (facts : List Fact) (t : Fact) (d : List Line) → ((f : Fact) → f ∈ facts → T (well_formed f)) → 0 < length d → length d ≤ 2047 → Derives Rule facts d t
    → lines_answer facts t (derivation_bytes d) (length d) ≡ Accepted (table_lines d)
unfolding lines_answer after
lines_are facts t d wf pos few derives =
    let x = derivation_bytes d in
    let n = length d in
    let z = derivation_line 0 0 0 (fact 0 0 0) in
    let just : (i : ℕ) → i < n → Justified Rule facts (take i d) (get_or d i z) = λ i h. justify-at Rule facts d [] z derives.lines i h in
    let back : (i : ℕ) → i < n → (laid_out 6 x (31 * i) ≡ true) × (line_at x i ≡ get_or d i z) =
    λ i h. line-read-back d i z h (derivation-below wf few derives i z h) in
    let all : lines_of x n ≡ d = items-listed (line_at x) d 0 z (λ j h. rw zero-add (back j h).1) in
    let upto : (i : ℕ) → i < n → lines_of x i ≡ take i d = λ i h. sym (take-items (line_at x) n 0 i (omega arith)) ∙ ap (take i) all in
    let steps : (i : ℕ) → i < n → justified facts (lines_of x i) (line_at x i) ≡ true = λ i h. of_T _ (rw (upto i h, (back i h).1) (justified-is (just i h))) in
    let last : some (line_at x (n - 1)).fact ≡ some t = sym (fact-there x n n (λ e. omega arith) (omega arith)) ∙ rw all derives.last in
    let same-last : (line_at x (n - 1)).fact ≡ t = cc in
    rw (forms-pass x n (λ i h. (back i h).0), steps-pass facts x n steps) (end_is t x n same-last ∙ ap (λ l. Accepted (table_lines l)) all)

derivation-is : (facts : List Fact) (t : Fact) (d : List Line) → ((f : Fact) → f ∈ facts → T (well_formed f)) → 0 < length d → length d ≤ 2047 → Derives Rule facts d t
    → derivation_answer facts t (derivation_bytes d) ≡ Accepted (table_lines d)
unfolding derivation_answer
derivation-is facts t d wf pos few derives =
    let size = derivation-length d in
    let n : length (derivation_bytes d) / 31 ≡ length d = omega arith in
    rw (lt-ltb 0 (length (derivation_bytes d)) (omega arith), sized-fits 31 63457 (length (derivation_bytes d)) (omega arith) (omega arith), n) (lines_are facts t d wf pos few derives)

-- ---- the check

answer-of : (b : List ℕ) (facts : List Fact) (t : Fact) (x : List ℕ) → table_of b ≡ accepted facts → fault_of t ≡ Sound → check_answer b t x ≡ derivation_answer facts t x
unfolding check_answer table_answer fact_answer
answer-of b facts t x e s = rw (e, s)

-- over an accepted table, for a fact without fault, the check accepts with count c exactly the bytes of the derivations of that fact of 1 to
-- 2,047 lines with c table lines
pub check-accepts : (b : List ℕ) (facts : List Fact) (t : Fact) (x : List ℕ) (c : ℕ) → table_of b ≡ accepted facts → fault_of t ≡ Sound
    → check_answer b t x ≡ Accepted c ↔ DerivationOf facts t x c
check-accepts b facts t x c e s =
    let wf : (f : Fact) → f ∈ facts → T (well_formed f) = λ f m. formed-in facts f ((table_of-accepted b facts).0 e).1.formed m in (
      λ a. derivation-says facts t x c (sym (answer-of b facts t x e s) ∙ a),
      λ j. answer-of b facts t x e s ∙ rw j.bytes (derivation-is facts t j.derivation wf j.some-line j.short j.derives ∙ ap Accepted j.count),
    )

-- the same by document 01's numbers
pub check-judges : (b : List ℕ) (t : Fact) (x : List ℕ) → Judges b t x (code_of (check_answer b t x))
check-judges b t x facts s is w n =
    let a = check-accepts b facts t x n ((table_of-accepted b facts).1 (is, s)) ((fault-none t).1 w) in
    (λ e. a.0 (told-accepted e), λ j. ap code_of (a.1 j))

-- the check's answer, with what it means
pub check-told : (b : List ℕ) (t : Fact) (x : List ℕ) (a : Answer) → a ≡ check_answer b t x → (a ≡ check_answer b t x) × Judges b t x (code_of a)
check-told b t x a e = (e, rw e (check-judges b t x))
