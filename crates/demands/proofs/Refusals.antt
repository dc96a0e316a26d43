-- Each call refuses exactly what the papers refuse, with its number and place.
-- Assumes nothing.
use Rattle.std.specs.Prelude.{Err}
use mathlib.Core.Path.{◌≡◌, refl, sym, ◌∙◌}
use mathlib.Core.Logic.{◌↔◌, ◌⊎◌, inl, inr, ⊎_elim}
use mathlib.Core.Bool.{Bool, true, false, cond, ◌&&◌, ◌||◌, true≢false}
use mathlib.Core.Option.{Option, none, some}
use mathlib.Core.List.Memᴰ
use mathlib.Core.List.{List, [], ◌∷◌}
use Prim.Native.Nat.{ℕ, suc, ◌+◌, ◌-◌, ◌*◌, ◌/◌, ◌<◌}
use native.Mathlib.Omega.{arith}
use native.Mathlib.Nat.{zero-add}
use lib.ListN.{length}
use lib.Dec.{T, leb, ltb, eqb}
use mir.Facts.{and_yes, or_yes, eqb_yes}
use borrow.Author.Tests.{le-leb, lt-leb, leb-true, leb-false, lt-ltb, ltb-true}
use Rattle.columns.specs.Lines.{laid_out}
use Rattle.columns.proofs.Fields.{both}
use Rattle.facts.proofs.Results.{same_parts}
use Rattle.facts.specs.declared.Fact.{Fact}
use Rattle.facts.specs.declared.Refusal.{Refusal}
use Rattle.facts.specs.declared.Refusal.TheVariants.{Size, Term, Blank, Part, Class, Allowance, Short, Form, Step, End}
use Rattle.facts.specs.Results.{Verdict, Sound, Faulty, Answer, Done, Yes, Long, Accepted, Refused}
use Rattle.facts.specs.Terms.{kind_of, is_literal, sc, sp, dom, range, type}
use Rattle.facts.specs.Facts.{named_subject, named_object, well_formed, has_no_term, has_blank, misplaced, text_as_class, fault_of, or_else}
use Rattle.facts.proofs.Terms.{by_cases, T_of, of_T}
use Rattle.facts.specs.Gaps.{is_gap, blank_refused, question_fault}
use Rattle.facts.proofs.Facts.{fault-none}
use Rattle.facts.proofs.Gaps.{question-none}
use Rattle.table.specs.Results.{Scan, Passes, Stops}
use Rattle.table.specs.Scans.{earns, tried, first_earned, scan}
use Rattle.table.specs.Tables.{Table, accepted, refused, sized, row_of, table_bytes, line_fact, row_fact, line_verdict, row_verdict, table_of, table_of_row, settled, filled}
use Rattle.table.proofs.Rows.{row-length, bytes-length, sized-fits, sized-says}
use Rattle.table.proofs.Lists.{scan-sound, scan-all}
use Rattle.table.proofs.Tables.{scan-stopped, table_of-accepted, table_of_row-accepted, none-earned, first-earned, Stopped, Refusable, table_of-refused, table_of_row-refused}
use Rattle.records.specs.Records.{settled_records, filled_records}
use Rattle.rules.specs.Graph.{◌∈◌}
use Rattle.rules.specs.Rules.{Rule}
use Rattle.rules.specs.Derivations.{Justified}
use Rattle.rules.specs.Paths.{fewest}
use Rattle.rules.specs.Steps.{same, justified}
use Rattle.rules.proofs.Steps.{same-eq, same_self, justified-is, justified-says}
use Rattle.derivation.specs.Bytes.{line_at}
use Rattle.acceptance.specs.Check.{lines_of, form_verdict, step_verdict, after, end_answer, lines_answer, derivation_answer, fact_answer, table_answer, check_answer}
use Rattle.question.specs.Question.{needed, asked, filling_for, answer_by, answer_of, unless, answer_from, question_answer, Question, question}
use Rattle.demands.specs.Refusals as refusals
use Rattle.demands.specs.Refusals.{SoundTable, SoundRow, WholeLines, LinesRefused, TableRefused, RowRefused, FactRefused, Blanks, TextAsClass, AskedRefused, ReadRefused, WriteRefused, QuestionRefused, CheckRefused, Lines}

-- ---- what is sound

pub sound-table : (b : List ℕ) (facts : List Fact) → table_of b ≡ accepted facts ↔ SoundTable b facts
sound-table b facts =
    let t = table_of-accepted b facts in
    (λ e. record { bytes = (t.0 e).0; sound = (t.0 e).1 }, λ s. t.1 (s.bytes, s.sound))

pub sound-row : (row : List ℕ) (facts : List Fact) → table_of_row row ≡ accepted facts ↔ SoundRow row facts
sound-row row facts =
    let t = table_of_row-accepted row facts in
    (λ e. record { numbers = (t.0 e).0; sound = (t.0 e).1 }, λ s. t.1 (s.numbers, s.sound))

-- ---- a table, and a row to write

-- lines of k, where a size of whole lines is told from others by `sized`
module _ (k size : ℕ) (earned : ℕ → Refusal → Bool) (says : sized k (k * 1024) size ≡ true → WholeLines k size (size / k))
    (is : (n : ℕ) → WholeLines k size n → (sized k (k * 1024) size ≡ true) × (size / k ≡ n)) where
  abbrev judge : ℕ → Verdict
  judge i = first_earned (earned i) tried

  lines-say : (r : Refusal) (place : ℕ) → Refusable (sized k (k * 1024) size) judge (size / k) r place → LinesRefused k size earned r place
  lines-say r place =
      ⊎_elim
      (λ (h : (sized k (k * 1024) size ≡ false) × (r ≡ Size) × (place ≡ 0)).
      rw (h.1, h.2) (refusals.by_size (λ n w. let z : true ≡ false = sym (is n w).0 ∙ h.0 in let o : ◌≡◌ {A = ℕ} 0 1 = cc in omega arith)))
      (λ (h : (sized k (k * 1024) size ≡ true) × Stopped judge (size / k) r place).
      rw h.1.counted
      (refusals.by-line (says h.0) h.1.within (λ j l. (none-earned (earned j) tried).0 (h.1.sound j l)) ((first-earned (earned h.1.line) tried r).0 h.1.refuses)))

  lines_are : {r : Refusal} {place : ℕ} → LinesRefused k size earned r place → Refusable (sized k (k * 1024) size) judge (size / k) r place
  lines_are (refusals.by_size torn) = inl (by_cases (sized k (k * 1024) size) (λ e. absurd (torn (size / k) (says e))) (λ e. e), refl, refl)
  lines_are (refusals.by-line {n} {i} {r} w h before first) =
      inr (
        (is n w).0,
        record {
          line = i;
          counted = refl;
          within = rw (is n w).1 h;
          sound = λ j l. (none-earned (earned j) tried).1 (before j l);
          refuses = (first-earned (earned i) tried r).1 first;
        },
      )

pub table-refused : (b : List ℕ) (r : Refusal) (place : ℕ) → table_of b ≡ refused r place ↔ TableRefused b r place
unfolding line_verdict
table-refused b r place =
    let t = table_of-refused b r place in
    let says : sized 16 16384 (length b) ≡ true → WholeLines 16 (length b) (length b / 16) =
    λ e. let s = sized-says 16 16384 (length b) e in record { exact = omega arith; few = omega arith } in
    let is : (n : ℕ) → WholeLines 16 (length b) n → (sized 16 16384 (length b) ≡ true) × (length b / 16 ≡ n) =
    λ n w. (sized-fits 16 16384 (length b) (omega (arith, w.exact)) (omega (arith, w.exact, w.few)), omega (arith, w.exact)) in
    let earned : ℕ → Refusal → Bool = λ i. earns (laid_out 3 b (16 * i)) (line_fact b) i in
    (λ e. lines-say 16 (length b) earned says is r place (t.0 e), λ h. t.1 (lines_are 16 (length b) earned says is h))

pub row-refused : (row : List ℕ) (r : Refusal) (place : ℕ) → table_of_row row ≡ refused r place ↔ RowRefused row r place
unfolding row_verdict
row-refused row r place =
    let t = table_of_row-refused row r place in
    let says : sized 3 3072 (length row) ≡ true → WholeLines 3 (length row) (length row / 3) =
    λ e. let s = sized-says 3 3072 (length row) e in record { exact = omega arith; few = omega arith } in
    let is : (n : ℕ) → WholeLines 3 (length row) n → (sized 3 3072 (length row) ≡ true) × (length row / 3 ≡ n) =
    λ n w. (sized-fits 3 3072 (length row) (omega (arith, w.exact)) (omega (arith, w.exact, w.few)), omega (arith, w.exact)) in
    let earned = earns true (row_fact row) in
    (λ e. lines-say 3 (length row) earned says is r place (t.0 e), λ h. t.1 (lines_are 3 (length row) earned says is h))

-- ---- reading and writing

-- a table's own refusal, or 8 where what its facts take does not fit into m
abbrev pub Lacks : (List Fact → ℕ) → Table → ℕ → Refusal → ℕ → Type 0
Lacks takes t m r place = (t ≡ refused r place) ⊎ ((facts : List Fact) × (t ≡ accepted facts) × (m < takes facts) × (r ≡ Short) × (place ≡ 0))

-- what is answered so
abbrev pub answers : (List Fact → ℕ) → Table → ℕ → Answer
answers takes (accepted facts) m = cond (leb (takes facts) m) (Done (length facts)) (Refused Short 0)
answers takes (refused r place) m = Refused r place

pub answers-lack : (takes : List Fact → ℕ) (t : Table) (m : ℕ) (r : Refusal) (place : ℕ) → answers takes t m ≡ Refused r place ↔ Lacks takes t m r place
answers-lack takes (refused q p) m r place = (
  λ e. let i : q ≡ r = (same_parts e).0 in let j : p ≡ place = (same_parts e).1 in inl (rw (i, j)),
  ⊎_elim (λ (z : refused q p ≡ refused r place). let i : q ≡ r = cc in let j : p ≡ place = cc in rw (i, j))
      (λ (h : (facts : List Fact) × (refused q p ≡ accepted facts) × (m < takes facts) × (r ≡ Short) × (place ≡ 0)). let z : ◌≡◌ {A = ℕ} 0 1 = cc h.1 in absurd (omega arith)),
)
answers-lack takes (accepted facts) m r place = (
  λ e. by_cases (leb (takes facts) m)
      (λ y. let u : Done (length facts) ≡ Refused r place = rw y at e in let k : ◌≡◌ {A = ℕ} 0 1 = cc in absurd (omega arith))
      (λ y. let u : Refused Short 0 ≡ Refused r place = rw y at e in
      let i : r ≡ Short = sym (same_parts u).0 in let j : place ≡ 0 = sym (same_parts u).1 in inr (facts, refl, leb-false _ _ y, i, j)),
  ⊎_elim (λ (z : accepted facts ≡ refused r place). let k : ◌≡◌ {A = ℕ} 0 1 = cc in absurd (omega arith))
      (λ (h : (fs : List Fact) × (accepted facts ≡ accepted fs) × (m < takes fs) × (r ≡ Short) × (place ≡ 0)).
      let e : h.0 ≡ facts = cc h.1 in rw (lt-leb (takes facts) m (rw e at h.2), h.3, h.4)),
)

pub settled-answers : (content : List Fact → List ℕ) (t : Table) (m : ℕ) → settled content t m ≡ answers (λ fs. length (content fs)) t m
unfolding settled
settled-answers content (accepted facts) m = refl
settled-answers content (refused r place) m = refl

records-answers : (t : Table) (m : ℕ) → settled_records t m ≡ answers length t m
unfolding settled_records
records-answers (accepted facts) m = refl
records-answers (refused r place) m = refl

-- so many numbers or records a fact are read
reads : (k : ℕ) (takes : List Fact → ℕ) → ((facts : List Fact) → takes facts ≡ k * length facts) → (b : List ℕ) (m : ℕ) (r : Refusal) (place : ℕ)
    → Lacks takes (table_of b) m r place ↔ ReadRefused k b m r place
reads k takes many b m r place = (
  ⊎_elim (λ (z : table_of b ≡ refused r place). refusals.by-table ((table-refused b r place).0 z))
      (λ (h : (facts : List Fact) × (table_of b ≡ accepted facts) × (m < takes facts) × (r ≡ Short) × (place ≡ 0)).
      rw (h.3, h.4) (refusals.by-room ((sound-table b h.0).0 h.1) (rw many at h.2))),
  back,
)
  where
    back : {r : Refusal} {place : ℕ} → ReadRefused k b m r place → Lacks takes (table_of b) m r place
    back {r} {place} (refusals.by-table z) = inl ((table-refused b r place).1 z)
    back (refusals.by-room {facts} s h) = inr (facts, (sound-table b facts).1 s, rw many h, refl, refl)

pub read-refused : (b : List ℕ) (m : ℕ) (r : Refusal) (place : ℕ) → settled row_of (table_of b) m ≡ Refused r place ↔ ReadRefused 3 b m r place
read-refused b m r place =
    let a = answers-lack (λ fs. length (row_of fs)) (table_of b) m r place in
    let g = reads 3 (λ fs. length (row_of fs)) row-length b m r place in
    let e = settled-answers row_of (table_of b) m in
    (λ z. g.0 (a.0 (sym e ∙ z)), λ h. e ∙ a.1 (g.1 h))

pub facts-refused : (b : List ℕ) (m : ℕ) (r : Refusal) (place : ℕ) → settled_records (table_of b) m ≡ Refused r place ↔ ReadRefused 1 b m r place
facts-refused b m r place =
    let a = answers-lack length (table_of b) m r place in
    let g = reads 1 length (λ facts. omega arith) b m r place in
    let e = records-answers (table_of b) m in
    (λ z. g.0 (a.0 (sym e ∙ z)), λ h. e ∙ a.1 (g.1 h))

pub write-refused : (row : List ℕ) (m : ℕ) (r : Refusal) (place : ℕ) → settled table_bytes (table_of_row row) m ≡ Refused r place ↔ WriteRefused row m r place
write-refused row m r place =
    let a = answers-lack (λ fs. length (table_bytes fs)) (table_of_row row) m r place in
    let e = settled-answers table_bytes (table_of_row row) m in
    (λ z. forth (a.0 (sym e ∙ z)), λ h. e ∙ a.1 (back h))
  where
    forth : {r : Refusal} {place : ℕ} → Lacks (λ fs. length (table_bytes fs)) (table_of_row row) m r place → WriteRefused row m r place
    forth {r} {place} =
        ⊎_elim (λ (z : table_of_row row ≡ refused r place). refusals.by_row ((row-refused row r place).0 z))
        (λ (h : (facts : List Fact) × (table_of_row row ≡ accepted facts) × (m < length (table_bytes facts)) × (r ≡ Short) × (place ≡ 0)).
        rw (h.3, h.4) (refusals.by-room ((sound-row row h.0).0 h.1) (rw bytes-length at h.2)))

    back : {r : Refusal} {place : ℕ} → WriteRefused row m r place → Lacks (λ fs. length (table_bytes fs)) (table_of_row row) m r place
    back {r} {place} (refusals.by_row z) = inl ((row-refused row r place).1 z)
    back (refusals.by-room {facts} s h) = inr (facts, (sound-row row facts).1 s, rw bytes-length h, refl, refl)

-- a refusal leaves the memory as it was
pub memory-unchanged : (content : List Fact → List ℕ) (t : Table) (old : List ℕ) (r : Refusal) (place : ℕ) → settled content t (length old) ≡ Refused r place → filled content t old ≡ old
unfolding settled filled
memory-unchanged content (refused q p) old r place e = refl
memory-unchanged content (accepted facts) old r place e =
    by_cases (leb (length (content facts)) (length old))
    (λ y. let u : Done (length facts) ≡ Refused r place = rw y at e in let k : ◌≡◌ {A = ℕ} 0 1 = cc in absurd (omega arith))
    (λ y. rw y)

pub records-unchanged : (t : Table) (old : List Fact) (r : Refusal) (place : ℕ) → settled_records t (length old) ≡ Refused r place → filled_records t old ≡ old
unfolding settled_records filled_records
records-unchanged (refused q p) old r place e = refl
records-unchanged (accepted facts) old r place e =
    by_cases (leb (length facts) (length old))
    (λ y. let u : Done (length facts) ≡ Refused r place = rw y at e in let k : ◌≡◌ {A = ℕ} 0 1 = cc in absurd (omega arith))
    (λ y. rw y)

-- ---- the triple

pub fact-refused : (t : Fact) (r : Refusal) → fault_of t ≡ Faulty r ↔ FactRefused t r
unfolding fault_of has_no_term has_blank misplaced text_as_class earns first_earned
fact-refused t r = first-earned (earns true (λ i. t) 0) (Term ∷ Blank ∷ Part ∷ Class ∷ []) r

-- the triple of a question

blanks-say : (t : Fact) → blank_refused t ≡ true ↔ Blanks t
unfolding blank_refused
blanks-say t = (
  λ e. by_cases (is_gap t.predicate) refusals.in-predicate
      (λ p. let x = both (is_gap t.subject) (is_gap t.object) (rw p at e) in refusals.two x.0 x.1),
  go,
)
  where
    go : Blanks t → blank_refused t ≡ true
    go (refusals.in-predicate e) = rw e
    go (refusals.two e g) = by_cases (is_gap t.predicate) (λ p. rw p) (λ p. rw (p, e, g))

blanks-not : (t : Fact) → (Blanks t → ⊥) → blank_refused t ≡ false
blanks-not t h = by_cases (blank_refused t) (λ e. absurd (h ((blanks-say t).0 e))) (λ e. e)

blanks-none : (t : Fact) → blank_refused t ≡ false → Blanks t → ⊥
blanks-none t e h = true≢false (sym ((blanks-say t).1 h) ∙ e)

-- the predicates that ask for a name as subject, and those that ask for one as object
pub subject-says : (p : ℕ) → named_subject p ≡ true ↔ (p ∈ sc ∷ sp ∷ dom ∷ range ∷ [])
unfolding named_subject
subject-says p = (
  λ e. ⊎_elim
      (λ h. ⊎_elim (λ h. ⊎_elim (λ h. Memᴰ.head (eqb_yes h)) (λ h. Memᴰ.tail (Memᴰ.head (eqb_yes h))) (or_yes (eqb p sc) (eqb p sp) h))
      (λ h. Memᴰ.tail (Memᴰ.tail (Memᴰ.head (eqb_yes h)))) (or_yes (eqb p sc || eqb p sp) (eqb p dom) h))
      (λ h. Memᴰ.tail (Memᴰ.tail (Memᴰ.tail (Memᴰ.head (eqb_yes h))))) (or_yes (eqb p sc || eqb p sp || eqb p dom) (eqb p range) (T_of _ e)),
  go,
)
  where
    go : p ∈ sc ∷ sp ∷ dom ∷ range ∷ [] → named_subject p ≡ true
    go (Memᴰ.head e) = rw e
    go (Memᴰ.tail (Memᴰ.head e)) = rw e
    go (Memᴰ.tail (Memᴰ.tail (Memᴰ.head e))) = rw e
    go (Memᴰ.tail (Memᴰ.tail (Memᴰ.tail (Memᴰ.head e)))) = rw e
    go (Memᴰ.tail (Memᴰ.tail (Memᴰ.tail (Memᴰ.tail m)))) = absurd (Memᴰ.not-nil m)

pub object-says : (p : ℕ) → named_object p ≡ true ↔ (p ∈ sc ∷ sp ∷ dom ∷ range ∷ type ∷ [])
unfolding named_object
object-says p = (
  λ e. ⊎_elim (λ h. Memᴰ.append_left (type ∷ []) ((subject-says p).0 (of_T (named_subject p) h))) (λ h. Memᴰ.append_right (sc ∷ sp ∷ dom ∷ range ∷ []) (Memᴰ.head (eqb_yes h)))
      (or_yes (named_subject p) (eqb p type) (T_of _ e)),
  λ m. ⊎_elim (λ i. rw ((subject-says p).1 i)) (λ i. let e : p ≡ type = Memᴰ.eq_of_singleton i in rw e) (Memᴰ.append_cases (sc ∷ sp ∷ dom ∷ range ∷ []) m),
)

-- a literal where the predicate asks for a name
pub class-says : (t : Fact) → text_as_class t ≡ true ↔ TextAsClass t
unfolding text_as_class
class-says t = (
  λ e. ⊎_elim
      (λ h. let x = and_yes (is_literal (kind_of t.subject)) (named_subject t.predicate) h in
      refusals.as-subject (of_T (is_literal (kind_of t.subject)) x.0) ((subject-says t.predicate).0 (of_T (named_subject t.predicate) x.1)))
      (λ h. let x = and_yes (is_literal (kind_of t.object)) (named_object t.predicate) h in
      refusals.as-object (of_T (is_literal (kind_of t.object)) x.0) ((object-says t.predicate).0 (of_T (named_object t.predicate) x.1)))
      (or_yes (is_literal (kind_of t.subject) && named_subject t.predicate) (is_literal (kind_of t.object) && named_object t.predicate) (T_of _ e)),
  go,
)
  where
    go : TextAsClass t → text_as_class t ≡ true
    go (refusals.as-subject l m) = rw (l, (subject-says t.predicate).1 m)
    go (refusals.as-object l m) =
        let n = (object-says t.predicate).1 m in
        by_cases (is_literal (kind_of t.subject) && named_subject t.predicate) (λ e. rw e) (λ e. rw (e, l, n))

asked-refused : (t : Fact) (r : Refusal) → question_fault t ≡ Faulty r → AskedRefused t r
unfolding question_fault
asked-refused t r e =
    by_cases (has_no_term t) (λ a. said Term (rw a at e) (refusals.by-term a))
    (λ a. by_cases (blank_refused t) (λ b. said Blank (rw (a, b) at e) (refusals.by-blank a ((blanks-say t).0 b)))
    (λ b. by_cases (misplaced t)
    (λ c. said Part (rw (a, b, c) at e) (refusals.by_part a (blanks-none t b) c))
    (λ c. by_cases (text_as_class t)
    (λ d. said Class (rw (a, b, c, d) at e) (refusals.by-class a (blanks-none t b) c ((class-says t).0 d)))
    (λ d. let x : Sound ≡ Faulty r = rw (a, b, c, d) at e in let z : ◌≡◌ {A = ℕ} 0 1 = cc in absurd (omega arith)))))
  where
    said : (q : Refusal) → Faulty q ≡ Faulty r → AskedRefused t q → AskedRefused t r
    said q x h = let y : q ≡ r = cc in rw y at h

refused-asked : {t : Fact} {r : Refusal} → AskedRefused t r → question_fault t ≡ Faulty r
unfolding question_fault
refused-asked (refusals.by-term a) = rw a
refused-asked {t} (refusals.by-blank a b) = rw (a, (blanks-say t).1 b)
refused-asked {t} (refusals.by_part a b c) = rw (a, blanks-not t b, c)
refused-asked {t} (refusals.by-class a b c d) = rw (a, blanks-not t b, c, (class-says t).1 d)

pub triple-refused : (t : Fact) (r : Refusal) → question_fault t ≡ Faulty r ↔ AskedRefused t r
triple-refused t r = (asked-refused t r, refused-asked)

-- ---- the question

pub no-refusal : (limit : ℕ) (o : Option ℕ) (x : ℕ) (r : Refusal) (place : ℕ) → answer_by limit o x ≡ Refused r place → ⊥
unfolding answer_by
no-refusal limit none x r place e = let z : ◌≡◌ {A = ℕ} 0 1 = cc in omega arith
no-refusal limit (some f) x r place e =
    by_cases (leb f limit)
    (λ y. let u : Yes f x ≡ Refused r place = rw y at e in let z : ◌≡◌ {A = ℕ} 0 1 = cc in omega arith)
    (λ y. let u : Long f ≡ Refused r place = rw y at e in let z : ◌≡◌ {A = ℕ} 0 1 = cc in omega arith)

asked-says : (b : List ℕ) (facts : List Fact) (t : Fact) (limit m : ℕ) (v : Verdict) (r : Refusal) → SoundTable b facts → question_fault t ≡ v
    → or_else v (cond (leb limit 1024) (cond (leb (needed limit) m) Sound (Faulty Short)) (Faulty Allowance)) ≡ Faulty r → QuestionRefused (question b t limit) m r 0
unfolding or_else
asked-says b facts t limit m (Faulty q) r s z e = let i : q ≡ r = cc in rw (← i) (refusals.by-fact s ((triple-refused t q).0 z))
asked-says b facts t limit m Sound r s z e =
    let w = (question-none t).0 z in
    by_cases (leb limit 1024)
    (λ y. by_cases (leb (needed limit) m)
    (λ x. let u : Sound ≡ Faulty r = rw (y, x) at e in let k : ◌≡◌ {A = ℕ} 0 1 = cc in absurd (omega arith))
    (λ x. let u : Faulty Short ≡ Faulty r = rw (y, x) at e in let i : Short ≡ r = cc in rw (← i) (refusals.by-room s w (leb-true _ _ y) (leb-false _ _ x))))
    (λ y. let u : Faulty Allowance ≡ Faulty r = rw y at e in let i : Allowance ≡ r = cc in rw (← i) (refusals.by-limit s w (leb-false _ _ y)))

unless-says : (b : List ℕ) (facts : List Fact) (t : Fact) (limit m : ℕ) (v : Verdict) (r : Refusal) (place : ℕ) → SoundTable b facts → asked t limit m ≡ v
    → unless v (answer_of facts t limit) ≡ Refused r place → QuestionRefused (question b t limit) m r place
unfolding unless answer_of asked
unless-says b facts t limit m Sound r place s z e = absurd (no-refusal limit (fewest facts t) (filling_for facts t) r place e)
unless-says b facts t limit m (Faulty q) r place s z e =
    let i : q ≡ r = (same_parts e).0 in
    let j : 0 ≡ place = (same_parts e).1 in
    rw (← j) (asked-says b facts t limit m (question_fault t) r s refl (rw i at z))

question-says : (b : List ℕ) (t : Fact) (limit m : ℕ) (u : Table) (r : Refusal) (place : ℕ) → table_of b ≡ u → answer_from u t limit m ≡ Refused r place → QuestionRefused (question b t limit) m r place
unfolding answer_from
question-says b t limit m (refused q p) r place z e = let i : q ≡ r = (same_parts e).0 in let j : p ≡ place = (same_parts e).1 in rw (← i, ← j) (refusals.by-table ((table-refused b q p).0 z))
question-says b t limit m (accepted facts) r place z e = unless-says b facts t limit m (asked t limit m) r place ((sound-table b facts).0 z) refl e

question-is : {q : Question} {m : ℕ} {r : Refusal} {place : ℕ} → QuestionRefused q m r place → question_answer q.table q.fact q.limit m ≡ Refused r place
unfolding question_answer answer_from unless asked or_else
question-is {q} {m} {r} {place} (refusals.by-table z) = rw ((table-refused q.table r place).1 z)
question-is {q} {m} {r} (refusals.by-fact {facts} s z) = rw ((sound-table q.table facts).1 s, (triple-refused q.fact r).1 z)
question-is {q} (refusals.by-limit {facts} s w h) = rw ((sound-table q.table facts).1 s, (question-none q.fact).1 w, lt-leb _ _ h)
question-is {q} (refusals.by-room {facts} s w h k) = rw ((sound-table q.table facts).1 s, (question-none q.fact).1 w, le-leb _ _ h, lt-leb _ _ k)

pub question-refused : (q : Question) (m : ℕ) (r : Refusal) (place : ℕ) → question_answer q.table q.fact q.limit m ≡ Refused r place ↔ QuestionRefused q m r place
question-refused q m r place = (unfold question_answer in question-says q.table q.fact q.limit m (table_of q.table) r place refl, question-is)

-- ---- the check

-- the size of 1 to 2,047 lines
size-lines : (x : List ℕ) → ltb 0 (length x) && sized 31 63457 (length x) ≡ true → Lines x (length x / 31)
size-lines x e =
    let p = both (ltb 0 (length x)) (sized 31 63457 (length x)) e in
    let pos = ltb-true 0 (length x) p.0 in
    let fits = sized-says 31 63457 (length x) p.1 in
    record { size = omega arith; some-line = omega arith; short = omega arith }

lines-size : (x : List ℕ) (n : ℕ) → Lines x n → (ltb 0 (length x) && sized 31 63457 (length x) ≡ true) × (length x / 31 ≡ n)
lines-size x n l = (rw (lt-ltb 0 (length x) (omega (arith, l.size, l.some-line)), sized-fits 31 63457 (length x) (omega (arith, l.size)) (omega (arith, l.size, l.short))), omega (arith, l.size))

-- a verdict by one test
by-test : (test : Bool) (q r : Refusal) → cond test Sound (Faulty q) ≡ Faulty r → (test ≡ false) × (q ≡ r)
by-test true q r e = let z : ◌≡◌ {A = ℕ} 0 1 = cc in absurd (omega arith)
by-test false q r e = (refl, cc)

passed-test : (test : Bool) (q : Refusal) → cond test Sound (Faulty q) ≡ Sound → test ≡ true
passed-test true q e = refl
passed-test false q e = let z : ◌≡◌ {A = ℕ} 0 1 = cc in absurd (omega arith)

module _ (b : List ℕ) (facts : List Fact) (t : Fact) (x : List ℕ) (n : ℕ) (s : SoundTable b facts) (w : T (well_formed t)) (l : Lines x n) where
  abbrev Laid : Type 0
  Laid = (j : ℕ) → j < n → laid_out 6 x (31 * j) ≡ true

  abbrev Stepped : ℕ → Type 0
  Stepped i = (j : ℕ) → j < i → Justified Rule facts (lines_of x j) (line_at x j)

  stepped : (j : ℕ) → step_verdict facts x j ≡ Sound → Justified Rule facts (lines_of x j) (line_at x j)
  unfolding step_verdict
  stepped j e = justified-says facts (lines_of x j) (line_at x j) (T_of (justified facts (lines_of x j) (line_at x j)) (passed-test _ Step e))

  end-says : (r : Refusal) (place : ℕ) → Laid → Stepped n → end_answer t x n ≡ Refused r place → CheckRefused b t x r place
  unfolding end_answer
  end-says r place laid steps e =
      by_cases (same (line_at x (n - 1)).fact t)
      (λ y. let u : Accepted _ ≡ Refused r place = rw y at e in let k : ◌≡◌ {A = ℕ} 0 1 = cc in absurd (omega arith))
      (λ y. let u : Refused End n ≡ Refused r place = rw y at e in
      let i : End ≡ r = (same_parts u).0 in
      let j : n ≡ place = (same_parts u).1 in
      rw (← i, ← j) (refusals.by_end s w l laid steps (λ z. let q : same t t ≡ false = rw z at y in absurd (rw q at (same_self t)))))

  steps-say : (c : Scan) (r : Refusal) (place : ℕ) → Laid → scan (step_verdict facts x) 0 n ≡ c → after c (end_answer t x n) ≡ Refused r place → CheckRefused b t x r place
  unfolding after step_verdict
  steps-say (Passes m) r place laid z e = end-says r place laid (λ j h. stepped j (rw zero-add at (scan-sound (step_verdict facts x) n 0 m z j h))) e
  steps-say (Err stop) r place laid z e =
      let i : stop.refusal ≡ r = (same_parts e).0 in
      let j : stop.place ≡ place = (same_parts e).1 in
      let k = (scan-stopped (step_verdict facts x) n stop.refusal stop.place).0 z in
      let v = by-test (justified facts (lines_of x k.line) (line_at x k.line)) Step stop.refusal k.refuses in
      rw (← i, ← j, ← v.1, k.counted)
      (refusals.by-step s w l k.within laid (λ j h. stepped j (k.sound j h)) (λ y. rw v.0 at (justified-is y)))

  forms-say : (c : Scan) (r : Refusal) (place : ℕ) → scan (form_verdict x) 0 n ≡ c → after c (after (scan (step_verdict facts x) 0 n) (end_answer t x n)) ≡ Refused r place → CheckRefused b t x r place
  unfolding after form_verdict
  forms-say (Passes m) r place z e =
      steps-say (scan (step_verdict facts x) 0 n) r place (λ j h. passed-test _ Form (rw zero-add at (scan-sound (form_verdict x) n 0 m z j h))) refl e
  forms-say (Err stop) r place z e =
      let i : stop.refusal ≡ r = (same_parts e).0 in
      let j : stop.place ≡ place = (same_parts e).1 in
      let k = (scan-stopped (form_verdict x) n stop.refusal stop.place).0 z in
      let v = by-test (laid_out 6 x (31 * k.line)) Form stop.refusal k.refuses in
      rw (← i, ← j, ← v.1, k.counted) (refusals.by_form s w l k.within (λ j h. passed-test _ Form (k.sound j h)) v.0)

derivation-says : (b : List ℕ) (facts : List Fact) (t : Fact) (x : List ℕ) (r : Refusal) (place : ℕ) → SoundTable b facts → T (well_formed t)
    → derivation_answer facts t x ≡ Refused r place → CheckRefused b t x r place
unfolding derivation_answer lines_answer
derivation-says b facts t x r place s w e =
    by_cases (ltb 0 (length x) && sized 31 63457 (length x))
    (λ y. forms-say b facts t x (length x / 31) s w (size-lines x y) (scan (form_verdict x) 0 (length x / 31)) r place refl (rw y at e))
    (λ y. let u : Refused Form 0 ≡ Refused r place = rw y at e in
    let i : Form ≡ r = (same_parts u).0 in
    let j : 0 ≡ place = (same_parts u).1 in
    rw (← i, ← j) (refusals.by_size s w (λ n l. let z : true ≡ false = sym (lines-size x n l).0 ∙ y in let k : ◌≡◌ {A = ℕ} 0 1 = cc in omega arith)))

fact-says : (b : List ℕ) (facts : List Fact) (t : Fact) (x : List ℕ) (v : Verdict) (r : Refusal) (place : ℕ) → SoundTable b facts → fault_of t ≡ v
    → fact_answer v (derivation_answer facts t x) ≡ Refused r place
    → CheckRefused b t x r place
unfolding fact_answer
fact-says b facts t x Sound r place s z e = derivation-says b facts t x r place s ((fault-none t).0 z) e
fact-says b facts t x (Faulty q) r place s z e = let i : q ≡ r = (same_parts e).0 in let j : 0 ≡ place = (same_parts e).1 in rw (← i, ← j) (refusals.by-fact s ((fact-refused t q).0 z))

check-says : (b : List ℕ) (t : Fact) (x : List ℕ) (u : Table) (r : Refusal) (place : ℕ) → table_of b ≡ u → table_answer u t x ≡ Refused r place → CheckRefused b t x r place
unfolding table_answer
check-says b t x (refused q p) r place z e = let i : q ≡ r = (same_parts e).0 in let j : p ≡ place = (same_parts e).1 in rw (← i, ← j) (refusals.by-table ((table-refused b q p).0 z))
check-says b t x (accepted facts) r place z e = fact-says b facts t x (fault_of t) r place ((sound-table b facts).0 z) refl e

-- over a sound table, for a well-formed fact, the check is that of the lines
lines-checked : (b : List ℕ) (facts : List Fact) (t : Fact) (x : List ℕ) (n : ℕ) → SoundTable b facts → T (well_formed t) → Lines x n → check_answer b t x ≡ lines_answer facts t x n
unfolding check_answer table_answer fact_answer derivation_answer
lines-checked b facts t x n s w l = let z = lines-size x n l in rw ((sound-table b facts).1 s, (fault-none t).1 w, z.0, z.1)

form-sound : (x : List ℕ) (j : ℕ) → laid_out 6 x (31 * j) ≡ true → form_verdict x j ≡ Sound
unfolding form_verdict
form-sound x j e = rw e

form-bad : (x : List ℕ) (j : ℕ) → laid_out 6 x (31 * j) ≡ false → form_verdict x j ≡ Faulty Form
unfolding form_verdict
form-bad x j e = rw e

step-sound : (facts : List Fact) (x : List ℕ) (j : ℕ) → Justified Rule facts (lines_of x j) (line_at x j) → step_verdict facts x j ≡ Sound
unfolding step_verdict
step-sound facts x j s = rw (of_T (justified facts (lines_of x j) (line_at x j)) (justified-is s))

step-bad : (facts : List Fact) (x : List ℕ) (j : ℕ) → (Justified Rule facts (lines_of x j) (line_at x j) → ⊥) → step_verdict facts x j ≡ Faulty Step
unfolding step_verdict
step-bad facts x j bad =
    by_cases (justified facts (lines_of x j) (line_at x j))
    (λ e. absurd (bad (justified-says facts (lines_of x j) (line_at x j) (T_of (justified facts (lines_of x j) (line_at x j)) e))))
    (λ e. rw e)

forms-pass : (x : List ℕ) (n : ℕ) → ((j : ℕ) → j < n → laid_out 6 x (31 * j) ≡ true) → scan (form_verdict x) 0 n ≡ Passes (0 + n)
forms-pass x n h = scan-all (form_verdict x) n 0 (λ j l. rw zero-add (form-sound x j (h j l)))

steps-pass : (facts : List Fact) (x : List ℕ) (n : ℕ) → ((j : ℕ) → j < n → Justified Rule facts (lines_of x j) (line_at x j)) → scan (step_verdict facts x) 0 n ≡ Passes (0 + n)
steps-pass facts x n h = scan-all (step_verdict facts x) n 0 (λ j l. rw zero-add (step-sound facts x j (h j l)))

end-bad : (t : Fact) (x : List ℕ) (n : ℕ) → ((line_at x (n - 1)).fact ≡ t → ⊥) → end_answer t x n ≡ Refused End n
unfolding end_answer
end-bad t x n bad = by_cases (same (line_at x (n - 1)).fact t) (λ e. absurd (bad (same-eq (line_at x (n - 1)).fact t (T_of _ e)))) (λ e. rw e)

size-bad : (b : List ℕ) (facts : List Fact) (t : Fact) (x : List ℕ) → SoundTable b facts → T (well_formed t) → ((n : ℕ) → Lines x n → ⊥) → check_answer b t x ≡ Refused Form 0
unfolding check_answer table_answer fact_answer derivation_answer
size-bad b facts t x s w torn =
    by_cases (ltb 0 (length x) && sized 31 63457 (length x))
    (λ y. absurd (torn (length x / 31) (size-lines x y)))
    (λ y. rw ((sound-table b facts).1 s, (fault-none t).1 w, y))

-- a scan of the lines stops at line i
stops_at : (judge : ℕ → Verdict) (n i : ℕ) (r : Refusal) → i < n → ((j : ℕ) → j < i → judge j ≡ Sound) → judge i ≡ Faulty r → scan judge 0 n ≡ Stops r (suc i)
stops_at judge n i r h before bad = (scan-stopped judge n r (suc i)).1 (record { line = i; counted = refl; within = h; sound = before; refuses = bad })

check-is : {b : List ℕ} {t : Fact} {x : List ℕ} {r : Refusal} {place : ℕ} → CheckRefused b t x r place → check_answer b t x ≡ Refused r place
check-is {b} {t} {x} {r} {place} (refusals.by-table z) = unfold check_answer table_answer in (rw ((table-refused b r place).1 z))
check-is {b} {t} {x} {r} (refusals.by-fact {facts} s z) = unfold check_answer table_answer fact_answer in (rw ((sound-table b facts).1 s, (fact-refused t r).1 z))
check-is {b} {t} {x} (refusals.by_size {facts} s w torn) = size-bad b facts t x s w torn
check-is {b} {t} {x} (refusals.by_form {facts} {n} {i} s w l h before bad) =
    lines-checked b facts t x n s w l ∙ unfold lines_answer after in (rw (stops_at (form_verdict x) n i Form h (λ j k. form-sound x j (before j k)) (form-bad x i bad)))
check-is {b} {t} {x} (refusals.by-step {facts} {n} {i} s w l h laid before bad) =
    lines-checked b facts t x n s w l
    ∙ unfold lines_answer after in (rw (forms-pass x n laid, stops_at (step_verdict facts x) n i Step h (λ j k. step-sound facts x j (before j k)) (step-bad facts x i bad)))
check-is {b} {t} {x} (refusals.by_end {facts} {n} s w l laid steps bad) =
    lines-checked b facts t x n s w l ∙ unfold lines_answer after in (rw (forms-pass x n laid, steps-pass facts x n steps) (end-bad t x n bad))

pub check-refused : (b : List ℕ) (t : Fact) (x : List ℕ) (r : Refusal) (place : ℕ) → check_answer b t x ≡ Refused r place ↔ CheckRefused b t x r place
check-refused b t x r place = (unfold check_answer in check-says b t x (table_of b) r place refl, check-is)
