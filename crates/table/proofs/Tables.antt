-- What tables are accepted, which refusal the others get, and that reading and writing undo one another.
-- Assumes nothing.
use Rattle.std.specs.Prelude.{Err}
use mathlib.Core.Path.{◌≡◌, refl, sym, ap, ◌∙◌}
use mathlib.Core.Logic.{◌↔◌, ◌⊎◌, inl, inr, ⊎_elim}
use mathlib.Core.Bool.{Bool, true, false, cond}
use mathlib.Core.List.Memᴰ
use mathlib.Core.List.{List, [], ◌∷◌, ◌++◌, Memᴰ}
use Prim.Native.Nat.{ℕ, zero, suc, ◌+◌, ◌*◌, ◌/◌, ◌≤◌, ◌<◌}
use native.Mathlib.Omega.{arith}
use native.Mathlib.Nat.{add-zero, zero-add, div-le_of_le-mul}
use lib.ListN.{length, get_or, drop, drop_of_length-le, take-append-drop, get_or-append}
use lib.Seq.{drop-drop}
use lib.Dec.{T}
use Rattle.columns.specs.Lines.{laid_out, numbers_at, Below, flat, items_from}
use Rattle.columns.proofs.Lists.{flat-at, items-length, items_at, items-listed, lines-written, line-placed}
use Rattle.facts.proofs.Results.{same_parts, same_refused}
use Rattle.facts.specs.declared.Fact.{Fact}
use Rattle.facts.specs.declared.Refusal.{Refusal}
use Rattle.facts.specs.declared.Refusal.TheVariants.{Size}
use Rattle.facts.specs.Results.{Verdict, Sound, Faulty}
use Rattle.facts.specs.Facts.{fact, well_formed}
use Rattle.facts.proofs.Terms.{by_cases}
use Rattle.facts.proofs.Facts.{fact-eq, terms-within}
use Rattle.table.specs.Results.{Scan, Passes, Stops}
use Rattle.table.specs.Scans.{earns, tried, first_earned, First, onward, scan}
use Rattle.table.specs.Tables as tables
use Rattle.table.specs.Tables.{terms, row_of, table_bytes, line_fact, row_fact, accepted, refused, sized, meant, line_verdict, table_scan, table_of, row_verdict, row_scan, table_of_row, all_formed}
use Rattle.table.proofs.Rows.{row-length, bytes-length, sized-fits, sized-says, loaded-all, loaded-accepted, passes-size, accepted-scan, accepted-size, row-scan, row-size, row-facts, row-part}
use Rattle.table.proofs.Lists.{passes-says, says-passes, formed-at}

-- ---- lines of bytes

numbers-terms : (b : List ℕ) (i : ℕ) → numbers_at 3 b (16 * i) ≡ terms (line_fact b i)
unfolding numbers_at line_fact
numbers-terms b i = let e : 16 * i + 5 + 5 ≡ 16 * i + 10 = omega arith in rw e

-- a well-formed fact's terms have at most five digits
pub terms-below : (f : Fact) → T (well_formed f) → Below (terms f)
terms-below f w = let t = terms-within f w in (omega arith, (omega arith, (omega arith, tt)))

-- and so have those of a row of well-formed facts
pub row_below : (row : List ℕ) (n i : ℕ) → T (all_formed (items_from (row_fact row) 0 n)) → i < n → Below (terms (row_fact row i))
row_below row n i formed h =
    let w = formed-at (items_from (row_fact row) 0 n) i (fact 0 0 0) formed (rw items-length h) in
    terms-below (row_fact row i) (rw (items_at (row_fact row) 0 n i (fact 0 0 0) h, zero-add) at w)

-- the line of a fact in its place is laid out, and says that fact
fact-placed : (facts : List Fact) (d : Fact) → T (all_formed facts) → (i : ℕ) → i < length facts
    → (laid_out 3 (table_bytes facts) (16 * i) ≡ true) × (line_fact (table_bytes facts) i ≡ get_or facts i d)
fact-placed facts d formed i h =
    let f = get_or facts i d in
    let p = line-placed 3 terms (λ f. refl) facts i d h (terms-below f (formed-at facts i d formed h)) in
    let t : terms (line_fact (table_bytes facts) i) ≡ terms f = sym (numbers-terms (table_bytes facts) i) ∙ p.1 in
    (p.0, fact-eq (line_fact (table_bytes facts) i) f (cc) (cc) (cc))

-- the fact of a row in its place
row-placed : (facts : List Fact) (d : Fact) (i : ℕ) → i < length facts → row_fact (row_of facts) i ≡ get_or facts i d
row-placed facts d i h =
    let f = get_or facts i d in
    let e = flat-at terms 3 (λ f. refl) facts i d h in
    let t : terms (row_fact (row_of facts) i) ≡ terms f = sym (row-part (row_of facts) i (rw row-length (omega arith))) ∙ rw e in
    fact-eq (row_fact (row_of facts) i) f (cc) (cc) (cc)

-- from its place i on a row is that of its facts
rows-numbers : (row : List ℕ) (n m i : ℕ) → length row ≡ 3 * n → i + m ≡ n → drop (3 * i) row ≡ row_of (items_from (row_fact row) i m)
unfolding flat items_from
rows-numbers row n zero i e h = let l : length row ≤ 3 * i = omega arith in drop_of_length-le row l
rows-numbers row n (suc m) i e h =
    let s : 3 * i + 3 ≡ 3 * suc i = omega arith in
    sym (take-append-drop 3 (drop (3 * i) row)) ∙ rw (row-part row i (omega arith), drop-drop 3 (3 * i) row, s, rows-numbers row n m (suc i) e (omega arith))

-- ---- accepted tables

accepted-says : (b : List ℕ) (facts : List Fact) → table_of b ≡ accepted facts → (b ≡ table_bytes facts) × tables.TableFacts facts
unfolding table_scan line_verdict
accepted-says b facts e =
    let size = accepted-size b facts e in
    let p = passes-size 16 16384 (length b) (line_verdict b) (length facts) (accepted-scan b facts e) in
    let all : items_from (line_fact b) 0 (length facts) ≡ facts = sym (loaded-all b (length facts) (accepted-scan b facts e)) ∙ loaded-accepted b facts e in
    let s = passes-says (λ i. laid_out 3 b (16 * i)) (line_fact b) (length facts) (length facts) (rw (← p.2) at p.3) in (
      lines-written 3 terms b (line_fact b) (numbers-terms b) (length facts) (length facts) 0 size.0 (zero-add (length facts)) s.0 ∙ rw all,
      record { formed = rw all at s.1; ascends = rw all at s.2; few = size.1 },
    )

accepted-is : (facts : List Fact) → tables.TableFacts facts → table_of (table_bytes facts) ≡ accepted facts
unfolding table_of table_scan line_verdict meant
accepted-is facts s =
    let b = table_bytes facts in
    let n : length b / 16 ≡ length facts = omega (arith, bytes-length facts) in
    let p = says-passes (λ i. laid_out 3 b (16 * i)) (line_fact b) facts (fact 0 0 0) s.formed s.ascends (fact-placed facts (fact 0 0 0) s.formed) in
    rw (sized-fits 16 16384 (length b) (omega (arith, bytes-length facts)) (omega (arith, bytes-length facts, s.few)), n, p.0) (ap accepted p.1)

-- the bytes are the table of these facts exactly where they are the facts' lines, and the facts are well-formed, strictly ascending and
-- at most 1,024
pub table_of-accepted : (b : List ℕ) (facts : List Fact) → table_of b ≡ accepted facts ↔ ((b ≡ table_bytes facts) × tables.TableFacts facts)
table_of-accepted b facts = (accepted-says b facts, λ h. rw h.0 (accepted-is facts h.1))

row-says : (row : List ℕ) (facts : List Fact) → table_of_row row ≡ accepted facts → (row ≡ row_of facts) × tables.TableFacts facts
unfolding row_scan row_verdict
row-says row facts e =
    let size = row-size row facts e in
    let p = passes-size 3 3072 (length row) (row_verdict row) (length facts) (row-scan row facts e) in
    let all = row-facts row facts e in
    let s = passes-says (λ i. true) (row_fact row) (length facts) (length facts) (rw (← p.2) at p.3) in (
      rows-numbers row (length facts) (length facts) 0 size.0 (zero-add (length facts)) ∙ rw all,
      record { formed = rw all at s.1; ascends = rw all at s.2; few = size.1 },
    )

row_is : (facts : List Fact) → tables.TableFacts facts → table_of_row (row_of facts) ≡ accepted facts
unfolding table_of_row row_scan row_verdict meant
row_is facts s =
    let row = row_of facts in
    let n : length row / 3 ≡ length facts = omega (arith, row-length facts) in
    let p = says-passes (λ i. true) (row_fact row) facts (fact 0 0 0) s.formed s.ascends (λ i h. (refl, row-placed facts (fact 0 0 0) i h)) in
    rw (sized-fits 3 3072 (length row) (omega (arith, row-length facts)) (omega (arith, row-length facts, s.few)), n, p.0) (ap accepted p.1)

-- the same of a row to write
pub table_of_row-accepted : (row : List ℕ) (facts : List Fact) → table_of_row row ≡ accepted facts ↔ ((row ≡ row_of facts) × tables.TableFacts facts)
table_of_row-accepted row facts = (row-says row facts, λ h. rw h.0 (row_is facts h.1))

-- the terms of an accepted table fit 16 bits
pub accepted-terms : (b : List ℕ) (facts : List Fact) (d : Fact) (i : ℕ) → table_of b ≡ accepted facts → i < length facts
    → ((get_or facts i d).subject ≤ 65535) × ((get_or facts i d).predicate ≤ 65535) × ((get_or facts i d).object ≤ 65535)
accepted-terms b facts d i e h = terms-within (get_or facts i d) (formed-at facts i d (accepted-says b facts e).1.formed h)

-- the empty table is a table
pub empty-table : table_of [] ≡ accepted []
unfolding table_of table_scan meant sized scan items_from
empty-table = refl

-- a table that is read and written again has the same bytes
pub read-write : (b : List ℕ) (facts : List Fact) → table_of b ≡ accepted facts → (table_of_row (row_of facts) ≡ accepted facts) × (table_bytes facts ≡ b)
read-write b facts e = let s = accepted-says b facts e in (row_is facts s.1, sym s.0)

-- a row that is written and read again has the same numbers
pub write_read : (row : List ℕ) (facts : List Fact) → table_of_row row ≡ accepted facts → (table_of (table_bytes facts) ≡ accepted facts) × (row_of facts ≡ row)
write_read row facts e = let s = row-says row facts e in (accepted-is facts s.1, sym s.0)

-- ---- refused tables

first_says : (e : Refusal → Bool) (rs : List Refusal) (r : Refusal) → first_earned e rs ≡ Faulty r → First e rs r
unfolding first_earned
first_says e [] r p = let z : ◌≡◌ {A = ℕ} 0 1 = cc in absurd (omega arith)
first_says e (q ∷ rs) r p =
    let later = first_says e rs r in
    by_cases (e q)
    (λ t. let f : Faulty q ≡ Faulty r = rw t at p in let g : q ≡ r = cc in record { before = []; behind = rs; place = rw g; not-before = λ x m. absurd (Memᴰ.not-nil m); here = rw (← g) t })
    (λ t. let l = later (rw t at p) in
    record {
      before = q ∷ l.before;
      behind = l.behind;
      place = ap (λ l. q ∷ l) l.place;
      not-before = λ x m. ⊎_elim (λ (y : x ≡ q). rw y t) (λ y. l.not-before x y) (Memᴰ.cases_cons m);
      here = l.here;
    })

first-is : (e : Refusal → Bool) (r : Refusal) (before behind : List Refusal) → ((q : Refusal) → Memᴰ q before → e q ≡ false) → e r ≡ true → first_earned e (before ++ (r ∷ behind)) ≡ Faulty r
unfolding first_earned
first-is e r [] behind n h = rw h
first-is e r (q ∷ before) behind n h = rw (n q (Memᴰ.head refl)) (first-is e r before behind (λ x m. n x (Memᴰ.tail m)) h)

-- nothing is found exactly where none of them is earned
none-says : (e : Refusal → Bool) (rs : List Refusal) → first_earned e rs ≡ Sound → (q : Refusal) → Memᴰ q rs → e q ≡ false
unfolding first_earned
none-says e [] p q m = absurd (Memᴰ.not-nil m)
none-says e (r ∷ rs) p q m =
    by_cases (e r)
    (λ t. let f : Faulty r ≡ Sound = rw t at p in let z : ◌≡◌ {A = ℕ} 0 1 = cc in absurd (omega arith))
    (λ t. ⊎_elim (λ (y : q ≡ r). rw y t) (λ y. none-says e rs (rw t at p) q y) (Memᴰ.cases_cons m))

none_is : (e : Refusal → Bool) (rs : List Refusal) → ((q : Refusal) → Memᴰ q rs → e q ≡ false) → first_earned e rs ≡ Sound
unfolding first_earned
none_is e [] n = refl
none_is e (r ∷ rs) n = rw (n r (Memᴰ.head refl)) (none_is e rs (λ q m. n q (Memᴰ.tail m)))

pub none-earned : (e : Refusal → Bool) (rs : List Refusal) → first_earned e rs ≡ Sound ↔ ((q : Refusal) → Memᴰ q rs → e q ≡ false)
none-earned e rs = (none-says e rs, none_is e rs)

-- one of them is found exactly where it is the first that is earned
pub first-earned : (e : Refusal → Bool) (rs : List Refusal) (r : Refusal) → first_earned e rs ≡ Faulty r ↔ First e rs r
first-earned e rs r = (first_says e rs r, λ f. rw f.place (first-is e r f.before f.behind f.not-before f.here))

-- a line is refused by the first of 2, 3, 4, 5, 12, 6 that it earns, in that order
pub line_refused : (b : List ℕ) (i : ℕ) (r : Refusal) → line_verdict b i ≡ Faulty r ↔ First (earns (laid_out 3 b (16 * i)) (line_fact b) i) tried r
unfolding line_verdict
line_refused b i r = first-earned _ tried r

-- line i, counted from 0, of n is the first that a judgement refuses
pub record Stopped (judge : ℕ → Verdict) (n : ℕ) (r : Refusal) (place : ℕ) : Type 0 where
  pub line : ℕ
  pub counted : place ≡ suc line
  pub within : line < n
  pub sound : (j : ℕ) → j < line → judge j ≡ Sound
  pub refuses : judge line ≡ Faulty r

-- line k from i on is the first that is refused
abbrev StopsAt : (ℕ → Verdict) → ℕ → ℕ → Refusal → ℕ → Type 0
StopsAt judge n i r place = (k : ℕ) × (place ≡ suc (i + k)) × (k < n) × ((j : ℕ) → j < k → judge (i + j) ≡ Sound) × (judge (i + k) ≡ Faulty r)

sound-before : (judge : ℕ → Verdict) (i k : ℕ) → judge i ≡ Sound → ((j : ℕ) → j < k → judge (suc i + j) ≡ Sound) → (j : ℕ) → j < suc k → judge (i + j) ≡ Sound
sound-before judge i k p h zero l = rw add-zero p
sound-before judge i k p h (suc j) l = let t : i + suc j ≡ suc i + j = omega arith in rw t (h j (omega arith))

further : (judge : ℕ → Verdict) (n i : ℕ) (r : Refusal) (place : ℕ) → judge i ≡ Sound → StopsAt judge n (suc i) r place → StopsAt judge (suc n) i r place
further judge n i r place p w =
    let t : suc i + w.0 ≡ i + suc w.0 = omega arith in
    (suc w.0, w.1 ∙ ap suc t, omega arith, sound-before judge i w.0 p w.3, rw t at w.4)

stops-says : (judge : ℕ → Verdict) (n i : ℕ) (r : Refusal) (place : ℕ) → scan judge i n ≡ Stops r place
    → StopsAt judge n i r place
unfolding scan onward
stops-says judge zero i r place e = let z : ◌≡◌ {A = ℕ} 0 1 = cc in absurd (omega arith)
stops-says judge (suc n) i r place e = go (judge i) refl (stops-says judge n (suc i) r place)
  where
    go : (v : Verdict) → judge i ≡ v → (scan judge (suc i) n ≡ Stops r place → StopsAt judge n (suc i) r place) → StopsAt judge (suc n) i r place
    go (Faulty q) p rest =
        let s : Stops q (suc i) ≡ Stops r place = rw p at e in
        let parts = same_parts s in
        let g : q ≡ r = parts.0 in
        let h : suc i ≡ place = parts.1 in
        (0, rw add-zero (sym h), omega arith, (λ j l. absurd (omega arith)), rw (add-zero, ← g) p)
    go Sound p rest = further judge n i r place p (rest (rw p at e))

stops-is : (judge : ℕ → Verdict) (n i k : ℕ) (r : Refusal) → k < n → ((j : ℕ) → j < k → judge (i + j) ≡ Sound) → judge (i + k) ≡ Faulty r → scan judge i n ≡ Stops r (suc (i + k))
unfolding scan onward
stops-is judge zero i k r h s e = absurd (omega arith)
stops-is judge (suc n) i zero r h s e = rw (rw add-zero at e, add-zero)
stops-is judge (suc n) i (suc k) r h s e =
    let t : i + suc k ≡ suc i + k = omega arith in
    rw (rw add-zero at (s 0 (omega arith)), t)
    (stops-is judge n (suc i) k r (omega arith) (λ j l. let u : suc i + j ≡ i + suc j = omega arith in rw u (s (suc j) (omega arith))) (rw t at e))

-- a scan stops exactly at the first line that is refused
pub scan-stopped : (judge : ℕ → Verdict) (n : ℕ) (r : Refusal) (place : ℕ) → scan judge 0 n ≡ Stops r place ↔ Stopped judge n r place
scan-stopped judge n r place = (
  λ e. let w = stops-says judge n 0 r place e in
      record { line = w.0; counted = w.1 ∙ ap suc (zero-add w.0); within = w.2; sound = λ j h. rw zero-add at (w.3 j h); refuses = rw zero-add at w.4 },
  λ s. stops-is judge n 0 s.line r s.within (λ j h. rw zero-add (s.sound j h)) (rw zero-add s.refuses) ∙ rw (zero-add, s.counted),
)

meant-refused : (at : ℕ → Fact) (s : Scan) (r : Refusal) (place : ℕ) → meant at s ≡ refused r place ↔ (s ≡ Stops r place)
unfolding meant
meant-refused at (Passes n) r place = (λ e. let z : ◌≡◌ {A = ℕ} 0 1 = cc in absurd (omega arith), λ e. let z : ◌≡◌ {A = ℕ} 0 1 = cc in absurd (omega arith))
meant-refused at (Err stop) r place = (
  λ e. let f : stop.refusal ≡ r = cc in let g : stop.place ≡ place = cc in same_refused f g,
  λ e. let parts = same_parts e in let f = parts.0 in let g = parts.1 in cc,
)

-- refused for its size, or at the first line that earns a refusal
abbrev pub Refusable : Bool → (ℕ → Verdict) → ℕ → Refusal → ℕ → Type 0
Refusable fits judge n r place = ((fits ≡ false) × (r ≡ Size) × (place ≡ 0)) ⊎ ((fits ≡ true) × Stopped judge n r place)

refused-by : (fits : Bool) (judge : ℕ → Verdict) (n : ℕ) (r : Refusal) (place : ℕ) → cond fits (scan judge 0 n) (Stops Size 0) ≡ Stops r place ↔ Refusable fits judge n r place
refused-by true judge n r place = (
  λ e. inr (refl, (scan-stopped judge n r place).0 e),
  ⊎_elim (λ (h : (true ≡ false) × (r ≡ Size) × (place ≡ 0)). let z : ◌≡◌ {A = ℕ} 0 1 = cc h.0 in absurd (omega arith)) (λ (h : (true ≡ true) × Stopped judge n r place). (scan-stopped judge n r place).1 h.1),
)
refused-by false judge n r place = (
  λ e. let parts = same_parts e in inl (refl, sym parts.0, sym parts.1),
  ⊎_elim (λ (h : (false ≡ false) × (r ≡ Size) × (place ≡ 0)). rw (h.1, h.2)) (λ (h : (false ≡ true) × Stopped judge n r place). let z : ◌≡◌ {A = ℕ} 0 1 = cc h.0 in absurd (omega arith)),
)

-- a table is refused for its size, place 0, or else at the first line that earns one of 2, 3, 4, 5, 12, 6
pub table_of-refused : (b : List ℕ) (r : Refusal) (place : ℕ) → table_of b ≡ refused r place ↔ Refusable (sized 16 16384 (length b)) (line_verdict b) (length b / 16) r place
unfolding table_of table_scan
table_of-refused b r place =
    let m = meant-refused (line_fact b) (table_scan b) r place in
    let s = refused-by (sized 16 16384 (length b)) (line_verdict b) (length b / 16) r place in
    (λ e. s.0 (m.0 e), λ h. m.1 (s.1 h))

-- the same of a row to write, without 2
pub table_of_row-refused : (row : List ℕ) (r : Refusal) (place : ℕ) → table_of_row row ≡ refused r place ↔ Refusable (sized 3 3072 (length row)) (row_verdict row) (length row / 3) r place
unfolding table_of_row row_scan
table_of_row-refused row r place =
    let m = meant-refused (row_fact row) (row_scan row) r place in
    let s = refused-by (sized 3 3072 (length row)) (row_verdict row) (length row / 3) r place in
    (λ e. s.0 (m.0 e), λ h. m.1 (s.1 h))

-- a refusal's place is 0 or the number of one of at most 1,024 lines
place-few : (k size : ℕ) (judge : ℕ → Verdict) (r : Refusal) (place : ℕ) → Refusable (sized k (k * 1024) size) judge (size / k) r place → place ≤ 1024
place-few k size judge r place =
    ⊎_elim (λ (p : (sized k (k * 1024) size ≡ false) × (r ≡ Size) × (place ≡ 0)). omega (arith, p.2))
    (λ (p : (sized k (k * 1024) size ≡ true) × Stopped judge (size / k) r place).
    omega (arith, div-le_of_le-mul k (sized-says k (k * 1024) size p.0).1, p.1.counted, p.1.within))

pub table-place : (b : List ℕ) (r : Refusal) (place : ℕ) → table_of b ≡ refused r place → place ≤ 1024
table-place b r place e = place-few 16 (length b) (line_verdict b) r place ((table_of-refused b r place).0 e)

pub row-place : (row : List ℕ) (r : Refusal) (place : ℕ) → table_of_row row ≡ refused r place → place ≤ 1024
row-place row r place e = place-few 3 (length row) (row_verdict row) r place ((table_of_row-refused row r place).0 e)

-- ---- a row into which facts were put

-- what stands behind the facts' numbers does not count
row-front : (row rest : List ℕ) (i : ℕ) → 3 * i + 3 ≤ length row → row_fact (row ++ rest) i ≡ row_fact row i
unfolding row_fact
row-front row rest i h =
    let inside : (k : ℕ) → k < 3 * i + 3 → get_or (row ++ rest) k 0 ≡ get_or row k 0 = λ k l. get_or-append row rest 0 k (omega arith) in
    rw (inside (3 * i) (omega arith), inside (3 * i + 1) (omega arith), inside (3 * i + 2) (omega arith))

pub row_at : (facts : List Fact) (rest : List ℕ) (d : Fact) (i : ℕ) → i < length facts → row_fact (row_of facts ++ rest) i ≡ get_or facts i d
row_at facts rest d i h = row-front (row_of facts) rest i (rw row-length (omega arith)) ∙ row-placed facts d i h

pub row-items : (facts : List Fact) (rest : List ℕ) → items_from (row_fact (row_of facts ++ rest)) 0 (length facts) ≡ facts
row-items facts rest = items-listed (row_fact (row_of facts ++ rest)) facts 0 (fact 0 0 0) (λ j h. rw zero-add (row_at facts rest (fact 0 0 0) j h))
