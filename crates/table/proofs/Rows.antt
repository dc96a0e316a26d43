-- Laws of facts as rows and bytes, and of what a scan of them means.
-- Assumes nothing.
use Rattle.std.specs.Prelude.{Ok, Err}
use mathlib.Core.Path.{◌≡◌, refl, sym, ap, ◌∙◌}
use mathlib.Core.Bool.{true, false, cond}
use mathlib.Core.List.{List}
use Prim.Native.Nat.{ℕ, zero, suc, ◌+◌, ◌-◌, ◌*◌, ◌/◌, ◌%◌, ◌≤◌, ◌<◌}
use lib.Dec.{eqb, leb}
use borrow.Author.Tests.{eq-eqb, ne_eqb, le-leb, lt-leb, eqb-true, leb-true}
use Rattle.facts.proofs.Terms.{by_cases}
use native.Mathlib.Omega.{arith}
use native.Mathlib.Nat.{zero-add}
use native.Mathlib.Numerals.{towards_suc}
use lib.ListN.{length, take, drop, set, length-append, length-drop}
use lib.Seq.{drop-cons, take_at}
use Rattle.columns.specs.Lines.{over, items_from}
use Rattle.columns.proofs.Fields.{both}
use Rattle.columns.proofs.Lines.{line-length}
use Rattle.columns.proofs.Lists.{flat-length, items-length, items_put}
use Rattle.facts.proofs.Results.{same_parts}
use Rattle.facts.specs.declared.Fact.{Fact}
use Rattle.facts.specs.declared.Refusal.{Refusal}
use Rattle.facts.specs.declared.Refusal.TheVariants.{Size, Short}
use Rattle.facts.specs.Results.{Done, Refused, Verdict, Sound, Faulty}
use Rattle.table.specs.Results.{Scan, Passes, Stops}
use Rattle.table.specs.Judged.{counted}
use Rattle.table.specs.Scans.{onward, scan}
use Rattle.table.specs.Tables.{over_facts, line_verdict, row_verdict, terms, row_of, line_of, table_bytes, line_fact, row_fact, Table, accepted, refused, sized, meant, table_scan, table_of, row_scan, table_of_row, settled, filled, scan_of, passed, loaded}

-- ---- rows and bytes

pub row-length : (fs : List Fact) → length (row_of fs) ≡ 3 * length fs
row-length = flat-length terms 3 (λ f. refl)

pub bytes-length : (fs : List Fact) → length (table_bytes fs) ≡ 16 * length fs
bytes-length = flat-length line_of 16 (λ f. line-length (terms f))

-- ---- facts over the front of a list of them

pub over_facts-length : (new old : List Fact) → length new ≤ length old → length (over_facts new old) ≡ length old
over_facts-length new old h = simp (length-append, length-drop) (omega arith)

-- one fact more
pub over_facts-more : (at : ℕ → Fact) (old : List Fact) (i : ℕ) → i < length old → set (over_facts (items_from at 0 i) old) i (at i) ≡ over_facts (items_from at 0 (suc i)) old
over_facts-more at old i h = rw (items-length at 0 (suc i), items-length at 0 i) (items_put at old i h)

-- ---- sizes

pub sized-torn : (k most size : ℕ) → (size % k ≡ 0 → ⊥) → sized k most size ≡ false
unfolding sized
sized-torn k most size h = rw (ne_eqb (size % k) 0 h)

pub sized-large : (k most size : ℕ) → most < size → sized k most size ≡ false
unfolding sized
sized-large k most size h = by_cases (eqb (size % k) 0) (λ e. rw (e, lt-leb size most h)) (λ e. rw e)

pub sized-fits : (k most size : ℕ) → size % k ≡ 0 → size ≤ most → sized k most size ≡ true
unfolding sized
sized-fits k most size e h = rw (eq-eqb (size % k) 0 e, le-leb size most h)

pub sized-says : (k most size : ℕ) → sized k most size ≡ true → (size % k ≡ 0) × (size ≤ most)
unfolding sized
sized-says k most size e = let b = both (eqb (size % k) 0) (leb size most) e in (eqb-true _ _ b.0, leb-true _ _ b.1)

-- what a size counts
pub counted-torn : (k most size : ℕ) {r : Refusal} → Err r ≡ counted k most size → (sized k most size ≡ false) × (r ≡ Size)
unfolding counted
counted-torn k most size {r} e =
    by_cases (sized k most size)
    (λ t. let z : Err r ≡ Ok (size / k) = rw t at e in absurd (cc))
    (λ t. let z : Err r ≡ Err Size = rw t at e in (t, cc))

pub counted-fits : (k most size : ℕ) {n : ℕ} → Ok n ≡ counted k most size → (sized k most size ≡ true) × (n ≡ size / k)
unfolding counted
counted-fits k most size {n} e =
    by_cases (sized k most size)
    (λ t. let z : Ok n ≡ Ok (size / k) = rw t at e in (t, cc))
    (λ t. let z : Ok n ≡ Err Size = rw t at e in absurd (cc))

-- ---- scans

pub scan-meant : (at : ℕ → Fact) (s : Scan) → scan_of (meant at s) ≡ s
unfolding scan_of meant
scan-meant at (Passes n) = ap Passes (items-length at 0 n)
scan-meant at (Err stop) = refl

pub scan-table : (b : List ℕ) → scan_of (table_of b) ≡ table_scan b
unfolding table_of
scan-table b = scan-meant (line_fact b) (table_scan b)

pub scan-row : (row : List ℕ) → scan_of (table_of_row row) ≡ row_scan row
unfolding table_of_row
scan-row row = scan-meant (row_fact row) (row_scan row)

-- the facts that are loaded, by where the scan ends
pub loaded-none : (b : List ℕ) (r : Refusal) → table_scan b ≡ Stops r 0 → (facts : List Fact) → facts ≡ over_facts (loaded b) facts
unfolding loaded passed items_from
loaded-none b r e facts = rw e

pub loaded-stop : (b : List ℕ) (r : Refusal) (i : ℕ) → table_scan b ≡ Stops r (i + 1) → loaded b ≡ items_from (line_fact b) 0 i
unfolding loaded passed
loaded-stop b r i e = let n : i + 1 - 1 ≡ i = omega arith in rw (e, n)

pub loaded-all : (b : List ℕ) (n : ℕ) → table_scan b ≡ Passes n → loaded b ≡ items_from (line_fact b) 0 n
unfolding loaded passed
loaded-all b n e = rw e

-- where the table is accepted, all its facts are loaded
pub loaded-accepted : (b : List ℕ) (facts : List Fact) → table_of b ≡ accepted facts → loaded b ≡ facts
unfolding table_of
loaded-accepted b facts e = go (table_scan b) refl
  where
    go : (s : Scan) → table_scan b ≡ s → loaded b ≡ facts
    go (Passes n) p = loaded-all b n p ∙ unfold meant in (let q : meant (line_fact b) (Passes n) ≡ accepted facts = rw p at e in cc)
    go (Err stop) p = unfold meant in (let q : meant (line_fact b) (Stops stop.refusal stop.place) ≡ accepted facts = rw p at e in let z : ◌≡◌ {A = ℕ} 0 1 = cc in absurd (omega arith))

-- ---- what an end of a scan says of the table

pub scan-stops : (t : Table) (r : Refusal) (place : ℕ) → scan_of t ≡ Stops r place → t ≡ refused r place
unfolding scan_of
scan-stops (accepted facts) r place e = let z : ◌≡◌ {A = ℕ} 0 1 = cc in absurd (omega arith)
scan-stops (refused r' place') r place e = let parts = same_parts e in let f = parts.0 in let g = parts.1 in cc

pub scan-passes : (t : Table) (n : ℕ) → scan_of t ≡ Passes n → (facts : List Fact) × (t ≡ accepted facts) × (length facts ≡ n)
unfolding scan_of
scan-passes (accepted facts) n e = (facts, refl, cc)
scan-passes (refused r place) n e = let z : ◌≡◌ {A = ℕ} 0 1 = cc in absurd (omega arith)

scan-count : (judge : ℕ → Verdict) (n i m : ℕ) → scan judge i n ≡ Passes m → m ≡ i + n
unfolding scan onward
scan-count judge zero i m e = let z : i ≡ m = cc in omega arith
scan-count judge (suc n) i m e = go (judge i) refl (scan-count judge n (suc i) m)
  where
    go : (v : Verdict) → judge i ≡ v → (scan judge (suc i) n ≡ Passes m → m ≡ suc i + n) → m ≡ i + suc n
    go Sound p rest = let r : scan judge (suc i) n ≡ Passes m = rw p at e in omega (arith, rest r)
    go (Faulty r) p rest = let q : Stops r (suc i) ≡ Passes m = rw p at e in let z : ◌≡◌ {A = ℕ} 0 1 = cc in absurd (omega arith)

-- what passes has the right size, and as many facts as that allows
pub passes-size : (k most size : ℕ) (judge : ℕ → Verdict) (m : ℕ) → cond (sized k most size) (scan judge 0 (size / k)) (Stops Size 0) ≡ Passes m
    → (size % k ≡ 0) × (size ≤ most) × (m ≡ size / k) × (scan judge 0 (size / k) ≡ Passes m)
passes-size k most size judge m e =
    by_cases (sized k most size)
    (λ a. let s : scan judge 0 (size / k) ≡ Passes m = rw a at e in
    let fits = sized-says k most size a in
    (fits.0, fits.1, scan-count judge (size / k) 0 m s ∙ zero-add (size / k), s))
    (λ a. let q : Stops Size 0 ≡ Passes m = rw a at e in let z : ◌≡◌ {A = ℕ} 0 1 = cc in absurd (omega arith))

-- an accepted table: its size, and its lines' scan
pub accepted-scan : (b : List ℕ) (facts : List Fact) → table_of b ≡ accepted facts → table_scan b ≡ Passes (length facts)
accepted-scan b facts e = sym (scan-table b) ∙ rw e (unfold scan_of in refl)

pub accepted-size : (b : List ℕ) (facts : List Fact) → table_of b ≡ accepted facts → (length b ≡ 16 * length facts) × (length facts ≤ 1024)
accepted-size b facts e = let p = passes-size 16 16384 (length b) (line_verdict b) (length facts) (unfold table_scan in accepted-scan b facts e) in omega arith

-- of an accepted table as many facts are loaded as it has, and they stand in front
pub passes-loaded : (b : List ℕ) (n : ℕ) (old memory : List Fact) → Passes n ≡ scan_of (table_of b) → memory ≡ over_facts (loaded b) old
    → (facts : List Fact) × (table_of b ≡ accepted facts) × (length facts ≡ n) × (n ≤ 1024) × (take n memory ≡ facts)
passes-loaded b n old memory e m =
    let p = scan-passes (table_of b) n (sym e) in
    (p.0, p.1, p.2, omega (arith, (accepted-size b p.0 p.1).1, p.2), rw (m, loaded-accepted b p.0 p.1) (take_at p.0 _ n p.2))

-- as many facts are loaded as lines are passed, and they stand in front of a memory that kept its length
pub passed-loaded : (b : List ℕ) (s : Scan) (n : ℕ) (old memory : List Fact) → s ≡ scan_of (table_of b) → n ≡ passed s → memory ≡ over_facts (loaded b) old → length memory ≡ length old
    → (n ≤ length memory) × (take n memory ≡ loaded b)
unfolding loaded
passed-loaded b s n old memory e k m l =
    let count : length (loaded b) ≡ n = items-length (line_fact b) 0 (passed (table_scan b)) ∙ ap passed (sym (scan-table b)) ∙ ap passed (sym e) ∙ sym k in
    let put : length memory ≡ length (loaded b) + (length old - length (loaded b)) = ap length m ∙ simp (length-append, length-drop) in
    (omega arith, rw m (take_at (loaded b) _ n count))

pub row-scan : (row : List ℕ) (facts : List Fact) → table_of_row row ≡ accepted facts → row_scan row ≡ Passes (length facts)
row-scan row facts e = sym (scan-row row) ∙ rw e (unfold scan_of in refl)

pub row-size : (row : List ℕ) (facts : List Fact) → table_of_row row ≡ accepted facts → (length row ≡ 3 * length facts) × (length facts ≤ 1024)
row-size row facts e = let p = passes-size 3 3072 (length row) (row_verdict row) (length facts) (unfold row_scan in row-scan row facts e) in omega arith

-- the facts of a row that is accepted
pub row-facts : (row : List ℕ) (facts : List Fact) → table_of_row row ≡ accepted facts → items_from (row_fact row) 0 (length facts) ≡ facts
unfolding table_of_row meant
row-facts row facts e = let q : accepted (items_from (row_fact row) 0 (length facts)) ≡ accepted facts = rw (row-scan row facts (unfold table_of_row in e)) at e in cc

-- the three numbers of a row's fact
pub row-part : (row : List ℕ) (i : ℕ) → 3 * i + 3 ≤ length row → take 3 (drop (3 * i) row) ≡ terms (row_fact row i)
unfolding row_fact
row-part row i h = rw (drop-cons row (3 * i) 0 (omega arith), drop-cons row (suc (3 * i)) 0 (omega arith), drop-cons row (suc (suc (3 * i))) 0 (omega arith)) (simp towards_suc)

-- ---- what reading and writing give and leave

module _ (content : List Fact → List ℕ) (t : Table) (old : List ℕ) where
  pub settle-refused : (r : Refusal) (place : ℕ) → t ≡ refused r place → (settled content t (length old) ≡ Refused r place) × (filled content t old ≡ old)
  unfolding settled filled
  settle-refused r place e = (rw e, rw e)

  pub settle-short : (facts : List Fact) → t ≡ accepted facts → length old < length (content facts)
      → (settled content t (length old) ≡ Refused Short 0) × (filled content t old ≡ old)
  unfolding settled filled
  settle-short facts e h = let z = lt-leb (length (content facts)) (length old) h in (rw (e, z), rw (e, z))

  pub settle-done : (facts : List Fact) → t ≡ accepted facts → length (content facts) ≤ length old
      → (settled content t (length old) ≡ Done (length facts)) × (filled content t old ≡ over (content facts) old)
  unfolding settled filled
  settle-done facts e h = let z = le-leb (length (content facts)) (length old) h in (rw (e, z), rw (e, z))
