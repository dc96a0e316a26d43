-- What an input comes to: its refusal, or the table of its facts, which is one that the reader accepts.
-- Assumes nothing.
use Rattle.std.specs.Prelude.{Err, None, Some, Ok}
use mathlib.Core.Path.{◌≡◌, refl, sym, ap, subst, ◌∙◌}
use mathlib.Core.Logic.{⊎_elim}
use mathlib.Core.List.Memᴰ
use mathlib.Core.List.{List, [], ◌∷◌, map, Memᴰ}
use Prim.Native.Nat.{ℕ, ◌*◌, ◌≤◌, ◌<◌}
use native.Mathlib.Omega.{arith}
use native.Mathlib.Decide.{dec_lt}
use lib.ListN.{length, take, drop}
use lib.Seq.{take-append_seam}
use lib.Dec.{T}
use mir.Facts.{yes_and}
use borrow.Author.Tests.{le-leb, lt-leb}
use Rattle.columns.specs.Lines.{over}
use Rattle.facts.specs.declared.Fact.{Fact}
use Rattle.facts.specs.declared.Refusal.{Refusal}
use Rattle.facts.specs.declared.Refusal.TheVariants as refusals
use Rattle.facts.specs.Results.{Verdict, Sound, Answer, Refused}
use Rattle.facts.specs.Facts.{well_formed, fault_of}
use Rattle.facts.proofs.Facts.{fault-none}
use Rattle.table.specs.Tables.{Table, accepted, refused, all_formed, ascending, TableFacts, row_of, table_bytes, table_of_row, Transfers}
use Rattle.table.proofs.Rows.{row-length, settle-refused}
use Rattle.table.proofs.Tables.{table_of_row-accepted}
use Rattle.ntriples.specs.Lexed.{Line, line_of}
use Rattle.gathering.specs.Keys.{fact_of_key, Holds}
use Rattle.gathering.proofs.Keys.{facts-back}
use Rattle.gathering.proofs.Gathered.{gathered-only, gathered-ascends}
use Rattle.imports.specs.Results.{Finding, Clear, Fault}
use Rattle.imports.specs.Lines.{lines_of, Statement, said_by, said, statements}
use Rattle.imports.specs.Import.{known_by, fact_of, facts_of, line_refusal, fact_refusal, first_on, judged_by, judged, tabled, import_of}
use Rattle.imports.specs.Collecting.{Collected}
use Rattle.imports.proofs.Findings.{both-clear, all-clear, FirstFault, judged-fault}
use Rattle.imports.proofs.Facts.{in_map}
use Rattle.imports.proofs.Lines.{lines-few}

-- ---- the facts

-- a statement stands on one of the lines
pub stands_on : (ls : List (List ℕ)) (s : Statement) → Memᴰ s (statements ls) → (l : List ℕ) × Memᴰ l ls × Memᴰ s (said l)
unfolding statements
stands_on [] s m = absurd (Memᴰ.not-nil m)
stands_on (l ∷ ls) s m =
    ⊎_elim (λ (n : Memᴰ s (said l)). (l, Memᴰ.head refl, n)) (λ (n : Memᴰ s (statements ls)). let r = stands_on ls s n in (r.0, Memᴰ.tail r.1, r.2))
    (Memᴰ.append_cases (said l) m)

-- a line has one statement at most, and it earns what the line does
said-sound : (f : Statement → Fact) (ss : List Statement) (s : Statement) → length ss ≤ 1 → fact_refusal f ss ≡ Sound → Memᴰ s ss → fault_of (f s) ≡ Sound
unfolding fact_refusal
said-sound f [] s h e m = absurd (Memᴰ.not-nil m)
said-sound f (u ∷ []) s h e m = ⊎_elim (λ (q : s ≡ u). rw q e) (λ (n : Memᴰ s []). absurd (Memᴰ.not-nil n)) (Memᴰ.cases_cons m)
said-sound f (u ∷ v ∷ ss) s h e m = absurd (omega arith)

one-said : (l : List ℕ) (v : Line) → length (said_by l v) ≤ 1
unfolding said_by
one-said l (Err e) = omega arith
one-said l (Ok None) = omega arith
one-said l (Ok (Some t)) = omega arith

all-formed : (fs : List Fact) → ((f : Fact) → Memᴰ f fs → T (well_formed f)) → T (all_formed fs)
unfolding all_formed
all-formed [] h = tt
all-formed (f ∷ fs) h = yes_and (well_formed f) (all_formed fs) (h f (Memᴰ.head refl)) (all-formed fs (λ g m. h g (Memᴰ.tail m)))

-- a fact of some statements is the fact of one of them
pub facts-only : (ss : List Statement) (f : Fact) → Memᴰ f (facts_of ss) → (s : Statement) × Memᴰ s ss × (f ≡ fact_of (known_by ss) s)
facts-only ss f m =
    ⊎_elim (λ (n : Memᴰ f []). absurd (Memᴰ.not-nil n)) (λ (n : Memᴰ f (map (fact_of (known_by ss)) ss)). in_map (fact_of (known_by ss)) ss f n) (gathered-only f [] (map (fact_of (known_by ss)) ss) m)

pub facts-ascend : (ss : List Statement) → T (ascending (facts_of ss))
unfolding ascending
facts-ascend ss = gathered-ascends [] (map (fact_of (known_by ss)) ss) tt

module _ (b : List ℕ) where
  ss : List Statement
  ss = statements (lines_of b)

  -- where nothing is found, the facts are well-formed
  clear-formed : judged (lines_of b) ≡ Clear → T (all_formed (facts_of ss))
  unfolding judged_by ss
  clear-formed e =
      let c = (both-clear (first_on (λ l. line_refusal (line_of l)) 0 (lines_of b)) (first_on (λ l. fact_refusal (fact_of (known_by ss)) (said l)) 0 (lines_of b)) e).1 in
      all-formed (facts_of ss) (λ f m.
      let s = facts-only ss f m in
      let o = stands_on (lines_of b) s.0 s.1 in
      let v : fact_refusal (fact_of (known_by ss)) (said o.0) ≡ Sound = all-clear (λ l. fact_refusal (fact_of (known_by ss)) (said l)) 0 (lines_of b) c o.0 o.1 in
      rw s.2 ((fault-none (fact_of (known_by ss) s.0)).0 (said-sound (fact_of (known_by ss)) (said o.0) s.0 (one-said o.0 (line_of o.0)) v o.2)))

  -- ---- what the input comes to

  pub import-large : 65536 < length b → import_of b ≡ refused refusals.Statement 0
  unfolding import_of
  import-large h = rw (lt-leb (length b) 65536 h) refl

  module _ (h : length b ≤ 65536) where
    import-small : import_of b ≡ tabled (judged (lines_of b)) (facts_of (statements (lines_of b)))
    unfolding import_of
    import-small = rw (le-leb (length b) 65536 h) refl

    pub import-fault : (r : Refusal) (place : ℕ) → judged (lines_of b) ≡ Fault r place → import_of b ≡ refused r place
    unfolding tabled
    import-fault r place e = import-small ∙ ap (λ (x : Finding). tabled x (facts_of (statements (lines_of b)))) e

    import-clear : judged (lines_of b) ≡ Clear → import_of b ≡ tabled Clear (facts_of (statements (lines_of b)))
    import-clear e = import-small ∙ ap (λ (x : Finding). tabled x (facts_of (statements (lines_of b)))) e

    pub import-crowd : judged (lines_of b) ≡ Clear → 1024 < length (facts_of (statements (lines_of b))) → import_of b ≡ refused refusals.Crowd 0
    unfolding tabled
    import-crowd e n = import-clear e ∙ rw (lt-leb (length (facts_of (statements (lines_of b)))) 1024 n) refl

    pub import-table : judged (lines_of b) ≡ Clear → length (facts_of (statements (lines_of b))) ≤ 1024
        → (import_of b ≡ accepted (facts_of (statements (lines_of b)))) × TableFacts (facts_of (statements (lines_of b)))
    unfolding tabled ss
    import-table e n =
        (import-clear e ∙ rw (le-leb (length (facts_of (statements (lines_of b)))) 1024 n) refl, record { formed = clear-formed e; ascends = facts-ascend (statements (lines_of b)); few = n })

-- ---- and what it comes from

-- why an input is refused
pub data Refusing (b : List ℕ) : Refusal → ℕ → Type 0 where
  large : 65536 < length b → Refusing b refusals.Statement 0
  fault : {r : Refusal} {place : ℕ} → length b ≤ 65536 → judged (lines_of b) ≡ Fault r place → Refusing b r place
  crowd : length b ≤ 65536 → judged (lines_of b) ≡ Clear → 1024 < length (facts_of (statements (lines_of b))) → Refusing b refusals.Crowd 0

-- why it is accepted
pub record Accepting (b : List ℕ) (fs : List Fact) : Type 0 where
  pub small : length b ≤ 65536
  pub clear : judged (lines_of b) ≡ Clear
  pub few : length (facts_of (statements (lines_of b))) ≤ 1024
  pub facts : fs ≡ facts_of (statements (lines_of b))

-- one of the two, and the import says which
pub data Either (b : List ℕ) : Type 0 where
  bad : (r : Refusal) (place : ℕ) → Refusing b r place → import_of b ≡ refused r place → Either b
  good : (fs : List Fact) → Accepting b fs → import_of b ≡ accepted fs → Either b

pub either : (b : List ℕ) → Either b
either b = size (dec_lt 65536 (length b))
  where
    fs : List Fact
    fs = facts_of (statements (lines_of b))

    number : length b ≤ 65536 → judged (lines_of b) ≡ Clear → Dec (1024 < length (facts_of (statements (lines_of b)))) → Either b
    number h e (yes p) = bad refusals.Crowd 0 (crowd h e p) (import-crowd b h e p)
    number h e (no p) = good (facts_of (statements (lines_of b))) (record { small = h; clear = e; few = omega arith; facts = refl }) (import-table b h e (omega arith)).0

    found : length b ≤ 65536 → (f : Finding) → judged (lines_of b) ≡ f → Either b
    found h Clear e = number h e (dec_lt 1024 (length (facts_of (statements (lines_of b)))))
    found h (Err stop) e = bad stop.refusal stop.place (fault h e) (import-fault b h stop.refusal stop.place e)

    size : Dec (65536 < length b) → Either b
    size (yes p) = bad refusals.Statement 0 (large p) (import-large b p)
    size (no p) = found (omega arith) (judged (lines_of b)) refl

pub import-refused : (b : List ℕ) (r : Refusal) (place : ℕ) → import_of b ≡ refused r place → Refusing b r place
import-refused b r place e = go (either b)
  where
    go : Either b → Refusing b r place
    go (bad q p h z) = let w : refused q p ≡ refused r place = sym z ∙ e in let i : q ≡ r = cc in let j : p ≡ place = cc in rw (← i, ← j) h
    go (good fs h z) = let w : accepted fs ≡ refused r place = sym z ∙ e in let k : ◌≡◌ {A = ℕ} 0 1 = cc in absurd (omega arith)

pub import-accepted : (b : List ℕ) (fs : List Fact) → import_of b ≡ accepted fs → Accepting b fs
import-accepted b fs e = go (either b)
  where
    go : Either b → Accepting b fs
    go (bad q p h z) = let w : refused q p ≡ accepted fs = sym z ∙ e in let k : ◌≡◌ {A = ℕ} 0 1 = cc in absurd (omega arith)
    go (good gs h z) = let w : accepted gs ≡ accepted fs = sym z ∙ e in let k : gs ≡ fs = cc in rw (← k) h

-- a refusal's place is a line, or 0
pub import-place : (b : List ℕ) (r : Refusal) (place : ℕ) → import_of b ≡ refused r place → place ≤ 65536
import-place b r place e = go (import-refused b r place e)
  where
    within : {judge : List ℕ → Verdict} {r : Refusal} {place : ℕ} → length b ≤ 65536 → FirstFault judge 0 (lines_of b) r place → place ≤ 65536
    within h f = omega (arith, f.counted, f.within, lines-few b)

    line : (r : Refusal) (place : ℕ) → length b ≤ 65536 → judged (lines_of b) ≡ Fault r place → place ≤ 65536
    line r place h e = ⊎_elim (λ f. within h f) (λ f. within h f.1) (judged-fault (fact_of (known_by (statements (lines_of b)))) (lines_of b) r place e)

    go : {r : Refusal} {place : ℕ} → Refusing b r place → place ≤ 65536
    go (large h) = omega arith
    go (fault {r} {place} h f) = line r place h f
    go (crowd h f n) = omega arith

pub import-facts : (b : List ℕ) (fs : List Fact) → import_of b ≡ accepted fs → length fs ≤ 1024
import-facts b fs e = let a = import-accepted b fs e in rw a.facts a.few

-- ---- the call

-- a refusal leaves the memory as it was
pub refuses : (t : Table) (old : List ℕ) (r : Refusal) (place : ℕ) → t ≡ refused r place → Transfers table_bytes t old old (Refused r place)
refuses t old r place e = let s = settle-refused table_bytes t old r place e in record { answer = sym s.0; memory = sym s.1 }

-- equal tables are written alike
pub transfers-as : {t u : Table} {entry exit : List ℕ} {a : Answer} → t ≡ u → Transfers table_bytes t entry exit a → Transfers table_bytes u entry exit a
transfers-as {t} {u} {entry} {exit} {a} e w = subst (λ (x : Table). Transfers table_bytes x entry exit a) e w

-- what is collected, where it is no crowd: all facts, and at most 1,024
pub collected-all : (ss : List Statement) (keys : List ℕ) (n : ℕ) → Collected ss keys n → n ≤ 1024 → Holds keys n (facts_of ss) × (length (facts_of ss) ≤ 1024)
collected-all ss keys n c h = go (dec_lt 1024 (length (facts_of ss)))
  where
    go : Dec (1024 < length (facts_of ss)) → Holds keys n (facts_of ss) × (length (facts_of ss) ≤ 1024)
    go (yes p) = absurd (omega (arith, c.crowd p))
    go (no p) = let m : length (facts_of ss) ≤ 1024 = omega arith in (c.all m, m)

-- and where it is one, there are more
pub collected-crowd : (ss : List Statement) (keys : List ℕ) (n : ℕ) → Collected ss keys n → 1024 < n → 1024 < length (facts_of ss)
collected-crowd ss keys n c h = go (dec_lt 1024 (length (facts_of ss)))
  where
    go : Dec (1024 < length (facts_of ss)) → 1024 < length (facts_of ss)
    go (yes p) = p
    go (no p) = absurd (omega (arith, (c.all (omega arith)).count))

-- the numbers of facts, from the front of a row
pub row-front : (fs : List Fact) (row : List ℕ) (n : ℕ) → length fs ≡ n → take (3 * n) (over (row_of fs) row) ≡ row_of fs
row-front fs row n e =
    let m : length (row_of fs) ≡ 3 * n = row-length fs ∙ ap (λ k. 3 * k) e in
    ap (λ (x : ℕ). take x (over (row_of fs) row)) (sym m) ∙ take-append_seam (row_of fs) (drop (length (row_of fs)) row)

-- the keys of a table's facts are those of the table
pub keys-table : (keys : List ℕ) (n : ℕ) (fs : List Fact) → Holds keys n fs → TableFacts fs → table_of_row (row_of (map fact_of_key (take n keys))) ≡ accepted fs
keys-table keys n fs h t = rw (facts-back keys n fs h) ((table_of_row-accepted (row_of fs) fs).1 (refl, t))
