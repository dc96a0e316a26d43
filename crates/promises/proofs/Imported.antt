-- What is imported and what is refused, in the papers' words.
-- Assumes nothing.
use mathlib.Core.Path.{◌≡◌, refl, sym, ap, subst, ◌∙◌}
use mathlib.Core.Logic.{◌⊎◌, inl, inr, ⊎_elim, ◌↔◌}
use mathlib.Core.List.Memᴰ
use mathlib.Core.List.{List, [], ◌∷◌, map}
use Prim.Native.Nat.{ℕ, zero, suc, ◌*◌, ◌≤◌, ◌<◌}
use native.Mathlib.Omega.{arith}
use lib.ListN.{length, get_or}
use lib.Dec.{T}
use Rattle.facts.specs.declared.Fact.{Fact}
use Rattle.facts.specs.declared.Refusal.{Refusal}
use Rattle.facts.specs.declared.Refusal.TheVariants as refusals
use Rattle.facts.specs.Results.{Verdict, Sound, Faulty}
use Rattle.facts.specs.Facts.{fault_of}
use Rattle.facts.proofs.Facts.{fault-none}
use Rattle.table.specs.Tables.{accepted, refused, ascending, TableFacts}
use Rattle.table.proofs.Lists.{formed-in}
use Rattle.rules.specs.Graph.{◌∈◌}
use Rattle.ntriples.specs.Lexed.{line_of}
use Rattle.gathering.proofs.Gathered.{gathered-has}
use Rattle.imports.specs.Results.{Finding, Clear, Fault}
use Rattle.imports.specs.Lines.{lines_of, Statement, said, statements}
use Rattle.imports.specs.Import.{known_by, fact_of, facts_of, line_refusal, fact_refusal, first_on, or_else, judged_by, judged, import_of}
use Rattle.imports.proofs.Findings.{both-clear, all-clear, sound-clear, FirstFault, says_first, judged-fault}
use Rattle.imports.proofs.Imported.{facts-only, facts-ascend, Refusing, large, fault, crowd, import-accepted, import-large, import-fault, import-crowd, import-table}
use Rattle.imports.proofs.Sizes.{said-among}
use Rattle.promises.specs.Import.{Reads, line_on, FactsOf, Imported, LineRefused, FactRefused, FirstLine, ImportRefused, by_size, by-line, by-fact, by-crowd, by-room}
use Rattle.promises.proofs.Lines.{not-faulty, line_refused, clear_reads, reads-said, reads-clear}
use Rattle.promises.proofs.Facts.{same-facts, fact-refused}

-- line i is one of the lines
pub at-line : (ls : List (List ℕ)) (i : ℕ) → i < length ls → get_or ls i [] ∈ ls
at-line [] i h = absurd (omega arith)
at-line (l ∷ ls) zero h = Memᴰ.head refl
at-line (l ∷ ls) (suc i) h = Memᴰ.tail (at-line ls i (omega arith))

in_map : (f : Statement → Fact) (s : Statement) (ss : List Statement) → s ∈ ss → f s ∈ map f ss
in_map f s [] m = absurd (Memᴰ.not-nil m)
in_map f s (u ∷ ss) m = ⊎_elim (λ (e : s ≡ u). Memᴰ.head (ap f e)) (λ (n : s ∈ ss). Memᴰ.tail (in_map f s ss n)) (Memᴰ.cases_cons m)

-- the facts of some statements are theirs, and no others
pub facts-of : (ss : List Statement) → FactsOf ss (facts_of ss)
facts-of ss f = (
  facts-only ss f,
  λ h. subst (λ (x : Fact). x ∈ facts_of ss) (sym h.2) (gathered-has (fact_of (known_by ss) h.0) [] (map (fact_of (known_by ss)) ss) (in_map (fact_of (known_by ss)) h.0 ss h.1)),
)

-- and no other facts in order are
pub facts-one : (ss : List Statement) (fs : List Fact) → FactsOf ss fs → T (ascending fs) → fs ≡ facts_of ss
facts-one ss fs h a = same-facts fs (facts_of ss) a (facts-ascend ss) (λ f m. (facts-of ss f).1 ((h f).0 m)) (λ f m. (h f).1 ((facts-of ss f).0 m))

-- ---- judgements

-- what the lines come to, in two parts
both : (f : Statement → Fact) (ls : List (List ℕ)) → first_on (λ l. line_refusal (line_of l)) 0 ls ≡ Clear → judged_by f ls ≡ first_on (λ l. fact_refusal f (said l)) 0 ls
unfolding judged_by or_else
both f ls e = ap (λ (x : Finding). or_else x (first_on (λ l. fact_refusal f (said l)) 0 ls)) e

first : (f : Statement → Fact) (ls : List (List ℕ)) (r : Refusal) (place : ℕ) → first_on (λ l. line_refusal (line_of l)) 0 ls ≡ Fault r place → judged_by f ls ≡ Fault r place
unfolding judged_by or_else
first f ls r place e = ap (λ (x : Finding). or_else x (first_on (λ l. fact_refusal f (said l)) 0 ls)) e

apart : (f : Statement → Fact) (ls : List (List ℕ)) → judged_by f ls ≡ Clear → (first_on (λ l. line_refusal (line_of l)) 0 ls ≡ Clear) × (first_on (λ l. fact_refusal f (said l)) 0 ls ≡ Clear)
unfolding judged_by
apart f ls e = both-clear (first_on (λ l. line_refusal (line_of l)) 0 ls) (first_on (λ l. fact_refusal f (said l)) 0 ls) e

-- a judgement that gives just some refusals: the first line that earns one
module _ (b : List ℕ) (judge : List ℕ → Verdict) (Earned : List ℕ → Refusal → Type 0) (says : (l : List ℕ) → l ∈ lines_of b → (r : Refusal) → judge l ≡ Faulty r ↔ Earned l r) where
  first-line : (r : Refusal) (place : ℕ) → FirstFault judge 0 (lines_of b) r place → (i : ℕ) × (place ≡ suc i) × FirstLine Earned b r i
  first-line r place f = (
    f.at,
    omega (arith, f.counted),
    record {
      within = f.within;
      before = λ j q h e. not-faulty (f.before j h) ((says (line_on b j) (at-line (lines_of b) j (omega (arith, f.within))) q).1 e);
      here = (says (line_on b f.at) (at-line (lines_of b) f.at f.within) r).0 f.here;
    },
  )

  passes : (l : List ℕ) → l ∈ lines_of b → ((q : Refusal) → Earned l q → ⊥) → judge l ≡ Sound
  passes l m h = go (judge l) refl
    where
      go : (v : Verdict) → judge l ≡ v → judge l ≡ Sound
      go Sound e = e
      go (Faulty q) e = absurd (h q ((says l m q).0 e))

  line_first : (r : Refusal) (i : ℕ) → FirstLine Earned b r i → first_on judge 0 (lines_of b) ≡ Fault r (suc i)
  line_first r i f =
      says_first judge 0 (lines_of b) r (suc i)
      (record {
        at = i;
        counted = omega arith;
        within = f.within;
        before = λ j h. passes (line_on b j) (at-line (lines_of b) j (omega (arith, f.within))) (λ q e. f.before j q h e);
        here = (says (line_on b i) (at-line (lines_of b) i f.within) r).1 f.here;
      })

  none_first : ((i : ℕ) (q : Refusal) → i < length (lines_of b) → Earned (line_on b i) q → ⊥) → first_on judge 0 (lines_of b) ≡ Clear
  none_first h = sound-clear judge 0 (lines_of b) (λ j n. passes (line_on b j) (at-line (lines_of b) j n) (λ q e. h j q n e))

  first-none : first_on judge 0 (lines_of b) ≡ Clear → (i : ℕ) (q : Refusal) → i < length (lines_of b) → Earned (line_on b i) q → ⊥
  first-none c i q n e = not-faulty (all-clear judge 0 (lines_of b) c (line_on b i) (at-line (lines_of b) i n)) ((says (line_on b i) (at-line (lines_of b) i n) q).1 e)

-- statements whose facts earn nothing
said-sound : (f : Statement → Fact) (ss : List Statement) → ((s : Statement) → s ∈ ss → fault_of (f s) ≡ Sound) → fact_refusal f ss ≡ Sound
unfolding fact_refusal
said-sound f [] h = refl
said-sound f (s ∷ ss) h = h s (Memᴰ.head refl)

-- ---- the input

module _ (b : List ℕ) where
  -- the judgements of its lines and of its facts
  line : List ℕ → Verdict
  line l = line_refusal (line_of l)

  fact : List ℕ → Verdict
  fact l = fact_refusal (fact_of (known_by (statements (lines_of b)))) (said l)

  line-says : (l : List ℕ) → l ∈ lines_of b → (r : Refusal) → line l ≡ Faulty r ↔ LineRefused l r
  unfolding line
  line-says l m r = line_refused l r

  fact-says : length b ≤ 65536 → (l : List ℕ) → l ∈ lines_of b → (r : Refusal) → fact l ≡ Faulty r ↔ FactRefused (statements (lines_of b)) l r
  unfolding fact
  fact-says h l m r = fact-refused b h l m r

  -- the refusals that are not for want of room
  fault-refused : (m : ℕ) (r : Refusal) (place : ℕ) → length b ≤ 65536 → judged (lines_of b) ≡ Fault r place → ImportRefused b m r place
  unfolding line fact
  fault-refused m r place h e =
      ⊎_elim (λ f. let x = first-line b line LineRefused line-says r place f in subst (ImportRefused b m r) (sym x.1) (by-line h x.2))
      (λ f.
      let x = first-line b fact (FactRefused (statements (lines_of b))) (fact-says h) r place f.1 in
      subst (ImportRefused b m r) (sym x.1) (by-fact h (clear_reads 0 (lines_of b) f.0) x.2))
      (judged-fault (fact_of (known_by (statements (lines_of b)))) (lines_of b) r place e)

  crowd-refused : (m : ℕ) → length b ≤ 65536 → judged (lines_of b) ≡ Clear → 1024 < length (facts_of (statements (lines_of b))) → ImportRefused b m refusals.Crowd 0
  unfolding fact
  crowd-refused m h e n =
      let c = apart (fact_of (known_by (statements (lines_of b)))) (lines_of b) e in
      by-crowd h (clear_reads 0 (lines_of b) c.0) (first-none b fact (FactRefused (statements (lines_of b))) (fact-says h) c.1) (facts-of (statements (lines_of b))) (facts-ascend (statements (lines_of b))) n

  pub refusing-refused : (m : ℕ) {r : Refusal} {place : ℕ} → Refusing b r place → ImportRefused b m r place
  refusing-refused m (large h) = by_size h
  refusing-refused m (fault {r} {place} h e) = fault-refused m r place h e
  refusing-refused m (crowd h e n) = crowd-refused m h e n

  -- ---- what is imported

  pub accepted-imported : (fs : List Fact) → import_of b ≡ accepted fs → Imported b fs
  accepted-imported fs e =
      let a = import-accepted b fs e in
      let c = apart (fact_of (known_by (statements (lines_of b)))) (lines_of b) a.clear in
      record {
        size = a.small;
        statements = statements (lines_of b);
        reads = clear_reads 0 (lines_of b) c.0;
        facts = subst (FactsOf (statements (lines_of b))) (sym a.facts) (facts-of (statements (lines_of b)));
        sound = subst TableFacts (sym a.facts) (import-table b a.small a.clear a.few).1;
      }

  -- well-formed facts earn nothing
  formed-clear : (fs : List Fact) → FactsOf (statements (lines_of b)) fs → TableFacts fs → first_on (λ l. fact_refusal (fact_of (known_by (statements (lines_of b)))) (said l)) 0 (lines_of b) ≡ Clear
  formed-clear fs h t =
      sound-clear (λ l. fact_refusal (fact_of (known_by (statements (lines_of b)))) (said l)) 0 (lines_of b)
      (λ j n. said-sound (fact_of (known_by (statements (lines_of b)))) (said (line_on b j)) (λ s m.
      let i : s ∈ statements (lines_of b) = said-among s (line_on b j) (lines_of b) (at-line (lines_of b) j n) m in
      (fault-none (fact_of (known_by (statements (lines_of b))) s)).1 (formed-in fs (fact_of (known_by (statements (lines_of b))) s) t.formed ((h (fact_of (known_by (statements (lines_of b))) s)).1 (s, i, refl)))))

  reads-facts : (ss : List Statement) → Reads (lines_of b) ss → (fs : List Fact) → FactsOf ss fs → FactsOf (statements (lines_of b)) fs
  reads-facts ss r fs h = subst (λ (x : List Statement). FactsOf x fs) (reads-said r) h

  pub imported-accepted : (fs : List Fact) → Imported b fs → import_of b ≡ accepted fs
  imported-accepted fs i =
      let h = reads-facts i.statements i.reads fs i.facts in
      let c = both (fact_of (known_by (statements (lines_of b)))) (lines_of b) (reads-clear 0 i.reads) ∙ formed-clear fs h i.sound in
      let e : fs ≡ facts_of (statements (lines_of b)) = facts-one (statements (lines_of b)) fs h i.sound.ascends in
      (import-table b i.size c (subst (λ (x : List Fact). length x ≤ 1024) e i.sound.few)).0 ∙ ap accepted (sym e)

  -- ---- and what is refused

  fact-line : (ss : List Statement) (r : Refusal) (i : ℕ) → Reads (lines_of b) ss → FirstLine (FactRefused ss) b r i → FirstLine (FactRefused (statements (lines_of b))) b r i
  fact-line ss r i h f = subst (λ (x : List Statement). FirstLine (FactRefused x) b r i) (reads-said h) f

  pub refused-refused : (m : ℕ) {r : Refusal} {place : ℕ} → ImportRefused b m r place → (import_of b ≡ refused r place) ⊎ ((fs : List Fact) × (import_of b ≡ accepted fs) × (m < 16 * length fs) × (r ≡ refusals.Short) × (place ≡ 0))
  unfolding line fact
  refused-refused m (by_size h) = inl (import-large b h)
  refused-refused m (by-line {r} {i} h f) =
      inl (import-fault b h r (suc i) (first (fact_of (known_by (statements (lines_of b)))) (lines_of b) r (suc i) (line_first b line LineRefused line-says r i f)))
  refused-refused m (by-fact {ss} {r} {i} h d f) =
      inl (import-fault b h r (suc i)
      (both (fact_of (known_by (statements (lines_of b)))) (lines_of b) (reads-clear 0 d) ∙ line_first b fact (FactRefused (statements (lines_of b))) (fact-says h) r i (fact-line ss r i d f)))
  refused-refused m (by-crowd {ss} {fs} h d none o a n) =
      let e : fs ≡ facts_of (statements (lines_of b)) = facts-one (statements (lines_of b)) fs (reads-facts ss d fs o) a in
      let c = none_first b fact (FactRefused (statements (lines_of b))) (fact-says h) (subst (λ (x : List Statement). (i : ℕ) (q : Refusal) → i < length (lines_of b) → FactRefused x (line_on b i) q → ⊥) (reads-said d) none) in
      inl (import-crowd b h (both (fact_of (known_by (statements (lines_of b)))) (lines_of b) (reads-clear 0 d) ∙ c) (subst (λ (x : List Fact). 1024 < length x) e n))
  refused-refused m (by-room {fs} i h) = inr (fs, imported-accepted fs i, h, refl, refl)
