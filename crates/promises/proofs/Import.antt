-- The import's promises (specs/Import) hold.
-- Assumes nothing.
use mathlib.Core.Path.{◌≡◌, refl, sym, ap, subst, ◌∙◌}
use mathlib.Core.Logic.{◌⊎◌, inl, inr, ⊎_elim, ◌↔◌}
use mathlib.Core.Bool.{Bool, true, false, cond}
use mathlib.Core.List.Memᴰ
use mathlib.Core.List.{List, ◌∷◌, ◌++◌}
use Prim.Native.Nat.{ℕ, ◌+◌, ◌*◌, ◌≤◌, ◌<◌}
use native.Mathlib.Omega.{arith}
use native.Mathlib.Decide.{dec_lt}
use lib.ListN.{length, take, drop}
use lib.Seq.{take-append_seam}
use Rattle.columns.specs.Lines.{over}
use Rattle.facts.specs.declared.Fact.{Fact}
use Rattle.facts.specs.declared.Refusal.{Refusal}
use Rattle.facts.specs.declared.Refusal.TheVariants as refusals
use Rattle.facts.specs.declared.Code.{Code}
use Rattle.facts.specs.Results.{Done, Refused}
use Rattle.facts.specs.Answers.{code_of, DoneWith}
use Rattle.facts.proofs.Terms.{by_cases}
use Rattle.facts.proofs.Codes.{same_answer, told-refused}
use Rattle.table.specs.Tables.{Table, accepted, refused, row_of, table_bytes, settled}
use Rattle.table.proofs.Rows.{bytes-length, settle-done}
use Rattle.rules.specs.Graph.{◌∈◌}
use Rattle.ntriples.specs.Tokens.{Token}
use Rattle.ntriples.specs.Grammar.{Of, iri, literal}
use Rattle.ntriples.proofs.Outcomes.{outcomes}
use Rattle.ntriples.proofs.Lexical.{lexical}
use Rattle.ntriples.proofs.Tokens.{states-tokens, iri-first, literal-first}
use Rattle.numbering.specs.Numbering.{has, place, is_literal, number_in}
use Rattle.numbering.specs.Vocabulary.{vocabulary, unknown, term_of, known}
use Rattle.numbering.specs.Appearance.{is_other, Different, Numbers}
use Rattle.numbering.proofs.Numbering.{has-member, member-has, place-within}
use Rattle.numbering.proofs.Terms.{Kinds, number-least, fixed, after-numbered, term-injective}
use Rattle.numbering.proofs.Appearance.{appearance}
use Rattle.imports.specs.Lines.{lines_of, Parted, Statement, statements, tokens}
use Rattle.imports.specs.Import.{known_by, import_of}
use Rattle.imports.proofs.Parted.{parted, parted-only}
use Rattle.imports.proofs.Sizes.{known-few, token-kinds}
use Rattle.imports.proofs.Imported.{import-refused}
use Rattle.packing.specs.Packed.{unpacked}
use Rattle.entail.specs.Calls.{ReadCall, ImportCall}
use Rattle.entail.proofs.Unpacked.{import-unpacked}
use Rattle.demands.proofs.Refusals.{Lacks, answers-lack, settled-answers, memory-unchanged}
use Rattle.demands.proofs.Sound.{settled-names}
use Rattle.demands.proofs.Demands.{by-numbers, demand-2}
use Rattle.promises.specs.Import.{Reads, end, silent, states, term_in, Imported, ImportRefused, by-room, Import}
use Rattle.promises.proofs.Lines.{reads-said}
use Rattle.promises.proofs.Imported.{refusing-refused, accepted-imported, imported-accepted, refused-refused}

-- ---- refusals

lacks : (b : List ℕ) (m : ℕ) (r : Refusal) (place : ℕ) → Lacks (λ fs. length (table_bytes fs)) (import_of b) m r place ↔ ImportRefused b m r place
lacks b m r place = (
  ⊎_elim (λ (e : import_of b ≡ refused r place). refusing-refused b m (import-refused b r place e))
      (λ (h : (fs : List Fact) × (import_of b ≡ accepted fs) × (m < length (table_bytes fs)) × (r ≡ refusals.Short) × (place ≡ 0)).
      rw (h.3, h.4) (by-room (accepted-imported b h.0 h.1) (rw bytes-length at h.2))),
  λ z. ⊎_elim (λ (e : import_of b ≡ refused r place). inl e)
      (λ (h : (fs : List Fact) × (import_of b ≡ accepted fs) × (m < 16 * length fs) × (r ≡ refusals.Short) × (place ≡ 0)). inr (h.0, h.1, rw bytes-length h.2, h.3, h.4)) (refused-refused b m z),
)

pub import-answers : (b : List ℕ) (m : ℕ) (r : Refusal) (place : ℕ) → settled table_bytes (import_of b) m ≡ Refused r place ↔ ImportRefused b m r place
import-answers b m r place =
    let a = answers-lack (λ fs. length (table_bytes fs)) (import_of b) m r place in
    let e = settled-answers table_bytes (import_of b) m in
    let g = lacks b m r place in
    (λ z. g.0 (a.0 (sym e ∙ z)), λ h. e ∙ a.1 (g.1 h))

-- ---- done

done : {b entry exit : List ℕ} {n : ℕ} {fs : List Fact} → ImportCall b entry exit n → Imported b fs → 16 * length fs ≤ length entry
    → DoneWith (unpacked n) (length fs) × (exit ≡ over (table_bytes fs) entry)
done {b} {entry} {exit} {n} {fs} g i room =
    let d = settle-done table_bytes (import_of b) entry fs (imported-accepted b fs i) (rw bytes-length room) in
    (import-unpacked g ∙ ap code_of d.0, g.bytes ∙ d.1)

one_table : {b : List ℕ} {fs gs : List Fact} → Imported b fs → Imported b gs → fs ≡ gs
one_table {b} {fs} {gs} i j = let e : accepted fs ≡ accepted gs = sym (imported-accepted b fs i) ∙ imported-accepted b gs j in cc

read_back : {b entry exit row row' : List ℕ} {n m : ℕ} {fs : List Fact} → ImportCall b entry exit n → Imported b fs → 16 * length fs ≤ length entry → 3 * length fs ≤ length row
    → ReadCall (take (16 * length fs) exit) row row' m → DoneWith (unpacked m) (length fs) × (row' ≡ over (row_of fs) row)
read_back {b} {entry} {exit} {row} {row'} {n} {m} {fs} g i room space r =
    let e : take (16 * length fs) exit ≡ table_bytes fs = ap (take (16 * length fs)) (done g i room).1 ∙ ap (λ (x : ℕ). take x (over (table_bytes fs) entry)) (sym (bytes-length fs)) ∙ take-append_seam (table_bytes fs) (drop (length (table_bytes fs)) entry) in
    demand-2.read_done r (record { bytes = e; sound = i.sound }) space

answered : (b : List ℕ) (m : ℕ) → ((r : Refusal) (place : ℕ) → ImportRefused b m r place → ⊥) ↔ ((fs : List Fact) × Imported b fs × (16 * length fs ≤ m))
answered b m = (go (import_of b) refl, never)
  where
    go : (t : Table) → import_of b ≡ t → ((r : Refusal) (place : ℕ) → ImportRefused b m r place → ⊥) → (fs : List Fact) × Imported b fs × (16 * length fs ≤ m)
    go (refused r place) e none = absurd (none r place (refusing-refused b m (import-refused b r place e)))
    go (accepted fs) e none = (fs, accepted-imported b fs e, room (dec_lt m (16 * length fs)))
      where
        room : Dec (m < 16 * length fs) → 16 * length fs ≤ m
        room (yes p) = absurd (none refusals.Short 0 (by-room (accepted-imported b fs e) p))
        room (no p) = omega arith

    never : ((fs : List Fact) × Imported b fs × (16 * length fs ≤ m)) → (r : Refusal) (place : ℕ) → ImportRefused b m r place → ⊥
    never h r place z =
        ⊎_elim (λ (e : import_of b ≡ refused r place). let w : accepted h.0 ≡ refused r place = sym (imported-accepted b h.0 h.1) ∙ e in let k : ◌≡◌ {A = ℕ} 0 1 = cc in absurd (omega arith))
        (λ (y : (fs : List Fact) × (import_of b ≡ accepted fs) × (m < 16 * length fs) × (r ≡ refusals.Short) × (place ≡ 0)).
        let w : accepted h.0 ≡ accepted y.0 = sym (imported-accepted b h.0 h.1) ∙ y.1 in
        let k : h.0 ≡ y.0 = cc in
        let l : length h.0 ≡ length y.0 = ap length k in
        omega (arith, h.2, y.2)) (refused-refused b m z)

done-only : {b entry exit : List ℕ} {n : ℕ} → ImportCall b entry exit n → (c : ℕ) → DoneWith (unpacked n) c
    → (fs : List Fact) × Imported b fs × (c ≡ length fs) × (exit ≡ over (table_bytes fs) entry)
done-only {b} {entry} {exit} {n} g c d =
    let a = (answered b (length entry)).0 (λ r place h.
    let e : code_of (Refused r place) ≡ code_of (Done c) = sym (import-unpacked g ∙ ap code_of ((import-answers b (length entry) r place).1 h)) ∙ d in
    let f : Refused r place ≡ Done c = same_answer (Refused r place) (Done c) e in
    let z : ◌≡◌ {A = ℕ} 0 1 = cc in absurd (omega arith)) in
    let w = done g a.1 a.2 in
    (a.0, a.1, ap (λ (x : Code). x.count) (sym d ∙ w.0), w.1)

-- ---- tokens

kind-iri : (t : Token) → Of iri t → is_literal t ≡ false
unfolding is_literal
kind-iri t h = rw (iri-first t h) refl

kind-literal : (t : Token) → Of literal t → is_literal t ≡ true
unfolding is_literal
kind-literal t h = rw (literal-first t h) refl

-- a token of statements that are read is an IRI or a literal
abbrev KindOf : Token → Type 0
KindOf t = (Of iri t × (is_literal t ≡ false)) ⊎ (Of literal t × (is_literal t ≡ true))

named : (t : Token) → Of iri t → KindOf t
named t h = inl (h, kind-iri t h)

kinds : {ls : List (List ℕ)} {ss : List Statement} → Reads ls ss → (t : Token) → t ∈ tokens ss → KindOf t
unfolding tokens
kinds end t m = absurd (Memᴰ.not-nil m)
kinds (silent h r) t m = kinds r t m
kinds (states {l} {ls} {s} {ss} h r) t m =
    let w = states-tokens l s.subject s.predicate s.object h in
    ⊎_elim (λ (e : t ≡ s.subject). subst KindOf (sym e) (named s.subject w.0))
    (λ n. ⊎_elim (λ (e : t ≡ s.predicate). subst KindOf (sym e) (named s.predicate w.1))
    (λ n. ⊎_elim (λ (e : t ≡ s.object). subst KindOf (sym e) (⊎_elim (named s.object) (λ (o : Of literal s.object). inr (o, kind-literal s.object o)) w.2))
    (λ n. kinds r t n) (Memᴰ.cases_cons n)) (Memᴰ.cases_cons n)) (Memᴰ.cases_cons m)

one-reading : {ls : List (List ℕ)} {ss us : List Statement} → Reads ls ss → Reads ls us → ss ≡ us
one-reading r q = reads-said r ∙ sym (reads-said q)

-- ---- numbers

-- the vocabulary has 1 to 5, and no other token has
exactly : (ss : List Statement) (t : Token) → (t ∈ vocabulary) ↔ (term_in ss t < 6)
exactly ss t = (there, back)
  where
    number : (v : Bool) → has t vocabulary ≡ v → term_in ss t ≡ cond v (1 + place t vocabulary) (number_in (known_by ss) t)
    number v e = unfold term_of in (ap (λ (x : Bool). cond x (1 + place t vocabulary) (number_in (known_by ss) t)) e)

    there : t ∈ vocabulary → term_in ss t < 6
    there m = let p : has t vocabulary ≡ true = member-has t vocabulary m in omega (arith, number true p, place-within t vocabulary p)

    back : term_in ss t < 6 → t ∈ vocabulary
    back h = by_cases (has t vocabulary) (λ p. has-member t vocabulary p) (λ p. absurd (omega (arith, number false p, number-least (known_by ss) t)))

of-kind : (b : List ℕ) {ss : List Statement} → length b ≤ 65536 → Reads (lines_of b) ss → (t : Token) → t ∈ tokens ss
    → (Of iri t → (t ∈ vocabulary → ⊥) → (6 ≤ term_in ss t) × (term_in ss t < 40000)) × (Of literal t → (40000 ≤ term_in ss t) × (term_in ss t < 50000))
of-kind b {ss} h r t m =
    let q : ss ≡ statements (lines_of b) = reads-said r in
    let k : Kinds (known_by ss) t = subst (λ (x : List Statement). Kinds (known_by x) t) (sym q) (token-kinds b h t (subst (λ (x : List Statement). t ∈ tokens x) q m)) in (
      λ i other. k.name (by_cases (has t vocabulary) (λ p. absurd (other (has-member t vocabulary p))) (λ p. p)) (kind-iri t i),
      λ l. k.literal (kind-literal t l),
    )

-- their numbers, by first appearance
module _ (ss : List Statement) (us : List Token) (t : Token) (vs : List Token) (e : tokens ss ≡ us ++ (t ∷ vs)) (new : t ∈ us → ⊥) where
  counted : (kind : Token → Bool) (from : ℕ) → Numbers kind from us t vs → (ds : List Token) × Different kind us ds × (term_in ss t ≡ from + length ds)
  counted kind from n = (n.0, n.1, ap (λ (x : List Token). term_of (known x) t) e ∙ n.2)

  iris : Of iri t → (t ∈ vocabulary → ⊥) → (ds : List Token) × Different is_other us ds × (term_in ss t ≡ 6 + length ds)
  iris h other = counted is_other 6 ((appearance us t vs new).0 (both (kind-iri t h) (by_cases (has t vocabulary) (λ p. absurd (other (has-member t vocabulary p))) (λ p. p))))
    where
      both : is_literal t ≡ false → has t vocabulary ≡ false → is_other t ≡ true
      both p q = rw (p, q) refl

  literals : Of literal t → (ds : List Token) × Different is_literal us ds × (term_in ss t ≡ 40000 + length ds)
  literals h = counted is_literal 40000 ((appearance us t vs new).1 (kind-literal t h))

never-two : (b : List ℕ) {ss : List Statement} → length b ≤ 65536 → Reads (lines_of b) ss → (s t : Token) → s ∈ tokens ss → t ∈ tokens ss → term_in ss s ≡ term_in ss t → s ≡ t
never-two b {ss} h r s t m n e =
    let q : ss ≡ statements (lines_of b) = reads-said r in
    let few : length (known_by ss).names ≤ 39994 = rw q (known-few b h).0 in
    term-injective (known_by ss) s t few (after-numbered unknown (tokens ss) s m) (after-numbered unknown (tokens ss) t n) e

pub import : Import
import = record {
  refused = λ {b} {entry} g r place. by-numbers _ r place (import-unpacked g) (import-answers b (length entry) r place);
  unchanged = λ {b} {entry} g r place e. g.bytes ∙ memory-unchanged table_bytes (import_of b) entry r place (told-refused (sym (import-unpacked g) ∙ e));
  done = done;
  done-only = done-only;
  unnamed = λ {b} {entry} g. rw (import-unpacked g) (settled-names table_bytes (import_of b) (length entry));
  answered = answered;
  one_table = one_table;
  read_back = read_back;
  lines = λ b ls. (parted-only b ls, λ e. subst (Parted b) (sym e) (parted b));
  line = outcomes;
  one-reading = one-reading;
  lexical = lexical;
  fixed = λ ss. fixed (known_by ss);
  exactly = exactly;
  iris = λ {ls} {ss} r. iris ss;
  literals = λ {ls} {ss} r. literals ss;
  kinds = kinds;
  of-kind = of-kind;
  never-two = never-two;
}
