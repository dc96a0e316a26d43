-- Laws of derivations over any list of rules: closed sets hold what is derived, and table lines carry facts of the table.
-- Assumes nothing.
use mathlib.Core.Path.{◌≡◌, refl, sym}
use mathlib.Core.Logic.{⊎_elim}
use mathlib.Core.Option.{some, none-ne-some}
use mathlib.Core.List.Memᴰ
use mathlib.Core.List.{List, [], ◌∷◌, ◌++◌, append-nil}
use Prim.Native.Nat.{ℕ, zero, suc}
use lib.ListN.{length}
use lib.Seq.{append_snoc}
use lib.Dec.{T, eqb}
use mir.Facts.{eqb_yes}
use Rattle.facts.specs.declared.Fact.{Fact}
use Rattle.rules.specs.Graph.{◌∈◌, keep}
use Rattle.rules.specs.Derivations.{Relation, Line, fact_on, Justified, by-table, by-rule, Justify, Derives, table_facts, Closed, Holds}
use Rattle.rules.specs.Printed.{conclusion}
use Rattle.rules.proofs.Tests.{keep-in, in-keep}

-- a fact on a line of d is the fact of an element of d
fact_on-in : (d : List Line) (n : ℕ) {f : Fact} → fact_on d n ≡ some f → (l : Line) × (l ∈ d) × (l.fact ≡ f)
unfolding fact_on
fact_on-in [] n {f} e = absurd (none-ne-some f e)
fact_on-in (l ∷ d) zero {f} e = absurd (none-ne-some f e)
fact_on-in (l ∷ d) (suc zero) e = (l, Memᴰ.head refl, cc)
fact_on-in (l ∷ d) (suc (suc n)) e = let r = fact_on-in d (suc n) e in (r.0, Memᴰ.tail r.1, r.2)

-- the fact on the last line is what the derivation ends in
pub conclusion-is : (d : List Line) {f : Fact} → fact_on d (length d) ≡ some f → conclusion d ≡ f
unfolding fact_on conclusion
conclusion-is [] {f} e = absurd (none-ne-some f e)
conclusion-is (l ∷ []) e = cc
conclusion-is (l ∷ m ∷ d) e = conclusion-is (m ∷ d) e

-- the facts of the lines of d are in the set
abbrev pub LinesIn : (Fact → Type 0) → List Line → Type 0
LinesIn M d = (l : Line) → l ∈ d → M l.fact

pub fact_on-M : (M : Fact → Type 0) (d : List Line) (n : ℕ) {f : Fact} → LinesIn M d → fact_on d n ≡ some f → M f
fact_on-M M d n h e = let r = fact_on-in d n e in rw r.2 at (h r.0 r.1)

-- the set holds the facts of the table lines of d
abbrev TableIn : (Fact → Type 0) → List Line → Type 0
TableIn M d = (l : Line) → l ∈ d → T (eqb l.rule 0) → M l.fact

module _ (R : Relation) (table : List Fact) where
  module _ (M : Fact → Type 0) (closed : Closed R M) where
    closed-line : {before : List Line} {l : Line} → LinesIn M before → Justified R table before l → (T (eqb l.rule 0) → M l.fact) → M l.fact
    closed-line h (by-table m) g = g tt
    closed-line {before} h (by-rule {n} {i} {j} {p} {q} {r} x y s) g = closed n p q r s (fact_on-M M before i h x) (fact_on-M M before j h y)

    closed-from : (before d : List Line) → LinesIn M before → Justify R table before d → TableIn M d → LinesIn M (before ++ d)
    unfolding Justify
    closed-from before [] h j g = rw append-nil h
    closed-from before (l ∷ d) h j g =
        let m : M l.fact = closed-line h j.0 (g l (Memᴰ.head refl)) in
        rw append_snoc at (closed-from (before ++ (l ∷ [])) d
        (λ k i. ⊎_elim (h k) (λ (e : k ∈ l ∷ []). rw (Memᴰ.eq_of_singleton e) m) (Memᴰ.append_cases before i))
        j.1 (λ k i. g k (Memᴰ.tail i)))

  -- a closed set that holds the facts of the table lines holds what is derived
  pub closed-derives : {d : List Line} {t : Fact} (M : Fact → Type 0) → Closed R M → Holds M (table_facts d) → Derives R table d t → M t
  unfolding table_facts
  closed-derives {d} M closed h r =
      fact_on-M M d (length d) (closed-from M closed [] d (λ l m. absurd (Memᴰ.not-nil m)) r.lines (λ l m z. h _ (Memᴰ.map _ (in-keep _ m z)))) r.last

  -- no rule has the number 0, which marks the table lines
  module _ (numbered : (p q r : Fact) → R 0 p q r → ⊥) where
    table-line : {before : List Line} {l : Line} → Justified R table before l → T (eqb l.rule 0) → l.fact ∈ table
    table-line (by-table m) z = m
    table-line (by-rule {n} {p = p} {q} {r} x y s) z = let e : n ≡ 0 = eqb_yes z in absurd (numbered p q r (rw e at s))

    table-lines : (before d : List Line) → Justify R table before d → (l : Line) → l ∈ d → T (eqb l.rule 0) → l.fact ∈ table
    unfolding Justify
    table-lines before [] j l m z = absurd (Memᴰ.not-nil m)
    table-lines before (k ∷ d) j l m z =
        let rec = table-lines (before ++ (k ∷ [])) d j.1 l in
        ⊎_elim (λ (e : l ≡ k). rw e (table-line j.0 (rw e at z))) (λ (i : l ∈ d). rec i z) (Memᴰ.cases_cons m)

    -- the facts on the table lines of a derivation are facts of the table
    pub table_facts-in : {d : List Line} {t : Fact} → Derives R table d t → (f : Fact) → f ∈ table_facts d → f ∈ table
    unfolding table_facts
    table_facts-in {d} r f m =
        let x = Memᴰ.of_map (λ (l : Line). l.fact) (keep (λ l. eqb l.rule 0) d) m in
        let y = keep-in (λ (l : Line). eqb l.rule 0) d x.1 in
        Memᴰ.cast (sym x.2) (table-lines [] d r.lines x.0 y.0 y.1)
