-- The table of rows is the six rules, and the tests of a step and of a line say what they should.
-- Assumes nothing.
use mathlib.Core.Path.{◌≡◌, refl}
use mathlib.Core.Logic.{◌↔◌}
use mathlib.Core.Bool.{Bool, true, false, ◌&&◌}
use mathlib.Core.Option.{Option, none, some}
use mathlib.Core.List.Memᴰ
use mathlib.Core.List.{List}
use Prim.Native.Nat.{ℕ, zero, suc, ◌≤◌, ◌<◌}
use native.Mathlib.Omega.{arith}
use lib.ListN.{length}
use lib.Dec.{T, leb, ltb, eqb, eqb_refl, leb→le}
use borrow.Author.Tests.{ltb-true, leb-true, lt-ltb, le-leb}
use mir.Facts.{and_yes, yes_and, eqb_yes, not_T}
use Rattle.facts.specs.declared.Fact.{Fact}
use Rattle.facts.specs.Facts.{fact, well_formed}
use Rattle.facts.proofs.Terms.{by_cases, T_of, of_T, of-F}
use Rattle.facts.proofs.Facts.{fact-eq}
use Rattle.rules.specs.declared.Row.{Row}
use Rattle.rules.specs.Graph.{any}
use Rattle.rules.specs.Rules.{Gives, sp-sp, sp-data, sc-sc, sc-type, dom-data, range-data, Rule}
use Rattle.rules.specs.Derivations.{Line, derivation_line, fact_on, Justified, by-table, by-rule}
use Rattle.rules.specs.Steps.{same, rows, row, fill, fits_row, gives, step_test, step_from, justified}
use Rattle.rules.proofs.Tests.{any-in, in-any}

-- ---- equal facts

pub same-eq : (a b : Fact) → T (same a b) → a ≡ b
unfolding same
same-eq a b t =
    let r = and_yes (eqb a.subject b.subject && eqb a.predicate b.predicate) (eqb a.object b.object) t in
    let q = and_yes (eqb a.subject b.subject) (eqb a.predicate b.predicate) r.0 in
    fact-eq a b (eqb_yes q.0) (eqb_yes q.1) (eqb_yes r.1)

pub same_self : (a : Fact) → T (same a a)
unfolding same
same_self a =
    yes_and (eqb a.subject a.subject && eqb a.predicate a.predicate) _
    (yes_and (eqb a.subject a.subject) _ (eqb_refl a.subject) (eqb_refl a.predicate)) (eqb_refl a.object)

-- ---- the table of rows

recast : {n : ℕ} {p q r p' q' r' : Fact} → p ≡ p' → q ≡ q' → r ≡ r' → Gives n p' q' r' → Gives n p q r
recast e f g x = rw (e, f, g) x

-- what fits a row is what the filled row gives
fits-says : (w : Row) {n : ℕ} (p q r : Fact) → Gives n (fact p.subject w.first p.object) (fill w.second p q) (fill w.result p q) → T (fits_row w p q r) → Gives n p q r
unfolding fits_row
fits-says w p q r g t =
    let x = and_yes (eqb p.predicate w.first && same q (fill w.second p q)) (same r (fill w.result p q)) t in
    let y = and_yes (eqb p.predicate w.first) (same q (fill w.second p q)) x.0 in
    recast (fact-eq p (fact p.subject w.first p.object) refl (eqb_yes y.0) refl) (same-eq q _ y.1) (same-eq r _ x.1) g

gives-says : (n : ℕ) (p q r : Fact) → T (gives n p q r) → Gives n p q r
unfolding gives
gives-says zero p q r t = absurd t
gives-says (suc zero) p q r t = fits-says (row 1) p q r sp-sp t
gives-says (suc (suc zero)) p q r t = fits-says (row 2) p q r sp-data t
gives-says (suc (suc (suc zero))) p q r t = fits-says (row 3) p q r sc-sc t
gives-says (suc (suc (suc (suc zero)))) p q r t = fits-says (row 4) p q r sc-type t
gives-says (suc (suc (suc (suc (suc zero))))) p q r t = fits-says (row 5) p q r dom-data t
gives-says (suc (suc (suc (suc (suc (suc zero)))))) p q r t = fits-says (row 6) p q r range-data t
gives-says (suc (suc (suc (suc (suc (suc (suc n))))))) p q r t =
    let k : ℕ = suc (suc (suc (suc (suc (suc (suc n)))))) in
    let h = and_yes (ltb 0 k) (leb k 6) (and_yes (ltb 0 k && leb k 6) (fits_row (row k) p q r) t).0 in
    absurd (omega (arith, leb→le k 6 h.1))

self : (n : ℕ) → eqb n n ≡ true
self n = of_T (eqb n n) (eqb_refl n)

gives-is : {n : ℕ} {p q r : Fact} → Gives n p q r → gives n p q r ≡ true
unfolding gives
gives-is sp-sp = simp self
gives-is sp-data = simp self
gives-is sc-sc = simp self
gives-is sc-type = simp self
gives-is dom-data = simp self
gives-is range-data = simp self

-- ---- a step

pub step-rule : (n : ℕ) (p q r : Fact) → T (step_test n p q r) ↔ Rule n p q r
unfolding step_test
step-rule n p q r =
    let two : Bool = gives n p q r && well_formed p in (
      λ t. let x = and_yes (two && well_formed q) (well_formed r) t in
          let y = and_yes two (well_formed q) x.0 in
          let z = and_yes (gives n p q r) (well_formed p) y.0 in
          record { gives = gives-says n p q r z.0; first = z.1; second = y.1; result = x.1 },
      λ s. yes_and (two && well_formed q) _ (yes_and two _ (yes_and (gives n p q r) _ (T_of _ (gives-is s.gives)) s.first) s.second) s.result,
    )

-- no rule has the number 0
pub rule-numbered : (p q r : Fact) → Rule 0 p q r → ⊥
unfolding step_test
rule-numbered p q r s = T_of (gives 0 p q r) (gives-is s.gives)

-- ---- a line

line_eq : (l : Line) (n i j : ℕ) → l.rule ≡ n → l.first ≡ i → l.second ≡ j → l ≡ derivation_line n i j l.fact
line_eq l n i j e f g = λ x. record { rule = e x; first = f x; second = g x; fact = l.fact }

pub justified-is : {table : List Fact} {before : List Line} {l : Line} → Justified Rule table before l → T (justified table before l)
unfolding justified
justified-is (by-table {f} m) = in-any (same f) m (same_self f)
justified-is (by-rule {n} {i} {j} {p} {q} {r} e g s) =
    rw (of-F (eqb n 0) (not_T (eqb n 0) (λ z. let x : n ≡ 0 = eqb_yes z in rule-numbered p q r (rw x at s))), e, g) ((step-rule n p q r).1 s)

pub justified-says : (table : List Fact) (before : List Line) (l : Line) → T (justified table before l) → Justified Rule table before l
unfolding justified
justified-says table before l t =
    by_cases (eqb l.rule 0)
    (λ e. let x = and_yes (eqb l.first 0 && eqb l.second 0) (any (same l.fact) table) (rw e at t) in
    let y = and_yes (eqb l.first 0) (eqb l.second 0) x.0 in
    let a = any-in (same l.fact) table x.1 in
    rw (line_eq l 0 0 0 (eqb_yes (T_of _ e)) (eqb_yes y.0) (eqb_yes y.1)) (by-table (Memᴰ.cast (same-eq l.fact a.0 a.2) a.1)))
    (λ e. go (fact_on before l.first) (fact_on before l.second) refl refl (rw e at t))
  where
    go : (a b : Option Fact) → fact_on before l.first ≡ a → fact_on before l.second ≡ b → T (step_from l.rule a b l.fact) → Justified Rule table before l
    go none b e f t = absurd t
    go (some p) none e f t = absurd t
    go (some p) (some q) e f t = by-rule e f ((step-rule l.rule p q l.fact).0 t)

-- ---- what the code tests

-- a number that no row has
pub step-beyond : (n : ℕ) (p q r : Fact) → ((0 < n) × (n ≤ length rows) → ⊥) → false ≡ step_test n p q r
unfolding step_test
step-beyond n p q r h =
    by_cases (ltb 0 n)
    (λ e. by_cases (leb n 6) (λ g. absurd (h (ltb-true 0 n e, leb-true n 6 g))) (λ g. rw (e, g)))
    (λ e. rw e)

-- a number that a row has
pub step_row : (n : ℕ) (p q r : Fact) → (0 < n) × (n ≤ length rows) → fits_row (row n) p q r && well_formed p && well_formed q && well_formed r ≡ step_test n p q r
unfolding step_test
step_row n p q r h = rw (lt-ltb 0 n h.0, le-leb n 6 h.1)
