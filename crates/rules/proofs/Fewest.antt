-- `fewest` gives the least number of table lines in any derivation of any filling; derivations and closed sets agree.
-- Assumes nothing.
use mathlib.Core.Path.{◌≡◌, refl, ap, ◌∙◌}
use mathlib.Core.Logic.{◌↔◌}
use mathlib.Core.Option.{Option, none, some}
use mathlib.Core.List.{List}
use Prim.Native.Nat.{ℕ, ◌≤◌}
use native.Mathlib.Omega.{arith}
use lib.ListN.{length}
use lib.Dec.{T}
use Rattle.facts.specs.declared.Fact.{Fact}
use Rattle.facts.specs.Facts.{well_formed}
use Rattle.facts.specs.Gaps.{Fills, Askable}
use Rattle.rules.specs.Graph.{◌∈◌, any, layer, nodes}
use Rattle.rules.specs.Rules.{Rule}
use Rattle.rules.specs.Derivations.{Line, Derives, Derivable, table_lines, Entailed}
use Rattle.rules.specs.Paths.{next, ways, HasPath, start_for, goal_for, HasPathFor, fewest, reaches}
use Rattle.rules.specs.Fillings.{DerivableFilling, RefutedFillings, LeastFilling}
use Rattle.rules.specs.Printed.{printed, print_order}
use Rattle.rules.proofs.Tests.{any-in, in-any}
use Rattle.rules.proofs.Graph.{Answer, least-answer, path-layer, layer-path}
use Rattle.rules.proofs.Derivations.{closed-derives, table_facts-in}
use Rattle.rules.proofs.Steps.{rule-numbered}
use Rattle.rules.proofs.Paths.{no-fewer, shorten, path-closed, holds}
use Rattle.rules.proofs.Printed.{path-pos, path-printable, path-count}
use Rattle.rules.proofs.Fillings.{filling-path, path-filling}

module _ (table : List Fact) (t : Fact) where
  reaches-is : (h : HasPathFor table t) → T (reaches table t h.count)
  unfolding reaches
  reaches-is h = in-any (λ w. any (goal_for t) (layer (start_for w t) (next w) table h.count)) h.asked (in-any (goal_for t) (path-layer _ _ table h.path) h.goal)

  reaches-says : (k : ℕ) → T (reaches table t k) → (h : HasPathFor table t) × (h.count ≡ k)
  unfolding reaches
  reaches-says k r =
      let x = any-in (λ w. any (goal_for t) (layer (start_for w t) (next w) table k)) (ways t) r in
      let y = any-in (goal_for t) (layer (start_for x.0 t) (next x.0) table k) x.2 in
      (record { way = x.0; asked = x.1; end = y.0; count = k; path = layer-path _ _ table k y.1; goal = y.2 }, refl)

  -- no path, or the number of facts of a shortest one
  abbrev pub Best : Option ℕ → Type 0
  Best none = HasPathFor table t → ⊥
  Best (some k) = ((h : HasPathFor table t) × (h.count ≡ k)) × ((h : HasPathFor table t) → k ≤ h.count)

  best : (o : Option ℕ) → Answer (reaches table t) 1 (length table) o → Best o
  best none a = λ h. let p = shorten table (λ f m. m) h in a p.0.count (path-pos p.0.path) (omega (arith, p.1)) (reaches-is p.0)
  best (some k) (from, r, least) = (reaches-says k r, λ h. least h.count (path-pos h.path) (reaches-is h))

  -- `fewest` is the length of a shortest path, and nothing else is
  pub fewest-best : Best (fewest table t)
  unfolding fewest
  fewest-best = best (fewest table t) (least-answer (reaches table t) 1 (length table))

  best-only : (o q : Option ℕ) → Best o → Best q → o ≡ q
  best-only none none a b = refl
  best-only none (some k) a b = absurd (a b.0.0)
  best-only (some j) none a b = absurd (b a.0.0)
  best-only (some j) (some k) a b = ap some (omega (arith, a.0.1, b.0.1, a.1 b.0.0, b.1 a.0.0))

  pub fewest-is : (o : Option ℕ) → Best o → fewest table t ≡ o
  fewest-is o b = best-only (fewest table t) o fewest-best b

-- for a table of well-formed facts
module _ (table : List Fact) (wf : (f : Fact) → f ∈ table → T (well_formed f)) where
  -- ---- any fact t

  module _ (t : Fact) where
    -- a path gives a derivation with as many table lines as it has facts
    pub path-derives : (h : HasPath table t) → (d : List Line) × Derives Rule table d t × (table_lines d ≡ h.count)
    path-derives h = let p = path-printable table wf h in (printed (print_order (nodes h.path)), p.derives, p.tables ∙ path-count h)

    -- a fact is derivable exactly where it is in every closed set that holds the table
    pub derivable-entailed : Derivable Rule table t ↔ Entailed Rule table t
    derivable-entailed = (
      λ g M c h. closed-derives Rule table M c (λ f m. h f (table_facts-in Rule table rule-numbered g.1 f m)) g.1,
      λ e. let d = path-derives (e (HasPath table) (path-closed table) (holds table)) in (d.0, d.1),
    )

  -- ---- a question t, which may have a gap

  module _ (t : Fact) (ask : Askable t) where
    -- a path gives a derivation of a filling
    filling-derives : (h : HasPathFor table t) → (u : Fact) × Fills t u × (d : List Line) × Derives Rule table d u × (table_lines d ≡ h.count)
    filling-derives h = let p = path-filling t wf ask h in let d = path-derives p.filling p.run in (p.filling, p.fills, d.0, d.1, d.2 ∙ p.count)

    -- a derivation of a filling from facts of the table gives a path of at most as many facts
    filling-path-for : (part : List Fact) → ((f : Fact) → f ∈ part → f ∈ table) → (u : Fact) → Fills t u → (d : List Line) → Derives Rule part d u
        → (h : HasPathFor table t) × (h.count ≤ table_lines d)
    filling-path-for part sub u f d g = let p = no-fewer {table = table} sub g in let q = filling-path ask f p.0 in (q.0, omega (arith, p.1, q.1))

    best-least : (k : ℕ) → Best table t (some k) → (u : Fact) × LeastFilling Rule table t k u
    best-least k (h, lowest) =
        let d = filling-derives h.0 in
        let low : (v : Fact) → Fills t v → (e : List Line) → Derives Rule table e v → k ≤ table_lines e =
        λ v f e g. let p = filling-path-for table (λ f m. m) v f e g in omega (arith, lowest p.0, p.1) in
        (d.0, record { fills = d.1; least = record { derivation = d.2; derives = d.3; count = d.4 ∙ h.1; lowest = low d.0 d.1 }; lowest = low })

    least-best : (k : ℕ) → (u : Fact) × LeastFilling Rule table t k u → Best table t (some k)
    least-best k (u, l) =
        let p = filling-path-for table (λ f m. m) u l.fills l.least.derivation l.least.derives in
        let low : (h : HasPathFor table t) → k ≤ h.count = λ h. let q = filling-derives h in omega (arith, l.lowest q.0 q.1 q.2 q.3, q.4) in
        ((p.0, omega (arith, low p.0, p.1, l.least.count)), low)

    -- the fewest over the table is a lower bound also for derivations from part of the table
    pub least-part : (k : ℕ) (u : Fact) → LeastFilling Rule table t k u → (part : List Fact) → ((f : Fact) → f ∈ part → f ∈ table)
        → (v : Fact) → Fills t v → (d : List Line) → Derives Rule part d v → k ≤ table_lines d
    least-part k u l part sub v f d g = let p = filling-path-for part sub v f d g in omega (arith, (least-best k (u, l)).1 p.0, p.1)

    -- `fewest` is the fewest table lines of any derivation of any filling
    pub fewest-least : (k : ℕ) → fewest table t ≡ some k ↔ ((u : Fact) × LeastFilling Rule table t k u)
    fewest-least k = (λ e. best-least k (rw e at (fewest-best table t)), λ l. fewest-is table t (some k) (least-best k l))

    -- and it is none exactly where no filling has a derivation
    pub fewest-none : fewest table t ≡ none ↔ (DerivableFilling Rule table t → ⊥)
    fewest-none = (
      λ e g. let b : Best table t none = rw e at (fewest-best table t) in b (filling-path-for table (λ f m. m) g.0 g.1 g.2.0 g.2.1).0,
      λ n. fewest-is table t none (λ h. let d = filling-derives h in n (d.0, d.1, (d.2, d.3))),
    )

    -- no filling has a derivation exactly where some closed set holds the table and lacks every filling
    pub underivable-refuted : (DerivableFilling Rule table t → ⊥) ↔ RefutedFillings Rule table t
    underivable-refuted = (
      λ n. (HasPath table, path-closed table, holds table, λ u f h. let d = path-derives u h in n (u, f, (d.0, d.1))),
      λ r g. r.3 g.0 g.1 ((derivable-entailed g.0).0 g.2 r.0 r.1 r.2),
    )

    pub fewest-refuted : fewest table t ≡ none ↔ RefutedFillings Rule table t
    fewest-refuted = (λ e. underivable-refuted.0 (fewest-none.0 e), λ r. fewest-none.1 (underivable-refuted.1 r))
