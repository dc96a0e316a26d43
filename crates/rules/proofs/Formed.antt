-- The rules stay among the well-formed facts (document 02, Point 2): from well-formed premises each gives a well-formed fact. So no step
-- is barred by its result, and every line of a derivation over well-formed facts is well-formed.
-- Assumes nothing.
use mathlib.Core.Path.{◌≡◌, refl}
use mathlib.Core.Logic.{◌↔◌, ⊎_elim}
use mathlib.Core.Bool.{true, false}
use mathlib.Core.List.Memᴰ
use mathlib.Core.List.{List, [], ◌∷◌, ◌++◌}
use Prim.Native.Nat.{ℕ}
use lib.Dec.{T}
use Rattle.facts.specs.declared.Fact.{Fact}
use Rattle.facts.specs.Terms.{kind_of, is_name, sc, sp, dom, range, type}
use Rattle.facts.specs.Facts.{fact, named_object, is_node, is_predicate, well_formed}
use Rattle.facts.proofs.Terms.{T_of}
use Rattle.facts.proofs.Facts.{parts, whole, subject-name, object-name, name_free, data-nodes}
use Rattle.rules.specs.Graph.{◌∈◌}
use Rattle.rules.specs.Rules.{Gives, sp-sp, sp-data, sc-sc, sc-type, dom-data, range-data, Rule}
use Rattle.rules.specs.Derivations.{Line, Justified, by-table, by-rule, Justify, Derives, Holds}
use Rattle.rules.proofs.Tests.{or_l}
use Rattle.rules.proofs.Derivations.{LinesIn, fact_on-M}

-- the subject and the object of an sp fact are names
pub sp-names : (A B : ℕ) → T (well_formed (fact A sp B)) → (is_name (kind_of A) ≡ true) × (is_name (kind_of B) ≡ true)
unfolding named_object
sp-names A B w = (subject-name (fact A sp B) w refl, object-name (fact A sp B) w refl)

-- a fact that gives a type
typing : (X B : ℕ) → T (is_node false X) → T (is_node true B) → T (well_formed (fact X type B))
unfolding named_object is_predicate
typing X B x b = whole (fact X type B) x tt b

-- from well-formed premises a rule gives a well-formed fact
pub gives-formed : {n : ℕ} {p q r : Fact} → Gives n p q r → T (well_formed p) → T (well_formed q) → T (well_formed r)
unfolding named_object is_predicate
gives-formed (sp-sp {A} {B} {C}) u v = let p = parts (fact A sp B) u in whole (fact A sp C) p.0 p.1 (parts (fact B sp C) v).2
gives-formed (sp-data {A} {B} {X} {Y}) u v =
    let n = sp-names A B u in
    let z = data-nodes (fact X A Y) v n.0 in
    let f = name_free B n.1 in
    whole (fact X B Y) (rw f.0 z.0) (or_l (is_name (kind_of B)) _ (T_of _ n.1)) (rw f.1 z.1)
gives-formed (sc-sc {A} {B} {C}) u v = let p = parts (fact A sc B) u in whole (fact A sc C) p.0 p.1 (parts (fact B sc C) v).2
gives-formed (sc-type {A} {B} {X}) u v = typing X B (parts (fact X type A) v).0 (parts (fact A sc B) u).2
gives-formed (dom-data {A} {B} {X} {Y}) u v = typing X B (data-nodes (fact X A Y) v (subject-name (fact A dom B) u refl)).0 (parts (fact A dom B) u).2
gives-formed (range-data {A} {B} {X} {Y}) u v = typing Y B (data-nodes (fact X A Y) v (subject-name (fact A range B) u refl)).1 (parts (fact A range B) u).2

pub gives-rule : {n : ℕ} {p q r : Fact} → Gives n p q r → T (well_formed p) → T (well_formed q) → Rule n p q r
gives-rule g u v = record { gives = g; first = u; second = v; result = gives-formed g u v }

-- ---- derivations over well-formed facts

abbrev Formed : Fact → Type 0
Formed f = T (well_formed f)

module _ (table : List Fact) (wf : Holds Formed table) where
  -- a line that is justified is well-formed
  pub line-formed : {before : List Line} {l : Line} → Justified Rule table before l → T (well_formed l.fact)
  line-formed (by-table {f} m) = wf f m
  line-formed (by-rule x y s) = s.result

  lines-formed : (before d : List Line) → Justify Rule table before d → LinesIn Formed d
  unfolding Justify
  lines-formed before [] j l m = absurd (Memᴰ.not-nil m)
  lines-formed before (k ∷ d) j l m =
      ⊎_elim (λ (e : l ≡ k). rw e (line-formed j.0)) (λ (i : l ∈ d). lines-formed (before ++ (k ∷ [])) d j.1 l i) (Memᴰ.cases_cons m)

  -- every line of a derivation is well-formed
  pub derives-formed : {d : List Line} {t : Fact} → Derives Rule table d t → (l : Line) → l ∈ d → T (well_formed l.fact)
  derives-formed {d} h = lines-formed [] d h.lines

  line-rule : {before : List Line} {l : Line} → LinesIn Formed before → Justified Gives table before l → Justified Rule table before l
  line-rule h (by-table m) = by-table m
  line-rule {before} h (by-rule {n} {i} {j} {p} {q} {r} x y g) = by-rule x y (gives-rule g (fact_on-M Formed before i h x) (fact_on-M Formed before j h y))

  lines-rule : (before d : List Line) → LinesIn Formed before → Justify Gives table before d → Justify Rule table before d
  unfolding Justify
  lines-rule before [] h j = j
  lines-rule before (l ∷ d) h j =
      let x = line-rule h j.0 in
      (x, lines-rule (before ++ (l ∷ [])) d (λ k i. ⊎_elim (h k) (λ (e : k ∈ l ∷ []). rw (Memᴰ.eq_of_singleton e) (line-formed x)) (Memᴰ.append_cases before i)) j.1)

  line_gives : {before : List Line} {l : Line} → Justified Rule table before l → Justified Gives table before l
  line_gives (by-table m) = by-table m
  line_gives (by-rule x y s) = by-rule x y s.gives

  lines-give : (before d : List Line) → Justify Rule table before d → Justify Gives table before d
  unfolding Justify
  lines-give before [] j = j
  lines-give before (l ∷ d) j = (line_gives j.0, lines-give (before ++ (l ∷ [])) d j.1)

  -- no step is barred by what it gives: the rules as they are written derive what they derive over well-formed triples
  pub derives-unbarred : {d : List Line} {t : Fact} → Derives Gives table d t ↔ Derives Rule table d t
  derives-unbarred {d} = (
    λ h. record { lines = lines-rule [] d (λ l m. absurd (Memᴰ.not-nil m)) h.lines; last = h.last },
    λ h. record { lines = lines-give [] d h.lines; last = h.last },
  )
