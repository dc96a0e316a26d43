-- Facts that are joined one after the other by rules: they are in the printed order, and printed they are a derivation.
-- Assumes nothing.
use mathlib.Core.Path.{◌≡◌, refl, sym, ap, ◌∙◌}
use mathlib.Core.Logic.{⊎_elim, inl, inr}
use mathlib.Core.Bool.{true, cond}
use mathlib.Core.Option.{some, none-ne-some}
use mathlib.Core.List.{List, [], ◌∷◌, ◌++◌, append-nil}
use Prim.Native.Nat.{ℕ, zero, suc, ◌+◌}
use native.Mathlib.Omega.{arith}
use lib.Seq.{append_snoc}
use lib.ListN.{length, length-append}
use lib.Dec.{T, leb, eqb}
use borrow.Author.Tests.{ne_eqb}
use mir.Facts.{or_yes, eqb_yes}
use Rattle.facts.specs.declared.Fact.{Fact}
use Rattle.facts.specs.Terms.{kind_of, sc, sp, dom, range}
use Rattle.facts.specs.Facts.{fact, named_subject, well_formed}
use Rattle.facts.proofs.Terms.{by_cases, T_of}
use Rattle.facts.proofs.Facts.{parts, subject-name}
use Rattle.rules.specs.Graph.{◌∈◌}
use Rattle.rules.specs.Rules.{Gives, sp-sp, sp-data, sc-sc, sc-type, dom-data, range-data, Rule}
use Rattle.rules.specs.Derivations.{Line, derivation_line, fact_on, Justified, by-table, by-rule, Justify, table_facts, table_lines}
use Rattle.rules.specs.Order.{Chain, AtMostOne, OfData, DomOrRange, FactsInOrder, RuleLine, Pairs, Alternates}
use Rattle.rules.specs.Paths.{named, only_table}
use Rattle.rules.specs.Printed.{join, join_all, printed, Printable}
use Rattle.rules.proofs.Formed.{sp-names}
use Rattle.rules.proofs.Paths.{open_of, Open, is-sc, is-sp, is-type}

-- a rule joins f to c, with c or with f as its first premise, and gives r
pub data Joined (c f r : Fact) : Type 0 where
  on-first : (n : ℕ) → T (leb n 3) → Rule n c f r → Joined c f r
  on-second : (n : ℕ) → T (leb 4 n) → Rule n f c r → Joined c f r

-- the facts fs of the table, joined to c one after the other, give t
pub data Joins (table : List Fact) : Fact → List Fact → Fact → Type 0 where
  done : {c : Fact} → Joins table c [] c
  more : {c f r t : Fact} {fs : List Fact} → f ∈ table → Joined c f r → Joins table r fs t → Joins table c (f ∷ fs) t

-- the facts fs of the table, joined one after the other, give the well-formed fact c
pub record Linear (table : List Fact) (c : Fact) (fs : List Fact) : Type 0 where
  pub head : Fact
  pub rest : List Fact
  pub head_in : head ∈ table
  pub joins : Joins table head rest c
  pub all : fs ≡ head ∷ rest
  pub formed : T (well_formed c)

-- ---- what is joined to what

-- the part of the printed order that ends with a result of the predicate p: the sp facts, the data fact, or what gives a type or
-- goes on from a class
unfoldable phase : ℕ → ℕ
unfolding kind_of
phase p = cond (named p) 1 (cond (eqb p sp) 0 2)

-- what is joined to c, and the result
data Joint (c f r : Fact) : Type 0 where
  sp-on : phase c.predicate ≡ 0 → f.predicate ≡ sp → c.object ≡ f.subject → phase r.predicate ≡ 0 → r.object ≡ f.object → Joint c f r
  data-on : phase c.predicate ≡ 0 → named f.predicate ≡ true → phase r.predicate ≡ 1 → Joint c f r
  type-on : phase c.predicate ≡ 1 → DomOrRange f.predicate → phase r.predicate ≡ 2 → Joint c f r
  sc-on : phase c.predicate ≡ 2 → f.predicate ≡ sc → c.object ≡ f.subject → phase r.predicate ≡ 2 → r.object ≡ f.object → Joint c f r

-- the line that joins f to c where c is the first premise, and where f is
join_first : {n : ℕ} {c f r : Fact} → Gives n c f r → T (well_formed c) → T (leb n 3)
    → ((i : ℕ) → join c i f ≡ derivation_line n i (suc i) r) × Joint c f r
unfolding join phase
join_first sp-sp u t = (λ i. refl, sp-on refl refl refl refl refl)
join_first (sp-data {A} {B} {X} {Y}) u t = let n = sp-names A B u in (λ i. rw n.0, data-on refl n.0 (rw n.1))
join_first sc-sc u t = (λ i. refl, sc-on refl refl refl refl refl)
join_first sc-type u t = absurd t
join_first dom-data u t = absurd t
join_first range-data u t = absurd t

join-second : {n : ℕ} {c f r : Fact} → Gives n f c r → T (well_formed f) → T (leb 4 n) → ((i : ℕ) → join c i f ≡ derivation_line n (suc i) i r) × Joint c f r
unfolding join phase named_subject
join-second sc-type u t = (λ i. refl, sc-on refl refl refl refl refl)
join-second (dom-data {A} {B} {X} {Y}) u t = (λ i. refl, type-on (rw (subject-name (fact A dom B) u refl)) (inl refl) refl)
join-second (range-data {A} {B} {X} {Y}) u t = (λ i. refl, type-on (rw (subject-name (fact A range B) u refl)) (inr refl) refl)
join-second sp-sp u t = absurd t
join-second sp-data u t = absurd t
join-second sc-sc u t = absurd t

joint : {c f r : Fact} → Joined c f r → Joint c f r
joint (on-first n b s) = (join_first s.gives s.first b).1
joint (on-second n b s) = (join-second s.gives s.first b).1

-- ---- the facts are in the printed order

class-joint : {c f r : Fact} → phase c.predicate ≡ 2 → Joint c f r → (f.predicate ≡ sc) × (c.object ≡ f.subject) × (phase r.predicate ≡ 2) × (r.object ≡ f.object)
class-joint z (sc-on y q s y' o) = (q, s, y', o)
class-joint z (sp-on y q s y' o) = absurd (omega (arith, z, y))
class-joint z (data-on y n y') = absurd (omega (arith, z, y))
class-joint z (type-on y d y') = absurd (omega (arith, z, y))

data-joint : {c f r : Fact} → phase c.predicate ≡ 1 → Joint c f r → DomOrRange f.predicate × (phase r.predicate ≡ 2)
data-joint z (type-on y d y') = (d, y')
data-joint z (sp-on y q s y' o) = absurd (omega (arith, z, y))
data-joint z (data-on y n y') = absurd (omega (arith, z, y))
data-joint z (sc-on y q s y' o) = absurd (omega (arith, z, y))

-- a dom or range fact, and then the sc facts
record Typing (fs : List Fact) : Type 0 where
  typing : List Fact
  scs : List Fact
  both : fs ≡ typing ++ scs
  one-typing : AtMostOne DomOrRange typing
  sc-chain : Chain sc scs

-- what comes behind the sp fact a: more of them, and then the rest
record Behind (a : Fact) (fs : List Fact) : Type 0 where
  sps : List Fact
  data-fact : List Fact
  rest : List Fact
  all : fs ≡ sps ++ (data-fact ++ rest)
  sp-chain : Chain sp (a ∷ sps)
  one-data : AtMostOne OfData data-fact
  typing : Typing rest

module _ {table : List Fact} where
  -- the facts behind a fact a of the sc chain, where the result so far is c
  sc-from : (a : Fact) {c t : Fact} {fs : List Fact} → a.predicate ≡ sc → a.object ≡ c.object → phase c.predicate ≡ 2 → Joins table c fs t → Chain sc (a ∷ fs)
  unfolding Chain
  sc-from a p e z done = p
  sc-from a p e z (more {f} m j js) = let x = class-joint z (joint j) in (p, e ∙ x.1, sc-from f x.0 (sym x.3) x.2 js)

  -- the facts behind one that gives a type
  sc-after : {c t : Fact} {fs : List Fact} → phase c.predicate ≡ 2 → Joins table c fs t → Chain sc fs
  unfolding Chain
  sc-after z done = tt
  sc-after z (more {f} m j js) = let x = class-joint z (joint j) in sc-from f x.0 (sym x.3) x.2 js

  -- the facts behind the data fact
  typing-after : {c t : Fact} {fs : List Fact} → phase c.predicate ≡ 1 → Joins table c fs t → Typing fs
  unfolding AtMostOne Chain
  typing-after z done = record { typing = []; scs = []; both = refl; one-typing = tt; sc-chain = tt }
  typing-after z (more {f} {fs = fs} m j js) =
      let x = data-joint z (joint j) in
      record { typing = f ∷ []; scs = fs; both = refl; one-typing = x.0; sc-chain = sc-after x.1 js }

  -- the facts behind an sp fact a
  sp-from : {a c t : Fact} {fs : List Fact} → a.predicate ≡ sp → a.object ≡ c.object → phase c.predicate ≡ 0 → Joins table c fs t → Behind a fs
  unfolding AtMostOne Chain
  sp-from p e z done =
      record { sps = []; data-fact = []; rest = []; all = refl; sp-chain = p; one-data = tt; typing = record { typing = []; scs = []; both = refl; one-typing = tt; sc-chain = tt } }
  sp-from {a} {c} p e z (more {f} {r} {fs = fs} m j js) = go (λ q o y. sp-from q o y js) (joint j)
    where
      go : (f.predicate ≡ sp → f.object ≡ r.object → phase r.predicate ≡ 0 → Behind f fs) → Joint c f r → Behind a (f ∷ fs)
      go on (sp-on y q s y' o) =
          let b = on q (sym o) y' in
          record {
            sps = f ∷ b.sps;
            data-fact = b.data-fact;
            rest = b.rest;
            all = ap (λ (l : List Fact). f ∷ l) b.all;
            sp-chain = (p, e ∙ s, b.sp-chain);
            one-data = b.one-data;
            typing = b.typing;
          }
      go on (data-on y n y') = record { sps = []; data-fact = f ∷ []; rest = fs; all = refl; sp-chain = p; one-data = inl n; typing = typing-after y' js }
      go on (type-on y d y') = absurd (omega (arith, z, y))
      go on (sc-on y q s y' o) = absurd (omega (arith, z, y))

  -- facts that are joined one after the other are in order
  in_order : {a t : Fact} {fs : List Fact} → T (well_formed a) → Joins table a fs t → FactsInOrder (a ∷ fs)
  unfolding AtMostOne Chain phase only_table
  in_order {a} {fs = fs} w js =
      by_cases (named a.predicate) data-first
      (λ n. by_cases (only_table a.predicate)
      (λ o. ⊎_elim (λ d. let e : a.predicate ≡ dom = eqb_yes d in typed (inl e) (ap phase e))
      (λ r. let e : a.predicate ≡ range = eqb_yes r in typed (inr e) (ap phase e)) (or_yes (eqb a.predicate dom) (eqb a.predicate range) (T_of _ o)))
      (λ o. others (open_of a.predicate (parts a w).1 n o) refl))
    where
      data-first : named a.predicate ≡ true → FactsInOrder (a ∷ fs)
      data-first n = let x = typing-after (rw n) js in record {
        sps = [];
        data-fact = a ∷ [];
        typing = x.typing;
        scs = x.scs;
        parts = ap (λ (l : List Fact). a ∷ l) x.both;
        sp-chain = tt;
        one-data = inl n;
        one-typing = x.one-typing;
        sc-chain = x.sc-chain;
      }

      typed : DomOrRange a.predicate → phase a.predicate ≡ 2 → FactsInOrder (a ∷ fs)
      typed d z = record { sps = []; data-fact = []; typing = a ∷ []; scs = fs; parts = refl; sp-chain = tt; one-data = tt; one-typing = d; sc-chain = sc-after z js }

      others : {P : ℕ} → Open P → a.predicate ≡ P → FactsInOrder (a ∷ fs)
      others is-sc e = record { sps = []; data-fact = []; typing = []; scs = a ∷ fs; parts = refl; sp-chain = tt; one-data = tt; one-typing = tt; sc-chain = sc-from a e refl (ap phase e) js }
      others is-sp e = let x = sp-from {a = a} e refl (ap phase e) js in let y = x.typing in record {
        sps = a ∷ x.sps;
        data-fact = x.data-fact;
        typing = y.typing;
        scs = y.scs;
        parts = ap (λ (l : List Fact). a ∷ l) (x.all ∙ ap (λ (l : List Fact). x.sps ++ (x.data-fact ++ l)) y.both);
        sp-chain = x.sp-chain;
        one-data = x.one-data;
        one-typing = y.one-typing;
        sc-chain = y.sc-chain;
      }
      others is-type e = record { sps = []; data-fact = a ∷ []; typing = []; scs = fs; parts = refl; sp-chain = tt; one-data = inr e; one-typing = tt; sc-chain = sc-after (ap phase e) js }

-- ---- the printed lines, whatever the facts

join-line : (c : Fact) (i : ℕ) (f : Fact) → RuleLine i (join c i f)
unfolding join
join-line c i f =
    by_cases (named f.predicate) (λ e. rw e first)
    (λ e. by_cases (eqb f.predicate sp) (λ g. rw (e, g) first)
    (λ g. by_cases (eqb f.predicate dom) (λ h. rw (e, g, h) second)
    (λ h. by_cases (eqb f.predicate range) (λ k. rw (e, g, h, k) second)
    (λ k. by_cases (eqb c.predicate sc) (λ l. rw (e, g, h, k, l) first) (λ l. rw (e, g, h, k, l) second)))))
  where
    first : {n : ℕ} {r : Fact} → RuleLine i (derivation_line (suc n) i (suc i) r)
    first = record { by-rule = omega arith; premises = inl (refl, refl) }

    second : {n : ℕ} {r : Fact} → RuleLine i (derivation_line (suc n) (suc i) i r)
    second = record { by-rule = omega arith; premises = inr (refl, refl) }

join_all-pairs : (c : Fact) (i : ℕ) (fs : List Fact) → Pairs i (join_all c i fs)
unfolding Pairs join_all
join_all-pairs c i [] = tt
join_all-pairs c i (f ∷ fs) = (refl, join-line c i f, join_all-pairs (join c i f).fact (suc (suc i)) fs)

join_all-facts : (c : Fact) (i : ℕ) (fs : List Fact) → table_facts (join_all c i fs) ≡ fs
unfolding table_facts join_all
join_all-facts c i [] = refl
join_all-facts c i (f ∷ fs) =
    rw (ne_eqb (join c i f).rule 0 (λ e. omega (arith, (join-line c i f).by-rule, e)))
    (ap (λ (l : List Fact). f ∷ l) (join_all-facts (join c i f).fact (suc (suc i)) fs))

join_all-length : (c : Fact) (i : ℕ) (fs : List Fact) → length (join_all c i fs) ≡ length fs + length fs
unfolding join_all
join_all-length c i [] = refl
join_all-length c i (f ∷ fs) = omega (arith, join_all-length (join c i f).fact (suc (suc i)) fs)

-- ---- and they are a derivation

fact_on-left : (d e : List Line) (n : ℕ) {f : Fact} → fact_on d n ≡ some f → fact_on (d ++ e) n ≡ some f
unfolding fact_on
fact_on-left [] e n {f} h = absurd (none-ne-some f h)
fact_on-left (l ∷ d) e zero h = h
fact_on-left (l ∷ d) e (suc zero) h = h
fact_on-left (l ∷ d) e (suc (suc n)) h = fact_on-left d e (suc n) h

fact_on-snoc : (d : List Line) (l : Line) {i : ℕ} → length d ≡ i → fact_on (d ++ (l ∷ [])) (suc i) ≡ some l.fact
unfolding fact_on
fact_on-snoc d l e = rw (← e) (go d)
  where
    go : (d : List Line) → fact_on (d ++ (l ∷ [])) (suc (length d)) ≡ some l.fact
    go [] = refl
    go (k ∷ d) = go d

length-snoc : (d : List Line) (l : Line) {i : ℕ} → length d ≡ i → length (d ++ (l ∷ [])) ≡ suc i
length-snoc d l e = omega (arith, length-append d (l ∷ []))

-- the lines d behind the lines before are justified, and t is on the last
record Goes (table : List Fact) (before : List Line) (d : List Line) (t : Fact) : Type 0 where
  lines : Justify Rule table before d
  last : fact_on (before ++ d) (length (before ++ d)) ≡ some t

-- the line that joins f to c is justified by the lines before and the table line of f
joined_line : {table : List Fact} (before : List Line) {c f r : Fact} {i : ℕ} → Joined c f r → length before ≡ i → fact_on before i ≡ some c
    → Justified Rule table (before ++ (derivation_line 0 0 0 f ∷ [])) (join c i f) × ((join c i f).fact ≡ r)
joined_line before {f = f} {i = i} (on-first n b s) z h =
    rw ((join_first s.gives s.first b).0 i) (by-rule (fact_on-left before _ i h) (fact_on-snoc before (derivation_line 0 0 0 f) z) s, refl)
joined_line before {f = f} {i = i} (on-second n b s) z h =
    rw ((join-second s.gives s.first b).0 i) (by-rule (fact_on-snoc before (derivation_line 0 0 0 f) z) (fact_on-left before _ i h) s, refl)

print-joins : (table : List Fact) (before : List Line) (i : ℕ) {c t : Fact} {fs : List Fact} → length before ≡ i → fact_on before i ≡ some c → Joins table c fs t
    → Goes table before (join_all c i fs) t
unfolding join_all Justify
print-joins table before i z h done = record { lines = tt; last = rw (append-nil, z) h }
print-joins table before i z h (more {c} {f} {r} {t} {fs} m j js) =
    let g = joined_line {table = table} before j z h in
    let l : Line = join c i f in
    let y = length-snoc before (derivation_line 0 0 0 f) z in
    let b : List Line = before ++ (derivation_line 0 0 0 f ∷ []) in
    let p = print-joins table (b ++ (l ∷ [])) (suc (suc i)) (length-snoc b l y) (fact_on-snoc b l y ∙ ap some g.1) js in
    rw g.1 (record { lines = (by-table m, (g.0, p.lines)); last = rw (append_snoc, append_snoc) at p.last })

-- facts that are joined one after the other, the first of them well-formed, can be printed
pub printable : {table : List Fact} {t : Fact} {fs : List Fact} (l : Linear table t fs) → T (well_formed l.head) → Printable table t fs
unfolding printed Justify table_lines table_facts fact_on Alternates
printable {table} {t} l w =
    let p = print-joins table (derivation_line 0 0 0 l.head ∷ []) 1 refl refl l.joins in
    let e : table_facts (printed (l.head ∷ l.rest)) ≡ l.head ∷ l.rest = ap (λ (x : List Fact). l.head ∷ x) (join_all-facts l.head 1 l.rest) in
    rw l.all (record {
      derives = record { lines = (by-table l.head_in, p.lines); last = p.last };
      order = record { lines = (refl, join_all-pairs l.head 1 l.rest); facts = rw e (in_order w l.joins) };
      tables = ap length e;
      size = omega (arith, join_all-length l.head 1 l.rest);
    })
