-- The printed derivation grows by two lines with each fact: what a loop that prints needs.
-- Assumes nothing.
use mathlib.Core.Path.{◌≡◌, refl, sym, ap, ◌∙◌}
use mathlib.Core.List.{List, [], ◌∷◌, ◌++◌, append-nil}
use Prim.Native.Nat.{ℕ, suc, ◌+◌, ◌-◌, ◌*◌, ◌<◌}
use native.Mathlib.Omega.{arith}
use native.Mathlib.Nat.{zero-add}
use native.Mathlib.Numerals.{add-one}
use lib.ListN.{length, get_or, length-map, get_or-map}
use lib.Dec.{eqb}
use borrow.Author.Rules.{rules}
use Rattle.columns.specs.Lines.{Below, flat, items_from}
use Rattle.columns.proofs.Lists.{items-length, items-listed, items_more, flat_append}
use Rattle.facts.specs.declared.Fact.{Fact}
use Rattle.facts.specs.Facts.{fact}
use Rattle.facts.specs.Terms.{sc, sp, dom, range}
use Rattle.facts.proofs.Terms.{by_cases}
use Rattle.table.specs.Tables.{terms}
use Rattle.table.proofs.Tables.{terms-below}
use Rattle.table.proofs.Lists.{formed-at}
use Rattle.rules.specs.Chosen.{fact_in}
use Rattle.rules.specs.declared.Line.{Line}
use Rattle.rules.specs.Derivations.{derivation_line}
use Rattle.rules.specs.Paths.{named}
use Rattle.rules.specs.Printed.{join, join_all, printed, conclusion}
use Rattle.derivation.specs.Bytes.{line_numbers, line_bytes, derivation_bytes}
use Rattle.derivation.proofs.Bytes.{derivation-length}
use Rattle.question.specs.Order.{facts_at, Printing}

pub two-lines : (k l : Line) → derivation_bytes (k ∷ l ∷ []) ≡ line_bytes k ++ line_bytes l
unfolding flat
two-lines k l = ap (λ (y : List ℕ). line_bytes k ++ y) (append-nil (line_bytes l))

-- ---- lines

join_all-length : (c : Fact) (i : ℕ) (fs : List Fact) → length (join_all c i fs) ≡ 2 * length fs
unfolding join_all
join_all-length c i [] = refl
join_all-length c i (f ∷ fs) = omega (arith, join_all-length (join c i f).fact (suc (suc i)) fs)

-- k facts are printed on 2 k - 1 lines
pub printed-length : (fs : List Fact) → length (printed fs) ≡ 2 * length fs - 1
unfolding printed
printed-length [] = refl
printed-length (f ∷ fs) = omega (arith, join_all-length f 1 fs)

-- the result after the facts fs have been joined to c, on line i
unfoldable pub result_of : Fact → ℕ → List Fact → Fact
result_of c i [] = c
result_of c i (f ∷ fs) = result_of (join c i f).fact (suc (suc i)) fs

-- the result of a list of facts, or d where there is none
unfoldable pub result : Fact → List Fact → Fact
unfolding result_of
result d [] = d
result d (f ∷ fs) = result_of f 1 fs

joins-more : (c : Fact) (i : ℕ) (fs : List Fact) (f : Fact)
    → (join_all c i (fs ++ (f ∷ [])) ≡ join_all c i fs ++ (derivation_line 0 0 0 f ∷ join (result_of c i fs) (i + 2 * length fs) f ∷ []))
    × (result_of c i (fs ++ (f ∷ [])) ≡ (join (result_of c i fs) (i + 2 * length fs) f).fact)
unfolding join_all result_of
joins-more c i [] f = let e : i ≡ i + 2 * 0 = omega arith in (ap (λ (y : ℕ). derivation_line 0 0 0 f ∷ join c y f ∷ []) e, ap (λ (y : ℕ). (join c y f).fact) e)
joins-more c i (g ∷ fs) f =
    let e : suc (suc i) + 2 * length fs ≡ i + 2 * suc (length fs) = omega arith in
    let r = joins-more (join c i g).fact (suc (suc i)) fs f in
    let last : Fact = result_of (join c i g).fact (suc (suc i)) fs in (
      ap (λ (l : List Line). derivation_line 0 0 0 g ∷ join c i g ∷ l) (r.0 ∙ ap (λ (y : ℕ). join_all (join c i g).fact (suc (suc i)) fs ++ (derivation_line 0 0 0 f ∷ join last y f ∷ [])) e),
      r.1 ∙ ap (λ (y : ℕ). (join last y f).fact) e,
    )

-- one fact more is a table line, and the line that joins it to the result so far, on line 2 k - 1
printed-more : (d : Fact) (fs : List Fact) (f : Fact) → 0 < length fs
    → (printed (fs ++ (f ∷ [])) ≡ printed fs ++ (derivation_line 0 0 0 f ∷ join (result d fs) (2 * length fs - 1) f ∷ []))
    × (result d (fs ++ (f ∷ [])) ≡ (join (result d fs) (2 * length fs - 1) f).fact)
unfolding printed result
printed-more d [] f h = absurd (omega arith)
printed-more d (g ∷ fs) f h =
    let e : 1 + 2 * length fs ≡ 2 * suc (length fs) - 1 = omega arith in
    let r = joins-more g 1 fs f in (
      ap (λ (l : List Line). derivation_line 0 0 0 g ∷ l) (r.0 ∙ ap (λ (y : ℕ). join_all g 1 fs ++ (derivation_line 0 0 0 f ∷ join (result_of g 1 fs) y f ∷ [])) e),
      r.1 ∙ ap (λ (y : ℕ). (join (result_of g 1 fs) y f).fact) e,
    )

-- the result is the fact on the last line
ends-in : (l : Line) (c : Fact) (i : ℕ) (fs : List Fact) → l.fact ≡ c → conclusion (l ∷ join_all c i fs) ≡ result_of c i fs
unfolding conclusion join_all result_of
ends-in l c i [] e = e
ends-in l c i (f ∷ fs) e = ends-in (join c i f) (join c i f).fact (suc (suc i)) fs refl

result-ends : (d : Fact) (fs : List Fact) → 0 < length fs → conclusion (printed fs) ≡ result d fs
unfolding printed result
result-ends d [] h = absurd (omega arith)
result-ends d (f ∷ fs) h = ends-in (derivation_line 0 0 0 f) f 1 fs refl

-- ---- numbers

-- the terms of a fact to print have at most five digits
pub printing-below : {facts : List Fact} {places : List ℕ} {size : ℕ} → Printing facts places size → (k : ℕ) → k < length places → Below (terms (fact_in facts (get_or places k 0)))
printing-below {facts} {places} p k h = terms-below (fact_in facts (get_or places k 0)) (formed-at facts (get_or places k 0) (fact 0 0 0) p.formed (p.placed.inside k h))

-- where the terms of two facts have at most five digits, so have the numbers of the line that joins them
pub join-below : (c : Fact) (i : ℕ) (f : Fact) → i < 4096 → Below (terms c) → Below (terms f) → Below (line_numbers (join c i f))
unfolding join
join-below c i f h p q =
    by_cases (named f.predicate) (λ a. rw a (search rules)) (λ a.
    by_cases (eqb f.predicate sp) (λ b. rw (a, b) (search rules)) (λ b.
    by_cases (eqb f.predicate dom) (λ d. rw (a, b, d) (search rules)) (λ d.
    by_cases (eqb f.predicate range) (λ e. rw (a, b, d, e) (search rules)) (λ e.
    by_cases (eqb c.predicate sc) (λ g. rw (a, b, d, e, g) (search rules)) (λ g. rw (a, b, d, e, g) (search rules))))))

-- ---- bytes

-- the facts at places are given by number too
pub listed : (facts : List Fact) (places : List ℕ) → items_from (λ i. fact_in facts (get_or places i 0)) 0 (length places) ≡ facts_at facts places
listed facts places =
    let size : length (facts_at facts places) ≡ length places = length-map places (fact_in facts) in
    rw (← size) (items-listed (λ i. fact_in facts (get_or places i 0)) (facts_at facts places) 0 (fact_in facts 0)
    (λ j h. ap (λ (i : ℕ). fact_in facts (get_or places i 0)) (zero-add j) ∙ sym (get_or-map (fact_in facts) places j 0)))

-- the facts that `at` gives, printed one after the other
module _ (at : ℕ → Fact) where
  -- the bytes of the first k
  abbrev pub bytes_of : ℕ → List ℕ
  bytes_of k = derivation_bytes (printed (items_from at 0 k))

  -- and their result
  abbrev pub result_at : ℕ → Fact
  result_at k = result (at 0) (items_from at 0 k)

  pub bytes-length : (k : ℕ) → length (bytes_of k) ≡ 31 * (2 * k - 1)
  bytes-length k = rw (derivation-length, printed-length, items-length)

  pub bytes-first : bytes_of 1 ≡ line_bytes (derivation_line 0 0 0 (at 0))
  unfolding printed join_all items_from flat
  bytes-first = append-nil (line_bytes (derivation_line 0 0 0 (at 0)))

  pub result-first : result_at 1 ≡ at 0
  unfolding result result_of items_from
  result-first = refl

  pub result-last : (k : ℕ) → 0 < k → conclusion (printed (items_from at 0 k)) ≡ result_at k
  result-last k h = result-ends (at 0) (items_from at 0 k) (omega (arith, items-length at 0 k))

  pub bytes-more : (k : ℕ) → 0 < k → (bytes_of (k + 1) ≡ bytes_of k ++ derivation_bytes (derivation_line 0 0 0 (at k) ∷ join (result_at k) (2 * k - 1) (at k) ∷ []))
      × (result_at (k + 1) ≡ (join (result_at k) (2 * k - 1) (at k)).fact)
  bytes-more k h =
      let n : length (items_from at 0 k) ≡ k = items-length at 0 k in
      let r = printed-more (at 0) (items_from at 0 k) (at k) (omega (arith, n)) in
      let e : items_from at 0 (k + 1) ≡ items_from at 0 k ++ (at k ∷ []) = rw (add-one, items_more, zero-add) in
      (rw (e, r.0, flat_append, n), rw (e, r.1, n))
