-- What `shortest` and then `print_order` leave in the lent places: the chosen path, in printed order.
-- Assumes nothing.
use mathlib.Core.Path.{◌≡◌, refl, sym, ap, ◌∙◌}
use mathlib.Core.Logic.{⊎_elim}
use mathlib.Core.Option
use mathlib.Core.Option.{Option, none, some}
use Rattle.std.specs.Prelude.{Option as Maybe, None, Some}
use Rattle.std.proofs.lemmas.Option.{none-some, same_Some}
use mathlib.Core.List.Memᴰ
use mathlib.Core.List.{List, [], ◌∷◌}
use Prim.Native.Nat.{ℕ, suc, ◌≤◌, ◌<◌}
use native.Mathlib.Omega.{arith}
use lib.ListN.{length, get_or, take}
use lib.Seq.{take_at}
use lib.Dec.{eqb}
use borrow.Author.Tests.{le-leb, lt-leb}
use Rattle.columns.specs.Lines.{over}
use Rattle.facts.specs.declared.Fact.{Fact}
use Rattle.facts.specs.Results.{Yes, No, Long}
use Rattle.facts.specs.Terms.{sp}
use Rattle.facts.specs.Gaps.{filling_of}
use Rattle.facts.proofs.Terms.{by_cases}
use Rattle.rules.specs.Graph.{◌∈◌}
use Rattle.rules.specs.declared.Line.{Line}
use Rattle.rules.specs.Paths.{named, fewest}
use Rattle.rules.specs.Printed.{printed, conclusion}
use Rattle.derivation.specs.Bytes.{derivation_bytes}
use Rattle.rules.specs.Chosen.{chosen, fact_in, place_behind, print_places}
use Rattle.rules.proofs.Graph.{at_place}
use Rattle.rules.proofs.Printed.{path-pos}
use Rattle.rules.proofs.Chosen.{least-below, chosen-fewest, chosen-path, print-places}
use Rattle.question.specs.Answer.{found_of, places_of, Finds}
use Rattle.question.specs.Order.{Placed, InPrint, facts_at}
use Rattle.question.specs.Question.{answer_by, answer_of, derivation_of, derivation_for, filling_for, written, printed_for}

-- ---- the same places, in printed order

module _ (at : ℕ → Fact) where
  behind-in : (q : ℕ) (xs : List ℕ) {i : ℕ} → i ∈ place_behind at q xs → i ∈ (q ∷ xs)
  unfolding place_behind
  behind-in q [] m = m
  behind-in q (x ∷ xs) {i} m =
      by_cases (eqb (at x).predicate sp)
      (λ e. let m' : i ∈ (x ∷ place_behind at q xs) = rw e at m in
      ⊎_elim (λ (h : i ≡ x). Memᴰ.tail (Memᴰ.head h))
      (λ (h : i ∈ place_behind at q xs). ⊎_elim (λ (g : i ≡ q). Memᴰ.head g) (λ (g : i ∈ xs). Memᴰ.tail (Memᴰ.tail g)) (Memᴰ.cases_cons (behind-in q xs h)))
      (Memᴰ.cases_cons m'))
      (λ e. rw e at m)

  order-in : (l : List ℕ) {i : ℕ} → i ∈ print_places at l → i ∈ l
  unfolding print_places
  order-in [] m = m
  order-in (x ∷ xs) m = by_cases (named (at x).predicate) (λ e. behind-in x xs (rw e at m)) (λ e. rw e at m)

  behind-long : (q : ℕ) (xs : List ℕ) → length (place_behind at q xs) ≡ suc (length xs)
  unfolding place_behind
  behind-long q [] = refl
  behind-long q (x ∷ xs) = by_cases (eqb (at x).predicate sp) (λ e. rw e (ap suc (behind-long q xs))) (λ e. rw e refl)

  order-long : (l : List ℕ) → length (print_places at l) ≡ length l
  unfolding print_places
  order-long [] = refl
  order-long (x ∷ xs) = by_cases (named (at x).predicate) (λ e. rw e (behind-long x xs)) (λ e. rw e refl)

-- a yes by its count
by-yes : (limit f x : ℕ) {o : Option ℕ} → o ≡ some f → f ≤ limit → answer_by limit o x ≡ Yes f x
unfolding answer_by
by-yes limit f x e h = rw (e, le-leb f limit h)

-- ---- an answer with f facts

module _ (facts : List Fact) (t : Fact) (before after : List ℕ) {r : Maybe ℕ} (f : ℕ) (is : r ≡ Some f) (a : Finds facts t before after r) where
  -- it has the f places of the chosen path
  pub record Chosen : Type 0 where
    pub places : List ℕ
    pub chosen : chosen facts t ≡ some places
    pub count : length places ≡ f
    pub written : after ≡ over places before

  pub found-chosen : Chosen
  found-chosen = go (chosen facts t) refl a.result a.places
    where
      go : (o : Option (List ℕ)) → chosen facts t ≡ o → r ≡ found_of o → after ≡ places_of o before → Chosen
      go none x y z = absurd (none-some f (sym y ∙ is))
      go (some l) x y z = record { places = l; chosen = x; count = same_Some (length l) f (sym y ∙ is); written = z }

  pub found-fewest : fewest facts t ≡ some f
  found-fewest = let c = found-chosen in sym (chosen-fewest facts t) ∙ ap (Option.map length) c.chosen ∙ ap some c.count

  pub found-few : f ≤ length facts
  unfolding fewest
  found-few = omega (arith, least-below _ 1 (length facts) f found-fewest)

  -- they stand in front
  pub found-front : take f after ≡ found-chosen.places
  found-front = let c = found-chosen in ap (take f) c.written ∙ take_at c.places _ f c.count

  -- each of them has a fact
  placed : (l : List ℕ) → length l ≡ f → ((i : ℕ) → i ∈ l → i < length facts) → Placed facts l
  placed l long inside =
      let s = chosen-path facts t found-chosen.places found-chosen.chosen in
      record { some = omega (arith, path-pos s.path.path, s.count, found-chosen.count, long); inside = λ k h. inside (get_or l k 0) (at_place 0 l k h) }

  found_inside : (i : ℕ) → i ∈ found-chosen.places → i < length facts
  found_inside = (chosen-path facts t found-chosen.places found-chosen.chosen).inside

  pub found-placed : Placed facts (take f after)
  found-placed = rw found-front (placed found-chosen.places found-chosen.count found_inside)

  -- and after `print_order`
  module _ (after' : List ℕ) (p : InPrint facts (take f after) after') where
    ordered : after' ≡ print_places (fact_in facts) found-chosen.places
    ordered = p ∙ ap (print_places (fact_in facts)) found-front

    pub print-long : length after' ≡ f
    print-long = rw ordered (order-long (fact_in facts) found-chosen.places ∙ found-chosen.count)

    pub print-placed : Placed facts after'
    print-placed =
        let l = found-chosen.places in
        rw ordered (placed (print_places (fact_in facts) l) (order-long (fact_in facts) l ∙ found-chosen.count) (λ i m. found_inside i (order-in (fact_in facts) l m)))

    -- the derivation of the facts there is the one that is meant
    found-derivation : printed (facts_at facts after') ≡ derivation_for facts t
    unfolding derivation_for derivation_of
    found-derivation = rw (ordered, print-places (fact_in facts) found-chosen.places, found-chosen.chosen) refl

    -- and so is the term named
    found-filling : (x : ℕ) → x ≡ filling_of t (conclusion (printed (facts_at facts after'))) → x ≡ filling_for facts t
    unfolding filling_for
    found-filling x e = e ∙ ap (λ (l : List Line). filling_of t (conclusion l)) found-derivation

    -- ---- the answer, and the output

    pub settle-yes : (limit : ℕ) (entry exit : List ℕ) (x : ℕ) → f ≤ limit → x ≡ filling_of t (conclusion (printed (facts_at facts after')))
        → exit ≡ over (derivation_bytes (printed (facts_at facts after'))) entry → (Yes f x ≡ answer_of facts t limit) × (exit ≡ written (Yes f x) (printed_for facts t) entry)
    unfolding answer_of written printed_for
    settle-yes limit entry exit x h e g = (
      ap (Yes f) (found-filling x e) ∙ sym (by-yes limit f (filling_for facts t) found-fewest h),
      g ∙ ap (λ (l : List Line). over (derivation_bytes l) entry) found-derivation,
    )

  pub settle-long : (limit : ℕ) (output : List ℕ) → limit < f → (Long f ≡ answer_of facts t limit) × (output ≡ written (Long f) (printed_for facts t) output)
  unfolding answer_of answer_by written
  settle-long limit output h = (rw (found-fewest, lt-leb f limit h), refl)

pub settle-no : (facts : List Fact) (t : Fact) (before after : List ℕ) {r : Maybe ℕ} → r ≡ None → Finds facts t before after r → (limit : ℕ) (output : List ℕ)
    → (No ≡ answer_of facts t limit) × (output ≡ written No (printed_for facts t) output)
unfolding answer_of answer_by written
settle-no facts t before after {r} is a limit output = go (chosen facts t) refl a.result
  where
    go : (o : Option (List ℕ)) → chosen facts t ≡ o → r ≡ found_of o → (No ≡ answer_of facts t limit) × (output ≡ written No (printed_for facts t) output)
    go none x y = let e : fewest facts t ≡ none = sym (chosen-fewest facts t) ∙ ap (Option.map length) x in (rw e, refl)
    go (some l) x y = absurd (none-some (length l) (sym is ∙ y))
