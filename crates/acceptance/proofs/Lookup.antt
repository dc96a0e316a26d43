-- Looking a fact up among facts in ascending order.
-- Assumes nothing.
use mathlib.Core.Path.{◌≡◌, refl, sym, ap, ◌∙◌}
use mathlib.Core.Logic.{⊎_elim}
use mathlib.Core.Bool.{Bool, true, false}
use mathlib.Core.List.{List, [], ◌∷◌}
use Prim.Native.Nat.{ℕ, zero, suc, ◌+◌, ◌<◌}
use native.Mathlib.Omega.{arith}
use native.Mathlib.Decide.{dec_lt}
use lib.ListN.{length, get_or}
use lib.Dec.{T}
use Rattle.std.specs.Prelude.{Result, Ok, Err}
use Rattle.std.specs.Cmp.{IsTotalOrder}
use Rattle.std.specs.List.{HoldsAt}
use Rattle.std.specs.List.Sorted.{IsNonDecreasingBy, IsBinarySearchResult, IsPartitionPoint, IsSearchInRange}
use Rattle.std.proofs.Common.{Ordering, Less, Equal, Greater}
use Rattle.std.specs.Ordering.{is_lt, ordering_index, ordering_then, nat_cmp}
use Rattle.std.specs.Result.{is_ok, IfOk}
use Rattle.std.proofs.lemmas.Cmp.{nat_cmp_total, on_total, then_total, tied_itself, tied_back}
use Rattle.std.proofs.lemmas.List.Sorted.{searchable_from_sorted}
use Rattle.facts.specs.declared.Fact.{Fact}
use Rattle.facts.specs.Facts.{before}
use Rattle.facts.proofs.Terms.{by_cases, T_of, of_T}
use Rattle.facts.proofs.Facts.{before-irreflexive, before-transitive, before-total}
use Rattle.facts.proofs.Order.{ordered-before}
use Rattle.table.proofs.Lists.{ascends-at}
use Rattle.rules.specs.Graph.{any}
use Rattle.rules.specs.Steps.{same}
use Rattle.rules.proofs.Steps.{same-eq, same_self}
use Rattle.acceptance.specs.Holds.{Ascends}

-- ---- the order of two facts, as `cmp` answers it

abbrev ordered : Fact → Fact → Ordering
ordered a b = ordering_then (nat_cmp a.subject b.subject) (ordering_then (nat_cmp a.predicate b.predicate) (nat_cmp a.object b.object))

total : IsTotalOrder ordered
total = then_total (on_total (λ a. a.subject) nat_cmp_total) (then_total (on_total (λ a. a.predicate) nat_cmp_total) (on_total (λ a. a.object) nat_cmp_total))

equal-says : (a b : Fact) → ordered a b ≡ Equal → a ≡ b
equal-says a b e = ⊎_elim (λ t. absurd (not-before a b e t)) (⊎_elim (λ k. k) (λ t. absurd (not-before b a (tied_back total a b e) t))) (before-total a b)
  where
    not-before : (x y : Fact) → ordered x y ≡ Equal → T (before x y) → ⊥
    not-before x y g t = let z : is_lt Equal ≡ true = sym (ap is_lt g) ∙ ordered-before x y ∙ of_T (before x y) t in cc

-- of two facts, one of which comes before the other, the other does not
not-back : (a b : Fact) → T (before a b) → is_lt (ordered b a) ≡ false
not-back a b t = ordered-before b a ∙ by_cases (before b a) (λ g. absurd (before-irreflexive a (before-transitive a b a t (T_of _ g)))) (λ e. e)

-- against a third, what comes later in ascending order answers no less
not-lower : (facts : List Fact) (f : Fact) → Ascends facts → IsNonDecreasingBy (λ y. ordering_index (ordered y f)) facts
not-lower facts f a =
    searchable_from_sorted total (λ y. y) facts f
    (λ k d _ h. let e : k + 1 ≡ suc k = omega arith in rw e (not-back _ _ (ascends-at facts k d (T_of _ a) (omega arith))))

-- ---- the search

any-at : (p : Fact → Bool) (l : List Fact) (i : ℕ) (d : Fact) → i < length l → p (get_or l i d) ≡ true → any p l ≡ true
unfolding any
any-at p [] i d h e = absurd (omega arith)
any-at p (x ∷ l) zero d h e = rw e
any-at p (x ∷ l) (suc i) d h e = by_cases (p x) (λ g. rw g) (λ g. rw g (any-at p l i d (omega arith) e))

any-none : (p : Fact → Bool) (l : List Fact) → ((i : ℕ) (d : Fact) → i < length l → p (get_or l i d) ≡ false) → any p l ≡ false
unfolding any
any-none p [] h = refl
any-none p (x ∷ l) h = rw (h 0 x (omega arith)) (any-none p l (λ i d k. h (suc i) d (omega arith)))

-- a binary search that finds a fact says that it is there, and one that finds none that it is not
pub look_up : (facts : List Fact) (f : Fact) (r : Result ℕ ℕ) → Ascends facts → IsSearchInRange r (length facts) → IfOk r (HoldsAt (λ y. ordered y f ≡ Equal) facts)
    → IsBinarySearchResult (λ y. ordered y f) facts r → is_ok r ≡ any (same f) facts
look_up facts f (Ok i) a b h s = sym (any-at (same f) facts i f b (rw (equal-says (get_or facts i f) f (h f)) (of_T _ (same_self f))))
look_up facts f (Err i) a b h s =
    let parts = s (not-lower facts f a) in
    sym (any-none (same f) facts (λ k d l. not-there (get_or facts k d) (λ e. split k d l e parts (dec_lt k i))))
  where
    not-there : (x : Fact) → (ordered x f ≡ Equal → ⊥) → same f x ≡ false
    not-there x n = by_cases (same f x) (λ e. absurd (n (rw (same-eq f x (T_of _ e)) (tied_itself total x)))) (λ e. e)

    split : (k : ℕ) (d : Fact) → k < length facts → ordered (get_or facts k d) f ≡ Equal
        → IsPartitionPoint (λ y. ordered y f ≡ Less) (λ y. ordered y f ≡ Greater) facts i → Dec (k < i) → ⊥
    split k d l e parts (yes p) = (let z : Less ≡ Equal = sym (parts.0 k d (omega arith) p) ∙ e in cc)
    split k d l e parts (no p) = (let z : Greater ≡ Equal = sym (parts.1 k d (omega arith) l) ∙ e in cc)
