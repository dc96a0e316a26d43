-- `print_order`: the first place put behind the run of sp facts that follows it.
-- Assumes nothing.
use mathlib.Core.Path.{◌≡◌, refl, ap, ◌∙◌}
use mathlib.Core.Bool.{true, false}
use mathlib.Core.List.{List, [], ◌∷◌, ◌++◌, append_assoc}
use Prim.Native.Nat.{ℕ, suc, ◌+◌, ◌<◌}
use native.Mathlib.Omega.{arith}
use lib.ListN.{length, get_or, take, drop}
use Rattle.std.specs.List.{prefix_len}
use Rattle.facts.specs.declared.Fact.{Fact}
use Rattle.facts.proofs.Terms.{by_cases}
use Rattle.rules.specs.Paths.{named}
use Rattle.rules.specs.Chosen.{fact_in, place_behind, print_places}
use Rattle.question.specs.Order.{InPrint, chained}

module _ (facts : List Fact) where
  run-behind : (q : ℕ) (xs : List ℕ) → take (prefix_len (chained facts) xs) xs ++ (q ∷ drop (prefix_len (chained facts) xs) xs) ≡ place_behind (fact_in facts) q xs
  unfolding place_behind
  run-behind q [] = refl
  run-behind q (x ∷ xs) = let z : 1 + prefix_len (chained facts) xs ≡ suc (prefix_len (chained facts) xs) = omega arith in by_cases (chained facts x) (λ e. rw (e, z) (ap (λ (l : List ℕ). x ∷ l) (run-behind q xs))) (λ e. rw e refl)

  -- a turn of the first place and the run behind it puts the places in printed order
  pub turned-print : (before after : List ℕ) (k : ℕ) → 0 < length before → named (fact_in facts (get_or before 0 0)).predicate ≡ true → k ≡ prefix_len (chained facts) (drop 1 before)
      → after ≡ (drop 1 (take (k + 1) before) ++ take 1 (take (k + 1) before)) ++ drop (k + 1) before → InPrint facts before after
  unfolding print_places
  turned-print [] after k some name run e = absurd (omega arith)
  turned-print (q ∷ xs) after k some name run e =
      let n : ℕ = prefix_len (chained facts) xs in
      let z : k + 1 ≡ suc n = omega (arith, run) in
      let f : after ≡ (take n xs ++ (q ∷ [])) ++ drop n xs = rw z at e in
      rw name (f ∙ append_assoc (take n xs) (q ∷ []) (drop n xs) ∙ run-behind q xs)

  -- where no data fact begins them, the places are in printed order
  pub print-same : (places : List ℕ) → 0 < length places → named (fact_in facts (get_or places 0 0)).predicate ≡ false → InPrint facts places places
  unfolding print_places
  print-same [] some name = absurd (omega arith)
  print-same (q ∷ xs) some name = rw name refl
