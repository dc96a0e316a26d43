-- The numbers of a line, one by one.
-- Assumes nothing.
use Rattle.std.proofs.Common.{◌≡◌, ℕ, suc, ◌%◌, ◌<◌, List, [], ◌∷◌, map, length, get_or, refl, arith}
use Rattle.std.specs.Prelude.{Result, Ok, Err, OnOk, IfOk}
use Rattle.columns.specs.Lines.{Below}

-- a list whose items f makes of another's
pub mapped : (f : ℕ → ℕ) (xs ys : List ℕ) → length ys ≡ length xs → ((i : ℕ) → i < length xs → get_or ys i 0 ≡ f (get_or xs i 0)) → ys ≡ map f xs
mapped f [] [] e h = refl
mapped f [] (y ∷ ys) e h = absurd (omega arith)
mapped f (x ∷ xs) [] e h = absurd (omega arith)
mapped f (x ∷ xs) (y ∷ ys) e h =
    let first : y ≡ f x = h 0 (omega arith) in
    let rest : ys ≡ map f xs = mapped f xs ys (omega arith) (λ i l. h (suc i) (omega arith)) in
    rw (first, rest)

-- five digits of each number
pub five-digits : (xs : List ℕ) → Below (map (λ n. n % 100000) xs)
five-digits [] = tt
five-digits (x ∷ xs) = (omega arith, five-digits xs)

pub ok-more : {A E P Q : Type 0} (r : Result A E) → OnOk r P → (P → Q) → IfOk r (λ _. Q)
ok-more (Ok x) p f = f p
ok-more (Err x) p f = tt
