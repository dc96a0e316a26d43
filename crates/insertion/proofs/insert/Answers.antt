-- `insertion::insert` meets its contract: the numbers from k on are copied one place further, and v is written over the first of them.
-- Assumes nothing.
use mathlib.Core.Path.{◌≡◌, ap, ◌∙◌}
use mathlib.Core.List.{List, ◌∷◌, ◌++◌, [], append_assoc}
use Prim.Native.Nat.{ℕ, suc, ◌+◌, ◌-◌, ◌≤◌, ◌<◌}
use native.Mathlib.Omega.{arith}
use native.Mathlib.Numerals.{add-one}
use lib.ListN.{length, get_or, take, drop, set}
use lib.Seq.{slice, take-suc, length-take-le, set_at, paste}
use Rattle.std.proofs.lemmas.Slice.{between_is}
use Rattle.ordered.specs.Inserted.{inserted}
use Rattle.insertion.proofs.insert.Goals as goal

copied : (l : List ℕ) (n k v : ℕ) → k ≤ n → n < length l → set (paste l (k + 1) (drop k l) (n - k)) k v ≡ inserted l n k v
unfolding inserted
copied l n k v h g =
    let m : k + 1 + (n - k) ≡ suc n = omega arith in
    let rest : List ℕ = slice k n l ++ drop (suc n) l in
    let t : take (k + 1) l ≡ take k l ++ (get_or l k 0 ∷ []) = rw add-one (take-suc l k 0 (omega arith)) in
    let f : paste l (k + 1) (drop k l) (n - k) ≡ take k l ++ (get_or l k 0 ∷ rest) = rw (t, m, between_is l k n) (simp append_assoc) in
    ap (λ (x : List ℕ). set x k v) f ∙ set_at (take k l) (get_or l k 0) rest v k (length-take-le k l (omega arith))

pub returns : goal.returns
returns c = rw c.copy_within.ensures.after (copied _ _ _ _ (omega arith) (omega arith))
