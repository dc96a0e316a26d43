-- The cases of an input: each a line of fields, and so many bytes behind it as the line's numbers say.
-- Assumes nothing.
use Rattle.std.specs.Prelude.{◌≡◌, ◌&&◌, ℕ, List, [], ◌∷◌, ◌++◌, length, take, drop, leb, cond, None, Some, ⊤, option_and_then}
use Rattle.std.specs.declared.option.Option.{Option}
use Rattle.columns.specs.Lines.{width, laid_out, numbers_at}

-- a case: the numbers of its line, and the bytes behind it
abbrev pub Case : Type 0
Case = List ℕ × List ℕ

-- the numbers of the line of k fields at the front of some bytes
abbrev pub head : ℕ → List ℕ → Option (List ℕ)
head k s = cond (leb (width k) (length s) && laid_out k s 0) (Some (numbers_at k s 0)) None

-- the case at the front of some bytes, and what stands behind it
abbrev pub next : ℕ → (List ℕ → Option ℕ) → List ℕ → Option (Case × List ℕ)
next k behind s = option_and_then (λ ns. option_and_then (λ n. cond (leb n (length (drop (width k) s))) (Some ((ns, take n (drop (width k) s)), drop n (drop (width k) s))) None) (behind ns)) (head k s)

-- bytes begin with these cases, one behind the other, and the rest stands behind the last
abbrev pub Begins : ℕ → (List ℕ → Option ℕ) → List Case → List ℕ → List ℕ → Type 0
Begins k behind [] s rest = s ≡ rest
Begins k behind (c ∷ cs) s rest = (t : List ℕ) × (next k behind s ≡ Some (c, t)) × Begins k behind cs t rest

-- known cases that were run grow by these
abbrev pub Ran : Option (List Case) → Option (List Case) → List Case → Type 0
Ran None new cs = ⊤
Ran (Some xs) None cs = ⊥
Ran (Some xs) (Some ys) cs = ys ≡ xs ++ cs

-- all cases of some bytes were run, up to the first that is none
abbrev pub RanAll : ℕ → (List ℕ → Option ℕ) → Option (List Case) → Option (List Case) → List ℕ → Type 0
RanAll k behind old new s = (cs : List Case) × (rest : List ℕ) × Ran old new cs × Begins k behind cs s rest × (next k behind rest ≡ None)
