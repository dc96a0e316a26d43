-- An input of at most 32,768 bytes has few questions; how many bytes of its output were printed.
-- Assumes nothing.
use mathlib.Core.Path.{◌≡◌, refl, ap, ◌∙◌}
use mathlib.Core.List.{List, [], ◌++◌}
use Prim.Native.Nat.{ℕ, zero, suc, ◌+◌, ◌-◌, ◌≤◌}
use native.Mathlib.Omega.{arith}
use native.Mathlib.Nat.{add-zero, zero-add}
use Rattle.columns.specs.Lines.{flat, items_from}
use Rattle.columns.proofs.Lists.{flat_append}
use Rattle.facts.specs.declared.Refusal.TheVariants.{Form}
use Rattle.facts.specs.Results.{Refused}
use Rattle.batch.specs.Input.{layout_of, parts}
use Rattle.batch.specs.Output.{code_line, reply_in, output_by, output_of}
use Rattle.batch.proofs.Whole.{layout-questions, replies-output}
use Rattle.std.specs.Prelude.{Result, None, Some}
use Rattle.printer.specs.declared.Cut.{Cut}
use Rattle.printer.specs.Replies.{replies, Counted, CountedReplies}

pub parts-few : (b : List ℕ) (size n : ℕ) → layout_of b ≡ Some (parts size n) → n ≤ 2048
parts-few b size n e = let q = layout-questions b size n e in omega arith

-- a torn input's output is the line of its refusal
pub torn-counted : (b : List ℕ) (r : Result ℕ Cut) → layout_of b ≡ None → Counted (code_line (Refused Form 0)) r → Counted (output_of b) r
unfolding output_of output_by
torn-counted b r e c = rw e c

-- and so is what is said of that line
pub torn-is : (b : List ℕ) (P : List ℕ → Type 0) → layout_of b ≡ None → P (code_line (Refused Form 0)) → P (output_of b)
unfolding output_of output_by
torn-is b P e p = rw e p

-- items, and those behind them
items-behind : {A : Type 0} (at : ℕ → A) (k m i : ℕ) → items_from at i (k + m) ≡ items_from at i k ++ items_from at (i + k) m
unfolding items_from
items-behind at zero m i = rw (zero-add, add-zero)
items-behind at (suc k) m i =
    let e : suc k + m ≡ suc (k + m) = omega arith in
    let f : suc i + k ≡ i + suc k = omega arith in
    rw (e, items-behind at k m (suc i), f)

nothing : (piece : ℕ → List ℕ) (i : ℕ) → flat piece (items_from (λ k. k) i 0) ≡ []
unfolding flat items_from
nothing piece i = refl

-- and any other's are the replies, of which the first ones are the front
pub replies-counted : (b : List ℕ) (size n : ℕ) (r : Result ℕ Cut) → layout_of b ≡ Some (parts size n) → CountedReplies b size n r → Counted (output_of b) r
replies-counted b size n r e c =
    let piece : ℕ → List ℕ = λ k. reply_in b size k 63473 in
    let m = n - c.count in
    let n-is : n ≡ c.count + m = omega (arith, c.within) in
    let behind = flat piece (items_from (λ k. k) (0 + c.count) m) in
    let all : output_of b ≡ replies b size n = replies-output b size n 63473 e (omega arith) in
    let cut : replies b size n ≡ replies b size c.count ++ behind =
    ap (replies b size) n-is ∙ rw (items-behind (λ k. k) c.count m 0) (flat_append piece (items_from (λ k. k) 0 c.count) _) in
    record {
      front = replies b size c.count;
      rest = behind;
      parts = all ∙ cut;
      bytes = c.bytes;
      whole = λ w. let z : m ≡ 0 = omega (arith, c.whole w) in rw z (nothing piece (0 + c.count));
    }

-- what is said of the replies is said of the output
pub replies-are : (b : List ℕ) (size n : ℕ) (P : List ℕ → Type 0) → layout_of b ≡ Some (parts size n) → P (replies b size n) → P (output_of b)
replies-are b size n P e p = rw (replies-output b size n 63473 e (omega arith)) p
