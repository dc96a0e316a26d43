-- The end of a line, both ways: nothing, or a comment.
-- Assumes nothing.
use mathlib.Core.Path.{◌≡◌, sym, ap, ◌∙◌}
use mathlib.Core.Logic.{inl, inr, ⊎_elim}
use mathlib.Core.Bool.{Bool, true, false}
use mathlib.Core.List.{List, [], ◌++◌, append-nil}
use Prim.Native.Nat.{ℕ, ◌+◌, ◌≤◌}
use native.Mathlib.Omega.{arith}
use lib.ListN.{length, drop, length-drop, drop_of_length-le, get_or-eq_default}
use lib.Dec.{eqb, leb}
use borrow.Author.Tests.{eqb-true, eqb-false, leb-true, leb-false, le-leb}
use Rattle.facts.proofs.Terms.{by_cases}
use Rattle.ntriples.specs.declared.Class.TheVariants.{White, Comment}
use Rattle.ntriples.specs.Classes.{belongs}
use Rattle.ntriples.specs.Grammar.{Grammar, byte, then, Of, rest}
use Rattle.ntriples.specs.Lexed.{byte_at, run_end, ends, stops}
use Rattle.ntriples.proofs.Lexed.{sits, never, no-line-end}
use Rattle.ntriples.proofs.Lines.{ends-over, ends-not, ends-comment, stops-not, stops-some}
use Rattle.ntriples.proofs.Stands.{Stands, stands-in-front, stands-byte, stands-then, byte-then}
use Rattle.ntriples.proofs.Runs.{run_of, run-read, run-found}

abbrev comment : Grammar
comment = then (byte 35) (run_of Comment)

-- what stands up to the end is all there is from a place on
to_end : {g : Grammar} {s : List ℕ} {at to : ℕ} → Stands g s at to → length s ≤ to → Of g (drop at s)
to_end {g} {s} {at} {to} x h = let e : drop at s ≡ x.token = x.there ∙ ap (λ (l : List ℕ). x.token ++ l) (drop_of_length-le s h) ∙ append-nil x.token in rw e x.of

pub ends_read : (s : List ℕ) (at : ℕ) → ends s at ≡ true → Of rest (drop at s)
unfolding Of rest
ends_read s at h =
    by_cases (leb (length s) at)
    (λ e. inl (drop_of_length-le s (leb-true (length s) at e)))
    (λ e.
    let l = leb-false (length s) at e in
    by_cases (eqb (byte_at s at) 35)
    (λ p.
    let o = eqb-true (byte_at s at) 35 p in
    let k = leb-true (length s) (run_end Comment s (at + 1)) (sym (ends-comment s at l o) ∙ h) in
    inr (to_end (stands-then (stands-byte s at 35 o (omega arith)) (run-read Comment s (at + 1))) k))
    (λ p. never (sym (ends-not s at l (eqb-false (byte_at s at) 35 p)) ∙ h)))

over-end : (s : List ℕ) (at : ℕ) → drop at s ≡ [] → length s ≤ at
over-end s at e = omega (arith, length-drop at s, ap length e)

comment-found : (s : List ℕ) (at : ℕ) → Of comment (drop at s) → (byte_at s at ≡ 35) × (length s ≤ run_end Comment s (at + 1))
comment-found s at o =
    let to = at + length (drop at s) in
    let x : Stands comment s at to = stands-in-front comment s (drop at s) [] at (sym (append-nil (drop at s))) o in
    let b = byte-then x in
    let l : length s ≤ to = omega (arith, length-drop at s) in
    let e : byte_at s to ≡ 10 = get_or-eq_default s 10 l in
    (b.0, rw (run-found Comment b.1 (ap (belongs Comment) e ∙ no-line-end Comment)) l)

pub ends_found : (s : List ℕ) (at : ℕ) → Of rest (drop at s) → ends s at ≡ true
unfolding Of rest
ends_found s at o =
    ⊎_elim (λ (e : drop at s ≡ []). ends-over s at (over-end s at e))
    (λ (y : Of comment (drop at s)).
    let c = comment-found s at y in
    ends-comment s at (sits s at 35 c.0 (omega arith)) c.0 ∙ le-leb (length s) (run_end Comment s (at + 1)) c.1)
    o

-- what ends a line begins with # or, at its end, with nothing: a test that fails on both fails there
pub rest-fails : (t : ℕ → Bool) (s : List ℕ) (at : ℕ) → t 35 ≡ false → t 10 ≡ false → Of rest (drop at s) → t (byte_at s at) ≡ false
unfolding Of rest
rest-fails t s at e f o =
    ⊎_elim (λ (n : drop at s ≡ []). ap t (get_or-eq_default s 10 (over-end s at n)) ∙ f)
    (λ (y : Of comment (drop at s)). ap t (comment-found s at y).0 ∙ e)
    o

-- ---- a full stop, and then the end

pub stops-read : (s : List ℕ) (at : ℕ) → stops s at ≡ true → (byte_at s at ≡ 46) × Of rest (drop (run_end White s (at + 1)) s)
stops-read s at h =
    by_cases (eqb (byte_at s at) 46)
    (λ p. let o = eqb-true (byte_at s at) 46 p in (o, ends_read s (run_end White s (at + 1)) (sym (stops-some s at o) ∙ h)))
    (λ p. never (sym (stops-not s at (eqb-false (byte_at s at) 46 p)) ∙ h))
