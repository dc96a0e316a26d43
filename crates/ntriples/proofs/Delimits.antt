-- What may follow a token: white space, the < of a predicate, or the full stop.
-- Assumes nothing.
use mathlib.Core.Path.{◌≡◌, ap, ◌∙◌}
use mathlib.Core.Logic.{⊎_elim}
use mathlib.Core.Bool.{Bool, true, false, ◌||◌}
use mathlib.Core.List.{List}
use Prim.Native.Nat.{ℕ}
use native.Mathlib.Omega.{arith}
use lib.Dec.{T, eqb}
use mir.Facts.{or_yes, eqb_yes}
use borrow.Author.Tests.{eqb-true, eqb-false}
use Rattle.facts.proofs.Terms.{by_cases, T_of}
use Rattle.ntriples.specs.declared.Class.TheVariants.{White}
use Rattle.ntriples.specs.Classes.{belongs}
use Rattle.ntriples.specs.Grammar.{white}
use Rattle.ntriples.specs.Lexed.{byte_at}
use Rattle.ntriples.proofs.Stands.{Stands}
use Rattle.ntriples.proofs.Runs.{run-bytes}

-- a test that fails on space and tab fails on white space
white-fails : (t : ℕ → Bool) (b : ℕ) → t 32 ≡ false → t 9 ≡ false → belongs White b ≡ true → t b ≡ false
unfolding belongs
white-fails t b e f h = ⊎_elim (λ (x : T (eqb b 32)). ap t (eqb_yes x) ∙ e) (λ (x : T (eqb b 9)). ap t (eqb_yes x) ∙ f) (or_yes (eqb b 32) (eqb b 9) (T_of (eqb b 32 || eqb b 9) h))

-- and if it fails behind white space, then in front of it
pub white-front : (t : ℕ → Bool) {s : List ℕ} {at to : ℕ} → t 32 ≡ false → t 9 ≡ false → Stands white s at to → t (byte_at s to) ≡ false → t (byte_at s at) ≡ false
white-front t {s} {at} {to} e f x h =
    by_cases (eqb at to)
    (λ y. ap (λ (n : ℕ). t (byte_at s n)) (eqb-true at to y) ∙ h)
    (λ y. white-fails t (byte_at s at) e f (run-bytes White x at (omega arith) (omega (arith, eqb-false at to y, x.length-of))))

-- every test that fails on space, tab, < and the full stop fails on the byte
abbrev pub Delimits : ℕ → Type 0
Delimits b = (t : ℕ → Bool) → t 32 ≡ false → t 9 ≡ false → t 60 ≡ false → t 46 ≡ false → t b ≡ false
