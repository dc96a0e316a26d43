-- What a yes printed is accepted by the check, with the same count.
-- Assumes nothing.
use mathlib.Core.Path.{◌≡◌, sym, ap, ◌∙◌}
use mathlib.Core.List.{List}
use Prim.Native.Nat.{ℕ, ◌+◌, ◌-◌, ◌*◌, ◌≤◌}
use native.Mathlib.Omega.{arith}
use lib.ListN.{length, take, drop, length-append}
use lib.Seq.{take_at}
use lib.Dec.{T}
use Rattle.facts.specs.declared.Fact.{Fact}
use Rattle.facts.specs.Results.{Answer, Yes, Accepted}
use Rattle.facts.specs.Facts.{well_formed}
use Rattle.facts.specs.Gaps.{filled_by}
use Rattle.facts.specs.Answers.{code_of}
use Rattle.facts.proofs.Facts.{fault-none}
use Rattle.table.specs.Tables.{accepted, table_of}
use Rattle.derivation.proofs.Bytes.{derivation-length}
use Rattle.acceptance.specs.Check.{check_answer, DerivationOf}
use Rattle.acceptance.proofs.Accepts.{check-accepts}
use Rattle.question.specs.Question.{printed_for, question, Answered, Prints}
use Rattle.question.proofs.Answered.{answered-means, yes-input}

-- what is printed with at most 1,024 table lines is a derivation that the check can take
pub prints-derivation : {facts : List Fact} {t : Fact} {f : ℕ} {x : List ℕ} → f ≤ 1024 → Prints facts t f x → DerivationOf facts t x f
prints-derivation few p =
    record { derivation = p.derivation; bytes = p.bytes; some-line = omega (arith, p.lines); short = omega (arith, p.lines); derives = p.derives; count = p.count }

pub prints-accepted : (b : List ℕ) {facts : List Fact} {t : Fact} {f : ℕ} {x : List ℕ} → table_of b ≡ accepted facts → T (well_formed t) → f ≤ 1024 → Prints facts t f x
    → check_answer b t x ≡ Accepted f
prints-accepted b {facts} {t} {f} {x} is w few p = (check-accepts b facts t x f is ((fault-none t).1 w)).1 (prints-derivation few p)

-- what a yes with f printed: 2 f - 1 lines in front of the output, which the check accepts for t with f
pub record Checked (b : List ℕ) (t : Fact) (f : ℕ) (exit : List ℕ) : Type 0 where
  pub room : 31 * (2 * f - 1) ≤ length exit
  pub accepted : check_answer b t (take (31 * (2 * f - 1)) exit) ≡ Accepted f

pub yes-checked : (b : List ℕ) (t : Fact) (limit f x : ℕ) (entry exit : List ℕ) (a : Answer) → Answered (question b t limit) entry exit a → a ≡ Yes f x → Checked b (filled_by t x) f exit
yes-checked b t limit f x entry exit a g e =
    let given = sym g.answer ∙ e in
    let s = yes-input b t limit (length entry) f x given in
    let means = answered-means (question b t limit) entry exit a g s.0 s.1 in
    let m = means.printed f x (ap code_of e) in
    let d = printed_for s.0 t in
    let few : f ≤ 1024 = omega (arith, m.0, s.3) in
    let n = 31 * (2 * f - 1) in
    let rest = drop (length d) entry in
    let used : length d ≡ n = ap length m.2.bytes ∙ omega (arith, derivation-length m.2.derivation, m.2.lines) in
    let long : length exit ≡ length d + length rest = ap length m.1 ∙ length-append d _ in
    record {
      room = omega arith;
      accepted = ap (check_answer b (filled_by t x)) (ap (take n) m.1 ∙ take_at d rest n used) ∙ prints-accepted b s.1 (means.filling f x (ap code_of e)).fills.formed few m.2;
    }
