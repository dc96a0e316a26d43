-- `confirms::confirm` meets its contract: what a yes printed is a derivation that the check accepts, and any other answer is its own
-- verdict.
-- Assumes nothing.
use Rattle.std.proofs.Common.{◌≡◌, ℕ, Ok, Err, refl, ap, ◌∙◌, arith}
use lib.ListN.{length-take}
use Rattle.facts.specs.declared.Outcome.TheVariants as said
use Rattle.facts.specs.declared.Outcome.{Outcome}
use Rattle.facts.specs.Results.{Answer, Yes}
use Rattle.facts.specs.Gaps.{filled_by}
use Rattle.confirms.specs.Confirms.{confirmed}
use Rattle.confirms.proofs.Confirms.{Checked, yes-checked}
use Rattle.confirms.proofs.confirm.Goals as goal
use Rattle.confirms.proofs.confirm.Goals.{In-Yes}

-- behind the test for a yes
is-yes : (c : In-Yes) → c.question-answer.result ≡ Yes c.in-Yes.f c.in-Yes.x
is-yes c = c.in-Ok.is ∙ ap Ok c.in-Yes.is

checked : (c : In-Yes) → Checked c.args.table.now (filled_by c.args.fact c.in-Yes.x) c.in-Yes.f c.question-answer.new.output
checked c =
    let args = c.args in
    let q = c.question-answer in
    yes-checked args.table.now args.fact args.limit c.in-Yes.f c.in-Yes.x args.output.now q.new.output q.result q.ensures.call (is-yes c)

-- any answer but a yes
alone : (o : Outcome) → ((f x : ℕ) → o ≡ said.Yes f x → ⊥) → ◌≡◌ {A = Answer} (Ok o) (confirmed (Ok o))
unfolding confirmed
alone (said.Yes f x) k = absurd (k f x refl)
alone said.No k = refl
alone (said.Long f) k = refl
alone (said.Done n) k = refl
alone (said.Accepted n) k = refl

pub returns-in_default : goal.returns-in_default
unfolding confirmed
returns-in_default c = record { answers = c.question-answer.ensures.call; verdict = rw c.in_default.is refl }

pub returns-in_default-outcome : goal.returns-in_default-outcome
returns-in_default-outcome c = record { answers = c.question-answer.ensures.call; verdict = rw c.in-Ok.is (alone c.in-Ok.outcome c.in_default-outcome.not-Yes) }

pub slice_bounds-check-end : goal.slice_bounds-check-end
slice_bounds-check-end c = omega (arith, (checked (goal.at-slice_bounds-check-end c).In-Yes).room, c.needed_for-used.ensures)

pub slice_bounds-check-end-2 : goal.slice_bounds-check-end-2
slice_bounds-check-end-2 c = simp length-take (omega (arith, (checked (goal.at-slice_bounds-check-end-2 c).In-Yes).room, c.needed_for-used.ensures))

pub returns : goal.returns
unfolding confirmed
returns c = record {
  answers = rw c.in-Ok.is at c.question-answer.ensures.call;
  verdict = c.check-verdict.ensures.call ∙ rw (c.filled_by.ensures, c.needed_for-used.ensures, c.in-Yes.is) (checked (goal.at-returns c).In-Yes).accepted;
}
