-- What the program prints: for each question what the call gives, and behind a yes a derivation that the check accepts.
-- Assumes nothing.
use Rattle.std.specs.Prelude.{Err, None}
use mathlib.Core.Path.{◌≡◌, refl, sym, ap, ◌∙◌, subst}
use mathlib.Core.Logic.{◌↔◌, ◌⊎◌, inl, inr}
use mathlib.Core.Bool.{true}
use mathlib.Core.List.{List, [], ◌∷◌, ◌++◌}
use Prim.Native.Nat.{ℕ, ◌+◌, ◌≤◌}
use native.Mathlib.Omega.{arith}
use lib.ListN.{length, drop, replicate, length-replicate}
use lib.Dec.{T}
use Rattle.columns.specs.Lines.{line, Below, width, numbers_at, laid_out, flat}
use Rattle.columns.proofs.Lines.{line_read, line-written, numbers-length}
use Rattle.facts.specs.declared.Refusal.TheVariants.{Form}
use Rattle.facts.specs.Results.{Answer, Done, Yes, No, Long, Accepted, Refused}
use Rattle.facts.specs.declared.Code.{Code}
use Rattle.facts.specs.Answers.{code_of, number_of}
use Rattle.facts.specs.declared.Fact.{Fact}
use Rattle.facts.specs.Facts.{well_formed}
use Rattle.facts.specs.Gaps.{filled_by}
use Rattle.facts.proofs.Codes.{number-within}
use Rattle.table.specs.Tables.{table_of}
use Rattle.question.specs.Question.{needed, filling_for, question_answer, output_after, printed_for, printed_from, written, Question, question, Prints}
use Rattle.question.proofs.Answered.{yes-fewest, yes-input, fewest-filled, fewest-prints}
use Rattle.packing.specs.Packed.{packed}
use Rattle.entail.proofs.Unpacked.{question-unpacked, check-unpacked}
use Rattle.batch.specs.declared.Query.{Query}
use Rattle.batch.specs.Input.{layout_of}
use Rattle.batch.specs.Output.{code_line, behind_code, reply_to, output_by, output_of}
use Rattle.batch.specs.Whole.{Laid}
use Rattle.batch.proofs.Whole.{laid-output, torn-output}
use Rattle.confirms.proofs.Confirms.{prints-accepted}
use Rattle.demands.specs.Demands as demands
use Rattle.demands.specs.Demands.{Put, said, Shown, Reply, Replies}
use Rattle.demands.proofs.Refusals.{sound-table}

pub torn : (b : List ℕ) → ((table : List ℕ) (qs : List Query) → Laid b table qs → ⊥) → output_of b ≡ line (number_of Form ∷ 0 ∷ 0 ∷ [])
unfolding code_line
torn = torn-output

pub torn-piece : (b : List ℕ) → layout_of b ≡ None → output_of b ≡ code_line (Refused Form 0)
unfolding output_of output_by
torn-piece b e = rw e

-- lines are laid out exactly where they are written so
pub laid-line : (k : ℕ) (b : List ℕ) (at : ℕ) → at + width k ≤ length b
    → laid_out k b at ≡ true ↔ ((ns : List ℕ) × (length ns ≡ k) × Below ns × (drop at b ≡ line ns ++ drop (at + width k) b) × (numbers_at k b at ≡ ns))
laid-line k b at h = (
  λ e. let w = line-written k b at h e in (numbers_at k b at, numbers-length k b at, w.1, w.0, refl),
  λ w. rw w.1 at (line_read w.0 b (drop (at + width k) b) at w.2 w.3).0,
)

-- no derivation stands behind what is no yes
plain : (a : Answer) (x : List ℕ) → ((code_of a).number ≡ 90 → ⊥) → behind_code a x ≡ []
unfolding behind_code
plain (Done n) x h = refl
plain (Yes f y) x h = absurd (h refl)
plain No x h = refl
plain (Long f) x h = refl
plain (Accepted n) x h = refl
plain (Err stop) x h = refl

module _ (table : List ℕ) (q : Query) where
  -- memory for the longest derivation
  abbrev blank : List ℕ
  blank = replicate (needed 1024) 0

  abbrev asks : Question
  asks = question table q.fact q.limit

  abbrev answer : Answer
  answer = question_answer table q.fact q.limit (length blank)

  -- the question, put with that memory
  abbrev put : Put
  put = record { question = asks; entry = blank; exit = output_after table q.fact q.limit blank; result = packed (code_of answer); call = record { answer = refl; output = refl } }

  said-is : said put ≡ code_of answer
  said-is = question-unpacked put.call

  -- behind the heading: what is printed where the answer is a yes, and else nothing
  abbrev behind : List ℕ
  behind = behind_code answer (printed_from (table_of table) q.fact)

  other : (a : Answer) → answer ≡ a → ((code_of a).number ≡ 90 → ⊥) → ((said put).number ≡ 90 → ⊥) × (behind ≡ [])
  other a e h = (λ z. h (sym (ap (λ (c : Code). c.number) (said-is ∙ ap code_of e)) ∙ z), rw e (plain a _ h))

  -- behind a yes: the derivation that the call printed
  shown : (f x : ℕ) → answer ≡ Yes f x → Shown put f x behind
  unfolding output_after written behind_code printed_from
  shown f x e =
      let s = yes-input table q.fact q.limit (length blank) f x e in
      let y = yes-fewest table q.fact s.0 s.1 q.limit (length blank) f x e in
      let few : f ≤ 1024 = omega (arith, y.1, s.3) in
      let bytes : behind ≡ printed_for s.0 q.fact = rw (e, s.1) in
      let named : filled_by q.fact (filling_for s.0 q.fact) ≡ filled_by q.fact x = ap (filled_by q.fact) y.2 in
      let p : Prints s.0 (filled_by q.fact x) f behind = rw bytes (subst (λ (u : Fact). Prints s.0 u f (printed_for s.0 q.fact)) named (fewest-prints table q.fact s.0 s.1 s.2 f y.0)) in
      let w : T (well_formed (filled_by q.fact x)) = subst (λ (u : Fact). T (well_formed u)) named (fewest-filled table q.fact s.0 s.1 s.2 f y.0).fills.formed in
      record {
        yes = said-is ∙ ap code_of e;
        facts = s.0;
        table = (sound-table table s.0).0 s.1;
        output = rw e;
        prints = p;
        accepted = λ r g. check-unpacked g ∙ ap code_of (prints-accepted table s.1 w few p);
      }

  -- a yes, or another number
  two : (a : Answer) → answer ≡ a → ((f : ℕ) × (x : ℕ) × Shown put f x behind) ⊎ (((said put).number ≡ 90 → ⊥) × (behind ≡ []))
  two (Yes f x) e = inl (f, x, shown f x e)
  two (Done n) e = inr (other (Done n) e (λ z. omega arith))
  two No e = inr (other No e (λ z. omega arith))
  two (Long f) e = inr (other (Long f) e (λ z. omega arith))
  two (Accepted n) e = inr (other (Accepted n) e (λ z. omega arith))
  two (Err stop) e = inr (other (Refused stop.refusal stop.place) e (λ z. omega (arith, number-within stop.refusal)))

  reply : Reply table q (reply_to table q)
  unfolding reply_to code_line
  reply =
      let n : length blank ≡ needed 1024 = length-replicate {A = ℕ} (needed 1024) 0 in
      record { put = put; same-question = refl; room = omega (arith, n); derivation = behind; is = rw (said-is, n); behind = two answer refl }

replies : (table : List ℕ) (qs : List Query) → Replies table qs (flat (reply_to table) qs)
unfolding flat
replies table [] = demands.none
replies table (q ∷ qs) = demands.more (reply table q) (replies table qs)

pub program-replies : (b table : List ℕ) (qs : List Query) → Laid b table qs → Replies table qs (output_of b)
program-replies b table qs l = rw (laid-output b table qs l) (replies table qs)
