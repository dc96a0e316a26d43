-- Laws of the question: what its answer means, and that what is printed is a derivation of exactly the fewest table lines.
-- Assumes nothing.
use Rattle.std.specs.Prelude.{Err}
use mathlib.Core.Path.{◌≡◌, refl, sym, ap, ◌∙◌, subst}
use mathlib.Core.Logic.{◌⊎◌, inl, inr, ⊎_elim}
use mathlib.Core.Option
use mathlib.Core.Option.{Option, none, some}
use mathlib.Core.List.{List, map}
use Prim.Native.Nat.{ℕ, suc, ◌+◌, ◌*◌, ◌≤◌, ◌<◌}
use native.Mathlib.Omega.{arith}
use lib.ListN.{length}
use lib.Dec.{T, leb}
use borrow.Author.Tests.{le-leb, lt-leb, leb-true, leb-false}
use Rattle.facts.specs.declared.Fact.{Fact}
use Rattle.facts.specs.declared.Refusal.{Refusal}
use Rattle.facts.specs.declared.Refusal.TheVariants.{Allowance, Short}
use Rattle.facts.specs.Results.{Verdict, Sound, Faulty, Answer, Done, Yes, No, Long, Accepted, Refused}
use Rattle.facts.specs.Facts.{fact, well_formed, or_else}
use Rattle.facts.specs.Gaps.{Fills, Askable, question_fault, filling_of, filled_by}
use Rattle.facts.specs.Answers.{code_of, YesWith, LongWith, SaysFollows, SaysNo, RefusedWith}
use Rattle.facts.proofs.Terms.{by_cases}
use Rattle.facts.proofs.Gaps.{question-none, gapless-names, filled-back, filling-within}
use Rattle.facts.proofs.Codes.{told-yes, told-long, told-no, told-refused}
use Rattle.columns.specs.Lines.{over}
use Rattle.table.specs.Tables.{Table, accepted, refused, table_of}
use Rattle.table.proofs.Tables.{table_of-accepted}
use Rattle.table.proofs.Lists.{formed-at, ascends-at}
use Rattle.rules.specs.Graph.{◌∈◌}
use Rattle.rules.specs.Rules.{Rule}
use Rattle.rules.specs.Derivations.{Derives, Derivable, Closed, Holds, table_lines}
use Rattle.rules.specs.Fillings.{DerivableFilling, LeastFilling}
use Rattle.rules.specs.Order.{InOrder}
use Rattle.rules.specs.Paths.{fewest}
use Rattle.rules.specs.Printed.{print_order, conclusion}
use Rattle.rules.specs.Chosen.{chosen, fact_in}
use Rattle.rules.proofs.Graph.{place}
use Rattle.rules.proofs.Derivations.{conclusion-is}
use Rattle.rules.proofs.Fewest.{fewest-least, fewest-none, derivable-entailed}
use Rattle.rules.proofs.Chosen.{chosen-fewest, fewest-few, chosen-path, chosen-printable}
use Rattle.rules.proofs.Printed.{path-count}
use Rattle.derivation.proofs.Bytes.{derivation-length}
use Rattle.question.specs.Row.{Sorted}
use Rattle.question.specs.Question.{needed, asked, derivation_of, derivation_for, filling_for, answer_by, answer_of, unless, answer_from, question_answer, printed_for, printed_from, written, output_after, Question, question, Answered, Prints, Meaning, Means}

-- ---- the answer

-- what an answer says of the fewest table lines, and of the term named
answers-yes : (limit : ℕ) (o : Option ℕ) (y f x : ℕ) → answer_by limit o y ≡ Yes f x → (o ≡ some f) × (f ≤ limit) × (y ≡ x)
unfolding answer_by
answers-yes limit none y f x e = let z : ◌≡◌ {A = ℕ} 0 1 = cc in absurd (omega arith)
answers-yes limit (some k) y f x e =
    by_cases (leb k limit)
    (λ h. let a : Yes k y ≡ Yes f x = rw h at e in let b : k ≡ f = cc in let c : y ≡ x = cc in (ap some b, omega (arith, leb-true k limit h), c))
    (λ h. let a : Long k ≡ Yes f x = rw h at e in let z : ◌≡◌ {A = ℕ} 0 1 = cc in absurd (omega arith))

answers-long : (limit : ℕ) (o : Option ℕ) (y f : ℕ) → answer_by limit o y ≡ Long f → (o ≡ some f) × (limit < f)
unfolding answer_by
answers-long limit none y f e = let z : ◌≡◌ {A = ℕ} 0 1 = cc in absurd (omega arith)
answers-long limit (some k) y f e =
    by_cases (leb k limit)
    (λ h. let a : Yes k y ≡ Long f = rw h at e in let z : ◌≡◌ {A = ℕ} 0 1 = cc in absurd (omega arith))
    (λ h. let a : Long k ≡ Long f = rw h at e in let b : k ≡ f = cc in (ap some b, omega (arith, leb-false k limit h)))

answers-no : (limit : ℕ) (o : Option ℕ) (y : ℕ) → answer_by limit o y ≡ No → o ≡ none
unfolding answer_by
answers-no limit none y e = refl
answers-no limit (some k) y e =
    by_cases (leb k limit)
    (λ h. let a : Yes k y ≡ No = rw h at e in let z : ◌≡◌ {A = ℕ} 0 1 = cc in absurd (omega arith))
    (λ h. let a : Long k ≡ No = rw h at e in let z : ◌≡◌ {A = ℕ} 0 1 = cc in absurd (omega arith))

-- an answer that is no refusal is that from the facts
unless-sound : (v : Verdict) (a b : Answer) → unless v a ≡ b → ((r : Refusal) (p : ℕ) → Refused r p ≡ b → ⊥) → (v ≡ Sound) × (a ≡ b)
unfolding unless
unless-sound Sound a b e f = (refl, e)
unless-sound (Faulty r) a b e f = absurd (f r 0 e)

-- what a sound question says of its triple, its limit and its output
pub asked-sound : (t : Fact) (limit size : ℕ) → asked t limit size ≡ Sound → Askable t × (limit ≤ 1024) × (needed limit ≤ size)
unfolding asked or_else
asked-sound t limit size e = go (question_fault t) refl
  where
    go : (v : Verdict) → question_fault t ≡ v → Askable t × (limit ≤ 1024) × (needed limit ≤ size)
    go (Faulty r) q = let z : Faulty r ≡ Sound = rw q at e in let u : ◌≡◌ {A = ℕ} 0 1 = cc in absurd (omega arith)
    go Sound q =
        by_cases (leb limit 1024)
        (λ a. by_cases (leb (needed limit) size) (λ b. ((question-none t).0 q, leb-true limit 1024 a, leb-true (needed limit) size b))
        (λ b. let z : Faulty Short ≡ Sound = rw (q, a, b) at e in let u : ◌≡◌ {A = ℕ} 0 1 = cc in absurd (omega arith)))
        (λ a. let z : Faulty Allowance ≡ Sound = rw (q, a) at e in let u : ◌≡◌ {A = ℕ} 0 1 = cc in absurd (omega arith))

module _ (table : List ℕ) (t : Fact) (facts : List Fact) (is : table_of table ≡ accepted facts) where
  -- the answer of an accepted table
  pub answer-accepted : (limit size : ℕ) → question_answer table t limit size ≡ unless (asked t limit size) (answer_of facts t limit)
  unfolding question_answer answer_from
  answer-accepted limit size = rw is

  -- and for what may be asked, a limit of at most 1,024 and the output that it asks for
  pub answer-sound : (limit size : ℕ) → Askable t → limit ≤ 1024 → needed limit ≤ size → question_answer table t limit size ≡ answer_of facts t limit
  unfolding asked or_else unless
  answer-sound limit size w few room = answer-accepted limit size ∙ rw ((question-none t).1 w, le-leb limit 1024 few, le-leb (needed limit) size room)

  -- an answer that is no refusal comes of what may be asked, and is that from the facts
  settled : (limit size : ℕ) (b : Answer) → ((r : Refusal) (p : ℕ) → Refused r p ≡ b → ⊥) → question_answer table t limit size ≡ b → Askable t × (answer_of facts t limit ≡ b)
  settled limit size b f e =
      let u = unless-sound (asked t limit size) (answer_of facts t limit) b (sym (answer-accepted limit size) ∙ e) f in ((asked-sound t limit size u.0).0, u.1)

  -- yes with f, naming x: f is the fewest, and within the limit, and x is the filling
  pub yes-fewest : (limit size f x : ℕ) → question_answer table t limit size ≡ Yes f x → (fewest facts t ≡ some f) × (f ≤ limit) × (filling_for facts t ≡ x) × Askable t
  unfolding answer_of
  yes-fewest limit size f x e =
      let s = settled limit size (Yes f x) (λ r p z. let u : ◌≡◌ {A = ℕ} 0 1 = cc in omega arith) e in
      let y = answers-yes limit (fewest facts t) (filling_for facts t) f x s.1 in
      (y.0, y.1, y.2, s.0)

  pub long-fewest : (limit size f : ℕ) → question_answer table t limit size ≡ Long f → (fewest facts t ≡ some f) × (limit < f) × Askable t
  unfolding answer_of
  long-fewest limit size f e =
      let s = settled limit size (Long f) (λ r p z. let u : ◌≡◌ {A = ℕ} 0 1 = cc in omega arith) e in
      let y = answers-long limit (fewest facts t) (filling_for facts t) f s.1 in
      (y.0, y.1, s.0)

  pub no-fewest : (limit size : ℕ) → question_answer table t limit size ≡ No → (fewest facts t ≡ none) × Askable t
  unfolding answer_of
  no-fewest limit size e =
      let s = settled limit size No (λ r p z. let u : ◌≡◌ {A = ℕ} 0 1 = cc in omega arith) e in
      (answers-no limit (fewest facts t) (filling_for facts t) s.1, s.0)

  -- the facts of an accepted table are well-formed
  pub accepted-formed : (f : Fact) → f ∈ facts → T (well_formed f)
  accepted-formed f m =
      let p = place (fact 0 0 0) m in
      subst (λ (g : Fact). T (well_formed g)) p.2 (formed-at facts p.0 (fact 0 0 0) ((table_of-accepted table facts).0 is).1.formed p.1)

  -- the derivable facts are a closed set that holds the table
  derivable-closed : Closed Rule (Derivable Rule facts)
  derivable-closed n p q r s a b =
      (derivable-entailed facts accepted-formed r).1 (λ M c h. c n p q r s ((derivable-entailed facts accepted-formed p).0 a M c h) ((derivable-entailed facts accepted-formed q).0 b M c h))

  derivable-holds : Holds (Derivable Rule facts) facts
  derivable-holds f m = (derivable-entailed facts accepted-formed f).1 (λ M c h. h f m)

  -- the count does not depend on the limit
  pub same_count : (limit f : ℕ) → fewest facts t ≡ some f → ((f ≤ limit → answer_of facts t limit ≡ Yes f (filling_for facts t)) × (limit < f → answer_of facts t limit ≡ Long f))
  unfolding answer_of answer_by
  same_count limit f e = (λ h. rw (e, le-leb f limit h), λ h. rw (e, lt-leb f limit h))

  -- without a gap no term is named
  pub gapless-filling : T (well_formed t) → filling_for facts t ≡ 0
  unfolding filling_for
  gapless-filling w = gapless-names t (conclusion (derivation_for facts t)) w

  -- ---- what may be asked

  module _ (ask : Askable t) where
    pub none-meant : fewest facts t ≡ none → Closed Rule (Derivable Rule facts) × Holds (Derivable Rule facts) facts × (DerivableFilling Rule facts t → ⊥)
    none-meant e = (derivable-closed, derivable-holds, (fewest-none facts accepted-formed t ask).0 e)

    -- the fact with the term named in its gap
    abbrev pub named-fact : Fact
    named-fact = filled_by t (filling_for facts t)

    -- what the facts of the chosen path, in printed order, give: a filling, whose term in the gap is the one named
    record Ending (f : ℕ) : Type 0 where
      filling : Fact
      fills : Fills t filling
      derives : Derives Rule facts (derivation_for facts t) filling
      order : InOrder (derivation_for facts t)
      count : table_lines (derivation_for facts t) ≡ f
      lines : suc (length (derivation_for facts t)) ≡ f + f

    ending : (f : ℕ) → fewest facts t ≡ some f → Ending f
    unfolding derivation_for derivation_of
    ending f e = go (chosen facts t) refl
      where
        go : (o : Option (List ℕ)) → chosen facts t ≡ o → Ending f
        go none z =
            let u : none ≡ some f = sym (ap (Option.map length) z) ∙ chosen-fewest facts t ∙ e in
            let y : ◌≡◌ {A = ℕ} 0 1 = cc in absurd (omega arith)
        go (some places) z =
            let u : some (length places) ≡ some f = sym (ap (Option.map length) z) ∙ chosen-fewest facts t ∙ e in
            let k : length places ≡ f = cc in
            let p = chosen-printable facts accepted-formed t ask places z in
            let s = chosen-path facts t places z in
            let n : length (print_order (map (fact_in facts) places)) ≡ f = ap (λ (l : List Fact). length (print_order l)) s.facts ∙ path-count s.path ∙ s.count ∙ k in
            record {
              filling = p.0;
              fills = p.1;
              derives = rw z p.2.derives;
              order = rw z p.2.order;
              count = rw z (p.2.tables ∙ n);
              lines = rw z (omega (arith, p.2.size, n));
            }

    ending-named : (f : ℕ) (e : fewest facts t ≡ some f) → named-fact ≡ (ending f e).filling
    unfolding filling_for
    ending-named f e =
        let d = ending f e in
        ap (λ (u : Fact). filled_by t (filling_of t u)) (conclusion-is (derivation_for facts t) d.derives.last) ∙ filled-back ask d.fills

    -- the term named fits 16 bits
    pub named-within : (f : ℕ) → fewest facts t ≡ some f → filling_for facts t ≤ 65535
    unfolding filling_for
    named-within f e = let d = ending f e in rw (conclusion-is (derivation_for facts t) d.derives.last) (filling-within t d.filling d.fills.formed)

    -- it is a filling with the fewest table lines of all
    pub fewest-filled : (f : ℕ) → fewest facts t ≡ some f → LeastFilling Rule facts t f named-fact
    fewest-filled f e =
        let d = ending f e in
        let l = ((fewest-least facts accepted-formed t ask f).0 e).1 in
        rw (ending-named f e)
        (record { fills = d.fills; least = record { derivation = derivation_for facts t; derives = d.derives; count = d.count; lowest = l.lowest d.filling d.fills }; lowest = l.lowest })

    -- what is printed is a derivation of it in the printed order, with f table lines and 2 f - 1 lines
    pub fewest-prints : (f : ℕ) → fewest facts t ≡ some f → Prints facts named-fact f (printed_for facts t)
    unfolding printed_for
    fewest-prints f e =
        let d = ending f e in
        rw (ending-named f e) (record { derivation = derivation_for facts t; bytes = refl; derives = d.derives; order = d.order; count = d.count; lines = d.lines })

    -- it has 31 bytes for each of 2 f - 1 lines, no more than a limit of at least f asks for
    pub prints-length : (f : ℕ) → fewest facts t ≡ some f → (length (printed_for facts t) ≡ needed f) × ((limit : ℕ) → f ≤ limit → length (printed_for facts t) ≤ needed limit)
    prints-length f e =
        let p = fewest-prints f e in
        let n : length (printed_for facts t) ≡ needed f = ap length p.bytes ∙ derivation-length p.derivation ∙ ap (λ (k : ℕ). 31 * k) (omega (arith, p.lines)) in
        (n, λ limit h. omega (arith, n))

-- a yes comes of an accepted table, of what may be asked, a limit of at most 1,024, and the output that it asks for
pub yes-input : (table : List ℕ) (t : Fact) (limit size f x : ℕ) → question_answer table t limit size ≡ Yes f x
    → (facts : List Fact) × (table_of table ≡ accepted facts) × Askable t × (limit ≤ 1024) × (needed limit ≤ size)
unfolding question_answer
yes-input table t limit size f x e = go (table_of table) refl e
  where
    go : (u : Table) → table_of table ≡ u → answer_from u t limit size ≡ Yes f x
        → (facts : List Fact) × (table_of table ≡ accepted facts) × Askable t × (limit ≤ 1024) × (needed limit ≤ size)
    go (refused r place) z y = unfold answer_from in (let k : ◌≡◌ {A = ℕ} 0 1 = cc in absurd (omega arith))
    go (accepted facts) z y =
        let s = unless-sound (asked t limit size) (answer_of facts t limit) (Yes f x) (unfold answer_from in y) (λ r p w. let k : ◌≡◌ {A = ℕ} 0 1 = cc in omega arith) in
        let l = asked-sound t limit size s.0 in
        (facts, z, l.0, l.1, l.2)

-- no other answer names a term, and none to a question without a gap
pub answer-unnamed : (table : List ℕ) (t : Fact) (limit size : ℕ) (a : Answer) → question_answer table t limit size ≡ a
    → ((code_of a).number ≡ 90 → ⊥) ⊎ T (well_formed t) → (code_of a).filling ≡ 0
answer-unnamed table t limit size (Yes f x) e (inl n) = absurd (n refl)
answer-unnamed table t limit size (Yes f x) e (inr w) =
    let s = yes-input table t limit size f x e in
    sym (yes-fewest table t s.0 s.1 limit size f x e).2 ∙ gapless-filling table t s.0 s.1 w
answer-unnamed table t limit size (Long f) e h = refl
answer-unnamed table t limit size No e h = refl
answer-unnamed table t limit size (Done n) e h = refl
answer-unnamed table t limit size (Accepted n) e h = refl
answer-unnamed table t limit size (Err stop) e h = refl

-- ---- the contract

-- what the answers mean of which the numbers are given
module _ (q : Question) (entry exit : List ℕ) (a : Answer) (g : Answered q entry exit a) (facts : List Fact) (is : table_of q.table ≡ accepted facts) where
  given : (b : Answer) → a ≡ b → question_answer q.table q.fact q.limit (length entry) ≡ b
  given b e = sym g.answer ∙ e

  -- what yes says, and what long says
  given_yes : (f x : ℕ) → YesWith (code_of a) f x → (fewest facts q.fact ≡ some f) × (f ≤ q.limit) × (filling_for facts q.fact ≡ x) × Askable q.fact
  given_yes f x y = yes-fewest q.table q.fact facts is q.limit (length entry) f x (given (Yes f x) (told-yes y))

  given-long : (f : ℕ) → LongWith (code_of a) f → (fewest facts q.fact ≡ some f) × (q.limit < f) × Askable q.fact
  given-long f y = long-fewest q.table q.fact facts is q.limit (length entry) f (given (Long f) (told-long y))

  given-fewest : (f : ℕ) → SaysFollows (code_of a) f → (fewest facts q.fact ≡ some f) × Askable q.fact
  given-fewest f =
      ⊎_elim (λ (y : (x : ℕ) × YesWith (code_of a) f x). let z = given_yes f y.0 y.1 in (z.0, z.3)) (λ (y : LongWith (code_of a) f). let z = given-long f y in (z.0, z.2))

  given-least : (f : ℕ) → SaysFollows (code_of a) f → ((u : Fact) × LeastFilling Rule facts q.fact f u) × (f ≤ length facts)
  given-least f h =
      let z = given-fewest f h in
      ((named-fact q.table q.fact facts is z.1, fewest-filled q.table q.fact facts is z.1 f z.0), fewest-few facts q.fact f z.0)

  given-filling : (f x : ℕ) → YesWith (code_of a) f x → LeastFilling Rule facts q.fact f (filled_by q.fact x)
  given-filling f x y = let z = given_yes f x y in rw (← z.2) (fewest-filled q.table q.fact facts is z.3 f z.0)

  given-unnamed : ((code_of a).number ≡ 90 → ⊥) ⊎ T (well_formed q.fact) → (code_of a).filling ≡ 0
  given-unnamed = answer-unnamed q.table q.fact q.limit (length entry) a (sym g.answer)

  given-printed : (f x : ℕ) → YesWith (code_of a) f x
      → (f ≤ q.limit) × (exit ≡ over (printed_for facts q.fact) entry) × Prints facts (filled_by q.fact x) f (printed_for facts q.fact)
  unfolding output_after written printed_from
  given-printed f x e =
      let z = given_yes f x e in
      (z.1, g.output ∙ rw (given (Yes f x) (told-yes e), is), rw (← z.2) (fewest-prints q.table q.fact facts is z.3 f z.0))

  given-comes : Askable q.fact → q.limit ≤ 1024 → needed q.limit ≤ length entry → ((f : ℕ) × SaysFollows (code_of a) f) ⊎ SaysNo (code_of a)
  given-comes w few room = go (fewest facts q.fact) refl
    where
      by : (o : Option ℕ) → fewest facts q.fact ≡ o → a ≡ answer_by q.limit o (filling_for facts q.fact)
      by o e = g.answer ∙ answer-sound q.table q.fact facts is q.limit (length entry) w few room ∙ unfold answer_of in (rw e)

      go : (o : Option ℕ) → fewest facts q.fact ≡ o → ((f : ℕ) × SaysFollows (code_of a) f) ⊎ SaysNo (code_of a)
      go none e = inr (ap code_of (by none e) ∙ unfold answer_by in refl)
      go (some f) e =
          by_cases (leb f q.limit)
          (λ y. inl (f, inl (filling_for facts q.fact, ap code_of (by (some f) e) ∙ unfold answer_by in (rw y))))
          (λ y. inl (f, inr (ap code_of (by (some f) e) ∙ unfold answer_by in (rw y))))

  given-longer : (f : ℕ) → LongWith (code_of a) f → (q.limit < f) × (exit ≡ entry)
  unfolding output_after written
  given-longer f e = ((given-long f e).1, g.output ∙ rw (given (Long f) (told-long e)))

  given-none : SaysNo (code_of a) → Closed Rule (Derivable Rule facts) × Holds (Derivable Rule facts) facts × (DerivableFilling Rule facts q.fact → ⊥) × (exit ≡ entry)
  unfolding output_after written
  given-none e =
      let z = no-fewest q.table q.fact facts is q.limit (length entry) (given No (told-no e)) in
      let m = none-meant q.table q.fact facts is z.1 z.0 in
      (m.0, m.1, m.2, g.output ∙ rw (given No (told-no e)))

-- the equations of a call say what its answer means
pub answered-means : (q : Question) (entry exit : List ℕ) (a : Answer) → Answered q entry exit a → (facts : List Fact) → table_of q.table ≡ accepted facts → Meaning q entry exit (code_of a) facts
answered-means q entry exit a g facts is = record {
  comes = given-comes q entry exit a g facts is;
  least = given-least q entry exit a g facts is;
  filling = given-filling q entry exit a g facts is;
  unnamed = given-unnamed q entry exit a g facts is;
  printed = given-printed q entry exit a g facts is;
  longer = given-longer q entry exit a g facts is;
  none = given-none q entry exit a g facts is;
}

unwritten : (q : Question) (entry exit : List ℕ) (a : Answer) → Answered q entry exit a → (r : Refusal) (place : ℕ) → RefusedWith (code_of a) r place → exit ≡ entry
unfolding output_after written
unwritten q entry exit a g r place e = let z : question_answer q.table q.fact q.limit (length entry) ≡ Refused r place = sym g.answer ∙ told-refused e in g.output ∙ rw z

pub answers-mean : (q : Question) (entry exit : List ℕ) (a : Answer) → Answered q entry exit a → Means q entry exit (code_of a)
answers-mean q entry exit a g = record {
  sound = λ facts s b. answered-means q entry exit a g facts ((table_of-accepted q.table facts).1 (b, s));
  refused = unwritten q entry exit a g;
}

-- the call, with what it means
abbrev pub Said : Question → List ℕ → List ℕ → Answer → Type 0
Said q entry exit a = Answered q entry exit a × Means q entry exit (code_of a)

said : (q : Question) (entry exit : List ℕ) (a : Answer) → Answered q entry exit a → Said q entry exit a
said q entry exit a g = (g, answers-mean q entry exit a g)

-- a refused table, a refused question, and an answer from the facts
module _ (table : List ℕ) (t : Fact) (limit : ℕ) (entry : List ℕ) where
  pub answered-table : (r : Refusal) (p : ℕ) → table_of table ≡ refused r p → Said (question table t limit) entry entry (Refused r p)
  unfolding question_answer answer_from output_after written
  answered-table r p e = said (question table t limit) entry entry (Refused r p) (record { answer = rw e; output = rw e })

  module _ (facts : List Fact) (is : table_of table ≡ accepted facts) where
    pub answered-refused : (r : Refusal) → asked t limit (length entry) ≡ Faulty r → Said (question table t limit) entry entry (Refused r 0)
    unfolding question_answer answer_from output_after written unless
    answered-refused r e = said (question table t limit) entry entry (Refused r 0) (record { answer = rw (is, e); output = rw (is, e) })

    pub answered-settled : (exit : List ℕ) (r : Answer) → asked t limit (length entry) ≡ Sound → r ≡ answer_of facts t limit → exit ≡ written r (printed_for facts t) entry
        → Said (question table t limit) entry exit r
    unfolding question_answer answer_from output_after unless printed_from
    answered-settled exit r e a o = said (question table t limit) entry exit r (record { answer = rw (is, e) a; output = o ∙ rw (is, e, a) })

-- the facts of an accepted table ascend
pub accepted-sorted : (table : List ℕ) (facts : List Fact) → table_of table ≡ accepted facts → Sorted facts
accepted-sorted table facts is =
    let s = ((table_of-accepted table facts).0 is).1 in
    record { few = s.few; ascends = λ i l. ascends-at facts i (fact 0 0 0) s.ascends l }
