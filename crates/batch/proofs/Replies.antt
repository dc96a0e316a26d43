-- Laws of replies: their length, and how a reply comes about in lent memory.
-- Assumes nothing.
use Rattle.std.specs.Prelude.{Err, Option, None, Some}
use mathlib.Core.Path.{◌≡◌, refl, sym, ap, ◌∙◌}
use mathlib.Core.Logic.{◌⊎◌, inl, inr}
use mathlib.Core.Bool.{◌&&◌}
use mathlib.Core.List.{List, [], ◌++◌, append_assoc}
use Rattle.facts.proofs.Terms.{by_cases}
use Prim.Native.Nat.{ℕ, ◌+◌, ◌≤◌, ◌<◌}
use native.Mathlib.Omega.{arith}
use lib.ListN.{length, take, drop, length-append, length-drop, take-append-drop}
use lib.Seq.{length-take-le, drop_at, drop-drop, drop-append-le}
use lib.Dec.{leb, ltb}
use borrow.Author.Tests.{le-leb, lt-leb, lt-ltb, le-ltb}
use borrow.Rule.Slice.PartMut.{put_mid}
use Rattle.columns.specs.Lines.{over}
use Rattle.columns.proofs.Lines.{line-length}
use Rattle.facts.specs.declared.Fact.{Fact}
use Rattle.facts.specs.Results.{Answer, Done, Yes, No, Long, Accepted, Refused}
use Rattle.table.specs.Tables.{Table, accepted, refused, table_of}
use Rattle.table.proofs.Rows.{accepted-size}
use Rattle.question.specs.Question.{needed, answer_from, question_answer, printed_from, written, output_after, question, Answered}
use Rattle.rules.proofs.Chosen.{fewest-few}
use Rattle.question.proofs.Answered.{yes-fewest, prints-length}
use Rattle.batch.specs.declared.Query.{Query}
use Rattle.batch.specs.Input.{questions_behind}
use Rattle.batch.specs.Output.{code_line, behind_code, reply_size, reply_to, reply, longest, reply_in, reply_length}

-- ---- lent memory

-- a part behind the first h bytes is written over at its front, and then the first h bytes
over-part : (L D l : List ℕ) (h m : ℕ) → length L ≡ h → length D ≤ m → h + m ≤ length l → over L (put_mid h m l (over D (take m (drop h l)))) ≡ over (L ++ D) l
over-part L D l h m e d r =
    let R = drop h l in
    let n : m ≤ length R = rw length-drop (omega arith) in
    let s : drop (length D) (take m R) ++ drop m R ≡ drop (length D) R =
    sym (drop-append-le (length D) (take m R) (drop m R) (rw (length-take-le m R n) d)) ∙ ap (λ x. drop (length D) x) (take-append-drop m R) in
    rw (e, drop_at (take h l) _ h (length-take-le h l (omega arith)), append_assoc D (drop (length D) (take m R)) (drop m R), s, drop-drop, length-append, e)
    (sym (append_assoc L D _))

-- ---- lengths

-- a yes is printed with 2 f - 1 lines, and f is at most 1,024
yes-printed : (table : List ℕ) (t : Fact) (limit size f x : ℕ) → question_answer table t limit size ≡ Yes f x → (length (printed_from (table_of table) t) ≡ needed f) × (f ≤ 1024)
unfolding question_answer answer_from printed_from
yes-printed table t limit size f x e = go (table_of table) refl
  where
    go : (T : Table) → table_of table ≡ T → (length (printed_from (table_of table) t) ≡ needed f) × (f ≤ 1024)
    go (accepted facts) is =
        let k = yes-fewest table t facts is limit size f x e in
        let few = accepted-size table facts is in
        (rw is (prints-length table t facts is k.3 f k.0).0, omega (arith, fewest-few facts t f k.0, few))
    go (refused r place) is = let z : Refused r place ≡ Yes f x = rw is at e in let o : ◌≡◌ {A = ℕ} 0 1 = cc in absurd (omega arith)

code-length : (a : Answer) → length (code_line a) ≡ 16
unfolding code_line
code-length a = line-length _

-- the reply with an answer has the answer's size
module _ (table : List ℕ) (t : Fact) (limit size : ℕ) where
  abbrev Behind : Answer → List ℕ
  Behind a = behind_code a (printed_from (table_of table) t)

  behind-length : (a : Answer) → question_answer table t limit size ≡ a → (16 + length (Behind a) ≡ reply_size a) × (reply_size a ≤ longest)
  unfolding behind_code
  behind-length (Yes f x) e = let p = yes-printed table t limit size f x e in (omega (arith, p.0), omega (arith, p.1))
  behind-length No e = (refl, omega arith)
  behind-length (Long f) e = (refl, omega arith)
  behind-length (Done n) e = (refl, omega arith)
  behind-length (Accepted n) e = (refl, omega arith)
  behind-length (Err stop) e = (refl, omega arith)

-- ---- a reply in lent memory

-- what a question writes is what stands behind the code
written_behind : (a : Answer) (derivation old : List ℕ) → written a derivation old ≡ over (behind_code a derivation) old
unfolding written behind_code
written_behind (Yes f x) derivation old = refl
written_behind No derivation old = refl
written_behind (Long f) derivation old = refl
written_behind (Done n) derivation old = refl
written_behind (Accepted n) derivation old = refl
written_behind (Err stop) derivation old = refl

-- the answer of a question that is put with the 63,457 bytes behind the first 16
pub reply-answer : (table : List ℕ) (q : Query) (out part : List ℕ) (a : Answer) → longest ≤ length out → Answered (question table q.fact q.limit) (take 63457 (drop 16 out)) part a
    → a ≡ question_answer table q.fact q.limit (needed 1024)
reply-answer table q out part a h r = rw (length-take-le 63457 (drop 16 out) (rw length-drop (omega arith))) at r.answer

-- the question is put with the part of the output behind the first 16 bytes, and its answer's code is written before it
pub reply-put : (table : List ℕ) (q : Query) (out part : List ℕ) (a : Answer) → longest ≤ length out → Answered (question table q.fact q.limit) (take 63457 (drop 16 out)) part a
    → (reply_size a ≡ length (reply_to table q)) × (over (code_line a) (put_mid 16 63457 out part) ≡ over (reply_to table q) out)
unfolding reply_to output_after
reply-put table q out part a h r =
    let t = q.fact in
    let lent = take 63457 (drop 16 out) in
    let n : length lent ≡ 63457 = length-take-le 63457 (drop 16 out) (rw length-drop (omega arith)) in
    let e = reply-answer table q out part a h r in
    let l = behind-length table t q.limit 63457 a (sym e) in
    let D = behind_code a (printed_from (table_of table) t) in
    let p : part ≡ over D lent = r.output ∙ rw (n, ← e) (written_behind a (printed_from (table_of table) t) lent) in (
      rw (← e, length-append, code-length) (sym l.0),
      rw (← e, p) (over-part (code_line a) D out 16 63457 (code-length a) (omega (arith, l)) h),
    )

-- where the question is there and the longest reply has room, its reply is written
pub reply-fits : (b : List ℕ) (size k m : ℕ) → longest ≤ m → k < questions_behind b size → reply_in b size k m ≡ reply b size k
unfolding reply_in
reply-fits b size k m h l = rw (le-leb longest m h, lt-ltb k (questions_behind b size) l)

pub length-fits : (b : List ℕ) (size k m : ℕ) → longest ≤ m → k < questions_behind b size → reply_length b size k m ≡ Some (length (reply b size k))
unfolding reply_length
length-fits b size k m h l = rw (le-leb longest m h, lt-ltb k (questions_behind b size) l)

-- and else nothing is
pub reply-none : (b : List ℕ) (size k m : ℕ) → (m < longest) ⊎ (questions_behind b size ≤ k) → (reply_length b size k m ≡ None) × (reply_in b size k m ≡ [])
unfolding reply_length reply_in
reply-none b size k m (inl h) = rw (lt-leb longest m h) (refl, refl)
reply-none b size k m (inr h) = by_cases (leb longest m) (λ e. rw (e, le-ltb k (questions_behind b size) h) (refl, refl)) (λ e. rw e (refl, refl))

-- its length is that of what is written
pub some-written : (b : List ℕ) (size k m n : ℕ) → reply_length b size k m ≡ Some n → n ≡ length (reply_in b size k m)
unfolding reply_length reply_in
some-written b size k m n =
    by_cases (leb longest m && ltb k (questions_behind b size))
    (λ e l. let x : ◌≡◌ {A = Option ℕ} (Some (length (reply b size k))) (Some n) = rw e at l in let y : n ≡ length (reply b size k) = cc in rw e y)
    (λ e l. let x : ◌≡◌ {A = Option ℕ} None (Some n) = rw e at l in cc)

pub none-written : (b : List ℕ) (size k m : ℕ) → reply_length b size k m ≡ None → reply_in b size k m ≡ []
unfolding reply_length reply_in
none-written b size k m =
    by_cases (leb longest m && ltb k (questions_behind b size))
    (λ e l. let x : ◌≡◌ {A = Option ℕ} (Some (length (reply b size k))) None = rw e at l in cc)
    (λ e l. rw e)
