-- What the program prints: the replies to the questions where the input is laid out, and `    9    0    0` where it is not.
-- Assumes nothing.
use mathlib.Core.Path.{◌≡◌, refl, sym, ap, ◌∙◌}
use mathlib.Core.Bool.{true, false, ◌&&◌}
use mathlib.Core.List.{List, [], ◌∷◌, ◌++◌}
use Rattle.std.specs.Prelude.{Option, None, Some}
use Prim.Native.Nat.{ℕ, zero, suc, ◌+◌, ◌*◌, ◌/◌, ◌%◌, ◌≤◌, ◌<◌}
use native.Mathlib.Omega.{arith}
use native.Mathlib.Nat.{add-zero, zero-add}
use lib.ListN.{length, take, drop, length-append, length-drop, take-append-drop, drop_of_length-le}
use lib.Seq.{length-take-le, take_at, drop_at, drop-drop, take-append-le, drop-append-le}
use lib.Dec.{eqb, leb}
use borrow.Author.Tests.{eqb-true, eq-eqb, le-leb, leb-true}
use Rattle.columns.specs.Fields.{number_at}
use Rattle.columns.specs.Lines.{numbers_at, laid_out, flat, items_from}
use Rattle.columns.proofs.Fields.{both}
use Rattle.columns.proofs.Lines.{line-length, line_read, line-written}
use Rattle.columns.proofs.Lists.{flat-length}
use Rattle.facts.specs.declared.Refusal.TheVariants.{Form}
use Rattle.facts.specs.Results.{Refused}
use Rattle.facts.proofs.Terms.{by_cases}
use Rattle.facts.proofs.Facts.{fact-eq}
use Rattle.batch.specs.declared.Parts.{Parts}
use Rattle.batch.specs.declared.Query.{Query}
use Rattle.batch.specs.Input.{is_zero_line, bytes_behind, questions_behind, all_laid, parts, parts_behind, divided_from, layout_of, question_at}
use Rattle.batch.specs.Output.{code_line, reply_to, reply, longest, reply_in, output_by, output_of}
use Rattle.batch.proofs.Inputs.{divided-at}
use Rattle.batch.proofs.Replies.{reply-fits}
use Rattle.batch.specs.Whole.{zero_line, query_numbers, question_line, AllBelow, Laid}

-- ---- the zero line

module _ (b : List ℕ) (at : ℕ) where
  zero-numbers : numbers_at 3 b at ≡ number_at b at ∷ number_at b (at + 5) ∷ number_at b (at + 10) ∷ []
  unfolding numbers_at
  zero-numbers = let e : at + 5 + 5 ≡ at + 10 = omega arith in rw e

  pub zero-written : at + 16 ≤ length b → is_zero_line b at ≡ true → take 16 (drop at b) ≡ zero_line
  unfolding is_zero_line
  zero-written h e =
      let x₃ = both _ (eqb (number_at b (at + 10)) 0) e in
      let x₂ = both _ (eqb (number_at b (at + 5)) 0) x₃.0 in
      let x₁ = both (laid_out 3 b at) (eqb (number_at b at) 0) x₂.0 in
      let n : numbers_at 3 b at ≡ 0 ∷ 0 ∷ 0 ∷ [] = rw (zero-numbers, eqb-true (number_at b at) 0 x₁.1, eqb-true (number_at b (at + 5)) 0 x₂.1, eqb-true (number_at b (at + 10)) 0 x₃.1) in
      rw ((line-written 3 b at h x₁.0).0, n) (take_at zero_line (drop (at + 16) b) 16 (line-length (0 ∷ 0 ∷ 0 ∷ [])))

  pub zero-read : take 16 (drop at b) ≡ zero_line → is_zero_line b at ≡ true
  unfolding is_zero_line
  zero-read e =
      let d : drop at b ≡ zero_line ++ drop 16 (drop at b) = sym (take-append-drop 16 (drop at b)) ∙ ap (λ x. x ++ drop 16 (drop at b)) e in
      let r = line_read (0 ∷ 0 ∷ 0 ∷ []) b (drop 16 (drop at b)) at (omega arith, (omega arith, (omega arith, tt))) d in
      let n : number_at b at ∷ number_at b (at + 5) ∷ number_at b (at + 10) ∷ [] ≡ 0 ∷ 0 ∷ 0 ∷ [] = sym zero-numbers ∙ r.1 in
      rw (r.0, eq-eqb (number_at b at) 0 (cc), eq-eqb (number_at b (at + 5)) 0 (cc), eq-eqb (number_at b (at + 10)) 0 (cc))

-- ---- the divider: the first zero line

-- the first zero line of an input that is not torn
record Divided (b : List ℕ) (i m s n : ℕ) : Type 0 where
  line : ℕ
  within : line < m
  none : (j : ℕ) → j < line → is_zero_line b (16 * (i + j)) ≡ false
  here : is_zero_line b (16 * (i + line)) ≡ true
  parts : parts_behind b (16 * (i + line)) ≡ Some (parts s n)

divided-says : (b : List ℕ) (m i s n : ℕ) → divided_from b i m ≡ Some (parts s n) → Divided b i m s n
unfolding divided_from
divided-says b zero i s n e = let z : ◌≡◌ {A = ℕ} 0 1 = cc in absurd (omega arith)
divided-says b (suc m) i s n e =
    by_cases (is_zero_line b (16 * i))
    (λ z. record { line = 0; within = omega arith; none = λ j l. absurd (omega arith); here = rw add-zero z; parts = rw add-zero (rw z at e) })
    (λ z. further z (divided-says b m (suc i) s n (rw z at e)))
  where
    before : is_zero_line b (16 * i) ≡ false → (d : Divided b (suc i) m s n) (j : ℕ) → j < suc d.line → is_zero_line b (16 * (i + j)) ≡ false
    before z d zero l = rw add-zero z
    before z d (suc j) l = let f : i + suc j ≡ suc i + j = omega arith in rw f (d.none j (omega arith))

    further : is_zero_line b (16 * i) ≡ false → Divided b (suc i) m s n → Divided b i (suc m) s n
    further z d =
        let next : (j : ℕ) → i + suc j ≡ suc i + j = λ j. omega arith in
        record { line = suc d.line; within = omega (arith, d.within); none = before z d; here = rw next d.here; parts = rw next d.parts }

-- ---- what stands behind it

parts-say : (b : List ℕ) (size s n : ℕ) → parts_behind b size ≡ Some (parts s n)
    → (s ≡ size) × (n ≡ questions_behind b size) × (bytes_behind b size % 21 ≡ 0) × (all_laid b (size + 16) (questions_behind b size) ≡ true)
unfolding parts_behind
parts-say b size s n e =
    by_cases (eqb (bytes_behind b size % 21) 0 && all_laid b (size + 16) (questions_behind b size))
    (λ t. let x : ◌≡◌ {A = Option Parts} (Some (parts size (questions_behind b size))) (Some (parts s n)) = rw t at e in
    let y = both (eqb (bytes_behind b size % 21) 0) (all_laid b (size + 16) (questions_behind b size)) t in
    let same : parts s n ≡ parts size (questions_behind b size) = cc in
    let p : s ≡ size = ap (λ (k : Parts). k.table) same in let q : n ≡ questions_behind b size = ap (λ (k : Parts). k.questions) same in
    (p, q, eqb-true _ 0 y.0, y.1))
    (λ t. let x : ◌≡◌ {A = Option Parts} None (Some (parts s n)) = rw t at e in let z : ◌≡◌ {A = ℕ} 0 1 = cc in absurd (omega arith))

-- ---- questions

question-eq : (p q : Query) → query_numbers p ≡ query_numbers q → p ≡ q
question-eq p q e =
    let f = fact-eq p.fact q.fact (cc) (cc) (cc) in
    let l : p.limit ≡ q.limit = cc in
    λ i. record { fact = f i; limit = l i }

question-numbers : (b : List ℕ) (at : ℕ) → numbers_at 4 b at ≡ query_numbers (question_at b at)
unfolding numbers_at question_at
question-numbers b at =
    let e₁ : at + 5 + 5 ≡ at + 10 = omega arith in
    let e₂ : at + 10 + 5 ≡ at + 15 = omega arith in
    rw (e₁, e₂)

module _ (b : List ℕ) (from : ℕ) where
  -- the n questions from number i on
  abbrev asks : ℕ → ℕ → List Query
  asks i n = items_from (λ k. question_at b (from + 21 * k)) i n

  place-next : (i : ℕ) → from + 21 * i + 21 ≡ from + 21 * suc i
  place-next i = omega arith

  -- questions that are laid out are those that they say
  laid-written : (n i : ℕ) → length b ≡ from + 21 * (i + n) → all_laid b (from + 21 * i) n ≡ true
      → (drop (from + 21 * i) b ≡ flat question_line (asks i n)) × AllBelow (asks i n)
  unfolding all_laid items_from flat AllBelow
  laid-written zero i e laid = let l : length b ≤ from + 21 * i = omega arith in (drop_of_length-le b l, tt)
  laid-written (suc n) i e laid =
      let at = from + 21 * i in
      let y = both (laid_out 4 b at) (all_laid b (at + 21) n) laid in
      let w = line-written 4 b at (omega arith) y.0 in
      let r = laid-written n (suc i) (omega arith) (rw place-next at y.1) in
      (w.0 ∙ rw (question-numbers, place-next, r.0), (rw question-numbers at w.1, r.1))

  -- questions that are written are laid out, and read back
  laid-read : (qs : List Query) (i : ℕ) → drop (from + 21 * i) b ≡ flat question_line qs → AllBelow qs → (all_laid b (from + 21 * i) (length qs) ≡ true) × (asks i (length qs) ≡ qs)
  unfolding all_laid items_from flat AllBelow
  laid-read [] i e below = (refl, refl)
  laid-read (q ∷ qs) i e below =
      let at = from + 21 * i in
      let w = line_read (query_numbers q) b (flat question_line qs) at below.0 e in
      let d : drop (at + 21) b ≡ flat question_line qs = rw (← drop-drop 21 at b, e) (drop_at (question_line q) (flat question_line qs) 21 (line-length (query_numbers q))) in
      let r = laid-read qs (suc i) (rw place-next at d) below.1 in
      let k : question_at b at ≡ q = question-eq (question_at b at) q (sym (question-numbers b at) ∙ w.1) in
      (rw (w.0, place-next) r.0, rw (k, r.1))

-- ---- the input

zero-length : length zero_line ≡ 16
zero-length = line-length (0 ∷ 0 ∷ 0 ∷ [])

-- a line of a table, whatever stands behind the table
line-front : (table rest : List ℕ) (at : ℕ) → at + 16 ≤ length table → take 16 (drop at (table ++ rest)) ≡ take 16 (drop at table)
line-front table rest at h = rw (drop-append-le at table rest (omega arith)) (take-append-le 16 (drop at table) rest (rw length-drop (omega arith)))

laid-layout : (b table : List ℕ) (qs : List Query) → Laid b table qs
    → (layout_of b ≡ Some (parts (length table) (length qs))) × (asks b (length table + 16) 0 (length qs) ≡ qs) × (take (length table) b ≡ table)
unfolding layout_of parts_behind
laid-layout b table qs l =
    let size = length table in
    let k = size / 16 in
    let rest = flat question_line qs in
    let lines : 16 * (0 + k) ≡ size = omega (arith, l.whole) in
    let long : length b ≡ size + (16 + 21 * length qs) =
    ap length l.bytes ∙ rw (length-append, length-append, zero-length, flat-length question_line 21 (λ q. line-length (query_numbers q)) qs) in
    let behind : drop size b ≡ zero_line ++ rest = rw l.bytes (drop_at table (zero_line ++ rest) size refl) in
    let here : is_zero_line b (16 * (0 + k)) ≡ true = rw lines (zero-read b size (rw behind (take_at zero_line rest 16 zero-length))) in
    let front : (j : ℕ) → j < k → take 16 (drop (16 * j) b) ≡ take 16 (drop (16 * j) table) = λ j h. rw l.bytes (line-front table (zero_line ++ rest) (16 * j) (omega arith)) in
    let none : (j : ℕ) → j < k → is_zero_line b (16 * (0 + j)) ≡ false = λ j h.
    by_cases (is_zero_line b (16 * (0 + j)))
    (λ z. absurd (l.undivided j (omega arith) (sym (front j h) ∙ zero-written b (16 * j) (omega arith) (rw zero-add at z))))
    (λ z. z) in
    let questions : drop (size + 16) b ≡ rest = rw (← drop-drop 16 size b, behind) (drop_at zero_line rest 16 zero-length) in
    let r = laid-read b (size + 16) qs 0 (rw add-zero questions) l.digits in
    let count : questions_behind b size ≡ length qs = omega (arith, long) in
    let even : bytes_behind b size % 21 ≡ 0 = omega (arith, long) in (
      rw (le-leb (length b) 32768 l.few, divided-at b (length b / 16) k 0 (omega arith) none here, lines, eq-eqb _ 0 even, count, rw add-zero at r.0),
      r.1,
      rw l.bytes (take_at table (zero_line ++ rest) size refl),
    )

layout-divided : (b : List ℕ) (size n : ℕ) → layout_of b ≡ Some (parts size n) → (length b ≤ 32768) × Divided b 0 (length b / 16) size n
unfolding layout_of
layout-divided b size n e =
    by_cases (leb (length b) 32768)
    (λ f. (leb-true _ _ f, divided-says b (length b / 16) 0 size n (rw f at e)))
    (λ f. let x : ◌≡◌ {A = Option Parts} None (Some (parts size n)) = rw f at e in let z : ◌≡◌ {A = ℕ} 0 1 = cc in absurd (omega arith))

layout-laid : (b : List ℕ) (size n : ℕ) → layout_of b ≡ Some (parts size n) → Laid b (take size b) (asks b (size + 16) 0 n)
layout-laid b size n e = go (layout-divided b size n e).1
  where
    go : Divided b 0 (length b / 16) size n → Laid b (take size b) (asks b (size + 16) 0 n)
    go d =
        let k = d.line in
        let p = parts-say b (16 * (0 + k)) size n d.parts in
        let lines : 16 * (0 + k) ≡ size = sym p.0 in
        let within : size + 16 ≤ length b = omega (arith, d.within) in
        let long : length b ≡ size + 16 + 21 * (0 + n) = omega (arith, p.1, p.2) in
        let laid : all_laid b (size + 16 + 21 * 0) n ≡ true = rw (add-zero, p.1, p.0) p.3 in
        let w = laid-written b (size + 16) n 0 long laid in
        let whole : length (take size b) ≡ size = length-take-le size b (omega arith) in
        let zero-here : take 16 (drop size b) ≡ zero_line = zero-written b size within (rw lines at d.here) in
        let behind : drop size b ≡ zero_line ++ flat question_line (asks b (size + 16) 0 n) = sym (take-append-drop 16 (drop size b)) ∙ rw (zero-here, drop-drop, rw add-zero at w.0) in
        let front : (i : ℕ) → i < k → take 16 (drop (16 * i) b) ≡ take 16 (drop (16 * i) (take size b)) = λ i h.
        sym (ap (λ x. take 16 (drop (16 * i) x)) (take-append-drop size b)) ∙ line-front (take size b) (drop size b) (16 * i) (omega arith) in
        record {
          bytes = sym (take-append-drop size b) ∙ ap (λ x. take size b ++ x) behind;
          few = (layout-divided b size n e).0;
          whole = rw whole (omega arith);
          undivided = λ i h z.
              let m : i < k = omega arith in
              let y : true ≡ false = sym (zero-read b (16 * i) (front i m ∙ z)) ∙ rw zero-add at (d.none i m) in
              let o : ◌≡◌ {A = ℕ} 0 1 = cc in omega arith;
          digits = w.1;
        }

-- ---- the output

-- items numbered from i on
flat-numbered : {A : Type 0} (g : A → List ℕ) (at : ℕ → A) (n i : ℕ) → flat (λ k. g (at k)) (items_from (λ k. k) i n) ≡ flat g (items_from at i n)
unfolding flat items_from
flat-numbered g at zero i = refl
flat-numbered g at (suc n) i = rw (flat-numbered g at n (suc i))

flat-same : (g h : ℕ → List ℕ) (n i : ℕ) → ((k : ℕ) → k < i + n → g k ≡ h k) → flat g (items_from (λ k. k) i n) ≡ flat h (items_from (λ k. k) i n)
unfolding flat items_from
flat-same g h zero i e = refl
flat-same g h (suc n) i e = rw (e i (omega arith), flat-same g h n (suc i) (λ k l. e k (omega arith)))

-- where the input is laid out, each question in order gets its reply; so nothing is printed where there are no questions
pub laid-output : (b table : List ℕ) (qs : List Query) → Laid b table qs → output_of b ≡ flat (reply_to table) qs
unfolding output_of output_by reply
laid-output b table qs l =
    let p = laid-layout b table qs l in
    rw (p.0, flat-numbered (reply_to (take (length table) b)) (λ k. question_at b (length table + 16 + 21 * k)) (length qs) 0, p.1, p.2)

pub no-questions : (b table : List ℕ) → Laid b table [] → output_of b ≡ []
unfolding flat
no-questions b table l = laid-output b table [] l

-- any other input gets the one line `    9    0    0`
pub torn-output : (b : List ℕ) → ((table : List ℕ) (qs : List Query) → Laid b table qs → ⊥) → output_of b ≡ code_line (Refused Form 0)
unfolding output_of output_by
torn-output b none = go (layout_of b) refl
  where
    go : (i : Option Parts) → layout_of b ≡ i → output_of b ≡ code_line (Refused Form 0)
    go None e = rw e
    go (Some p) e = absurd (none _ _ (layout-laid b p.table p.questions e))

-- an input that is not torn has the whole questions behind its table, in at most 32,768 bytes
pub layout-questions : (b : List ℕ) (size n : ℕ) → layout_of b ≡ Some (parts size n) → (length b ≤ 32768) × (n ≡ questions_behind b size)
layout-questions b size n e =
    let d = layout-divided b size n e in
    let p = parts-say b (16 * (0 + d.1.line)) size n d.1.parts in
    (d.0, rw p.0 p.1)

-- the calls of `reply` for each question, one behind the other, write the whole output
pub replies-output : (b : List ℕ) (size n m : ℕ) → layout_of b ≡ Some (parts size n) → longest ≤ m → output_of b ≡ flat (λ k. reply_in b size k m) (items_from (λ k. k) 0 n)
unfolding output_of output_by
replies-output b size n m e h =
    let there = (layout-questions b size n e).1 in
    rw e (flat-same (reply b size) (λ k. reply_in b size k m) n 0 (λ k l. sym (reply-fits b size k m h (omega arith))))
