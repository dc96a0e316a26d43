-- The facts of an input while they are gathered: a token's number, and one statement more.
-- Assumes nothing.
use mathlib.Core.Path.{◌≡◌, refl, sym, ap, subst, ◌∙◌}
use mathlib.Core.Logic.{inl, inr, ⊎_elim}
use mathlib.Core.Bool.{Bool, true, false, cond}
use mathlib.Core.List.{List, [], ◌∷◌, ◌++◌, append-nil, Memᴰ}
use Prim.Native.Nat.{ℕ, zero, suc, ◌+◌, ◌-◌, ◌*◌, ◌≤◌, ◌<◌}
use native.Mathlib.Omega.{arith}
use lib.ListN.{length, take, drop, length-drop}
use lib.Seq.{length-take-le, take-take, drop-drop}
use Rattle.facts.specs.declared.Fact.{Fact}
use Rattle.facts.specs.Facts.{fact}
use Rattle.facts.proofs.Terms.{by_cases}
use Rattle.std.specs.Prelude.{Some, None, Ok}
use Rattle.ntriples.specs.declared.Triple.{Triple}
use Rattle.ntriples.specs.Tokens.{Token, part, spanned}
use Rattle.ntriples.specs.Lexed.{Line, line_of}
use Rattle.ntriples.proofs.Spans.{triple-spans}
use Rattle.numbering.specs.declared.Counts.{Counts}
use Rattle.numbering.specs.Numbering.{has, place, is_literal, Known, with_token, number_in}
use Rattle.numbering.specs.Vocabulary.{vocabulary, word_of, term_of, with_term}
use Rattle.numbering.specs.Index.{entries, Kept, Entered}
use Rattle.numbering.proofs.Numbering.{place-within, known-new}
use Rattle.numbering.proofs.Terms as terms
use Rattle.gathering.specs.Gathered.{with}
use Rattle.gathering.specs.Keys.{Narrow, Holds, AddsTo}
use Rattle.gathering.proofs.Gathered.{with-length, held-or-new}
use Rattle.imports.specs.Lines.{Statement, said_by, said}
use Rattle.imports.specs.Import.{known_by, fact_of, facts_of}
use Rattle.imports.specs.Collecting.{Termed, Gathers, TripleStands, token_at, statement_at}
use Rattle.imports.proofs.Facts.{known-snoc, facts-snoc, fact-held}

-- the vocabulary's tokens need no entry, and the others one each
term-there : (k : Known) (t : Token) → has t vocabulary ≡ true → term_of k t ≡ 1 + place t vocabulary
unfolding term_of
term-there k t p = ap (λ (b : Bool). cond b (1 + place t vocabulary) (number_in k t)) p

term-else : (k : Known) (t : Token) → has t vocabulary ≡ false → term_of k t ≡ number_in k t
unfolding term_of
term-else k t p = ap (λ (b : Bool). cond b (1 + place t vocabulary) (number_in k t)) p

with-else : (k : Known) (t : Token) → has t vocabulary ≡ false → with_term k t ≡ with_token k t
unfolding with_term
with-else k t p = ap (λ (b : Bool). cond b k (with_token k t)) p

-- a token of the vocabulary has its number, and the index stays
pub termed-fixed : (input : List ℕ) (from to : ℕ) (items : List ℕ) (c : Counts) (v : ℕ) (k : Known) → Kept input items c k → Some v ≡ word_of (part input from to) → Termed input from to items c c v k
termed-fixed input from to items c v k q e =
    let t = part input from to in
    by_cases (has t vocabulary)
    (λ p. let z : Some v ≡ Some (1 + place t vocabulary) = rw p at e in
    let n : v ≡ 1 + place t vocabulary = cc in
    let w : with_term k t ≡ k = terms.term-kept k t (inl p) in
    record {
      number = n ∙ sym (term-there (with_term k t) t p);
      narrow = omega (arith, place-within t vocabulary p);
      kept = subst (Kept input items c) (sym w) q;
      more = omega arith;
    })
    (λ p. let z : Some v ≡ None = rw p at e in absurd (cc))

-- a number is narrow where few tokens have one
narrow : (k : Known) (t : Token) → length k.names ≤ 4096 → length k.literals ≤ 4096 → terms.Numbered k t → term_of k t < 65536
narrow k t n l h =
    let s = terms.term-kinds k t (omega arith) (omega arith) h in
    by_cases (has t vocabulary) (λ p. omega (arith, s.fixed p, place-within t vocabulary p))
    (λ p. by_cases (is_literal t) (λ q. omega (arith, (s.literal q).1)) (λ q. omega (arith, (s.name p q).1)))

-- any other gets its number by first appearance
pub termed-other : (input : List ℕ) (from to : ℕ) (after : List ℕ) (c d : Counts) (r : ℕ) (k : Known) → entries c < 4096
    → None ≡ word_of (part input from to) → Entered input from to after c d r k → Termed input from to after c d r k
termed-other input from to after c d r k h e m =
    let t = part input from to in
    by_cases (has t vocabulary)
    (λ p. let z : None ≡ Some (1 + place t vocabulary) = rw p at e in absurd (cc))
    (λ p.
    let u = with_token k t in
    let w : with_term k t ≡ u = with-else k t p in
    let q : Kept input after d u = m.kept in
    let n : r ≡ term_of (with_term k t) t = m.number ∙ sym (term-else u t p) ∙ ap (λ (x : Known). term_of x t) (sym w) in
    let few : entries d ≤ 4096 = omega (arith, m.more) in
    let a : length u.names ≤ 4096 = omega (arith, q.names) in
    let b : length u.literals ≤ 4096 = omega (arith, q.literals) in
    record {
      number = n;
      narrow = rw (n, w) (narrow u t a b (inr (known-new k t)));
      kept = subst (Kept input after d) (sym w) q;
      more = m.more;
    })

-- ---- one statement more

-- what the three terms of a statement come to: the index with its tokens, and its fact
pub record Stated (input items : List ℕ) (c : Counts) (s : Statement) (f : Fact) (k : Known) : Type 0 where
  pub kept : Kept input items c (with_term (with_term (with_term k s.subject) s.predicate) s.object)
  pub fact : f ≡ fact_of (with_term (with_term (with_term k s.subject) s.predicate) s.object) s
  pub narrow : Narrow f

-- the three terms, one behind the other
pub stated : (input : List ℕ) (a b : ℕ) (d e : ℕ) (g h : ℕ) (x y z : List ℕ) (c₀ c₁ c₂ c₃ : Counts) (r t u : ℕ) (k : Known)
    → Termed input a b x c₀ c₁ r k
    → Termed input d e y c₁ c₂ t (with_term k (part input a b))
    → Termed input g h z c₂ c₃ u (with_term (with_term k (part input a b)) (part input d e))
    → Stated input z c₃ (record { subject = part input a b; predicate = part input d e; object = part input g h }) (fact r t u) k
stated input a b d e g h x y z c₀ c₁ c₂ c₃ r t u k p q o =
    let l = with_term k (part input a b) in
    let m = with_term l (part input d e) in
    let n = with_term m (part input g h) in
    let s₁ = terms.numbered-new k (part input a b) in
    let s₂ = terms.numbered-still l (part input d e) (part input a b) s₁ in
    let p₂ = terms.numbered-new l (part input d e) in
    let i : r ≡ term_of n (part input a b) = p.number ∙ sym (terms.term-still l (part input d e) (part input a b) s₁) ∙ sym (terms.term-still m (part input g h) (part input a b) s₂) in
    let j : t ≡ term_of n (part input d e) = q.number ∙ sym (terms.term-still m (part input g h) (part input d e) p₂) in
    record { kept = o.kept; fact = rw (i, j, o.number) refl; narrow = record { subject = p.narrow; predicate = q.narrow; object = o.narrow } }

-- a fact brings three tokens, and one that is held none: so three entries a fact are room enough
few-entries : (input items items' : List ℕ) (c d : Counts) (done : List Statement) (s : Statement) → Kept input items c (known_by done) → Kept input items' d (known_by (done ++ (s ∷ [])))
    → length (facts_of done) ≤ 1024 → entries c ≤ 3 * length (facts_of done) → entries d ≤ entries c + 3
    → entries d ≤ 3 * length (with (fact_of (known_by (done ++ (s ∷ []))) s) (facts_of done))
few-entries input items items' c d done s k l few old more =
    let f = fact_of (known_by (done ++ (s ∷ []))) s in
    ⊎_elim
    (λ (m : Memᴰ f (facts_of done)).
    let e : known_by (done ++ (s ∷ [])) ≡ known_by done = fact-held done s (omega (arith, l.names)) m in
    let a : d.names ≡ c.names = l.names ∙ ap (λ (x : Known). length x.names) e ∙ sym k.names in
    let b : d.literals ≡ c.literals = l.literals ∙ ap (λ (x : Known). length x.literals) e ∙ sym k.literals in
    omega (arith, with-length f (facts_of done)))
    (λ (m : length (with f (facts_of done)) ≡ suc (length (facts_of done))). omega arith) (held-or-new f (facts_of done))

pub gathers-more : (input items items' keys keys' : List ℕ) (b c : Counts) (m n : ℕ) (done : List Statement) (s : Statement) (f : Fact)
    → Gathers input items b keys m done → m ≤ 1024 → Stated input items' c s f (known_by done) → entries c ≤ entries b + 3
    → AddsTo f keys keys' m n → Gathers input items' c keys' n (done ++ (s ∷ []))
gathers-more input items items' keys keys' b c m n done s f q few t more add =
    let e = known-snoc done s in
    let a = add (facts_of done) q.held in
    let k : Kept input items' c (known_by (done ++ (s ∷ []))) = subst (Kept input items' c) (sym e) t.kept in
    let x : f ≡ fact_of (known_by (done ++ (s ∷ []))) s = t.fact ∙ ap (λ (x : Known). fact_of x s) (sym e) in
    let w : with f (facts_of done) ≡ facts_of (done ++ (s ∷ [])) = ap (λ (y : Fact). with y (facts_of done)) x ∙ sym (facts-snoc done s) in
    let h : m ≡ length (facts_of done) = q.held.count in
    let l = few-entries input items items' b c done s q.index k (omega arith) (omega (arith, q.tokens)) more in
    record {
      index = k;
      held = subst (Holds keys' n) w a.held;
      tokens = rw (a.held.count, x) l;
    }

-- ---- one line more

-- a part of a part
cut-front : (f m n : ℕ) (l : List ℕ) → n ≡ f + m → drop f (take n l) ≡ take m (drop f l)
cut-front zero m n l e = let k : n ≡ m = omega arith in rw k refl
cut-front (suc f) m zero l e = absurd (omega arith)
cut-front (suc f) zero (suc n) [] e = refl
cut-front (suc f) (suc m) (suc n) [] e = refl
cut-front (suc f) m (suc n) (x ∷ l) e = cut-front f m n l (omega arith)

part-part : (s : List ℕ) (at end from to : ℕ) → from ≤ to → to ≤ end - at → part (part s at end) from to ≡ part s (at + from) (at + to)
part-part s at end from to h g =
    let e : at + to - (at + from) ≡ to - from = omega arith in
    ap (take (to - from)) (cut-front from (end - at - from) (end - at) (drop at s) (omega arith) ∙ ap (take (end - at - from)) (drop-drop from at s))
    ∙ take-take (to - from) (end - at - from) (drop (at + from) s) (omega arith)
    ∙ ap (λ (x : ℕ). take x (drop (at + from) s)) (sym e)

-- the statement that a line of the input makes stands at its spans behind the line's place
pub line-said : (input : List ℕ) (at end : ℕ) (t : Triple) → at ≤ end → end ≤ length input → line_of (part input at end) ≡ Ok (Some t)
    → (said (part input at end) ≡ statement_at input at t ∷ []) × TripleStands input at t
unfolding said_by
line-said input at end t h g e =
    let a = t.subject in
    let b = t.predicate in
    let c = t.object in
    let l = part input at end in
    let s = triple-spans l t e in
    let n : length l ≡ end - at = length-take-le (end - at) (drop at input) (omega (arith, length-drop at input)) in
    let x : spanned l a ≡ token_at input at a = part-part input at end a.from a.to (omega (arith, s.subject)) (omega (arith, s.subject-predicate, s.predicate, s.predicate-object, s.object, s.inside)) in
    let y : spanned l b ≡ token_at input at b = part-part input at end b.from b.to (omega (arith, s.predicate)) (omega (arith, s.predicate-object, s.object, s.inside)) in
    let z : spanned l c ≡ token_at input at c = part-part input at end c.from c.to (omega (arith, s.object)) (omega (arith, s.inside)) in (
      ap (said_by l) e ∙ rw (x, y, z) refl,
      record {
        subject = record { some = omega (arith, s.subject); within = omega (arith, s.subject-predicate, s.predicate, s.predicate-object, s.object, s.inside) };
        predicate = record { some = omega (arith, s.predicate); within = omega (arith, s.predicate-object, s.object, s.inside) };
        object = record { some = omega (arith, s.object); within = omega (arith, s.inside) };
      },
    )

-- the same statements, gathered
pub gathers-as : {input items keys : List ℕ} {c : Counts} {n : ℕ} (done : List Statement) {ss us : List Statement} → ss ≡ us → Gathers input items c keys n (done ++ us) → Gathers input items c keys n (done ++ ss)
gathers-as {input} {items} {keys} {c} {n} done e q = subst (λ (x : List Statement). Gathers input items c keys n (done ++ x)) (sym e) q

-- and a line that makes none adds nothing
pub line-silent : {input items keys : List ℕ} {c : Counts} {n : ℕ} (done : List Statement) (l : List ℕ) (v : Line) → line_of l ≡ v → said_by l v ≡ [] → Gathers input items c keys n done
    → Gathers input items c keys n (done ++ said l)
line-silent {input} {items} {keys} {c} {n} done l v e h q = gathers-as done (ap (said_by l) e ∙ h) (subst (Gathers input items c keys n) (sym (append-nil done)) q)
