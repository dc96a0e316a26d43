-- Laws of samples: how a token's sample is found, and that a fact of samples earns what the statement's own fact does.
-- Assumes nothing.
use mathlib.Core.Path.{◌≡◌, refl, sym, ap}
use mathlib.Core.Bool.{false}
use mathlib.Core.List.{List, [], ◌∷◌, Memᴰ}
use Prim.Native.Nat.{ℕ, suc, ◌≤◌, ◌<◌}
use native.Mathlib.Omega.{arith}
use lib.ListN.{length}
use borrow.Author.Tests.{ne_eqb, lt-ltb, le-ltb}
use Rattle.facts.specs.declared.Kind.TheVariants.{Name, Literal}
use Rattle.facts.specs.declared.Fact.{Fact}
use Rattle.facts.specs.Results.{Verdict}
use Rattle.facts.specs.Terms.{kind_of}
use Rattle.facts.specs.Facts.{named_subject, named_object, fault_of}
use Rattle.facts.proofs.Terms.{by_cases}
use Rattle.ntriples.specs.Lexed.{line_of}
use Rattle.ntriples.specs.Tokens.{Token}
use Rattle.numbering.specs.Numbering.{has, is_literal, Known}
use Rattle.numbering.specs.Vocabulary.{vocabulary, term_of}
use Rattle.numbering.proofs.Terms.{Kinds}
use Rattle.imports.specs.Lines.{lines_of, Statement, said, statements}
use Rattle.imports.specs.Import.{known_by, fact_of, line_refusal, fact_refusal, first_on, or_else, judged_by, judged}
use Rattle.imports.specs.Samples.{sample_of, sample_fact}
use Rattle.imports.proofs.Sizes.{tokens-among, said-among, token-kinds}

-- ---- faults ask for kinds

-- two numbers of one kind, which as predicates ask for the same names
record Alike (a b : ℕ) : Type 0 where
  pub kind : kind_of a ≡ kind_of b
  pub subject : named_subject a ≡ named_subject b
  pub object : named_object a ≡ named_object b

fault-alike : (f g : Fact) → Alike f.subject g.subject → Alike f.predicate g.predicate → Alike f.object g.object → fault_of f ≡ fault_of g
unfolding fault_of
fault-alike f g s p o = rw (s.kind, p.kind, o.kind, p.object, p.subject)

-- beyond the vocabulary no predicate asks for names
free : (n : ℕ) → 6 ≤ n → (named_subject n ≡ false) × (named_object n ≡ false)
unfolding named_object
free n h =
    let a = ne_eqb n 1 (omega arith) in let b = ne_eqb n 2 (omega arith) in let c = ne_eqb n 3 (omega arith) in let d = ne_eqb n 4 (omega arith) in let e = ne_eqb n 5 (omega arith) in
    (rw (a, b, c, d), rw (a, b, c, d, e))

name-kind : (n : ℕ) → 6 ≤ n → n < 40000 → kind_of n ≡ Name
unfolding kind_of
name-kind n h l = rw (ne_eqb n 0 (omega arith), le-ltb n 6 h, lt-ltb n 40000 l)

literal-kind : (n : ℕ) → 40000 ≤ n → n < 60000 → kind_of n ≡ Literal
unfolding kind_of
literal-kind n h l = rw (ne_eqb n 0 (omega arith), le-ltb n 6 (omega arith), le-ltb n 40000 h, lt-ltb n 60000 l)

-- a token's sample is like its term
sample-alike : (k : Known) (t : Token) → Kinds k t → Alike (sample_of t) (term_of k t)
unfolding sample_of kind_of named_object
sample-alike k t r =
    let n : ℕ = term_of k t in
    by_cases (has t vocabulary) (λ v. rw (v, r.fixed v) (record { kind = refl; subject = refl; object = refl }))
    (λ v. by_cases (is_literal t)
    (λ l. let b = r.literal l in rw (v, l) (record { kind = sym (literal-kind n b.0 (omega arith)); subject = sym (free n (omega arith)).0; object = sym (free n (omega arith)).1 }))
    (λ l. let b = r.name v l in rw (v, l) (record { kind = sym (name-kind n b.0 b.1); subject = sym (free n b.0).0; object = sym (free n b.0).1 })))

-- ---- judging by samples

-- judgements that agree on some lines find the same there
first-same : (g h : List ℕ → Verdict) (i : ℕ) (ls : List (List ℕ)) → ((l : List ℕ) → Memᴰ l ls → g l ≡ h l) → first_on g i ls ≡ first_on h i ls
unfolding first_on
first-same g h i [] e = refl
first-same g h i (l ∷ ls) e = rw (e l (Memᴰ.head refl), first-same g h (suc i) ls (λ k m. e k (Memᴰ.tail m)))

refusal-same : (f g : Statement → Fact) (ss : List Statement) → ((s : Statement) → Memᴰ s ss → fault_of (f s) ≡ fault_of (g s)) → fact_refusal f ss ≡ fact_refusal g ss
unfolding fact_refusal
refusal-same f g [] e = refl
refusal-same f g (s ∷ ss) e = e s (Memᴰ.head refl)

-- the samples of an input's statements earn what their facts do
pub judged-sampled : (b : List ℕ) → length b ≤ 65536 → judged_by sample_fact (lines_of b) ≡ judged (lines_of b)
unfolding judged_by
judged-sampled b h =
    let ls = lines_of b in
    let k = known_by (statements ls) in
    let like : (s : Statement) → Memᴰ s (statements ls) → fault_of (sample_fact s) ≡ fault_of (fact_of k s) =
    λ s m. let t = tokens-among s (statements ls) m in
    fault-alike (sample_fact s) (fact_of k s) (sample-alike k _ (token-kinds b h _ t.0)) (sample-alike k _ (token-kinds b h _ t.1)) (sample-alike k _ (token-kinds b h _ t.2)) in
    ap (or_else (first_on (λ l. line_refusal (line_of l)) 0 ls))
    (first-same (λ l. fact_refusal sample_fact (said l)) (λ l. fact_refusal (fact_of k) (said l)) 0 ls
    (λ l m. refusal-same sample_fact (fact_of k) (said l) (λ s i. like s (said-among s l ls m i))))
