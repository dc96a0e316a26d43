-- A line whose fields say a well-formed fact is laid out, where byte 10 ends it.
-- Assumes nothing.
use Rattle.std.proofs.Common.{◌≡◌, true, not, ◌&&◌, ◌||◌, List, ℕ, ◌+◌, ◌*◌, get_or, eqb, sym, ap, ◌∙◌, add_assoc, arith}
use mathlib.Core.Bool.{or_assoc}
use borrow.Author.Tests.{ne_eqb, not-false}
use Rattle.columns.specs.Fields.{field_at}
use Rattle.columns.specs.Lines.{numbers_at, laid_out}
use Rattle.columns.proofs.Fields.{both}
use Rattle.columns.proofs.Torn.{fields_at, lacking, torn-line, read-line}
use Rattle.facts.proofs.Terms.{T_of}
use Rattle.facts.proofs.Facts.{fact-eq, terms-within}
use Rattle.facts.specs.declared.Fact.{Fact}
use Rattle.facts.specs.Facts.{fact, well_formed}
use Rattle.table.specs.Tables.{line_fact}

-- a line is torn exactly where a field is none or its end lacks
torn-fields : (b : List ℕ) (at : ℕ)
    → eqb (field_at b at) 100000 || eqb (field_at b (at + 5)) 100000 || eqb (field_at b (at + 10)) 100000 || not (eqb (get_or b (at + 15) 0) 10) ≡ not (laid_out 3 b at)
unfolding lacking
torn-fields b at = simp or_assoc (simp add_assoc at (torn-line 3 b at))

-- the fields of a line that is laid out say its fact
laid-fact : (b : List ℕ) (i : ℕ) → laid_out 3 b (16 * i) ≡ true → fact (field_at b (16 * i)) (field_at b (16 * i + 5)) (field_at b (16 * i + 10)) ≡ line_fact b i
unfolding line_fact fields_at numbers_at
laid-fact b i e = let r = simp add_assoc at (read-line 3 b (16 * i) e) in fact-eq _ (line_fact b i) (cc) (cc) (cc)

pub formed-laid : (b : List ℕ) (i : ℕ)
    → well_formed (fact (field_at b (16 * i)) (field_at b (16 * i + 5)) (field_at b (16 * i + 10))) && eqb (get_or b (16 * i + 15) 0) 10 ≡ true
    → (laid_out 3 b (16 * i) ≡ true) × (well_formed (line_fact b i) ≡ true)
formed-laid b i e =
    let f : Fact = fact (field_at b (16 * i)) (field_at b (16 * i + 5)) (field_at b (16 * i + 10)) in
    let x = both (well_formed f) (eqb (get_or b (16 * i + 15) 0) 10) e in
    let p = terms-within f (T_of _ x.0) in
    let torn = torn-fields b (16 * i) in
    let laid : laid_out 3 b (16 * i) ≡ true =
    not-false _ (sym torn ∙ rw (ne_eqb f.subject 100000 (λ z. omega (arith, p.0)), ne_eqb f.predicate 100000 (λ z. omega (arith, p.1)), ne_eqb f.object 100000 (λ z. omega (arith, p.2)), x.1)) in
    (laid, ap well_formed (sym (laid-fact b i laid)) ∙ x.0)
