-- `import_collect::Gathered::add_statement` meets its contract: three terms, and the fact among the others.
-- Assumes nothing.
use Prim.Native.Nat.{ℕ, ◌+◌, ◌≤◌}
use native.Mathlib.Omega.{arith}
use Rattle.numbering.specs.Vocabulary.{with_term}
use Rattle.imports.specs.Import.{known_by}
use Rattle.imports.specs.Collecting.{token_at, statement_at}
use Rattle.imports.proofs.Collecting.{stated, gathers-more}
use Rattle.import_collect.proofs.Gathered.add_statement.Goals as goal

three-more : (a b c d : ℕ) → b ≤ a + 1 → c ≤ b + 1 → d ≤ c + 1 → d ≤ a + 3
three-more a b c d h g f = omega arith

pub returns-clause-grows : goal.returns-clause-grows
returns-clause-grows c done q =
    let input = c.args.self.now.index.now.input.now in
    let k = known_by done in
    let x = token_at input c.args.at c.args.t.subject in
    let y = token_at input c.args.at c.args.t.predicate in
    let t = (rw c.in_input.ensures at c.term-subject.ensures.gives) k q.index in
    let a = c.term-subject.ensures.same_reference.0 in
    let b = c.term-predicate.ensures.same_reference.0 in
    let u = (rw (c.in_input-2.ensures, a) at c.term-predicate.ensures.gives) (with_term k x) t.kept in
    let v = (rw (c.in_input-3.ensures, b, a) at c.term-object.ensures.gives) (with_term (with_term k x) y) u.kept in
    gathers-more _ _ _ _ _ _ _ _ _ done (statement_at input c.args.at c.args.t) _ q c.requires.0.more
    (stated _ _ _ _ _ _ _ _ _ _ _ _ _ _ _ _ _ k t u v) (three-more _ _ _ _ t.more u.more v.more) c.add.ensures.adds
