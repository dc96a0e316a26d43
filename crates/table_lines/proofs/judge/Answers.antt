-- `table_lines::judge` meets its contract: the derived order is that of the paper.
-- Assumes nothing.
use Rattle.std.proofs.Common.{◌≡◌, Option, None, Some, true, refl, ◌∙◌, rules}
use Rattle.std.specs.Ordering.{is_lt, nat_cmp, ordering_then}
use Rattle.facts.specs.declared.Fact.{Fact}
use Rattle.facts.proofs.Order.{ordered-before}
use Rattle.table.specs.Judged.{judged}
use Rattle.table_lines.proofs.judge.Goals as goal
use Rattle.table_lines.proofs.judge.Goals.{After-verdict}

-- the fact before it, if there is one, comes before it
ascends : (c : After-verdict) (o : Option Fact) → c.args.last ≡ o → c.verdict.result ≡ judged o c.args.f
unfolding judged
ascends c None e =
    let n : c.is_none_or.result ≡ true = search rules in
    c.verdict.ensures ∙ rw n
ascends c (Some a) e =
    let f = c.args.f in
    let n : c.is_none_or.result ≡ is_lt (ordering_then (nat_cmp a.subject f.subject) (ordering_then (nat_cmp a.predicate f.predicate) (nat_cmp a.object f.object))) = search rules in
    c.verdict.ensures ∙ rw (n, ordered-before a f)

pub returns : goal.returns
returns c = ascends c c.args.last refl
