-- `search_parts::Search::lower_bound` meets its contract: the subjects rise, so the point that the search by halves finds parts them.
-- Assumes nothing.
use Rattle.std.proofs.Common.{ltb, rules}
use Rattle.std.proofs.lemmas.List.Sorted.{IsPartitionPoint-from_clause}
use Rattle.question.proofs.Parts.{point-cut, point-asked}
use Rattle.search_parts.proofs.Search.lower_bound.Goals as goal

pub returns : goal.returns
returns c =
    let facts = c.args.self.facts.now in
    let p = c.partition_point in
    point-cut facts c.args.x c.args.self.rises p.result p.ensures.bound
    (IsPartitionPoint-from_clause (λ f. ltb f.subject c.args.x) _ _ p.ensures.partitioned (point-asked facts c.args.x c.args.self.rises) (λ a r q k. search rules))
