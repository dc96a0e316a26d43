-- `fact_keys::Keys::find` meets its contract: the keys rise, so that the library's search finds one that is there.
-- Assumes nothing.
use Rattle.gathering.proofs.Keys.{key-found}
use Rattle.fact_keys.proofs.Keys.find.Goals as goal

pub returns : goal.returns
returns c =
    let b = c.binary_search.ensures in key-found _ _ c.args.self.now.rising c.args.key c.binary_search.result b.bound b.ok b.position
