-- `token_index::Index::find` meets its contract: the entries stand in the front of the row.
-- Assumes nothing.
use Rattle.numbering.proofs.Index.{ordered-front, sought-front}
use Rattle.token_index.proofs.Index.find.Goals as goal

pub look_up-requires : goal.look_up-requires
look_up-requires c =
    let index = c.args.self.now in
    rw c.len.ensures (ordered-front index.input.now index.items.now _ index.ordered.room index.ordered)

pub returns : goal.returns
returns c =
    let index = c.args.self.now in
    sought-front index.input.now index.items.now _ index.ordered.room c.args.token.now _ (rw c.len.ensures at c.look_up.ensures)
