-- `token_index::Index::number` meets its contract.
-- Assumes nothing.
use mathlib.Core.List.{List}
use Prim.Native.Nat.{ℕ, ◌≤◌, ◌<◌}
use native.Mathlib.Omega.{arith}
use lib.ListN.{length, get_or}
use Rattle.std.specs.Prelude.{Err}
use Rattle.ntriples.specs.Tokens.{Token}
use Rattle.numbering.specs.Index.{Sought, Missing}
use Rattle.ordered.proofs.Inserted.{inserted-length}
use Rattle.numbering.proofs.Entered.{entered-found, entered-new, entered-ordered, next-most}
use Rattle.token_index.proofs.Index.number.Goals as goal

-- where the entry belongs
missing : (input items : List ℕ) (n : ℕ) (t : Token) (r : ℕ) → Sought input items n t (Err r) → Missing input items n t r
unfolding Sought
missing input items n t r m = m

pub pack-requires : goal.pack-requires
pack-requires c =
    let index = c.args.self.now in
    let first = get_or index.input.now c.args.token.from 0 in
    (omega (arith, index.few), omega (arith, index.few), rw c.next-number.ensures.0 (next-most index.counts first (omega (arith, index.most))))

pub insert-requires : goal.insert-requires
insert-requires c = rw c.len-n.ensures ((missing _ _ _ _ _ c.in-Err.ensures).within, c.requires.2)

pub invariant_of-self-clause-most : goal.invariant_of-self-clause-most
invariant_of-self-clause-most c =
    let items = c.args.self.now.items.now in
    let n = c.len-n.result in
    let within : c.in-Err.at ≤ n = rw c.len-n.ensures (missing _ _ _ _ _ c.in-Err.ensures).within in
    let more : n < length items = rw c.len-n.ensures c.requires.2 in
    rw c.insert.ensures (omega (arith, inserted-length items n c.in-Err.at c.pack.result within more, c.args.self.now.most))

pub invariant_of-self-clause-ordered : goal.invariant_of-self-clause-ordered
invariant_of-self-clause-ordered c =
    let index = c.args.self.now in
    let n = c.next-number.ensures in
    rw (c.insert.ensures, c.pack.ensures, c.len-n.ensures, n.1, n.0)
    (entered-ordered _ _ c.args.token.from c.args.token.to _ c.requires.0 c.requires.1 index.few index.ordered c.requires.2 index.most c.in-Err.at (missing _ _ _ _ _ c.in-Err.ensures))

pub returns-in-Ok-clause-enters : goal.returns-in-Ok-clause-enters
unfolding Sought
returns-in-Ok-clause-enters c k q = entered-found _ _ c.args.token.from c.args.token.to _ _ k q c.in-Ok.ensures

pub returns-in-Err-clause-enters : goal.returns-in-Err-clause-enters
returns-in-Err-clause-enters c k q =
    let index = c.args.self.now in
    let n = c.next-number.ensures in
    rw (c.insert.ensures, c.pack.ensures, c.len-n.ensures, n.1, n.0)
    (entered-new _ _ c.args.token.from c.args.token.to _ c.requires.0 c.requires.1 index.few index.ordered c.requires.2 index.most c.in-Err.at (missing _ _ _ _ _ c.in-Err.ensures) k q)
