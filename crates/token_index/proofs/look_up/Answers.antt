-- `token_index::look_up` meets its contract: the entries are in the order of their tokens.
-- Assumes nothing.
use mathlib.Core.Path.{◌≡◌}
use native.Mathlib.Omega.{arith}
use borrow.Author.Rules.{rules}
use Rattle.std.proofs.lemmas.Fn.{always_returns_same}
use Rattle.numbering.specs.Weights.{token_cmp}
use Rattle.numbering.specs.Index.{found, Sought}
use Rattle.numbering.proofs.Index.{searchable, held-at, missing-at}
use Rattle.token_index.proofs.look_up.Goals as goal

pub returns-in-Ok : goal.returns-in-Ok
unfolding Sought
returns-in-Ok c =
    held-at _ _ c.requires c.args.token.now (λ i. omega (arith, c.type_inv.input i)) (λ i. omega (arith, c.type_inv.token i)) c.in-Ok.k c.in-Ok.ensures.bound
    (c.in-Ok.ensures.position (λ v. token_cmp (found c.args.input.now v) c.args.token.now)
    (always_returns_same _ (λ a r. r ≡ token_cmp (found c.args.input.now a.0.now) c.args.token.now) _ (λ a r f' k. search rules)))

pub returns-in-Err : goal.returns-in-Err
unfolding Sought
returns-in-Err c =
    missing-at _ _ c.requires c.args.token.now (λ i. omega (arith, c.type_inv.input i)) (λ i. omega (arith, c.type_inv.token i)) c.in-Err.k c.in-Err.ensures.bound
    ((c.in-Err.ensures.position (λ v. token_cmp (found c.args.input.now v) c.args.token.now)
    (always_returns_same _ (λ a r. r ≡ token_cmp (found c.args.input.now a.0.now) c.args.token.now) _ (λ a r f' k. search rules)))
    (searchable _ _ c.requires c.args.token.now (λ i. omega (arith, c.type_inv.input i)) (λ i. omega (arith, c.type_inv.token i))))
