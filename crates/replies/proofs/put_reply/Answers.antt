-- `replies::put_reply` meets its contract: the question is put with the output behind the first line, which then gets the answer's code.
-- Assumes nothing.
use mathlib.Core.Path.{◌∙◌}
use native.Mathlib.Omega.{arith}
use Rattle.batch.proofs.Codes.{code_below}
use Rattle.batch.proofs.Replies.{reply-answer, reply-put}
use borrow.Author.Rules.{rules}
use Rattle.replies.proofs.put_reply.Goals as goal

pub put_code-requires : goal.put_code-requires
put_code-requires c =
    let q = c.question-a in
    let e = reply-answer c.args.table.now c.args.q c.args.out.now _ q.result c.requires q.ensures.call in
    (search rules, code_below _ c.args.q.fact c.args.q.limit _ _ (omega arith) e)

pub returns : goal.returns
returns c =
    let q = c.question-a in
    let p = reply-put c.args.table.now c.args.q c.args.out.now _ q.result c.requires q.ensures.call in
    record { length = c.reply_bytes.ensures ∙ p.0; bytes = c.put_code.ensures ∙ p.1 }
