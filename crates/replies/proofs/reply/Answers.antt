-- `replies::reply` meets its contract: the question stands behind the table and its zero line, 21 bytes for each one before it.
-- Assumes nothing.
use Rattle.std.proofs.Common.{◌≡◌, ◌<◌, ◌≤◌, ℕ, List, inl, inr, sym, ap, ◌∙◌, arith, length, take, Some}
use lib.ListN.{length-append, length-take}
use Rattle.columns.specs.Lines.{over}
use Rattle.batch.specs.Input.{questions_behind}
use Rattle.batch.specs.Output.{reply_to, reply}
use Rattle.batch.proofs.Replies.{reply-fits, length-fits, reply-none}
use Rattle.replies.proofs.reply.Goals as goal
use Rattle.replies.proofs.reply.Goals.{then-out-lt-REPLY_BYTES-via-then-out-lt-REPLY_BYTES, then-out-lt-REPLY_BYTES-via-else-out-lt-REPLY_BYTES+then-bytes_behind-k}

-- what is written over the front of memory fits it
over-fits : (new old out : List ℕ) → out ≡ over new old → length out ≡ length old → length new ≤ length old
over-fits new old out put same = omega (arith, simp length-append at (ap length put))

pub returns-then-out-lt-REPLY_BYTES : goal.returns-then-out-lt-REPLY_BYTES
returns-then-out-lt-REPLY_BYTES c =
    let b = c.args.input.now in
    let none = reply-none b c.args.size c.args.k (length c.args.out.now) (
    elim c.then-out-lt-REPLY_BYTES.branch [
      | then-out-lt-REPLY_BYTES-via-then-out-lt-REPLY_BYTES w ↦ inl w.if-out-lt-REPLY_BYTES.true
      | then-out-lt-REPLY_BYTES-via-else-out-lt-REPLY_BYTES+then-bytes_behind-k w ↦ inr (rw (← w.bytes_behind.ensures) w.if-bytes_behind-k.true)
    ]) in
    record { length = sym none.0; within = tt; bytes = rw none.1 }

pub slice_bounds-put_reply-end : goal.slice_bounds-put_reply-end
slice_bounds-put_reply-end c = simp length-take (omega arith)

pub returns : goal.returns
unfolding reply
returns c =
    let args = c.args in
    let b = args.input.now in
    let there : args.k < questions_behind b args.size = rw (← c.bytes_behind.ensures) c.if-bytes_behind-k.false in
    let e : reply b args.size args.k ≡ reply_to (take args.size b) c.question_at-query.result = rw c.question_at-query.ensures in
    record {
      length = ap Some (c.put_reply.ensures.length ∙ sym (ap length e)) ∙ sym (length-fits b args.size args.k _ c.if-out-lt-REPLY_BYTES.false there);
      within = omega (arith, c.put_reply.ensures.length, over-fits (reply_to (take args.size b) c.question_at-query.result) args.out.now c.put_reply.new.out c.put_reply.ensures.bytes c.put_reply.auto.out);
      bytes = c.put_reply.ensures.bytes ∙ rw (reply-fits b args.size args.k _ c.if-out-lt-REPLY_BYTES.false there, e);
    }
