-- `field_reader::digits` meets its contract. The loop's invariant: what was read goes on with the digits left, and is small enough for them.
-- Assumes nothing.
use Rattle.std.proofs.Common.{◌-◌, length, sym, ◌∙◌, arith}
use Rattle.columns.specs.Columns.{digits}
use Rattle.columns.proofs.Columns.{room_least, room-next, room_most, digits-none, more-none, more-some}
use Rattle.field_reader.proofs.digits.Goals as goal

pub returns-in_err-n : goal.returns-in_err-n
unfolding digits
returns-in_err-n c = c.from_residual.ensures ∙ rw (← c.in_err-n.ensures.value) (sym (digits-none c.args.more.now))

pub loop-b-init : goal.loop-b-init
unfolding digits
loop-b-init c = record { read = rw c.in_ok-n.ensures.value; small = omega (arith, room_least (length c.args.more.now - 0) (omega arith), c.in_ok-n.ensures.bound) }

pub with_digit-requires : goal.with_digit-requires
with_digit-requires c = omega (arith, room_most (length c.args.more.now - c.loop-b.b-index))

pub returns-in_err-n-2 : goal.returns-in_err-n-2
returns-in_err-n-2 c =
    let l = c.loop-b in
    c.from_residual-in_err-n-2.ensures ∙ sym (sym l.invariant.read ∙ more-none l.n l.b-index c.args.more.now (omega arith) c.in_err-n-2.ensures.value)

pub loop-b-preserved : goal.loop-b-preserved
loop-b-preserved c =
    let l = c.loop-b in
    record {
      read = sym (more-some l.n _ l.b-index c.args.more.now (omega arith) c.in_ok-n-2.ensures.value) ∙ l.invariant.read;
      small = omega (arith, room-next (length c.args.more.now) l.n l.b-index (omega arith) l.invariant.small, c.in_ok-n-2.ensures.bound);
    }
