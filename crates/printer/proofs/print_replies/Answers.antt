-- `printer::print_replies` meets its contract: a reply that was written stands behind those before it.
-- Assumes nothing.
use Rattle.std.proofs.Common.{rules, arith, ◌≡◌, ◌≤◌, [], length, take, refl, sym, ◌∙◌, append-nil}
use lib.ListN.{length-append}
use Rattle.std.specs.Io.KnownBytes.{Appends}
use Rattle.std.proofs.KnownBytes.{Appends-nil}
use Rattle.columns.specs.Lines.{flat, items_from}
use Rattle.columns.proofs.Lists.{flat-more}
use Rattle.batch.specs.Output.{reply_in}
use Rattle.batch.proofs.Replies.{some-written, none-written}
use Rattle.printer.proofs.Written.{piece-more}
use Rattle.printer.proofs.print_replies.Goals as goal

pub loop-k-init : goal.loop-k-init
unfolding flat items_from
loop-k-init g c = record { memory = search rules; bytes = refl; fits = search rules; written = Appends-nil _ }

pub loop-k-preserved-in_default : goal.loop-k-preserved-in_default
loop-k-preserved-in_default g c =
    let l = c.loop-k in
    let input = c.args.input.now in
    let table = c.args.parts.table in
    let none : reply_in input table l.k 63473 ≡ [] = none-written input table l.k 63473 (rw (← l.invariant.memory) at (sym c.reply.ensures.length ∙ c.in_default.is)) in
    let same = flat-more (λ k. reply_in input table k 63473) (λ k. k) l.k in
    record { memory = search rules; bytes = rw (same, none, append-nil) l.invariant.bytes; fits = omega arith; written = rw (same, none, append-nil) l.invariant.written }

pub loop-k-preserved : goal.loop-k-preserved
loop-k-preserved g c =
    let l = c.loop-k in
    let input = c.args.input.now in
    let table = c.args.parts.table in
    let size : c.in-Some.size ≡ length (reply_in input table l.k 63473) = some-written input table l.k 63473 _ (rw (← l.invariant.memory) at (sym c.reply.ensures.length ∙ c.in-Some.is)) in
    let within : c.in-Some.size ≤ length l.out = search rules in
    let took : Appends (g.W.Write.contents l.to) (g.W.Write.contents c.write_all.new.self) (take c.in-Some.size c.reply.new.out) = search rules in
    let more = flat-more (λ k. reply_in input table k 63473) (λ k. k) l.k in
    record {
      memory = search rules;
      bytes = rw (more, length-append) (omega (arith, size, l.invariant.bytes));
      fits = omega (arith, within);
      written = rw more (piece-more _ _ _ _ (reply_in input table l.k 63473) l.out _ _ size (c.reply.ensures.bytes ∙ rw (← l.invariant.memory)) l.invariant.written took);
    }
