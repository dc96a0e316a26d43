-- `printer::print_replies` meets its contract. The loop's invariant: so many bytes have been printed as the replies so far have, and
-- they are those replies.
-- Assumes nothing.
use Rattle.std.proofs.Common.{◌≡◌, ◌*◌, ◌≤◌, length}
use Rattle.std.specs.Io.KnownBytes.{Appends}
use Rattle.printer.specs.Replies.{replies}
use Rattle.printer.proofs.print_replies.Given as goal

abbrev pub invariant-loop-k : goal.invariant-loop-k
invariant-loop-k g l = record {
  memory : 63473 ≡ length l.out;
  bytes : l.printed ≡ length (replies l.input l.parts.table l.k);
  fits : l.printed ≤ 63473 * l.k;
  written : Appends (g.W.Write.contents l.initial.to) (g.W.Write.contents l.to) (replies l.input l.parts.table l.k);
}
