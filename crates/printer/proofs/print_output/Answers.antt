-- `printer::print_output` meets its contract: it prints the refusal or the replies, of which the output is made up.
-- Assumes nothing.
use Rattle.std.proofs.Common.{sym, ◌∙◌, IfOk}
use Rattle.std.specs.Io.KnownBytes.{Appends}
use Rattle.printer.proofs.Few.{parts-few, torn-counted, torn-is, replies-counted, replies-are}
use Rattle.printer.proofs.print_output.Goals as goal

pub print_replies-requires : goal.print_replies-requires
print_replies-requires g c = parts-few c.args.input.now _ _ (sym c.layout.ensures ∙ c.in-Some.is)

pub returns-in-None : goal.returns-in-None
returns-in-None g c =
    let b = c.args.input.now in
    let e = sym c.layout.ensures ∙ c.in-None.is in
    record {
      counted = torn-counted b _ e c.print_torn.ensures.counted;
      written = torn-is b (λ x. IfOk c.print_torn.result (λ _. Appends (g.W.Write.contents c.args.to.now) (g.W.Write.contents c.print_torn.new.to) x)) e c.print_torn.ensures.written;
    }

pub returns-in-Some : goal.returns-in-Some
returns-in-Some g c =
    let b = c.args.input.now in
    let e = sym c.layout.ensures ∙ c.in-Some.is in
    record {
      counted = replies-counted b _ _ _ e c.print_replies.ensures.counted;
      written = replies-are b _ _ (λ x. IfOk c.print_replies.result (λ _. Appends (g.W.Write.contents c.args.to.now) (g.W.Write.contents c.print_replies.new.to) x)) e c.print_replies.ensures.written;
    }
