-- `search::settle` meets its contract: the chosen path's places are put in printed order and printed, where the count is within the limit.
-- Assumes nothing.
use Rattle.std.proofs.Common.{ap, ◌∙◌, arith}
use Rattle.facts.specs.Gaps.{filling_of}
use Rattle.question.proofs.Places.{found-few, found-placed, print-long, print-placed, settle-long, settle-yes, settle-no}
use Rattle.search.proofs.settle.Goals as goal

pub returns-in_default : goal.returns-in_default
returns-in_default c = let both = settle-no _ _ _ _ c.in_default.is c.shortest.ensures _ _ in record { answer = both.0; output = both.1 }

pub overflow_cast-count : goal.overflow_cast-count
overflow_cast-count c = omega (arith, found-few _ _ _ _ c.in-Some.f c.in-Some.is c.shortest.ensures, c.requires.sorted.few)

pub returns-then-limit-count : goal.returns-then-limit-count
returns-then-limit-count c =
    let both = settle-long _ _ _ _ c.in-Some.f c.in-Some.is c.shortest.ensures _ _ c.if-limit-count.true in
    record { answer = both.0; output = both.1 }

pub print_order-requires : goal.print_order-requires
print_order-requires c = found-placed _ _ _ _ c.in-Some.f c.in-Some.is c.shortest.ensures

pub print-last-requires : goal.print-last-requires
print-last-requires c =
    let few = found-few _ _ _ _ c.in-Some.f c.in-Some.is c.shortest.ensures in
    let long = print-long _ _ _ _ c.in-Some.f c.in-Some.is c.shortest.ensures _ c.print_order.ensures in
    record {
      placed = print-placed _ _ _ _ c.in-Some.f c.in-Some.is c.shortest.ensures _ c.print_order.ensures;
      few = omega (arith, few, long, c.requires.sorted.few);
      formed = c.requires.formed;
      fits = omega (arith, long, c.requires.room, c.if-limit-count.false);
    }

pub returns : goal.returns
returns c =
    let p = c.print-last.ensures in
    let both = settle-yes _ _ _ _ c.in-Some.f c.in-Some.is c.shortest.ensures _ c.print_order.ensures _ _ _ _ c.if-limit-count.false
    (c.filling_of.ensures ∙ ap (filling_of c.args.t) p.conclusion) p.lines in
    record { answer = both.0; output = both.1 }
