-- `case_runner::print_line` meets its contract: each number has at most five digits, and the line is the front of its memory.
-- Assumes nothing.
use Rattle.std.proofs.Common.{◌≡◌, ◌+◌, ◌*◌, ◌%◌, rules, arith, map, length, take, ap, subst}
use Rattle.std.specs.Io.KnownBytes.{Appends}
use lib.Seq.{take-append_seam}
use Rattle.columns.specs.Lines.{line}
use Rattle.columns.proofs.Lines.{line-length}
use Rattle.case_runner.proofs.Numbers.{mapped, five-digits, ok-more}
use Rattle.case_runner.proofs.print_line.Goals as goal

pub put_line-requires : goal.put_line-requires
put_line-requires g c =
    let x = c.map.ensures.items in
    let all : c.map.result ≡ map (λ n. n % 100000) c.args.numbers = mapped (λ n. n % 100000) c.args.numbers c.map.result (search rules) (λ i h. let called = (x.at i 0 0 (search rules)).2 in search rules) in
    (omega arith, rw all (five-digits c.args.numbers))

pub returns : goal.returns
returns g c =
    let x = c.map.ensures.items in
    let ns = map (λ n. n % 100000) c.args.numbers in
    let all : c.map.result ≡ ns = mapped (λ n. n % 100000) c.args.numbers c.map.result (search rules) (λ i h. let called = (x.at i 0 0 (search rules)).2 in search rules) in
    let size : 5 * g.row.FIELDS + 1 ≡ length (line ns) = omega (arith, line-length ns, ap length all) in
    let front : take (5 * g.row.FIELDS + 1) c.put_line.new.out ≡ line ns = rw (size, c.put_line.ensures, all) (take-append_seam (line ns) _) in
    ok-more c.write_all.result c.write_all.ensures.bytes (λ w. subst (Appends (g.W.Write.contents c.args.to.now) (g.W.Write.contents c.write_all.new.self)) front w)
