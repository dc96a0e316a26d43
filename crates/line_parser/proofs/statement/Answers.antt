-- `line_parser::statement` meets its contract: token by token.
-- Assumes nothing.
use Rattle.std.proofs.Common.{rules}
use mathlib.Core.Path.{◌≡◌, refl, sym, ap, ◌∙◌}
use Rattle.ntriples.specs.Lexed.{stops, from_object, from_subject}
use Rattle.ntriples.proofs.Lexed.{none-end, some-end}
use Rattle.ntriples.proofs.Lines.{tokens-some, object-none, object-unstopped, object-unknown}
use Rattle.line_parser.proofs.statement.Goals as goal
use Rattle.line_parser.proofs.statement.Goals.{After-object_end}

begun : (c : After-object_end) → from_object c.args.s.now c.in_ok-subject.subject c.in_ok-predicate.predicate c.run_end-at-2.result ≡ from_subject c.args.s.now c.args.at
begun c =
    let a = c.in_ok-subject.ensures in
    let b = c.in_ok-predicate.ensures in
    tokens-some c.args.s.now c.args.at c.run_end-at.result c.run_end-at-2.result c.in_ok-subject.subject c.in_ok-predicate.predicate
    a.0 (sym a.1 ∙ c.subject_end.ensures) c.run_end-at.ensures.value b.0 (sym b.1 ∙ c.iri_end.ensures) c.run_end-at-2.ensures.value

pub returns-in_err-object : goal.returns-in_err-object
returns-in_err-object c =
    let s = c.args.s.now in
    let z = none-end (sym c.in_err-object.ensures.1 ∙ c.object_end.ensures) in
    let e = object-none s c.in_ok-subject.subject c.in_ok-predicate.predicate c.run_end-at-2.result 0 (sym z) refl ∙ begun (goal.at-returns-in_err-object c).After-object_end in
    search rules

pub returns-then-not-is_stop : goal.returns-then-not-is_stop
returns-then-not-is_stop c =
    let s = c.args.s.now in
    let e = c.in_ok-object.ensures in
    let o = some-end (sym e.1 ∙ c.object_end.ensures) in
    object-unstopped s c.in_ok-subject.subject c.in_ok-predicate.predicate c.run_end-at-2.result c.in_ok-object.object.to o.0 o.1
    (ap (stops s) (sym c.run_end.ensures.value) ∙ sym c.is_stop.ensures ∙ c.if-not-is_stop.true)
    ∙ begun (goal.at-returns-then-not-is_stop c).After-object_end

pub returns-then-byte_at : goal.returns-then-byte_at
returns-then-byte_at c =
    let s = c.args.s.now in
    let e = c.in_ok-object.ensures in
    let o = some-end (sym e.1 ∙ c.object_end.ensures) in
    object-unknown s c.in_ok-subject.subject c.in_ok-predicate.predicate c.run_end-at-2.result c.in_ok-object.object.to o.0 o.1
    (ap (stops s) (sym c.run_end.ensures.value) ∙ sym c.is_stop.ensures ∙ c.if-not-is_stop.false)
    (rw (← e.0, ← c.byte_at.ensures.value, ← c.byte_at-2.ensures.value) c.if-byte_at.true)
    ∙ begun (goal.at-returns-then-byte_at c).After-object_end
