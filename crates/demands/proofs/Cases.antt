-- Document 01's twelve table questions, proved together by computation on the tables' bytes.
-- Assumes nothing.
use mathlib.Core.Path.{◌≡◌, refl}
use mathlib.Core.List.{map}
use Rattle.columns.specs.Fields.{column, field, number_at, has_field, is_field}
use Rattle.columns.specs.Lines.{fields, line, laid_out, flat, items_from}
use Rattle.facts.specs.Terms.{kind_of}
use Rattle.facts.specs.Facts.{named_subject, named_object, has_no_term, has_blank, misplaced, text_as_class, fault_of, before, or_else}
use Rattle.facts.specs.Gaps.{is_gap, blank_refused, question_fault, filling_of}
use Rattle.table.specs.Scans.{above, earns, first_earned, onward, scan}
use Rattle.table.specs.Tables.{line_fact, sized, meant, line_verdict, table_scan, table_of}
use Rattle.rules.specs.Graph.{keep, any, layer, least}
use Rattle.rules.specs.Paths.{link, property, chain, only_table, goes_on, next, typed, ways, fits, start_for, goal_for, reaches, fewest}
use Rattle.question.specs.Question.{filling_for, asked, answer_by, answer_of, unless, answer_from, question_answer}
use Rattle.demands.specs.Cases.{cases, answer}

-- each case gets the answer that the papers give
pub twelve : map answer cases ≡ map (λ c. c.gives) cases
unfolding column field number_at has_field is_field fields line laid_out flat items_from kind_of named_subject named_object has_no_term has_blank misplaced text_as_class fault_of
    before above earns first_earned onward scan or_else line_fact sized meant line_verdict table_scan table_of keep any layer least link
    property chain only_table goes_on next typed ways fits start_for goal_for reaches fewest is_gap blank_refused question_fault filling_of filling_for asked answer_by answer_of unless
    answer_from question_answer cases answer
twelve = refl
