-- Which refusal a line's fault earns (document 02, Point 3).
-- Assumes nothing.
use Rattle.facts.specs.declared.Refusal.{Refusal}
use Rattle.facts.specs.declared.Refusal.TheVariants.{Statement, UnknownNode}
use Rattle.ntriples.specs.declared.LineFault.{LineFault}
use Rattle.ntriples.specs.declared.LineFault.TheVariants.{Outside, Unknown}

-- 13 outside the subset, 14 for a blank node
abbrev pub refusal_of : LineFault → Refusal
refusal_of Outside = Statement
refusal_of Unknown = UnknownNode
