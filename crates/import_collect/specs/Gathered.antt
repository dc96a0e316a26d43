-- What is gathered of an input, as one value.
-- Assumes nothing.
use Rattle.std.specs.Prelude.{◌≡◌, List}
use Rattle.imports.specs.Lines.{Statement}
use Rattle.imports.specs.Collecting as collecting
use Rattle.import_collect.specs.declared.Gathered.{Gathered}

-- both are of one input, in the same rows
abbrev pub SameRows : Gathered → Gathered → Type 0
SameRows g h = (h.index.now.input ≡ g.index.now.input) × (h.index.ghost_name ≡ g.index.ghost_name) × (h.index.now.items.ghost_name ≡ g.index.now.items.ghost_name) × (h.keys.ghost_name ≡ g.keys.ghost_name) × (h.keys.now.row.ghost_name ≡ g.keys.now.row.ghost_name)

-- some statements are gathered, and there is room for a fact more
abbrev pub Open : Gathered → Type 0
Open g = collecting.Open g.index.now.input.now g.index.now.items.now g.index.now.counts g.keys.now.row.now g.keys.now.len

-- these statements are gathered too
abbrev pub Grows : Gathered → List Statement → Gathered → Type 0
Grows g ss h = collecting.Grows g.index.now.input.now ss g.index.now.items.now h.index.now.items.now g.index.now.counts h.index.now.counts g.keys.now.row.now h.keys.now.row.now g.keys.now.len h.keys.now.len
