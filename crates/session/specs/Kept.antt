-- The rows and potentials that a draft keeps, and its room for more.
use Rattle.std.specs.Prelude.{◌<◌, List}
use Rattle.indexmap.specs.IndexMap.{spare}
use Rattle.command_types.specs.Session.{DraftRow, DraftPotential}
use Rattle.session.specs.declared.draft_rows.DraftRows.{DraftRows}
use Rattle.session.specs.declared.draft_potentials.DraftPotentials.{DraftPotentials}
use Rattle.session.specs.Drafts.{rows_of, potentials_of}

-- the rows, in the order in which their pairs were first noted
abbrev pub kept_rows : DraftRows → List DraftRow
kept_rows kept = rows_of kept.rows.entries

-- the potentials, in the order in which their members were first noted
abbrev pub kept_potentials : DraftPotentials → List DraftPotential
kept_potentials kept = potentials_of kept.values.entries

-- one more row needs no memory
abbrev pub HasRowRoom : DraftRows → Type 0
HasRowRoom kept = (0 < spare kept.rows) × (0 < spare kept.sums)

-- one more potential needs no memory
abbrev pub HasPotentialRoom : DraftPotentials → Type 0
HasPotentialRoom kept = 0 < spare kept.values
