use Rattle.std.proofs.Common.{arith}
use Rattle.std.proofs.lemmas.Bool.{false≢true}
use Rattle.network_laws.specs.declared.rows.Row.{Row}
use Rattle.residual_graph.proofs.next_row.NextRow.is_of.Goals as goal

abbrev no_row : Row
no_row = record { seller = 0; buyer = 0; amount = 0 }

pub returns-then-key_of-self : goal.returns-then-key_of-self
returns-then-key_of-self c = (
  λ no. absurd (false≢true no),
  λ is. absurd (c.if-key_of-self.true (omega (arith, c.key_of.ensures.key, is.seller no_row, is.buyer no_row, c.requires.key no_row is.within))),
)
