use Rattle.std.proofs.Common.{◌∙◌, sym}
use Rattle.record_pool.proofs.PartFacts.{turned_parted, first_parted, second_parted}
use Rattle.record_pool.proofs.parts.Parts.behind.Goals as goal

pub returns-then-turns : goal.returns-then-turns
returns-then-turns c = λ start records h. turned_parted start records c.args.record_bytes.now c.args.self h (sym c.turns.ensures ∙ c.if-turns.true)

pub returns-in-First : goal.returns-in-First
returns-in-First c = λ start records h. first_parted start records c.args.record_bytes.now c.args.self h (sym c.turns.ensures ∙ c.if-turns.false) c.in-First.is

pub returns-in-Second : goal.returns-in-Second
returns-in-Second c = λ start records h. second_parted start records c.args.record_bytes.now c.args.self h (sym c.turns.ensures ∙ c.if-turns.false) c.in-Second.is
