use Rattle.std.proofs.Common.{sym, subst, ap, ◌∙◌}
use Rattle.network_laws.specs.Networks.{IsCursor, amount_in}
use Rattle.cycle_states.specs.PairPlaces.{pair_place}
use Rattle.cycle_states.proofs.machine.part.amount_now.Goals as goal

pub amount_at-requires-clause-cursor : goal.amount_at-requires-clause-cursor
amount_at-requires-clause-cursor c = subst (λ rows. IsCursor rows c.args.cursor (pair_place c.args.seller c.args.buyer)) (sym c.rows_now.ensures.rows) c.requires

pub returns : goal.returns
returns c = c.amount_at.ensures ∙ ap (λ rows. amount_in rows c.args.seller c.args.buyer) c.rows_now.ensures.rows
