use Rattle.std.proofs.Common.{sym, subst, ap, ◌∙◌}
use Rattle.network_laws.specs.Limits.{IsLimitCursor, lower_in, upper_in}
use Rattle.cycle_states.specs.PairPlaces.{pair_place}
use Rattle.cycle_states.proofs.machine.part.bounds_of.Goals as goal

pub bounds_at-requires-clause-cursor : goal.bounds_at-requires-clause-cursor
bounds_at-requires-clause-cursor c = subst (λ rows. IsLimitCursor rows c.args.cursor (pair_place c.args.seller c.args.buyer)) (sym c.limit_rows.ensures.rows) c.requires

pub returns-clause-lower : goal.returns-clause-lower
returns-clause-lower c = c.bounds_at.ensures.lower ∙ ap (λ rows. lower_in rows c.args.seller c.args.buyer) c.limit_rows.ensures.rows

pub returns-clause-upper : goal.returns-clause-upper
returns-clause-upper c = c.bounds_at.ensures.upper ∙ ap (λ rows. upper_in rows c.args.seller c.args.buyer) c.limit_rows.ensures.rows
